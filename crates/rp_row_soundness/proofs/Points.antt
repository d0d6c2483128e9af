-- Questions about a point: whether it is a member, and which parcel has it.
use Rattle.std.proofs.Common.{◌≡◌, Bool, true, false, ◌&&◌, ◌||◌, List, [], ◌∷◌, refl, sym, ◌∙◌}
use Rattle.std.specs.Prelude.{Option, Some, None, option_map}
use Rattle.std.specs.List.{AllByRecursion}
use Rattle.rp_algebra.proofs.Tests.{and_first}
use Rattle.rp_geometry.specs.Geometry.{RationalPoint, is_cube_point, all_hold}
use Rattle.rp_geometry.specs.sets.Shape.{Shape, Part, IsMember, is_member, passes, shape_of_cell, shape_of_parts}
use Rattle.rp_geometry.specs.sets.Sets.{SameMembers}
use Rattle.rp_language.specs.Expression.{Expression, half_space, box, prism, everything, nothing, named, lot, intersection, union, difference, complement, Meaning, resolve_names, shape_or_nothing}
use Rattle.rp_model.specs.states.State.{Lot}
use Rattle.rp_model.specs.commands.Verdict.{Verdict}
use Rattle.rp_model.specs.commands.Parts.{shapes_of_parts, is_in_parts}
use Rattle.rp_model.specs.commands.At.{owner_line, parcel_at}
use Rattle.rp_model.specs.commands.Reply.{yes_or_no}
use Rattle.rp_model.specs.commands.Rules.{yes_where, answers}
use Rattle.rp_geometry.specs.parts.Parts.{AreOf}
use Rattle.rp_semantics.specs.FormLaws.{Agree, MeaningsAgree}
use Rattle.rp_geometry.proofs.Members.{cell_passes_as}
use Rattle.rp_geometry.proofs.SameMembers.{cube_point_is_point, same_itself, same_intersection, same_union, same_difference, same_complement, same_is_member}
use Rattle.rp_row_soundness.proofs.Questions.{yes_if}

-- ---- closed expressions

-- the shapes that a label stands for, in parts and in sets, have the same members
label_same : (P : Part → Type 0) (o : Option (List Part)) (u : Option Shape) → Agree P o u → SameMembers (shape_or_nothing (option_map shape_of_parts o)) (shape_or_nothing u)
label_same P None None h = same_itself Shape.nothing
label_same P (Some ps) (Some a) h = h.members
label_same P None (Some a) h = elim h [ ]
label_same P (Some ps) None h = elim h [ ]

-- an expression closed with the shapes of parts has the members of the one closed with the sets
pub closed_same : (P : Part → Type 0) (parts : Meaning (List Part)) (sets : Meaning Shape) → MeaningsAgree P parts sets → (e : Expression) → SameMembers (resolve_names (shapes_of_parts parts) e) (resolve_names sets e)
closed_same P parts sets agree (half_space h) = same_itself (Shape.half_space h)
closed_same P parts sets agree (box b) = same_itself (Shape.box b)
closed_same P parts sets agree (prism f) = same_itself (Shape.prism f)
closed_same P parts sets agree everything = same_itself Shape.everything
closed_same P parts sets agree nothing = same_itself Shape.nothing
closed_same P parts sets agree (named x) = label_same P (parts.of_name x) (sets.of_name x) (agree.names x)
closed_same P parts sets agree (lot x) = label_same P (parts.of_lot x) (sets.of_lot x) (agree.lots x)
closed_same P parts sets agree (intersection e f) =
    same_intersection (resolve_names (shapes_of_parts parts) e) (resolve_names (shapes_of_parts parts) f) (resolve_names sets e) (resolve_names sets f) (closed_same P parts sets agree e) (closed_same P parts sets agree f)
closed_same P parts sets agree (union e f) =
    same_union (resolve_names (shapes_of_parts parts) e) (resolve_names (shapes_of_parts parts) f) (resolve_names sets e) (resolve_names sets f) (closed_same P parts sets agree e) (closed_same P parts sets agree f)
closed_same P parts sets agree (difference e f) =
    same_difference (resolve_names (shapes_of_parts parts) e) (resolve_names (shapes_of_parts parts) f) (resolve_names sets e) (resolve_names sets f) (closed_same P parts sets agree e) (closed_same P parts sets agree f)
closed_same P parts sets agree (complement e) = same_complement (resolve_names (shapes_of_parts parts) e) (resolve_names sets e) (closed_same P parts sets agree e)

-- whether a point is a member
pub member_meets : (P : Part → Type 0) (parts : Meaning (List Part)) (sets : Meaning Shape) → MeaningsAgree P parts sets → (e : Expression) (p : RationalPoint)
    → yes_where (IsMember (resolve_names sets e) p) (yes_or_no (is_member (resolve_names (shapes_of_parts parts) e) p)).verdicts
member_meets P parts sets agree e p =
    let same = same_is_member (resolve_names (shapes_of_parts parts) e) (resolve_names sets e) (closed_same P parts sets agree e) p in
    yes_if (IsMember (resolve_names sets e) p) (is_member (resolve_names (shapes_of_parts parts) e) p)
    (λ m. (cube_point_is_point p (and_first (is_cube_point p) (passes (resolve_names (shapes_of_parts parts) e) p) m), sym same ∙ m), λ m. same ∙ m.1)

-- ---- parts that have a point

-- one of the parts has the point where it is a member of their shape
pub in_parts_is_member : (ps : List Part) (p : RationalPoint) → is_in_parts ps p ≡ is_member (shape_of_parts ps) p
in_parts_is_member [] p = sym (none (is_cube_point p))
  where
    none : (c : Bool) → (c && false) ≡ false
    none true = refl
    none false = refl
in_parts_is_member (q ∷ qs) p = more (is_cube_point p) (all_hold q.cell p) (passes (shape_of_cell q.cell) p) (is_in_parts qs p) (passes (shape_of_parts qs) p) (cell_passes_as q.cell p) (in_parts_is_member qs p)
  where
    more : (c x y m n : Bool) → x ≡ y → m ≡ (c && n) → ((c && x) || m) ≡ (c && (y || n))
    more true x y m n e f = λ i. e i || f i
    more false x y m n e f = f

-- one of the parts has the point where it is a member of their set
pub in_parts_same : (P : Part → Type 0) (a : Shape) (ps : List Part) → AreOf P a ps → (p : RationalPoint) → is_in_parts ps p ≡ is_member a p
in_parts_same P a ps h p = in_parts_is_member ps p ∙ same_is_member (shape_of_parts ps) a h.members p

-- the first lot that has the point
pub owner_meets : (P : Part → Type 0) (ls : List (Lot Shape)) → AllByRecursion (λ l. AreOf P l.set l.parts) ls → (p : RationalPoint) → parcel_at ls p (owner_line ls p ∷ [])
owner_meets P [] h p = refl
owner_meets P (l ∷ ls) h p = by_test (is_in_parts l.parts p) (is_member l.set p) (in_parts_same P l.set l.parts h.0 p) (owner_meets P ls h.1 p)
  where
    by_test : (b c : Bool) → b ≡ c → parcel_at ls p (owner_line ls p ∷ [])
        → (elim c as (λ _. (List Verdict → Type 0)) [ true ↦ answers (Verdict.parcel l.id ∷ []) | false ↦ parcel_at ls p ]) ((elim b as (λ _. Verdict) [ true ↦ Verdict.parcel l.id | false ↦ owner_line ls p ]) ∷ [])
    by_test true true e h = refl
    by_test false false e h = h
    by_test true false e h = absurd (cc)
    by_test false true e h = absurd (cc)
