-- One piece by colours: the parts with some numbers are together in one piece exactly where, however the numbers are coloured in two colours, parts of both colours are in contact.
use Rattle.std.proofs.Common.{◌≡◌, ℕ, Bool, true, false, not, ⊎_elim, List, Option, Some, None, refl, ap, subst, sym, ◌∙◌}
use Rattle.std.proofs.lemmas.Bool.{not-true}
use Rattle.std.specs.List.{AllByRecursion, filter}
use Rattle.rp_algebra.proofs.Listed.{Listed}
use Rattle.rp_algebra.proofs.Tests.{false_not_true}
use Rattle.rp_geometry.specs.Geometry.{RationalPoint, HalfSpace}
use Rattle.rp_geometry.specs.sets.Shape.{Shape, union, IsMember, Part, shape_of_cell, shape_of_cells}
use Rattle.rp_geometry.specs.sets.Sets.{IsNonempty, IsWithin, SameMembers}
use Rattle.rp_geometry.specs.sets.Contact.{IsInContact, IsBoundedRegion}
use Rattle.rp_geometry.specs.sets.Pieces.{IsOnePiece, numbered_parts, shape_of_numbers}
use Rattle.rp_geometry.specs.laws.PieceLaws.{IsNonemptyPart, part_numbered}
use Rattle.rp_algebra.proofs.Filter.{kept, keeps}
use Rattle.rp_geometry.proofs.Members.{union_cases, union_left, union_right}
use Rattle.rp_parts.proofs.Found.{cells_of, parts_as_cells}
use Rattle.rp_parts.proofs.PieceRegions.{cells_bounded, in_some_part, part_within}
use Rattle.rp_parts.proofs.Convex.{HasCommon, has_common, common_is, common_found, IsCovered, near_two, covered_shows}
use Rattle.rp_parts.proofs.Numbered.{part_at, number_of, numbered_listed, at_number, at_numbers, near_part, near_some_number}

-- each number of the list has a part
abbrev pub AreNumbers : List Part → List ℕ → Type 0
AreNumbers parts ks = (k : ℕ) → Listed k ks → (p : Part) × (part_at parts k ≡ Some p)

-- a number of the first colour and one of the second whose parts are in contact
pub record Bridge (parts : List Part) (ks : List ℕ) (colour : ℕ → Bool) : Type 0 where
  pub from : ℕ
  pub to : ℕ
  pub from_listed : Listed from ks
  pub to_listed : Listed to ks
  pub from_is : colour from ≡ true
  pub to_is : colour to ≡ false
  pub touch : IsInContact (part_numbered parts from) (part_numbered parts to)

-- whatever the colours are, where there are numbers of both there are two in contact
abbrev pub AreBridged : List Part → List ℕ → Type 0
AreBridged parts ks = (colour : ℕ → Bool) (i j : ℕ) → Listed i ks → Listed j ks → colour i ≡ true → colour j ≡ false → Bridge parts ks colour

-- ---- from bridges to one piece

-- the colour of a part: whether it has a member of the first region
abbrev colour_of : List (List HalfSpace) → Option Part → Bool
colour_of f None = false
colour_of f (Some p) = has_common f p.cell

-- a number of a list whose part has the member
record Holder (parts : List Part) (ks : List ℕ) (q : RationalPoint) : Type 0 where
  part : Part
  number : ℕ
  listed : Listed number ks
  is : part_at parts number ≡ Some part
  member : IsMember (shape_of_cell part.cell) q

-- a member of the shape of the numbers of a list is one of the part of some number
holder : (parts : List Part) (ks : List ℕ) (q : RationalPoint) → IsMember (shape_of_numbers parts ks) q → Holder parts ks q
holder parts ks q m =
    let r = in_some_part (numbered_parts parts ks) q m in
    let i = number_of parts ks r.part r.listed in
    record { part = r.part; number = i.number; listed = i.listed; is = i.is; member = r.member }

-- two regions that make up the parts with the numbers of a list
module _ (parts : List Part) (h : AllByRecursion IsNonemptyPart parts) (ks : List ℕ)
    (f g : List (List HalfSpace)) (kf : IsBoundedRegion f) (kg : IsBoundedRegion g) (same : SameMembers (union (shape_of_cells f) (shape_of_cells g)) (shape_of_numbers parts ks)) where
  -- the colour of a number: whether its part has a member of the first region
  colour : ℕ → Bool
  colour k = colour_of f (part_at parts k)

  -- the part of a number has half-spaces within their bounds, and all its members are in one of the regions
  covered : (k : ℕ) (p : Part) → Listed k ks → part_at parts k ≡ Some p → IsCovered f g kf kg p.cell
  covered k p l e = record {
    half_spaces = (at_number IsNonemptyPart parts h k p e).half_spaces;
    within = λ q m. same.1 q (part_within (numbered_parts parts ks) p (numbered_listed parts ks k p l e) q m);
  }

  -- a number of the first colour has a part with a member of the first region
  common_first : (k : ℕ) (p : Part) → part_at parts k ≡ Some p → colour k ≡ true → HasCommon p.cell f
  unfolding colour
  common_first k p e c = common_is f kf p.cell (at_number IsNonemptyPart parts h k p e).half_spaces (sym (ap (colour_of f) e) ∙ c)

  -- a number of the second colour has a part with a member of the second region
  common_second : (k : ℕ) (p : Part) → Listed k ks → part_at parts k ≡ Some p → colour k ≡ false → HasCommon p.cell g
  unfolding colour
  common_second k p l e c =
      let n = at_number IsNonemptyPart parts h k p e in
      let (q, m) = n.nonempty in
      ⊎_elim
      (λ a. absurd (false_not_true (colour_of f (part_at parts k)) (ap (colour_of f) e ∙ common_found f kf p.cell n.half_spaces (record { point = q; in_cell = m; in_region = a })) c))
      (λ b. record { point = q; in_cell = m; in_region = b })
      (union_cases (shape_of_cells f) (shape_of_cells g) q ((covered k p l e).within q m))

  -- a bridge shows that the regions are in contact
  bridge_shows : AreNumbers parts ks → Bridge parts ks colour → IsInContact (shape_of_cells f) (shape_of_cells g)
  bridge_shows numbers b =
      let (p, e) = numbers b.from b.from_listed in
      let (q, d) = numbers b.to b.to_listed in
      let (m, np, nq) = b.touch in
      near_two f g kf kg p.cell q.cell (covered b.from p b.from_listed e) (covered b.to q b.to_listed d)
      (covered_shows f g kf kg p.cell (covered b.from p b.from_listed e)) (covered_shows f g kf kg q.cell (covered b.to q b.to_listed d))
      (common_first b.from p e b.from_is) (common_second b.to q b.to_listed d b.to_is)
      (m, near_part parts h b.from p e m np, near_part parts h b.to q d m nq)

  -- so two regions that have members are in contact, where bridges join any two colours
  regions_touch : AreNumbers parts ks → AreBridged parts ks → IsNonempty (shape_of_cells f) → IsNonempty (shape_of_cells g) → IsInContact (shape_of_cells f) (shape_of_cells g)
  unfolding colour
  regions_touch numbers bridged (a, ma) (b, mb) = by_colour (colour j.number) refl
    where
      i : Holder parts ks a
      i = holder parts ks a (same.0 a (union_left (shape_of_cells f) (shape_of_cells g) a ma))

      j : Holder parts ks b
      j = holder parts ks b (same.0 b (union_right (shape_of_cells f) (shape_of_cells g) b mb))

      i_is : colour i.number ≡ true
      i_is = ap (colour_of f) i.is ∙ common_found f kf i.part.cell (at_number IsNonemptyPart parts h i.number i.part i.is).half_spaces (record { point = a; in_cell = i.member; in_region = ma })

      by_colour : (c : Bool) → colour j.number ≡ c → IsInContact (shape_of_cells f) (shape_of_cells g)
      by_colour true e = covered_shows f g kf kg j.part.cell (covered j.number j.part j.listed j.is) (common_first j.number j.part j.is e) (record { point = b; in_cell = j.member; in_region = mb })
      by_colour false e = bridge_shows numbers (bridged colour i.number j.number i.listed j.listed i_is e)

-- parts of which bridges join any two colours are in one piece
pub bridged_is_one_piece : (parts : List Part) → AllByRecursion IsNonemptyPart parts → (ks : List ℕ) → AreNumbers parts ks → AreBridged parts ks → IsOnePiece (shape_of_numbers parts ks)
bridged_is_one_piece parts h ks numbers bridged f g kf kg a b same = regions_touch parts h ks f g kf kg same numbers bridged a b

-- ---- from one piece to bridges

-- the cells of the parts with the numbers of a list
abbrev cells_numbered : List Part → List ℕ → List (List HalfSpace)
cells_numbered parts ks = cells_of (numbered_parts parts ks)

-- as a shape they are that of the numbers
numbers_are_cells : (parts : List Part) (ks : List ℕ) → shape_of_numbers parts ks ≡ shape_of_cells (cells_numbered parts ks)
numbers_are_cells parts ks = parts_as_cells (numbered_parts parts ks)

-- a shape of which one number stands in the list has a member
numbers_nonempty : (parts : List Part) → AllByRecursion IsNonemptyPart parts → (ks : List ℕ) → AreNumbers parts ks → (k : ℕ) → Listed k ks → IsNonempty (shape_of_numbers parts ks)
numbers_nonempty parts h ks numbers k l =
    let (p, e) = numbers k l in
    let (q, m) = (at_number IsNonemptyPart parts h k p e).nonempty in
    (q, part_within (numbered_parts parts ks) p (numbered_listed parts ks k p l e) q m)

-- the shape of fewer numbers is within that of more
numbers_within : (parts : List Part) (js ks : List ℕ) → ((k : ℕ) → Listed k js → Listed k ks) → IsWithin (shape_of_numbers parts js) (shape_of_numbers parts ks)
numbers_within parts js ks more q m = let i = holder parts js q m in part_within (numbered_parts parts ks) i.part (numbered_listed parts ks i.number i.part (more i.number i.listed) i.is) q i.member

-- parts in one piece have bridges that join any two colours
pub one_piece_is_bridged : (parts : List Part) → AllByRecursion IsNonemptyPart parts → (ks : List ℕ) → AreNumbers parts ks → IsOnePiece (shape_of_numbers parts ks) → AreBridged parts ks
one_piece_is_bridged parts h ks numbers one paint i j li lj ei ej = bridge
  where
    other : ℕ → Bool
    other k = not (paint k)

    fs : List ℕ
    fs = filter paint ks

    gs : List ℕ
    gs = filter other ks

    f_numbers : AreNumbers parts fs
    f_numbers k l = numbers k (kept paint ks k l).listed

    g_numbers : AreNumbers parts gs
    g_numbers k l = numbers k (kept other ks k l).listed

    both : IsWithin (shape_of_numbers parts ks) (union (shape_of_numbers parts fs) (shape_of_numbers parts gs))
    both q m = by_colour (paint held.number) refl
      where
        held : Holder parts ks q
        held = holder parts ks q m

        by_colour : (c : Bool) → paint held.number ≡ c → IsMember (union (shape_of_numbers parts fs) (shape_of_numbers parts gs)) q
        by_colour true e = union_left (shape_of_numbers parts fs) (shape_of_numbers parts gs) q (part_within (numbered_parts parts fs) held.part (numbered_listed parts fs held.number held.part (keeps paint ks held.number held.listed e) held.is) q held.member)
        by_colour false e = union_right (shape_of_numbers parts fs) (shape_of_numbers parts gs) q (part_within (numbered_parts parts gs) held.part (numbered_listed parts gs held.number held.part (keeps other ks held.number held.listed (ap not e)) held.is) q held.member)

    same : SameMembers (union (shape_of_numbers parts fs) (shape_of_numbers parts gs)) (shape_of_numbers parts ks)
    same = (
      λ q m. ⊎_elim
          (numbers_within parts fs ks (λ k l. (kept paint ks k l).listed) q)
          (numbers_within parts gs ks (λ k l. (kept other ks k l).listed) q)
          (union_cases (shape_of_numbers parts fs) (shape_of_numbers parts gs) q m),
      both,
    )

    touch : IsInContact (shape_of_numbers parts fs) (shape_of_numbers parts gs)
    touch = subst (λ s. Touch s (shape_of_numbers parts gs)) (sym (numbers_are_cells parts fs)) (subst (λ t. Touch (shape_of_cells (cells_numbered parts fs)) t) (sym (numbers_are_cells parts gs))
        (one (cells_numbered parts fs) (cells_numbered parts gs) (cells_bounded (numbered_parts parts fs) (at_numbers IsNonemptyPart parts h fs)) (cells_bounded (numbered_parts parts gs) (at_numbers IsNonemptyPart parts h gs))))
        (numbers_nonempty parts h fs f_numbers i (keeps paint ks i li ei)) (numbers_nonempty parts h gs g_numbers j (keeps other ks j lj (ap not ej))) same
      where
        Touch : Shape → Shape → Type 0
        Touch s t = IsNonempty s → IsNonempty t → SameMembers (union s t) (shape_of_numbers parts ks) → IsInContact s t

    bridge : Bridge parts ks paint
    bridge =
        let (m, nf, ng) = touch in
        let a = near_some_number parts h fs m nf in
        let b = near_some_number parts h gs m ng in
        let ka = kept paint ks a.number a.listed in
        let kb = kept other ks b.number b.listed in
        record { from = a.number; to = b.number; from_listed = ka.listed; to_listed = kb.listed; from_is = ka.passes; to_is = not-true (paint b.number) kb.passes; touch = (m, a.near, b.near) }
