-- The points of the lots that end, and of those in their place.
use Rattle.std.proofs.Common.{◌≡◌, Bool, true, false, not, ⊎_elim, List, [], ◌∷◌, map, filter, Option, None, unwrap_or, refl, sym, ap, subst, cond, Some}
use Rattle.std.specs.Prelude.{IsTrue}
use Rattle.std.specs.List.{AllByRecursion}
use Rattle.std.proofs.lemmas.Bool.{or_left, or_right, or_cases}
use Rattle.rp_algebra.proofs.Listed.{Listed, first, later, all_of}
use Rattle.rp_language.specs.Name.{Label, label_eq, is_among}
use Rattle.rp_geometry.specs.sets.Shape.{Shape, IsMember}
use Rattle.rp_geometry.specs.sets.Sets.{IsNonempty, IsWithin, SameMembers}
use Rattle.rp_model.specs.states.State.{Lot, State, live_lots, ids_of, set_of_lot, live_lot, lot_with_id}
use Rattle.rp_language.specs.Expression.{Child}
use Rattle.rp_model.specs.states.Sound.{are_distinct, IsSound}
use Rattle.rp_model.specs.commands.Checks.{check_subdivide, child_ids}
use Rattle.rp_model.specs.commands.Verdict.{gap}
use Rattle.rp_model.specs.commands.Rules.{accepts, refused_where}
use Rattle.rp_model.specs.commands.Sets.{set_with_id, union_of}
use Rattle.rp_model.specs.commands.Subdivide.{child_sets, refused_at_outside, refused_at_pair, rule_subdivide}
use Rattle.rp_states.proofs.Labels.{label_itself, label_is}
use Rattle.rp_geometry.proofs.Members.{not_in_nothing, intersection_first, in_intersection, difference_first, in_difference, member_or_not, union_cases, union_left, union_right}
use Rattle.rp_states.proofs.UnionsOf.{union_first, union_of_cases, union_later}
use Rattle.rp_states.proofs.Accepted.{ok, names_ok, where_ok, empty_ok, outside_ok, pair_ok}
use Rattle.rp_states.proofs.Looked.{live_is_id, IsCovered, found_cases}
use Rattle.rp_algebra.proofs.Tests.{and_first, and_second, and_true, false_unless}
use Rattle.rp_algebra.proofs.Options.{none_not_some}
use Rattle.rp_geometry.specs.Geometry.{RationalPoint}
use Rattle.rp_states.proofs.Lineage.{each_found}

-- ---- ids of live lots

-- one id more, kept or not
distinct_one : (l : Lot Shape) (xs ys : List (Lot Shape)) (b : Bool) → (is_among l.id (ids_of xs) ≡ true → is_among l.id (ids_of ys) ≡ true) → IsTrue (are_distinct (ids_of (l ∷ ys))) → IsTrue (are_distinct (ids_of xs)) → IsTrue (are_distinct (ids_of (cond b (l ∷ xs) xs)))
distinct_one l xs ys true inside d e = and_true (not (is_among l.id (ids_of xs))) (are_distinct (ids_of xs)) (ap not (false_unless _ (λ f. not_true (is_among l.id (ids_of ys)) (and_first _ _ d) (inside f)))) e
  where
    not_true : (c : Bool) → not c ≡ true → c ≡ true → ⊥
    not_true true n f = absurd (cc)
    not_true false n f = absurd (cc)
distinct_one l xs ys false inside d e = e

-- the ids of live lots are distinct
pub live_distinct : (ls : List (Lot Shape)) → IsTrue (are_distinct (ids_of ls)) → IsTrue (are_distinct (ids_of (live_lots ls)))
live_distinct [] d = refl
live_distinct (l ∷ ls) d = distinct_one l (live_lots ls) ls _ (live_is_id l.id ls) d (live_distinct ls (and_second (not (is_among l.id (ids_of ls))) _ d))

-- ---- the lots that end

-- the sets of the lots of a list whose ids are among some
abbrev pub sets_among : List Label → List (Lot Shape) → List Shape
sets_among ids ls = map (λ l. l.set) (filter (λ l. is_among l.id ids) ls)

-- a member of their union is one of a lot of the list
among_cases : (ids : List Label) (ls : List (Lot Shape)) (p : RationalPoint) → IsMember (union_of (sets_among ids ls)) p → (l : Lot Shape) × Listed l ls × (is_among l.id ids ≡ true) × IsMember l.set p
among_cases ids [] p m = absurd (not_in_nothing p m)
among_cases ids (l ∷ ls) p m = by (is_among l.id ids) refl m (among_cases ids ls p)
  where
    by : (b : Bool) → is_among l.id ids ≡ b → IsMember (union_of (map (λ l. l.set) (cond b (l ∷ filter (λ l. is_among l.id ids) ls) (filter (λ l. is_among l.id ids) ls)))) p →
        (IsMember (union_of (sets_among ids ls)) p → (k : Lot Shape) × Listed k ls × (is_among k.id ids ≡ true) × IsMember k.set p) → (k : Lot Shape) × Listed k (l ∷ ls) × (is_among k.id ids ≡ true) × IsMember k.set p
    by true e n rest = ⊎_elim (λ k. (l, first, e, k)) (λ k. let r = rest k in (r.0, later r.1, r.2, r.3)) (union_of_cases l.set (sets_among ids ls) p n)
    by false e n rest = let r = rest n in (r.0, later r.1, r.2, r.3)

-- a member of a lot of the list whose id is among them is one of their union
in_among : (ids : List Label) (ls : List (Lot Shape)) (p : RationalPoint) (y : Label) (l : Lot Shape) → lot_with_id y ls ≡ Some l → is_among y ids ≡ true → IsMember l.set p → IsMember (union_of (sets_among ids ls)) p
in_among ids [] p y l e inside m = absurd (none_not_some l e)
in_among ids (k ∷ ls) p y l e inside m =
    ⊎_elim
    (λ h. by_first (is_among k.id ids) (subst (λ (z : Label). is_among z ids ≡ true) h.0 inside) (subst (λ (j : Lot Shape). IsMember j.set p) (sym h.1) m))
    (λ h. by_later (is_among k.id ids) (in_among ids ls p y l h.1 inside m))
    (found_cases y k ls l e)
  where
    by_first : (b : Bool) → b ≡ true → IsMember k.set p → IsMember (union_of (map (λ l. l.set) (cond b (k ∷ filter (λ l. is_among l.id ids) ls) (filter (λ l. is_among l.id ids) ls)))) p
    by_first true e n = union_first k.set (sets_among ids ls) p n
    by_first false e n = absurd (cc)

    by_later : (b : Bool) → IsMember (union_of (sets_among ids ls)) p → IsMember (union_of (map (λ l. l.set) (cond b (k ∷ filter (λ l. is_among l.id ids) ls) (filter (λ l. is_among l.id ids) ls)))) p
    by_later true n = union_later k.set (sets_among ids ls) p n
    by_later false n = n

-- the members of the lots that end
abbrev pub ended_sets : State → List Label → List Shape
ended_sets s ids = sets_among ids (live_lots s.lots)

-- a member of the lots that end is one of the lot of one of the ids
ended_cases : (s : State) → IsSound s → (ids : List Label) → IsCovered s ids (union_of (ended_sets s ids))
ended_cases s sound ids p m =
    let r = among_cases ids (live_lots s.lots) p m in
    let found = all_of (λ (k : Lot Shape). lot_with_id k.id (live_lots s.lots) ≡ Some k) (live_lots s.lots) (each_found (live_lots s.lots) (live_distinct s.lots sound.ids_distinct)) r.0 r.1 in
    (r.0.id, r.2, subst (λ (o : Option (Lot Shape)). IsMember (unwrap_or (set_of_lot o) Shape.nothing) p) (sym found) r.3)

-- a member of the lot of one of the ids is one of the lots that end
in_ended : (s : State) (ids : List Label) (p : RationalPoint) (y : Label) → is_among y ids ≡ true → IsMember (set_with_id s y) p → IsMember (union_of (ended_sets s ids)) p
in_ended s ids p y inside = by (live_lot y s.lots) refl
  where
    by : (o : Option (Lot Shape)) → live_lot y s.lots ≡ o → IsMember (unwrap_or (set_of_lot o) Shape.nothing) p → IsMember (union_of (ended_sets s ids)) p
    by None e m = absurd (not_in_nothing p m)
    by (Some l) e m = in_among ids (live_lots s.lots) p y l e inside m

-- where one lot ends
pub ended_one : (s : State) → IsSound s → (x : Label) → SameMembers (union_of (ended_sets s (x ∷ []))) (set_with_id s x)
ended_one s sound x = (
  (λ p m. let r = ended_cases s sound (x ∷ []) p m in subst (λ (y : Label). IsMember (set_with_id s y) p) (only r.0 r.1) r.2),
  (λ p m. in_ended s (x ∷ []) p x (or_left (label_eq x x) false (label_itself x)) m),
)
  where
    only : (y : Label) → is_among y (x ∷ []) ≡ true → y ≡ x
    only y e = label_is y x (⊎_elim (λ f. f) (λ f. absurd (let g : false ≡ true = f in cc)) (or_cases (label_eq y x) false e))

module _ (s : State) where
  -- members of the union of lots are members of one of them
  pub union_covered : (ids : List Label) → IsCovered s ids (union_of (map (λ y. set_with_id s y) ids))
  union_covered [] p m = absurd (not_in_nothing p m)
  union_covered (y ∷ ids) p m =
      ⊎_elim
      (λ k. (y, or_left (label_eq y y) (is_among y ids) (label_itself y), k))
      (λ k. let c = union_covered ids p k in (c.0, or_right (label_eq c.0 y) (is_among c.0 ids) c.1, c.2))
      (union_of_cases (set_with_id s y) (map (λ z. set_with_id s z) ids) p m)

-- ---- cut, subdivide, consolidate

-- the two sides of a cut
pub cut_points : (a b : Shape) → SameMembers a (union_of (Shape.intersection a b ∷ Shape.difference a b ∷ []))
cut_points a b = (
  (λ p m. ⊎_elim (λ k. union_left (Shape.intersection a b) (Shape.difference a b) p (in_intersection a b p m k)) (λ n. union_right (Shape.intersection a b) (Shape.difference a b) p (in_difference a b p m n)) (member_or_not b p m.0)),
  (λ p m. ⊎_elim (intersection_first a b p) (difference_first a b p) (union_cases (Shape.intersection a b) (Shape.difference a b) p m)),
)

-- members of sets within another
all_within : (whole : Shape) (sets : List Shape) → AllByRecursion (λ a. IsWithin a whole) sets → IsWithin (union_of sets) whole
all_within whole [] h p m = absurd (not_in_nothing p m)
all_within whole (a ∷ sets) h p m = ⊎_elim (h.0 p) (all_within whole sets h.1 p) (union_of_cases a sets p m)

-- the children of a subdivision
pub subdivide_points : (s : State) (x : Label) (cs : List Child) → rule_subdivide s x cs ok → SameMembers (set_with_id s x) (union_of (child_sets s cs))
subdivide_points s x cs h =
    let whole = set_with_id s x in
    let named = names_ok (check_subdivide s x (child_ids cs)) _ h in
    let covering = refused_where (IsNonempty (Shape.difference whole (union_of (child_sets s cs)))) gap accepts in
    let some = empty_ok 1 (child_sets s cs) (refused_at_outside whole 1 (child_sets s cs) (refused_at_pair 1 (child_sets s cs) covering)) named.1 in
    let inside = outside_ok whole 1 (child_sets s cs) (refused_at_pair 1 (child_sets s cs) covering) some.1 in
    let apart = pair_ok 1 (child_sets s cs) covering inside.1 in
    let covered = where_ok (IsNonempty (Shape.difference whole (union_of (child_sets s cs)))) gap accepts apart.1 in (
      (λ p m. ⊎_elim (λ k. k) (λ n. absurd (covered.0 (p, in_difference whole (union_of (child_sets s cs)) p m n))) (member_or_not (union_of (child_sets s cs)) p m.0)),
      all_within whole (child_sets s cs) inside.0,
    )

-- a member of one of several sets is one of their union
in_union : (s : State) (ids : List Label) (p : RationalPoint) (y : Label) → is_among y ids ≡ true → IsMember (set_with_id s y) p → IsMember (union_of (map (λ z. set_with_id s z) ids)) p
in_union s [] p y e m = absurd (cc)
in_union s (z ∷ ids) p y e m =
    ⊎_elim
    (λ f. union_first (set_with_id s z) (map (λ v. set_with_id s v) ids) p (subst (λ (v : Label). IsMember (set_with_id s v) p) (label_is y z f) m))
    (λ f. union_later (set_with_id s z) (map (λ v. set_with_id s v) ids) p (in_union s ids p y f m))
    (or_cases (label_eq y z) (is_among y ids) e)

-- the lots of a consolidation
pub consolidate_points : (s : State) → IsSound s → (ids : List Label) → SameMembers (union_of (ended_sets s ids)) (union_of (map (λ y. set_with_id s y) ids))
consolidate_points s sound ids = (
  (λ p m. let r = ended_cases s sound ids p m in in_union s ids p r.0 r.1 r.2),
  (λ p m. let r = union_covered s ids p m in in_ended s ids p r.0 r.1 r.2),
)
