-- A convex cell whose members are all in one of two regions, and which has members of both: the two regions are in contact.
-- The planes of the first region cut the cell in two, one after the other. Where no plane is left, all members of the cell are in the first region or none is.
use Rattle.std.proofs.Common.{◌≡◌, ℤ, pos, neg_ℤ, ◌+ℤ◌, ◌*ℤ◌, ◌≤ℤ◌, ◌<ℤ◌, Bool, true, false, ◌&&◌, ◌||◌, not, ◌⊎◌, inl, inr, ⊎_elim, List, [], ◌∷◌, ◌++◌, refl, ap, subst, sym, ◌∙◌, arith}
use Rattle.std.proofs.lemmas.Int.{ints}
use Rattle.std.specs.List.{flat_map, list_any}
use Rattle.std.specs.Prelude.{is_some}
use Rattle.rp_algebra.proofs.IntLaws.{signs, le_or_lt_ℤ}
use Rattle.rp_algebra.proofs.Numbers.{neg_zero, nonneg_of_zero, zero_between, neg_nonneg, opposite_multiples}
use Rattle.rp_algebra.proofs.Listed.{Listed, first, later, all_of, all_append, listed_left, listed_right}
use Rattle.rp_algebra.proofs.Tests.{and_first, and_second, and_true, false_not_true}
use Rattle.rp_geometry.specs.Geometry.{RationalPoint, HalfSpace, IsPoint, IsHalfSpace, side_value, holds, complement, with_cube}
use Rattle.rp_geometry.specs.sets.Shape.{union, IsMember, passes, shape_of_cell, shape_of_cells}
use Rattle.rp_geometry.specs.sets.Sets.{IsWithin}
use Rattle.rp_geometry.specs.sets.Contact.{IsInContact, IsBoundedRegion}
use Rattle.rp_geometry.specs.laws.CellLaws.{AreHalfSpaces}
use Rattle.rp_geometry.proofs.Complement.{side_of_complement, complement_holds_the_others_spec, complement_is_half_space}
use Rattle.rp_geometry.specs.searches.Vertex.{first_inside}
use Rattle.rp_algebra.proofs.Filter.{some_passes, passes_some}
use Rattle.rp_convex.proofs.Move.{IsWeak}
use Rattle.rp_convex.proofs.Held.{member_is_weak}
use Rattle.rp_parts.proofs.NearRegion.{cell_within}
use Rattle.rp_geometry.proofs.Members.{member_passes, union_cases, near_larger, also_member}
use Rattle.rp_geometry.proofs.Points.{mixed, side_mixed}
use Rattle.rp_parts.proofs.NearMembers.{member_is_near}
use Rattle.rp_parts.proofs.Pairs.{overlap_is_found_spec, near_of_weak}
use Rattle.rp_parts.proofs.PieceRegions.{in_some_cell}

-- ---- where a segment crosses a plane

-- a number whose negative is at least 0 is at most 0
nonpos_of_neg : (v : ℤ) → pos 0 ≤ℤ neg_ℤ v → v ≤ℤ pos 0
nonpos_of_neg v h = omega (arith, ints)

-- a point of the weak systems of both halves of a cell, on the plane that cuts it
record Crossing (h : HalfSpace) (c : List HalfSpace) : Type 0 where
  to : RationalPoint
  in_first : IsWeak (with_cube (h ∷ c)) to
  in_second : IsWeak (with_cube (complement h ∷ c)) to

-- a point of the weak system on the plane is such a point
on_plane : (h : HalfSpace) (c : List HalfSpace) (p : RationalPoint) → IsWeak (with_cube c) p → side_value h p ≡ pos 0 → Crossing h c
on_plane h c p w e = record {
  to = p;
  in_first = record { point = w.point; sides = in_first };
  in_second = record { point = w.point; sides = in_second };
}
  where
    in_first : (g : HalfSpace) → Listed g (with_cube (h ∷ c)) → pos 0 ≤ℤ side_value g p
    in_first g first = nonneg_of_zero (side_value h p) e
    in_first g (later l) = w.sides g l

    in_second : (g : HalfSpace) → Listed g (with_cube (complement h ∷ c)) → pos 0 ≤ℤ side_value g p
    in_second g first = nonneg_of_zero (side_value (complement h) p) (side_of_complement h p ∙ neg_zero (side_value h p) e)
    in_second g (later l) = w.sides g l

-- sums with weights of which the second is above 0
sum_positive : (v u s t : ℤ) → pos 0 ≤ℤ v → pos 0 <ℤ u → pos 0 <ℤ s → pos 0 <ℤ t → pos 0 <ℤ (v *ℤ s +ℤ u *ℤ t)
sum_positive v u s t hv hu hs ht = search signs

-- the same of numbers that are not negative
sum_nonnegative : (v u s t : ℤ) → pos 0 ≤ℤ v → pos 0 <ℤ u → pos 0 ≤ℤ s → pos 0 ≤ℤ t → pos 0 ≤ℤ (v *ℤ s +ℤ u *ℤ t)
sum_nonnegative v u s t hv hu hs ht = search signs

-- a segment that begins on one side of a plane and ends on the other crosses it
crossing : (h : HalfSpace) (c : List HalfSpace) (p q : RationalPoint) → IsWeak (with_cube c) p → IsWeak (with_cube c) q → pos 0 ≤ℤ side_value h p → side_value h q ≤ℤ pos 0 → Crossing h c
crossing h c p q wp wq above below =
    ⊎_elim
    (λ (e : side_value h p ≤ℤ pos 0). on_plane h c p wp (zero_between (side_value h p) e above))
    (λ (e : pos 0 <ℤ side_value h p). on_plane h c m (weak e) (side_mixed h v u p q ∙ opposite_multiples u (side_value h q)))
    (le_or_lt_ℤ (side_value h p) (pos 0))
  where
    u : ℤ
    u = side_value h p

    v : ℤ
    v = neg_ℤ (side_value h q)

    m : RationalPoint
    m = mixed v u p q

    weak : pos 0 <ℤ u → IsWeak (with_cube c) m
    weak e = record {
      point = sum_positive v u p.w q.w (neg_nonneg (side_value h q) below) e wp.point wq.point;
      sides = λ g l. subst (λ (t : ℤ). pos 0 ≤ℤ t) (sym (side_mixed g v u p q)) (sum_nonnegative v u (side_value g p) (side_value g q) (neg_nonneg (side_value h q) below) e (wp.sides g l) (wq.sides g l));
    }

-- ---- common members of a cell and a region

-- a point that is a member of a cell and of a region
pub record HasCommon (c : List HalfSpace) (cells : List (List HalfSpace)) : Type 0 where
  pub point : RationalPoint
  pub in_cell : IsMember (shape_of_cell c) point
  pub in_region : IsMember (shape_of_cells cells) point

-- whether the search finds a common member of the cell and one of the cells
abbrev pub has_common : List (List HalfSpace) → List HalfSpace → Bool
has_common cells c = list_any (λ e. is_some (first_inside (c ++ e))) cells

-- where it does, there is one
pub common_is : (cells : List (List HalfSpace)) → IsBoundedRegion cells → (c : List HalfSpace) → AreHalfSpaces c → has_common cells c ≡ true → HasCommon c cells
common_is cells kc c k e =
    let s = some_passes (λ e. is_some (first_inside (c ++ e))) cells e in
    let (p, m, n) = (overlap_is_found_spec c s.item k (all_of AreHalfSpaces cells kc s.item s.listed)).1 s.passes in
    record { point = p; in_cell = m; in_region = cell_within cells s.item s.listed p n }

-- where there is one, it does
pub common_found : (cells : List (List HalfSpace)) → IsBoundedRegion cells → (c : List HalfSpace) → AreHalfSpaces c → HasCommon c cells → has_common cells c ≡ true
common_found cells kc c k h =
    let r = in_some_cell cells h.point h.in_region in
    passes_some (λ e. is_some (first_inside (c ++ e))) cells r.cell r.listed
    ((overlap_is_found_spec c r.cell k (all_of AreHalfSpaces cells kc r.cell r.listed)).0 (h.point, h.in_cell, r.member))

-- there is one, or there is none
pub common_or_not : (cells : List (List HalfSpace)) → IsBoundedRegion cells → (c : List HalfSpace) → AreHalfSpaces c → HasCommon c cells ⊎ (HasCommon c cells → ⊥)
common_or_not cells kc c k = by_test (has_common cells c) refl
  where
    by_test : (b : Bool) → has_common cells c ≡ b → HasCommon c cells ⊎ (HasCommon c cells → ⊥)
    by_test true e = inl (common_is cells kc c k e)
    by_test false e = inr (λ h. false_not_true (has_common cells c) (common_found cells kc c k h) e)

-- ---- the halves of a cell

-- a member of a cell that a half-space holds is in that half
half_member : (h : HalfSpace) (c : List HalfSpace) (p : RationalPoint) → IsMember (shape_of_cell c) p → holds h p ≡ true → IsMember (shape_of_cell (h ∷ c)) p
half_member h c p m e = also_member (shape_of_cell c) (shape_of_cell (h ∷ c)) p m (and_true (holds h p) (passes (shape_of_cell c) p) e (member_passes (shape_of_cell c) p m))

-- a half is within the cell
half_within : (h : HalfSpace) (c : List HalfSpace) → IsWithin (shape_of_cell (h ∷ c)) (shape_of_cell c)
half_within h c p m = also_member (shape_of_cell (h ∷ c)) (shape_of_cell c) p m (and_second (holds h p) (passes (shape_of_cell c) p) (member_passes (shape_of_cell (h ∷ c)) p m))

-- the half-space holds the members of its half
half_held : (h : HalfSpace) (c : List HalfSpace) (p : RationalPoint) → IsMember (shape_of_cell (h ∷ c)) p → holds h p ≡ true
half_held h c p m = and_first (holds h p) (passes (shape_of_cell c) p) (member_passes (shape_of_cell (h ∷ c)) p m)

-- the complement holds a point exactly where the half-space does not
other_held : (h : HalfSpace) → IsHalfSpace h → (p : RationalPoint) → IsPoint p → holds h p ≡ false → holds (complement h) p ≡ true
other_held h k p w e = complement_holds_the_others_spec h k p w ∙ ap not e

-- and the other way round
not_held : (h : HalfSpace) → IsHalfSpace h → (p : RationalPoint) → IsPoint p → holds (complement h) p ≡ true → holds h p ≡ false
not_held h k p w e = not_true (holds h p) (sym (complement_holds_the_others_spec h k p w) ∙ e)
  where
    not_true : (b : Bool) → not b ≡ true → b ≡ false
    not_true true e = absurd (cc)
    not_true false e = refl

-- ---- half-spaces that hold all members of a cell or none

-- the half-space holds any two members of the cell, or neither
abbrev IsSettled : HalfSpace → List HalfSpace → Type 0
IsSettled h c = (p q : RationalPoint) → IsMember (shape_of_cell c) p → IsMember (shape_of_cell c) q → holds h p ≡ holds h q

-- so it does in each half of the cell
settled_half : (h k : HalfSpace) (c : List HalfSpace) → IsSettled h c → IsSettled h (k ∷ c)
settled_half h k c s p q m n = s p q (half_within k c p m) (half_within k c q n)

-- the half-space that cuts the cell holds all members of its half
settled_first : (h : HalfSpace) (c : List HalfSpace) → IsSettled h (h ∷ c)
settled_first h c p q m n = half_held h c p m ∙ sym (half_held h c q n)

-- and none of the other half
settled_second : (h : HalfSpace) (c : List HalfSpace) → IsHalfSpace h → IsSettled h (complement h ∷ c)
settled_second h c k p q m n = not_held h k p m.0 (half_held (complement h) c p m) ∙ sym (not_held h k q n.0 (half_held (complement h) c q n))

-- where each half-space of a cell holds both of two points or neither, the cell has both or neither
cell_same : (e : List HalfSpace) (p q : RationalPoint) → ((h : HalfSpace) → Listed h e → holds h p ≡ holds h q) → passes (shape_of_cell e) p ≡ passes (shape_of_cell e) q
cell_same [] p q s = refl
cell_same (h ∷ e) p q s = λ i. s h first i && cell_same e p q (λ g l. s g (later l)) i

-- so does a list of cells
cells_same : (cells : List (List HalfSpace)) (p q : RationalPoint) → ((e : List HalfSpace) → Listed e cells → (h : HalfSpace) → Listed h e → holds h p ≡ holds h q)
    → passes (shape_of_cells cells) p ≡ passes (shape_of_cells cells) q
cells_same [] p q s = refl
cells_same (e ∷ cells) p q s = λ i. cell_same e p q (s e first) i || cells_same cells p q (λ d l. s d (later l)) i

-- ---- the half-spaces of all cells of a region

-- they keep their bounds
flat_bounded : (cells : List (List HalfSpace)) → IsBoundedRegion cells → AreHalfSpaces (flat_map (λ e. e) cells)
flat_bounded [] k = tt
flat_bounded (e ∷ cells) k = all_append IsHalfSpace e (flat_map (λ e. e) cells) k.0 (flat_bounded cells k.1)

-- a half-space of a cell is one of them
listed_flat : (cells : List (List HalfSpace)) (e : List HalfSpace) → Listed e cells → (h : HalfSpace) → Listed h e → Listed h (flat_map (λ e. e) cells)
listed_flat [] e l h i = elim l [ ]
listed_flat (d ∷ cells) e first h i = listed_left h d (flat_map (λ e. e) cells) i
listed_flat (d ∷ cells) e (later l) h i = listed_right h d (flat_map (λ e. e) cells) (listed_flat cells e l h i)

-- ---- the two regions

module _ (f g : List (List HalfSpace)) (kf : IsBoundedRegion f) (kg : IsBoundedRegion g) where
  -- the two regions are in contact
  abbrev pub DoTouch : Type 0
  DoTouch = IsInContact (shape_of_cells f) (shape_of_cells g)

  -- a cell all of whose members are in one of the regions
  pub record IsCovered (c : List HalfSpace) : Type 0 where
    pub half_spaces : AreHalfSpaces c
    pub within : IsWithin (shape_of_cell c) (union (shape_of_cells f) (shape_of_cells g))

  -- a covered cell that has a member in both regions shows that these are in contact
  abbrev pub Shows : List HalfSpace → Type 0
  Shows c = HasCommon c f → HasCommon c g → DoTouch

  -- a covered cell with no common member with the second region is within the first
  all_in_first : (c : List HalfSpace) → IsCovered c → (HasCommon c g → ⊥) → IsWithin (shape_of_cell c) (shape_of_cells f)
  all_in_first c k n p m = ⊎_elim (λ a. a) (λ b. absurd (n (record { point = p; in_cell = m; in_region = b }))) (union_cases (shape_of_cells f) (shape_of_cells g) p (k.within p m))

  -- one with no common member with the first region is within the second
  all_in_second : (c : List HalfSpace) → IsCovered c → (HasCommon c f → ⊥) → IsWithin (shape_of_cell c) (shape_of_cells g)
  all_in_second c k n p m = ⊎_elim (λ a. absurd (n (record { point = p; in_cell = m; in_region = a }))) (λ b. b) (union_cases (shape_of_cells f) (shape_of_cells g) p (k.within p m))

  -- two covered cells with a common point near both, of which the first has a member in the first region and the second one in the second: these are in contact, if each cell shows it where it has members of both
  pub near_two : (c e : List HalfSpace) → IsCovered c → IsCovered e → Shows c → Shows e → HasCommon c f → HasCommon e g → IsInContact (shape_of_cell c) (shape_of_cell e) → DoTouch
  near_two c e kc ke sc se hf hg (p, nc, ne) =
      ⊎_elim
      (λ cg. sc hf cg)
      (λ cn. ⊎_elim
      (λ ef. se ef hg)
      (λ en. (p, near_larger (shape_of_cell c) (shape_of_cells f) (all_in_first c kc cn) p nc, near_larger (shape_of_cell e) (shape_of_cells g) (all_in_second e ke en) p ne))
      (common_or_not f kf e ke.half_spaces))
      (common_or_not g kg c kc.half_spaces)

  -- each half-space of the first region is still to come, or holds all members of the cell or none
  abbrev AreKnown : List HalfSpace → List HalfSpace → Type 0
  AreKnown to_come c = (e : List HalfSpace) → Listed e f → (h : HalfSpace) → Listed h e → Listed h to_come ⊎ IsSettled h c

  -- where none is to come, the two regions have a common member
  settled_shows : (c : List HalfSpace) → AreKnown [] c → Shows c
  settled_shows c known hf hg =
      let same = cells_same f hf.point hg.point (λ e l h k. ⊎_elim (λ n. elim n [ ]) (λ s. s hf.point hg.point hf.in_cell hg.in_cell) (known e l h k)) in
      let m = also_member (shape_of_cells g) (shape_of_cells f) hg.point hg.in_region (sym same ∙ member_passes (shape_of_cells f) hf.point hf.in_region) in
      (hg.point, member_is_near (shape_of_cells f) hg.point m, member_is_near (shape_of_cells g) hg.point hg.in_region)

  -- what one half-space still to come adds: where each half of a cell shows it, the cell does
  halves_show : (h : HalfSpace) (c : List HalfSpace) → IsHalfSpace h → IsCovered c → Shows (h ∷ c) → Shows (complement h ∷ c) → Shows c
  halves_show h c k kc first_shows second_shows hf hg = by_sides (holds h hf.point) refl (holds h hg.point) refl
    where
      one : List HalfSpace
      one = h ∷ c

      two : List HalfSpace
      two = complement h ∷ c

      k_one : IsCovered one
      k_one = record { half_spaces = (k, kc.half_spaces); within = λ p m. kc.within p (half_within h c p m) }

      k_two : IsCovered two
      k_two = record { half_spaces = (complement_is_half_space h k, kc.half_spaces); within = λ p m. kc.within p (half_within (complement h) c p m) }

      into_one : (cells : List (List HalfSpace)) (x : HasCommon c cells) → holds h x.point ≡ true → HasCommon one cells
      into_one cells x e = record { point = x.point; in_cell = half_member h c x.point x.in_cell e; in_region = x.in_region }

      into_two : (cells : List (List HalfSpace)) (x : HasCommon c cells) → holds h x.point ≡ false → HasCommon two cells
      into_two cells x e = record { point = x.point; in_cell = half_member (complement h) c x.point x.in_cell (other_held h k x.point x.in_cell.0 e); in_region = x.in_region }

      -- a member of each half, and so a point near both
      crossed : (p q : RationalPoint) → IsMember (shape_of_cell one) p → IsMember (shape_of_cell two) q → Crossing h c
      crossed p q m n =
          let below = (member_is_weak two q n).sides (complement h) first in
          crossing h c p q (member_is_weak c p (half_within h c p m)) (member_is_weak c q (half_within (complement h) c q n))
          ((member_is_weak one p m).sides h first) (nonpos_of_neg (side_value h q) (subst (λ (v : ℤ). pos 0 ≤ℤ v) (side_of_complement h q) below))

      by_sides : (a : Bool) → holds h hf.point ≡ a → (b : Bool) → holds h hg.point ≡ b → DoTouch
      by_sides true ea true eb = first_shows (into_one f hf ea) (into_one g hg eb)
      by_sides false ea false eb = second_shows (into_two f hf ea) (into_two g hg eb)
      by_sides true ea false eb =
          let x = into_one f hf ea in
          let y = into_two g hg eb in
          let m = crossed x.point y.point x.in_cell y.in_cell in
          near_two one two k_one k_two first_shows second_shows x y
          (m.to, near_of_weak one k_one.half_spaces (x.point, x.in_cell) m.to m.in_first, near_of_weak two k_two.half_spaces (y.point, y.in_cell) m.to m.in_second)
      by_sides false ea true eb =
          let x = into_two f hf ea in
          let y = into_one g hg eb in
          let m = crossed y.point x.point y.in_cell x.in_cell in
          near_two two one k_two k_one second_shows first_shows x y
          (m.to, near_of_weak two k_two.half_spaces (x.point, x.in_cell) m.to m.in_second, near_of_weak one k_one.half_spaces (y.point, y.in_cell) m.to m.in_first)

  -- the cell is cut by one half-space still to come after the other
  cut_shows : (to_come : List HalfSpace) → AreHalfSpaces to_come → (c : List HalfSpace) → IsCovered c → AreKnown to_come c → Shows c
  cut_shows [] k c kc known = settled_shows c known
  cut_shows (h ∷ hs) k c kc known =
      halves_show h c k.0 kc
      (cut_shows hs k.1 (h ∷ c) (record { half_spaces = (k.0, kc.half_spaces); within = λ p m. kc.within p (half_within h c p m) }) (known_half h (settled_first h c)))
      (cut_shows hs k.1 (complement h ∷ c) (record { half_spaces = (complement_is_half_space h k.0, kc.half_spaces); within = λ p m. kc.within p (half_within (complement h) c p m) }) (known_half (complement h) (settled_second h c k.0)))
    where
      still : (b : HalfSpace) → IsSettled h (b ∷ c) → (g : HalfSpace) → Listed g (h ∷ hs) ⊎ IsSettled g c → Listed g hs ⊎ IsSettled g (b ∷ c)
      still b s g (inl first) = inr s
      still b s g (inl (later l)) = inl l
      still b s g (inr t) = inr (settled_half g b c t)

      known_half : (b : HalfSpace) → IsSettled h (b ∷ c) → AreKnown hs (b ∷ c)
      known_half b s e l g i = still b s g (known e l g i)

  -- a covered cell with members of both regions: these are in contact
  pub covered_shows : (c : List HalfSpace) → IsCovered c → Shows c
  covered_shows c kc = cut_shows (flat_map (λ e. e) f) (flat_bounded f kf) c kc (λ e l h i. inl (listed_flat f e l h i))
