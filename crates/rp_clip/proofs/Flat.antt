-- Half-spaces that are zero at the points taken, as a list and as a set of places.
use Rattle.std.proofs.Common.{◌≡◌, ℕ, ◌+◌, ◌-◌, ◌*◌, ◌^◌, ◌<◌, ◌≤◌, pos, ◌≤ℤ◌, ◌<ℤ◌, ⊎_elim, Bool, true, false, ◌&&◌, ◌||◌, List, [], ◌∷◌, length, refl, sym, ap, ◌∙◌, subst, arith, nat_eq, lt_of_le_of_lt}
use Rattle.std.specs.Prelude.{Option, Some, None, not, min, bit_and}
use Rattle.std.specs.Int.{bit_at, bit_not, trailing_zeros, w128}
use Rattle.std.specs.List.{Contains}
use Rattle.std.proofs.lemmas.Bool.Decides.{nat_tests}
use Rattle.std.proofs.lemmas.Nat.{and_le_l}
use Rattle.std.proofs.lemmas.Nat.Bits.{bit_at_and, bit_at_not, bit_at-zero, bit_at-lt, bit_at-trailing_zeros, bit_at_ones}
use Rattle.rp_algebra.specs.Integer.{is_positive}
use Rattle.rp_algebra.proofs.IntLaws.{le_or_lt_ℤ}
use Rattle.rp_algebra.proofs.Listed.{Listed, first}
use Rattle.rp_algebra.proofs.Numbers.{above_not_zero, zero_between, nonpos_of_zero, same_or_less}
use Rattle.rp_algebra.proofs.Options.{same_some}
use Rattle.rp_algebra.proofs.Tests.{positive_is, is_positive_true, is_positive_false, not_positive_is}
use Rattle.rp_geometry.specs.Geometry.{RationalPoint, HalfSpace, IsPoint, side_value, with_cube, cube_half_spaces, all_nonnegative}
use Rattle.rp_geometry.specs.searches.Search.{first_of_triples}
use Rattle.rp_geometry.specs.searches.Vertex.{meeting_point, vertex_at, vertex_if, first_vertex, any_point, lifts, flat_half_spaces}
use Rattle.rp_algebra.proofs.Filter.{some_passes, passes_some, kept, keeps}
use Rattle.rp_convex.proofs.Move.{IsWeak}
use Rattle.rp_convex.proofs.Progress.{stays_flat, flat_not_positive}
use Rattle.rp_convex.proofs.Vertex.{weak_is}
use Rattle.rp_convex.proofs.Corners.{meeting_is}
use Rattle.rp_convex.proofs.Standing.{listed_contains, contains_listed}
use Rattle.rp_clip.specs.Firsts.{is_off_mask, is_off}
use Rattle.rp_space.specs.Places.{bits_of, IsIn}
use Rattle.rp_clip.specs.Masks.{half_at, is_through, mask_of, HasHalfSpaces}
use Rattle.rp_clip.proofs.Crossed.{listed_at, at_listed}
use Rattle.rp_clip.proofs.FirstOfSet.{zero_unless}
use Rattle.rp_clip.proofs.HalfAt.{place_below}
use Rattle.rp_space.proofs.Bits.{bits_of-small}
use Rattle.rp_clip.proofs.Masks.{IsThroughAt, in_mask, mask_in, in_both, both_in}
use Rattle.rp_clip.proofs.Off.{off_true}
use Rattle.rp_clip.proofs.Walks.{one_not_zero}

-- ---- off a set

-- a mask is below 2 ^ 70
pub mask_small : (cell : List HalfSpace) (p : RationalPoint) → length cell ≤ 64 → mask_of cell p < 2 ^ 128
unfolding mask_of
mask_small cell p few =
    small (bits_of (is_through p) cube_half_spaces) (bits_of (is_through p) cell) (bits_of-small (is_through p) cube_half_spaces 6 (omega arith)) (bits_of-small (is_through p) cell 64 few)
  where
    small : (a b : ℕ) → a < 2 ^ 6 → b < 2 ^ 64 → a * 2 ^ 64 + b < 2 ^ 128
    small a b h k = omega (arith, h, k)

-- a place of the set that is not in the mask
pub record IsOffAt (set mask : ℕ) : Type 0 where
  pub place : ℕ
  pub in_set : IsIn set place
  pub not_in_mask : bit_at mask place ≡ 0

-- the two bits of a place that is 1
both_one : (a b : ℕ) → a < 2 → b < 2 → min a (1 - b) ≡ 1 → (a ≡ 1) × (b ≡ 0)
both_one a b h k e = (omega (arith, h, k, e), omega (arith, h, k, e))

-- a number that is not 0 passes the test
not_zero : (n : ℕ) → not (nat_eq n 0) ≡ true → 0 < n
not_zero n e = grind (arith, nat_tests)

-- where the test passes there is such a place
pub off_place : (set mask : ℕ) → set < 2 ^ 128 → mask < 2 ^ 128 → is_off_mask set mask ≡ true → IsOffAt set mask
off_place set mask hs hm e =
    let n = bit_and set (bit_not w128 mask) in
    let small : n < 2 ^ 128 = lt_of_le_of_lt (and_le_l set (bit_not w128 mask)) hs in
    let t = bit_at-trailing_zeros w128 n (not_zero n e) small in
    let i = trailing_zeros w128 n in
    let parts = both_one (bit_at set i) (bit_at mask i) (bit_at-lt set i) (bit_at-lt mask i)
    ((λ k. min (bit_at set i) (sym (bit_at_not w128 mask i hm t.0) k)) ∙ sym (bit_at_and set (bit_not w128 mask) i) ∙ t.1) in
    record { place = i; in_set = parts.0; not_in_mask = parts.1 }

-- where there is such a place the test passes
pub place_off : (set mask : ℕ) → mask < 2 ^ 128 → (o : IsOffAt set mask) → o.place < 128 → is_off_mask set mask ≡ true
place_off set mask hm o low =
    let n = bit_and set (bit_not w128 mask) in
    let bit : bit_at n o.place ≡ 1 = bit_at_and set (bit_not w128 mask) o.place ∙ (λ k. min (o.in_set k) ((bit_at_not w128 mask o.place hm low ∙ ap (λ b. 1 - b) o.not_in_mask) k)) in
    off_true n (λ z. one_not_zero (bit_at n o.place) bit (ap (λ m. bit_at m o.place) z ∙ bit_at-zero o.place))

-- ---- the list and the set

-- the half-spaces of the list are those at the places of the set
pub record AreSame (cell : List HalfSpace) (flat : List HalfSpace) (set : ℕ) : Type 0 where
  pub has : HasHalfSpaces cell set
  pub small : set < 2 ^ 128
  pub listed : (i : ℕ) (h : HalfSpace) → IsIn set i → half_at cell i ≡ Some h → Listed h flat
  pub places : (h : HalfSpace) → Listed h flat → (i : ℕ) × (half_at cell i ≡ Some h) × IsIn set i

-- a point of the weak system is positive on one of the list exactly where it is off the set
pub lifts_off : (cell : List HalfSpace) (flat : List HalfSpace) (set : ℕ) (p : RationalPoint) → length cell ≤ 64 → AreSame cell flat set → IsWeak (with_cube cell) p → lifts flat p ≡ is_off cell set p
lifts_off cell flat set p few k w = same_tests (lifts flat p) (is_off cell set p) to from
  where
    small : mask_of cell p < 2 ^ 128
    small = mask_small cell p few

    same_tests : (a b : Bool) → (a ≡ true → b ≡ true) → (b ≡ true → a ≡ true) → a ≡ b
    same_tests true b f g = sym (f refl)
    same_tests false true f g = g refl
    same_tests false false f g = refl

    to : lifts flat p ≡ true → is_off cell set p ≡ true
    to e =
        let s = some_passes (λ h. is_positive (side_value h p)) flat e in
        let r = k.places s.item s.listed in
        place_off set (mask_of cell p) small
        (record { place = r.0; in_set = r.2; not_in_mask = zero_unless (bit_at (mask_of cell p) r.0) (bit_at-lt (mask_of cell p) r.0) (λ b. not_zero_side s.item (positive_is (side_value s.item p) s.passes) (on_plane r.0 s.item r.1 b)) })
        (let l = place_below cell r.0 s.item r.1 in omega (arith, l))
      where
        on_plane : (i : ℕ) (h : HalfSpace) → half_at cell i ≡ Some h → IsIn (mask_of cell p) i → side_value h p ≡ pos 0
        on_plane i h a b = let t = in_mask cell p i few b in subst (λ (g : HalfSpace). side_value g p ≡ pos 0) (same_some t.half h (sym t.at ∙ a)) t.on

        not_zero_side : (h : HalfSpace) → pos 0 <ℤ side_value h p → side_value h p ≡ pos 0 → ⊥
        not_zero_side h l z = above_not_zero (side_value h p) l z

    from : is_off cell set p ≡ true → lifts flat p ≡ true
    from e =
        let o = off_place set (mask_of cell p) k.small small e in
        let h = k.has o.place o.in_set in
        passes_some (λ g. is_positive (side_value g p)) flat h.0 (k.listed o.place h.0 o.in_set h.1) (is_positive_true (side_value h.0 p) (above h.0 (at_listed cell o.place h.0 h.1) (λ z. one_not_zero (bit_at (mask_of cell p) o.place) (mask_in cell p o.place h.0 few h.1 z) o.not_in_mask)))
      where
        above : (h : HalfSpace) → Contains (with_cube cell) h → (side_value h p ≡ pos 0 → ⊥) → pos 0 <ℤ side_value h p
        above h c n =
            ⊎_elim (λ (l : side_value h p ≤ℤ pos 0). absurd (n (zero_between (side_value h p) l (w.sides h (contains_listed h (with_cube cell) c))))) (λ (l : pos 0 <ℤ side_value h p). l) (le_or_lt_ℤ (side_value h p) (pos 0))

-- a point, if a test passes
abbrev point_if : Bool → RationalPoint → Option RationalPoint
point_if b p = elim b [ true ↦ Some p | false ↦ None ]

-- tests that agree on the weak system find the same first vertex
pub tests_agree : (t u : RationalPoint → Bool) (hs : List HalfSpace) → ((p : RationalPoint) → IsWeak hs p → t p ≡ u p) → first_vertex t hs ≡ first_vertex u hs
unfolding first_vertex
tests_agree t u hs agree = λ i. first_of_triples (λ f g h. at f g h i) hs
  where
    by_test : (p : RationalPoint) (b : Bool) → IsPoint p → all_nonnegative hs p ≡ b → point_if (b && t p) p ≡ point_if (b && u p) p
    by_test p true k e = ap (λ b. point_if b p) (agree p (weak_is hs p k e))
    by_test p false k e = refl

    chosen : (o : Option RationalPoint) → ((v : RationalPoint) → o ≡ Some v → IsPoint v) → vertex_if t hs o ≡ vertex_if u hs o
    chosen None k = refl
    chosen (Some p) k = by_test p (all_nonnegative hs p) (k p refl) refl

    at : (f g h : HalfSpace) → vertex_at t hs f g h ≡ vertex_at u hs f g h
    at f g h = chosen (meeting_point f g h) (λ v e. (meeting_is f g h v e).point)

-- every vertex is off the whole set
off_whole : (cell : List HalfSpace) (p : RationalPoint) → length cell ≤ 64 → is_off cell (2 ^ 128 - 1) p ≡ true
off_whole cell p few =
    place_off (2 ^ 128 - 1) (mask_of cell p) (mask_small cell p few)
    (record { place = 127; in_set = bit_at_ones 128 127 (omega arith); not_in_mask = zero_unless (bit_at (mask_of cell p) 127) (bit_at-lt (mask_of cell p) 127) (λ b. too_high (in_mask cell p 127 few b)) }) (omega arith)
  where
    too_high : IsThroughAt cell p 127 → ⊥
    too_high t = let l = place_below cell 127 t.half t.at in omega (arith, l)

-- the first vertex is the first that is off the whole set
pub first_off_whole : (cell : List HalfSpace) → length cell ≤ 64 → first_vertex (is_off cell (2 ^ 128 - 1)) (with_cube cell) ≡ first_vertex any_point (with_cube cell)
first_off_whole cell few = tests_agree (is_off cell (2 ^ 128 - 1)) any_point (with_cube cell) (λ p w. off_whole cell p few)

-- ---- the points taken

-- a plane at a place of the mask passes through the point
on_at : (cell : List HalfSpace) (p : RationalPoint) (i : ℕ) (h : HalfSpace) → length cell ≤ 64 → half_at cell i ≡ Some h → IsIn (mask_of cell p) i → side_value h p ≡ pos 0
on_at cell p i h few a b = let t = in_mask cell p i few b in subst (λ (g : HalfSpace). side_value g p ≡ pos 0) (same_some t.half h (sym t.at ∙ a)) t.on

-- a half-space that is 0 at the point stays flat
flat_here : (p : RationalPoint) (h : HalfSpace) → side_value h p ≡ pos 0 → stays_flat p h ≡ true
flat_here p h e = ap (λ b. not (b || false)) (is_positive_false (side_value h p) (nonpos_of_zero (side_value h p) e))

-- one that stays flat is 0 there
zero_here : (cell : List HalfSpace) (p : RationalPoint) (h : HalfSpace) → IsWeak (with_cube cell) p → Listed h (with_cube cell) → stays_flat p h ≡ true → side_value h p ≡ pos 0
zero_here cell p h w l e = zero_between (side_value h p) (not_positive_is (side_value h p) (flat_not_positive (is_positive (side_value h p)) e)) (w.sides h l)

-- the planes through the first point
pub same_first : (cell : List HalfSpace) (p : RationalPoint) → length cell ≤ 64 → IsWeak (with_cube cell) p → AreSame cell (flat_half_spaces (with_cube cell) (p ∷ [])) (mask_of cell p)
same_first cell p few w = record {
  has = λ i b. let t = in_mask cell p i few b in (t.half, t.at);
  small = mask_small cell p few;
  listed = λ i h b a. keeps (stays_flat p) (with_cube cell) h (contains_listed h (with_cube cell) (at_listed cell i h a)) (flat_here p h (on_at cell p i h few a b));
  places = λ h l.
      let k = kept (stays_flat p) (with_cube cell) h l in
      let s = listed_at cell h few (listed_contains h (with_cube cell) k.listed) in
      (s.place, s.at, mask_in cell p s.place h few s.at (zero_here cell p h w k.listed k.passes));
}

-- the planes through one more point
pub same_next : (cell : List HalfSpace) (flat : List HalfSpace) (set : ℕ) (p : RationalPoint) → length cell ≤ 64 → IsWeak (with_cube cell) p → AreSame cell flat set
    → AreSame cell (flat_half_spaces flat (p ∷ [])) (bit_and set (mask_of cell p))
same_next cell flat set p few w k = record {
  has = λ i b. k.has i (in_both set (mask_of cell p) i b).0;
  small = lt_of_le_of_lt (and_le_l set (mask_of cell p)) k.small;
  listed = λ i h b a. let c = in_both set (mask_of cell p) i b in keeps (stays_flat p) flat h (k.listed i h c.0 a) (flat_here p h (on_at cell p i h few a c.1));
  places = λ h l.
      let r = kept (stays_flat p) flat h l in
      let s = k.places h r.listed in
      (s.0, s.1, both_in set (mask_of cell p) s.0 s.2 (mask_in cell p s.0 h few s.1 (zero_here cell p h w (contains_listed h (with_cube cell) (at_listed cell s.0 h s.1)) r.passes)));
}

-- a set with no place has no half-space in the list
pub same_empty : (cell : List HalfSpace) (flat : List HalfSpace) (set : ℕ) → AreSame cell flat set → set ≡ 0 → flat ≡ []
same_empty cell [] set k e = refl
same_empty cell (h ∷ flat) set k e = let r = k.places h first in absurd (one_not_zero (bit_at set r.0) r.2 (ap (λ m. bit_at m r.0) e ∙ bit_at-zero r.0))

-- a set with a place has one
pub same_some_flat : (cell : List HalfSpace) (flat : List HalfSpace) (set : ℕ) → AreSame cell flat set → (set ≡ 0 → ⊥) → 0 < length flat
same_some_flat cell [] set k n =
    let t = bit_at-trailing_zeros w128 set (omega (arith, n)) k.small in
    let h = k.has (trailing_zeros w128 set) t.1 in
    elim (k.listed (trailing_zeros w128 set) h.0 t.1 h.1) [ ]
same_some_flat cell (h ∷ flat) set k n = omega arith

-- the set becomes smaller
pub smaller : (cell : List HalfSpace) (set : ℕ) (p : RationalPoint) → length cell ≤ 64 → set < 2 ^ 128 → is_off cell set p ≡ true → bit_and set (mask_of cell p) < set
smaller cell set p few small e =
    let o = off_place set (mask_of cell p) small (mask_small cell p few) e in
    less (bit_and set (mask_of cell p)) set (and_le_l set (mask_of cell p))
    (λ s. one_not_zero (bit_at (mask_of cell p) o.place) (in_both set (mask_of cell p) o.place (subst (λ (m : ℕ). IsIn m o.place) (sym s) o.in_set)).1 o.not_in_mask)
  where
    less : (m n : ℕ) → m ≤ n → (m ≡ n → ⊥) → m < n
    less m n l d = ⊎_elim (λ (e : m ≡ n). absurd (d e)) (λ (k : m < n). k) (same_or_less m n l)
