-- What the planes that vertices have in common tell of the cell.
use Rattle.std.proofs.Common.{◌≡◌, ℕ, zero, suc, ◌+◌, ◌-◌, ◌*◌, ◌%◌, ◌^◌, ◌<◌, ◌≤◌, ◌⊎◌, inl, inr, ⊎_elim, Bool, true, false, cond, ℤ, pos, ◌+ℤ◌, ◌*ℤ◌, ◌≤ℤ◌, ◌<ℤ◌, List, [], ◌∷◌, ◌++◌, length, map, take, drop, refl, sym, ap, ◌∙◌, subst, arith, nat_eq, lt_of_le_of_lt}
use Rattle.std.specs.Prelude.{Some, min, bit_and, ◌↔◌}
use Rattle.std.specs.Int.{bit_at, trailing_zeros, w128}
use Rattle.std.specs.Int.Bits.{and_zero_r}
use Rattle.std.specs.List.{Contains, slice_get}
use Rattle.std.proofs.lemmas.Bool.Decides.{nat_tests}
use Rattle.std.proofs.lemmas.Nat.{one_shl, and_le_l, and_le_r}
use Rattle.std.proofs.lemmas.Nat.Bits.{same_from_bits_below, bit_at-lt, bit_at-zero, bit_at_ones, bit_at-pow_same, bit_at-pow_other, bit_at_and, bit_at-trailing_zeros}
use Rattle.rp_algebra.proofs.IntLaws.{le_or_lt_ℤ, nonneg_of_pos_ℤ}
use Rattle.rp_algebra.proofs.Reify.{by_ring_at, reify}
use Rattle.rp_algebra.proofs.Numbers.{zero_between, nonneg_of_zero, above_not_zero}
use Rattle.rp_algebra.proofs.Options.{same_some}
use Rattle.rp_algebra.proofs.Listed.{Listed, first, later, listed_right, listed_cases, place_of}
use Rattle.rp_algebra.proofs.Lists.{get_some}
use Rattle.rp_geometry.specs.Geometry.{RationalPoint, HalfSpace, IsPoint, half_space_of, side_value, with_cube, cube_half_spaces, cube_bound}
use Rattle.rp_geometry.specs.sets.Shape.{shape_of_cell}
use Rattle.rp_geometry.specs.sets.Sets.{IsNonempty}
use Rattle.rp_geometry.specs.searches.Vertex.{vertices}
use Rattle.rp_convex.proofs.Approach.{near, side_near, near_point, near_positive}
use Rattle.rp_convex.proofs.Certified.{positive_is_member}
use Rattle.rp_convex.proofs.Inside.{member_moves_inside_spec}
use Rattle.rp_convex.proofs.InsideFound.{IsStrict, strict_is_weak, strict_of, greater_positive}
use Rattle.rp_convex.proofs.Move.{IsWeak}
use Rattle.rp_convex.proofs.Vertex.{weak_true, vertex_is_as_great_spec}
use Rattle.rp_convex.proofs.Corners.{vertex_corner}
use Rattle.rp_convex.proofs.Standing.{contains_listed, listed_contains}
use Rattle.rp_clip.specs.Clipped.{HasVertices}
use Rattle.rp_clip.specs.Faces.{common_with, common_of, HasSide}
use Rattle.rp_space.specs.Places.{IsIn}
use Rattle.rp_clip.specs.Masks.{half_at, mask_of}
use Rattle.rp_clip.specs.Tables.{Rows}
use Rattle.rp_clip.proofs.Crossed.{at_listed, listed_at}
use Rattle.rp_clip.proofs.HalfAt.{at_cell, at_cube, get_below}
use Rattle.rp_clip.proofs.Flat.{mask_small}
use Rattle.rp_clip.proofs.Lists.{get_contains}
use Rattle.rp_clip.proofs.Masks.{zero_not_one, in_mask, mask_in, in_both, both_in, same_or_not}

-- ---- a point on exactly the common planes

-- the point lies on the planes of the set, and no plane of the list but these reaches it
pub record IsOnExactly (cell : List HalfSpace) (set : ℕ) (p : RationalPoint) : Type 0 where
  pub point : IsPoint p
  pub on : (i : ℕ) (h : HalfSpace) → half_at cell i ≡ Some h → IsIn set i → side_value h p ≡ pos 0
  pub above : (i : ℕ) (h : HalfSpace) → half_at cell i ≡ Some h → bit_at set i ≡ 0 → pos 0 <ℤ side_value h p

-- no vertex so far, so that all places are in common; or a point on exactly the planes in common
pub data HasCommon (cell : List HalfSpace) (set : ℕ) : Type 0 where
  none : set ≡ 2 ^ 128 - 1 → HasCommon cell set
  some : (p : RationalPoint) → IsOnExactly cell set p → HasCommon cell set

-- a bit is 1 or 0
bit_cases : (set i : ℕ) → IsIn set i ⊎ (bit_at set i ≡ 0)
bit_cases set i = two (bit_at set i) (bit_at-lt set i)
  where
    two : (b : ℕ) → b < 2 → (b ≡ 1) ⊎ (b ≡ 0)
    two b h = ⊎_elim (λ (e : b ≡ 0). inr e) (λ (n : b ≡ 0 → ⊥). inl (omega (arith, h, n))) (same_or_not b 0)

-- a bit of two sets is 0 where that of one is
and_none : (a b i : ℕ) → bit_at (bit_and a b) i ≡ 0 → IsIn a i → bit_at b i ≡ 0
and_none a b i e h = ⊎_elim (λ (k : IsIn b i). absurd (clash (both_in a b i h k))) (λ (k : bit_at b i ≡ 0). k) (bit_cases b i)
  where
    clash : IsIn (bit_and a b) i → ⊥
    clash k = zero_not_one (sym e ∙ k)

-- a vertex is on exactly the planes of its mask
vertex_on : (cell : List HalfSpace) (v : RationalPoint) → length cell ≤ 64 → IsWeak (with_cube cell) v → IsOnExactly cell (mask_of cell v) v
vertex_on cell v few w = record { point = w.point; on = on; above = above }
  where
    same_half : (i : ℕ) (h k : HalfSpace) → half_at cell i ≡ Some h → half_at cell i ≡ Some k → k ≡ h
    same_half i h k e f = same_some k h (sym f ∙ e)

    on : (i : ℕ) (h : HalfSpace) → half_at cell i ≡ Some h → IsIn (mask_of cell v) i → side_value h v ≡ pos 0
    on i h e m = let t = in_mask cell v i few m in subst (λ (k : HalfSpace). side_value k v ≡ pos 0) (same_half i h t.half e t.at) t.on

    positive : (s : ℤ) → pos 0 ≤ℤ s → (s ≡ pos 0 → ⊥) → pos 0 <ℤ s
    positive s h n = ⊎_elim (λ (l : s ≤ℤ pos 0). absurd (n (zero_between s l h))) (λ (l : pos 0 <ℤ s). l) (le_or_lt_ℤ s (pos 0))

    above : (i : ℕ) (h : HalfSpace) → half_at cell i ≡ Some h → bit_at (mask_of cell v) i ≡ 0 → pos 0 <ℤ side_value h v
    above i h e m = positive (side_value h v) (w.sides h (contains_here i h e)) (λ z. zero_not_one (sym m ∙ mask_in cell v i h few e z))
      where
        contains_here : (i : ℕ) (h : HalfSpace) → half_at cell i ≡ Some h → Listed h (with_cube cell)
        contains_here i h e = contains_listed h (with_cube cell) (at_listed cell i h e)

-- half way between a point on exactly some planes and one on exactly others, the planes of both are those that pass through it
between_on : (cell : List HalfSpace) (a b : ℕ) (p v : RationalPoint) → IsOnExactly cell a p → IsOnExactly cell b v → IsOnExactly cell (bit_and a b) (near (pos 1) p v)
between_on cell a b p v hp hv = record { point = near_point p v 1 hp.point hv.point; on = on; above = above }
  where
    at : HalfSpace → ℤ
    at h = side_value h (near (pos 1) p v)

    plain : (w : ℤ) → pos 0 +ℤ pos 1 *ℤ w ≡ w
    plain w = by_ring_at (w ∷ []) (search reify depth 40 fits 100000) tt

    zero_both : (s u w : ℤ) → s ≡ u +ℤ pos 1 *ℤ w → u ≡ pos 0 → w ≡ pos 0 → s ≡ pos 0
    zero_both s u w e f g = e ∙ (λ i. f i +ℤ pos 1 *ℤ g i)

    second_only : (s u w : ℤ) → s ≡ u +ℤ pos 1 *ℤ w → u ≡ pos 0 → pos 0 <ℤ w → pos 0 <ℤ s
    second_only s u w e f g = subst (λ (r : ℤ). pos 0 <ℤ r) (sym (e ∙ (λ i. f i +ℤ pos 1 *ℤ w) ∙ plain w)) g

    on : (i : ℕ) (h : HalfSpace) → half_at cell i ≡ Some h → IsIn (bit_and a b) i → at h ≡ pos 0
    on i h e m = let k = in_both a b i m in zero_both (at h) (side_value h p) (side_value h v) (side_near h (pos 1) p v) (hp.on i h e k.0) (hv.on i h e k.1)

    least : (i : ℕ) (h : HalfSpace) → half_at cell i ≡ Some h → pos 0 ≤ℤ side_value h v
    least i h e = ⊎_elim
        (λ (m : IsIn b i). nonneg_of_zero (side_value h v) (hv.on i h e m))
        (λ (m : bit_at b i ≡ 0). nonneg_of_pos_ℤ (side_value h v) (hv.above i h e m))
        (bit_cases b i)

    above : (i : ℕ) (h : HalfSpace) → half_at cell i ≡ Some h → bit_at (bit_and a b) i ≡ 0 → pos 0 <ℤ at h
    above i h e m = ⊎_elim
        (λ (k : IsIn a i). second_only (at h) (side_value h p) (side_value h v) (side_near h (pos 1) p v) (hp.on i h e k) (hv.above i h e (and_none a b i m k)))
        (λ (k : bit_at a i ≡ 0). near_positive h p v 1 (hp.above i h e k) (least i h e))
        (bit_cases a i)

-- all places and a set
ones_and : (m : ℕ) → m < 2 ^ 128 → bit_and (2 ^ 128 - 1) m ≡ m
ones_and m h = same_from_bits_below 128 (bit_and (2 ^ 128 - 1) m) m (lt_of_le_of_lt (and_le_r (2 ^ 128 - 1) m) h) h (λ i l.
    bit_at_and (2 ^ 128 - 1) m i ∙ ap (λ (b : ℕ). min b (bit_at m i)) (bit_at_ones 128 i l) ∙ one_least (bit_at m i) (bit_at-lt m i))
  where
    one_least : (b : ℕ) → b < 2 → min 1 b ≡ b
    one_least b h = omega (arith, h)

-- what is in common with one vertex more
common_more : (cell : List HalfSpace) (set : ℕ) (v : RationalPoint) → length cell ≤ 64 → IsWeak (with_cube cell) v → HasCommon cell set → HasCommon cell (bit_and set (mask_of cell v))
common_more cell set v few w (none e) = some v (subst (λ (m : ℕ). IsOnExactly cell m v) (sym (all_and e)) (vertex_on cell v few w))
  where
    all_and : set ≡ 2 ^ 128 - 1 → bit_and set (mask_of cell v) ≡ mask_of cell v
    all_and e = ap (λ (m : ℕ). bit_and m (mask_of cell v)) e ∙ ones_and (mask_of cell v) (mask_small cell v few)
common_more cell set v few w (some p h) = some (near (pos 1) p v) (between_on cell set (mask_of cell v) p v h (vertex_on cell v few w))

-- what is in common with a vertex more, if it is on the planes of a set
common_step : (cell : List HalfSpace) (set common : ℕ) (v : RationalPoint) → length cell ≤ 64 → IsWeak (with_cube cell) v → HasCommon cell common → HasCommon cell (common_with set common (mask_of cell v))
common_step cell set common v few w h = by_test (nat_eq (bit_and (mask_of cell v) set) set)
  where
    by_test : (b : Bool) → HasCommon cell (cond b (bit_and common (mask_of cell v)) common)
    by_test true = common_more cell common v few w h
    by_test false = h

-- what the vertices of a list have in common
common_is : (cell : List HalfSpace) (set common : ℕ) (points : List RationalPoint) → length cell ≤ 64 → ((v : RationalPoint) → Listed v points → IsWeak (with_cube cell) v) → HasCommon cell common
    → HasCommon cell (common_of set common (map (mask_of cell) points))
common_is cell set common [] few w h = h
common_is cell set common (v ∷ vs) few w h =
    common_is cell set (common_with set common (mask_of cell v)) vs few (λ u l. w u (later l)) (common_step cell set common v few (w v first) h)

-- the vertices of a clip are in the weak system
clip_weak : {most : ℕ} (cell : List HalfSpace) (t : Rows) → HasVertices most cell t → (v : RationalPoint) → Listed v t.points → IsWeak (with_cube cell) v
clip_weak cell t k v l = (vertex_corner cell v (k.table.different.vertices v (listed_contains v t.points l))).weak

-- what the vertices of a clip on the planes of a set have in common
pub clip_common : {most : ℕ} (cell : List HalfSpace) (t : Rows) (set : ℕ) → HasVertices most cell t → HasCommon cell (common_of set (2 ^ 128 - 1) t.planes)
clip_common cell t set k =
    subst (λ (ms : List ℕ). HasCommon cell (common_of set (2 ^ 128 - 1) ms)) (sym k.table.planes)
    (common_is cell set (2 ^ 128 - 1) t.points k.few (clip_weak cell t k) (none refl))

-- ---- whether the cell has a point

-- what is in common is in common so far
common_of-le : (set common : ℕ) (masks : List ℕ) → common_of set common masks ≤ common
common_of-le set common [] = omega arith
common_of-le set common (m ∷ ms) = le_both (common_of-le set (common_with set common m) ms) (by_test (nat_eq (bit_and m set) set))
  where
    by_test : (b : Bool) → ◌≤◌ (cond b (bit_and common m) common) common
    by_test true = and_le_l common m
    by_test false = omega arith

    le_both : {a b c : ℕ} → a ≤ b → b ≤ c → a ≤ c
    le_both h k = omega (arith, h, k)

-- a place in common is in common so far, and in each mask of the list
in_each : (common : ℕ) (masks : List ℕ) (i : ℕ) → IsIn (common_of 0 common masks) i → IsIn common i × ((m : ℕ) → Listed m masks → IsIn m i)
in_each common [] i e = (e, λ m l. elim l [ ])
in_each common (n ∷ ms) i e = with_first (in_each (common_with 0 common n) ms i e)
  where
    and_all : common_with 0 common n ≡ bit_and common n
    and_all = ap (λ (b : Bool). cond b (bit_and common n) common) (ap (λ (k : ℕ). nat_eq k 0) (and_zero_r n))

    with_first : IsIn (common_with 0 common n) i × ((m : ℕ) → Listed m ms → IsIn m i) → IsIn common i × ((m : ℕ) → Listed m (n ∷ ms) → IsIn m i)
    with_first h = let both = in_both common n i (subst (λ (k : ℕ). IsIn k i) and_all h.0) in (both.0, each both.1 h.1)
      where
        each : IsIn n i → ((m : ℕ) → Listed m ms → IsIn m i) → (m : ℕ) → Listed m (n ∷ ms) → IsIn m i
        each a others m first = a
        each a others m (later l) = others m l

-- the vertex at which a half-space is as great as at a point of the weak system, and its mask
record HasGreat (cell : List HalfSpace) (t : Rows) (f : HalfSpace) : Type 0 where
  pub vertex : RationalPoint
  pub listed : Listed (mask_of cell vertex) t.planes
  pub positive : pos 0 <ℤ side_value f vertex

-- where a half-space is positive strictly inside, it is so at a vertex
some_positive : {most : ℕ} (cell : List HalfSpace) (t : Rows) (p : RationalPoint) (f : HalfSpace) → HasVertices most cell t → IsStrict (with_cube cell) p → pos 0 <ℤ side_value f p → HasGreat cell t f
some_positive cell t p f k s above =
    let w = strict_is_weak (with_cube cell) p s in
    let g = vertex_is_as_great_spec cell k.bounds p w.point (weak_true (with_cube cell) p w) f in
    let v = g.1 in
    let here : Contains (vertices cell) v = get_contains (vertices cell) g.0 v g.2 in
    let listed : Listed v t.points = contains_listed v t.points (k.complete v here) in
    record {
      vertex = v;
      listed = subst (λ (ms : List ℕ). Listed (mask_of cell v) ms) (sym k.table.planes) (listed_map (mask_of cell) v t.points listed);
      positive = greater_positive (side_value f p) (side_value f v) p.w v.w above w.point (vertex_corner cell v here).weak.point g.3;
    }
  where
    listed_map : {A B : Type 0} (f : A → B) (x : A) (xs : List A) → Listed x xs → Listed (f x) (map f xs)
    listed_map f x [] l = elim l [ ]
    listed_map f x (y ∷ ys) first = first
    listed_map f x (y ∷ ys) (later l) = later (listed_map f x ys l)

-- where no plane is common, the cell has a point
pub inside_shown : {most : ℕ} (cell : List HalfSpace) (t : Rows) → HasVertices most cell t → common_of 0 (2 ^ 128 - 1) t.planes ≡ 0 → IsNonempty (shape_of_cell cell)
inside_shown cell t k e = shown (clip_common cell t 0 k)
  where
    shown : HasCommon cell (common_of 0 (2 ^ 128 - 1) t.planes) → IsNonempty (shape_of_cell cell)
    shown (none f) = absurd (not_all (sym e ∙ f))
      where
        not_all : 0 ≡ 2 ^ 128 - 1 → ⊥
        not_all f = omega (arith, f)
    shown (some p h) = (
      p,
      positive_is_member cell p h.point (λ g l.
          let s = listed_at cell g k.few (listed_contains g (with_cube cell) l) in
          h.above s.place g s.at (ap (λ (n : ℕ). bit_at n s.place) e ∙ bit_at-zero s.place)),
    )

-- where the cell has a point, no plane is common
pub inside_needed : {most : ℕ} (cell : List HalfSpace) (t : Rows) → HasVertices most cell t → IsNonempty (shape_of_cell cell) → common_of 0 (2 ^ 128 - 1) t.planes ≡ 0
inside_needed cell t k n =
    let m = member_moves_inside_spec cell k.bounds n in
    let s = strict_of cell m.0 m.1.0 m.1.1 in
    ⊎_elim (λ (e : common ≡ 0). e) (λ (h : common ≡ 0 → ⊥). absurd (clash m.0 s h)) (same_or_not common 0)
  where
    common : ℕ
    common = common_of 0 (2 ^ 128 - 1) t.planes

    one : HalfSpace
    one = half_space_of (pos 1) (pos 0) (pos 0) cube_bound

    clash : (p : RationalPoint) → IsStrict (with_cube cell) p → (common ≡ 0 → ⊥) → ⊥
    clash p s h =
        let small : common < 2 ^ 128 = omega (arith, common_of-le 0 (2 ^ 128 - 1) t.planes) in
        let low = bit_at-trailing_zeros w128 common (omega (arith, h)) small in
        let i = trailing_zeros w128 common in
        let each = (in_each (2 ^ 128 - 1) t.planes i low.1).1 in
        let some = some_positive cell t p one k s (s.sides one (listed_right one cell cube_half_spaces first)) in
        let plane = in_mask cell some.vertex i k.few (each (mask_of cell some.vertex) some.listed) in
        let above = some_positive cell t p plane.half k s (s.sides plane.half (contains_listed plane.half (with_cube cell) (at_listed cell i plane.half plane.at))) in
        let here = in_mask cell above.vertex i k.few (each (mask_of cell above.vertex) above.listed) in
        above_not_zero (side_value plane.half above.vertex) above.positive
        (subst (λ (g : HalfSpace). side_value g above.vertex ≡ pos 0) (same_some here.half plane.half (sym here.at ∙ plane.at)) here.on)

-- ---- the side of a half-space

-- a half-space stands at another place
record StandsElsewhere (cell : List HalfSpace) (place : ℕ) (g : HalfSpace) : Type 0 where
  pub place_of : ℕ
  pub at : half_at cell place_of ≡ Some g
  pub other : place_of ≡ place → ⊥

-- each of the half-spaces without one stands at another place
elsewhere : (cell : List HalfSpace) (place : ℕ) (g : HalfSpace) → length cell ≤ 64 → place < length cell → Contains (take place cell ++ drop (place + 1) cell ++ cube_half_spaces) g → StandsElsewhere cell place g
elsewhere cell place g few l c =
    ⊎_elim
    (λ (m : Listed g (take place cell ++ drop (place + 1) cell)).
    ⊎_elim
    (λ (n : Listed g (take place cell)). let r = taken_at place cell g n in record { place_of = r.0; at = at_cell cell r.0 (omega (arith, r.1, l, few)) ∙ r.2; other = smaller r.0 place r.1 })
    (λ (n : Listed g (drop (place + 1) cell)).
    let r = dropped_at (place + 1) cell g n in
    record { place_of = r.0; at = at_cell cell r.0 (omega (arith, get_below cell r.0 g r.2, few)) ∙ r.2; other = greater r.0 place r.1 })
    (listed_cases g (take place cell) (drop (place + 1) cell) m))
    (λ (m : Listed g cube_half_spaces).
    let r = place_of g cube_half_spaces m in
    record { place_of = r.0 + 64; at = at_cube cell (r.0 + 64) (omega arith) ∙ ap (slice_get cube_half_spaces) (behind r.0) ∙ r.1; other = greater (r.0 + 64) place (omega (arith, l, few)) })
    (listed_cases g (take place cell ++ drop (place + 1) cell) cube_half_spaces (contains_listed g (take place cell ++ drop (place + 1) cell ++ cube_half_spaces) c))
  where
    smaller : (a b : ℕ) → a < b → a ≡ b → ⊥
    smaller a b h e = omega (arith, h, e)

    greater : (a b : ℕ) → b + 1 ≤ a → a ≡ b → ⊥
    greater a b h e = omega (arith, h, e)

    behind : (n : ℕ) → n + 64 - 64 ≡ n
    behind n = omega arith

    taken_at : {A : Type 0} (n : ℕ) (xs : List A) (x : A) → Listed x (take n xs) → (j : ℕ) × (j < n) × (slice_get xs j ≡ Some x)
    taken_at zero xs x m = elim m [ ]
    taken_at (suc n) [] x m = elim m [ ]
    taken_at (suc n) (y ∷ ys) x first = (0, omega arith, refl)
    taken_at (suc n) (y ∷ ys) x (later m) = let r = taken_at n ys x m in (suc r.0, omega (arith, r.1), r.2)

    dropped_at : {A : Type 0} (n : ℕ) (xs : List A) (x : A) → Listed x (drop n xs) → (j : ℕ) × (n ≤ j) × (slice_get xs j ≡ Some x)
    dropped_at zero xs x m = let r = place_of x xs m in (r.0, omega arith, r.1)
    dropped_at (suc n) [] x m = elim m [ ]
    dropped_at (suc n) (y ∷ ys) x m = let r = dropped_at n ys x m in (suc r.0, omega (arith, r.1), r.2)

-- where the vertices on a plane have no other plane in common, the half-space has a side of its own
pub side_shown : {most : ℕ} (cell : List HalfSpace) (t : Rows) (place set : ℕ) → HasVertices most cell t → place < length cell → set ≡ 2 ^ place → common_of set (2 ^ 128 - 1) t.planes ≡ set → HasSide cell place
side_shown cell t place set k l e f = shown (subst (λ (m : ℕ). HasCommon cell m) (f ∙ e) (clip_common cell t set k))
  where
    shown : HasCommon cell (2 ^ place) → HasSide cell place
    shown (none g) = absurd (not_all g)
      where
        not_all : 2 ^ place ≡ 2 ^ 128 - 1 → ⊥
        not_all g = zero_not_one (sym (bit_at-pow_other place (place + 1) (omega arith)) ∙ ap (λ (n : ℕ). bit_at n (place + 1)) g ∙ bit_at_ones 128 (place + 1) (omega (arith, l, k.few)))
    shown (some p h) =
        let s = get_some cell place l in
        record {
          half = s.0;
          at = s.1;
          point = p;
          is_point = h.point;
          on = h.on place s.0 (at_cell cell place (omega (arith, l, k.few)) ∙ s.1) (bit_at-pow_same place);
          inside = λ g c. let r = elsewhere cell place g k.few l c in h.above r.place_of g r.at (bit_at-pow_other place r.place_of r.other);
        }

-- ---- what the code asks

-- whether no plane is common, as the code tests it
pub has_inside_is : {most : ℕ} (cell : List HalfSpace) (t : Rows) (masks : List ℕ) (common : ℕ) → HasVertices most cell t → masks ≡ t.planes → common ≡ common_of 0 (2 ^ 128 - 1) masks → (nat_eq common 0 ≡ true) ↔ IsNonempty (shape_of_cell cell)
has_inside_is cell t masks common k e f = (λ h. inside_shown cell t k (sym same ∙ equal common h), λ n. equals common (same ∙ inside_needed cell t k n))
  where
    same : common ≡ common_of 0 (2 ^ 128 - 1) t.planes
    same = f ∙ ap (common_of 0 (2 ^ 128 - 1)) e

    equal : (n : ℕ) → nat_eq n 0 ≡ true → n ≡ 0
    equal n h = grind (arith, nat_tests)

    equals : (n : ℕ) → n ≡ 0 → nat_eq n 0 ≡ true
    equals n h = grind (arith, nat_tests)

-- whether the vertices on a plane have no other in common, as the code tests it
pub has_side_is : {most : ℕ} (cell : List HalfSpace) (t : Rows) (masks : List ℕ) (place common : ℕ) → HasVertices most cell t → masks ≡ t.planes → place < length cell → common ≡ common_of (1 * 2 ^ place % 2 ^ 128) (2 ^ 128 - 1) masks
    → nat_eq common (1 * 2 ^ place % 2 ^ 128) ≡ true → HasSide cell place
has_side_is cell t masks place common k e l f h =
    side_shown cell t place (1 * 2 ^ place % 2 ^ 128) k l (one_shl place 128 (omega (arith, l, k.few)))
    (sym (f ∙ ap (common_of (1 * 2 ^ place % 2 ^ 128) (2 ^ 128 - 1)) e) ∙ equal common (1 * 2 ^ place % 2 ^ 128) h)
  where
    equal : (m n : ℕ) → nat_eq m n ≡ true → m ≡ n
    equal m n h = grind (arith, nat_tests)
