-- What is put into a table where an edge crosses the plane of a further half-space.
use Rattle.std.proofs.Common.{◌≡◌, ℕ, ◌+◌, ◌-◌, ◌<◌, ◌≤◌, ℤ, pos, inl, inr, ⊎_elim, Bool, true, false, cond, ◌&&◌, List, [], ◌∷◌, ◌++◌, length, map, refl, sym, ap, ◌∙◌, subst, arith, length-append}
use Rattle.std.specs.Prelude.{Option, Some, None, min, bit_or}
use Rattle.std.specs.Int.{bit_at}
use Rattle.std.specs.List.{Contains, slice_get}
use Rattle.std.proofs.lemmas.Bool.{cases_lt}
use Rattle.std.proofs.lemmas.Nat.Bits.{bit_at_and}
use Rattle.rp_algebra.specs.Integer.{is_zero}
use Rattle.rp_algebra.proofs.Listed.{Listed, listed_left, listed_right, listed_cases, place_of}
use Rattle.rp_algebra.proofs.Options.{same_some}
use Rattle.rp_algebra.proofs.Tests.{is_zero_true, is_zero_false}
use Rattle.rp_algebra.proofs.Numbers.{zero_or_not}
use Rattle.rp_geometry.specs.Geometry.{RationalPoint, HalfSpace, IsPoint, SamePlace, side_value, with_cube, cube_half_spaces, reduced_point}
use Rattle.rp_geometry.specs.searches.Vertex.{meeting_point, vertices}
use Rattle.rp_convex.proofs.LowestOne.{lowest_terms_are_one_spec}
use Rattle.rp_convex.specs.Edges.{PassesThroughBoth, IsCrossedEdge}
use Rattle.rp_convex.proofs.Between.{crossing, crossing_weak}
use Rattle.rp_convex.proofs.Corners.{meeting_is, is_meeting, vertex_corner}
use Rattle.rp_convex.proofs.Edges.{not_parallel, apart, at_crossing, vertices_follow_edges_spec, crossing_keeps_planes_spec}
use Rattle.rp_convex.proofs.Standing.{listed_contains, contains_listed}
use Rattle.rp_space.specs.Places.{IsIn}
use Rattle.rp_clip.specs.Masks.{half_at, is_through, mask_of, HasHalfSpaces}
use Rattle.rp_clip.specs.Meetings.{ArePlaces, IsFirstMet}
use Rattle.rp_clip.specs.Tables.{Rows, AreDifferentVertices, HasMoreVertices, IsTable, IsPut}
use Rattle.rp_clip.specs.Crossings.{IsBetween, with_one, IsGrown, IsCrossed}
use Rattle.rp_clip.specs.declared.meet.Met.{Met}
use Rattle.rp_clip.proofs.HalfAt.{at_cell, at_cube, get_below}
use Rattle.rp_clip.proofs.Lists.{contains_map, map_contains, push_cases, push_keeps, push_has, push_distinct, map_push, get_contains}
use Rattle.rp_space.proofs.Bits.{bit_of}
use Rattle.rp_clip.proofs.Masks.{mask_bit, in_mask, mask_in, in_both, one_longer, new_place, mask_with}

-- ---- half-spaces and places

-- the half-space at a place stands in the list
pub at_listed : (cell : List HalfSpace) (i : ℕ) (h : HalfSpace) → half_at cell i ≡ Some h → Contains (with_cube cell) h
at_listed cell i h e =
    ⊎_elim
    (λ (l : i < 64). listed_contains h (with_cube cell) (listed_left h cell cube_half_spaces (contains_listed h cell (get_contains cell i h (sym (at_cell cell i l) ∙ e)))))
    (λ (l : 64 ≤ i). listed_contains h (with_cube cell) (listed_right h cell cube_half_spaces (contains_listed h cube_half_spaces (get_contains cube_half_spaces (i - 64) h (sym (at_cube cell i l) ∙ e)))))
    (cases_lt i 64)

-- a half-space of the list stands at a place
pub record StandsAt (cell : List HalfSpace) (h : HalfSpace) : Type 0 where
  pub place : ℕ
  pub at : half_at cell place ≡ Some h

-- each does
pub listed_at : (cell : List HalfSpace) (h : HalfSpace) → length cell ≤ 64 → Contains (with_cube cell) h → StandsAt cell h
listed_at cell h few c =
    ⊎_elim
    (λ (l : Listed h cell). let r = place_of h cell l in let k = get_below cell r.0 h r.1 in record { place = r.0; at = at_cell cell r.0 (omega (arith, k, few)) ∙ r.1 })
    (λ (l : Listed h cube_half_spaces).
    let r = place_of h cube_half_spaces l in
    record { place = r.0 + 64; at = at_cube cell (r.0 + 64) (omega arith) ∙ ap (slice_get cube_half_spaces) (behind r.0) ∙ r.1 })
    (listed_cases h cell cube_half_spaces (contains_listed h (with_cube cell) c))
  where
    behind : (n : ℕ) → n + 64 - 64 ≡ n
    behind n = omega arith

-- ---- the edge of two planes that two vertices share

-- the planes of a set between two vertices pass through both
through_both : (cell : List HalfSpace) (h : HalfSpace) (set : ℕ) (b : IsBetween cell h set) (i : ℕ) (f : HalfSpace) → IsIn set i → half_at cell i ≡ Some f → PassesThroughBoth f b.above b.below
through_both cell h set b i f e at =
    let few : length cell ≤ 64 = (let r = b.room in omega (arith, r)) in
    let k = in_both (mask_of cell b.above) (mask_of cell b.below) i (subst (λ (n : ℕ). IsIn n i) b.common e) in
    let u = in_mask cell b.above i few k.0 in
    let w = in_mask cell b.below i few k.1 in (
      subst (λ (g : HalfSpace). side_value g b.above ≡ pos 0) (same_some u.half f (sym u.at ∙ at)) u.on,
      subst (λ (g : HalfSpace). side_value g b.below ≡ pos 0) (same_some w.half f (sym w.at ∙ at)) w.on,
    )

-- each place of the set has a half-space
pub between_half_spaces : (cell : List HalfSpace) (h : HalfSpace) (set : ℕ) → IsBetween cell h set → HasHalfSpaces cell set
between_half_spaces cell h set b i e =
    let few : length cell ≤ 64 = (let r = b.room in omega (arith, r)) in
    let u = in_mask cell b.above i few (in_both (mask_of cell b.above) (mask_of cell b.below) i (subst (λ (n : ℕ). IsIn n i) b.common e)).0 in
    (u.half, u.at)

-- two of its planes that meet that of h in a point are those of a crossed edge
crossed_edge : (cell : List HalfSpace) (h : HalfSpace) (set i j : ℕ) (f g : HalfSpace) (v : RationalPoint) (b : IsBetween cell h set) → ArePlaces cell set 0 i j f g → meeting_point f g h ≡ Some v
    → IsCrossedEdge cell h f g b.above b.below
crossed_edge cell h set i j f g v b a e = record {
  edge = record {
    first_vertex = b.above_vertex;
    second_vertex = b.below_vertex;
    first_listed = at_listed cell i f a.first;
    second_listed = at_listed cell j g a.second;
    not_parallel = not_parallel f g h (meeting_is f g h v e).tight.independent;
    first = through_both cell h set b i f a.first_in a.first;
    second = through_both cell h set b j g a.second_in a.second;
  };
  positive = b.positive;
  negative = b.negative;
}

-- the planes of a set between two vertices meet that of h in one point alone
one_crossing : (cell : List HalfSpace) (h : HalfSpace) (set i j k l : ℕ) (f g d e : HalfSpace) (v w : RationalPoint) → IsBetween cell h set
    → ArePlaces cell set 0 i j f g → meeting_point f g h ≡ Some v → ArePlaces cell set 0 k l d e → meeting_point d e h ≡ Some w → v ≡ w
one_crossing cell h set i j k l f g d e v w b a p c q =
    let s = at_crossing cell h f g b.above b.below v (crossed_edge cell h set i j f g v b a p) p in
    let t = at_crossing cell h d e b.above b.below w (crossed_edge cell h set k l d e w b c q) q in
    let m = meeting_is f g h v p in
    let n = meeting_is d e h w q in
    sym m.lowest ∙ sym (same_lowest cell h f g b.above b.below v m.point (crossed_edge cell h set i j f g v b a p) s)
    ∙ same_lowest cell h f g b.above b.below w n.point (crossed_edge cell h set i j f g v b a p) t ∙ n.lowest
  where
    same_lowest : (cell : List HalfSpace) (h f g : HalfSpace) (above below u : RationalPoint) → IsPoint u → IsCrossedEdge cell h f g above below → SamePlace (crossing h above below) u
        → reduced_point (crossing h above below) ≡ reduced_point u
    same_lowest cell h f g above below u pu k s = lowest_terms_are_one_spec (crossing h above below) u (crossing_weak (with_cube cell) h above below (apart cell h f g above below k)).point pu s

-- a point where they do is a vertex with h
crossing_vertex : (cell : List HalfSpace) (h : HalfSpace) (set i j : ℕ) (f g : HalfSpace) (v : RationalPoint) → IsBetween cell h set → ArePlaces cell set 0 i j f g → meeting_point f g h ≡ Some v
    → Contains (vertices (with_one cell h)) v
crossing_vertex cell h set i j f g v b a e =
    (vertices_follow_edges_spec cell h v).1 (inr (record { one = f; two = g; above = b.above; below = b.below; crossed = crossed_edge cell h set i j f g v b a e; at = e }))

-- two tests of which the one is both of two others
both_bits : (a b c : Bool) → a ≡ (b && c) → cond a 1 0 ≡ min (cond b 1 0) (cond c 1 0)
both_bits a true true e = ap (λ k. cond k 1 0) e
both_bits a true false e = ap (λ k. cond k 1 0) e
both_bits a false true e = ap (λ k. cond k 1 0) e
both_bits a false false e = ap (λ k. cond k 1 0) e

-- a number is 0 exactly where two others are
both_zero : (x y z : ℤ) → (x ≡ pos 0 → (y ≡ pos 0) × (z ≡ pos 0)) → ((y ≡ pos 0) × (z ≡ pos 0) → x ≡ pos 0) → is_zero x ≡ (is_zero y && is_zero z)
both_zero x y z to from =
    ⊎_elim
    (λ (ey : y ≡ pos 0). ⊎_elim
    (λ (ez : z ≡ pos 0). is_zero_true x (from (ey, ez)) ∙ (λ i. sym (is_zero_true y ey) i && sym (is_zero_true z ez) i))
    (λ (nz : z ≡ pos 0 → ⊥). is_zero_false x (λ e. nz (to e).1) ∙ (λ i. sym (is_zero_true y ey) i && sym (is_zero_false z nz) i))
    (zero_or_not z))
    (λ (ny : y ≡ pos 0 → ⊥). is_zero_false x (λ e. ny (to e).0) ∙ (λ i. sym (is_zero_false y ny) i && is_zero z))
    (zero_or_not y)

-- the planes through that point are those of the set, and h
crossing_mask : (cell : List HalfSpace) (h : HalfSpace) (set i j : ℕ) (f g : HalfSpace) (v : RationalPoint) → IsBetween cell h set → ArePlaces cell set 0 i j f g → meeting_point f g h ≡ Some v
    → mask_of (with_one cell h) v ≡ bit_or set (new_place cell)
crossing_mask cell h set i j f g v b a e =
    mask_with cell h v set b.room (meeting_is f g h v e).tight.third (λ k n. each k (half_at cell k) refl)
  where
    few : length cell ≤ 64
    few = let r = b.room in omega (arith, r)

    parts : (k : ℕ) → bit_at set k ≡ min (bit_of (is_through b.above) (half_at cell k)) (bit_of (is_through b.below) (half_at cell k))
    parts k = ap (λ (n : ℕ). bit_at n k) b.common ∙ bit_at_and (mask_of cell b.above) (mask_of cell b.below) k ∙ (λ t. min (mask_bit cell b.above k few t) (mask_bit cell b.below k few t))

    of_half : (k : ℕ) (o : Option HalfSpace) → half_at cell k ≡ o → min (bit_of (is_through b.above) o) (bit_of (is_through b.below) o) ≡ bit_of (is_through v) o
    of_half k None s = refl
    of_half k (Some d) s =
        let r = crossing_keeps_planes_spec cell h f g b.above b.below v (crossed_edge cell h set i j f g v b a e) e d (at_listed cell k d s) in
        sym (both_bits (is_zero (side_value d v)) (is_zero (side_value d b.above)) (is_zero (side_value d b.below)) (both_zero (side_value d v) (side_value d b.above) (side_value d b.below) r.0 r.1))

    each : (k : ℕ) (o : Option HalfSpace) → half_at cell k ≡ o → bit_at set k ≡ bit_of (is_through v) (half_at cell k)
    each k o s = parts k ∙ of_half k (half_at cell k) refl

-- ---- one vertex has one set of places

-- vertices with the same planes through them are the same point: three of these planes meet in it alone
same_mask : (cell : List HalfSpace) (u v : RationalPoint) → length cell ≤ 64 → Contains (vertices cell) u → Contains (vertices cell) v → mask_of cell u ≡ mask_of cell v → u ≡ v
same_mask cell u v few cu cv e =
    let k = vertex_corner cell u cu in
    let l = vertex_corner cell v cv in
    let t = k.tight in
    let at_u = is_meeting k.one k.two k.three u (record { point = k.weak.point; lowest = k.lowest; tight = t }) in
    let at_v = is_meeting k.one k.two k.three v (record {
      point = l.weak.point;
      lowest = l.lowest;
      tight = record { independent = t.independent; first = also k.one k.one_listed t.first; second = also k.two k.two_listed t.second; third = also k.three k.three_listed t.third };
    }) in
    same_some u v (sym at_u ∙ at_v)
  where
    also : (f : HalfSpace) → Listed f (with_cube cell) → side_value f u ≡ pos 0 → side_value f v ≡ pos 0
    also f c z =
        let s = listed_at cell f few (listed_contains f (with_cube cell) c) in
        let t = in_mask cell v s.place few (subst (λ (n : ℕ). IsIn n s.place) e (mask_in cell u s.place f few s.at z)) in
        subst (λ (g : HalfSpace). side_value g v ≡ pos 0) (same_some t.half f (sym t.at ∙ s.at)) t.on

-- ---- a point that is put into a table

-- a vertex with the places of a row stands in that row
row_of_mask : {most : ℕ} (cell : List HalfSpace) (t : Rows) (p : RationalPoint) (planes : ℕ) → length cell ≤ 64 → IsTable most cell t → Contains (vertices cell) p → mask_of cell p ≡ planes → Contains t.planes planes → Contains t.points p
row_of_mask cell t p planes few k v m c =
    let r = contains_map (mask_of cell) t.points planes (subst (λ (xs : List ℕ). Contains xs planes) k.planes c) in
    subst (λ (q : RationalPoint). Contains t.points q) (same_mask cell r.0 p few (k.different.vertices r.0 r.1) v (sym r.2 ∙ sym m)) r.1

-- a vertex whose places no row has does not stand in the table
no_row : {most : ℕ} (cell : List HalfSpace) (t : Rows) (p : RationalPoint) (planes : ℕ) → IsTable most cell t → mask_of cell p ≡ planes → (Contains t.planes planes → ⊥) → Contains t.points p → ⊥
no_row cell t p planes k m n c = n (subst (λ (xs : List ℕ). Contains xs planes) (sym k.planes) (subst (λ (s : ℕ). Contains (map (mask_of cell) t.points) s) m (map_contains (mask_of cell) t.points p c)))

-- different vertices with one that no row has
one_more : {most : ℕ} (cell : List HalfSpace) (t : Rows) (p : RationalPoint) (planes : ℕ) → IsTable most cell t → Contains (vertices cell) p → mask_of cell p ≡ planes → (Contains t.planes planes → ⊥) → AreDifferentVertices cell (t.points ++ p ∷ [])
one_more cell t p planes k v m n = record {
  distinct = push_distinct t.points p k.different.distinct (no_row cell t p planes k m n);
  vertices = λ u c. ⊎_elim (k.different.vertices u) (λ (e : u ≡ p). subst (λ (q : RationalPoint). Contains (vertices cell) q) (sym e) v) (push_cases t.points p u c);
}

-- a table with a further vertex at its end
put_end : (most : ℕ) (cell : List HalfSpace) (t new : Rows) (p : RationalPoint) (planes : ℕ) → IsTable most cell t → Contains (vertices cell) p → mask_of cell p ≡ planes → (Contains t.planes planes → ⊥) → length t.points < most
    → new.points ≡ t.points ++ p ∷ [] → new.planes ≡ t.planes ++ planes ∷ [] → IsTable most cell new
put_end most cell t new p planes k v m n l ep el = record {
  different = subst (λ (xs : List RationalPoint). AreDifferentVertices cell xs) (sym ep) (one_more cell t p planes k v m n);
  planes = el ∙ (λ i. k.planes i ++ sym m i ∷ []) ∙ sym (map_push (mask_of cell) t.points p) ∙ ap (map (mask_of cell)) (sym ep);
  fits = subst (λ (xs : List RationalPoint). length xs ≤ most) (sym ep) (omega (arith, l, length-append t.points (p ∷ [])));
}

-- a vertex that is put into a table
put_grown : {most : ℕ} (cell : List HalfSpace) (h : HalfSpace) (old new : Rows) (p : RationalPoint) (planes : ℕ) → length cell < 64 → IsTable most (with_one cell h) old → Contains (vertices (with_one cell h)) p
    → mask_of (with_one cell h) p ≡ planes → IsPut most old p planes new true → IsGrown most cell h old new × Contains new.points p
put_grown {most} cell h old new p planes room t v m (inl (c, e)) = (
  record { table = subst (λ (r : Rows). IsTable most (with_one cell h) r) (sym e) t; all = λ u k. subst (λ (r : Rows). Contains r.points u) (sym e) k },
  subst (λ (r : Rows). Contains r.points p) (sym e) (row_of_mask (with_one cell h) old p planes (one_longer cell h room) t v m c),
)
put_grown {most} cell h old new p planes room t v m (inr (n, l, ep, el)) = (
  record { table = put_end most (with_one cell h) old new p planes t v m n l ep el; all = λ u k. subst (λ (xs : List RationalPoint). Contains xs u) (sym ep) (push_keeps old.points p u k) },
  subst (λ (xs : List RationalPoint). Contains xs p) (sym ep) (push_has old.points p),
)

-- a vertex for which there is no room
put_full : {most : ℕ} (cell : List HalfSpace) (h : HalfSpace) (old new : Rows) (p : RationalPoint) (planes : ℕ) → IsTable most (with_one cell h) old → Contains (vertices (with_one cell h)) p → mask_of (with_one cell h) p ≡ planes
    → IsPut most old p planes new false → HasMoreVertices most (with_one cell h)
put_full cell h old new p planes t v m (n, l) = (old.points ++ p ∷ [], one_more (with_one cell h) old p planes t v m n, omega (arith, l, length-append old.points (p ∷ [])))

-- the crossing of a set that was put into a table
pub crossed_put : {most : ℕ} (cell : List HalfSpace) (h : HalfSpace) (set : ℕ) (old new : Rows) (m : Met) (planes : ℕ) (r : Bool) → IsBetween cell h set → IsTable most (with_one cell h) old
    → IsFirstMet cell set 0 h m → planes ≡ bit_or set (new_place cell) → IsPut most old (reduced_point m.at) planes new r → IsCrossed most cell h set old new r
crossed_put cell h set old new m planes true b t k e put =
    let a = k.met.places in
    let v = reduced_point m.at in
    let at = sym k.met.at in
    let g = put_grown cell h old new v planes b.room t (crossing_vertex cell h set m.first m.second k.met.one k.met.two v b a at) (crossing_mask cell h set m.first m.second k.met.one k.met.two v b a at ∙ sym e) put in
    (g.0, λ i j f d w c q. subst (λ (u : RationalPoint). Contains new.points u) (one_crossing cell h set m.first m.second i j k.met.one k.met.two f d v w b a at c q) g.1)
crossed_put cell h set old new m planes false b t k e put =
    let a = k.met.places in
    let v = reduced_point m.at in
    let at = sym k.met.at in
    put_full cell h old new v planes t (crossing_vertex cell h set m.first m.second k.met.one k.met.two v b a at) (crossing_mask cell h set m.first m.second k.met.one k.met.two v b a at ∙ sym e) put
