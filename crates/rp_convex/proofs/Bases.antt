-- The basis of a vertex that is found one plane after the other: it is there, and it is the first.
use Rattle.std.proofs.Common.{◌≡◌, ℕ, suc, ◌<◌, ◌≤◌, pos, inl, inr, ⊎_elim, Bool, true, false, not, ◌&&◌, List, [], ◌∷◌, sym, ap, ◌∙◌, subst, arith}
use Rattle.std.specs.List.{slice_get}
use Rattle.std.proofs.lemmas.Bool.{cases_order}
use Rattle.rp_algebra.specs.Integer.{is_zero}
use Rattle.rp_algebra.proofs.IntLaws.{cancel_mul_ne_right_ℤ}
use Rattle.rp_algebra.proofs.Listed.{Listed, all_of, place_of, listed_at}
use Rattle.rp_algebra.proofs.Numbers.{zero_or_not, above_not_zero, same_or_less, last_only}
use Rattle.rp_algebra.proofs.Options.{same_some}
use Rattle.rp_algebra.proofs.Reify.{by_ring_at, reify}
use Rattle.rp_algebra.proofs.Tests.{and_first, and_second, and_true, zero_is, is_zero_true, is_zero_false, false_not_true, false_unless, all_zero_true, false_of_not}
use Rattle.rp_geometry.specs.Geometry.{RationalPoint, HalfSpace, IsPoint, IsHalfSpace, side_value, with_cube}
use Rattle.rp_geometry.specs.searches.Vertex.{meeting_weight}
use Rattle.rp_geometry.specs.laws.CellLaws.{AreHalfSpaces}
use Rattle.rp_geometry.proofs.Bounds.{with_cube_bounds}
use Rattle.rp_convex.specs.Edges.{are_parallel}
use Rattle.rp_convex.specs.Bases.{Places, IsBefore, PassesAt, IsBasis, IsGreedyBasis, GreedyBasisIsFirst, VertexHasGreedyBasis}
use Rattle.rp_convex.proofs.Corners.{IsCornerOf, vertex_corner}
use Rattle.rp_convex.proofs.Edges.{not_parallel}
use Rattle.rp_convex.proofs.Exchange.{HasNormal, in_x, in_y, in_z, parallel_is, is_parallel, parallel_itself, parallel_last, one_not_parallel, OneMeets, by_first, by_second, by_third, one_meets}
use Rattle.rp_convex.proofs.LeastPlace.{LeastPlace, least_place}

-- ---- it is the first

-- one place has one half-space
same_at : (hs : List HalfSpace) (v : RationalPoint) (i j : ℕ) (g h : HalfSpace) → i ≡ j → PassesAt hs v i g → PassesAt hs v j h → g ≡ h
same_at hs v i j g h e a b = same_some g h (sym a.stands ∙ ap (slice_get hs) e ∙ b.stands)

-- the law
pub greedy_basis_is_first_spec : GreedyBasisIsFirst
greedy_basis_is_first_spec hs v p k = (k.basis, first)
  where
    second : (q : Places) → (b : IsBasis hs v q) → k.basis.one ≡ b.one → p.first < q.second → p.second ≤ q.second
    second q b e l = k.next q.second b.two l b.second (subst (λ (u : HalfSpace). are_parallel u b.two ≡ false) (sym e) (not_parallel b.one b.two b.three b.independent))

    third : (q : Places) → (b : IsBasis hs v q) → k.basis.one ≡ b.one → k.basis.two ≡ b.two → p.second < q.third → p.third ≤ q.third
    third q b e f l = k.last q.third b.three l b.third (λ z. b.independent ((λ i. meeting_weight (sym e i) (sym f i) b.three) ∙ z))

    first : (q : Places) → IsBasis hs v q → IsBefore q p → ⊥
    first q b (inl l) = let m = k.lowest q.first b.one b.first in absurd (omega (arith, l, m))
    first q b (inr (e, inl l)) =
        let s = same_at hs v p.first q.first k.basis.one b.one (sym e) k.basis.first b.first in
        let r = b.rises in
        let m = second q b s (omega (arith, r, e)) in
        absurd (omega (arith, l, m))
    first q b (inr (e, inr (f, l))) =
        let s = same_at hs v p.first q.first k.basis.one b.one (sym e) k.basis.first b.first in
        let t = same_at hs v p.second q.second k.basis.two b.two (sym f) k.basis.second b.second in
        let r = b.rises_on in
        let m = third q b s t (omega (arith, r, f)) in
        absurd (omega (arith, l, m))

-- ---- it is there

-- the determinant with a plane twice, as the last two, is 0
twice_last : (f g : HalfSpace) → meeting_weight f g g ≡ pos 0
twice_last f g = by_ring_at (f.a ∷ f.b ∷ f.c ∷ g.a ∷ g.b ∷ g.c ∷ []) (search reify depth 40 fits 100000) tt

-- a plane through a point has a normal
pub has_normal : (h : HalfSpace) (v : RationalPoint) → IsHalfSpace h → IsPoint v → side_value h v ≡ pos 0 → HasNormal h
has_normal h v k w e =
    ⊎_elim
    (λ (ea : h.a ≡ pos 0). ⊎_elim
    (λ (eb : h.b ≡ pos 0). ⊎_elim
    (λ (ec : h.c ≡ pos 0).
    let ed = cancel_mul_ne_right_ℤ v.w h.d (above_not_zero v.w w) (sym (last_only h.a h.b h.c h.d v.x v.y v.z v.w ea eb ec) ∙ e) in
    absurd (false_not_true (is_zero h.a && is_zero h.b && is_zero h.c && is_zero h.d) (all_zero_true h.a h.b h.c h.d ea eb ec ed) k.nonzero))
    in_z
    (zero_or_not h.c))
    in_y
    (zero_or_not h.b))
    in_x
    (zero_or_not h.a)

-- the plane passes through the point
abbrev through : RationalPoint → HalfSpace → Bool
through v h = is_zero (side_value h v)

-- it does, and it is not parallel to the first
abbrev beside : RationalPoint → HalfSpace → HalfSpace → Bool
beside v f h = through v h && not (are_parallel f h)

-- it does, and it meets the first two in one point
abbrev across : RationalPoint → HalfSpace → HalfSpace → HalfSpace → Bool
across v f g h = through v h && not (is_zero (meeting_weight f g h))

-- the negation of a test that fails passes
not_true : (b : Bool) → b ≡ false → not b ≡ true
not_true b e = ap not e

-- what passes the second test
beside_true : (v : RationalPoint) (f h : HalfSpace) → side_value h v ≡ pos 0 → are_parallel f h ≡ false → beside v f h ≡ true
beside_true v f h e n = and_true (through v h) (not (are_parallel f h)) (is_zero_true (side_value h v) e) (not_true (are_parallel f h) n)

-- what passes the third
across_true : (v : RationalPoint) (f g h : HalfSpace) → side_value h v ≡ pos 0 → (meeting_weight f g h ≡ pos 0 → ⊥) → across v f g h ≡ true
across_true v f g h e n = and_true (through v h) (not (is_zero (meeting_weight f g h))) (is_zero_true (side_value h v) e) (not_true (is_zero (meeting_weight f g h)) (is_zero_false (meeting_weight f g h) n))

-- a half-space that passes the third test meets both in one point
across_is : (v : RationalPoint) (f g h : HalfSpace) → across v f g h ≡ true → meeting_weight f g h ≡ pos 0 → ⊥
across_is v f g h e z = false_not_true (is_zero (meeting_weight f g h)) (is_zero_true (meeting_weight f g h) z) (false_of_not (is_zero (meeting_weight f g h)) (and_second (through v h) (not (is_zero (meeting_weight f g h))) e))

-- the first plane of a corner
first_plane : (hs : List HalfSpace) (v : RationalPoint) → IsCornerOf hs v → LeastPlace (through v) hs 0
first_plane hs v k =
    let r = place_of k.one hs k.one_listed in
    least_place (through v) hs 0 (record { place = r.0; item = k.one; stands = r.1; from_on = omega arith; passes = is_zero_true (side_value k.one v) k.tight.first })

-- a plane through the corner stands no earlier than the first
not_earlier : (hs : List HalfSpace) (v : RationalPoint) (l : LeastPlace (through v) hs 0) (i : ℕ) (h : HalfSpace) → PassesAt hs v i h → l.place ≤ i
not_earlier hs v l i h a = l.least i h a.stands (omega arith) (is_zero_true (side_value h v) a.on)

-- a plane that is not parallel to the first stands behind it
behind_first : (hs : List HalfSpace) (v : RationalPoint) (l : LeastPlace (through v) hs 0) (i : ℕ) (h : HalfSpace) → PassesAt hs v i h → are_parallel l.item h ≡ false → l.place < i
behind_first hs v l i h a n = not_same (l.place) i (not_earlier hs v l i h a) differs
  where
    differs : l.place ≡ i → ⊥
    differs e =
        let s : l.item ≡ h = same_some l.item h (sym l.stands ∙ ap (slice_get hs) e ∙ a.stands) in
        false_not_true (are_parallel l.item h) (subst (λ (u : HalfSpace). are_parallel l.item u ≡ true) s (is_parallel l.item l.item (parallel_itself l.item))) n

    not_same : (m n : ℕ) → m ≤ n → (m ≡ n → ⊥) → m < n
    not_same m n l d = ⊎_elim (λ (e : m ≡ n). absurd (d e)) (λ (k : m < n). k) (same_or_less m n l)

-- the second plane of a corner
second_plane : (hs : List HalfSpace) (v : RationalPoint) (k : IsCornerOf hs v) (l : LeastPlace (through v) hs 0) → HasNormal l.item → LeastPlace (beside v l.item) hs (suc l.place)
second_plane hs v k l n =
    ⊎_elim
    (λ (e : are_parallel l.item k.one ≡ false). found k.one k.one_listed k.tight.first e)
    (λ (e : are_parallel l.item k.two ≡ false). found k.two k.two_listed k.tight.second e)
    (one_not_parallel l.item k.one k.two k.three n k.tight.independent)
  where
    found : (h : HalfSpace) → Listed h hs → side_value h v ≡ pos 0 → are_parallel l.item h ≡ false → LeastPlace (beside v l.item) hs (suc l.place)
    found h m on e =
        let r = place_of h hs m in
        let b = behind_first hs v l r.0 h (record { stands = r.1; on = on }) e in
        least_place (beside v l.item) hs (suc l.place) (record { place = r.0; item = h; stands = r.1; from_on = b; passes = beside_true v l.item h on e })

-- the second plane is not parallel to the first
second_apart : (hs : List HalfSpace) (v : RationalPoint) (l : LeastPlace (through v) hs 0) (m : LeastPlace (beside v l.item) hs (suc l.place)) → are_parallel l.item m.item ≡ false
second_apart hs v l m = false_of_not (are_parallel l.item m.item) (and_second (through v m.item) (not (are_parallel l.item m.item)) m.passes)

-- a plane that meets the first two in one point stands behind the second
behind_second : (hs : List HalfSpace) (v : RationalPoint) (l : LeastPlace (through v) hs 0) (m : LeastPlace (beside v l.item) hs (suc l.place)) (i : ℕ) (h : HalfSpace)
    → PassesAt hs v i h → (meeting_weight l.item m.item h ≡ pos 0 → ⊥) → m.place < i
behind_second hs v l m i h a n =
    ⊎_elim
    (λ (e : i ≡ m.place). absurd (same e))
    (⊎_elim
    (λ (e : i < m.place). absurd (earlier e))
    (λ (e : m.place < i). e))
    (cases_order i m.place)
  where
    apart : are_parallel l.item h ≡ false
    apart = false_unless (are_parallel l.item h) (λ t. n (parallel_last l.item m.item h (parallel_is l.item h t)))

    earlier : i < m.place → ⊥
    earlier e =
        let b = behind_first hs v l i h a apart in
        let k = m.least i h a.stands b (beside_true v l.item h a.on apart) in
        absurd (omega (arith, e, k))

    same : i ≡ m.place → ⊥
    same e =
        let s : m.item ≡ h = same_some m.item h (sym m.stands ∙ ap (slice_get hs) (sym e) ∙ a.stands) in
        n (subst (λ (u : HalfSpace). meeting_weight l.item m.item u ≡ pos 0) s (twice_last l.item m.item))

-- the third plane of a corner
third_plane : (hs : List HalfSpace) (v : RationalPoint) (k : IsCornerOf hs v) (l : LeastPlace (through v) hs 0) (m : LeastPlace (beside v l.item) hs (suc l.place))
    → LeastPlace (across v l.item m.item) hs (suc m.place)
third_plane hs v k l m = by_one (one_meets l.item m.item k.one k.two k.three (second_apart hs v l m) k.tight.independent)
  where
    found : (h : HalfSpace) → Listed h hs → side_value h v ≡ pos 0 → (meeting_weight l.item m.item h ≡ pos 0 → ⊥) → LeastPlace (across v l.item m.item) hs (suc m.place)
    found h t on e =
        let r = place_of h hs t in
        let b = behind_second hs v l m r.0 h (record { stands = r.1; on = on }) e in
        least_place (across v l.item m.item) hs (suc m.place) (record { place = r.0; item = h; stands = r.1; from_on = b; passes = across_true v l.item m.item h on e })

    by_one : OneMeets l.item m.item k.one k.two k.three → LeastPlace (across v l.item m.item) hs (suc m.place)
    by_one (by_first n) = found k.one k.one_listed k.tight.first n
    by_one (by_second n) = found k.two k.two_listed k.tight.second n
    by_one (by_third n) = found k.three k.three_listed k.tight.third n

-- a corner of half-spaces has the basis
pub corner_basis : (hs : List HalfSpace) (v : RationalPoint) → AreHalfSpaces hs → IsCornerOf hs v → (p : Places) × IsGreedyBasis hs v p
corner_basis hs v bounds k =
    let l = first_plane hs v k in
    let on = zero_is (side_value l.item v) l.passes in
    let normal = has_normal l.item v (all_of IsHalfSpace hs bounds l.item (listed_at l.item hs l.place l.stands)) k.weak.point on in
    let m = second_plane hs v k l normal in
    let t = third_plane hs v k l m in (
      record { first = l.place; second = m.place; third = t.place },
      record {
        basis = record {
          one = l.item;
          two = m.item;
          three = t.item;
          rises = m.from_on;
          rises_on = t.from_on;
          first = record { stands = l.stands; on = on };
          second = record { stands = m.stands; on = zero_is (side_value m.item v) (and_first (through v m.item) (not (are_parallel l.item m.item)) m.passes) };
          third = record { stands = t.stands; on = zero_is (side_value t.item v) (and_first (through v t.item) (not (is_zero (meeting_weight l.item m.item t.item))) t.passes) };
          independent = across_is v l.item m.item t.item t.passes;
        };
        lowest = λ i h a. not_earlier hs v l i h a;
        next = λ i h b a n. m.least i h a.stands b (beside_true v l.item h a.on n);
        last = λ i h b a n. t.least i h a.stands b (across_true v l.item m.item h a.on n);
      },
    )

-- the law
pub vertex_has_greedy_basis_spec : VertexHasGreedyBasis
vertex_has_greedy_basis_spec cell v bounds c = corner_basis (with_cube cell) v (with_cube_bounds cell bounds) (vertex_corner cell v c)
