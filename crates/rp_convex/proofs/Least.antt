-- The first vertex that passes a test is the one with the least first basis.
use Rattle.std.proofs.Common.{◌≡◌, ℕ, ◌<◌, inl, inr, ⊎_elim, Bool, true, false, ◌&&◌, List, refl, sym, ap, ◌∙◌, arith}
use Rattle.std.specs.Prelude.{Option, Some, None}
use Rattle.std.specs.List.{slice_get}
use Rattle.std.proofs.lemmas.Bool.{cases_order}
use Rattle.rp_algebra.proofs.Listed.{listed_at}
use Rattle.rp_geometry.specs.Geometry.{RationalPoint, HalfSpace, with_cube}
use Rattle.rp_geometry.specs.searches.Vertex.{meeting_point, vertex_at, vertex_if, first_vertex}
use Rattle.rp_geometry.proofs.Bounds.{with_cube_bounds}
use Rattle.rp_convex.proofs.Vertex.{weak_is, weak_true}
use Rattle.rp_convex.specs.Bases.{Places, IsBefore, IsBasis, IsPassingVertex, FirstVertexHasLeastBasis, NoFirstWhereNonePasses}
use Rattle.rp_convex.proofs.Bases.{corner_basis, greedy_basis_is_first_spec}
use Rattle.rp_convex.proofs.Corners.{IsCornerOf, meeting_is, is_meeting, passed_choice, vertex_corner, corner_vertex}
use Rattle.rp_convex.proofs.FirstTriple.{places, first_three, no_three}

-- ---- the order of places

-- what is before a triple that another is not before, is before that other
pub before_other : (p q r : Places) → IsBefore p q → (IsBefore p r → ⊥) → IsBefore r q
before_other p q r (inl l) n =
    ⊎_elim (λ (e : p.first ≡ r.first). inl (omega (arith, e, l))) (⊎_elim (λ (k : p.first < r.first). absurd (n (inl k))) (λ (k : r.first < p.first). inl (omega (arith, k, l)))) (cases_order p.first r.first)
before_other p q r (inr (e, inl l)) n =
    ⊎_elim
    (λ (f : p.first ≡ r.first). ⊎_elim (λ (g : p.second ≡ r.second). inr (sym f ∙ e, inl (omega (arith, g, l))))
    (⊎_elim (λ (k : p.second < r.second). absurd (n (inr (f, inl k)))) (λ (k : r.second < p.second). inr (sym f ∙ e, inl (omega (arith, k, l)))))
    (cases_order p.second r.second))
    (⊎_elim (λ (k : p.first < r.first). absurd (n (inl k))) (λ (k : r.first < p.first). inl (omega (arith, k, e))))
    (cases_order p.first r.first)
before_other p q r (inr (e, inr (d, l))) n =
    ⊎_elim
    (λ (f : p.first ≡ r.first). ⊎_elim
    (λ (g : p.second ≡ r.second). ⊎_elim (λ (o : p.third ≡ r.third). inr (sym f ∙ e, inr (sym g ∙ d, omega (arith, o, l))))
    (⊎_elim (λ (k : p.third < r.third). absurd (n (inr (f, inr (g, k))))) (λ (k : r.third < p.third). inr (sym f ∙ e, inr (sym g ∙ d, omega (arith, k, l)))))
    (cases_order p.third r.third))
    (⊎_elim (λ (k : p.second < r.second). absurd (n (inr (f, inl k)))) (λ (k : r.second < p.second). inr (sym f ∙ e, inl (omega (arith, k, d)))))
    (cases_order p.second r.second))
    (⊎_elim (λ (k : p.first < r.first). absurd (n (inl k))) (λ (k : r.first < p.first). inl (omega (arith, k, e))))
    (cases_order p.first r.first)

-- ---- what the search gives at three places

-- a vertex with a basis, where the search gives it
pub record GivenVertex (test : RationalPoint → Bool) (cell : List HalfSpace) (p : Places) (v : RationalPoint) : Type 0 where
  pub passing : IsPassingVertex test cell v
  pub basis : IsBasis (with_cube cell) v p

-- an answer of the search is a vertex that passes, with a basis there
given_vertex : (test : RationalPoint → Bool) (cell : List HalfSpace) (i j k : ℕ) (f g h : HalfSpace) (v : RationalPoint)
    → slice_get (with_cube cell) i ≡ Some f → slice_get (with_cube cell) j ≡ Some g → slice_get (with_cube cell) k ≡ Some h → i < j → j < k
    → vertex_at test (with_cube cell) f g h ≡ Some v → GivenVertex test cell (places i j k) v
given_vertex test cell i j k f g h v ef eg eh a b e =
    let hs = with_cube cell in
    let p = passed_choice test hs (meeting_point f g h) v e in
    let m = meeting_is f g h v p.is in
    let corner : IsCornerOf hs v = record {
      weak = weak_is hs v m.point p.weak;
      lowest = m.lowest;
      one = f;
      two = g;
      three = h;
      one_listed = listed_at f hs i ef;
      two_listed = listed_at g hs j eg;
      three_listed = listed_at h hs k eh;
      tight = m.tight;
    } in
    record {
      passing = (corner_vertex cell v corner, p.passes);
      basis = record {
        one = f;
        two = g;
        three = h;
        rises = a;
        rises_on = b;
        first = record { stands = ef; on = m.tight.first };
        second = record { stands = eg; on = m.tight.second };
        third = record { stands = eh; on = m.tight.third };
        independent = m.tight.independent;
      };
    }

-- the search gives a vertex that passes at each of its bases
vertex_given : (test : RationalPoint → Bool) (cell : List HalfSpace) (v : RationalPoint) (p : Places) → IsPassingVertex test cell v → (b : IsBasis (with_cube cell) v p)
    → vertex_at test (with_cube cell) b.one b.two b.three ≡ Some v
vertex_given test cell v p passing b =
    let hs = with_cube cell in
    let c = vertex_corner cell v passing.0 in
    let m = is_meeting b.one b.two b.three v (record { point = c.weak.point; lowest = c.lowest; tight = record { independent = b.independent; first = b.first.on; second = b.second.on; third = b.third.on } }) in
    ap (vertex_if test hs) m ∙ (λ i. elim (weak_true hs v c.weak i && passing.1 i) [ true ↦ Some v | false ↦ None ])

-- an answer of which no value is possible is none
none_unless : {B : Type 0} (o : Option B) → ((v : B) → o ≡ Some v → ⊥) → o ≡ None
none_unless None n = refl
none_unless (Some v) n = absurd (n v refl)

-- the law
pub first_vertex_has_least_basis_spec : FirstVertexHasLeastBasis
unfolding first_vertex
first_vertex_has_least_basis_spec test cell v p bounds passing first least =
    let hs = with_cube cell in
    let b = first.0 in
    first_three (vertex_at test hs) hs p.first p.second p.third b.one b.two b.three v b.first.stands b.second.stands b.third.stands b.rises b.rises_on (vertex_given test cell v p passing b)
    (λ i j k f g h ef eg eh l m before. none_unless (vertex_at test hs f g h) (λ w e.
    let given = given_vertex test cell i j k f g h w ef eg eh l m e in
    let greedy = corner_basis hs w (with_cube_bounds cell bounds) (vertex_corner cell w given.passing.0) in
    let others = greedy_basis_is_first_spec hs w greedy.0 greedy.1 in
    least w greedy.0 given.passing others (before_other (places i j k) p greedy.0 before (others.1 (places i j k) given.basis))))

-- the law
pub no_first_where_none_passes_spec : NoFirstWhereNonePasses
unfolding first_vertex
no_first_where_none_passes_spec test cell none =
    let hs = with_cube cell in
    no_three (vertex_at test hs) hs (λ i j k f g h ef eg eh l m. none_unless (vertex_at test hs f g h) (λ w e. none w (given_vertex test cell i j k f g h w ef eg eh l m e).passing))
