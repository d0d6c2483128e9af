-- The best vertex so far, in a search over the rows of a table.
use Rattle.std.proofs.Common.{◌≡◌, ℕ, ◌+◌, ◌<◌, ◌≤◌, ◌⊎◌, inl, inr, ⊎_elim, true, false, List, length, refl, sym, ap, ◌∙◌, subst, arith}
use Rattle.std.specs.Prelude.{Option, Some, None, slice_index_or}
use Rattle.std.specs.List.{Contains, slice_get}
use Rattle.std.proofs.lemmas.Bool.{cases_order}
use Rattle.rp_algebra.proofs.Options.{some_not_none, same_some, known_some}
use Rattle.rp_algebra.proofs.Tests.{false_not_true}
use Rattle.rp_algebra.proofs.Lists.{get_some}
use Rattle.rp_geometry.specs.Geometry.{RationalPoint, HalfSpace, with_cube}
use Rattle.rp_geometry.specs.searches.Vertex.{meeting_point, vertices, first_vertex}
use Rattle.rp_geometry.specs.laws.CellLaws.{AreHalfSpaces}
use Rattle.rp_convex.specs.Bases.{Places, IsBefore, IsFirstBasis, IsGreedyBasis, IsPassingVertex}
use Rattle.rp_convex.proofs.Bases.{greedy_basis_is_first_spec, vertex_has_greedy_basis_spec}
use Rattle.rp_convex.proofs.Least.{before_other, first_vertex_has_least_basis_spec, no_first_where_none_passes_spec}
use Rattle.rp_clip.specs.Clipped.{HasVertices}
use Rattle.rp_clip.specs.Firsts.{is_off_mask, is_off, AreOn, HasFirst, IsBasisBefore, IsBehind, IsBetter, IsFirstAt, on, without, higher, worse, better}
use Rattle.rp_clip.specs.Masks.{mask_of}
use Rattle.rp_clip.specs.Meetings.{IsFirstOfSet, HasNoBasis, IsVertexSet}
use Rattle.rp_clip.specs.declared.first.Found.{Found}
use Rattle.rp_clip.specs.declared.meet.Basis.{Basis}
use Rattle.rp_clip.proofs.FirstOfSet.{one_first, greedy_is_first, before_in_set, set_places}
use Rattle.rp_clip.proofs.Filled.{place_in}
use Rattle.rp_clip.proofs.HalfAt.{get_below}
use Rattle.rp_clip.proofs.Lists.{get_contains}
use Rattle.rp_clip.proofs.Sides.{map_length, mapped_at}
use Rattle.rp_clip.specs.Tables.{Rows}

-- ---- the order of bases

-- before is transitive
before_further : (a b c : Basis) → IsBasisBefore a b → IsBasisBefore b c → IsBasisBefore a c
before_further a b c (inl l) (inl m) = inl (omega (arith, l, m))
before_further a b c (inl l) (inr (e, m)) = inl (omega (arith, l, e))
before_further a b c (inr (e, l)) (inl m) = inl (omega (arith, e, m))
before_further a b c (inr (e, inl l)) (inr (f, inl m)) = inr (e ∙ f, inl (omega (arith, l, m)))
before_further a b c (inr (e, inl l)) (inr (f, inr (g, m))) = inr (e ∙ f, inl (omega (arith, l, g)))
before_further a b c (inr (e, inr (g, l))) (inr (f, inl m)) = inr (e ∙ f, inl (omega (arith, g, m)))
before_further a b c (inr (e, inr (g, l))) (inr (f, inr (d, m))) = inr (e ∙ f, inr (g ∙ d, omega (arith, l, m)))

-- nothing is before itself
not_itself : (a : Basis) → IsBasisBefore a a → ⊥
not_itself a (inl l) = omega (arith, l)
not_itself a (inr (e, inl l)) = omega (arith, l)
not_itself a (inr (e, inr (f, l))) = omega (arith, l)

-- ---- the basis of a vertex

-- a vertex of the table with its greedy basis
record Greedy (cell : List HalfSpace) (v : RationalPoint) : Type 0 where
  places : Places
  greedy : IsGreedyBasis (with_cube cell) v places
  is_first : IsFirstOfSet cell (mask_of cell v) (set_places (length cell) places)

-- it is there
greedy_of : (cell : List HalfSpace) (v : RationalPoint) → length cell ≤ 64 → AreHalfSpaces cell → Contains (vertices cell) v → Greedy cell v
greedy_of cell v few bounds c = let g = vertex_has_greedy_basis_spec cell v bounds c in record { places = g.0; greedy = g.1; is_first = greedy_is_first cell v g.0 few g.1 }

-- a set with a first triple has one
has_basis : (cell : List HalfSpace) (set : ℕ) (b : Basis) → IsFirstOfSet cell set b → HasNoBasis cell set → ⊥
has_basis cell set b k none =
    let s = known_some (meeting_point k.two k.three k.one) k.meets in
    some_not_none s.value (sym s.is ∙ none b.first k.one k.lowest k.first b.second b.third k.two k.three k.others)

-- ---- the best so far

-- the vertex of a row with its first triple, before which is none of a vertex so far that is off the set
pub record IsLeast (cell : List HalfSpace) (set : ℕ) (points : List RationalPoint) (i : ℕ) (f : Found) : Type 0 where
  pub point : RationalPoint
  pub at : slice_get points f.index ≡ Some point
  pub off : is_off cell set point ≡ true
  pub is_first : IsFirstOfSet cell (mask_of cell point) f.basis
  pub least : (k : ℕ) (v : RationalPoint) (b : Basis) → slice_get points k ≡ Some v → k < i → is_off cell set v ≡ true → IsFirstOfSet cell (mask_of cell v) b → IsBasisBefore b f.basis → ⊥

-- no vertex so far is off the set
abbrev pub NoneOff : List HalfSpace → ℕ → List RationalPoint → ℕ → Type 0
NoneOff cell set points i = (k : ℕ) (v : RationalPoint) → slice_get points k ≡ Some v → k < i → is_off cell set v ≡ false

-- the best of the first i vertices
abbrev pub IsBest : List HalfSpace → ℕ → List RationalPoint → ℕ → Option Found → Type 0
IsBest cell set points i None = NoneOff cell set points i
IsBest cell set points i (Some f) = IsLeast cell set points i f

-- at first
pub best_none : (cell : List HalfSpace) (set : ℕ) (points : List RationalPoint) → IsBest cell set points 0 None
best_none cell set points k v e l = absurd (omega (arith, l))

-- a row is one so far or the next
next_row : (points : List RationalPoint) (i k : ℕ) (v w : RationalPoint) → slice_get points i ≡ Some w → slice_get points k ≡ Some v → k < i + 1 → (v ≡ w) ⊎ (k < i)
next_row points i k v w at e l =
    ⊎_elim
    (λ (s : k ≡ i). inl (same_some v w (sym e ∙ ap (slice_get points) s ∙ at)))
    (⊎_elim (λ (m : k < i). inr m) (λ (m : i < k). absurd (omega (arith, l, m))))
    (cases_order k i)

-- the best stays, where the next vertex is on the set
stays_on : (cell : List HalfSpace) (set : ℕ) (points : List RationalPoint) (i : ℕ) (best : Option Found) (w : RationalPoint) → slice_get points i ≡ Some w → is_off cell set w ≡ false
    → IsBest cell set points i best → IsBest cell set points (i + 1) best
stays_on cell set points i None w at off k =
    λ n v e l. ⊎_elim (λ (s : v ≡ w). ap (is_off cell set) s ∙ off) (λ (m : n < i). k n v e m) (next_row points i n v w at e l)
stays_on cell set points i (Some f) w at off k = record {
  point = k.point;
  at = k.at;
  off = k.off;
  is_first = k.is_first;
  least = λ n v b e l o first. ⊎_elim
      (λ (s : v ≡ w). absurd (false_not_true (is_off cell set v) o (ap (is_off cell set) s ∙ off)))
      (λ (m : n < i). k.least n v b e m o first)
      (next_row points i n v w at e l);
}

-- it stays, where the next one is not before
stays_worse : (cell : List HalfSpace) (set : ℕ) (points : List RationalPoint) (i : ℕ) (f : Found) (w : RationalPoint) → slice_get points i ≡ Some w
    → ((c : Basis) → IsFirstOfSet cell (mask_of cell w) c → IsBasisBefore c f.basis → ⊥) → IsLeast cell set points i f → IsLeast cell set points (i + 1) f
stays_worse cell set points i f w at not k = record {
  point = k.point;
  at = k.at;
  off = k.off;
  is_first = k.is_first;
  least = λ n v c e l o is. ⊎_elim
      (λ (s : v ≡ w). not c (subst (λ (u : RationalPoint). IsFirstOfSet cell (mask_of cell u) c) s is))
      (λ (m : n < i). k.least n v c e m o is)
      (next_row points i n v w at e l);
}

-- the next one is taken
taken : (cell : List HalfSpace) (set : ℕ) (points : List RationalPoint) (i : ℕ) (best : Option Found) (w : RationalPoint) (b : Basis) → slice_get points i ≡ Some w → is_off cell set w ≡ true
    → IsFirstOfSet cell (mask_of cell w) b → ((f : Found) → best ≡ Some f → IsBasisBefore b f.basis) → IsBest cell set points i best → IsLeast cell set points (i + 1) (record { index = i; basis = b })
taken cell set points i best w b at off first before k = record {
  point = w;
  at = at;
  off = off;
  is_first = first;
  least = λ n v c e l o is. ⊎_elim
      (λ (s : v ≡ w) (m : IsBasisBefore c b). not_itself b (subst (λ (d : Basis). IsBasisBefore d b) (one_first cell (mask_of cell w) c b (subst (λ (u : RationalPoint). IsFirstOfSet cell (mask_of cell u) c) s is) first) m))
      (λ (m : n < i) (d : IsBasisBefore c b). earlier best before k n v c e m o is d)
      (next_row points i n v w at e l);
}
  where
    earlier : (best : Option Found) → ((f : Found) → best ≡ Some f → IsBasisBefore b f.basis) → IsBest cell set points i best
        → (n : ℕ) (v : RationalPoint) (c : Basis) → slice_get points n ≡ Some v → n < i → is_off cell set v ≡ true → IsFirstOfSet cell (mask_of cell v) c → IsBasisBefore c b → ⊥
    earlier None before k n v c e m o is d = false_not_true (is_off cell set v) o (k n v e m)
    earlier (Some f) before k n v c e m o is d = k.least n v c e m o is (before_further c b f.basis d (before f refl))

-- one vertex further
best_next : {most : ℕ} (cell : List HalfSpace) (t : Rows) (set i : ℕ) (best new : Option Found) (mask : ℕ) (w : RationalPoint) → HasFirst most cell set t → slice_get t.points i ≡ Some w → mask ≡ mask_of cell w
    → IsBest cell set t.points i best → IsBetter cell set best i mask new → IsBest cell set t.points (i + 1) new
best_next cell t set i best new mask w k at m is (on e r) =
    subst (λ (o : Option Found). IsBest cell set t.points (i + 1) o) (sym r) (stays_on cell set t.points i best w at (ap (is_off_mask set) (sym m) ∙ e) is)
best_next cell t set i best new mask w k at m is (without e r) =
    let g = greedy_of cell w k.few k.bounds (k.table.different.vertices w (get_contains t.points i w at)) in
    absurd (has_basis cell mask (set_places (length cell) g.places) (subst (λ (n : ℕ). IsFirstOfSet cell n (set_places (length cell) g.places)) (sym m) g.is_first) e)
best_next cell t set i best new mask w k at m is (worse b f first e not r) =
    subst (λ (o : Option Found). IsBest cell set t.points (i + 1) o) (sym (r ∙ e))
    (stays_worse cell set t.points i f w at
    (λ c k b4. not (subst (λ (d : Basis). IsBasisBefore d f.basis) (one_first cell mask c b (subst (λ (n : ℕ). IsFirstOfSet cell n c) (sym m) k) first) b4))
    (subst (λ (o : Option Found). IsBest cell set t.points i o) e is))
best_next cell t set i best new mask w k at m is (higher f e not r) =
    subst (λ (o : Option Found). IsBest cell set t.points (i + 1) o) (sym (r ∙ e))
    (stays_worse cell set t.points i f w at (λ c k b4. not c (subst (λ (n : ℕ). IsFirstOfSet cell n c) (sym m) k) b4)
    (subst (λ (o : Option Found). IsBest cell set t.points i o) e is))
best_next cell t set i best new mask w k at m is (better b off first before r) =
    subst (λ (o : Option Found). IsBest cell set t.points (i + 1) o) (sym r)
    (taken cell set t.points i best w b at (ap (is_off_mask set) (sym m) ∙ off) (subst (λ (n : ℕ). IsFirstOfSet cell n b) m first) before is)

-- ---- as the code reads the rows

-- a row of the table
pub record TableRow (cell : List HalfSpace) (t : Rows) (planes : List ℕ) (i : ℕ) : Type 0 where
  pub point : RationalPoint
  pub at : slice_get t.points i ≡ Some point
  pub mask : slice_index_or planes i 0 ≡ mask_of cell point

-- each place below the length has one
table_row : {most : ℕ} (cell : List HalfSpace) (set : ℕ) (t : Rows) (planes : List ℕ) (i : ℕ) → HasFirst most cell set t → planes ≡ t.planes → i < length planes → TableRow cell t planes i
table_row cell set t planes i k e l =
    let same : length planes ≡ length t.points = ap length (e ∙ k.table.planes) ∙ map_length (mask_of cell) t.points in
    let g = get_some t.points i (omega (arith, l, same)) in
    record { point = g.0; at = g.1; mask = mapped_at (mask_of cell) t.points planes i g.0 0 (e ∙ k.table.planes) g.1 }

-- what the next step owes
pub owes_vertex : {most : ℕ} (cell : List HalfSpace) (set : ℕ) (t : Rows) (planes : List ℕ) (i : ℕ) → HasFirst most cell set t → planes ≡ t.planes → i < length planes → IsVertexSet cell (slice_index_or planes i 0)
owes_vertex cell set t planes i k e l =
    let r = table_row cell set t planes i k e l in
    record { few = k.few; bounds = k.bounds; vertex = r.point; is_vertex = k.table.different.vertices r.point (get_contains t.points i r.point r.at); exact = r.mask }

-- one row further
pub best_row : {most : ℕ} (cell : List HalfSpace) (t : Rows) (planes : List ℕ) (set i : ℕ) (best new : Option Found) → HasFirst most cell set t → planes ≡ t.planes → i < length planes
    → IsBest cell set t.points i best → IsBetter cell set best i (slice_index_or planes i 0) new → IsBest cell set t.points (i + 1) new
best_row cell t planes set i best new k e l is b =
    let r = table_row cell set t planes i k e l in
    best_next cell t set i best new (slice_index_or planes i 0) r.point k r.at r.mask is b

-- ---- at the end

-- the best of all is the first vertex that is off the set
pub best_is_first : {most : ℕ} (cell : List HalfSpace) (t : Rows) (planes : List ℕ) (set i : ℕ) (f : Found) → HasFirst most cell set t → planes ≡ t.planes → length planes ≤ i → IsLeast cell set t.points i f
    → IsFirstAt cell set t.points f.index
best_is_first cell t planes set i f k e far is = record {
  point = is.point;
  at = is.at;
  is_first = first_vertex_has_least_basis_spec (is_off cell set) cell is.point g.places k.bounds (vertex, is.off) (greedy_basis_is_first_spec (with_cube cell) is.point g.places g.greedy) least;
}
  where
    vertex : Contains (vertices cell) is.point
    vertex = k.table.different.vertices is.point (get_contains t.points f.index is.point is.at)

    g : Greedy cell is.point
    g = greedy_of cell is.point k.few k.bounds vertex

    same : length planes ≡ length t.points
    same = ap length (e ∙ k.table.planes) ∙ map_length (mask_of cell) t.points

    least : (w : RationalPoint) (q : Places) → IsPassingVertex (is_off cell set) cell w → IsFirstBasis (with_cube cell) w q → IsBefore q g.places → ⊥
    least w q passing first before =
        let o = greedy_of cell w k.few k.bounds passing.0 in
        let others = greedy_basis_is_first_spec (with_cube cell) w o.places o.greedy in
        let earlier = before_other q g.places o.places before (others.1 q first.0) in
        ⊎_elim
        (λ (c : Contains t.points w). among o earlier c)
        (λ (b : IsBehind cell set t.points w). b is.point g.places o.places (get_contains t.points f.index is.point is.at) is.off g.greedy o.greedy earlier)
        (k.others w passing.0 passing.1)
      where
        among : (o : Greedy cell w) → IsBefore o.places g.places → Contains t.points w → ⊥
        among o earlier c =
            let b = before_in_set (length cell) o.places g.places k.few earlier in
            let at = place_in t.points w c in
            let low = get_below t.points at.0 w at.1 in
            is.least at.0 w (set_places (length cell) o.places) at.1 (omega (arith, low, far, same)) passing.1 o.is_first
            (subst (λ (c : Basis). IsBasisBefore (set_places (length cell) o.places) c) (one_first cell (mask_of cell is.point) (set_places (length cell) g.places) f.basis g.is_first is.is_first) b)

-- where no row was off the set, none is
pub none_off : {most : ℕ} (cell : List HalfSpace) (t : Rows) (planes : List ℕ) (set i : ℕ) → HasFirst most cell set t → planes ≡ t.planes → length planes ≤ i → NoneOff cell set t.points i → AreOn cell set t.points
none_off cell t planes set i k e far none w c =
    let same : length planes ≡ length t.points = ap length (e ∙ k.table.planes) ∙ map_length (mask_of cell) t.points in
    let at = place_in t.points w c in
    let low = get_below t.points at.0 w at.1 in
    none at.0 w at.1 (omega (arith, low, far, same))

-- ---- a table of all vertices

-- it has the first one
pub clip_has_first : (most : ℕ) (cell : List HalfSpace) (set : ℕ) (t : Rows) → HasVertices most cell t → HasFirst most cell set t
clip_has_first most cell set t k = record { few = k.few; bounds = k.bounds; table = k.table; others = λ w c o. inl (k.complete w c) }

-- where none of its rows is off the set there is no first one
pub none_is_first : {most : ℕ} (cell : List HalfSpace) (t : Rows) (set : ℕ) → HasVertices most cell t → AreOn cell set t.points → first_vertex (is_off cell set) (with_cube cell) ≡ None
none_is_first cell t set k none =
    no_first_where_none_passes_spec (is_off cell set) cell (λ w passing. false_not_true (is_off cell set w) passing.1 (none w (k.complete w passing.0)))
