-- A cell with its vertices, with one half-space more.
use Rattle.std.proofs.Common.{◌≡◌, ℕ, suc, ◌<◌, ◌≤◌, ◌⊎◌, inl, inr, ⊎_elim, Bool, true, false, List, [], ◌∷◌, ◌++◌, length, refl, sym, ap, ◌∙◌, subst, arith}
use Rattle.std.specs.Prelude.{Some, ◌↔◌, bit_and}
use Rattle.std.specs.List.{Contains}
use Rattle.std.proofs.lemmas.Bool.{cases_order}
use Rattle.rp_algebra.proofs.Listed.{Listed, first, later, all_append}
use Rattle.rp_algebra.proofs.Options.{same_some}
use Rattle.rp_geometry.specs.Geometry.{RationalPoint, HalfSpace, IsHalfSpace}
use Rattle.rp_geometry.specs.searches.Vertex.{meeting_point}
use Rattle.rp_convex.proofs.Vertex.{AreTightAt, tight_symmetric}
use Rattle.rp_convex.specs.Edges.{IsCrossing, IsKeptVertex}
use Rattle.rp_convex.proofs.Corners.{meeting_is, is_meeting}
use Rattle.rp_convex.proofs.Edges.{vertices_follow_edges_spec}
use Rattle.rp_convex.proofs.Standing.{listed_contains, contains_listed}
use Rattle.rp_clip.specs.Clipped.{Clipped, clipped, HasVertices}
use Rattle.rp_clip.specs.Crossings.{HasMeetings, with_one, IsKeptTable, IsCrossedAll, IsRefilled}
use Rattle.rp_space.specs.Places.{IsIn}
use Rattle.rp_clip.specs.Masks.{half_at, mask_of}
use Rattle.rp_clip.specs.Tables.{Rows, AreDistinct, AreVertices, HasMoreVertices}
use Rattle.rp_clip.proofs.Crossed.{listed_at}
use Rattle.rp_clip.proofs.Masks.{mask_in, both_in, one_longer}

-- ---- more different items than places

-- a list without one of its items
record Without {A : Type 0} (x : A) (xs : List A) : Type 0 where
  rest : List A
  as_long : length xs ≡ suc (length rest)
  others : (y : A) → Listed y xs → (y ≡ x) ⊎ Listed y rest

-- each item can be left out
without : {A : Type 0} (x : A) (xs : List A) → Listed x xs → Without x xs
without {A} x [] l = elim l [ ]
without {A} x (y ∷ xs) first = record { rest = xs; as_long = refl; others = each }
  where
    each : (z : A) → Listed z (x ∷ xs) → (z ≡ x) ⊎ Listed z xs
    each z first = inl refl
    each z (later l) = inr l
without {A} x (y ∷ xs) (later l) = let w = without x xs l in record { rest = y ∷ w.rest; as_long = ap suc w.as_long; others = each w }
  where
    each : (w : Without x xs) (z : A) → Listed z (y ∷ xs) → (z ≡ x) ⊎ Listed z (y ∷ w.rest)
    each w z first = inr first
    each w z (later m) = ⊎_elim inl (λ k. inr (later k)) (w.others z m)

-- different items that all stand in a list are at most as many
at_most : {A : Type 0} (xs ys : List A) → AreDistinct xs → ((x : A) → Contains xs x → Listed x ys) → length xs ≤ length ys
at_most [] ys d h = omega arith
at_most {A} (x ∷ xs) ys d h =
    let w = without x ys (h x (listed_contains x (x ∷ xs) first)) in
    let n = at_most xs w.rest d.1 (rest w) in
    let e = w.as_long in
    omega (arith, n, e)
  where
    rest : (w : Without x ys) (z : A) → Contains xs z → Listed z w.rest
    rest w z c =
        ⊎_elim
        (λ (e : z ≡ x). absurd (d.0 (subst (λ k. Contains xs k) e c)))
        (λ (l : Listed z w.rest). l)
        (w.others z (h z (listed_contains z (x ∷ xs) (later (contains_listed z xs c)))))

-- ---- the vertices of the table

-- a table of a clip has the vertices, each once
pub clip_vertices : {most : ℕ} (cell : List HalfSpace) (t : Rows) → HasVertices most cell t → AreVertices cell t.points
clip_vertices cell t k = record { distinct = k.table.different.distinct; exact = λ v. (k.table.different.vertices v, k.complete v) }

-- no cell with a clip has more vertices than there is room for
not_more : (most : ℕ) (cell : List HalfSpace) (t : Rows) → HasVertices most cell t → HasMoreVertices most cell → ⊥
not_more most cell t k m =
    let d = m.1 in
    let n = at_most m.0 t.points d.distinct (λ v c. contains_listed v t.points (k.complete v (d.vertices v c))) in
    let f = k.table.fits in
    let l = m.2 in
    omega (arith, n, f, l)

-- ---- one half-space more

-- two planes of the list that meet that of h in a point, at their places in either order
found_at : (cell : List HalfSpace) (h : HalfSpace) (t : Rows) (set i j : ℕ) (f g : HalfSpace) (v : RationalPoint) → HasMeetings cell h set t → IsIn set i → IsIn set j
    → half_at cell i ≡ Some f → half_at cell j ≡ Some g → meeting_point f g h ≡ Some v → Contains t.points v
found_at cell h t set i j f g v has ii jj ef eg e =
    ⊎_elim
    (λ (s : i ≡ j). absurd (same s))
    (⊎_elim
    (λ (l : i < j). has i j f g v (record { from_on = omega arith; rises = l; first_in = ii; second_in = jj; first = ef; second = eg }) e)
    (λ (l : j < i). has j i g f v (record { from_on = omega arith; rises = l; first_in = jj; second_in = ii; first = eg; second = ef }) turned))
    (cases_order i j)
  where
    same : i ≡ j → ⊥
    same s =
        let d : f ≡ g = same_some f g (sym ef ∙ ap (half_at cell) s ∙ eg) in
        (tight_symmetric v).no_twice g h (subst (λ (k : HalfSpace). AreTightAt v k g h) d (meeting_is f g h v e).tight)

    turned : meeting_point g f h ≡ Some v
    turned = let m = meeting_is f g h v e in is_meeting g f h v (record { point = m.point; lowest = m.lowest; tight = (tight_symmetric v).first_two f g h m.tight })

-- a crossing stands in a table that has those of an edge, where the other had both ends of it
pub crossing_found : {most : ℕ} (cell : List HalfSpace) (h : HalfSpace) (t kept new : Rows) (v : RationalPoint) → length cell ≤ 64 → (c : IsCrossing cell h v) → Contains t.points c.above → Contains t.points c.below
    → IsCrossedAll most cell h t.points kept new true → Contains new.points v
crossing_found cell h t kept new v few c above below k =
    let e = c.crossed.edge in
    let i = listed_at cell c.one few e.first_listed in
    let j = listed_at cell c.two few e.second_listed in
    found_at cell h new (bit_and (mask_of cell c.above) (mask_of cell c.below)) i.place j.place c.one c.two v
    (k.1 c.above above c.crossed.positive c.below below c.crossed.negative)
    (both_in (mask_of cell c.above) (mask_of cell c.below) i.place (mask_in cell c.above i.place c.one few i.at e.first.0) (mask_in cell c.below i.place c.one few i.at e.first.1))
    (both_in (mask_of cell c.above) (mask_of cell c.below) j.place (mask_in cell c.above j.place c.two few j.at e.second.0) (mask_in cell c.below j.place c.two few j.at e.second.1))
    i.at j.at c.at

-- the table with the crossings is that of the cell with the half-space
pub added : {most : ℕ} (cell : List HalfSpace) (h : HalfSpace) (t kept new : Rows) → HasVertices most cell t → length cell < 64 → IsHalfSpace h → IsKeptTable most cell h t kept → IsCrossedAll most cell h t.points kept new true
    → HasVertices most (with_one cell h) new
added cell h t kept new k room bound keeps c = record {
  few = one_longer cell h room;
  bounds = all_append IsHalfSpace cell (h ∷ []) k.bounds (bound, tt);
  table = c.0.table;
  complete = λ v m. ⊎_elim
      (λ (s : IsKeptVertex cell h v). c.0.all v (keeps.kept v (k.complete v s.0) s.1))
      (λ (s : IsCrossing cell h v). crossing_found cell h t kept new v k.few s (k.complete s.above s.crossed.edge.first_vertex) (k.complete s.below s.crossed.edge.second_vertex) c)
      ((vertices_follow_edges_spec cell h v).0 m);
}

-- what the answer of all crossings says, where it is known
pub crossed_true : (most : ℕ) (cell : List HalfSpace) (h : HalfSpace) (points : List RationalPoint) (old new : Rows) (r : Bool) → r ≡ true → IsCrossedAll most cell h points old new r → IsCrossedAll most cell h points old new true
crossed_true most cell h points old new r e c = subst (λ (b : Bool). IsCrossedAll most cell h points old new b) e c

-- ---- as contracts see it

-- the clip with the half-space, as the code has it
pub added_here : (most : ℕ) (cell after : List HalfSpace) (h : HalfSpace) (t new : Rows) (seen : Clipped) (r : Bool) → HasVertices most cell t → clipped cell t.points ≡ seen → length seen.halves < 64
    → IsHalfSpace h → IsRefilled most cell h t new r → r ≡ true → after ≡ cell ++ h ∷ [] → HasVertices most after new
added_here most cell after h t new seen r k e room bound f is a =
    subst (λ (hs : List HalfSpace). HasVertices most hs new) (sym a)
    (added cell h t f.kept new k (subst (λ (s : Clipped). length s.halves < 64) (sym e) room) bound f.keeps (crossed_true most cell h t.points f.kept new r is f.crossed))

-- nor is that said
pub full_never : (most : ℕ) (cell after : List HalfSpace) (h : HalfSpace) (t : Rows) (seen : Clipped) (points : List RationalPoint) → clipped cell points ≡ seen → after ≡ cell ++ h ∷ [] → HasVertices most after t
    → (true ≡ false) ↔ HasMoreVertices most (seen.halves ++ h ∷ [])
full_never most cell after h t seen points e a k = (
  λ f. absurd (cc),
  λ m. absurd (not_more most after t k (subst (λ (hs : List HalfSpace). HasMoreVertices most hs) (ap (λ (s : Clipped). s.halves ++ h ∷ []) (sym e) ∙ sym a) m)),
)
