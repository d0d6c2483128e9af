-- The vertices of a cell on one plane, with one half-space more, and in another order.
use Rattle.std.proofs.Common.{◌≡◌, ℕ, ◌+◌, ◌<◌, ◌≤◌, ⊎_elim, Bool, true, false, ℤ, pos, ◌≤ℤ◌, ◌<ℤ◌, inl, List, [], ◌∷◌, ◌++◌, length, take, map, refl, sym, ap, ◌∙◌, subst, arith, nat_eq, length-append}
use Rattle.std.specs.Prelude.{Some, bit_and, slice_index_or}
use Rattle.std.specs.Int.{bit_at}
use Rattle.std.specs.List.{Contains, slice_get, filter}
use Rattle.std.proofs.lemmas.Bool.Decides.{nat_tests}
use Rattle.std.proofs.lemmas.Nat.{and_mask}
use Rattle.std.proofs.lemmas.Nat.Bits.{bit_at_lowest}
use Rattle.std.proofs.lemmas.Int.{ints}
use Rattle.rp_algebra.proofs.Listed.{first, later, all_append}
use Rattle.rp_algebra.proofs.Numbers.{above_not_zero}
use Rattle.rp_algebra.proofs.Options.{none_not_some, same_some}
use Rattle.rp_algebra.proofs.Lists.{get_some, take_all}
use Rattle.rp_geometry.specs.Geometry.{RationalPoint, HalfSpace, IsHalfSpace, IsPoint, side_value, reduced_point}
use Rattle.rp_convex.specs.Edges.{IsCrossing, IsKeptVertex}
use Rattle.rp_convex.proofs.Edges.{vertices_follow_edges_spec, crossing_keeps_planes_spec}
use Rattle.rp_convex.proofs.Standing.{listed_contains, contains_listed}
use Rattle.rp_clip.specs.Clipped.{HasVertices}
use Rattle.rp_clip.specs.Crossings.{with_one, IsCrossedAll, IsRefilled}
use Rattle.rp_space.specs.Places.{IsIn}
use Rattle.rp_clip.specs.Masks.{mask_of}
use Rattle.rp_clip.specs.Polygons.{IsPolygon, AreOnPlane, Covers, IsSorted, IsPositiveAtAll}
use Rattle.rp_clip.specs.Tables.{Rows, rows_of, IsTable, AreDifferentVertices}
use Rattle.rp_clip.specs.declared.cross.Side.TheVariants.{Above}
use Rattle.rp_clip.proofs.Added.{added, crossed_true, crossing_found}
use Rattle.rp_clip.proofs.Crossed.{at_listed}
use Rattle.rp_clip.proofs.HalfAt.{at_cell}
use Rattle.rp_clip.proofs.Kept.{read_point}
use Rattle.rp_clip.proofs.Orders.{nothing_in}
use Rattle.rp_clip.proofs.Lists.{filter_distinct, filter_from, filter_keeps, filter_push_true, filter_push_false, map_push, push_cases, take_more}
use Rattle.rp_clip.proofs.Masks.{in_mask, mask_in, mask_stays, old_bit, mask_bit, one_longer}
use Rattle.rp_clip.proofs.Moved.{vertices_to, vertices_from, bounds_to, bit_moved}
use Rattle.rp_clip.proofs.Sides.{mapped_at, reduced_side, known_side, map_length}

-- ---- no half-space

-- the empty table is that of no half-space
pub empty_polygon : (cell : List HalfSpace) (t : Rows) → cell ≡ [] → t ≡ rows_of [] [] → IsPolygon cell 0 t
empty_polygon cell t e f = subst (λ (hs : List HalfSpace). IsPolygon hs 0 t) (sym e) (subst (λ (r : Rows). IsPolygon [] 0 r) (sym f) (record {
  few = omega arith;
  bounds = tt;
  table = record { different = record { distinct = tt; vertices = λ v c. absurd (nothing_in v c) }; planes = refl; fits = omega arith };
  complete = λ v c b. absurd (no_plane v b);
}))
  where
    no_plane : (v : RationalPoint) → IsIn (mask_of [] v) 0 → ⊥
    no_plane v b = let t = in_mask [] v 0 (omega arith) b in none_not_some t.half (sym (at_cell [] 0 (omega arith)) ∙ t.at)

-- a table of all vertices has those on the first plane
whole_polygon : (cell : List HalfSpace) (t : Rows) → HasVertices 16 cell t → IsPolygon cell 0 t
whole_polygon cell t k = record { few = k.few; bounds = k.bounds; table = k.table; complete = λ v c b. k.complete v c }

-- ---- one half-space more

-- a bit of a half-space of before stays
bit_before : (cell : List HalfSpace) (h : HalfSpace) (v : RationalPoint) → 0 < length cell → length cell < 64 → bit_at (mask_of (with_one cell h) v) 0 ≡ bit_at (mask_of cell v) 0
bit_before cell h v some room = old_bit cell h v 0 room (λ e. omega (arith, e, some)) ∙ sym (mask_bit cell v 0 (omega (arith, room)))

-- what is known of a crossing on the plane: both ends of its edge are on it
record HasEnds (cell : List HalfSpace) (h : HalfSpace) (v : RationalPoint) (c : IsCrossing cell h v) : Type 0 where
  above : IsIn (mask_of cell c.above) 0
  below : IsIn (mask_of cell c.below) 0

ends_on : (cell : List HalfSpace) (h : HalfSpace) (v : RationalPoint) → 0 < length cell → length cell < 64 → IsIn (mask_of (with_one cell h) v) 0 → (c : IsCrossing cell h v) → HasEnds cell h v c
ends_on cell h v some room b c =
    let few : length cell ≤ 64 = omega (arith, room) in
    let t = in_mask cell v 0 few (sym (bit_before cell h v some room) ∙ b) in
    let both = (crossing_keeps_planes_spec cell h c.one c.two c.above c.below v c.crossed c.at t.half (at_listed cell 0 t.half t.at)).0 t.on in
    record { above = mask_in cell c.above 0 t.half few t.at both.0; below = mask_in cell c.below 0 t.half few t.at both.1 }

-- the table with the crossings is that of the cell with the half-space
pub polygon_added : (cell after : List HalfSpace) (h : HalfSpace) (t new : Rows) (r : Bool) → IsPolygon cell 0 t → 0 < length cell → length cell < 64 → IsHalfSpace h → IsRefilled 16 cell h t new r → r ≡ true
    → after ≡ cell ++ h ∷ [] → IsPolygon after 0 new
polygon_added cell after h t new r k some room bound f is a = subst (λ (hs : List HalfSpace). IsPolygon hs 0 new) (sym a) (record {
  few = one_longer cell h room;
  bounds = all_append IsHalfSpace cell (h ∷ []) k.bounds (bound, tt);
  table = crossed.0.table;
  complete = λ v m b. ⊎_elim
      (λ (s : IsKeptVertex cell h v). crossed.0.all v (f.keeps.kept v (k.complete v s.0 (sym (bit_before cell h v some room) ∙ b)) s.1))
      (λ (s : IsCrossing cell h v).
      let e = ends_on cell h v some room b s in
      crossing_found cell h t f.kept new v k.few s (k.complete s.above s.crossed.edge.first_vertex e.above) (k.complete s.below s.crossed.edge.second_vertex e.below) crossed)
      ((vertices_follow_edges_spec cell h v).0 m);
})
  where
    crossed : IsCrossedAll 16 cell h t.points f.kept new true
    crossed = subst (λ (b : Bool). IsCrossedAll 16 cell h t.points f.kept new b) is f.crossed

-- where the half-space is positive at all of them, the table stays
pub polygon_stays : (cell after : List HalfSpace) (h : HalfSpace) (t : Rows) → IsPolygon cell 0 t → 0 < length cell → length cell < 64 → IsHalfSpace h → ((v : RationalPoint) → Contains t.points v → pos 0 <ℤ side_value h v)
    → after ≡ cell ++ h ∷ [] → IsPolygon after 0 t
polygon_stays cell after h t k some room bound above a = subst (λ (hs : List HalfSpace). IsPolygon hs 0 t) (sym a) (record {
  few = one_longer cell h room;
  bounds = all_append IsHalfSpace cell (h ∷ []) k.bounds (bound, tt);
  table = record {
    different = record { distinct = k.table.different.distinct; vertices = λ v c. (vertices_follow_edges_spec cell h v).1 (inl (k.table.different.vertices v c, le_of_lt_ℤ (above v c))) };
    planes = k.table.planes ∙ sym (same_masks t.points (λ v c. mask_stays cell h v room (above_not_zero (side_value h v) (above v c))));
    fits = k.table.fits;
  };
  complete = λ v m b. ⊎_elim
      (λ (s : IsKeptVertex cell h v). k.complete v s.0 (sym (bit_before cell h v some room) ∙ b))
      (λ (s : IsCrossing cell h v).
      let e = ends_on cell h v some room b s in
      absurd (not_both (side_value h s.below) (above s.below (k.complete s.below s.crossed.edge.second_vertex e.below)) s.crossed.negative))
      ((vertices_follow_edges_spec cell h v).0 m);
})
  where
    not_both : (n : ℤ) → pos 0 <ℤ n → n <ℤ pos 0 → ⊥
    not_both n p q = omega (arith, ints, p, q)

    le_of_lt_ℤ : {n : ℤ} → pos 0 <ℤ n → pos 0 ≤ℤ n
    le_of_lt_ℤ {n} p = omega (arith, ints, p)

    same_masks : (points : List RationalPoint) → ((v : RationalPoint) → Contains points v → mask_of (with_one cell h) v ≡ mask_of cell v) → map (mask_of (with_one cell h)) points ≡ map (mask_of cell) points
    same_masks [] e = refl
    same_masks (p ∷ points) e = λ i. e p (listed_contains p (p ∷ points) first) i ∷ same_masks points (λ v c. e v (listed_contains v (p ∷ points) (later (contains_listed v points c)))) i

-- ---- whether a half-space is positive at all of them

-- one point further
pub positive_next : (h : HalfSpace) (corners : List RationalPoint) (i : ℕ) (p : RationalPoint) (value : ℤ) → slice_get corners i ≡ Some p → IsPoint p → value ≡ side_value h p → pos 0 <ℤ value
    → IsPositiveAtAll h (take i corners) → IsPositiveAtAll h (take (i + 1) corners)
positive_next h corners i p value at point e positive k v c =
    ⊎_elim (k v) (λ (s : v ≡ reduced_point p). subst (λ (q : RationalPoint). pos 0 <ℤ side_value h q) (sym s) (known_side h (reduced_point p) Above (sym (reduced_side h p value Above point e positive))))
    (push_cases (map reduced_point (take i corners)) (reduced_point p) v (subst (λ (ps : List RationalPoint). Contains ps v) (ap (map reduced_point) (take_more corners i p at) ∙ map_push reduced_point (take i corners) p) c))

-- ---- in another order

-- the point is on the first plane
abbrev pub is_on_first : List HalfSpace → RationalPoint → Bool
is_on_first sorted v = nat_eq (bit_and (mask_of sorted v) 1) 1

-- the lowest bit of a set
lowest_bit : (set : ℕ) → bit_and set 1 ≡ bit_at set 0
lowest_bit set = and_mask set 1 ∙ sym (bit_at_lowest set)

-- the test of it
on_first : (sorted : List HalfSpace) (v : RationalPoint) → IsIn (mask_of sorted v) 0 → is_on_first sorted v ≡ true
on_first sorted v b = let e = lowest_bit (mask_of sorted v) ∙ b in grind (arith, nat_tests)

first_on : (sorted : List HalfSpace) (v : RationalPoint) → is_on_first sorted v ≡ true → IsIn (mask_of sorted v) 0
first_on sorted v t = sym (lowest_bit (mask_of sorted v)) ∙ grind (arith, nat_tests)

-- those of the first i points that are on the first plane, each with its places in the cell
pub record IsKeptOn (cell sorted : List HalfSpace) (points : List RationalPoint) (i : ℕ) (to : Rows) : Type 0 where
  pub points_are : to.points ≡ filter (is_on_first sorted) (take i points)
  pub planes_are : to.planes ≡ map (mask_of cell) to.points
  pub few : length to.points ≤ i

-- a point on the plane
pub keep_one : (cell sorted : List HalfSpace) (points : List RationalPoint) (i : ℕ) (old new : Rows) (p : RationalPoint) (set renamed : ℕ) → IsKeptOn cell sorted points i old → slice_get points i ≡ Some p
    → set ≡ mask_of sorted p → bit_and set 1 ≡ 1 → mask_of cell p ≡ renamed → new.points ≡ old.points ++ p ∷ [] → new.planes ≡ old.planes ++ renamed ∷ [] → IsKeptOn cell sorted points (i + 1) new
keep_one cell sorted points i old new p set renamed k at m one r ep el = record {
  points_are = ep ∙ ap (λ xs. xs ++ p ∷ []) k.points_are ∙ sym (filter_push_true (is_on_first sorted) (take i points) p test) ∙ ap (filter (is_on_first sorted)) (sym (take_more points i p at));
  planes_are = el ∙ (λ j. k.planes_are j ++ sym r j ∷ []) ∙ sym (map_push (mask_of cell) old.points p) ∙ ap (map (mask_of cell)) (sym ep);
  few = subst (λ (xs : List RationalPoint). length xs ≤ i + 1) (sym ep) (let f = k.few in omega (arith, f, length-append old.points (p ∷ [])));
}
  where
    test : is_on_first sorted p ≡ true
    test = let e = ap (λ n. bit_and n 1) (sym m) ∙ one in grind (arith, nat_tests)

-- a point that is not
pub keep_not : (cell sorted : List HalfSpace) (points : List RationalPoint) (i : ℕ) (old : Rows) (p : RationalPoint) (set : ℕ) → IsKeptOn cell sorted points i old → slice_get points i ≡ Some p
    → set ≡ mask_of sorted p → (bit_and set 1 ≡ 1 → ⊥) → IsKeptOn cell sorted points (i + 1) old
keep_not cell sorted points i old p set k at m other = record {
  points_are = k.points_are ∙ sym (filter_push_false (is_on_first sorted) (take i points) p test) ∙ ap (filter (is_on_first sorted)) (sym (take_more points i p at));
  planes_are = k.planes_are;
  few = let f = k.few in omega (arith, f);
}
  where
    test : is_on_first sorted p ≡ false
    test = let o : bit_and (mask_of sorted p) 1 ≡ 1 → ⊥ = λ e. other (ap (λ n. bit_and n 1) m ∙ e) in grind (arith, nat_tests)

-- a row of a table, as the code reads it
pub record RowRead (cell : List HalfSpace) (t : Rows) (corners : List RationalPoint) (planes : List ℕ) (i : ℕ) : Type 0 where
  pub point : RationalPoint
  pub at : slice_get t.points i ≡ Some point
  pub mask : slice_index_or planes i 0 ≡ mask_of cell point
  pub reads : (p : RationalPoint) → p ≡ slice_index_or corners i p → reduced_point p ≡ point

pub row_read : {most : ℕ} (cell : List HalfSpace) (t : Rows) (corners : List RationalPoint) (planes : List ℕ) (i : ℕ) → IsTable most cell t → planes ≡ t.planes → map reduced_point corners ≡ t.points → i < length corners
    → RowRead cell t corners planes i
row_read cell t corners planes i k e c l =
    let same : length corners ≡ length t.points = sym (map_length reduced_point corners) ∙ ap length c in
    let below : i < length t.points = omega (arith, l, same) in
    let g = get_some t.points i below in
    record { point = g.0; at = g.1; mask = mapped_at (mask_of cell) t.points planes i g.0 0 (e ∙ k.planes) g.1; reads = λ p r. read_point t.points corners i p g.0 c r below g.1 }

-- what is given of the order
pub record IsMoved (cell : List HalfSpace) (order : List ℕ) (sorted : List HalfSpace) (place : ℕ) : Type 0 where
  pub few : length cell ≤ 64
  pub covers : Covers order (length cell)
  pub sorts : IsSorted cell order sorted
  pub first : slice_get order 0 ≡ Some place

-- all of them
pub kept_polygon : (cell : List HalfSpace) (order : List ℕ) (sorted : List HalfSpace) (place : ℕ) (t to : Rows) (i : ℕ) → IsMoved cell order sorted place → IsPolygon sorted 0 t → IsKeptOn cell sorted t.points i to → length t.points ≤ i
    → i ≤ length t.points → IsPolygon cell place to × AreOnPlane cell place to.points
kept_polygon cell order sorted place t to i m k s far end = (
  record {
    few = m.few;
    bounds = bounds_to cell order sorted m.few k.few m.sorts m.covers k.bounds;
    table = record {
      different = subst (λ (xs : List RationalPoint). AreDifferentVertices cell xs) (sym all) (record {
        distinct = filter_distinct (is_on_first sorted) t.points k.table.different.distinct;
        vertices = λ v c. vertices_to cell order sorted m.few k.few m.sorts m.covers v (k.table.different.vertices v (filter_from (is_on_first sorted) t.points v c).0);
      });
      planes = s.planes_are;
      fits = let f = s.few in let r = k.table.fits in omega (arith, f, r, end);
    };
    complete = λ v c b. subst (λ (xs : List RationalPoint). Contains xs v) (sym all)
        (filter_keeps (is_on_first sorted) t.points v (k.complete v (vertices_from cell order sorted m.few k.few m.sorts m.covers v c) (moved v ∙ b)) (on_first sorted v (moved v ∙ b)));
  },
  λ v c. sym (moved v) ∙ first_on sorted v (filter_from (is_on_first sorted) t.points v (subst (λ (xs : List RationalPoint). Contains xs v) all c)).1,
)
  where
    all : to.points ≡ filter (is_on_first sorted) t.points
    all = s.points_are ∙ ap (filter (is_on_first sorted)) (take_all t.points i far)

    moved : (v : RationalPoint) → bit_at (mask_of sorted v) 0 ≡ bit_at (mask_of cell v) place
    moved v = bit_moved cell order sorted m.few k.few m.sorts m.covers v 0 place m.first

-- ---- half-spaces added in order

-- one more at the end
sorted_push : (cell : List HalfSpace) (order : List ℕ) (sorted : List HalfSpace) (i : ℕ) (h : HalfSpace) → IsSorted cell order sorted → slice_get cell i ≡ Some h → IsSorted cell (order ++ i ∷ []) (sorted ++ h ∷ [])
sorted_push cell [] [] i h s e = (e, tt)
sorted_push cell [] (k ∷ sorted) i h s e = absurd s
sorted_push cell (j ∷ order) [] i h s e = absurd s
sorted_push cell (j ∷ order) (k ∷ sorted) i h s e = (s.0, sorted_push cell order sorted i h s.1 e)

-- the half-spaces of the first places of the order
pub record IsSortedTo (cell : List HalfSpace) (order : List ℕ) (rank : ℕ) (sorted : List HalfSpace) : Type 0 where
  pub sorts : IsSorted cell (take rank order) sorted
  pub long : length sorted ≡ rank

-- the first one
pub sorted_first : (cell : List HalfSpace) (order : List ℕ) (i : ℕ) (h : HalfSpace) (sorted : List HalfSpace) → slice_get order 0 ≡ Some i → slice_get cell i ≡ Some h → sorted ≡ h ∷ [] → IsSortedTo cell order 1 sorted
sorted_first cell [] i h sorted e at s = absurd (none_not_some i e)
sorted_first cell (j ∷ order) i h sorted e at s = subst (λ (hs : List HalfSpace). IsSortedTo cell (j ∷ order) 1 hs) (sym s) (record { sorts = (ap (slice_get cell) (same_some j i e) ∙ at, tt); long = refl })

-- one further
pub sorted_next : (cell : List HalfSpace) (order : List ℕ) (rank i : ℕ) (h : HalfSpace) (sorted more : List HalfSpace) → slice_get order rank ≡ Some i → slice_get cell i ≡ Some h → more ≡ sorted ++ h ∷ []
    → IsSortedTo cell order rank sorted → IsSortedTo cell order (rank + 1) more
sorted_next cell order rank i h sorted more e at m s = subst (λ (hs : List HalfSpace). IsSortedTo cell order (rank + 1) hs) (sym m) (record {
  sorts = subst (λ (is : List ℕ). IsSorted cell is (sorted ++ h ∷ [])) (sym (take_more order rank i e)) (sorted_push cell (take rank order) sorted i h s.sorts at);
  long = length-append sorted (h ∷ []) ∙ ap (λ n. n + 1) s.long;
})

-- all
pub sorted_all : (cell : List HalfSpace) (order : List ℕ) (rank : ℕ) (sorted : List HalfSpace) → length order ≤ rank → IsSortedTo cell order rank sorted → IsSorted cell order sorted
sorted_all cell order rank sorted far s = subst (λ (is : List ℕ). IsSorted cell is sorted) (take_all order rank far) s.sorts

-- ---- the first half-space

-- with one half-space
pub first_polygon : (cell after : List HalfSpace) (h : HalfSpace) (t new : Rows) (r : Bool) → cell ≡ [] → HasVertices 16 [] t → IsHalfSpace h → IsRefilled 16 cell h t new r → r ≡ true → after ≡ cell ++ h ∷ [] → IsPolygon after 0 new
first_polygon cell after h t new r e k bound f is a =
    subst (λ (hs : List HalfSpace). IsPolygon hs 0 new) (sym (a ∙ ap (λ hs. hs ++ h ∷ []) e))
    (whole_polygon (h ∷ []) new
    (added [] h t g.kept new k (omega arith) bound g.keeps (crossed_true 16 [] h t.points g.kept new r is g.crossed)))
  where
    g : IsRefilled 16 [] h t new r
    g = subst (λ (hs : List HalfSpace). IsRefilled 16 hs h t new r) e f
