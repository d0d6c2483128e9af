-- The vertices that are not below the plane of a further half-space.
use Rattle.std.proofs.Common.{◌≡◌, ℕ, ◌+◌, ◌*◌, ◌%◌, ◌^◌, ◌<◌, ◌≤◌, inl, Bool, true, false, List, [], ◌∷◌, ◌++◌, length, take, map, refl, sym, ap, ◌∙◌, subst, arith, length-append}
use Rattle.std.specs.Prelude.{Some, option_map, slice_index_or}
use Rattle.std.specs.List.{Contains, slice_get, filter}
use Rattle.rp_algebra.proofs.Numbers.{above_not_zero}
use Rattle.rp_algebra.proofs.Options.{same_some}
use Rattle.rp_algebra.proofs.Lists.{map_get, take_all}
use Rattle.rp_geometry.specs.Geometry.{RationalPoint, HalfSpace, side_value, reduced_point}
use Rattle.rp_convex.proofs.Edges.{vertices_follow_edges_spec}
use Rattle.rp_clip.specs.Masks.{mask_of}
use Rattle.rp_clip.specs.Crossings.{HasSides, AreAllBelow, with_one, IsKeptTable}
use Rattle.rp_clip.specs.Sides.{side_of, is_not_below, is_below, with_kept, kept_planes}
use Rattle.rp_clip.specs.Tables.{Rows, AreDifferentVertices}
use Rattle.rp_clip.specs.declared.cross.Side.{Side}
use Rattle.rp_clip.specs.declared.cross.Side.TheVariants.{Above, On, Below}
use Rattle.rp_clip.proofs.Lists.{map_contains, contains_map, filter_distinct, filter_from, filter_keeps, filter_push_true, filter_push_false, map_push, take_more}
use Rattle.rp_clip.proofs.Masks.{mask_stays, mask_grows, new_place}
use Rattle.rp_clip.proofs.HalfAt.{index_get, get_below}
use Rattle.rp_clip.proofs.Sides.{row, known_side, below_side, not_below_is, is_not_below_true, map_length}

-- the point is not below the plane
abbrev pub is_kept : HalfSpace → RationalPoint → Bool
is_kept h p = is_not_below (side_of h p)

-- the kept ones of the first i points, each with its places
pub record IsKeptUpTo (cell : List HalfSpace) (h : HalfSpace) (points : List RationalPoint) (i : ℕ) (kept : Rows) : Type 0 where
  pub points_are : kept.points ≡ filter (is_kept h) (take i points)
  pub planes_are : kept.planes ≡ map (mask_of (with_one cell h)) kept.points
  pub few : length kept.points ≤ i

-- a point that is kept
kept_on : (cell : List HalfSpace) (h : HalfSpace) (points : List RationalPoint) (i : ℕ) (old new : Rows) (p : RationalPoint) (planes : ℕ) → IsKeptUpTo cell h points i old → slice_get points i ≡ Some p
    → is_kept h p ≡ true → mask_of (with_one cell h) p ≡ planes → new.points ≡ old.points ++ p ∷ [] → new.planes ≡ old.planes ++ planes ∷ [] → IsKeptUpTo cell h points (i + 1) new
kept_on cell h points i old new p planes k at e m ep el = record {
  points_are = ep ∙ ap (λ xs. xs ++ p ∷ []) k.points_are ∙ sym (filter_push_true (is_kept h) (take i points) p e) ∙ ap (filter (is_kept h)) (sym (take_more points i p at));
  planes_are = el ∙ (λ j. k.planes_are j ++ sym m j ∷ []) ∙ sym (map_push (mask_of (with_one cell h)) old.points p) ∙ ap (map (mask_of (with_one cell h))) (sym ep);
  few = subst (λ (xs : List RationalPoint). length xs ≤ i + 1) (sym ep) (let f = k.few in omega (arith, f, length-append old.points (p ∷ [])));
}

-- a point that is not
kept_off : (cell : List HalfSpace) (h : HalfSpace) (points : List RationalPoint) (i : ℕ) (old new : Rows) (p : RationalPoint) → IsKeptUpTo cell h points i old → slice_get points i ≡ Some p
    → is_kept h p ≡ false → new.points ≡ old.points → new.planes ≡ old.planes → IsKeptUpTo cell h points (i + 1) new
kept_off cell h points i old new p k at e ep el = record {
  points_are = ep ∙ k.points_are ∙ sym (filter_push_false (is_kept h) (take i points) p e) ∙ ap (filter (is_kept h)) (sym (take_more points i p at));
  planes_are = el ∙ k.planes_are ∙ ap (map (mask_of (with_one cell h))) (sym ep);
  few = subst (λ (xs : List RationalPoint). length xs ≤ i + 1) (sym ep) (let f = k.few in omega (arith, f));
}

-- one point further
kept_more : (cell : List HalfSpace) (h : HalfSpace) (points : List RationalPoint) (i : ℕ) (old new : Rows) (p : RationalPoint) → length cell < 64 → IsKeptUpTo cell h points i old → slice_get points i ≡ Some p
    → new.points ≡ with_kept (is_not_below (side_of h p)) old.points p
    → new.planes ≡ with_kept (is_not_below (side_of h p)) old.planes (kept_planes (side_of h p) (mask_of cell p) (new_place cell)) → IsKeptUpTo cell h points (i + 1) new
kept_more cell h points i old new p room k at ep el = by_side (side_of h p) refl ep el
  where
    by_side : (s : Side) → side_of h p ≡ s → new.points ≡ with_kept (is_not_below s) old.points p
        → new.planes ≡ with_kept (is_not_below s) old.planes (kept_planes s (mask_of cell p) (new_place cell)) → IsKeptUpTo cell h points (i + 1) new
    by_side Above e a b = kept_on cell h points i old new p (mask_of cell p) k at (ap is_not_below e) (mask_stays cell h p room (above_not_zero (side_value h p) (known_side h p Above e))) a b
    by_side On e a b = kept_on cell h points i old new p _ k at (ap is_not_below e) (mask_grows cell h p room (known_side h p On e)) a b
    by_side Below e a b = kept_off cell h points i old new p k at (ap is_not_below e) a b

-- all of them
pub kept_all : {most : ℕ} (cell : List HalfSpace) (h : HalfSpace) (t kept : Rows) (sides : List Side) (i : ℕ) → HasSides most cell h t sides → IsKeptUpTo cell h t.points i kept → length sides ≤ i → i ≤ length sides
    → IsKeptTable most cell h t kept
kept_all cell h t kept sides i s k far end =
    let e : length sides ≡ length t.points = ap length s.each ∙ map_length (side_of h) t.points in
    let all : kept.points ≡ filter (is_kept h) t.points = k.points_are ∙ ap (filter (is_kept h)) (take_all t.points i (omega (arith, far, e))) in
    let few = k.few in
    let fits = s.table.fits in
    record {
      table = record {
        different = subst (λ (xs : List RationalPoint). AreDifferentVertices (with_one cell h) xs) (sym all) (record {
          distinct = filter_distinct (is_kept h) t.points s.table.different.distinct;
          vertices = λ v c. let f = filter_from (is_kept h) t.points v c in (vertices_follow_edges_spec cell h v).1 (inl (s.table.different.vertices v f.0, not_below_is h v f.1));
        });
        planes = k.planes_are;
        fits = omega (arith, few, end, e, fits);
      };
      kept = λ v c n. subst (λ (xs : List RationalPoint). Contains xs v) (sym all) (filter_keeps (is_kept h) t.points v c (is_not_below_true h v n));
    }

-- the point that is read at a place, in lowest terms
pub read_point : (points corners : List RationalPoint) (i : ℕ) (p q : RationalPoint) → map reduced_point corners ≡ points → p ≡ slice_index_or corners i p → i < length points → slice_get points i ≡ Some q
    → reduced_point p ≡ q
read_point points corners i p q e r l at =
    same_some (reduced_point p) q (ap (option_map reduced_point) (index_get corners i p few (sym r)) ∙ sym (map_get reduced_point corners i) ∙ ap (λ (xs : List RationalPoint). slice_get xs i) e ∙ at)
  where
    few : i < length corners
    few = let s : length points ≡ length corners = ap length (sym e) ∙ map_length reduced_point corners in omega (arith, s, l)

-- the places that are read there
pub read_planes : (cell : List HalfSpace) (planes read : List ℕ) (i d : ℕ) (q : RationalPoint) → read ≡ planes → ((e : ℕ) → slice_index_or planes i e ≡ mask_of cell q) → slice_index_or read i d ≡ mask_of cell q
read_planes cell planes read i d q e r = ap (λ (xs : List ℕ). slice_index_or xs i d) e ∙ r d

-- ---- the vertices below

-- the point is below the plane
abbrev pub is_under : HalfSpace → RationalPoint → Bool
is_under h p = is_below (side_of h p)

-- the places of those of the first i points that are below
pub record AreBelowUpTo (cell : List HalfSpace) (h : HalfSpace) (points : List RationalPoint) (i : ℕ) (below : List ℕ) : Type 0 where
  pub each : below ≡ map (mask_of cell) (filter (is_under h) (take i points))
  pub few : length below ≤ i

-- one point further
below_more : (cell : List HalfSpace) (h : HalfSpace) (points : List RationalPoint) (i : ℕ) (old new : List ℕ) (p : RationalPoint) → AreBelowUpTo cell h points i old → slice_get points i ≡ Some p
    → new ≡ with_kept (is_under h p) old (mask_of cell p) → AreBelowUpTo cell h points (i + 1) new
below_more cell h points i old new p k at e = by_test (is_under h p) refl e
  where
    by_test : (b : Bool) → is_under h p ≡ b → new ≡ with_kept b old (mask_of cell p) → AreBelowUpTo cell h points (i + 1) new
    by_test true t n = record {
      each = n ∙ ap (λ xs. xs ++ mask_of cell p ∷ []) k.each ∙ sym (map_push (mask_of cell) (filter (is_under h) (take i points)) p)
          ∙ ap (map (mask_of cell)) (sym (filter_push_true (is_under h) (take i points) p t) ∙ ap (filter (is_under h)) (sym (take_more points i p at)));
      few = subst (λ (xs : List ℕ). length xs ≤ i + 1) (sym n) (let f = k.few in omega (arith, f, length-append old (mask_of cell p ∷ [])));
    }
    by_test false t n = record {
      each = n ∙ k.each ∙ ap (map (mask_of cell)) (sym (filter_push_false (is_under h) (take i points) p t) ∙ ap (filter (is_under h)) (sym (take_more points i p at)));
      few = subst (λ (xs : List ℕ). length xs ≤ i + 1) (sym n) (let f = k.few in omega (arith, f));
    }

-- a side that is below
is_below_side : (s : Side) → is_below s ≡ true → s ≡ Below
is_below_side Above e = absurd (cc)
is_below_side On e = absurd (cc)
is_below_side Below e = refl

-- the places of all of them
pub below_all : {most : ℕ} (cell : List HalfSpace) (h : HalfSpace) (t : Rows) (sides : List Side) (i : ℕ) (below : List ℕ) → HasSides most cell h t sides → AreBelowUpTo cell h t.points i below → length sides ≤ i → AreAllBelow cell h t below
below_all cell h t sides i below s k far =
    subst (λ (xs : List ℕ). AreAllBelow cell h t xs) (sym all) (record {
      each = λ set c.
          let m = contains_map (mask_of cell) (filter (is_under h) t.points) set c in
          let f = filter_from (is_under h) t.points m.0 m.1 in (
            m.0,
            s.table.different.vertices m.0 f.0,
            known_side h m.0 Below (is_below_side (side_of h m.0) f.1),
            m.2,
          );
      all = λ w c l. map_contains (mask_of cell) (filter (is_under h) t.points) w (filter_keeps (is_under h) t.points w c (ap is_below (below_side h w l)));
    })
  where
    all : below ≡ map (mask_of cell) (filter (is_under h) t.points)
    all =
        let e : length sides ≡ length t.points = ap length s.each ∙ map_length (side_of h) t.points in
        k.each ∙ ap (λ (xs : List RationalPoint). map (mask_of cell) (filter (is_under h) xs)) (take_all t.points i (omega (arith, far, e)))

-- ---- as the code reads them

-- the first i points are split
pub record IsSplitUpTo (cell : List HalfSpace) (h : HalfSpace) (points : List RationalPoint) (i : ℕ) (table : Rows) (sets : List ℕ) : Type 0 where
  pub kept : IsKeptUpTo cell h points i table
  pub below : AreBelowUpTo cell h points i sets

-- one point further
pub split_next : {most : ℕ} (cell : List HalfSpace) (h : HalfSpace) (t old new : Rows) (sides : List Side) (i n : ℕ) (p : RationalPoint) (corners : List RationalPoint) (planes before below : List ℕ)
    → HasSides most cell h t sides → i < length sides → IsSplitUpTo cell h t.points i old before → map reduced_point corners ≡ t.points → p ≡ slice_index_or corners i p → planes ≡ t.planes → n ≡ length cell
    → new.points ≡ with_kept (is_not_below (slice_index_or sides i Above)) old.points (reduced_point p)
    → new.planes ≡ with_kept (is_not_below (slice_index_or sides i Above)) old.planes (kept_planes (slice_index_or sides i Above) (slice_index_or planes i 0) (1 * 2 ^ n % 2 ^ 128))
    → below ≡ with_kept (is_below (slice_index_or sides i Above)) before (slice_index_or planes i 0)
    → IsSplitUpTo cell h t.points (i + 1) new below
split_next cell h t old new sides i n p corners planes before below s l k ep pi el en a b c =
    let r = row cell h t sides i s l in
    let is_point = read_point t.points corners i p r.point ep pi (get_below t.points i r.point r.at) r.at in
    let is_planes = read_planes cell t.planes planes i 0 r.point el r.planes in
    record {
      kept = kept_more cell h t.points i old new r.point s.room k.kept r.at
          (a ∙ (λ j. with_kept (is_not_below (r.side Above j)) old.points (is_point j)))
          (b ∙ (λ j. with_kept (is_not_below (r.side Above j)) old.planes (kept_planes (r.side Above j) (is_planes j) (1 * 2 ^ en j % 2 ^ 128))));
      below = below_more cell h t.points i before below r.point k.below r.at (c ∙ (λ j. with_kept (is_below (r.side Above j)) before (is_planes j)));
    }
