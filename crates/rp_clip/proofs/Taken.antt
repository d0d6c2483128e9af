-- The search for the first certificates over the rows of a table.
use Rattle.std.proofs.Common.{◌≡◌, ℕ, zero, suc, ◌-◌, ◌^◌, ◌<◌, ◌≤◌, ◌⊎◌, inl, inr, ⊎_elim, true, List, [], ◌∷◌, ◌++◌, length, refl, sym, ap, ◌∙◌, subst, arith, lt_of_le_of_lt}
use Rattle.std.specs.Prelude.{Option, Some, None, bit_and, option_map}
use Rattle.std.specs.List.{slice_get}
use Rattle.std.specs.Int.{bit_not, w128}
use Rattle.std.specs.Int.Bits.{and_zero_l}
use Rattle.std.proofs.Math.Nat.{mod-eq_of_lt}
use Rattle.std.proofs.lemmas.List.{append-nil, append_assoc}
use Rattle.std.proofs.lemmas.Nat.{and_comm, and_le_l, and_mask}
use Rattle.rp_algebra.proofs.Options.{same_some}
use Rattle.rp_algebra.proofs.Tests.{false_not_true}
use Rattle.rp_algebra.proofs.Lists.{map_get}
use Rattle.rp_geometry.specs.Geometry.{RationalPoint, HalfSpace, with_cube}
use Rattle.rp_geometry.specs.searches.Vertex.{first_vertex, any_point, lifts, flat_half_spaces, complete_points, points_from, first_inside, first_weak_point}
use Rattle.rp_convex.proofs.Progress.{room_for_next}
use Rattle.rp_convex.proofs.WeakPoint.{found_is_vertex}
use Rattle.rp_clip.specs.Firsts.{is_off, HasFirst, IsFirstAt}
use Rattle.rp_clip.specs.Masks.{mask_of}
use Rattle.rp_clip.specs.Taken.{left_of, AreTaken, IsTakenTo, IsWithin}
use Rattle.rp_space.proofs.Bits.{set_below}
use Rattle.rp_clip.proofs.Masks.{in_both}
use Rattle.rp_clip.proofs.Off.{off_false}
use Rattle.rp_clip.proofs.Flat.{AreSame, mask_small, off_place, place_off, lifts_off, tests_agree, first_off_whole, same_first, same_next, same_empty, same_some_flat, smaller}
use Rattle.rp_clip.proofs.HalfAt.{get_below}
use Rattle.rp_convex.proofs.Rounds.{IsFar, far_first, far_next}
use Rattle.rp_clip.proofs.Sides.{map_length}
use Rattle.rp_clip.specs.Tables.{Rows}

-- ---- the rows

-- a row that was found is one of the table
pub row_below : (cell : List HalfSpace) (set : ℕ) (points : List RationalPoint) (i : ℕ) → IsFirstAt cell set points i → i < length points
row_below cell set points i k = get_below points i k.point k.at

-- and of its places
pub places_below : {most : ℕ} (cell : List HalfSpace) (t : Rows) (set i : ℕ) → HasFirst most cell set t → IsFirstAt cell set t.points i → i < length t.planes
places_below cell t set i k f =
    let e : length t.planes ≡ length t.points = ap length k.table.planes ∙ map_length (mask_of cell) t.points in
    let h = row_below cell set t.points i f in
    omega (arith, e, h)

-- the point that is read
read_is : (cell : List HalfSpace) (set : ℕ) (points : List RationalPoint) (i : ℕ) (p : RationalPoint) (f : IsFirstAt cell set points i) → Some p ≡ slice_get points i → f.point ≡ p
read_is cell set points i p f e = same_some f.point p (sym f.at ∙ sym e)

-- the places that are read
mask_is : {most : ℕ} (cell : List HalfSpace) (t : Rows) (set i m : ℕ) (k : HasFirst most cell set t) (f : IsFirstAt cell set t.points i) → Some m ≡ slice_get t.planes i → m ≡ mask_of cell f.point
mask_is cell t set i m k f e =
    same_some m (mask_of cell f.point) (e ∙ ap (λ (xs : List ℕ). slice_get xs i) k.table.planes ∙ map_get (mask_of cell) t.points i ∙ ap (option_map (mask_of cell)) f.at)

-- the first vertex, as the code finds it
first_is : (cell : List HalfSpace) (points : List RationalPoint) (i : ℕ) → length cell ≤ 64 → (f : IsFirstAt cell (2 ^ 128 - 1) points i) → first_vertex any_point (with_cube cell) ≡ Some f.point
first_is cell points i few f = sym (first_off_whole cell few) ∙ f.is_first

-- ---- the first weak point

-- it is the first vertex
pub weak_point_is : (cell : List HalfSpace) (points : List RationalPoint) (i : ℕ) (p : RationalPoint) → length cell ≤ 64 → IsFirstAt cell (2 ^ 128 - 1) points i → Some p ≡ slice_get points i → Some p ≡ first_weak_point cell
unfolding first_weak_point
weak_point_is cell points i p few f e = ap Some (sym (read_is cell (2 ^ 128 - 1) points i p f e)) ∙ sym (first_is cell points i few f)

-- where there is none there is no weak point
pub no_weak_point : (cell : List HalfSpace) → length cell ≤ 64 → first_vertex (is_off cell (2 ^ 128 - 1)) (with_cube cell) ≡ None → None ≡ first_weak_point cell
unfolding first_weak_point
no_weak_point cell few e = sym e ∙ first_off_whole cell few

-- ---- the points taken

-- how far the search has come: the set holds the places of the half-spaces that are 0 at all points taken
record IsFlat (cell : List HalfSpace) (set : ℕ) (taken : List RationalPoint) : Type 0 where
  first : RationalPoint
  is_first : first_vertex any_point (with_cube cell) ≡ Some first
  flat : List HalfSpace
  far : IsFar (with_cube cell) first flat taken
  same : AreSame cell flat set

-- all places and those of a mask have the mask in common
whole_mask : (cell : List HalfSpace) (p : RationalPoint) → length cell ≤ 64 → bit_and (2 ^ 128 - 1) (mask_of cell p) ≡ mask_of cell p
whole_mask cell p few = and_comm (2 ^ 128 - 1) (mask_of cell p) ∙ and_mask (mask_of cell p) 128 ∙ mod-eq_of_lt (mask_small cell p few)

-- with the first point
flat_first : (cell : List HalfSpace) (p : RationalPoint) → length cell ≤ 64 → first_vertex (is_off cell (2 ^ 128 - 1)) (with_cube cell) ≡ Some p → IsFlat cell (bit_and (2 ^ 128 - 1) (mask_of cell p)) (p ∷ [])
flat_first cell p few e =
    let first = sym (first_off_whole cell few) ∙ e in
    let weak = (found_is_vertex any_point (with_cube cell) p first).weak in
    subst (λ (n : ℕ). IsFlat cell n (p ∷ [])) (sym (whole_mask cell p few)) (record {
      first = p;
      is_first = first;
      flat = flat_half_spaces (with_cube cell) (p ∷ []);
      far = far_first (with_cube cell) p (flat_half_spaces (with_cube cell) (p ∷ [])) (p ∷ []) first refl refl;
      same = same_first cell p few weak;
    })

-- what is found next is the next vertex of the search
next_is : (cell : List HalfSpace) (set : ℕ) (taken : List RationalPoint) (p : RationalPoint) → length cell ≤ 64 → (s : IsFlat cell set taken) → first_vertex (is_off cell set) (with_cube cell) ≡ Some p
    → first_vertex (lifts s.flat) (with_cube cell) ≡ Some p
next_is cell set taken p few s e = tests_agree (lifts s.flat) (is_off cell set) (with_cube cell) (λ q w. lifts_off cell s.flat set q few s.same w) ∙ e

-- something is off a set that has a place
set_some : (cell : List HalfSpace) (set : ℕ) (p : RationalPoint) → is_off cell set p ≡ true → set ≡ 0 → ⊥
set_some cell set p o e = false_not_true (is_off cell set p) o (ap (λ n. is_off cell n p) e ∙ off_false (bit_and 0 (bit_not w128 (mask_of cell p))) (and_zero_l (bit_not w128 (mask_of cell p))))

-- with one point more
flat_next : (cell : List HalfSpace) (set : ℕ) (taken : List RationalPoint) (p : RationalPoint) → length cell ≤ 64 → IsFlat cell set taken → first_vertex (is_off cell set) (with_cube cell) ≡ Some p
    → IsFlat cell (bit_and set (mask_of cell p)) (taken ++ p ∷ [])
flat_next cell set taken p few s e =
    let found = found_is_vertex (is_off cell set) (with_cube cell) p e in
    record {
      first = s.first;
      is_first = s.is_first;
      flat = flat_half_spaces s.flat (p ∷ []);
      far = far_next (with_cube cell) s.first s.flat (flat_half_spaces s.flat (p ∷ [])) taken (taken ++ p ∷ []) p s.far (same_some_flat cell s.flat set s.same (set_some cell set p found.passes)) (next_is cell set taken p few s e) refl refl;
      same = same_next cell s.flat set p few found.weak s.same;
    }

-- with a list of them
flat_further : (cell : List HalfSpace) (set : ℕ) (taken points : List RationalPoint) → length cell ≤ 64 → IsFlat cell set taken → AreTaken cell set points → IsFlat cell (left_of cell set points) (taken ++ points)
flat_further cell set taken [] few s k = subst (λ (ps : List RationalPoint). IsFlat cell set ps) (sym (append-nil taken)) s
flat_further cell set taken (p ∷ points) few s k =
    subst (λ (ps : List RationalPoint). IsFlat cell (left_of cell (bit_and set (mask_of cell p)) points) ps) (append_assoc taken (p ∷ []) points)
    (flat_further cell (bit_and set (mask_of cell p)) (taken ++ p ∷ []) points few (flat_next cell set taken p few s k.0) k.1)

-- nothing is taken yet, or how far the search has come
state : (cell : List HalfSpace) (set : ℕ) (taken : List RationalPoint) → length cell ≤ 64 → IsTakenTo cell set taken → ((taken ≡ []) × (set ≡ 2 ^ 128 - 1)) ⊎ IsFlat cell set taken
state cell set [] few k = inl (refl, k.left)
state cell set (p ∷ points) few k =
    inr (subst (λ (n : ℕ). IsFlat cell n (p ∷ points)) (sym k.left) (flat_further cell (bit_and (2 ^ 128 - 1) (mask_of cell p)) (p ∷ []) points few (flat_first cell p few k.taken.0) k.taken.1))

-- one more at the end of a list
taken_end : (cell : List HalfSpace) (set : ℕ) (points : List RationalPoint) (p : RationalPoint) → AreTaken cell set points → first_vertex (is_off cell (left_of cell set points)) (with_cube cell) ≡ Some p
    → AreTaken cell set (points ++ p ∷ [])
taken_end cell set [] p k e = (e, tt)
taken_end cell set (q ∷ points) p k e = (k.0, taken_end cell (bit_and set (mask_of cell q)) points p k.1 e)

-- what it leaves
left_end : (cell : List HalfSpace) (set : ℕ) (points : List RationalPoint) (p : RationalPoint) → left_of cell set (points ++ p ∷ []) ≡ bit_and (left_of cell set points) (mask_of cell p)
left_end cell set [] p = refl
left_end cell set (q ∷ points) p = left_end cell (bit_and set (mask_of cell q)) points p

-- one more is taken
taken_more : (cell : List HalfSpace) (set : ℕ) (taken : List RationalPoint) (p : RationalPoint) → IsTakenTo cell set taken → first_vertex (is_off cell set) (with_cube cell) ≡ Some p
    → IsTakenTo cell (bit_and set (mask_of cell p)) (taken ++ p ∷ [])
taken_more cell set taken p k e = record {
  taken = taken_end cell (2 ^ 128 - 1) taken p k.taken (subst (λ (n : ℕ). first_vertex (is_off cell n) (with_cube cell) ≡ Some p) k.left e);
  left = ap (λ n. bit_and n (mask_of cell p)) k.left ∙ sym (left_end cell (2 ^ 128 - 1) taken p);
}

-- ---- as the code takes them from a table

-- the row that was found, as one of the table
pub taken_next : {most : ℕ} (cell : List HalfSpace) (t : Rows) (set i m : ℕ) (p : RationalPoint) (taken more : List RationalPoint) → HasFirst most cell set t → IsTakenTo cell set taken → IsFirstAt cell set t.points i
    → Some p ≡ slice_get t.points i → Some m ≡ slice_get t.planes i → more ≡ taken ++ p ∷ [] → IsTakenTo cell (bit_and set m) more
taken_next cell t set i m p taken more k s f ep em et =
    subst (λ (l : ℕ). IsTakenTo cell (bit_and set l) more) (sym (mask_is cell t set i m k f em))
    (subst (λ (ps : List RationalPoint). IsTakenTo cell (bit_and set (mask_of cell f.point)) ps) (sym (et ∙ ap (λ q. taken ++ q ∷ []) (sym (read_is cell set t.points i p f ep))))
    (taken_more cell set taken f.point s f.is_first))

-- there is room for it
pub next_room : {most : ℕ} (cell : List HalfSpace) (t : Rows) (set i : ℕ) (taken : List RationalPoint) → HasFirst most cell set t → IsTakenTo cell set taken → IsFirstAt cell set t.points i → length taken < 4
next_room cell t set i taken k s f =
    ⊎_elim
    (λ (n : (taken ≡ []) × (set ≡ 2 ^ 128 - 1)). subst (λ (ps : List RationalPoint). length ps < 4) (sym n.0) (omega arith))
    (λ (n : IsFlat cell set taken). room_for_next (with_cube cell) n.flat taken f.point n.far.progress (next_is cell set taken f.point k.few n f.is_first))
    (state cell set taken k.few s)

-- with it the set becomes smaller
pub next_smaller : {most : ℕ} (cell : List HalfSpace) (t : Rows) (set i m : ℕ) → HasFirst most cell set t → set < 2 ^ 128 → IsFirstAt cell set t.points i → Some m ≡ slice_get t.planes i → bit_and set m < set
next_smaller cell t set i m k small f e =
    subst (λ (n : ℕ). bit_and set n < set) (sym (mask_is cell t set i m k f e))
    (smaller cell set f.point k.few small (found_is_vertex (is_off cell set) (with_cube cell) f.point f.is_first).passes)

-- and it is within the one before
pub next_within : (cell : List HalfSpace) (set whole m : ℕ) → length cell ≤ 64 → set < 2 ^ 128 → IsWithin cell set whole → IsWithin cell (bit_and set m) whole
next_within cell set whole m few small w p o =
    let mask = mask_small cell p few in
    let off = off_place (bit_and set m) (mask_of cell p) (lt_of_le_of_lt (and_le_l set m) small) mask o in
    w p (place_off set (mask_of cell p) mask (record { place = off.place; in_set = (in_both set m off.place off.in_set).0; not_in_mask = off.not_in_mask }) (set_below set off.place small (in_both set m off.place off.in_set).0))

-- ---- at the end

-- with nothing left the points are the certificate
pub taken_all : (cell : List HalfSpace) (set : ℕ) (taken : List RationalPoint) → length cell ≤ 64 → IsTakenTo cell set taken → set ≡ 0 → Some taken ≡ first_inside cell
unfolding first_inside
taken_all cell set taken few k e =
    ⊎_elim
    (λ (n : (taken ≡ []) × (set ≡ 2 ^ 128 - 1)). absurd (not_whole (sym e ∙ n.1)))
    (λ (s : IsFlat cell set taken). ap (λ (flat : List HalfSpace). complete_points (length (with_cube cell)) (with_cube cell) flat taken) (sym (same_empty cell s.flat set s.same e)) ∙ s.far.same ∙ ap (points_from (with_cube cell)) (sym s.is_first))
    (state cell set taken few k)
  where
    not_whole : ◌≡◌ {A = ℕ} 0 (2 ^ 128 - 1) → ⊥
    not_whole e = omega (arith, e)

-- the search ends where no vertex is found
stuck : (room : ℕ) (hs flat : List HalfSpace) (taken : List RationalPoint) → 0 < length flat → first_vertex (lifts flat) hs ≡ None → complete_points room hs flat taken ≡ None
stuck room hs [] taken l e = absurd (omega (arith, l))
stuck zero hs (h ∷ flat) taken l e = refl
stuck (suc room) hs (h ∷ flat) taken l e = ap (λ (o : Option RationalPoint). elim o [ None ↦ None | Some q ↦ complete_points room hs (flat_half_spaces (h ∷ flat) (q ∷ [])) (taken ++ q ∷ []) ]) e

-- with something left and no vertex found there is no certificate
pub none_taken : (cell : List HalfSpace) (set : ℕ) (taken : List RationalPoint) → length cell ≤ 64 → (set ≡ 0 → ⊥) → IsTakenTo cell set taken → first_vertex (is_off cell set) (with_cube cell) ≡ None → None ≡ first_inside cell
unfolding first_inside
none_taken cell set taken few n k e =
    ⊎_elim
    (λ (s : (taken ≡ []) × (set ≡ 2 ^ 128 - 1)). ap (points_from (with_cube cell)) (sym (subst (λ (m : ℕ). first_vertex (is_off cell m) (with_cube cell) ≡ None) s.1 e) ∙ first_off_whole cell few))
    (λ (s : IsFlat cell set taken).
    let none = tests_agree (lifts s.flat) (is_off cell set) (with_cube cell) (λ p w. lifts_off cell s.flat set p few s.same w) ∙ e in
    sym (stuck (length (with_cube cell)) (with_cube cell) s.flat taken (same_some_flat cell s.flat set s.same n) none) ∙ s.far.same ∙ ap (points_from (with_cube cell)) (sym s.is_first))
    (state cell set taken few k)
