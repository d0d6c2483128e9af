-- The first vertices, from the polygon on one plane after the other.
use Rattle.std.proofs.Common.{◌≡◌, ℕ, ◌+◌, ◌<◌, ◌≤◌, inl, inr, ⊎_elim, Bool, true, false, List, length, refl, sym, ◌∙◌, subst, arith}
use Rattle.std.specs.Int.{bit_at}
use Rattle.std.specs.List.{Contains}
use Rattle.std.proofs.lemmas.Bool.{cases_order}
use Rattle.rp_algebra.proofs.Tests.{false_not_true}
use Rattle.rp_algebra.proofs.Lists.{get_left}
use Rattle.rp_geometry.specs.Geometry.{RationalPoint, HalfSpace, cube_half_spaces}
use Rattle.rp_geometry.specs.searches.Vertex.{vertices}
use Rattle.rp_convex.specs.Bases.{Places, IsBefore}
use Rattle.rp_clip.specs.Firsts.{is_off, AreOn, IsBehind}
use Rattle.rp_space.specs.Places.{IsIn}
use Rattle.rp_clip.specs.Masks.{mask_of}
use Rattle.rp_clip.specs.Polygons.{IsPolygon, AreOnPlane}
use Rattle.rp_clip.specs.Tables.{Rows}
use Rattle.rp_clip.specs.Taken.{IsWithin, HasFirsts}
use Rattle.rp_clip.proofs.HalfAt.{at_cell}
use Rattle.rp_clip.proofs.Masks.{in_mask, mask_in, same_or_not}

-- no vertex on a plane of before is off the set
abbrev pub NoneBefore : List HalfSpace → ℕ → ℕ → Type 0
NoneBefore cell place set = (v : RationalPoint) → Contains (vertices cell) v → (i : ℕ) → i < place → IsIn (mask_of cell v) i → is_off cell set v ≡ false

-- at first
pub none_before_first : (cell : List HalfSpace) (set : ℕ) → NoneBefore cell 0 set
none_before_first cell set v c i l b = absurd (omega (arith, l))

-- the first place of a triple is at most that of one that is not before it
first_at_most : (p q : Places) → IsBefore q p → q.first ≤ p.first
first_at_most p q (inl l) = omega (arith, l)
first_at_most p q (inr (e, l)) = omega (arith, e)

-- the polygon on a plane has the first vertex off a set, where no vertex on a plane of before is off it
pub polygon_firsts : (cell : List HalfSpace) (t : Rows) (place set : ℕ) → place < length cell → IsPolygon cell place t → AreOnPlane cell place t.points → NoneBefore cell place set → HasFirsts 16 cell set t
polygon_firsts cell t place set low k on before less within = record {
  few = k.few;
  bounds = k.bounds;
  table = k.table;
  others = λ w c o. ⊎_elim
      (λ (b : bit_at (mask_of cell w) place ≡ 1). inl (k.complete w c b))
      (λ (n : bit_at (mask_of cell w) place ≡ 1 → ⊥). inr (behind w c o n))
      (same_or_not (bit_at (mask_of cell w) place) 1);
}
  where
    behind : (w : RationalPoint) → Contains (vertices cell) w → is_off cell less w ≡ true → (IsIn (mask_of cell w) place → ⊥) → IsBehind cell less t.points w
    behind w c o n v p q cv ov gp gq earlier =
        let f = in_mask cell v place k.few (on v cv) in
        let stands = get_left cell cube_half_spaces place low ∙ sym (at_cell cell place (omega (arith, low, few))) ∙ f.at in
        let first = gp.lowest place f.half (record { stands = stands; on = f.on }) in
        let least = first_at_most p q earlier in
        let below : q.first < length cell = omega (arith, first, least, low) in
        let one = gq.basis.first in
        let bit = mask_in cell w q.first gq.basis.one k.few (at_cell cell q.first (omega (arith, below, few)) ∙ sym (get_left cell cube_half_spaces q.first below) ∙ one.stands) one.on in
        ⊎_elim
        (λ (s : q.first ≡ place). n (subst (λ (i : ℕ). IsIn (mask_of cell w) i) s bit))
        (⊎_elim
        (λ (l : q.first < place). false_not_true (is_off cell set w) (within w o) (before w c q.first l bit))
        (λ (l : place < q.first). absurd (omega (arith, l, first, least))))
        (cases_order q.first place)
      where
        few : length cell ≤ 64
        few = k.few

-- where no vertex of the polygon is off, none on its plane is
pub none_before_next : (cell : List HalfSpace) (t : Rows) (place set less : ℕ) → IsPolygon cell place t → IsWithin cell less set → AreOn cell less t.points → NoneBefore cell place set → NoneBefore cell (place + 1) less
none_before_next cell t place set less k within none before v c i l b =
    ⊎_elim
    (λ (s : i ≡ place). none v (k.complete v c (subst (λ (j : ℕ). IsIn (mask_of cell v) j) s b)))
    (⊎_elim
    (λ (m : i < place). not_off (is_off cell less v) (λ o. false_not_true (is_off cell set v) (within v o) (before v c i m b)))
    (λ (m : place < i). absurd (omega (arith, l, m))))
    (cases_order i place)
  where
    not_off : (b : Bool) → (b ≡ true → ⊥) → b ≡ false
    not_off true n = absurd (n refl)
    not_off false n = refl
