-- The numbers of an edge as calls take them, and the word that the line of a slice begins with.
use Rattle.std.proofs.Common.{◌≡◌, Bool, true, false, ◌&&◌, ℤ, to_z, of_z, List, Option, Some, None, refl, sym, ap, ◌∙◌, subst}
use Rattle.std.specs.Prelude.{ℕ, codes, option_map}
use Rattle.std.specs.Int.RustNames.{FitsSigned}
use Rattle.std.proofs.lemmas.Int.{to_z-of_z}
use mir.Syntax.{w128}
use Rattle.rp_algebra.proofs.Options.{same_some, some_not_none}
use Rattle.rp_algebra.proofs.Tests.{and_true}
use Rattle.rp_geometry.specs.Geometry.{is_within_bound, cube_bound}
use Rattle.rp_geometry.specs.sections.Trace.{trace_of}
use Rattle.rp_geometry.specs.sections.Slice.{Slice, ring, flat}
use Rattle.rp_reports.specs.SliceText.{trace_bound, is_written_trace}
use Rattle.rp_text.specs.Readers.{behind, kept_if, behind_or}
use Rattle.rp_text.specs.SliceReaders.{written_edge, ring_steps, flat_terms, slice}
use Rattle.rp_text.proofs.ReaderLaws.{kept_true}
use Rattle.rp_text.proofs.WordLemmas.{found, missed}

-- ---- words

-- the steps of a ring
abbrev read_ring : List ℕ → Option Slice
read_ring rest = option_map ring (ring_steps rest)

-- the terms of a flat certificate
abbrev read_flat : List ℕ → Option Slice
read_flat rest = option_map flat (flat_terms rest)

-- the last word
abbrev from_flat : List ℕ → Option Slice
from_flat line = behind_or (codes "= flat") line read_flat None

-- a line that doesn't begin with the first word
pub past_ring : (line : List ℕ) → None ≡ behind (codes "= ring") line → from_flat line ≡ slice line
unfolding slice
past_ring line e = missed (codes "= ring") line read_ring (from_flat line) e

-- a line that does
pub with_ring : (line rest : List ℕ) → Some rest ≡ behind (codes "= ring") line → read_ring rest ≡ slice line
unfolding slice
with_ring line rest e = found (codes "= ring") line rest read_ring (from_flat line) e

-- a line that begins with the second word
pub with_flat : (line rest : List ℕ) → from_flat line ≡ slice line → Some rest ≡ behind (codes "= flat") line → read_flat rest ≡ slice line
with_flat line rest past e = found (codes "= flat") line rest read_flat None e ∙ past

-- or with neither
pub without : (line : List ℕ) → from_flat line ≡ slice line → None ≡ behind (codes "= flat") line → None ≡ slice line
without line past e = missed (codes "= flat") line read_flat None e ∙ past

-- ---- the numbers of an edge

-- a number that keeps its bound is the number, as a call takes it
kept_is : (bound u v : ℤ) → FitsSigned w128 v → Some u ≡ kept_if (is_within_bound bound (to_z w128 (of_z w128 v))) (to_z w128 (of_z w128 v)) → (u ≡ v) × (is_within_bound bound v ≡ true)
kept_is bound u v fits e = by (is_within_bound bound v) refl (subst (λ (x : ℤ). Some u ≡ kept_if (is_within_bound bound x) x) (to_z-of_z w128 v fits) e)
  where
    by : (t : Bool) → is_within_bound bound v ≡ t → Some u ≡ kept_if t v → (u ≡ v) × (is_within_bound bound v ≡ true)
    by true is e = (same_some u v e, is)
    by false is e = absurd (some_not_none u e)

-- a number that passes its bound
passes : (bound v : ℤ) → FitsSigned w128 v → None ≡ kept_if (is_within_bound bound (to_z w128 (of_z w128 v))) (to_z w128 (of_z w128 v)) → is_within_bound bound v ≡ false
passes bound v fits e = by (is_within_bound bound v) refl (subst (λ (x : ℤ). None ≡ kept_if (is_within_bound bound x) x) (to_z-of_z w128 v fits) e)
  where
    by : (t : Bool) → is_within_bound bound v ≡ t → None ≡ kept_if t v → is_within_bound bound v ≡ false
    by true is e = absurd (some_not_none v (sym e))
    by false is e = is

-- the first number passes its bound
pub first_missed : (a b d : ℤ) → FitsSigned w128 a → None ≡ kept_if (is_within_bound cube_bound (to_z w128 (of_z w128 a))) (to_z w128 (of_z w128 a)) → None ≡ written_edge (trace_of a b d)
first_missed a b d fits e = sym (ap (λ (t : Bool). kept_if (t && is_within_bound cube_bound b && is_within_bound trace_bound d) (trace_of a b d)) (passes cube_bound a fits e))

-- the second one does
pub second_missed : (a b d : ℤ) → FitsSigned w128 b → None ≡ kept_if (is_within_bound cube_bound (to_z w128 (of_z w128 b))) (to_z w128 (of_z w128 b)) → None ≡ written_edge (trace_of a b d)
second_missed a b d fits e = sym (ap (λ (t : Bool). kept_if (is_within_bound cube_bound a && t && is_within_bound trace_bound d) (trace_of a b d)) (passes cube_bound b fits e) ∙ by (is_within_bound cube_bound a) (is_within_bound trace_bound d))
  where
    by : (t u : Bool) → kept_if (t && false && u) (trace_of a b d) ≡ None
    by true u = refl
    by false u = refl

-- the third one does
pub third_missed : (a b d : ℤ) → FitsSigned w128 d → None ≡ kept_if (is_within_bound trace_bound (to_z w128 (of_z w128 d))) (to_z w128 (of_z w128 d)) → None ≡ written_edge (trace_of a b d)
third_missed a b d fits e = sym (ap (λ (t : Bool). kept_if (is_within_bound cube_bound a && is_within_bound cube_bound b && t) (trace_of a b d)) (passes trace_bound d fits e) ∙ by (is_within_bound cube_bound a && is_within_bound cube_bound b))
  where
    by : (t : Bool) → kept_if (t && false) (trace_of a b d) ≡ None
    by true = refl
    by false = refl

-- none does
pub edge_kept : (a b d u v w : ℤ) → FitsSigned w128 a → FitsSigned w128 b → FitsSigned w128 d
    → Some u ≡ kept_if (is_within_bound cube_bound (to_z w128 (of_z w128 a))) (to_z w128 (of_z w128 a))
    → Some v ≡ kept_if (is_within_bound cube_bound (to_z w128 (of_z w128 b))) (to_z w128 (of_z w128 b))
    → Some w ≡ kept_if (is_within_bound trace_bound (to_z w128 (of_z w128 d))) (to_z w128 (of_z w128 d))
    → Some (trace_of u v w) ≡ written_edge (trace_of a b d)
edge_kept a b d u v w fits_a fits_b fits_d e f g =
    let k = kept_is cube_bound u a fits_a e in
    let l = kept_is cube_bound v b fits_b f in
    let m = kept_is trace_bound w d fits_d g in
    let kept : is_written_trace (trace_of a b d) ≡ true = and_true (is_within_bound cube_bound a && is_within_bound cube_bound b) (is_within_bound trace_bound d) (and_true (is_within_bound cube_bound a) (is_within_bound cube_bound b) k.1 l.1) m.1 in
    (λ i. Some (trace_of (k.0 i) (l.0 i) (m.0 i))) ∙ sym (kept_true (is_written_trace (trace_of a b d)) (trace_of a b d) kept)
