-- What follows for a slice that is the one to be shown.
use Rattle.std.proofs.Common.{◌≡◌, ℤ, true, List, Some, None, refl, sym, ap, ◌∙◌, subst}
use Rattle.std.specs.Prelude.{◌↔◌}
use Rattle.rp_geometry.specs.Geometry.{HalfSpace}
use Rattle.rp_geometry.specs.searches.Certificate.{Multiple}
use Rattle.rp_geometry.specs.laws.CellLaws.{AreHalfSpaces}
use Rattle.rp_geometry.specs.laws.SectionLaws.{HasMemberAt, IsRing, IsSliceOf}
use Rattle.rp_geometry.specs.sections.Trace.{IsHeight}
use Rattle.rp_geometry.specs.sections.Ring.{RingStep, is_ring, ring_of}
use Rattle.rp_geometry.specs.sections.Flat.{first_flat}
use Rattle.rp_geometry.specs.sections.Slice as model
use Rattle.rp_slice.proofs.Center.{ring_shows_member_spec}
use Rattle.rp_slice.proofs.Never.{never_flat}
use Rattle.rp_slice.proofs.RingFound.{slice_is_found_spec, none_ring}
use Rattle.rp_cert.specs.declared.slice.Slice.{Slice}
use Rattle.rp_cert.specs.declared.slice.Slice.TheVariants.{Ring, Flat}
use Rattle.rp_cert.specs.Section.{slice_shown, Shows}
use Rattle.rp_cert.proofs.Shown.{slice_shown_by}
use Rattle.rp_section.specs.Shown.{IsFlat}

module _ (z : ℤ) (cell : List HalfSpace) (hz : IsHeight z) (bounds : AreHalfSpaces cell) where
  -- a ring is the slice
  pub ring_value : (steps : List RingStep) → is_ring z cell steps ≡ true → model.ring steps ≡ model.slice_of z cell
  ring_value steps e = (slice_is_found_spec z cell hz bounds).only (model.ring steps) e

  -- so is a flat certificate that is found
  pub flat_value : (terms : List Multiple) → first_flat z cell ≡ Some terms → model.flat terms ≡ model.slice_of z cell
  unfolding model.slice_of
  flat_value terms e = λ i. elim (sym e i) [ Some us ↦ model.flat us | None ↦ model.ring (ring_of z cell) ]

  -- where none is found, so are steps that are every ring
  pub none_value : (steps : List RingStep) → ((others : List RingStep) → IsRing z cell others → steps ≡ others) → first_flat z cell ≡ None → model.ring steps ≡ model.slice_of z cell
  unfolding model.slice_of
  none_value steps all e =
      ap model.ring (all (ring_of z cell) (none_ring z cell hz bounds e))
      ∙ (λ i. elim (sym e i) [ Some us ↦ model.flat us | None ↦ model.ring (ring_of z cell) ])

  -- the slice is the one to be shown
  pub slice_right : (s : Slice) → slice_shown s ≡ model.slice_of z cell → IsSliceOf z cell (slice_shown s)
  slice_right s e = subst (λ (t : model.Slice). IsSliceOf z cell t) (sym e) (slice_is_found_spec z cell hz bounds).is

  -- it passes the test
  passes : (s : Slice) → slice_shown s ≡ model.slice_of z cell → model.is_slice z cell (slice_shown s) ≡ true
  passes s e = subst (λ (t : model.Slice). model.is_slice z cell t ≡ true) (sym e) (slice_is_found_spec z cell hz bounds).passes

  -- so it shows what it shows
  pub slice_shows : (s : Slice) → slice_shown s ≡ model.slice_of z cell → Shows z cell (slice_shown s)
  slice_shows s e = slice_shown_by z cell (slice_shown s) true hz (sym (passes s e)) refl

  -- it is flat exactly where there is no member
  pub slice_flat : (s : Slice) → slice_shown s ≡ model.slice_of z cell → IsFlat s ↔ (¬ HasMemberAt z cell)
  slice_flat (Ring steps) e = (λ b. absurd b, λ n. absurd (n (ring_shows_member_spec z cell steps hz (passes (Ring steps) e))))
  slice_flat (Flat terms) e = (λ u m. never_flat z cell m.0 terms m.1 (passes (Flat terms) e), λ n. tt)
