-- What a certificate shows, for the answer of a check.
use Rattle.std.proofs.Common.{◌≡◌, ℤ, Bool, true, false, List, sym, ap, ◌∙◌}
use Rattle.std.specs.Prelude.{IsTrue}
use Rattle.rp_geometry.specs.Geometry.{RationalPoint, HalfSpace}
use Rattle.rp_geometry.specs.sets.Shape.{shape_of_cell}
use Rattle.rp_geometry.specs.sets.Sets.{IsNonempty, IsEmpty}
use Rattle.rp_geometry.specs.searches.Certificate.{Multiple, is_inside_certificate, is_outside_certificate}
use Rattle.rp_geometry.specs.laws.CellLaws.{AreHalfSpaces, IsSolution}
use Rattle.rp_convex.proofs.Certified.{inside_certificate_shows_member_spec}
use Rattle.rp_convex.proofs.Inside.{member_moves_inside_spec}
use Rattle.rp_convex.proofs.Never.{never_both}
use Rattle.rp_geometry.specs.sections.Trace.{IsHeight}
use Rattle.rp_geometry.specs.sections.Ring.{RingStep, is_ring}
use Rattle.rp_geometry.specs.sections.Slice as model
use Rattle.rp_slice.proofs.Center.{ring_shows_member_spec}
use Rattle.rp_slice.proofs.Closure.{closure_is_on_the_left_spec}
use Rattle.rp_slice.proofs.Corners.{ends_are_the_corners_spec}
use Rattle.rp_slice.proofs.Holding.{ring_holds_the_members_spec}
use Rattle.rp_slice.proofs.Never.{never_flat}
use Rattle.rp_slice.proofs.Unique.{ring_is_the_only_one_spec}
use Rattle.rp_cert.specs.Section.{RingShows, Shows}

-- points that pass show a member
pub member_shown : (cell : List HalfSpace) (points : List RationalPoint) (b : Bool) → b ≡ is_inside_certificate cell points → IsTrue b → IsNonempty (shape_of_cell cell)
member_shown cell points b e told = inside_certificate_shows_member_spec cell points (sym e ∙ told)

-- terms that pass for this kind of solution exclude all of that kind
none_shown : (kind strict : Bool) (cell : List HalfSpace) (terms : List Multiple) (b : Bool) → b ≡ is_outside_certificate strict cell terms → strict ≡ kind → IsTrue b → (p : RationalPoint) → ¬ IsSolution kind cell p
none_shown kind strict cell terms b e k told p s = never_both kind cell p terms s (ap (λ (v : Bool). is_outside_certificate v cell terms) (sym k) ∙ sym e ∙ told)

-- terms that pass strictly show that there is no member
pub empty_shown : (strict : Bool) (cell : List HalfSpace) (terms : List Multiple) (b : Bool) → AreHalfSpaces cell → b ≡ is_outside_certificate strict cell terms → strict ≡ true → IsTrue b → IsEmpty (shape_of_cell cell)
empty_shown strict cell terms b bounds e k told p m = let s = member_moves_inside_spec cell bounds (p, m) in none_shown true strict cell terms b e k told s.0 s.1

-- terms that pass weakly show that the weak system has no solution
pub apart_shown : (strict : Bool) (cell : List HalfSpace) (terms : List Multiple) (b : Bool) → b ≡ is_outside_certificate strict cell terms → strict ≡ false → IsTrue b → (p : RationalPoint) → ¬ IsSolution false cell p
apart_shown strict cell terms b e k told = none_shown false strict cell terms b e k told

-- ---- slices

-- what a ring that passes shows
ring_shown : (z : ℤ) (cell : List HalfSpace) (steps : List RingStep) → IsHeight z → IsTrue (is_ring z cell steps) → RingShows z cell steps
ring_shown z cell steps hz e = record {
  members = ring_holds_the_members_spec z cell steps hz e;
  some = ring_shows_member_spec z cell steps hz e;
  corners = ends_are_the_corners_spec z cell steps hz e;
  left = closure_is_on_the_left_spec z cell steps hz e;
  only = λ others f. ring_is_the_only_one_spec z cell others steps f e;
}

-- what a slice that passes shows
pub slice_shown_by : (z : ℤ) (cell : List HalfSpace) (s : model.Slice) (b : Bool) → IsHeight z → b ≡ model.is_slice z cell s → IsTrue b → Shows z cell s
slice_shown_by z cell (model.ring steps) b hz e told = ring_shown z cell steps hz (sym e ∙ told)
slice_shown_by z cell (model.flat terms) b hz e told = λ p m. never_flat z cell p terms m (sym e ∙ told)
