-- Walks of a tester that is stopped by limits alone are stopped by limits alone.
use Rattle.std.proofs.Common.{ℤ, List}
use Rattle.rp_geometry.specs.sets.Shape.{Part}
use Rattle.rp_semantics.specs.Walk.{Tester}
use Rattle.rp_parametricity.proofs.OneTester.{TestsFulfil}
use Rattle.rp_parametricity.proofs.Stopping.{stopping}
pub use Rattle.rp_parametricity.proofs.Stopping.{StopsAtLimit}

-- a tester whose tests are stopped by limits alone
pub record OnlyLimits {W : Type 0} (t : Tester W) : Type 0 where
  pub tests : TestsFulfil (stopping W) t
  pub slices : (z : ℤ) (ps : List Part) (w : W) → StopsAtLimit (t.slices z ps w)
