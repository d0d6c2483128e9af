use Rattle.std.proofs.Common.{List, subst, arith}
use Rattle.std.proofs.lemmas.Grind.{common_steps}
use Rattle.rp_geometry.specs.sets.Shape.{Part}
use Rattle.rp_geometry.specs.parts.Parts.{IsRegion}
use Rattle.rp_region.proofs.region.Region.copy.Goals as goal

pub invariant_of-result : goal.invariant_of-result
invariant_of-result c = subst (λ (ps : List Part). IsRegion ps) (grind (arith, common_steps)) c.self.invariant
