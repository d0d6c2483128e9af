use Rattle.rp_geometry.specs.parts.Parts.{IsPart}
use Rattle.rp_semantics.specs.Walk.{first_tester}
use Rattle.rp_forms.proofs.First.{first_tester_is_right_spec}
use Rattle.rp_forms.proofs.Prisms.{prism_is_right_spec}
use Rattle.rp_forms.proofs.prism_is_right.Goals as goal

pub returns : goal.returns
returns c = prism_is_right_spec IsPart first_tester first_tester_is_right_spec
