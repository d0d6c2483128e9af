use Rattle.std.proofs.Common.{◌≡◌, sym, subst}
use Rattle.rp_geometry.specs.sets.Shape.{Part}
use Rattle.rp_geometry.specs.parts.PartTest.{whole_part}
use Rattle.rp_geometry.specs.parts.Parts.{IsCheckedPart}
use Rattle.rp_space.specs.Boxes.{integer_box}
use Rattle.rp_row_soundness.proofs.Lines.{line_tester_is_right_spec}
use Rattle.rp_trail.proofs.answers.whole_part.Goals as goal

pub invariant_of-result : goal.invariant_of-result
invariant_of-result c =
    let same : ◌≡◌ {A = Part} whole_part (record { cell = c.new.result.items; bounds = integer_box c.cube.result }) = λ i. record { cell = sym c.new.ensures i; bounds = sym c.cube.ensures i } in
    subst IsCheckedPart same line_tester_is_right_spec.whole
