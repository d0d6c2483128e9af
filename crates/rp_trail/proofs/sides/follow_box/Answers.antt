use Rattle.std.proofs.Common.{rules, ◌≡◌, true}
use Rattle.std.specs.Prelude.{Some}
use Rattle.rp_geometry.specs.Geometry.{is_box_in_bounds}
use Rattle.rp_geometry.specs.searches.ProofLine.{box_line}
use Rattle.rp_reports.specs.Check.{next_proof, taken_if}
use Rattle.rp_space.specs.Boxes.{integer_box}
use Rattle.rp_space.specs.declared.bounds.IntBox.{IntBox}
use Rattle.rp_row_soundness.proofs.Written.{next_is_written, written_box}
use Rattle.rp_trail.proofs.Tested.{right_where, taken_right}
use Rattle.rp_trail.proofs.sides.follow_box.Goals as goal

pub returns-in-Some-Bounds-clause-bounds : goal.returns-in-Some-Bounds-clause-bounds
returns-in-Some-Bounds-clause-bounds c =
    let bounds = c.in-Some-Bounds.bounds in
    let says : next_proof c.args.trail.now.lines ≡ Some (box_line (integer_box bounds)) = search rules in
    let fits = written_box (integer_box bounds) (next_is_written c.args.trail.now.lines (box_line (integer_box bounds)) says) in
    right_where (λ b. b) (λ (b : IntBox). is_box_in_bounds (integer_box b) ≡ true) c.take_if.result c.take_if.new.self (taken_if c.is_proper.result bounds c.args.trail.now) c.take_if.ensures.comes
    (taken_right (λ (b : IntBox). is_box_in_bounds (integer_box b) ≡ true) c.is_proper.result bounds c.args.trail.now fits)
