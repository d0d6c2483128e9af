-- The proof lines of the code as those of the model.
use Rattle.rp_geometry.specs.searches.ProofLine.{ProofLine, in_line, out_line, at_line, apart_line, drop_line, box_line}
use Rattle.rp_space.specs.Boxes.{integer_box}
use Rattle.rp_cert.specs.declared.proof.Proof.{Proof}
use Rattle.rp_cert.specs.declared.proof.Proof.TheVariants.{In, Out, At, Apart, Dropped, Bounds}

-- the proof line of the model for one of the code
abbrev pub line_of : Proof → ProofLine
line_of (In points) = in_line points
line_of (Out terms) = out_line terms
line_of (At p) = at_line p
line_of (Apart terms) = apart_line terms
line_of (Dropped h terms) = drop_line h terms
line_of (Bounds b) = box_line (integer_box b)
