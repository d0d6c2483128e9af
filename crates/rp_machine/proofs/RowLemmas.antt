-- What the rows of commands come to.
use Rattle.std.proofs.Common.{◌≡◌, ℤ, List, refl}
use Rattle.rp_geometry.specs.sets.Shape.{Part}
use Rattle.rp_semantics.specs.Walk.{Work, done, slices_found, first_tester}
use Rattle.rp_model.specs.commands.Verdict.{section_lines}
use Rattle.rp_model.specs.commands.Reply.{reply_lines}
use Rattle.rp_model.specs.commands.Section.{row_section}
use Rattle.rp_section.specs.Shown.{slices_of}

-- the lines of a section are those of the slices of the parts
pub section_told : (z : ℤ) (ps : List Part) (w : Work) → row_section first_tester z ps w ≡ done (reply_lines (section_lines (slices_of z ps))) w
unfolding slices_found
section_told z ps w = refl
