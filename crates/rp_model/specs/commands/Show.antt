-- show EXPRESSION: the parts of a region.
use Rattle.rp_semantics.specs.Walk.{pass}
use Rattle.rp_model.specs.commands.Definition.{AsksForm}
use Rattle.rp_model.specs.commands.Reply.{reply_lines}
use Rattle.rp_model.specs.commands.Rules.{answers}
use Rattle.rp_model.specs.commands.Verdict.{part_lines_of}

-- the definition of show
abbrev pub show_definition : AsksForm
show_definition = record { row = λ t ps. pass (reply_lines (part_lines_of ps)); rule = λ formed a. answers (part_lines_of formed.parts) }
