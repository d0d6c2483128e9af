use Rattle.std.proofs.Common.{ap, ◌∙◌}
use Rattle.rp_language.proofs.ReadBounds.{read_expressions_are_kept_spec, read_heights_are_kept_spec, read_children_are_few}
use Rattle.rp_command.specs.Views.{command_of, line_of}
use Rattle.rp_checker.proofs.answer.follow_read.Goals as goal

pub follow_command-requires-clause-kept : goal.follow_command-requires-clause-kept
follow_command-requires-clause-kept c = let r = c.requires.read in read_expressions_are_kept_spec r.0 r.1 (command_of c.in-Cmd.command) (r.2 ∙ ap line_of c.in-Cmd.is)

pub follow_command-requires-clause-heights : goal.follow_command-requires-clause-heights
follow_command-requires-clause-heights c = let r = c.requires.read in read_heights_are_kept_spec r.0 r.1 (command_of c.in-Cmd.command) (r.2 ∙ ap line_of c.in-Cmd.is)

pub follow_command-requires-clause-few : goal.follow_command-requires-clause-few
follow_command-requires-clause-few c = let r = c.requires.read in read_children_are_few r.0 r.1 (command_of c.in-Cmd.command) (r.2 ∙ ap line_of c.in-Cmd.is)
