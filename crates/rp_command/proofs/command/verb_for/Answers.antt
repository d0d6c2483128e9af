use Rattle.std.proofs.Common.{map, ap, ◌∙◌}
use Rattle.std.specs.Prelude.{option_map}
use Rattle.rp_command.specs.Views.{verb_of}
use Rattle.rp_command.specs.declared.command.TheConstants.{VERBS}
use Rattle.rp_command.proofs.TableLemmas.{looked_up_as}
use Rattle.rp_command.proofs.command.verb_for.Goals as goal

pub returns : goal.returns
returns c = ap (option_map verb_of) c.looked_up.ensures ∙ looked_up_as verb_of c.args.word.now (map (λ entry. (entry.0.now, entry.1)) VERBS)
