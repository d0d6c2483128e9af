use Rattle.std.proofs.Common.{map, ap, ◌∙◌}
use Rattle.std.specs.Prelude.{option_map}
use Rattle.rp_syntax.specs.Keywords.{node_of}
use Rattle.rp_syntax.specs.declared.keywords.TheConstants.{NODES}
use Rattle.rp_command.proofs.TableLemmas.{looked_up_as}
use Rattle.rp_syntax.proofs.keywords.node_for.Goals as goal

pub returns : goal.returns
returns c = ap (option_map node_of) c.looked_up.ensures ∙ looked_up_as node_of c.args.word.now (map (λ entry. (entry.0.now, entry.1)) NODES)
