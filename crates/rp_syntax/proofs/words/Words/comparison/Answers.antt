use Rattle.rp_command.specs.Versions.{version_of}
use Rattle.rp_command.specs.Views.{command_of, expression_of}
use Rattle.rp_syntax.proofs.ReadLemmas.{read_both}
use Rattle.rp_syntax.proofs.words.Words.comparison.Goals as goal

pub returns : goal.returns
returns g c of makes =
    let first = c.in_ok-first.first in
    let second = c.in_ok-second.second in
    read_both (version_of c.args.version) of (expression_of first) (expression_of second) (command_of c.make.result) c.args.self.now c.expression.new.self c.expression-2.new.self c.in_ok-first.ensures c.in_ok-second.ensures (makes first second c.make.result c.make.ensures)
