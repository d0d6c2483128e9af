use Rattle.std.proofs.Common.{◌<◌, sym, ap, ◌∙◌, arith}
use Rattle.rp_scripts.specs.declared.made.Stage.{Stage}
use Rattle.rp_scripts.specs.Made.{lines_to_come}
use Rattle.rp_scripts.proofs.MadeLemmas.{building_lines-next}
use Rattle.rp_scripts.proofs.made.MadeScript.next_line.Goals as goal

pub returns-in-Between-2-clause-next : goal.returns-in-Between-2-clause-next
returns-in-Between-2-clause-next c =
    let script = c.self.inside in
    let more : 0 < script.to_come = omega arith in
    sym c.self.view_is ∙ ap (λ (s : Stage). lines_to_come s script.storey script.to_come script.seed) c.in-Between-2.is
    ∙ building_lines-next script.to_come script.storey script.seed more
