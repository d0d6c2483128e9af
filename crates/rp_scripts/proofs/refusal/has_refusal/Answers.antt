use Rattle.std.proofs.Common.{ap, sym, ◌∙◌}
use Rattle.std.specs.List.{list_any}
use Rattle.rp_answer.specs.Views.{answer_of}
use Rattle.rp_scripts.proofs.RefusalLemmas.{refuses, list_any-lines}
use Rattle.rp_scripts.proofs.refusal.has_refusal.Goals as goal

pub returns : goal.returns
returns c = λ brief.
    c.any_refusal.ensures ∙ ap (list_any refuses) c.items.ensures
    ∙ sym (list_any-lines brief (answer_of c.args.answer.now) c.args.answer.now.verdicts.items)
