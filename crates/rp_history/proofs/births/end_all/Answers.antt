use Rattle.std.proofs.Common.{◌+◌, ◌∙◌, List, map, drop, ap, sym, arith}
use Rattle.std.proofs.lemmas.List.{drop_all}
use Rattle.rp_algebra.proofs.Lists.{drop_item}
use Rattle.rp_language.specs.Name.{Label}
use Rattle.rp_model.specs.states.State.{ended_at}
use Rattle.rp_history.proofs.Ended.{ends_first, ends_none}
use Rattle.rp_history.proofs.births.end_all.Goals as goal

pub loop-id-preserved : goal.loop-id-preserved
loop-id-preserved c =
    let i = c.loop-id.id-index in
    let x = c.id-item.result in
    let rest = drop (i + 1) c.args.ids.now in (
      ap (map (ended_at c.args.line rest)) c.end.ensures.lots
          ∙ ends_first c.args.line x rest c.loop-id.list.lots
          ∙ ap (λ (xs : List Label). map (ended_at c.args.line xs) c.loop-id.list.lots) (sym (drop_item c.args.ids.now i x c.loop-id-test.true c.id-item.is))
          ∙ c.loop-id.invariant.0,
      (let more = c.end.ensures.spare in let before = c.loop-id.invariant.1 in omega (arith, more, before)),
    )

pub returns-clause-lots : goal.returns-clause-lots
returns-clause-lots c =
    sym (ends_none c.args.line c.loop-id.list.lots)
    ∙ ap (λ (xs : List Label). map (ended_at c.args.line xs) c.loop-id.list.lots) (sym (drop_all c.loop-id.id-index c.args.ids.now c.loop-id-test.false))
    ∙ c.loop-id.invariant.0

pub returns-clause-spare : goal.returns-clause-spare
returns-clause-spare c = c.loop-id.invariant.1
