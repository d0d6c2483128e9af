use Rattle.std.proofs.Common.{rules, ◌≡◌, ◌+◌, ◌++◌, ◌∷◌, [], map, ap, subst, sym, ◌∙◌}
use Rattle.std.specs.Prelude.{All}
use Rattle.std.proofs.lemmas.List.{nil_from_length}
use Rattle.std.proofs.lemmas.List.Elements.{All-nil}
use Rattle.rp_book.specs.Act.{act_of}
use Rattle.rp_seal_text.specs.ActText.{IsActText, act_text}
use Rattle.rp_sealed_book.specs.Log.{entries_from}
use Rattle.rp_sealed_book.proofs.StreamLemmas.{valid-next, written-next}
use Rattle.rp_sealed_book.proofs.stream.write_acts.Goals as goal

pub loop-act-preserved : goal.loop-act-preserved
loop-act-preserved c =
    let entry = c.entry_at.ensures in
    let rest : c.loop-act.rest.now ≡ c.in-Some.act.now ∷ c.in-Some.more.now = search rules in
    let next : c.in-Some-checked_add.next ≡ c.loop-act.number + 1 = search rules in
    record {
      text = written-next _ c.args.script.now c.loop-act.text.items _ c.loop-act.rest.now c.in-Some.more.now c.in-Some.act.now c.loop-act.number c.in-Some-checked_add.next c.loop-act.start
          rest next (c.in_ok-write_act.ensures.text ∙ ap (λ e. c.loop-act.text.items ++ act_text e) entry) c.loop-act.invariant.text;
      valid = valid-next c.args.script.now c.loop-act.rest.now c.in-Some.more.now c.in-Some.act.now c.loop-act.number c.in-Some-checked_add.next c.loop-act.start _
          rest next (subst IsActText entry c.in_ok-write_act.ensures.valid) c.loop-act.invariant.valid;
    }

pub returns-clause-valid : goal.returns-clause-valid
returns-clause-valid c =
    let none : c.loop-act.rest.now ≡ [] = nil_from_length c.loop-act.rest.now c.in_default.ensures.cases in
    c.loop-act.invariant.valid (subst (λ r. All IsActText (entries_from c.args.script.now c.loop-act.number c.loop-act.start (map act_of r))) (sym none) (All-nil IsActText))
