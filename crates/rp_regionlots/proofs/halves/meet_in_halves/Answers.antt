use Rattle.std.proofs.Common.{map, length, sym, ap, ◌∙◌, subst}
use Rattle.std.specs.List.{AllByRecursion}
use Rattle.std.proofs.lemmas.List.{length-map}
use Rattle.rp_regionlots.specs.Shown.{shown, ShowsNothingCounted}
use Rattle.rp_regionlots.proofs.Shown.{answers, shows_nothing, all_shown_at_once}
use Rattle.rp_regionlots.proofs.halves.meet_in_halves.Goals as goal

pub append_shown-requires-clause-uncounted : goal.append_shown-requires-clause-uncounted
append_shown-requires-clause-uncounted g c = subst (AllByRecursion ShowsNothingCounted) (sym c.in_ok-all.ensures) (shows_nothing c.args.reach c.args.forms.now c.args.pairs.now)

pub returns-clause-comes : goal.returns-clause-comes
returns-clause-comes g c =
    all_shown_at_once c.args.reach c.args.forms.now c.args.pairs.now c.in_ok-all.all.items c.in_ok-met.met.items c.args.work.now c.append_shown.new.work c.in_ok-all.ensures (c.in_ok-met.ensures ∙ ap answers c.deref.ensures.value) c.in_ok-append_shown.ensures

pub returns-clause-each : goal.returns-clause-each
returns-clause-each g c =
    ap length (c.in_ok-met.ensures ∙ ap answers (c.deref.ensures.value ∙ c.in_ok-all.ensures))
    ∙ length-map (map (shown c.args.reach c.args.forms.now) c.args.pairs.now) (λ s. s.meets)
    ∙ length-map c.args.pairs.now (shown c.args.reach c.args.forms.now)
