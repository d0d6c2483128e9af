use Rattle.std.proofs.Common.{◌+◌, not, [], drop, refl, ap, sym, ◌∙◌}
use Rattle.std.proofs.lemmas.List.{drop_all}
use Rattle.rp_algebra.proofs.Lists.{drop_item}
use Rattle.rp_language.specs.Name.{is_among}
use Rattle.rp_model.specs.commands.Checks.{check_repeated}
use Rattle.rp_history.proofs.Repeated.{seen_before, seen_more, was_seen}
use Rattle.rp_history.proofs.checks.first_known.Goals as goal

pub loop-id-init : goal.loop-id-init
loop-id-init c = record { before = []; same = λ y. ap (is_among y) c.requires; left = refl }

pub returns-then-not-branch : goal.returns-then-not-branch
returns-then-not-branch c =
    let i = c.loop-id.id-index in
    let x = c.id-item.result in
    seen_before c.loop-id.before.keys (drop i c.args.ids.now) c.args.ids.now x (drop (i + 1) c.args.ids.now) c.loop-id.invariant (drop_item c.args.ids.now i x c.loop-id-test.true c.id-item.is)
    (was_seen c.loop-id.before.keys x c.in_ok-insert.field-0 c.in_ok-insert.ensures.added ∙ ap not c.if-not-branch.true)

pub loop-id-preserved : goal.loop-id-preserved
loop-id-preserved c =
    let i = c.loop-id.id-index in
    let x = c.id-item.result in
    seen_more c.loop-id.before.keys (drop i c.args.ids.now) c.args.ids.now x (drop (i + 1) c.args.ids.now) c.insert.new.self.keys c.loop-id.invariant (drop_item c.args.ids.now i x c.loop-id-test.true c.id-item.is)
    (was_seen c.loop-id.before.keys x c.in_ok-insert.field-0 c.in_ok-insert.ensures.added ∙ ap not c.if-not-branch.false) c.in_ok-insert.ensures.keys

pub returns : goal.returns
returns c = sym (ap (check_repeated c.loop-id.invariant.before) (drop_all c.loop-id.id-index c.args.ids.now c.loop-id-test.false)) ∙ c.loop-id.invariant.left
