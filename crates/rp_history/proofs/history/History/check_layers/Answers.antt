use Rattle.std.proofs.Common.{◌+◌, None, Bool, not, drop, ap, sym, ◌∙◌}
use Rattle.std.proofs.lemmas.List.{drop_all}
use Rattle.rp_algebra.proofs.Lists.{drop_item}
use Rattle.rp_language.specs.Name.{Label, label_eq}
use Rattle.rp_model.specs.commands.Verdict.{layers}
use Rattle.rp_model.specs.commands.Checks.{refuse_if, check_live, check_layer, check_each}
use Rattle.rp_history.specs.declared.fault.NameFault.TheVariants.{Layers}
use Rattle.rp_history.proofs.Checked.{each_fails, each_passes, first_passes}
use Rattle.rp_history.proofs.history.History.check_layers.Goals as goal

pub layer_of-requires : goal.layer_of-requires
layer_of-requires c s same =
    let i = c.loop-id.id-index in
    let ids = c.args.ids.now in
    first_passes (check_live s) c.id-item.result (drop (i + 1) ids) (drop i ids) (drop_item ids i c.id-item.result c.loop-id-test.true c.id-item.is) (c.loop-id.invariant s same).1

pub returns-then-ne : goal.returns-then-ne
returns-then-ne c s same =
    let i = c.loop-id.id-index in
    let ids = c.args.ids.now in
    let x = c.id-item.result in
    let test = check_layer s c.args.layer.now in
    each_fails (Layers x) test x (drop (i + 1) ids) (drop i ids) (check_each test ids) (drop_item ids i x c.loop-id-test.true c.id-item.is) (c.loop-id.invariant s same).0
    (ap (λ (b : Bool). refuse_if b (layers x)) (ap (λ (y : Label). not (label_eq y c.args.layer.now)) (sym (c.layer_of.ensures s same)) ∙ sym c.ne.ensures ∙ c.if-ne.true))

pub loop-id-preserved : goal.loop-id-preserved
loop-id-preserved c s same =
    let i = c.loop-id.id-index in
    let ids = c.args.ids.now in
    let x = c.id-item.result in
    let test = check_layer s c.args.layer.now in
    let left = drop_item ids i x c.loop-id-test.true c.id-item.is in
    let both = c.loop-id.invariant s same in (
      each_passes test x (drop (i + 1) ids) (drop i ids) (check_each test ids) left both.0
          (ap (λ (b : Bool). refuse_if b (layers x)) (ap (λ (y : Label). not (label_eq y c.args.layer.now)) (sym (c.layer_of.ensures s same)) ∙ sym c.ne.ensures ∙ c.if-ne.false)),
      each_passes (check_live s) x (drop (i + 1) ids) (drop i ids) None left both.1 (first_passes (check_live s) x (drop (i + 1) ids) (drop i ids) left both.1),
    )

pub returns : goal.returns
returns c s same =
    let test = check_layer s c.args.layer.now in
    sym (c.loop-id.invariant s same).0 ∙ ap (check_each test) (drop_all c.loop-id.id-index c.args.ids.now c.loop-id-test.false)
