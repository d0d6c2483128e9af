use Rattle.std.proofs.Common.{◌≡◌, ◌≤◌, [], ◌++◌, List, length, ap, sym, ◌∙◌, append-nil, subst}
use Rattle.std.specs.Prelude.{option_map}
use Rattle.std.specs.Option.{option_copied}
use Rattle.rp_geometry.specs.sets.Shape.{Part}
use Rattle.std.proofs.lemmas.List.{drop_all}
use Rattle.rp_geometry.specs.parts.Parts.{most_parts}
use Rattle.rp_semantics.specs.Walk.{done}
use Rattle.rp_semantics.specs.Form.{if_at_most, parts_or_none}
use Rattle.rp_changes.proofs.United.{at_most_made, joined_of, united_next, united}
use Rattle.rp_changes.proofs.joining.united.Goals as goal
use Rattle.rp_changes.proofs.joining.united.Goals.{in-Some+in_ok-copy+in_ok-form, in_default}

pub returns : goal.returns
returns g c =
    let s = g.K.Keeper.state c.args.keeper.now in
    let ps = g.T.Oracle.parts_of c.loop-id.form in
    let w = c.loop-id.tests in
    subst (λ v. if_at_most most_parts (joined_of s c.args.ids.now) v ≡ done ps w) c.loop-id.invariant.same (united s ps _ c.args.ids.now c.loop-id.invariant.uniting (drop_all c.loop-id.id-index c.args.ids.now c.loop-id-test.false) w)

pub loop-id-preserved : goal.loop-id-preserved
loop-id-preserved g c =
    let view = g.T.Oracle.parts_of in
    let s = g.K.Keeper.state c.args.keeper.now in
    let made = view c.loop-id.form in
    let before = c.loop-id.invariant in
    elim c.match-form_of.branch [
      | in-Some+in_ok-copy+in_ok-form w ↦
          let joined = at_most_made _ _ _ _ w.in_ok-form.ensures in
          let form = ap view w.form-is in
          record {
            uniting = united_next s made (view c.match-form_of.form) _ c.args.ids.now c.loop-id.id-index c.id-item.result c.loop-id-test.true c.id-item.is
                (ap parts_or_none (sym c.form_of.ensures ∙ ap (λ o. option_map view (option_copied o)) w.in-Some.is))
                (form ∙ sym joined.1 ∙ ap (λ (ps : List Part). made ++ ps) w.in_ok-copy.ensures)
                (subst (λ (ps : List Part). length ps ≤ most_parts) (joined.1 ∙ sym form) joined.0) before.uniting;
            same = w.tests-is ∙ sym joined.2 ∙ before.same;
          }
      | in_default w ↦
          let form = ap view w.form-is in
          record {
            uniting = united_next s made (view c.match-form_of.form) [] c.args.ids.now c.loop-id.id-index c.id-item.result c.loop-id-test.true c.id-item.is
                (ap parts_or_none (sym c.form_of.ensures ∙ ap (λ o. option_map view (option_copied o)) w.in_default.is))
                (form ∙ sym (append-nil made))
                (subst (λ (ps : List Part). length ps ≤ most_parts) (sym form) before.uniting.few) before.uniting;
            same = w.tests-is ∙ before.same;
          }
    ]
