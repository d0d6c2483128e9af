use Rattle.std.proofs.Common.{◌≤◌, List, [], ◌∷◌, ◌++◌, length, map, sym, ap, ◌∙◌, arith}
use Rattle.rp_language.specs.Name.{Label}
use Rattle.rp_semantics.specs.Walk.{done}
use Rattle.rp_model.specs.commands.Verdict.{Verdict, lot_lines}
use Rattle.rp_model.specs.commands.Reply.{reply_lines}
use Rattle.rp_history.specs.Lots.{lots_in}
use Rattle.rp_answer.specs.Views.{verdict_of}
use Rattle.rp_rows.specs.Lots.{lots_under}
use Rattle.rp_rows.proofs.Ancestors.{placed, no_history, its_history, history_lines, history_few}
use Rattle.rp_rows.proofs.lots.lineage.Goals as goal

pub returns-then-is_none : goal.returns-then-is_none
returns-then-is_none c =
    let lots = c.args.history.now in
    no_history (lots_in [] lots) c.args.id (tt {0}) (sym (placed c.args.id lots c.place_of.result c.place_of.ensures.lot c.place_of.ensures.within) ∙ c.if-is_none.ensures)

pub overflow_cast-items : goal.overflow_cast-items
overflow_cast-items c =
    let few : length c.in_ok-ids.ids.items ≤ length c.args.history.now = history_few c.args.id c.args.history.now c.in_ok-ids.ids.items c.in_ok-ids.ensures in
    let same = ap length c.items.ensures in
    omega (arith, c.requires)

pub returns : goal.returns
returns c =
    let lots = c.args.history.now in
    its_history (lots_in [] lots) c.args.id (tt {0}) (sym (placed c.args.id lots c.place_of.result c.place_of.ensures.lot c.place_of.ensures.within) ∙ c.if-is_none.ensures)
    ∙ ap (λ (vs : List Verdict). done (reply_lines vs) (tt {0}))
    (history_lines c.args.id lots c.in_ok-ids.ids.items (map verdict_of c.in_ok-lines.lines.items) (map verdict_of c.add_each.new.lines.items) c.place_of.ensures.distinct c.in_ok-ids.ensures
    (c.in_ok-lines.ensures ∙ ap (λ (ids : List Label). Verdict.lots (length ids) ∷ []) c.items.ensures)
    (c.in_ok-add_each.ensures ∙ ap (λ (ids : List Label). map verdict_of c.in_ok-lines.lines.items ++ lot_lines (lots_under ids lots)) c.items-2.ensures))
