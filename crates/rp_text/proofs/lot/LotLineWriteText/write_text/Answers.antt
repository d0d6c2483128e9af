use Rattle.std.proofs.Common.{◌≡◌, ℕ, List, ◌++◌, codes, refl, append_assoc}
use Rattle.std.specs.Fmt.{decimal}
use Rattle.std.proofs.lemmas.Result.{err_from_is_err_and}
use Rattle.rp_reports.specs.Text.{end_text, layer_text, origins_text, lot_text}
use Rattle.rp_model.specs.commands.Verdict.{entry_of}
use Rattle.rp_history.specs.Lots.{lot_of}
use Rattle.rp_history.specs.declared.lot.LotLine.{LotLine}
use Rattle.rp_command.proofs.Fronts.{front_before}
use Rattle.rp_text.proofs.FrontLemmas.{front_behind, front_same, writes_behind, writes_same}
use Rattle.rp_text.proofs.lot.LotLineWriteText.write_text.Goals as goal

-- the id
abbrev id_text : LotLine → List ℕ
id_text l = codes "lot " ++ l.id

-- the line of birth
abbrev born_text : LotLine → List ℕ
born_text l = codes " born " ++ decimal l.born

-- what stands behind the end
abbrev behind_end : LotLine → List ℕ
behind_end l = layer_text l.layer ++ origins_text l.origins.items

-- what stands behind the birth
abbrev behind_birth : LotLine → List ℕ
behind_birth l = end_text l.ended ++ behind_end l

-- what stands behind the id
abbrev behind_id : LotLine → List ℕ
behind_id l = born_text l ++ behind_birth l

-- the id and what stands behind it are the whole line
whole_text : (l : LotLine) → id_text l ++ behind_id l ≡ lot_text (entry_of (lot_of l))
whole_text l = simp append_assoc refl

pub returns-in_err-write_operand : goal.returns-in_err-write_operand
returns-in_err-write_operand c =
    let p = err_from_is_err_and c.from_residual.result c.from_residual.ensures.1 in
    let l = c.args.self.now in
    let old = c.args.out.now.items in
    let new = c.write_operand.new.out.items in
    rw (p.1) (front_same old new _ _ (whole_text l) (front_before old new (id_text l) (behind_id l) c.in_err-write_operand.ensures))

pub returns-in_err-write_operand-2 : goal.returns-in_err-write_operand-2
returns-in_err-write_operand-2 c =
    let p = err_from_is_err_and c.from_residual-in_err-write_operand-2.result c.from_residual-in_err-write_operand-2.ensures.1 in
    let l = c.args.self.now in
    let old = c.args.out.now.items in
    let first = c.write_operand.new.out.items in
    let new = c.write_operand-2.new.out.items in
    rw (p.1)
    (front_same old new _ _ (whole_text l)
    (front_behind old first new (id_text l) (behind_id l) c.in_ok-write_operand.ensures (front_before first new (born_text l) (behind_birth l) c.in_err-write_operand-2.ensures)))

pub returns-in_err-write_end : goal.returns-in_err-write_end
returns-in_err-write_end c =
    let p = err_from_is_err_and c.from_residual-in_err-write_end.result c.from_residual-in_err-write_end.ensures.1 in
    let l = c.args.self.now in
    let old = c.args.out.now.items in
    let first = c.write_operand.new.out.items in
    let second = c.write_operand-2.new.out.items in
    let new = c.write_end.new.out.items in
    rw (p.1)
    (front_same old new _ _ (whole_text l)
    (front_behind old first new (id_text l) (behind_id l) c.in_ok-write_operand.ensures
    (front_behind first second new (born_text l) (behind_birth l) c.in_ok-write_operand-2.ensures (front_before second new (end_text l.ended) (behind_end l) c.in_err-write_end.ensures))))

pub returns-in_err-write_layer : goal.returns-in_err-write_layer
returns-in_err-write_layer c =
    let p = err_from_is_err_and c.from_residual-in_err-write_layer.result c.from_residual-in_err-write_layer.ensures.1 in
    let l = c.args.self.now in
    let old = c.args.out.now.items in
    let first = c.write_operand.new.out.items in
    let second = c.write_operand-2.new.out.items in
    let third = c.write_end.new.out.items in
    let new = c.write_layer.new.out.items in
    rw (p.1)
    (front_same old new _ _ (whole_text l)
    (front_behind old first new (id_text l) (behind_id l) c.in_ok-write_operand.ensures
    (front_behind first second new (born_text l) (behind_birth l) c.in_ok-write_operand-2.ensures
    (front_behind second third new (end_text l.ended) (behind_end l) c.in_ok-write_end.ensures
    (front_before third new (layer_text l.layer) (origins_text l.origins.items) c.in_err-write_layer.ensures)))))

pub returns : goal.returns
returns c =
    let r = c.write_origins.result in
    let l = c.args.self.now in
    let old = c.args.out.now.items in
    let first = c.write_operand.new.out.items in
    let second = c.write_operand-2.new.out.items in
    let third = c.write_end.new.out.items in
    let fourth = c.write_layer.new.out.items in
    let new = c.write_origins.new.out.items in
    writes_same r old new _ _ (whole_text l)
    (writes_behind r old first new (id_text l) (behind_id l) c.in_ok-write_operand.ensures
    (writes_behind r first second new (born_text l) (behind_birth l) c.in_ok-write_operand-2.ensures
    (writes_behind r second third new (end_text l.ended) (behind_end l) c.in_ok-write_end.ensures
    (writes_behind r third fourth new (layer_text l.layer) (origins_text l.origins.items) c.in_ok-write_layer.ensures c.write_origins.ensures))))
