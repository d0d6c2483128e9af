use Rattle.std.proofs.Common.{ℕ, ◌<◌, ◌≤◌, List, ◌++◌, length, refl, ap, ◌∙◌, arith}
use Rattle.std.specs.List.{flat_map}
use Rattle.std.proofs.lemmas.Result.{err_from_is_err_and}
use Rattle.rp_command.specs.Versions.{version_of}
use Rattle.rp_spelling.specs.Spells.{behind_spaces, words_of_operand}
use Rattle.rp_spelling.proofs.SpellLemmas.{stopped_within, words_more, pieces_all}
use Rattle.rp_spelling.proofs.spelling.write_operands.Goals as goal

pub returns-in_err-write_operand : goal.returns-in_err-write_operand
returns-in_err-write_operand c =
    let p = err_from_is_err_and c.from_residual.result c.from_residual.ensures.1 in
    let i = c.loop-operand.operand-index in
    let operands = c.args.operands.now in
    let words = words_of_operand (version_of c.args.version) in
    let inside : i < length operands = omega arith in
    rw p.1 (stopped_within c.args.out.now.items c.loop-operand.out.items c.write_operand.new.out.items words operands i c.operand-item.result (words c.operand-item.result) (flat_map words operands) inside c.operand-item.is refl refl c.loop-operand.invariant c.in_err-write_operand.ensures)

pub loop-operand-preserved : goal.loop-operand-preserved
loop-operand-preserved c =
    let i = c.loop-operand.operand-index in
    let operands = c.args.operands.now in
    let words = words_of_operand (version_of c.args.version) in
    let inside : i < length operands = omega arith in
    words_more c.args.out.now.items c.loop-operand.out.items c.write_operand.new.out.items words operands i c.operand-item.result (words c.operand-item.result) inside c.operand-item.is refl c.loop-operand.invariant c.in_ok-write_operand.ensures

pub returns : goal.returns
returns c =
    let operands = c.args.operands.now in
    let words = words_of_operand (version_of c.args.version) in
    let past : length operands ≤ c.loop-operand.operand-index = omega arith in
    c.loop-operand.invariant ∙ ap (λ (ws : List (List ℕ)). c.args.out.now.items ++ behind_spaces ws) (pieces_all words operands c.loop-operand.operand-index past)
