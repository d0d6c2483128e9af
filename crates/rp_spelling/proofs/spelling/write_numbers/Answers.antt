use Rattle.std.proofs.Common.{ℕ, ◌<◌, ◌≤◌, List, [], ◌∷◌, ◌++◌, length, ap, ◌∙◌, arith, map}
use Rattle.std.proofs.lemmas.Result.{err_from_is_err_and}
use Rattle.std.proofs.lemmas.List.Concat.{flat_map_single}
use Rattle.rp_spelling.specs.Spells.{behind_spaces}
use Rattle.rp_spelling.proofs.SpellLemmas.{stopped_within, words_more, pieces_all}
use Rattle.rp_spelling.proofs.spelling.write_numbers.Goals as goal

pub returns-in_err-write_word : goal.returns-in_err-write_word
returns-in_err-write_word g c =
    let p = err_from_is_err_and c.from_residual.result c.from_residual.ensures.1 in
    let i = c.loop-number.number-index in
    let numbers = c.args.numbers.now in
    let text = g.I.Integer.text in
    let inside : i < length numbers = omega arith in
    rw p.1 (stopped_within c.args.out.now.items c.loop-number.out.items c.write_word.new.out.items (λ n. text n ∷ []) numbers i c.number-item.result (c.as_bytes.result.now ∷ []) (map text numbers) inside c.number-item.is (ap (λ (w : List ℕ). w ∷ []) (c.as_bytes.ensures.value ∙ c.format.ensures.text)) (flat_map_single text numbers) c.loop-number.invariant c.in_err-write_word.ensures)

pub loop-number-preserved : goal.loop-number-preserved
loop-number-preserved g c =
    let i = c.loop-number.number-index in
    let numbers = c.args.numbers.now in
    let text = g.I.Integer.text in
    let inside : i < length numbers = omega arith in
    words_more c.args.out.now.items c.loop-number.out.items c.write_word.new.out.items (λ n. text n ∷ []) numbers i c.number-item.result (c.as_bytes.result.now ∷ []) inside c.number-item.is (ap (λ (w : List ℕ). w ∷ []) (c.as_bytes.ensures.value ∙ c.format.ensures.text)) c.loop-number.invariant c.in_ok-write_word.ensures

pub returns : goal.returns
returns g c =
    let numbers = c.args.numbers.now in
    let text = g.I.Integer.text in
    let past : length numbers ≤ c.loop-number.number-index = omega arith in
    c.loop-number.invariant ∙ ap (λ (ws : List (List ℕ)). c.args.out.now.items ++ behind_spaces ws) (pieces_all (λ n. text n ∷ []) numbers c.loop-number.number-index past ∙ flat_map_single text numbers)
