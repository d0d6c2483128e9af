use Rattle.std.proofs.Common.{◌≡◌, ℕ, ◌<◌, ◌≤◌, List, [], ◌∷◌, ◌++◌, length, get_or, ap, ◌∙◌, arith}
use Rattle.std.specs.List.{flat_map}
use Rattle.std.proofs.lemmas.Result.{err_from_is_err_and}
use Rattle.std.proofs.lemmas.List.{map-id}
use Rattle.std.proofs.lemmas.List.Concat.{flat_map_single}
use Rattle.rp_spelling.specs.Spells.{behind_spaces}
use Rattle.rp_spelling.proofs.SpellLemmas.{stopped_within, words_more, pieces_all}
use Rattle.rp_spelling.proofs.spelling.write_names.Goals as goal

-- each name is a word
all_words : (words : List (List ℕ)) → flat_map (λ (w : List ℕ). w ∷ []) words ≡ words
all_words words = flat_map_single (λ (w : List ℕ). w) words ∙ map-id words

pub returns-in_err-write_word : goal.returns-in_err-write_word
returns-in_err-write_word c =
    let p = err_from_is_err_and c.from_residual.result c.from_residual.ensures.1 in
    let i = c.loop-name.name-index in
    let names = c.args.names.now.items in
    let inside : i < length names = omega (arith, ap length c.items-name-items.ensures) in
    let at = c.name-item.is ∙ ap (λ (xs : List (List ℕ)). get_or xs i c.name-item.result) c.items-name-items.ensures in
    rw p.1 (stopped_within c.args.out.now.items c.loop-name.out.items c.write_word.new.out.items (λ (w : List ℕ). w ∷ []) names i c.name-item.result (c.bytes.result.now ∷ []) names inside at (ap (λ (w : List ℕ). w ∷ []) c.bytes.ensures.value) (all_words names) c.loop-name.invariant c.in_err-write_word.ensures)

pub loop-name-preserved : goal.loop-name-preserved
loop-name-preserved c =
    let i = c.loop-name.name-index in
    let names = c.args.names.now.items in
    let inside : i < length names = omega (arith, ap length c.items-name-items.ensures) in
    let at = c.name-item.is ∙ ap (λ (xs : List (List ℕ)). get_or xs i c.name-item.result) c.items-name-items.ensures in
    words_more c.args.out.now.items c.loop-name.out.items c.write_word.new.out.items (λ (w : List ℕ). w ∷ []) names i c.name-item.result (c.bytes.result.now ∷ []) inside at (ap (λ (w : List ℕ). w ∷ []) c.bytes.ensures.value) c.loop-name.invariant c.in_ok-write_word.ensures

pub returns : goal.returns
returns c =
    let names = c.args.names.now.items in
    let past : length names ≤ c.loop-name.name-index = omega (arith, ap length c.items-name-items.ensures) in
    c.loop-name.invariant ∙ ap (λ (ws : List (List ℕ)). c.args.out.now.items ++ behind_spaces ws) (pieces_all (λ (w : List ℕ). w ∷ []) names c.loop-name.name-index past ∙ all_words names)
