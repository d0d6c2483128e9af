use Rattle.std.proofs.Common.{ℕ, ℤ, ◌<◌, ◌≤◌, List, [], ◌∷◌, ◌++◌, length, get_or, pos, ap, ◌∙◌, arith, map, rules}
use Rattle.std.proofs.lemmas.Result.{err_from_is_err_and}
use Rattle.std.proofs.lemmas.List.{get_or_default}
use Rattle.std.proofs.lemmas.List.Concat.{flat_map_single}
use Rattle.std.specs.Int.RustNames.{FitsSigned}
use Rattle.std.proofs.lemmas.Int.{to_z-of_z}
use mir.Syntax.{w128}
use Rattle.rp_language.specs.Grammar.{coordinate_text}
use Rattle.rp_spelling.specs.Spells.{behind_spaces}
use Rattle.rp_command.specs.Versions.{version_of}
use Rattle.rp_spelling.proofs.SpellLemmas.{stopped_within, words_more, pieces_all}
use Rattle.rp_spelling.proofs.spelling.write_coordinates.Goals as goal

pub returns-in_err-write_coordinate : goal.returns-in_err-write_coordinate
returns-in_err-write_coordinate c =
    let p = err_from_is_err_and c.from_residual.result c.from_residual.ensures.1 in
    let i = c.loop-number.number-index in
    let numbers = c.args.numbers.now in
    let text = coordinate_text (version_of c.args.version) in
    let inside : i < length numbers = omega arith in
    let item = get_or numbers i (pos 0) in
    let fits : FitsSigned w128 item = search rules in
    rw p.1 (stopped_within c.args.out.now.items c.loop-number.out.items c.write_coordinate.new.out.items (λ (v : ℤ). text v ∷ []) numbers i item _ (map text numbers) inside (get_or_default numbers i _ _ inside) (ap (λ (v : ℤ). text v ∷ []) (to_z-of_z w128 item fits)) (flat_map_single text numbers) c.loop-number.invariant c.in_err-write_coordinate.ensures)

pub loop-number-preserved : goal.loop-number-preserved
loop-number-preserved c =
    let i = c.loop-number.number-index in
    let numbers = c.args.numbers.now in
    let text = coordinate_text (version_of c.args.version) in
    let inside : i < length numbers = omega arith in
    let item = get_or numbers i (pos 0) in
    let fits : FitsSigned w128 item = search rules in
    words_more c.args.out.now.items c.loop-number.out.items c.write_coordinate.new.out.items (λ (v : ℤ). text v ∷ []) numbers i item _ inside (get_or_default numbers i _ _ inside) (ap (λ (v : ℤ). text v ∷ []) (to_z-of_z w128 item fits)) c.loop-number.invariant c.in_ok-write_coordinate.ensures

pub returns : goal.returns
returns c =
    let numbers = c.args.numbers.now in
    let text = coordinate_text (version_of c.args.version) in
    let past : length numbers ≤ c.loop-number.number-index = omega arith in
    c.loop-number.invariant ∙ ap (λ (ws : List (List ℕ)). c.args.out.now.items ++ behind_spaces ws) (pieces_all (λ (v : ℤ). text v ∷ []) numbers c.loop-number.number-index past ∙ flat_map_single text numbers)
