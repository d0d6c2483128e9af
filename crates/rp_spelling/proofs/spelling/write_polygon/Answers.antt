use Rattle.std.proofs.Common.{ℕ, [], ◌∷◌, length, sym, ap, ◌∙◌, decimal}
use Rattle.std.specs.List.{flat_map}
use Rattle.std.proofs.lemmas.Result.{err_from_is_err_and}
use Rattle.std.proofs.lemmas.List.{length-map}
use Rattle.rp_language.specs.Grammar.{corner_words}
use Rattle.rp_space.specs.Corners.{polygon_corner, polygon_corners}
use Rattle.rp_command.specs.Versions.{version_of}
use Rattle.rp_spelling.proofs.SpellLemmas.{stopped_first}
use Rattle.rp_spelling.proofs.spelling.write_polygon.Goals as goal

pub returns-in_err-write_numbers : goal.returns-in_err-write_numbers
returns-in_err-write_numbers c =
    let p = err_from_is_err_and c.from_residual.result c.from_residual.ensures.1 in
    let words = flat_map (corner_words (version_of c.args.version)) (polygon_corners c.args.corners.now.items) in
    rw p.1 (stopped_first c.args.out.now.items c.write_numbers.new.out.items (decimal (length c.items.result.now) ∷ []) words _ (ap (λ (n : ℕ). decimal n ∷ words) (ap length c.items.ensures ∙ sym (length-map c.args.corners.now.items polygon_corner))) c.in_err-write_numbers.ensures)
