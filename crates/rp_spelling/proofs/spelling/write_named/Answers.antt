use Rattle.std.proofs.Common.{ℕ, List, [], ◌∷◌, ap}
use Rattle.std.proofs.lemmas.Result.{err_from_is_err_and}
use Rattle.rp_language.specs.Grammar.{expression_words}
use Rattle.rp_command.specs.Versions.{version_of}
use Rattle.rp_command.specs.Views.{expression_of}
use Rattle.rp_spelling.proofs.SpellLemmas.{stopped_first, spells_then}
use Rattle.rp_spelling.proofs.spelling.write_named.Goals as goal

pub returns-in_err-write_word : goal.returns-in_err-write_word
returns-in_err-write_word c =
    let p = err_from_is_err_and c.from_residual.result c.from_residual.ensures.1 in
    rw p.1 (stopped_first c.args.out.now.items c.write_word.new.out.items (c.bytes.result.now ∷ []) (expression_words (version_of c.args.version) (expression_of c.args.region.now)) _ (ap (λ (w : List ℕ). w ∷ expression_words (version_of c.args.version) (expression_of c.args.region.now)) c.bytes.ensures.value) c.in_err-write_word.ensures)

pub returns : goal.returns
returns c =
    spells_then c.write_expression.result c.args.out.now.items c.write_word.new.out.items c.write_expression.new.out.items (c.bytes.result.now ∷ []) (expression_words (version_of c.args.version) (expression_of c.args.region.now)) _
    (ap (λ (w : List ℕ). w ∷ expression_words (version_of c.args.version) (expression_of c.args.region.now)) c.bytes.ensures.value) c.in_ok-write_word.ensures c.write_expression.ensures
