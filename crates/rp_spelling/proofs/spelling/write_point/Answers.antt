use Rattle.std.proofs.Common.{[], ◌∷◌, refl}
use Rattle.std.specs.Fmt.{signed_decimal}
use Rattle.std.proofs.lemmas.Result.{err_from_is_err_and}
use Rattle.rp_language.specs.Grammar.{coordinate_text}
use Rattle.rp_command.specs.Versions.{version_of}
use Rattle.rp_spelling.proofs.SpellLemmas.{stopped_first, spells_then}
use Rattle.rp_spelling.proofs.spelling.write_point.Goals as goal

pub returns-in_err-write_position : goal.returns-in_err-write_position
returns-in_err-write_position c =
    let p = err_from_is_err_and c.from_residual.result c.from_residual.ensures.1 in
    let n = c.args.point.now in
    let text = coordinate_text (version_of c.args.version) in
    rw p.1 (stopped_first c.args.out.now.items c.write_position.new.out.items (text n.x ∷ text n.y ∷ text n.z ∷ []) (signed_decimal n.w ∷ []) _ refl c.in_err-write_position.ensures)

pub returns : goal.returns
returns c =
    let n = c.args.point.now in
    let text = coordinate_text (version_of c.args.version) in
    spells_then c.write_weight.result c.args.out.now.items c.write_position.new.out.items c.write_weight.new.out.items (text n.x ∷ text n.y ∷ text n.z ∷ []) (signed_decimal n.w ∷ []) _
    refl c.in_ok-write_position.ensures c.write_weight.ensures
