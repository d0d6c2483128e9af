use Rattle.std.proofs.Common.{[], ◌∷◌, ◌++◌, map}
use Rattle.std.proofs.lemmas.Result.{err_from_is_err_and}
use Rattle.rp_language.specs.Grammar.{spaced}
use Rattle.rp_command.proofs.Fronts.{front_before}
use Rattle.rp_text.proofs.FrontLemmas.{writes_third}
use Rattle.rp_text.proofs.numbers.write_in_parentheses.Goals as goal

pub returns-in_err-append_byte : goal.returns-in_err-append_byte
returns-in_err-append_byte g c =
    let p = err_from_is_err_and c.from_residual.result c.from_residual.ensures.1 in
    let text = g.N.WriteText.text in
    rw (p.1)
    (front_before c.args.out.now.items c.append_byte.new.out.items (40 ∷ []) (spaced (text c.args.first.now ∷ map text c.args.others.now) ++ 41 ∷ []) c.in_err-append_byte.ensures)

pub returns : goal.returns
returns g c =
    let text = g.N.WriteText.text in
    writes_third c.append_byte-2.result c.args.out.now.items c.append_byte.new.out.items c.write_spaced.new.out.items c.append_byte-2.new.out.items (40 ∷ []) (spaced (text c.args.first.now ∷ map text c.args.others.now)) (41 ∷ [])
    c.in_ok-append_byte.ensures c.in_ok-write_spaced.ensures c.append_byte-2.ensures
