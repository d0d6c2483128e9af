use Rattle.std.proofs.Common.{ℕ, [], ◌∷◌, length, ap, decimal}
use Rattle.std.proofs.lemmas.Result.{err_from_is_err_and}
use Rattle.rp_spelling.proofs.SpellLemmas.{stopped_first, spells_then}
use Rattle.rp_spelling.proofs.spelling.write_consolidation.Goals as goal

pub returns-in_err-write_numbers : goal.returns-in_err-write_numbers
returns-in_err-write_numbers c =
    let p = err_from_is_err_and c.from_residual.result c.from_residual.ensures.1 in
    rw p.1 (stopped_first c.args.out.now.items c.write_numbers.new.out.items (decimal (length c.items.result.now) ∷ []) c.args.lots.now.items _ (ap (λ (n : ℕ). decimal n ∷ c.args.lots.now.items) (ap length c.items.ensures)) c.in_err-write_numbers.ensures)

pub returns : goal.returns
returns c =
    spells_then c.write_names.result c.args.out.now.items c.write_numbers.new.out.items c.write_names.new.out.items (decimal (length c.items.result.now) ∷ []) c.args.lots.now.items _
    (ap (λ (n : ℕ). decimal n ∷ c.args.lots.now.items) (ap length c.items.ensures)) c.in_ok-write_numbers.ensures c.write_names.ensures
