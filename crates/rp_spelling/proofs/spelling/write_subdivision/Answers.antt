use Rattle.std.proofs.Common.{ℕ, [], ◌∷◌, length, sym, ap, ◌∙◌, map, decimal}
use Rattle.std.proofs.lemmas.Result.{err_from_is_err_and}
use Rattle.std.proofs.lemmas.List.{length-map}
use Rattle.rp_spelling.specs.Spells.{children_words}
use Rattle.rp_command.specs.Versions.{version_of}
use Rattle.rp_command.specs.Views.{child_of}
use Rattle.rp_spelling.proofs.SpellLemmas.{stopped_first, spells_then}
use Rattle.rp_spelling.proofs.spelling.write_subdivision.Goals as goal

pub returns-in_err-write_numbers : goal.returns-in_err-write_numbers
returns-in_err-write_numbers c =
    let p = err_from_is_err_and c.from_residual.result c.from_residual.ensures.1 in
    let children = children_words (version_of c.args.version) (map child_of c.args.children.now.items) in
    rw p.1 (stopped_first c.args.out.now.items c.write_numbers.new.out.items (decimal (length c.items.result.now) ∷ []) children _ (ap (λ (n : ℕ). decimal n ∷ children) (ap length c.items.ensures ∙ sym (length-map c.args.children.now.items child_of))) c.in_err-write_numbers.ensures)

pub returns : goal.returns
returns c =
    let children = children_words (version_of c.args.version) (map child_of c.args.children.now.items) in
    spells_then c.write_children.result c.args.out.now.items c.write_numbers.new.out.items c.write_children.new.out.items (decimal (length c.items.result.now) ∷ []) children _
    (ap (λ (n : ℕ). decimal n ∷ children) (ap length c.items.ensures ∙ sym (length-map c.args.children.now.items child_of))) c.in_ok-write_numbers.ensures c.write_children.ensures
