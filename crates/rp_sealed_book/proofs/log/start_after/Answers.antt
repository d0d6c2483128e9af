use Rattle.std.proofs.Common.{rules, ◌≡◌, List, [], ◌∷◌, ◌++◌, ap, map, sym, ◌∙◌}
use Rattle.rp_book.specs.Act.{act_of}
use Rattle.rp_book.specs.declared.act.Act.{Act}
use Rattle.rp_sealed_book.specs.Log.{start_after}
use Rattle.rp_sealed_book.proofs.LogLemmas.{start_after-last}
use Rattle.rp_sealed_book.proofs.log.start_after.Goals as goal

pub returns-in-Some : goal.returns-in-Some
returns-in-Some c =
    let before = c.in-Some.field-0-1.now in
    let last = c.in-Some.last.now in
    let whole : c.args.acts.now ≡ before ++ last ∷ [] = search rules in
    sym (ap (λ (acts : List Act). start_after c.args.from (map act_of acts)) whole ∙ start_after-last c.args.from before last)
