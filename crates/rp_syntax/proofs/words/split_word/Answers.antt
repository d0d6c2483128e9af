use Rattle.std.proofs.Common.{ℕ, ◌+◌, ◌∷◌, List, take, ap, sym, ◌∙◌}
use Rattle.std.proofs.lemmas.List.{take_rest}
use Rattle.rp_language.specs.Grammar.{words_of}
use Rattle.rp_syntax.proofs.WordLemmas.{words_of-at, words_of-none}
use Rattle.rp_syntax.proofs.words.split_word.Goals as goal

pub returns-in-Some : goal.returns-in-Some
returns-in-Some c =
    words_of-at c.args.text.now c.in-Some.end (sym c.space_in.ensures ∙ c.in-Some.is)
    ∙ ap (λ (rest : List ℕ). take c.in-Some.end c.args.text.now ∷ words_of rest) (sym (take_rest c.args.text.now (c.in-Some.end + 1)))

pub returns-in-None : goal.returns-in-None
returns-in-None c = words_of-none c.args.text.now (sym c.space_in.ensures ∙ c.in-None.is)
