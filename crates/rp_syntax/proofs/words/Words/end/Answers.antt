use Rattle.std.proofs.Common.{subst, ap, sym, ◌∙◌, ◌≡◌, Err}
use Rattle.rp_language.specs.Grammar.{Place, end_of_line, bad_syntax}
use Rattle.rp_syntax.specs.Places.{words_left}
use Rattle.rp_syntax.proofs.WordLemmas.{text_not_ended}
use Rattle.rp_syntax.proofs.words.Words.end.Goals as goal

pub returns-in-Some : goal.returns-in-Some
returns-in-Some c =
    let place = ap (λ rest. record { words = words_left rest; nodes = c.self.inside.nodes }) (sym c.in-Some.is) ∙ c.self.view_is in
    subst (λ (p : Place). end_of_line p ≡ Err bad_syntax) place (text_not_ended c.in-Some.field-0.now _)
