-- What came of lines that were to be added.
use Rattle.std.proofs.Common.{◌≡◌, ℕ, List, Option, None, Some, IfSome, subst}
use Rattle.rp_book.specs.declared.act.Entry.{Entry}
use Rattle.rp_book.specs.Act.{Told, GainsAct, added_act}
use Rattle.rp_book.specs.Kept.{Stays}
use Rattle.rp_language.specs.Name.{Label}
use Rattle.rp_book_service.specs.Added.{MatchOutcome, ended}
use Rattle.rp_book_service.specs.Layers.{lines_in}
use Rattle.rp_book_service.specs.declared.add.Outcome.{Outcome}
use Rattle.rp_book_service.specs.declared.add.Outcome.TheVariants.{Added, Empty, Refused}

-- the act of the lines that were read
pub acts-read : (told left : Option (List ℕ)) (old new : Option (List Told)) (layer : Option Label) (lines : List ℕ) (entry : Entry) (done : Outcome) → IfSome left (λ input. lines ≡ lines_in layer (ended input))
    → MatchOutcome done (IfSome told (λ script. GainsAct old new (added_act script lines entry))) (Stays old new)
    → MatchOutcome done (IfSome left (λ input. IfSome told (λ script. GainsAct old new (added_act script (lines_in layer (ended input)) entry)))) (Stays old new)
acts-read told None old new layer lines entry (Added addition) is h = tt
acts-read told (Some input) old new layer lines entry (Added addition) is h = subst (λ (ls : List ℕ). IfSome told (λ script. GainsAct old new (added_act script ls entry))) is h
acts-read told left old new layer lines entry Empty is h = h
acts-read told left old new layer lines entry Refused is h = h
