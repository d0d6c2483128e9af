-- The result of a walk over whole answers of a report.
use Rattle.std.specs.Prelude.{◌≡◌, ℕ, List, Result, Ok, Err, Option, option_map}
use Rattle.rp_language.specs.Grammar.{Version, Reading, reading}
use Rattle.rp_semantics.specs.Walk.{Outcome, done, stopped, line_wrong}
use Rattle.rp_reports.specs.Check.{Trail}
use Rattle.rp_reports.specs.ProofText.{Echo}
use denote.Ref.{Bor}
use Rattle.rp_checker.specs.declared.halt.Halt.{Halt}
use Rattle.rp_checker.specs.declared.halt.Halt.TheVariants.{Wrong, Memory}

-- the walk is stopped, and the wrong line has this number
pub record IsWrongAt {A : Type 0} (n : ℕ) (o : Outcome Trail A) : Type 0 where
  pub at : Trail
  pub stops : o ≡ stopped line_wrong at
  pub number : n ≡ at.number

-- the walk is stopped at the wrong line; nothing is stated if memory ran out
abbrev pub HaltsBy : {A : Type 0} → Halt → Outcome Trail A → Type 0
HaltsBy (Wrong n) o = IsWrongAt n o
HaltsBy (Memory e) o = Unit {0}

-- the walk has the result, as the model sees it, and the given trail; or it is stopped at the wrong line
abbrev pub Answers : {A B : Type 0} → (A → B) → Result A Halt → Trail → Outcome Trail B → Type 0
Answers view (Ok x) new o = o ≡ done (view x) new
Answers view (Err e) new o = HaltsBy e o

-- an echo, from its number and its text
abbrev pub echo_with : ℕ × Option (Bor (List ℕ)) → Echo
echo_with r = record { number = r.0; text = option_map (λ text. text.now) r.1 }

-- some line of some version has this reading
abbrev pub IsRead : Reading → Type 0
IsRead r = (v : Version) × (line : List ℕ) × (reading v line ≡ r)
