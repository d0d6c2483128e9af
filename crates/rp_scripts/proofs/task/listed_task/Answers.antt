use Rattle.std.proofs.Common.{◌≡◌, ℕ, ◌≤◌, List, [], ◌∷◌, None, map, length, string_bytes, refl, arith}
use Rattle.rp_reports.specs.Output.{task_of}
use Rattle.rp_scripts.proofs.task.listed_task.Goals as goal

-- more than three words name no task
long-words : {A : Type 0} (text : A → List ℕ) (words : List A) → 4 ≤ length words → None ≡ task_of (map text words)
long-words text [] h = absurd (omega arith)
long-words text (a ∷ []) h = absurd (omega arith)
long-words text (a ∷ b ∷ []) h = absurd (omega arith)
long-words text (a ∷ b ∷ c ∷ []) h = absurd (omega arith)
long-words text (a ∷ b ∷ c ∷ d ∷ words) h = refl

pub returns-in_default-2 : goal.returns-in_default-2
returns-in_default-2 c = long-words string_bytes c.args.words.now (omega (arith, c.in_default.len_at_least))
