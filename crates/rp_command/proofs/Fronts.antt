-- Fronts of texts that are appended.
use Rattle.std.proofs.Common.{ℕ, List, ◌++◌, ap, ◌∙◌, append_assoc}
use Rattle.rp_command.specs.Fronts.{AppendsFront}

-- a front of a text is one of a longer text
pub front_before : (old new first second : List ℕ) → AppendsFront old new first → AppendsFront old new (first ++ second)
front_before old new first second f =
    record { front = f.front; rest = f.rest ++ second; whole = ap (λ xs. xs ++ second) f.whole ∙ append_assoc f.front f.rest second; appended = f.appended }
