use Rattle.std.proofs.Common.{◌≡◌, [], ◌∷◌, ◌++◌, take}
use Rattle.std.specs.List.{flat_map}
use Rattle.rp_spelling.specs.Spells.{behind_spaces}
use Rattle.rp_spelling.proofs.spelling.write_numbers.Given as goal

-- the numbers so far were written
abbrev pub invariant-loop-number : goal.invariant-loop-number
invariant-loop-number g l = l.out.items ≡ l.initial.out.items ++ behind_spaces (flat_map (λ number. g.I.Integer.text number ∷ []) (take l.number-index l.numbers))
