use Rattle.std.proofs.Common.{◌≡◌, ℤ, [], ◌∷◌, ◌++◌, take}
use Rattle.std.specs.List.{flat_map}
use Rattle.rp_language.specs.Grammar.{coordinate_text}
use Rattle.rp_spelling.specs.Spells.{behind_spaces}
use Rattle.rp_command.specs.Versions.{version_of}
use Rattle.rp_spelling.proofs.spelling.write_coordinates.Given as goal

-- the coordinates so far were written
abbrev pub invariant-loop-number : goal.invariant-loop-number
invariant-loop-number l = l.out.items ≡ l.initial.out.items ++ behind_spaces (flat_map (λ (v : ℤ). coordinate_text (version_of l.version) v ∷ []) (take l.number-index l.numbers))
