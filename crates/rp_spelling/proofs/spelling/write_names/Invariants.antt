use Rattle.std.proofs.Common.{◌≡◌, ℕ, List, [], ◌∷◌, ◌++◌, take}
use Rattle.std.specs.List.{flat_map}
use Rattle.rp_spelling.specs.Spells.{behind_spaces}
use Rattle.rp_spelling.proofs.spelling.write_names.Given as goal

-- the names so far were written
abbrev pub invariant-loop-name : goal.invariant-loop-name
invariant-loop-name l = l.out.items ≡ l.initial.out.items ++ behind_spaces (flat_map (λ (name : List ℕ). name ∷ []) (take l.name-index l.fn.names.items))
