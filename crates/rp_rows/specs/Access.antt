-- The verdict lines of access.
use Rattle.std.specs.Prelude.{ℕ, ◌-◌, List, [], ◌∷◌, ◌++◌, map, length, Option, Some, None}
use Rattle.rp_language.specs.Name.{Label}
use Rattle.rp_lists.specs.Listed.{Listed}
use Rattle.rp_model.specs.commands.Verdict.{Verdict}
use Rattle.rp_rows.specs.declared.access.Access.{Access}

-- the verdict lines of a chain, if there is one
abbrev pub told_chain : Option (Listed Label) → List Verdict
told_chain None = Verdict.no_access ∷ []
told_chain (Some ids) = Verdict.access (length ids.items - 1) ∷ map Verdict.parcel ids.items

-- the verdict lines of levels
abbrev pub told_levels : List (ℕ × Label) → List Verdict
told_levels levels = map (λ l. Verdict.level l.0 l.1) levels

-- the verdict lines of an access: those of its chain, and then those of its levels
abbrev pub told_access : Access → List Verdict
told_access a = told_chain a.chain ++ told_levels a.levels.items
