use Rattle.std.proofs.Common.{◌≡◌, ℕ, List, ◌∷◌, ◌++◌, take}
use Rattle.std.specs.List.{flat_map}
use Rattle.rp_language.specs.Grammar.{expression_words}
use Rattle.rp_command.specs.declared.command.Expr.{Expr}
use Rattle.rp_spelling.specs.Spells.{behind_spaces}
use Rattle.rp_command.specs.Versions.{version_of}
use Rattle.rp_command.specs.Views.{expression_of}
use Rattle.rp_spelling.proofs.spelling.write_children.Given as goal

-- the children so far were written
abbrev pub invariant-loop-child : goal.invariant-loop-child
invariant-loop-child l = l.out.items ≡ l.initial.out.items ++ behind_spaces (flat_map (λ (e : List ℕ × Expr). e.0 ∷ expression_words (version_of l.fn.version) (expression_of e.1)) (take l.child-index l.fn.children.items))
