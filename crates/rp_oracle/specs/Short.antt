-- The sizes of the meanings of names and lots.
use Rattle.std.specs.Prelude.{◌≤◌, List, length, IfSome}
use Rattle.rp_geometry.specs.sets.Shape.{Part}
use Rattle.rp_geometry.specs.parts.Parts.{most_parts}
use Rattle.rp_language.specs.Name.{Label}
use Rattle.rp_language.specs.Expression.{Meaning}

-- each name and each lot has at most 1,024 parts
pub record StandShort (m : Meaning (List Part)) : Type 0 where
  pub names : (x : Label) → IfSome (m.of_name x) (λ ps. length ps ≤ most_parts)
  pub lots : (x : Label) → IfSome (m.of_lot x) (λ ps. length ps ≤ most_parts)
