-- Lists of numbers that grow, as a contract sees them.
use Rattle.std.specs.Prelude.{ℕ, List}

-- the numbers of a list, and the number of further ones for which there is room
pub record Numbers : Type 0 where
  pub items : List ℕ
  pub spare : ℕ
