-- Lists that grow, as a contract sees them.
use Rattle.std.specs.Prelude.{ℕ, List}

-- the items of a list, and the number of further items for which there is room
pub record Listed (A : Type 0) : Type 0 where
  pub items : List A
  pub spare : ℕ
