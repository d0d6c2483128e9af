-- Collisions of SHA-256 among strings that are named.
use Rattle.std.specs.Prelude.{◌≡◌, ◌≢◌, ℕ, List, Contains}
use Rattle.sha2.specs.Sha256.{sha256}

-- two different strings of the list have one SHA-256. Without a list the statement is true of every hash, as there are more strings than hashes
pub record HasCollision (strings : List (List ℕ)) : Type 0 where
  pub one : List ℕ
  pub other : List ℕ
  pub one_among : Contains strings one
  pub other_among : Contains strings other
  pub differ : one ≢ other
  pub collide : sha256 one ≡ sha256 other
