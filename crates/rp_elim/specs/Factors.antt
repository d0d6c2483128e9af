-- The sizes of multipliers.
use Rattle.std.specs.Prelude.{◌*◌, ◌^◌, List}
use Rattle.std.specs.List.{AllByRecursion}
use Rattle.rp_algebra.specs.Within.{IsWithin}
use Rattle.rp_geometry.specs.searches.Certificate.{Multiple}

-- each multiplier is at most as great as a minor of third order can be
abbrev pub AreFactorsSmall : List Multiple → Type 0
AreFactorsSmall terms = AllByRecursion (λ t. IsWithin (6 * 2 ^ 72) t.factor) terms
