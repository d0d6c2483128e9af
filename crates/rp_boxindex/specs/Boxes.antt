-- Boxes under their ids.
use Rattle.std.specs.Prelude.{ℕ, ℤ, List, refl}
use Rattle.std.specs.Ordering.{nat_cmp}
use Rattle.std.specs.Coded.{Coded, code_by, coded×, coded_list, coded_ℤ}
use Rattle.std.specs.FinMap.{FinMap}
use Rattle.rp_space.specs.declared.bounds.IntBox.{IntBox}

-- the finite maps from ids to boxes
abbrev pub Boxes : Type 0
Boxes = FinMap nat_cmp IntBox

-- the code of a box: the pair of its corners
abbrev pub coded_box : Coded IntBox
coded_box = code_by (List ℤ × List ℤ) (coded× (coded_list coded_ℤ) (coded_list coded_ℤ)) (λ b. (b.lo, b.hi)) (λ p. record { lo = p.0; hi = p.1 }) (λ _. refl)

-- an id with its box
abbrev pub Entry : Type 0
Entry = ℕ × IntBox
