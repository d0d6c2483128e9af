-- Lots that each have a part are not many.
use Rattle.std.proofs.Common.{◌≤◌, List, [], ◌∷◌, length, arith}
use Rattle.std.specs.List.{AllByRecursion}
use Rattle.std.proofs.lemmas.List.Sums.{sum_by-cons}
use Rattle.rp_geometry.specs.sets.Shape.{Part, shape_of_parts}
use Rattle.rp_geometry.specs.sets.Sets.{IsNonempty}
use Rattle.rp_geometry.proofs.Members.{not_in_nothing}
use Rattle.rp_model.specs.states.State.{Lot, parts_under_lots}

-- parts with a member are some
some_part : (ps : List Part) → IsNonempty (shape_of_parts ps) → 1 ≤ length ps
some_part [] h = absurd (not_in_nothing h.0 h.1)
some_part (p ∷ ps) h = omega arith

-- lots with a part each are at most as many as their parts
pub as_many_parts : (lots : List (Lot (Unit {0}))) → AllByRecursion (λ l. IsNonempty (shape_of_parts l.parts)) lots → length lots ≤ parts_under_lots lots
as_many_parts [] h = omega arith
as_many_parts (l ∷ lots) h =
    let more = as_many_parts lots h.1 in
    let one = some_part l.parts h.0 in
    let all = sum_by-cons (λ (k : Lot (Unit {0})). length k.parts) l lots in
    omega (arith, more, one, all)
