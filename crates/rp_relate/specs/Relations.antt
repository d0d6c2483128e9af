-- The relations of regions, as the code finds them.
use Rattle.std.specs.Prelude.{◌≡◌, ℕ, ◌==◌, true, false, Bool, List, [], ◌∷◌, Option, Some, None, Result, Ok, Err}
use Rattle.rp_geometry.specs.sets.Shape.{Shape, Part}
use Rattle.rp_geometry.specs.sets.Sets.{IsNonempty, IsEmpty}
use Rattle.rp_geometry.specs.sets.Relation.{Relation}
use Rattle.rp_semantics.specs.Walk.{done, stopped, limit_met, Walk, Work, first_tester}
use Rattle.rp_region.specs.declared.fault.OpFault.{OpFault}
use Rattle.rp_region.specs.declared.fault.OpFault.TheVariants.{Limit as OpLimit, Memory as OpMemory}
use Rattle.rp_region.specs.Makes.{IsCutShort}
use Rattle.rp_eval.specs.declared.compare.Rcc8.{Rcc8}
use Rattle.rp_eval.specs.Relations.{relation_of, cover_each_other as each_other}
use Rattle.rp_relate.specs.declared.relation.RccFault.{RccFault}
use Rattle.rp_relate.specs.declared.relation.RccFault.TheVariants.{EmptyRegion, Limit, Memory}

-- a fault of an operation, as a fault of a relation
abbrev pub fault_of_relation : OpFault → RccFault
fault_of_relation OpLimit = Limit
fault_of_relation (OpMemory e) = Memory e

-- whether each list is within the other; if the first is not, the second is not tested
abbrev pub cover_each_other : List Part → List Part → Walk Work Bool
cover_each_other ps qs = each_other first_tester ps qs

-- the number of the first list without a part, of two
abbrev pub first_empty : List Part → List Part → Option ℕ
first_empty [] qs = Some 1
first_empty (p ∷ ps) [] = Some 2
first_empty (p ∷ ps) (q ∷ qs) = None

-- the first empty shape of two has the number k: the first has no point, or the first has one and the second has none
abbrev pub AreToldEmpty : ℕ → Shape → Shape → Type 0
AreToldEmpty k s t = elim (k == 1) [ true ↦ IsEmpty s | false ↦ elim (k == 2) [ true ↦ IsNonempty s × IsEmpty t | false ↦ ⊥ ] ]

-- the result says which of two shapes is the first without a point; every other result is of shapes with points
abbrev pub TellsEmpty : Result Rcc8 RccFault → Shape → Shape → Type 0
TellsEmpty (Ok r) s t = IsNonempty s × IsNonempty t
TellsEmpty (Err (EmptyRegion k)) s t = AreToldEmpty k s t
TellsEmpty (Err Limit) s t = IsNonempty s × IsNonempty t
TellsEmpty (Err (Memory e)) s t = IsNonempty s × IsNonempty t

-- the relation is the result of the walk, from the work old to the work new; or the walk meets a limit, or was cut short for want of memory; no region is empty
abbrev pub MakesRelation : Result Rcc8 RccFault → Work → Work → Walk Work Relation → Type 0
MakesRelation (Ok r) old new walk = walk old ≡ done (relation_of r) new
MakesRelation (Err (EmptyRegion k)) old new walk = ⊥
MakesRelation (Err Limit) old new walk = walk old ≡ stopped limit_met new
MakesRelation (Err (Memory e)) old new walk = IsCutShort old new (walk old)
