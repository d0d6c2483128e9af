-- The relation of two lists of parts, as the code finds it.
use Rattle.std.specs.Prelude.{true, false, Bool, List}
use Rattle.rp_geometry.specs.sets.Shape.{Part}
use Rattle.rp_geometry.specs.sets.Relation.{Relation}
use Rattle.rp_semantics.specs.Walk.{Walk, Tester, pass, ◌>>=◌}
use Rattle.rp_semantics.specs.Compare.{is_covered}
use Rattle.rp_eval.specs.declared.compare.Rcc8.{Rcc8}
use Rattle.rp_eval.specs.declared.compare.Rcc8.TheVariants.{DC, EC, PO, EQ, TPP, NTPP, TPPi, NTPPi}

-- the relation of the model for a relation of the code
abbrev pub relation_of : Rcc8 → Relation
relation_of DC = Relation.DC
relation_of EC = Relation.EC
relation_of PO = Relation.PO
relation_of EQ = Relation.EQ
relation_of TPP = Relation.TPP
relation_of NTPP = Relation.NTPP
relation_of TPPi = Relation.TPPi
relation_of NTPPi = Relation.NTPPi

-- whether each list is within the other; if the first is not, the second is not tested
abbrev pub cover_each_other : {W : Type 0} → Tester W → List Part → List Part → Walk W Bool
cover_each_other tester ps qs = do
  there ← is_covered tester ps qs
  elim there [ false ↦ pass false | true ↦ is_covered tester qs ps ]
