-- rcc EXPRESSION EXPRESSION: which of the eight relations of RCC-8 two regions have.
use Rattle.std.specs.Prelude.{List, [], ◌∷◌}
use Rattle.rp_geometry.specs.sets.Relation.{Relation, StandIn}
use Rattle.rp_geometry.specs.sets.Sets.{IsEmpty}
use Rattle.rp_geometry.specs.sets.Shape.{Shape, Part}
use Rattle.rp_semantics.specs.Compare.{relation_of_parts}
use Rattle.rp_semantics.specs.Walk.{Walk, pass, ◌>>=◌, Tester}
use Rattle.rp_model.specs.commands.Definition.{AsksForms}
use Rattle.rp_model.specs.commands.Reply.{Reply, reply, refusal}
use Rattle.rp_model.specs.commands.Rules.{Rule, answers, refused_where}
use Rattle.rp_model.specs.commands.Verdict.{Verdict, empty_region}

module _ {W : Type 0} (tester : Tester W) where
  -- the row: both forms must have a part; then their relation
  abbrev pub row_relation : List Part → List Part → Walk W Reply
  row_relation [] qs = pass (refusal (empty_region 1))
  row_relation (p ∷ ps) [] = pass (refusal (empty_region 2))
  row_relation (p ∷ ps) (q ∷ qs) = do
    r ← relation_of_parts tester (p ∷ ps) (q ∷ qs)
    pass (reply (Verdict.relation r))

-- the rule: both sets must have a member; then their one relation
abbrev pub rule_relation : Shape → Shape → Rule
rule_relation a b =
    refused_where (IsEmpty a) (empty_region 1)
    (refused_where (IsEmpty b) (empty_region 2) (λ given. (r : Relation) × StandIn r a b × answers (Verdict.relation r ∷ []) given))

-- the definition of rcc
abbrev pub rcc_definition : AsksForms
rcc_definition = record { row = row_relation; rule = rule_relation }
