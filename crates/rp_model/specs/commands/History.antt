-- history ID: a lot and all lots from which it was made.
use Rattle.std.specs.Prelude.{false, ◌∷◌, length}
use Rattle.rp_language.specs.Expression.{signature, history_verb}
use Rattle.rp_language.specs.Name.{Label}
use Rattle.rp_semantics.specs.Walk.{Walk, pass}
use Rattle.rp_model.specs.commands.Checks.{check_registered}
use Rattle.rp_model.specs.commands.Definition.{Definition}
use Rattle.rp_model.specs.commands.Reply.{Reply, reply_lines, check}
use Rattle.rp_model.specs.commands.Rules.{Rule, answers, names_then}
use Rattle.rp_model.specs.commands.Verdict.{Verdict, lot_lines}
use Rattle.rp_model.specs.states.State.{StateOf, lineage, nothing_changes, State}

-- the row: the lineage of an id that was ever registered
abbrev pub row_history : {S W : Type 0} → StateOf S → Label → Walk W Reply
row_history s x = check (check_registered s x)
    (pass (reply_lines (Verdict.lots (length (lineage x s.lots)) ∷ lot_lines (lineage x s.lots))))

-- the rule: the lineage of an id that was ever registered
abbrev pub rule_history : State → Label → Rule
rule_history s x = names_then (check_registered s x) (answers (Verdict.lots (length (lineage x s.lots)) ∷ lot_lines (lineage x s.lots)))

-- the definition of history
abbrev pub history_definition : Definition (signature history_verb)
history_definition = record {
  may_meet_limit = false;
  row = λ t s (x, end). row_history s x;
  rule = λ s formed (x, end). rule_history s x;
  change = λ s os. nothing_changes;
}
