-- The definition of a command: whether it may meet a limit, its row, its rule and its change.
use Rattle.std.specs.Prelude.{Bool, true, List, [], ◌∷◌}
use Rattle.rp_geometry.specs.sections.Slice.{Slice}
use Rattle.rp_geometry.specs.sets.Shape.{Shape, Part}
use Rattle.rp_language.specs.Expression.{Expression, Meaning, Kind, expression_kind, Operands}
use Rattle.rp_semantics.specs.Form.{form}
use Rattle.rp_semantics.specs.Walk.{Walk, ◌>>=◌, Tester}
use Rattle.rp_model.specs.commands.Reply.{Reply}
use Rattle.rp_model.specs.commands.Rules.{Rule}
use Rattle.rp_model.specs.commands.Sets.{set_of}
use Rattle.rp_model.specs.states.State.{StateOf, parts_in, Change, nothing_changes, State}

-- the form of the expression of show, pieces and section: its parts, and their slices at a height
pub record Formed : Type 0 where
  pub parts : List Part
  pub slices : List Slice

-- the form of a command without such an expression
abbrev pub nothing_formed : Formed
nothing_formed = record { parts = []; slices = [] }

-- the definition of a command with operands of the given kinds: whether it may meet a limit; its row; its rule, by the sets and by the form; its change
pub record Definition (ks : List Kind) : Type 1 where
  pub may_meet_limit : Bool
  pub row : {S W : Type 0} → Tester W → StateOf S → Operands ks → Walk W Reply
  pub rule : State → Formed → Operands ks → Rule
  pub change : State → Operands ks → Change Shape

-- a question about one expression: its row, by the parts of the form, and its rule
pub record AsksForm : Type 1 where
  pub row : {W : Type 0} → Tester W → List Part → Walk W Reply
  pub rule : Formed → Shape → Rule

-- a question about two expressions: its row, by the parts of both forms, and its rule
pub record AsksForms : Type 1 where
  pub row : {W : Type 0} → Tester W → List Part → List Part → Walk W Reply
  pub rule : Shape → Shape → Rule

module _ {W : Type 0} (tester : Tester W) where
  -- makes the form of an expression, and then walks a row
  abbrev pub with_form : Meaning (List Part) → Expression → (List Part → Walk W Reply) → Walk W Reply
  with_form m e row = do
    ps ← form tester m e
    row ps

  -- makes the forms of two expressions, and then walks a row
  abbrev pub with_forms : Meaning (List Part) → Expression → Expression → (List Part → List Part → Walk W Reply) → Walk W Reply
  with_forms m e f row = do
    ps ← form tester m e
    qs ← form tester m f
    row ps qs

-- the definition of a question about one expression
abbrev pub of_form : AsksForm → Definition (expression_kind ∷ [])
of_form q = record {
  may_meet_limit = true;
  row = λ t s (e, end). with_form t (parts_in s) e (q.row t);
  rule = λ s formed (e, end). q.rule formed (set_of s e);
  change = λ s os. nothing_changes;
}

-- the definition of a question about two expressions
abbrev pub of_forms : AsksForms → Definition (expression_kind ∷ expression_kind ∷ [])
of_forms q = record {
  may_meet_limit = true;
  row = λ t s (e, (f, end)). with_forms t (parts_in s) e f (q.row t);
  rule = λ s formed (e, (f, end)). q.rule (set_of s e) (set_of s f);
  change = λ s os. nothing_changes;
}

-- what a command is: a question about one expression or about two, built from its row and its rule, or a command with a definition of its own
pub data Entry : List Kind → Type 1 where
  about_form : AsksForm → Entry (expression_kind ∷ [])
  about_forms : AsksForms → Entry (expression_kind ∷ expression_kind ∷ [])
  own : {ks : List Kind} → Definition ks → Entry ks

-- the definition of a command
abbrev pub definition_of : {ks : List Kind} → Entry ks → Definition ks
definition_of (about_form q) = of_form q
definition_of (about_forms q) = of_forms q
definition_of (own d) = d
