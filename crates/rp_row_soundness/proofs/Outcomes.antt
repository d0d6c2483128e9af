-- What a walk comes to where it is not stopped: one walk after another, tests and checks.
use Rattle.std.proofs.Common.{◌≡◌, ℕ, ◌≤◌, Bool, true, false, inl, inr, refl}
use Rattle.std.specs.Prelude.{Option, Some, None, nat_le}
use Rattle.std.proofs.lemmas.Bool.{leb-true}
use Rattle.rp_geometry.specs.sets.Shape.{Shape, Part}
use Rattle.rp_semantics.specs.Walk.{Outcome, done, stopped, Walk, pass, stop, limit_met, after_first, ◌>>=◌}
use Rattle.rp_semantics.specs.FormLaws.{IfDone}
use Rattle.rp_semantics.proofs.Outcomes.{weaker_done}
use Rattle.rp_model.specs.commands.Verdict.{Refusal}
use Rattle.rp_model.specs.commands.Checks.{refuse_if, and_then}
use Rattle.rp_model.specs.commands.Reply.{Reply, refusal, check, check_size}
use Rattle.rp_model.specs.commands.Rules.{Rule, names_then, refused_where}
use Rattle.rp_model.specs.commands.Rule.{with_parts}
use Rattle.rp_model.specs.states.State.{Change}
use Rattle.rp_reports.specs.laws.RowLaws.{NewPartsAreOf}

-- ---- walks

-- a walk of two steps whose result is known, with a next one in the place of its end
pub last_then : {W A B : Type 0} (Q : A → Type 0) (P : B → Type 0) (o : Outcome W A) (next : A → Walk W B) → IfDone (after_first pass o) Q → ((x : A) (w : W) → Q x → IfDone (next x w) P) → IfDone (after_first next o) P
last_then Q P (done x w) next h each = each x w h
last_then Q P (stopped e w) next h each = tt

-- the same behind a first step
pub middle_then : {W A B C : Type 0} (Q : B → Type 0) (P : C → Type 0) (o : Outcome W A) (middle : A → Walk W B) (next : B → Walk W C)
    → IfDone (after_first (λ x. middle x >>= pass) o) Q → ((x : B) (w : W) → Q x → IfDone (next x w) P) → IfDone (after_first (λ x. middle x >>= next) o) P
middle_then Q P (done x w) middle next h each = last_then Q P (middle x w) next h each
middle_then Q P (stopped e w) middle next h each = tt

-- ---- checks

-- a size that is not above its limit
pub size_done : {W : Type 0} (size most : ℕ) (w : W) → IfDone (check_size size most w) (λ _. size ≤ most)
size_done {W = W} size most w = by_test (nat_le size most) (leb-true size most)
  where
    by_test : (b : Bool) → (b ≡ true → size ≤ most) → IfDone ((elim b as (λ _. Walk W (Unit {0})) [ true ↦ pass tt | false ↦ stop limit_met ]) w) (λ _. size ≤ most)
    by_test true h = h refl
    by_test false h = tt

-- ---- replies

-- a reply whose verdict lines are those that the rule wants, and whose new parts have the members of the new sets
abbrev pub Replies : (Part → Type 0) → Change Shape → Rule → Reply → Type 0
Replies P change rule r = rule r.verdicts × NewPartsAreOf P (with_parts change r.change)

-- a check on names that refuses, or else the rest of a row, which meets the rest of the rule
pub names_done : {W : Type 0} (K : Reply → Type 0) (o : Option Refusal) (rest : Rule) (walk : Walk W Reply) (w : W)
    → ((r : Refusal) → K (refusal r)) → (o ≡ None → IfDone (walk w) (λ r. rest r.verdicts × K r)) → IfDone (check o walk w) (λ r. names_then o rest r.verdicts × K r)
names_done K None rest walk w refuses goes_on = goes_on refl
names_done K (Some r) rest walk w refuses goes_on = (refl, refuses r)

-- a check on names and then a further check
pub names_first_done : {W : Type 0} (K : Reply → Type 0) (o further : Option Refusal) (rest : Rule) (walk : Walk W Reply) (w : W)
    → ((r : Refusal) → K (refusal r)) → (o ≡ None → IfDone (check further walk w) (λ r. rest r.verdicts × K r)) → IfDone (check (and_then o further) walk w) (λ r. names_then o rest r.verdicts × K r)
names_first_done K None further rest walk w refuses goes_on = goes_on refl
names_first_done K (Some r) further rest walk w refuses goes_on = (refl, refuses r)

-- a check by a test, where the rule asks whether a fact holds
pub test_done : {W : Type 0} (K : Reply → Type 0) (C : Type 0) (refused_with : Refusal) (rest : Rule) (b : Bool) (walk : Walk W Reply) (w : W)
    → (b ≡ true → C) → (b ≡ false → ¬ C) → ((r : Refusal) → K (refusal r)) → (b ≡ false → IfDone (walk w) (λ r. rest r.verdicts × K r))
    → IfDone (check (refuse_if b refused_with) walk w) (λ r. refused_where C refused_with rest r.verdicts × K r)
test_done K C refused_with rest true walk w is is_not refuses goes_on = (inl (is refl, refl), refuses refused_with)
test_done {W = W} K C refused_with rest false walk w is is_not refuses goes_on =
    weaker_done (λ r. rest r.verdicts × K r) (λ r. refused_where C refused_with rest r.verdicts × K r) (walk w) (goes_on refl) (λ r k. (inr (is_not refl, k.0), k.1))
