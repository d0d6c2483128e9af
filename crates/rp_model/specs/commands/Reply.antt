-- The reply of a command: its verdict lines and its change; and the checks that refuse.
use Rattle.std.specs.Prelude.{ℕ, Bool, true, false, nat_le, List, [], ◌∷◌, Option, Some, None}
use Rattle.rp_semantics.specs.Walk.{Walk, pass, stop, limit_met}
use Rattle.rp_model.specs.commands.Verdict.{Refusal, Verdict, says_yes, says_no, says_ok, refused}
use Rattle.rp_model.specs.states.State.{Change, nothing_changes}

-- the verdict lines of a command, and its change
pub record Reply : Type 0 where
  pub verdicts : List Verdict
  pub change : Change (Unit {0})

-- the reply of some lines, without a change
abbrev pub reply_lines : List Verdict → Reply
reply_lines vs = record { verdicts = vs; change = nothing_changes }

-- the reply of one line, without a change
abbrev pub reply : Verdict → Reply
reply v = reply_lines (v ∷ [])

-- the reply of a refusal
abbrev pub refusal : Refusal → Reply
refusal r = reply (refused r)

-- the reply yes or no
abbrev pub yes_or_no : Bool → Reply
yes_or_no true = reply says_yes
yes_or_no false = reply says_no

-- the reply of an accepted change
abbrev pub accepted : Change (Unit {0}) → Reply
accepted c = record { verdicts = says_ok ∷ []; change = c }

-- a check before the rest of a row: it refuses, or the row continues
abbrev pub check : {W : Type 0} → Option Refusal → Walk W Reply → Walk W Reply
check None rest = rest
check (Some r) rest = pass (refusal r)

-- stops at the limit, if the size is above it
abbrev pub check_size : {W : Type 0} → ℕ → ℕ → Walk W (Unit {0})
check_size size most = elim (nat_le size most) [ true ↦ pass tt | false ↦ stop limit_met ]
