-- The relation of reports is met by the lines of a worked script, and by no other lines.
use Rattle.std.specs.Prelude.{◌≡◌, ℕ, pos, List, [], ◌∷◌, codes, refl}
use Rattle.std.proofs.Common.{inl, inr}
use lib.Signed.{lt_z_yes}
use Rattle.rp_worked.proofs.Opened.{opened}
use Rattle.rp_geometry.specs.Geometry.{half_space_of, point_of}
use Rattle.rp_language.specs.Expression.{Command, Expression, ask_member}
use Rattle.rp_model.specs.states.State.{opening}
use Rattle.rp_model.specs.commands.Verdict.{says_yes, says_no}
use Rattle.rp_model.specs.commands.Rule.{rule_of}
use Rattle.rp_reports.specs.Text.{Answer}
use Rattle.rp_reports.specs.Report.{IsReport}

line : List ℕ
line = codes "member half 1 0 0 0 0 5 5 1"

question : Command
question = ask_member (Expression.half_space (half_space_of (pos 1) (pos 0) (pos 0) (pos 0))) (point_of (pos 0) (pos 5) (pos 5) (pos 1))

verdict : rule_of opening question (says_yes ∷ [])
unfolding opened question
verdict = inl ((lt_z_yes tt, refl), refl)

-- a wrong verdict is none
not_no : rule_of opening question (says_no ∷ []) → ⊥
unfolding opened question
not_no (inl h) = elim_no h.1
  where
    elim_no : says_no ∷ [] ≡ says_yes ∷ [] → ⊥
    elim_no e = cc
not_no (inr h) = h.0 (lt_z_yes tt, refl)

answer : Answer
answer = record { number = 1; echo = line; proofs = []; verdicts = says_yes ∷ [] }

plane_owned_report : IsReport line (codes "> 1 member half 1 0 0 0 0 5 5 1" ∷ codes "= yes" ∷ [])
unfolding opened question line answer verdict
plane_owned_report = (_, (answer, [], record { number = refl; echo = refl; proofs = refl; verdicts = inl ((lt_z_yes tt, refl), refl) }, refl, refl), refl)
