-- In a sound state the verdict of the row of each command, walked with the first certificates, is the one that the rule wants.
use Rattle.std.proofs.Common.{◌≡◌, ℤ, List, [], ◌∷◌, refl, sym, subst}
use Rattle.std.specs.List.{AllByRecursion}
use Rattle.rp_algebra.proofs.Listed.{all_map}
use Rattle.rp_geometry.specs.sets.Shape.{Part}
use Rattle.rp_geometry.specs.sections.Slice.{Slice}
use Rattle.rp_semantics.specs.Walk.{Outcome, done, stopped, limit_met, limit_told, line_wrong, taken_wrong, Work, no_work, pass, ◌>>=◌, after_first, first_tester}
use Rattle.rp_language.specs.Expression.{Expression, Command, IsKeptExpression, expressions_of, heights_of}
use Rattle.rp_semantics.specs.Form.{form}
use Rattle.rp_model.specs.states.State.{State, parts_in, sets_in, Change}
use Rattle.rp_model.specs.commands.Verdict.{Verdict}
use Rattle.rp_model.specs.commands.Reply.{Reply}
use Rattle.rp_model.specs.commands.Row.{row}
use Rattle.rp_model.specs.commands.Rules.{Rule}
use Rattle.rp_model.specs.commands.Rule.{rule_without_limits, walked, limit_then, first_formed, form_first, slices_at, formed_or_nothing, formed_by, change_of}
use Rattle.rp_model.specs.commands.Sets.{set_of}
use Rattle.rp_reports.specs.Machine.{verdicts_walked}
use Rattle.rp_geometry.specs.parts.Parts.{IsPart, AreOf}
use Rattle.rp_model.specs.states.Sound.{IsSound}
use Rattle.rp_semantics.specs.FormLaws.{IfDone}
use Rattle.rp_geometry.specs.laws.RegionLaws.{RelationsExclude}
use Rattle.rp_geometry.specs.laws.PieceLaws.{IsNonemptyPart, PiecesAreOne}
use Rattle.rp_reports.specs.laws.RowLaws.{RowMeetsRule}
use Rattle.rp_semantics.specs.FormLaws.{WalksAreRight}
use Rattle.rp_language.proofs.ReadBounds.{read_expressions_are_kept_spec}
use Rattle.rp_row_soundness.proofs.Outcomes.{Replies}
use Rattle.rp_row_soundness.proofs.Meanings.{meanings_agree}
use Rattle.rp_row_soundness.proofs.EachRow.{row_replies}
use Rattle.rp_row_soundness.proofs.Stops.{StopsAtLimit}
use Rattle.rp_row_soundness.proofs.RowStops.{row_stops, first_only_limits}
use Rattle.rp_row_soundness.proofs.OneAnswer.{IsOneAtMost}
use Rattle.rp_row_soundness.proofs.OneVerdict.{one_verdict}
use Rattle.rp_forms.proofs.Pieces.{nonempty_part}

-- ---- the limits

-- a row that meets the rest of the rule, or is stopped by a limit, meets the rule
meets_limits : (rest : Rule) (o : Outcome Work Reply) → IfDone o (λ r. rest r.verdicts) → StopsAtLimit o → limit_then o rest (verdicts_walked o)
meets_limits rest (done r w) h k = h
meets_limits rest (stopped limit_met w) h k = refl
meets_limits rest (stopped limit_told w) h k = absurd (cc)
meets_limits rest (stopped line_wrong w) h k = absurd (cc)
meets_limits rest (stopped taken_wrong w) h k = absurd (cc)

-- and no other lines do
only_limits : (rest : Rule) → IsOneAtMost rest → (o : Outcome Work Reply) → IfDone o (λ r. rest r.verdicts) → StopsAtLimit o → (given : List Verdict) → limit_then o rest given → given ≡ verdicts_walked o
only_limits rest one (done r w) h k given e = one given r.verdicts e h
only_limits rest one (stopped limit_met w) h k given e = e
only_limits rest one (stopped limit_told w) h k given e = absurd (cc)
only_limits rest one (stopped line_wrong w) h k given e = absurd (cc)
only_limits rest one (stopped taken_wrong w) h k given e = absurd (cc)

-- ---- what is formed of the first expression

-- the parts of the form of the first expression have members
first_nonempty : WalksAreRight IsPart first_tester → (s : State) → IsSound s → (es : List Expression) (zs : List ℤ) → AllByRecursion IsKeptExpression es → AllByRecursion IsNonemptyPart (formed_or_nothing (form_first first_tester s es zs no_work)).parts
first_nonempty right s sound [] zs kept = tt
first_nonempty right s sound (e ∷ es) zs kept =
    by_outcome (form first_tester (parts_in s) e no_work) (right.forms (parts_in s) (sets_in s) (meanings_agree IsPart s sound) e kept.0 no_work)
  where
    with_slices : (ps : List Part) → AllByRecursion IsNonemptyPart ps → (o : Outcome Work (List Slice)) → AllByRecursion IsNonemptyPart (formed_or_nothing (after_first (λ slices. pass (record { parts = ps; slices = slices })) o)).parts
    with_slices ps h (done slices w) = h
    with_slices ps h (stopped e w) = tt

    by_outcome : (o : Outcome Work (List Part)) → IfDone o (λ made. AreOf IsPart (set_of s e) made)
        → AllByRecursion IsNonemptyPart (formed_or_nothing (after_first (λ ps. slices_at first_tester zs ps >>= (λ slices. pass (record { parts = ps; slices = slices }))) o)).parts
    by_outcome (done ps w) h = with_slices ps (all_map IsPart IsNonemptyPart (λ p k. nonempty_part p (right.tests.checked p k)) ps h.all.each) (slices_at first_tester zs ps w)
    by_outcome (stopped e w) h = tt

-- what the first certificates form is that of the walk with them
first_formed_is : (s : State) (c : Command) → first_formed s c ≡ formed_by first_tester s c no_work
unfolding first_formed
first_formed_is s c = refl

-- ---- the row

-- a walked row replies rightly
walked_right : WalksAreRight IsPart first_tester → (s : State) → IsSound s → (c : Command) → AllByRecursion IsKeptExpression (expressions_of c) → IfDone (walked s c) (Replies IsPart (change_of s c) (rule_without_limits s (first_formed s c) c))
unfolding walked
walked_right right s sound c kept =
    subst (λ f. IfDone (row first_tester s c no_work) (Replies IsPart (change_of s c) (rule_without_limits s f c))) (sym (first_formed_is s c)) (row_replies IsPart first_tester right s sound c kept no_work)

-- a walked row is stopped by limits alone
walked_stops : WalksAreRight IsPart first_tester → (s : State) → IsSound s → (c : Command) → StopsAtLimit (walked s c)
unfolding walked
walked_stops right s sound c = row_stops first_tester first_only_limits IsPart right s sound c no_work

-- the verdicts of a right reply
verdicts_right : (rule : Rule) (change : Change _) (o : Outcome Work Reply) → IfDone o (Replies IsPart change rule) → IfDone o (λ r. rule r.verdicts)
verdicts_right rule change (done r w) h = h.0
verdicts_right rule change (stopped e w) h = tt

-- the verdict of the row meets the rule, and no other does
pub row_meets_rule : WalksAreRight IsPart first_tester → RelationsExclude → PiecesAreOne → RowMeetsRule
row_meets_rule right exclude pieces s sound v line c e =
    let kept = read_expressions_are_kept_spec v line c e in
    let rest = rule_without_limits s (first_formed s c) c in
    let meets = verdicts_right rest (change_of s c) (walked s c) (walked_right right s sound c kept) in
    let stops = walked_stops right s sound c in
    let nonempty = subst (λ f. AllByRecursion IsNonemptyPart f.parts) (sym (first_formed_is s c)) (first_nonempty right s sound (expressions_of c) (heights_of c) kept) in
    (meets_limits rest (walked s c) meets stops, only_limits rest (one_verdict exclude pieces s (first_formed s c) nonempty c) (walked s c) meets stops)
