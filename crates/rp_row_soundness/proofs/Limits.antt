-- Where the row of a command meets a limit, the refusals that stand before the limit do not hold of the sets.
use Rattle.std.proofs.Common.{◌≡◌, sym, subst}
use Rattle.std.specs.Prelude.{Option, Some, None, option_map}
use Rattle.std.specs.List.{AllByRecursion}
use Rattle.rp_language.specs.Name.{Label}
use Rattle.rp_language.specs.Expression.{Command, IsKeptExpression, expressions_of, first_unknown_among, said}
use Rattle.rp_geometry.specs.sets.Shape.{Part}
use Rattle.rp_geometry.specs.parts.Parts.{IsPart}
use Rattle.rp_semantics.specs.Walk.{Tester, no_work, first_tester}
use Rattle.rp_semantics.specs.FormLaws.{WalksAreRight}
use Rattle.rp_model.specs.states.State.{State, parts_in, sets_in}
use Rattle.rp_model.specs.states.Sound.{IsSoundWith}
use Rattle.rp_model.specs.commands.Verdict.{unknown}
use Rattle.rp_model.specs.commands.Reply.{check}
use Rattle.rp_model.specs.commands.Row.{row_of, row}
use Rattle.rp_model.specs.commands.Rule.{walked}
use Rattle.rp_row_soundness.specs.Limits.{PassedBy, LimitComesAfterRefusals}
use Rattle.rp_language.proofs.ReadBounds.{read_expressions_are_kept_spec}
use Rattle.rp_row_soundness.proofs.Meanings.{unknown_among_same}
use Rattle.rp_row_soundness.proofs.Stopped.{IfStopped, stopped_weaker}
use Rattle.rp_row_soundness.proofs.Commands.{meets}

module _ {W : Type 0} (P : Part → Type 0) (t : Tester W) (right : WalksAreRight P t) (s : State) (sound : IsSoundWith P s) where
  -- the row of a command all of whose labels stand for something
  row_of_passed : (c : Command) → AllByRecursion IsKeptExpression (expressions_of c) → (w : W) → IfStopped (row_of t s c w) (PassedBy t s c w)
  row_of_passed (said verb os) kept w = (meets verb).passed P t right s sound os kept w

  -- the labels, and then the rest of the row
  row_passed : (c : Command) → AllByRecursion IsKeptExpression (expressions_of c) → (w : W) → IfStopped (row t s c w) ((first_unknown_among (sets_in s) (expressions_of c) ≡ None) × PassedBy t s c w)
  row_passed c kept w = by_label (first_unknown_among (parts_in s) (expressions_of c)) (unknown_among_same s (expressions_of c))
    where
      by_label : (u : Option Label) → u ≡ first_unknown_among (sets_in s) (expressions_of c)
          → IfStopped (check (option_map unknown u) (row_of t s c) w) ((first_unknown_among (sets_in s) (expressions_of c) ≡ None) × PassedBy t s c w)
      by_label None e = stopped_weaker (PassedBy t s c w) ((first_unknown_among (sets_in s) (expressions_of c) ≡ None) × PassedBy t s c w) (row_of t s c w) (row_of_passed c kept w) (λ d. (sym e, d))
      by_label (Some x) e = tt

-- where the walked row meets a limit, the refusals that stand before the limit do not hold
pub limit_comes_after_refusals : WalksAreRight IsPart first_tester → LimitComesAfterRefusals
unfolding walked
limit_comes_after_refusals right s sound v line c e w stop =
    subst (λ o. IfStopped o ((first_unknown_among (sets_in s) (expressions_of c) ≡ None) × PassedBy first_tester s c no_work)) stop
    (row_passed IsPart first_tester right s sound c (read_expressions_are_kept_spec v line c e) no_work)
