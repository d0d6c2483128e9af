-- Rows of a tester that is stopped by limits alone are stopped by limits alone.
use Rattle.std.proofs.Common.{◌≡◌, List, refl}
use Rattle.rp_geometry.specs.sets.Shape.{Part}
use Rattle.rp_semantics.specs.Walk.{limit_met, Outcome, done, stopped, Tester}
use Rattle.rp_semantics.specs.Form.{join}
use Rattle.rp_semantics.specs.Compare.{is_covered}
use Rattle.rp_language.specs.Expression.{Command}
use Rattle.rp_model.specs.states.State.{StateOf}
use Rattle.rp_model.specs.commands.Row.{row}
use Rattle.rp_parametricity.proofs.Kept.{IsOther}
use Rattle.rp_parametricity.proofs.OneTester.{OutcomeFact, TestsFulfil, join_fulfils, covered_fulfils, row_fulfils}

-- where the walk is stopped, it is by a limit
abbrev pub StopsAtLimit : {W A : Type 0} → Outcome W A → Type 0
StopsAtLimit (done x w) = Unit {0}
StopsAtLimit (stopped e w) = e ≡ limit_met

-- as a fact of walks
abbrev pub stopping : (W : Type 0) → OutcomeFact W
stopping W = record {
  Of = λ w o. StopsAtLimit o;
  passes = λ x w. tt;
  limits = λ w. refl;
  ends = λ e w v h. h;
  goes_on = λ x w v o h g. g;
}

module _ {W : Type 0} (t : Tester W) (limits : TestsFulfil (stopping W) t) where
  -- a join
  pub join_stops : (ps qs : List Part) (w : W) → StopsAtLimit (join t ps qs w)
  join_stops = join_fulfils (stopping W) t limits

  -- an inclusion
  pub covered_stops : (ps qs : List Part) (w : W) → StopsAtLimit (is_covered t ps qs w)
  covered_stops = covered_fulfils (stopping W) t limits

  -- the row of each command but an audit and a section
  pub row_stops : {S : Type 0} (s : StateOf S) (c : Command) → IsOther c → (w : W) → StopsAtLimit (row t s c w)
  row_stops = row_fulfils (stopping W) t limits

-- ---- what a walk takes, by any relation of the work before and behind

-- where a walk ends
abbrev pub work_after : {W A : Type 0} → Outcome W A → W
work_after (done x u) = u
work_after (stopped e u) = u

module _ {W : Type 0} (Took : W → W → Type 0) (nothing : (w : W) → Took w w) (both : (w v u : W) → Took w v → Took v u → Took w u) where
  -- as a fact of walks
  abbrev pub taking : OutcomeFact W
  taking = record {
    Of = λ w o. Took w (work_after o);
    passes = λ x w. nothing w;
    limits = λ w. nothing w;
    ends = λ e w v h. h;
    goes_on = λ x w v o h g. both w v (work_after o) h g;
  }

  module _ (t : Tester W) (takes : TestsFulfil taking t) where
    -- a join
    pub join_takes : (ps qs : List Part) (w : W) → Took w (work_after (join t ps qs w))
    join_takes = join_fulfils taking t takes

    -- the row of each command but an audit and a section
    pub row_takes : {S : Type 0} (s : StateOf S) (c : Command) → IsOther c → (w : W) → Took w (work_after (row t s c w))
    row_takes = row_fulfils taking t takes
