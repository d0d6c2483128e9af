-- One walk over one tester: any fact of what a walk comes to that is kept by results, by limits and by what comes behind.
use Rattle.std.proofs.Common.{ℕ, List, Option}
use Rattle.rp_geometry.specs.Geometry.{HalfSpace}
use Rattle.rp_geometry.specs.sets.Shape.{Part}
use Rattle.rp_semantics.specs.Walk.{Stop, limit_met, Outcome, done, stopped, Walk, after_first, Tester}
use Rattle.rp_semantics.specs.Form.{join, subtract}
use Rattle.rp_semantics.specs.Compare.{is_covered}
use Rattle.rp_semantics.specs.FormLaws.{IfDone}
use Rattle.rp_language.specs.Expression.{Command}
use Rattle.rp_model.specs.states.State.{StateOf}
use Rattle.rp_model.specs.commands.Row.{row}
use Rattle.rp_parametricity.proofs.Likeness.{Anything, Likeness, MadeHas, Related}
use Rattle.rp_parametricity.proofs.Forms.{join_alike, subtract_alike}
use Rattle.rp_parametricity.proofs.Kept.{IsOther}
use Rattle.rp_parametricity.proofs.Trivial.{Any, AnyLabel, any_parts, any_state, any_command}
use Rattle.rp_parametricity.proofs.Rows.{covered_alike, row_alike}

-- a fact of what a walk comes to, that may speak of the work with which it began
pub record OutcomeFact (W : Type 0) : Type 1 where
  pub Of : {A : Type 0} → W → Outcome W A → Type 0
  pub passes : {A : Type 0} (x : A) (w : W) → Of w (done x w)
  pub limits : {A : Type 0} (w : W) → Of {A = A} w (stopped limit_met w)
  pub ends : {A B : Type 0} (e : Stop) (w v : W) → Of {A = A} w (stopped e v) → Of {A = B} w (stopped e v)
  pub goes_on : {A B : Type 0} (x : A) (w v : W) (o : Outcome W B) → Of w (done x v) → Of v o → Of w o

module _ {W : Type 0} (fact : OutcomeFact W) where
  -- the fact, and what is true of the result
  abbrev pub Fulfils : {A : Type 0} → (A → Type 0) → Walk W A → Type 0
  Fulfils Q m = (w : W) → fact.Of w (m w) × IfDone (m w) Q

  -- one walk and then the next
  pub fulfils_then : {A B : Type 0} (P : A → Type 0) (Q : B → Type 0) (w : W) (o : Outcome W A) (next : A → Walk W B) → fact.Of w o × IfDone o P → ((x : A) → P x → Fulfils Q (next x))
      → fact.Of w (after_first next o) × IfDone (after_first next o) Q
  fulfils_then P Q w (done x v) next h g = let k = g x h.1 v in (fact.goes_on x w v (next x v) h.0 k.0, k.1)
  fulfils_then P Q w (stopped e v) next h g = (fact.ends e w v h.0, tt)

  -- as a relation of a walk with any other
  unfoldable pub one_walk : Likeness W W
  one_walk = record {
    Alike = λ Q m k. Fulfils Q m;
    passes = λ Q x q w. (fact.passes x w, q);
    limits = λ Q w. (fact.limits w, tt);
    binds = λ P Q first second next other h g w. fulfils_then P Q w (first w) next (h w) g;
  }

  -- nothing is said of a result
  pub anything_done : {A : Type 0} (o : Outcome W A) → IfDone o Anything
  anything_done (done x v) = tt
  anything_done (stopped e v) = tt

  -- nothing is said of a part
  any_part_done : (o : Outcome W (Option Part)) → IfDone o (MadeHas Any)
  any_part_done (done o v) = any_parts _
  any_part_done (stopped e v) = tt

  -- the fact is true of each test
  pub record TestsFulfil (t : Tester W) : Type 0 where
    pub count : (n : ℕ) (w : W) → fact.Of w (t.count n w)
    pub strict : (cell : List HalfSpace) (w : W) → fact.Of w (t.strict cell w)
    pub weak : (cell : List HalfSpace) (w : W) → fact.Of w (t.weak cell w)
    pub part : (cell : List HalfSpace) (w : W) → fact.Of w (t.part cell w)

  module _ (t : Tester W) (tests : TestsFulfil t) where
    -- the tester with itself
    pub related : Related one_walk Any t t
    unfolding one_walk
    related = record {
      outside = λ h k. tt;
      count = λ n w. (tests.count n w, anything_done (t.count n w));
      strict = λ cell h w. (tests.strict cell w, anything_done (t.strict cell w));
      weak = λ cell h w. (tests.weak cell w, anything_done (t.weak cell w));
      part = λ cell h w. (tests.part cell w, any_part_done (t.part cell w));
    }

    -- a join
    pub join_fulfils : (ps qs : List Part) (w : W) → fact.Of w (join t ps qs w)
    unfolding one_walk
    join_fulfils ps qs w = (join_alike one_walk Any t t related ps qs (any_parts ps) (any_parts qs) w).0

    -- a difference
    pub subtract_fulfils : (ps qs : List Part) (w : W) → fact.Of w (subtract t ps qs w)
    unfolding one_walk
    subtract_fulfils ps qs w = (subtract_alike one_walk Any t t related ps qs (any_parts ps) (any_parts qs) w).0

    -- whether one list is within another
    pub covered_fulfils : (ps qs : List Part) (w : W) → fact.Of w (is_covered t ps qs w)
    unfolding one_walk
    covered_fulfils ps qs w = (covered_alike one_walk Any AnyLabel t t related ps qs (any_parts ps) (any_parts qs) w).0

    -- the row of each command but an audit and a section
    pub row_fulfils : {S : Type 0} (s : StateOf S) (c : Command) → IsOther c → (w : W) → fact.Of w (row t s c w)
    unfolding one_walk
    row_fulfils s c o w = (row_alike one_walk Any AnyLabel t t related s (any_state s) c (any_command c) o w).0
