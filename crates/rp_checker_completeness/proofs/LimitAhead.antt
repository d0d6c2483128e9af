-- Where the report tells of a limit next, the check makes no further test and takes no line.
use Rattle.std.proofs.Common.{◌≡◌, ℕ, Bool, true, false, ◌⊎◌, ⊎_elim, inl, inr, List, [], ◌∷◌, Option, Some, None, refl, sym, ap, ◌∙◌, subst}
use Rattle.rp_geometry.specs.Geometry.{HalfSpace}
use Rattle.rp_geometry.specs.searches.ProofLine.{ProofLine}
use Rattle.rp_semantics.specs.Walk.{Stop, limit_told, line_wrong, taken_wrong, Outcome, done, stopped, Walk}
use Rattle.rp_language.specs.Expression.{Command}
use Rattle.rp_model.specs.states.State.{PlainState}
use Rattle.rp_model.specs.commands.Verdict.{limit}
use Rattle.rp_reports.specs.ProofText.{proof_read}
use Rattle.rp_reports.specs.Check.{Trail, refusal_line, tells_limit, nothing_due, next_proof, taken, without, dropped_by, follow_drops, strict_by_line, line_tester}
use Rattle.rp_parametricity.proofs.Likeness.{Anything}
use Rattle.rp_parametricity.proofs.Kept.{StateHas, CommandHas}
use Rattle.rp_language.specs.Name.{Label}
use Rattle.rp_checker_completeness.proofs.ReadNames.{Named}
use Rattle.rp_checker_completeness.proofs.Due.{Due, DueHas, due_row, due_alike}
use Rattle.rp_checker_completeness.proofs.Commands.{Any, any_state, any_command, AnyLabel}
use Rattle.rp_checker_completeness.proofs.Beside.{IsReader, StaysLost, FoundStays, Knowledge, Near, SameOutcome, Beside, besides, related_beside, audited_beside}

-- ---- rows beside each other

module _ (number : ℕ) (one two : List (List ℕ)) (known : Knowledge number two) where
  -- the row of each command up to its slices, over the check's tester
  pub row_beside : (N : Label → Type 0) (s : PlainState) → StateHas Any N s → (c : Command) → CommandHas Any N c → Beside number one two known (DueHas Any N) (due_row line_tester s c) (due_row line_tester s c)
  unfolding besides
  row_beside N s h c k = due_alike (besides number one two known) Any N line_tester line_tester (related_beside number one two known) (audited_beside number one two known) s h c k

-- ---- a limit is told next

-- the line that tells of a limit
abbrev pub limit_line : List ℕ
limit_line = refusal_line limit

-- a stop other than at a wrong line
abbrev pub IsNoWrong : Stop → Type 0
IsNoWrong line_wrong = ⊥
IsNoWrong taken_wrong = ⊥
IsNoWrong _ = Unit {0}

-- it is no proof line
limit_no_proof : proof_read limit_line ≡ None
unfolding proof_read
limit_no_proof = refl

-- what is known where it stands next
pub limit_ahead : (number : ℕ) (rest : List (List ℕ)) → Knowledge number (limit_line ∷ rest)
limit_ahead number rest = record {
  Lost = λ t. t.lines ≡ limit_line ∷ rest;
  LostStop = λ s t. IsNoWrong s × (t.lines ≡ limit_line ∷ rest);
  enters = λ t m e. e;
  counted = λ t n e. e;
  met = λ t e. (tt, e);
  reads = λ Q f r t e. here Q f r t e;
  found = λ cell t e. nothing_found cell t e;
  drops = λ kept t e. nothing_dropped kept t e;
}
  where
    nothing_told : {A : Type 0} (Q : A → Type 0) (t : Trail) → t.lines ≡ limit_line ∷ rest → StaysLost (λ t. t.lines ≡ limit_line ∷ rest) (λ s t. IsNoWrong s × (t.lines ≡ limit_line ∷ rest)) Q (nothing_due {A = A} t)
    nothing_told {A} Q t e = subst (λ b. StaysLost (λ t. t.lines ≡ limit_line ∷ rest) (λ s t. IsNoWrong s × (t.lines ≡ limit_line ∷ rest)) Q (elim b as (λ _. Outcome Trail A) [ true ↦ stopped limit_told t | false ↦ stopped line_wrong t ])) (sym (ap tells_limit e)) (tt, e)

    here : {A : Type 0} (Q : A → Type 0) (f : Option ProofLine → Walk Trail A) → IsReader Q f → (t : Trail) → t.lines ≡ limit_line ∷ rest → StaysLost (λ t. t.lines ≡ limit_line ∷ rest) (λ s t. IsNoWrong s × (t.lines ≡ limit_line ∷ rest)) Q (f (next_proof t.lines) t)
    here Q f r t e =
        subst (λ o. StaysLost (λ t. t.lines ≡ limit_line ∷ rest) (λ s t. IsNoWrong s × (t.lines ≡ limit_line ∷ rest)) Q (f o t)) (sym (ap next_proof e ∙ limit_no_proof))
        (subst (StaysLost (λ t. t.lines ≡ limit_line ∷ rest) (λ s t. IsNoWrong s × (t.lines ≡ limit_line ∷ rest)) Q) (sym (r.none t)) (nothing_told Q t e))

    none_found : (t : Trail) → t.lines ≡ limit_line ∷ rest → FoundStays (λ t. t.lines ≡ limit_line ∷ rest) (λ s t. IsNoWrong s × (t.lines ≡ limit_line ∷ rest)) (nothing_due {A = Bool} t)
    none_found t e = subst (λ b. FoundStays (λ t. t.lines ≡ limit_line ∷ rest) (λ s t. IsNoWrong s × (t.lines ≡ limit_line ∷ rest)) (elim b as (λ _. Outcome Trail Bool) [ true ↦ stopped limit_told t | false ↦ stopped line_wrong t ])) (sym (ap tells_limit e)) (tt, e)

    nothing_found : (cell : List HalfSpace) (t : Trail) → t.lines ≡ limit_line ∷ rest → FoundStays (λ t. t.lines ≡ limit_line ∷ rest) (λ s t. IsNoWrong s × (t.lines ≡ limit_line ∷ rest)) (strict_by_line cell (next_proof t.lines) t)
    nothing_found cell t e = subst (λ o. FoundStays (λ t. t.lines ≡ limit_line ∷ rest) (λ s t. IsNoWrong s × (t.lines ≡ limit_line ∷ rest)) (strict_by_line cell o t)) (sym (ap next_proof e ∙ limit_no_proof)) (none_found t e)

    nothing_dropped : (kept : List HalfSpace) (t : Trail) → t.lines ≡ limit_line ∷ rest → StaysLost (λ t. t.lines ≡ limit_line ∷ rest) (λ s t. IsNoWrong s × (t.lines ≡ limit_line ∷ rest)) Anything (follow_drops t.lines kept t)
    nothing_dropped kept t e =
        subst (λ ls. StaysLost (λ t. t.lines ≡ limit_line ∷ rest) (λ s t. IsNoWrong s × (t.lines ≡ limit_line ∷ rest)) Anything (follow_drops ls kept t)) (sym e)
        (subst (λ o. StaysLost (λ t. t.lines ≡ limit_line ∷ rest) (λ s t. IsNoWrong s × (t.lines ≡ limit_line ∷ rest)) Anything (elim (dropped_by kept o) as (λ _. Outcome Trail (List HalfSpace)) [ Some h ↦ follow_drops rest (without h kept) (taken t) | None ↦ done kept t ])) (sym limit_no_proof) (tt, e))

-- what a walk comes to that has not gone wrong, with the line of a limit and these lines ahead
abbrev pub AtLimit : List (List ℕ) → Outcome Trail Due → Type 0
AtLimit rest o = StaysLost (λ t. t.lines ≡ limit_line ∷ rest) (λ z t. IsNoWrong z × (t.lines ≡ limit_line ∷ rest)) Anything o

-- whatever is true of the result
at_limit : (Q : Due → Type 0) (rest : List (List ℕ)) (o : Outcome Trail Due) → StaysLost (λ t. t.lines ≡ limit_line ∷ rest) (λ z t. IsNoWrong z × (t.lines ≡ limit_line ∷ rest)) Q o → AtLimit rest o
at_limit Q rest (done r v) l = (tt, l.1)
at_limit Q rest (stopped z v) l = l

-- the row of a command, where a limit is told next
pub row_at_limit : (s : PlainState) (c : Command) (rest : List (List ℕ)) (t : Trail) → t.lines ≡ limit_line ∷ rest → AtLimit rest (due_row line_tester s c t)
unfolding limit_ahead
row_at_limit s c rest t e = at_limit (DueHas Any AnyLabel) rest (due_row line_tester s c t) ((row_beside 0 [] (limit_line ∷ rest) (limit_ahead 0 rest) AnyLabel s (any_state s) c (any_command c)).lost t e)

-- the row of a command over lines that are shared, and then the line of a limit: what is known there, or the same outcome
pub row_near_limit : (number : ℕ) (one rest : List (List ℕ)) (s : PlainState) → StateHas Any Named s → (c : Command) → CommandHas Any Named c → (t u : Trail) → Near number one (limit_line ∷ rest) (limit_ahead number rest) t u
    → AtLimit rest (due_row line_tester s c u) ⊎ SameOutcome number one (limit_line ∷ rest) (limit_ahead number rest) (DueHas Any Named) (due_row line_tester s c t) (due_row line_tester s c u)
unfolding limit_ahead
row_near_limit number one rest s h c k t u n = ⊎_elim (λ l. inl (at_limit (DueHas Any Named) rest (due_row line_tester s c u) l)) inr ((row_beside number one (limit_line ∷ rest) (limit_ahead number rest) Named s h c k).near t u n)
