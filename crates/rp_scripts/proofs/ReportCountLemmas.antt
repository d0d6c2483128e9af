-- What is counted in the answers of a run is counted in the lines of its report.
use Rattle.std.proofs.Common.{◌≡◌, ℕ, suc, ◌+◌, Bool, true, false, List, [], ◌∷◌, ◌++◌, map, length, count_by, cond, refl, sym, ap, ap₂, ◌∙◌, subst, arith}
use Rattle.std.proofs.lemmas.List.Sums.{sum_by-append, sum_by-cons}
use Rattle.rp_geometry.specs.sets.Relation.{Relation, DC, EC, PO, EQ, TPP, NTPP, TPPi, NTPPi}
use Rattle.rp_geometry.specs.sections.Slice.{Slice, ring, flat}
use Rattle.rp_geometry.specs.searches.ProofLine.{ProofLine, in_line, out_line, at_line, apart_line, drop_line, box_line}
use Rattle.rp_language.specs.Grammar.{one, Reading, blank, command, bad, reading}
use Rattle.rp_model.specs.commands.Verdict.{Verdict, says_yes, says_no, says_ok, refused}
use Rattle.rp_model.specs.states.State.{State, PlainState, parts_only}
use Rattle.rp_model.specs.states.Sound.{IsSound, IsLaterThan}
use Rattle.rp_reports.specs.Machine.{step_answer, step_state, lines_from}
use Rattle.rp_reports.specs.Made.{Run, run_from, is_refusal}
use Rattle.rp_reports.specs.Output.{is_refused_line}
use Rattle.rp_reports.specs.Report.{IsAnswerTo}
use Rattle.rp_reports.specs.Text.{Answer, echo_text, proof_text, verdict_text, answer_lines, lines_with}
use Rattle.rp_reports.specs.laws.RunLaws.{StepsKeepSoundness, StepIsComputed}
use Rattle.rp_reports.specs.laws.StateLaws.{next_state, state_after}
use Rattle.rp_scripts.specs.TrialReport.{is_proof_line}
use Rattle.rp_scripts.proofs.RefusalLemmas.{is_refused_line-echo, is_refused_line-proof}
use Rattle.rp_scripts.proofs.SpokenLemmas.{IsSpoken, rule_speaks}
use Rattle.rp_scripts.proofs.TrialLemmas.{count_refused, count_shown, run_from-next, run_from-end, refused-before, shown-before}

-- ---- counts over lists of lines

-- a count over two lists
count_both : (p : List ℕ → Bool) (xs ys : List (List ℕ)) → count_by p (xs ++ ys) ≡ count_by p xs + count_by p ys
count_both p xs ys = sum_by-append (λ (l : List ℕ). cond (p l) 1 0) xs ys

-- a count over one more line
count_next : (p : List ℕ → Bool) (x : List ℕ) (xs : List (List ℕ)) → count_by p (x ∷ xs) ≡ cond (p x) 1 0 + count_by p xs
count_next p x xs = sum_by-cons (λ (l : List ℕ). cond (p l) 1 0) x xs

-- one more line that does not count
count_other : (p : List ℕ → Bool) (x : List ℕ) (xs : List (List ℕ)) → p x ≡ false → count_by p (x ∷ xs) ≡ count_by p xs
count_other p x xs e = count_next p x xs ∙ ap (λ (b : Bool). cond b 1 0 + count_by p xs) e ∙ (let none : 0 + count_by p xs ≡ count_by p xs = omega arith in none)

-- images of which none counts
count_none : {A : Type 0} (p : List ℕ → Bool) (text : A → List ℕ) → ((x : A) → p (text x) ≡ false) → (xs : List A) → count_by p (map text xs) ≡ 0
count_none p text other [] = refl
count_none p text other (x ∷ xs) = count_other p (text x) (map text xs) (other x) ∙ count_none p text other xs

-- images of which each counts
count_each : {A : Type 0} (p : List ℕ → Bool) (text : A → List ℕ) → ((x : A) → p (text x) ≡ true) → (xs : List A) → count_by p (map text xs) ≡ length xs
count_each p text each [] = refl
count_each p text each (x ∷ xs) =
    let next : 1 + length xs ≡ suc (length xs) = omega arith in
    count_next p (text x) (map text xs) ∙ ap₂ (λ (b : Bool) (n : ℕ). cond b 1 0 + n) (each x) (count_each p text each xs) ∙ next

-- ---- echoes, proof lines and verdict lines

-- no echo is a proof line
echo_not_proof : (n : ℕ) (echo : List ℕ) → is_proof_line (echo_text n echo) ≡ false
echo_not_proof n [] = refl
echo_not_proof n (b ∷ bs) = refl

-- each proof line is one
proof_is_proof : (l : ProofLine) → is_proof_line (proof_text l) ≡ true
proof_is_proof (in_line points) = refl
proof_is_proof (out_line terms) = refl
proof_is_proof (at_line p) = refl
proof_is_proof (apart_line terms) = refl
proof_is_proof (drop_line h terms) = refl
proof_is_proof (box_line b) = refl

-- no relation is a refusal
relation_not_refused : (r : Relation) → is_refused_line (verdict_text (Verdict.relation r)) ≡ false
relation_not_refused DC = refl
relation_not_refused EC = refl
relation_not_refused PO = refl
relation_not_refused EQ = refl
relation_not_refused TPP = refl
relation_not_refused NTPP = refl
relation_not_refused TPPi = refl
relation_not_refused NTPPi = refl

-- no slice is a refusal
slice_not_refused : (s : Slice) → is_refused_line (verdict_text (Verdict.slice s)) ≡ false
slice_not_refused (ring steps) = refl
slice_not_refused (flat terms) = refl

-- the verdict line of a refusal says so, and no other one
verdict_refused : (v : Verdict) → is_refused_line (verdict_text v) ≡ is_refusal v
verdict_refused says_yes = refl
verdict_refused says_no = refl
verdict_refused says_ok = refl
verdict_refused (Verdict.relation r) = relation_not_refused r
verdict_refused (Verdict.pieces k) = refl
verdict_refused (Verdict.piece ks) = refl
verdict_refused (Verdict.parts k) = refl
verdict_refused (Verdict.part hs) = refl
verdict_refused (Verdict.parcel x) = refl
verdict_refused Verdict.nobody = refl
verdict_refused (Verdict.neighbours k) = refl
verdict_refused (Verdict.clear k) = refl
verdict_refused (Verdict.parcels k) = refl
verdict_refused (Verdict.lots k) = refl
verdict_refused (Verdict.lot l) = refl
verdict_refused (Verdict.sections k) = refl
verdict_refused (Verdict.slice s) = slice_not_refused s
verdict_refused (Verdict.access k) = refl
verdict_refused Verdict.no_access = refl
verdict_refused (Verdict.level k x) = refl
verdict_refused (refused r) = refl

-- no verdict line is a proof line
verdict_not_proof : (v : Verdict) → is_proof_line (verdict_text v) ≡ false
verdict_not_proof says_yes = refl
verdict_not_proof v = refl

-- the refusals among verdict lines
verdicts_refused : (vs : List Verdict) → count_by is_refused_line (map verdict_text vs) ≡ count_by is_refusal vs
verdicts_refused [] = refl
verdicts_refused (v ∷ vs) =
    count_next is_refused_line (verdict_text v) (map verdict_text vs)
    ∙ ap₂ (λ (b : Bool) (n : ℕ). cond b 1 0 + n) (verdict_refused v) (verdicts_refused vs)
    ∙ sym (sum_by-cons (λ (w : Verdict). cond (is_refusal w) 1 0) v vs)

-- ---- an answer

-- the lines of an answer have as many refusals and as many proof lines as the answer
record IsCounted (a : Answer) : Type 0 where
  pub refused : count_by is_refused_line (answer_lines false a) ≡ count_by is_refusal a.verdicts
  pub proofs : count_by is_proof_line (answer_lines false a) ≡ length a.proofs

-- an answer with a verdict
spoken_refused : (a : Answer) (v : Verdict) (vs : List Verdict) → count_by is_refused_line (lines_with false a (v ∷ vs)) ≡ count_by is_refusal (v ∷ vs)
spoken_refused a v vs =
    count_other is_refused_line (echo_text a.number a.echo) (map proof_text a.proofs ++ map verdict_text (v ∷ vs)) (is_refused_line-echo a.number a.echo)
    ∙ count_both is_refused_line (map proof_text a.proofs) (map verdict_text (v ∷ vs))
    ∙ ap₂ ◌+◌ (count_none is_refused_line proof_text is_refused_line-proof a.proofs) (verdicts_refused (v ∷ vs))
    ∙ (let none : 0 + count_by is_refusal (v ∷ vs) ≡ count_by is_refusal (v ∷ vs) = omega arith in none)

-- its proof lines
spoken_proofs : (a : Answer) (v : Verdict) (vs : List Verdict) → count_by is_proof_line (lines_with false a (v ∷ vs)) ≡ length a.proofs
spoken_proofs a v vs =
    count_other is_proof_line (echo_text a.number a.echo) (map proof_text a.proofs ++ map verdict_text (v ∷ vs)) (echo_not_proof a.number a.echo)
    ∙ count_both is_proof_line (map proof_text a.proofs) (map verdict_text (v ∷ vs))
    ∙ ap₂ ◌+◌ (count_each is_proof_line proof_text proof_is_proof a.proofs) (count_none is_proof_line verdict_text verdict_not_proof (v ∷ vs))
    ∙ (let e : length a.proofs + 0 ≡ length a.proofs = omega arith in e)

-- an answer with a verdict is counted
spoken_counted : (number : ℕ) (echo : List ℕ) (proofs : List ProofLine) (vs : List Verdict) → IsSpoken vs → IsCounted (record { number = number; echo = echo; proofs = proofs; verdicts = vs })
spoken_counted number echo proofs [] h = absurd h
spoken_counted number echo proofs (v ∷ vs) h =
    let a : Answer = record { number = number; echo = echo; proofs = proofs; verdicts = v ∷ vs } in
    record { refused = spoken_refused a v vs; proofs = spoken_proofs a v vs }

-- every answer to a line is counted
answer_counted : (s : State) (n : ℕ) (line : List ℕ) (r : Reading) (a : Answer) → IsAnswerTo s n line r a → IsCounted a
answer_counted s n line blank a h = subst IsCounted (sym h) (record { refused = refl; proofs = refl })
answer_counted s n line (bad f) a h = subst IsCounted (sym h) (spoken_counted _ _ _ _ tt)
answer_counted s n line (command c) a h = spoken_counted a.number a.echo a.proofs a.verdicts (rule_speaks s c a.verdicts h.verdicts)

-- ---- a run

-- the counts of a run of the first version are those of its report, and it ends in the state
pub record RunIsCounted (s : PlainState) (n : ℕ) (lines : List (List ℕ)) (end : PlainState) : Type 0 where
  pub refused : count_by is_refused_line (lines_from one false s n lines) ≡ count_refused (run_from s n lines)
  pub proofs : count_by is_proof_line (lines_from one false s n lines) ≡ count_shown (run_from s n lines)
  pub ends : (run_from s n lines).state ≡ end

-- no lines
none_counted : (s : PlainState) (n : ℕ) → RunIsCounted s n [] s
none_counted s n = let run = sym (run_from-end s n) in record { refused = ap count_refused run; proofs = ap count_shown run; ends = ap (λ (r : Run). r.state) (sym run) }

-- one more line
more_counted : (s : PlainState) (n : ℕ) (line : List ℕ) (lines : List (List ℕ)) (end : PlainState) → IsCounted (step_answer one s n line) → RunIsCounted (step_state one s n line) (suc n) lines end → RunIsCounted s n (line ∷ lines) end
more_counted s n line lines end first h =
    let a = step_answer one s n line in
    let next = step_state one s n line in
    let run = sym (run_from-next s n line lines) in
    record {
      refused = count_both is_refused_line (answer_lines false a) (lines_from one false next (suc n) lines) ∙ ap₂ ◌+◌ first.refused h.refused ∙ sym (refused-before a (run_from next (suc n) lines)) ∙ ap count_refused run;
      proofs = count_both is_proof_line (answer_lines false a) (lines_from one false next (suc n) lines) ∙ ap₂ ◌+◌ first.proofs h.proofs ∙ sym (shown-before a (run_from next (suc n) lines)) ∙ ap count_shown run;
      ends = ap (λ (r : Run). r.state) (sym run) ∙ h.ends;
    }

-- the counts of a run from a sound state are those of its report
pub run_counted : StepIsComputed → StepsKeepSoundness → (lines : List (List ℕ)) (s : State) → IsSound s → (n : ℕ) → IsLaterThan n s → RunIsCounted (parts_only s) n lines (parts_only (state_after one n s lines))
run_counted computed keeps [] s sound n late = none_counted (parts_only s) n
run_counted computed keeps (line ∷ lines) s sound n late =
    let step = computed one s sound n late line in
    let kept = keeps one s sound n late line in
    more_counted (parts_only s) n line lines (parts_only (state_after one n s (line ∷ lines)))
    (answer_counted s n line (reading one line) (step_answer one (parts_only s) n line) ((step.0 (step_answer one (parts_only s) n line)).1 refl))
    (subst (λ (u : PlainState). RunIsCounted u (suc n) lines (parts_only (state_after one n s (line ∷ lines)))) step.1 (run_counted computed keeps lines (next_state one n s line) kept.0 (suc n) kept.1))
