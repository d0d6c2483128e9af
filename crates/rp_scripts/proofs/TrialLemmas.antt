-- The counts on the way: those of the lines so far, and of the run over what is left, are those of the whole run.
use Rattle.std.proofs.Common.{◌≡◌, ℕ, suc, ◌+◌, List, [], ◌∷◌, length, refl, sym, ap, ◌∙◌, subst, arith, add-one, length-append, count_by, cond}
use Rattle.std.specs.List.{flat_map}
use Rattle.std.proofs.lemmas.List.Sums.{sum_by-append}
use Rattle.rp_language.specs.Grammar.{Version, one}
use Rattle.rp_model.specs.commands.Verdict.{Verdict}
use Rattle.rp_model.specs.states.State.{PlainState, opening, live_lots}
use Rattle.rp_reports.specs.Text.{Answer, text_of_lines}
use Rattle.rp_reports.specs.Machine.{Running, after_line, step_answer, step_state}
use Rattle.rp_reports.specs.Made.{Run, made_script, trial_lines, run_from, with_answer, is_refusal, all_verdicts, count_proofs}
use Rattle.rp_scripts.specs.declared.counts.Counts.{Counts}
use Rattle.rp_scripts.specs.declared.counts.Summary.{Summary}
use Rattle.rp_scripts.specs.Trial.{counted, summary_lines, summary_of}

-- how many verdicts of a run are refusals
abbrev pub count_refused : Run → ℕ
count_refused r = count_by is_refusal (all_verdicts r.answers)

-- how many proof lines a run has
abbrev pub count_shown : Run → ℕ
count_shown r = count_proofs r.answers

-- what was counted before the lines that are left, and what the run over those has from the state of the machine, is what the whole run has
pub record HasCounted (all : List (List ℕ)) (machine : Running) (counts : Counts) (left : List (List ℕ)) : Type 0 where
  pub version : machine.version ≡ one
  pub lines : counts.lines + length left ≡ length all
  pub refused : counts.refused + count_by is_refusal (all_verdicts (run_from machine.state (counts.lines + 1) left).answers) ≡ count_by is_refusal (all_verdicts (run_from opening 1 all).answers)
  pub proofs : counts.proofs + count_proofs (run_from machine.state (counts.lines + 1) left).answers ≡ count_proofs (run_from opening 1 all).answers
  pub ends : (run_from machine.state (counts.lines + 1) left).state ≡ (run_from opening 1 all).state

-- at the start nothing is counted
pub HasCounted-start : (all left : List (List ℕ)) (machine : Running) → machine ≡ record { version = one; state = opening } → left ≡ all → HasCounted all machine (record { lines = 0; refused = 0; proofs = 0 }) left
HasCounted-start all left machine begun e =
    let none : Counts = record { lines = 0; refused = 0; proofs = 0 } in
    subst (HasCounted all machine none) (sym e)
    (subst (λ (m : Running). HasCounted all m none all) (sym begun) (record { version = refl; lines = omega arith; refused = omega arith; proofs = omega arith; ends = refl }))

-- a run begins with its first line
pub run_from-next : (s : PlainState) (n : ℕ) (line : List ℕ) (lines : List (List ℕ)) → run_from s n (line ∷ lines) ≡ with_answer (step_answer one s n line) (run_from (step_state one s n line) (suc n) lines)
unfolding run_from
run_from-next s n line lines = refl

-- over no lines it is over
pub run_from-end : (s : PlainState) (n : ℕ) → run_from s n [] ≡ record { answers = []; state = s }
unfolding run_from
run_from-end s n = refl

-- the run over what is left begins with its first line
begins : (s next : PlainState) (n : ℕ) (line : List ℕ) (left behind : List (List ℕ)) → left ≡ line ∷ behind → next ≡ step_state one s n line
    → run_from s n left ≡ with_answer (step_answer one s n line) (run_from next (n + 1) behind)
begins s next n line left behind e after =
    ap (run_from s n) e ∙ run_from-next s n line behind
    ∙ ap (λ (t : PlainState). with_answer (step_answer one s n line) (run_from t (suc n) behind)) (sym after)
    ∙ ap (λ (k : ℕ). with_answer (step_answer one s n line) (run_from next k behind)) (sym (add-one n))

-- the refusals of a run with one more answer before it
pub refused-before : (a : Answer) (r : Run) → count_refused (with_answer a r) ≡ count_by is_refusal a.verdicts + count_refused r
refused-before a r = sum_by-append (λ (v : Verdict). cond (is_refusal v) 1 0) a.verdicts (all_verdicts r.answers)

-- its proof lines
pub shown-before : (a : Answer) (r : Run) → count_shown (with_answer a r) ≡ length a.proofs + count_shown r
shown-before a r = length-append a.proofs (flat_map (λ (b : Answer). b.proofs) r.answers)

-- one more line
pub HasCounted-more : (all : List (List ℕ)) (machine next : Running) (counts new : Counts) (line : List ℕ) (left behind : List (List ℕ)) → HasCounted all machine counts left → left ≡ line ∷ behind
    → new ≡ counted counts (step_answer machine.version machine.state (counts.lines + 1) line) → next ≡ after_line machine (counts.lines + 1) line → HasCounted all next new behind
HasCounted-more all machine next counts new line left behind h e count after =
    let n = counts.lines + 1 in
    let a = step_answer one machine.state n line in
    let rest = run_from next.state (n + 1) behind in
    let moved : next.state ≡ step_state one machine.state n line = ap (λ (m : Running). m.state) after ∙ ap (λ (v : Version). step_state v machine.state n line) h.version in
    let run : run_from machine.state n left ≡ with_answer a rest = begins machine.state next.state n line left behind e moved in
    let refused : count_refused (run_from machine.state n left) ≡ count_by is_refusal a.verdicts + count_refused rest = ap count_refused run ∙ refused-before a rest in
    let shown : count_shown (run_from machine.state n left) ≡ length a.proofs + count_shown rest = ap count_shown run ∙ shown-before a rest in
    let counts_now : new ≡ counted counts a = count ∙ ap (λ (v : Version). counted counts (step_answer v machine.state n line)) h.version in
    subst (λ (c : Counts). HasCounted all next c behind) (sym counts_now)
    (record {
      version = ap (λ (m : Running). m.version) after ∙ h.version;
      lines = omega (arith, h.lines, ap length e);
      refused = omega (arith, h.refused, refused);
      proofs = omega (arith, h.proofs, shown);
      ends = ap (λ (r : Run). r.state) (sym run) ∙ h.ends;
    })

-- at the end the counts are those of the whole run
pub HasCounted-counts : (all left : List (List ℕ)) (machine : Running) (counts : Counts) → HasCounted all machine counts left → left ≡ [] → counts ≡ (summary_of all (run_from opening 1 all)).counts
HasCounted-counts all left machine counts h e =
    let n = counts.lines + 1 in
    let run : run_from machine.state n left ≡ record { answers = []; state = machine.state } = ap (run_from machine.state n) e ∙ run_from-end machine.state n in
    let lines : counts.lines ≡ length all = omega (arith, h.lines, ap length e) in
    let refused : counts.refused ≡ count_refused (run_from opening 1 all) = omega (arith, h.refused, ap count_refused run) in
    let proofs : counts.proofs ≡ count_shown (run_from opening 1 all) = omega (arith, h.proofs, ap count_shown run) in
    λ i. record { lines = lines i; refused = refused i; proofs = proofs i }

-- and the state is the last one
pub HasCounted-state : (all left : List (List ℕ)) (machine : Running) (counts : Counts) → HasCounted all machine counts left → left ≡ [] → machine.state ≡ (run_from opening 1 all).state
HasCounted-state all left machine counts h e =
    let n = counts.lines + 1 in
    let run : run_from machine.state n left ≡ record { answers = []; state = machine.state } = ap (run_from machine.state n) e ∙ run_from-end machine.state n in
    sym (ap (λ (r : Run). r.state) run) ∙ h.ends

-- the summary of a run whose answers are counted and whose last state is known
pub summary-counted : (all : List (List ℕ)) (state : PlainState) (counts : Counts) (live : ℕ) → counts ≡ (summary_of all (run_from opening 1 all)).counts → state ≡ (run_from opening 1 all).state → live ≡ length (live_lots state.lots)
    → record { counts = counts; live = live } ≡ summary_of all (run_from opening 1 all)
summary-counted all state counts live count ends found =
    let live_then : live ≡ length (live_lots (run_from opening 1 all).state.lots) = found ∙ ap (λ (s : PlainState). length (live_lots s.lots)) ends in
    λ i. record { counts = count i; live = live_then i }

-- the text of the lines of a summary is that of the trial
pub summary-text : (n seed : ℕ) (s : Summary) (text : List ℕ) → s ≡ summary_of (made_script n seed) (run_from opening 1 (made_script n seed)) → text ≡ text_of_lines (summary_lines s) → text ≡ text_of_lines (trial_lines n seed)
unfolding trial_lines
summary-text n seed s text e h = h ∙ ap (λ (t : Summary). text_of_lines (summary_lines t)) e
