-- The counts in a report, answer by answer.
use Rattle.std.specs.Prelude.{ℕ, ◌+◌, ◌*◌, ◌^◌, ◌≤◌, List, [], ◌∷◌, length, codes, count_by}
use Rattle.rp_model.specs.states.State.{live_lots}
use Rattle.rp_reports.specs.Text.{Answer}
use Rattle.rp_reports.specs.Made.{Run, is_refusal, all_verdicts, count_proofs, told_count}
use Rattle.rp_scripts.specs.declared.counts.Counts.{Counts}
use Rattle.rp_scripts.specs.declared.counts.Summary.{Summary}

-- the counts with one more answer
abbrev pub counted : Counts → Answer → Counts
counted c a = record { lines = c.lines + 1; refused = c.refused + count_by is_refusal a.verdicts; proofs = c.proofs + length a.proofs }

-- an answer adds less than 2^64 to each count
pub record AreBounded (c : Counts) : Type 0 where
  pub refused : c.refused ≤ 2 ^ 64 * c.lines
  pub proofs : c.proofs ≤ 2 ^ 64 * c.lines

-- the summary of the run over some lines
abbrev pub summary_of : List (List ℕ) → Run → Summary
summary_of lines r =
    record { counts = record { lines = length lines; refused = count_by is_refusal (all_verdicts r.answers); proofs = count_proofs r.answers }; live = length (live_lots r.state.lots) }

-- the lines of a summary
abbrev pub summary_lines : Summary → List (List ℕ)
summary_lines s = told_count (codes "lines") s.counts.lines ∷ told_count (codes "refused") s.counts.refused ∷ told_count (codes "live") s.live ∷ told_count (codes "proofs") s.counts.proofs ∷ []
