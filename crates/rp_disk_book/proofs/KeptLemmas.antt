-- An act that comes to what a book has in memory.
use Rattle.std.proofs.Common.{ℕ, ◌+◌, ◌≤◌, List, [], ◌∷◌, length, refl, arith, length-append}
use Rattle.rp_reports.specs.Output.{most_script_bytes}
use Rattle.rp_reports.specs.Report.{script_body, script_lines, script_version}
use Rattle.rp_book.specs.Act.{Told, HasNumbers}
use Rattle.rp_book.specs.Lines.{HasEnd}
use Rattle.rp_book.proofs.ActLemmas.{HasActs-push}
use Rattle.rp_book.proofs.ScriptLemmas.{HasEnd-behind}
use Rattle.rp_disk_book.specs.Kept.{Kept, IsKept, with_act}

-- no line
pub IsKept-start : IsKept (record { script = []; acts = []; lines = 0 })
unfolding script_body script_version script_lines
IsKept-start = record {
  end = λ h. absurd (omega (arith, h));
  short = omega arith;
  last = refl;
  fits = omega arith;
  acts = record { lines = []; whole = refl; numbers = tt };
  few = omega arith;
}

-- an act with its lines
pub IsKept-push : (k : Kept) (act : Told) (lines : List ℕ) → IsKept k → HasEnd lines → length k.script + length lines ≤ most_script_bytes → HasNumbers k.script lines act → act.last ≤ length k.script + length lines
    → IsKept (with_act k act lines)
IsKept-push k act lines h end short numbers fits =
    let long = length-append k.script lines in
    let many = length-append k.acts (act ∷ []) in
    record {
      end = λ _. (HasEnd-behind k.script lines end).1;
      short = omega (arith, long, short);
      last = numbers.last;
      fits = omega (arith, long, fits);
      acts = HasActs-push k.script k.acts act lines h.acts numbers;
      few = omega (arith, long, many, h.few, end.0);
    }
