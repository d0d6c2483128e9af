use Rattle.std.proofs.Common.{◌≡◌, ◌++◌, take}
use Rattle.rp_reports.specs.Text.{items_text, term_text}
use Rattle.rp_text.proofs.proof.write_terms.Given as goal

-- the multiples so far were appended
abbrev pub invariant-loop-term : goal.invariant-loop-term
invariant-loop-term l = l.out.items ≡ l.fn.out.items ++ items_text term_text (take l.term-index l.terms)
