use Rattle.std.proofs.Common.{◌+◌, ◌≤◌, ◌++◌, length, length-append, ap, subst, sym, arith, ◌∙◌}
use Rattle.rp_reports.specs.Output.{most_script_bytes}
use Rattle.rp_book.specs.Act.{HasNumbers, act_of}
use Rattle.rp_book.specs.Lines.{first_number, last_number}
use Rattle.rp_disk_book.specs.Kept.{Kept, IsKept, contents_of, with_act}
use Rattle.rp_disk_book.proofs.KeptLemmas.{IsKept-push}
use Rattle.rp_disk_book.proofs.open.push_entry.Goals as goal

pub returns-clause-kept : goal.returns-clause-kept
returns-clause-kept c =
    let script = c.args.contents.now.script.items in
    let lines = c.in-Some.lines.now in
    let act = act_of c.in_ok-act.act in
    let same = c.deref.ensures.value in
    let short : length script + length lines ≤ most_script_bytes = omega (arith, ap length same) in
    let numbers : HasNumbers script lines act =
    record {
      ended = c.has_end.ensures c.if-not-has_end.false;
      first = c.in_ok-act.ensures.first ∙ c.line_numbers-first.ensures.first ∙ ap (λ s. first_number s lines) same;
      last = c.in_ok-act.ensures.last ∙ c.line_numbers-first.ensures.last ∙ ap (λ s. last_number (s ++ lines)) same;
      end = omega (arith, c.in_ok-act.ensures.end, ap length same, length-append script lines);
    } in
    let fits : act.last ≤ length script + length lines = omega (arith, c.in_ok-act.ensures.last, c.line_numbers-first.ensures.fits, ap length same) in
    subst IsKept (sym (c.push.ensures ∙ ap (λ (k : Kept). with_act k act lines) c.in_ok-reserve.ensures.same))
    (IsKept-push (contents_of c.args.contents.now) act lines c.requires numbers.ended short numbers fits)
