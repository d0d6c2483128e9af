use Rattle.std.proofs.Common.{◌≡◌, Bor, List, ℕ, ap, map, sym, subst, ◌∙◌, option_map}
use Rattle.std.specs.Prelude.{slice_get}
use Rattle.std.specs.Slice.{IsGetRangeResult}
use Rattle.rp_book.specs.Act.{HasActs, act_of}
use Rattle.rp_book.proofs.SliceLemmas.{found-lines, no-lines, slice_by_ends}
use Rattle.rp_book.proofs.act.act_lines.Goals as goal

pub returns-in_err-act : goal.returns-in_err-act
returns-in_err-act c =
    let script = c.args.script.now in
    let acts = c.args.acts.now in
    let none : (h : HasActs script (map act_of acts)) → option_map (λ (lines : Bor (List ℕ)). lines.now) c.from_residual.result ≡ slice_get h.lines c.args.place = λ h.
    ap (option_map (λ (lines : Bor (List ℕ)). lines.now)) c.from_residual.ensures ∙ sym (no-lines script acts c.args.place h c.in_err-act.ensures.lookup) in
    record { lines = none; slices = slice_by_ends script (map act_of acts) c.args.place _ none }

pub returns : goal.returns
returns c =
    let script = c.args.script.now in
    let acts = c.args.acts.now in
    let act = c.in_ok-act.act.now in
    let lookup = c.in_ok-act.ensures.lookup in
    let found : (h : HasActs script (map act_of acts)) → option_map (λ (lines : Bor (List ℕ)). lines.now) c.get-2.result ≡ slice_get h.lines c.args.place = λ h.
    found-lines script acts c.args.place act c.get-2.result h lookup.3.0 lookup.1
    (subst (λ n. IsGetRangeResult script n act.end c.get-2.result) c.start_of.ensures c.get-2.ensures.lookup) in
    record { lines = found; slices = slice_by_ends script (map act_of acts) c.args.place _ found }
