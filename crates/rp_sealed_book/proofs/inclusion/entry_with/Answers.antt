use Rattle.std.proofs.Common.{◌≡◌, ◌+◌, Some, length, ap, sym, refl, rules, ◌∙◌, arith, option_map}
use Rattle.std.specs.List.{slice_range}
use Rattle.std.proofs.lemmas.Option.{slice_get_past, slice_get_read}
use Rattle.rp_book.specs.Act.{act_of}
use Rattle.rp_seal.specs.Act.{entry_of}
use Rattle.rp_sealed_book.specs.Log.{entry_at}
use Rattle.rp_sealed_book.proofs.ProofLemmas.{entry-at-place}
use Rattle.rp_sealed_book.proofs.inclusion.entry_with.Goals as goal

pub returns-in_err-act : goal.returns-in_err-act
returns-in_err-act c =
    let number : c.args.number ≡ c.in_ok-place.place + 1 = search rules in
    let none = slice_get_past c.args.acts.now c.in_ok-place.place (omega (arith, c.in_err-act.ensures.lookup.3)) in
    ap (option_map entry_of) c.from_residual-in_err-act.ensures ∙ sym (entry-at-place c.args.script.now c.args.acts.now c.in_ok-place.place c.args.number number ∙ ap (option_map _) none)

pub returns : goal.returns
returns c =
    let acts = c.args.acts.now in
    let act = c.in_ok-act.act.now in
    let number : c.args.number ≡ c.in_ok-place.place + 1 = search rules in
    let lookup = c.in_ok-act.ensures.lookup in
    let found = slice_get_read acts (length acts) c.in_ok-place.place act refl lookup.3.0 lookup.1 in
    ap Some (c.entry_at.ensures ∙ ap (λ s. entry_at c.args.number (slice_range c.args.script.now s act.end) (act_of act)) c.start_of.ensures)
    ∙ sym (entry-at-place c.args.script.now acts c.in_ok-place.place c.args.number number ∙ ap (option_map _) found)
