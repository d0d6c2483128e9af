use Rattle.std.proofs.Common.{◌≡◌, ◌≤◌, ℕ, List, length, drop, IfOk, ap, sym, subst, ◌∙◌}
use Rattle.rp_language.specs.Name.{Label}
use Rattle.rp_book_service.specs.Layers.{layers_of}
use Rattle.rp_book_service.proofs.LayerLemmas.{first_layers-inserted, length-inserted}
use Rattle.rp_book_service.proofs.layers.gather_both.Goals as goal

pub split_at-requires : goal.split_at-requires
split_at-requires c =
    subst (λ (n : ℕ). n ≤ length c.as_slice.result.now) (sym c.len-known.ensures.len)
    (length-inserted c.gather.new.layers.keys c.as_slice.result.now (layers_of c.args.lines.now) (c.as_slice.ensures.keys ∙ c.in_ok-gather-2.ensures))

pub returns : goal.returns
returns c =
    let all = c.as_slice.result.now in
    let first = first_layers-inserted c.args.script.now c.args.lines.now c.args.layers.now.keys c.gather.new.layers.keys all c.requires c.in_ok-gather.ensures (c.as_slice.ensures.keys ∙ c.in_ok-gather-2.ensures) in
    subst (λ (ls : List Label). IfOk c.from_slice.result (λ v. v.items ≡ ls)) (c.split_at.ensures.back ∙ ap (λ (n : ℕ). drop n all) c.len-known.ensures.len ∙ first) c.from_slice.ensures.items
