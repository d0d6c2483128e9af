use Rattle.std.proofs.Common.{◌≡◌, ◌∷◌, [], ◌++◌, length, take, get_or, slice_get, Option, Some, refl, sym, ap, ◌∙◌, subst, arith, length-append}
use Rattle.std.specs.Prelude.{IfSome, filter_map}
use Rattle.std.specs.List.{cons_option}
use Rattle.std.proofs.lemmas.List.{take_more}
use Rattle.std.proofs.lemmas.List.Elements.{filter_map-append}
use Rattle.std.proofs.lemmas.Option.{slice_get_read}
use Rattle.rp_language.specs.Name.{Label}
use Rattle.rp_access.specs.Route.{Numbers}
use Rattle.rp_proximity.specs.Near.{AreWithin}
use Rattle.rp_proximity.proofs.Places.{place_within}
use Rattle.rp_rows.proofs.numbered.named_chain.Goals as goal

pub loop-number-preserved : goal.loop-number-preserved
loop-number-preserved c =
    let ids = c.args.ids.now in
    let numbers = c.items-number-items.result.now in
    let i = c.loop-number.number-index in
    let here = c.loop-number-test.true in
    let n = get_or numbers i 0 in
    let x = c.index-ids-number.result in
    let within : AreWithin ids numbers = subst (AreWithin ids) (sym c.items-number-items.ensures) (subst (λ (o : Option Numbers). IfSome o (λ r. AreWithin ids r.items)) c.in-Some.is c.requires.within) in
    let named : slice_get ids n ≡ Some x = slice_get_read ids (length ids) n x refl (place_within ids numbers within i n here refl) c.index-ids-number.is in
    let made = c.in_ok-push.ensures.ok in
    let longer = ap length made ∙ length-append c.loop-number.names.items (x ∷ []) in
    let many = c.loop-number.invariant.many in
    record {
      so_far = made ∙ ap (λ xs. xs ++ x ∷ []) c.loop-number.invariant.so_far
          ∙ sym (ap (filter_map (slice_get ids)) (take_more numbers i 0 here) ∙ filter_map-append (slice_get ids) (take i numbers) (n ∷ [])
          ∙ ap (λ (o : Option Label). filter_map (slice_get ids) (take i numbers) ++ cons_option o []) named);
      many = omega (arith, longer, many);
    }
