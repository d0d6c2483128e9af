use Rattle.std.proofs.Common.{◌≡◌, ◌<◌, [], ◌∷◌, ◌++◌, length, get_or, refl, ap, ◌∙◌, arith}
use Rattle.std.proofs.lemmas.List.{length-append}
use Rattle.rp_history.specs.declared.lot.LotLine.{LotLine}
use Rattle.rp_proximity.proofs.Places.{place_within}
use Rattle.rp_contacts.proofs.Meeting.{id_taken, id_passed}
use Rattle.rp_contacts.proofs.touching.contact_ids.Goals as goal
use Rattle.rp_contacts.proofs.touching.contact_ids.Goals.{then-met-i+in_ok-push, else-met-i}

pub loop-i-preserved : goal.loop-i-preserved
loop-i-preserved c =
    let lines = c.args.lots.now in
    let places = c.args.places.now in
    let met = c.args.met.now in
    let i = c.loop-i.i in
    let ids = c.loop-i.ids.items in
    let here = c.loop-i-test.true in
    let each = c.requires.each in
    let there : i < length met = omega (arith, here, each) in
    let k = get_or places i 0 in
    let read : LotLine → LotLine = λ line. get_or lines k line in
    let few = c.loop-i.invariant.1 in (
      elim c.if-met-i.branch [
        | then-met-i+in_ok-push w ↦
            id_taken lines places met i k 0 _ here there refl (read w.index-lots-places.result) ids _ _ w.if-met-i.true (place_within lines places c.requires.within i k here refl) (ap read w.index-lots-places.is) (ap (λ v. v.items) w.ids-is ∙ w.in_ok-push.ensures.ok) c.loop-i.invariant.0
        | else-met-i w ↦ id_passed lines places met i k 0 _ here there refl ids _ _ w.if-met-i.false (ap (λ v. v.items) w.ids-is) c.loop-i.invariant.0
      ],
      elim c.if-met-i.branch [
        | then-met-i+in_ok-push w ↦ let more : length c.if-met-i.ids.items ≡ length (ids ++ (read w.index-lots-places.result).id ∷ []) = ap length (ap (λ v. v.items) w.ids-is ∙ w.in_ok-push.ensures.ok) in let one = length-append ids ((read w.index-lots-places.result).id ∷ []) in omega (arith, more, one, few)
        | else-met-i w ↦ let same : length c.if-met-i.ids.items ≡ length ids = ap length (ap (λ v. v.items) w.ids-is) in omega (arith, same, few)
      ],
    )
