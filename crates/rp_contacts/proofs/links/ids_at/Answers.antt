use Rattle.std.proofs.Common.{ℕ, ◌<◌, ◌∷◌, [], ◌++◌, List, map, get_or, refl, sym, ap, ◌∙◌, subst, arith}
use Rattle.std.specs.List.{AllByRecursion}
use Rattle.std.proofs.lemmas.List.{map_more, take_all, length-map}
use Rattle.rp_language.specs.Name.{Label}
use Rattle.rp_history.specs.declared.lot.LotLine.{LotLine}
use Rattle.rp_history.specs.Lots.{lot_of}
use Rattle.rp_proximity.proofs.Places.{place_within}
use Rattle.rp_contacts.specs.Meets.{id_at}
use Rattle.rp_contacts.proofs.Linked.{ids_of_places}
use Rattle.rp_contacts.proofs.Numbers.{line_id}
use Rattle.rp_contacts.proofs.links.ids_at.Goals as goal

pub loop-place-preserved : goal.loop-place-preserved
loop-place-preserved c =
    let lines = c.args.lots.now in
    let lots = map lot_of lines in
    let places = c.args.places.now in
    let i = c.loop-place.place-index in
    let here = c.loop-place-test.true in
    let k = get_or places i 0 in
    let own = line_id lines k c.index-lots-place.result (place_within lines places c.requires i k here refl) c.index-lots-place.is in
    c.in_ok-push.ensures.ok
    ∙ ap (λ (x : Label). c.loop-place.ids.items ++ x ∷ []) (sym (own ∙ ap (λ (l : LotLine). l.id) c.index-lots-place.is))
    ∙ ap (λ (xs : List Label). xs ++ id_at lots k ∷ []) c.loop-place.invariant
    ∙ sym (map_more (id_at lots) places i 0 here)

pub returns : goal.returns
returns c =
    let lines = c.args.lots.now in
    let lots = map lot_of lines in
    let places = c.args.places.now in
    let past = c.loop-place-test.false in
    let within = subst (λ (n : ℕ). AllByRecursion (λ k. k < n) places) (sym (length-map lines lot_of)) c.requires in
    c.loop-place.invariant ∙ ap (λ (ks : List ℕ). map (id_at lots) ks) (take_all c.loop-place.place-index places (omega (arith, past))) ∙ sym (ids_of_places lots places within)
