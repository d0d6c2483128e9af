use Rattle.std.proofs.Common.{Bool, List, ℕ, [], ◌∷◌, ◌++◌, cond, take, filter, get_or, refl, ap, sym, ◌∙◌, append-nil}
use Rattle.std.proofs.lemmas.List.Elements.{filter_more}
use Rattle.rp_proximity.specs.Near.{is_other_at}
use Rattle.rp_proximity.proofs.Places.{place_within, other_line}
use Rattle.rp_lotindex.proofs.near.others.Goals as goal
use Rattle.rp_lotindex.proofs.near.others.Goals.{then-is_other+in_ok-push, else-is_other}

pub loop-place-preserved : goal.loop-place-preserved
loop-place-preserved c =
    let test = is_other_at c.args.layer.now c.args.id.now c.args.history.now in
    let places = c.args.places.now in
    let i = c.loop-place.place-index in
    let k = get_or places i 0 in
    let here = c.loop-place-test.true in
    let tested = other_line c.args.layer.now c.args.id.now c.args.history.now c.lots-lots.result.now c.lots-lots.ensures.value k c.index-lots-place.result (place_within c.args.history.now places c.requires i k here refl) c.index-lots-place.is in
    let more = filter_more test places i 0 here in
    elim c.if-is_other.branch [
      | then-is_other+in_ok-push w ↦
          ap (λ l. l.items) w.list-is ∙ w.in_ok-push.ensures.ok ∙ ap (λ (ks : List ℕ). ks ++ k ∷ []) c.loop-place.invariant
          ∙ ap (λ (b : Bool). filter test (take i places) ++ cond b (k ∷ []) []) (sym w.if-is_other.true ∙ c.is_other.ensures ∙ sym tested) ∙ sym more
      | else-is_other w ↦
          ap (λ l. l.items) w.list-is ∙ c.loop-place.invariant ∙ sym (append-nil (filter test (take i places)))
          ∙ ap (λ (b : Bool). filter test (take i places) ++ cond b (k ∷ []) []) (sym w.if-is_other.false ∙ c.is_other.ensures ∙ sym tested) ∙ sym more
    ]
