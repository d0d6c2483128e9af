use Rattle.std.proofs.Common.{◌≡◌, ◌∷◌, [], ◌++◌, ℕ, ◌≤◌, List, length, get_or, set, sym, ap, ◌∙◌, arith}
use Rattle.rp_lists.specs.Listed.{Listed}
use Rattle.rp_unionfind.specs.Lists.{lists_of, with_number}
use Rattle.std.proofs.lemmas.Result.{on_ok_weaker}
use Rattle.rp_unionfind.proofs.Put.{put_known, put_new}
use Rattle.rp_unionfind.proofs.groups.put.Goals as goal
use Rattle.rp_unionfind.proofs.groups.put.Goals.{then-place-len+in_ok-push, else-place-len}

-- a new list, where the code has the place and the lists in other words
new_list : (lists now : List (Listed ℕ)) (place k : ℕ) (fresh old new : Listed ℕ) → place ≡ length lists → now ≡ lists ++ fresh ∷ [] → fresh.items ≡ [] → old ≡ get_or now place old → new.items ≡ old.items ++ k ∷ []
    → lists_of (set now place new) ≡ with_number place k (lists_of lists)
new_list lists now place k fresh old new p n f e m =
    let g : old ≡ get_or (lists ++ fresh ∷ []) (length lists) old = e ∙ (λ i. get_or (n i) (p i) old) in
    (λ i. lists_of (set (n i) (p i) new)) ∙ put_new lists k fresh old new f g m ∙ (λ i. with_number (sym p i) k (lists_of lists))

-- a list that is there
known_list : (lists now : List (Listed ℕ)) (place k : ℕ) (old new : Listed ℕ) → place ≤ length lists → (place ≡ length lists → ⊥) → now ≡ lists → old ≡ get_or now place old → new.items ≡ old.items ++ k ∷ []
    → lists_of (set now place new) ≡ with_number place k (lists_of lists)
known_list lists now place k old new h o n e m =
    let g : old ≡ get_or lists place old = e ∙ (λ i. get_or (n i) place old) in
    (λ i. lists_of (set (n i) place new)) ∙ put_known lists place k old new (omega (arith, h, o)) g m

pub returns : goal.returns
returns c =
    elim c.if-place-len.branch [
      | then-place-len+in_ok-push w ↦
          let len = c.args.groups.now.ok.0 in
          on_ok_weaker c.push-2.result
          (λ m. new_list c.args.groups.now.items c.if-place-len.groups.items c.args.place c.args.number w.new.result c.index_mut.result.now c.push-2.new.self (w.if-place-len.true ∙ c.len.ensures ∙ len)
          (ap (λ v. v.items) w.groups-is ∙ w.in_ok-push.ensures.items) w.new.ensures c.index_mut.ensures.value m)
          c.push-2.ensures.ok
      | else-place-len w ↦
          on_ok_weaker c.push-2.result
          (λ m. known_list c.args.groups.now.items c.if-place-len.groups.items c.args.place c.args.number c.index_mut.result.now c.push-2.new.self c.requires (λ e. w.if-place-len.false (e ∙ sym (c.len.ensures ∙ c.args.groups.now.ok.0)))
          (ap (λ v. v.items) w.groups-is) c.index_mut.ensures.value m)
          c.push-2.ensures.ok
    ]
