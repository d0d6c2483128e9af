use Rattle.std.proofs.Common.{◌≡◌, ℕ, ◌+◌, List, [], ◌∷◌, ◌++◌, map, take, length, Some, slice_get, refl, sym, ap, ◌∙◌, subst, arith}
use Rattle.std.specs.Prelude.{option_map}
use Rattle.std.proofs.lemmas.List.{length-map, length-take, take_all, take_more}
use Rattle.std.proofs.lemmas.Option.{get_or_from_slice_get, slice_get-map, slice_get_read, slice_get_within}
use Rattle.rp_language.specs.Name.{Label}
use Rattle.rp_history.specs.declared.lot.Birth.{Birth}
use Rattle.rp_lotindex.specs.Indexed.{index_of, IsTakenOut, OthersStay, AreRemoved}
use Rattle.rp_lotindex.proofs.Layers.{removed_first, removed_next}
use Rattle.rp_lotindex.proofs.boxes.LotBoxes.remove_all.Goals as goal

-- the layers of births
abbrev layers_of : List Birth → List Label
layers_of births = map (λ b. b.layer) births

-- one layer more
one_more : (xs : List Label) (i : ℕ) (x : Label) → slice_get xs i ≡ Some x → take (i + 1) xs ≡ take i xs ++ x ∷ []
one_more xs i x at = take_more xs i x (slice_get_within xs i x at) ∙ ap (λ (z : Label). take i xs ++ z ∷ []) (get_or_from_slice_get xs i x x at)

pub loop-i-init : goal.loop-i-init
loop-i-init c = removed_first (index_of c.args.self.now) c.args.first

pub loop-i-preserved : goal.loop-i-preserved
loop-i-preserved c =
    let l = c.loop-i in
    let births = c.args.births.now in
    let all = layers_of births in
    let birth = c.index-births-i.result in
    let here = c.loop-i-test.true in
    let many = length-map births (λ (b : Birth). b.layer) in
    let some = length-take l.i all in
    let at : slice_get all l.i ≡ Some birth.layer = slice_get-map (λ (b : Birth). b.layer) births l.i ∙ ap (option_map (λ (b : Birth). b.layer)) (slice_get_read births (length births) l.i birth refl here c.index-births-i.is) in
    subst (AreRemoved (index_of c.args.self.now) (index_of c.remove.new.self) c.args.first) (sym (one_more all l.i birth.layer at))
    (removed_next (index_of c.args.self.now) (index_of l.self) (index_of c.remove.new.self) c.args.first (c.args.first + l.i) (take l.i all) birth.layer l.invariant (omega (arith, here, many, some))
    (subst (λ (b : Birth). IsTakenOut (index_of l.self b.layer) (index_of c.remove.new.self b.layer) (c.args.first + l.i)) (sym c.index-births-i.is) c.remove.ensures.gone)
    (subst (λ (b : Birth). OthersStay b.layer (index_of l.self) (index_of c.remove.new.self)) (sym c.index-births-i.is) c.remove.ensures.others))

pub returns : goal.returns
returns c =
    let l = c.loop-i in
    let births = c.args.births.now in
    let behind = c.loop-i-test.false in
    let many = length-map births (λ (b : Birth). b.layer) in
    subst (AreRemoved (index_of c.args.self.now) (index_of l.self) c.args.first) (take_all l.i (layers_of births) (omega (arith, behind, many))) l.invariant
