use Rattle.std.proofs.Common.{◌≡◌, ◌≤◌, ℕ, Bool, List, [], eqb, filter, length, sym, subst}
use Rattle.std.specs.Prelude.{Result, IfOk}
use Rattle.std.specs.List.Retain.{IsFiltered, DiffersFromLast}
use Rattle.std.specs.List.Sorted.{IsStrictlySortedBy, IsSorted, IsPermutation}
use Rattle.std.specs.Ordering.{nat_cmp}
use Rattle.std.proofs.lemmas.Result.{IfOk-weaker}
use Rattle.rp_lists.specs.Listed.{Listed}
use Rattle.rp_lotindex.specs.Indexed.{index_of}
use Rattle.rp_proximity.specs.Near.{is_other_at, AreWithin}
use Rattle.rp_lotindex.specs.Near.{places_met, AreOthers, AreNear}
use Rattle.rp_lotindex.proofs.Passed.{in_order, others_are, others_near, others_places}
use Rattle.rp_lotindex.proofs.Reached.{AreInOrder, met_within}
use Rattle.rp_lotindex.proofs.boxes.LotBoxes.near.Goals as goal

-- the places that are met, sorted and each left once, as they are read
ordered : (all met sorted left places : List ℕ) → met ≡ all → IsPermutation met sorted → IsSorted nat_cmp sorted → IsFiltered (DiffersFromLast eqb) [] sorted left → places ≡ left → AreInOrder all places
ordered all met sorted left places is moved rises once read = subst (λ (ms : List ℕ). AreInOrder ms places) is (subst (AreInOrder met) (sym read) (in_order met sorted left moved rises once))

-- what is true of those that are left of the places is true of the answer
answered : {E : Type 0} (P : List ℕ → Type 0) (test : ℕ → Bool) (result : Result (Listed ℕ) E) (places : List ℕ) → P (filter test places) → IfOk result (λ list. list.items ≡ filter test places) → IfOk result (λ list. P list.items)
answered P test result places h = IfOk-weaker result _ _ (λ list g. subst P (sym g) h)

pub others-requires : goal.others-requires
others-requires g c =
    let a = c.args in
    let boxes = g.B.Bounded.boxes a.boxes.now in
    met_within a.reach a.from (index_of a.self.now a.layer.now) boxes c.deref.result.now a.history.now
    (ordered (places_met a.reach a.from (index_of a.self.now a.layer.now) boxes) c.in_ok-places.places.items c.sort_unstable.new.self.items c.dedup.new.self.items c.deref.result.now c.in_ok-places.ensures c.sort_unstable.ensures.permutation c.sort_unstable.ensures.sorted c.dedup.ensures.filtered c.deref.ensures.value) c.requires.behind

pub returns-clause-exact : goal.returns-clause-exact
returns-clause-exact g c =
    let a = c.args in
    let boxes = g.B.Bounded.boxes a.boxes.now in
    answered (AreOthers a.reach boxes a.layer.now a.id.now a.from a.history.now (index_of a.self.now)) (is_other_at a.layer.now a.id.now a.history.now) c.others.result c.deref.result.now
    (others_are a.reach boxes a.layer.now a.id.now a.from a.history.now (index_of a.self.now) c.deref.result.now
    (ordered (places_met a.reach a.from (index_of a.self.now a.layer.now) boxes) c.in_ok-places.places.items c.sort_unstable.new.self.items c.dedup.new.self.items c.deref.result.now c.in_ok-places.ensures c.sort_unstable.ensures.permutation c.sort_unstable.ensures.sorted c.dedup.ensures.filtered c.deref.ensures.value))
    c.others.ensures

pub returns-clause-near : goal.returns-clause-near
returns-clause-near g c =
    let a = c.args in
    let boxes = g.B.Bounded.boxes a.boxes.now in
    answered (AreNear a.reach boxes a.layer.now a.id.now a.from a.history.now (index_of a.self.now)) (is_other_at a.layer.now a.id.now a.history.now) c.others.result c.deref.result.now
    (others_near a.reach boxes a.layer.now a.id.now a.from a.history.now (index_of a.self.now) c.deref.result.now c.requires.from
    (ordered (places_met a.reach a.from (index_of a.self.now a.layer.now) boxes) c.in_ok-places.places.items c.sort_unstable.new.self.items c.dedup.new.self.items c.deref.result.now c.in_ok-places.ensures c.sort_unstable.ensures.permutation c.sort_unstable.ensures.sorted c.dedup.ensures.filtered c.deref.ensures.value))
    c.others.ensures

pub returns-clause-within : goal.returns-clause-within
returns-clause-within g c =
    let a = c.args in
    let boxes = g.B.Bounded.boxes a.boxes.now in
    answered (AreWithin a.history.now) (is_other_at a.layer.now a.id.now a.history.now) c.others.result c.deref.result.now
    (others_places a.reach boxes a.layer.now a.id.now a.from a.history.now (index_of a.self.now a.layer.now) c.deref.result.now c.requires.behind
    (ordered (places_met a.reach a.from (index_of a.self.now a.layer.now) boxes) c.in_ok-places.places.items c.sort_unstable.new.self.items c.dedup.new.self.items c.deref.result.now c.in_ok-places.ensures c.sort_unstable.ensures.permutation c.sort_unstable.ensures.sorted c.dedup.ensures.filtered c.deref.ensures.value)).within
    c.others.ensures

pub returns-clause-rising : goal.returns-clause-rising
returns-clause-rising g c =
    let a = c.args in
    let boxes = g.B.Bounded.boxes a.boxes.now in
    answered (IsStrictlySortedBy nat_cmp) (is_other_at a.layer.now a.id.now a.history.now) c.others.result c.deref.result.now
    (others_places a.reach boxes a.layer.now a.id.now a.from a.history.now (index_of a.self.now a.layer.now) c.deref.result.now c.requires.behind
    (ordered (places_met a.reach a.from (index_of a.self.now a.layer.now) boxes) c.in_ok-places.places.items c.sort_unstable.new.self.items c.dedup.new.self.items c.deref.result.now c.in_ok-places.ensures c.sort_unstable.ensures.permutation c.sort_unstable.ensures.sorted c.dedup.ensures.filtered c.deref.ensures.value)).rising
    c.others.ensures

pub returns-clause-few : goal.returns-clause-few
returns-clause-few g c =
    let a = c.args in
    let boxes = g.B.Bounded.boxes a.boxes.now in
    answered (λ (ks : List ℕ). length ks ≤ length a.history.now) (is_other_at a.layer.now a.id.now a.history.now) c.others.result c.deref.result.now
    (others_places a.reach boxes a.layer.now a.id.now a.from a.history.now (index_of a.self.now a.layer.now) c.deref.result.now c.requires.behind
    (ordered (places_met a.reach a.from (index_of a.self.now a.layer.now) boxes) c.in_ok-places.places.items c.sort_unstable.new.self.items c.dedup.new.self.items c.deref.result.now c.in_ok-places.ensures c.sort_unstable.ensures.permutation c.sort_unstable.ensures.sorted c.dedup.ensures.filtered c.deref.ensures.value)).few
    c.others.ensures
