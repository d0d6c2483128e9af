use Rattle.std.proofs.Common.{◌<◌, ◌+◌, ℕ, List, length, drop, get_or, sym, ap, subst, ◌∙◌}
use Rattle.std.proofs.lemmas.List.{take_rest}
use Rattle.rp_algebra.proofs.Lists.{drop_item}
use Rattle.rp_geometry.specs.searches.Search.{first_of_pairs}
use Rattle.rp_geometry.specs.searches.Elimination.{refutation_of_four}
use Rattle.rp_space.specs.Places.{bits_of}
use Rattle.rp_elim.specs.declared.sign_sets.Signs.{Signs}
use Rattle.rp_elim.specs.HeldFast.{four_in_order}
use Rattle.rp_elim.specs.SignSets.{may_be_fourth, signs_of}
use Rattle.rp_elim.proofs.SignSets.{no_fourth, signs_length, signs_at}
use Rattle.rp_elim.proofs.Walks.{none_of_empty, pairs_behind}
use Rattle.rp_elim.proofs.through.first_four_with.Goals as goal

pub bounds-signs-i : goal.bounds-signs-i
bounds-signs-i c = subst (λ (n : ℕ). c.loop-i.i < n) (sym (ap length c.requires.signs ∙ signs_length c.args.k.now c.args.qs.now)) c.loop-i-test.true

pub first_four_with_two-requires-clause-places : goal.first_four_with_two-requires-clause-places
first_four_with_two-requires-clause-places c =
    let k = c.args.k.now in
    let p = c.args.p.now.half in
    let qs = c.args.qs.now in
    let i = c.loop-i.i in
    let q = c.index-qs-i.result in
    let own = c.loop-i.invariant.own ∙ ap (signs_of k p) (drop_item qs i q c.loop-i-test.true c.index-qs-i.is) in
    let next = ap (λ (ss : List Signs). get_or ss i (record { above = 0; below = 0 })) c.requires.signs ∙ signs_at k qs i q (record { above = 0; below = 0 }) c.loop-i-test.true c.index-qs-i.is in
    c.fourth_places-places.ensures k p q (drop (i + 1) qs) own next
    ∙ ap (bits_of (may_be_fourth k p q.half)) (sym (take_rest qs (i + 1)))

pub loop-i-preserved-then-places-eq0 : goal.loop-i-preserved-then-places-eq0
loop-i-preserved-then-places-eq0 c =
    let strict = c.args.strict in
    let k = c.args.k.now in
    let p = c.args.p.now in
    let qs = c.args.qs.now in
    let i = c.loop-i.i in
    let q = c.index-qs-i.result in
    let rs = drop (i + 1) qs in
    let cons = drop_item qs i q c.loop-i-test.true c.index-qs-i.is in
    let own = c.loop-i.invariant.own ∙ ap (signs_of k p.half) cons in
    let next = ap (λ (ss : List Signs). get_or ss i (record { above = 0; below = 0 })) c.requires.signs ∙ signs_at k qs i q (record { above = 0; below = 0 }) c.loop-i-test.true c.index-qs-i.is in
    let f = four_in_order (refutation_of_four strict) k p in
    let empty = sym (c.fourth_places-places.ensures k p.half q rs own next) ∙ c.if-places-eq0.true in
    record {
      first =
          sym (pairs_behind f q rs (none_of_empty (f q) (may_be_fourth k p.half q.half) (no_fourth strict k p q) rs empty))
          ∙ sym (ap (first_of_pairs f) cons)
          ∙ c.loop-i.invariant.first;
      own = c.behind-rest.ensures k p.half q rs own;
    }
