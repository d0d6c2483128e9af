use Rattle.std.proofs.Common.{◌∙◌, arith}
use Rattle.rp_geometry.specs.searches.Elimination.{refutation_of_four}
use Rattle.rp_elim.specs.HeldFast.{four_in_order}
use Rattle.rp_elim.specs.SignSets.{may_be_fourth}
use Rattle.rp_elim.proofs.SignSets.{no_fourth}
use Rattle.rp_elim.proofs.Walks.{end_of_walk, next_below, fewer_left, found_next, not_found_next}
use Rattle.rp_elim.proofs.through.first_four_with_triple.Goals as goal

pub bounds-rs-place : goal.bounds-rs-place
bounds-rs-place c = next_below (four_in_order (refutation_of_four c.args.strict) c.args.k.now c.args.p.now c.args.q.now) (may_be_fourth c.args.k.now c.args.p.now.half c.args.q.now.half) (no_fourth c.args.strict c.args.k.now c.args.p.now c.args.q.now) c.args.rs.now c.args.places c.requires.places c.loop-place.from c.in-Some.place c.in-Some.ensures.some

pub returns-then-four_if_one_sign : goal.returns-then-four_if_one_sign
returns-then-four_if_one_sign c =
    found_next (four_in_order (refutation_of_four c.args.strict) c.args.k.now c.args.p.now c.args.q.now) (may_be_fourth c.args.k.now c.args.p.now.half c.args.q.now.half) (no_fourth c.args.strict c.args.k.now c.args.p.now c.args.q.now) c.args.rs.now c.args.places c.requires.places c.loop-place.from c.in-Some.place c.in-Some.ensures.some c.index-rs-place.result c.index-rs-place.is c.four_if_one_sign.new.found c.if-four_if_one_sign.ensures
    ∙ c.loop-place.invariant.first

pub loop-place-smaller : goal.loop-place-smaller
loop-place-smaller c = fewer_left (four_in_order (refutation_of_four c.args.strict) c.args.k.now c.args.p.now c.args.q.now) (may_be_fourth c.args.k.now c.args.p.now.half c.args.q.now.half) (no_fourth c.args.strict c.args.k.now c.args.p.now c.args.q.now) c.args.rs.now c.args.places c.requires.places c.loop-place.from c.in-Some.place c.in-Some.ensures.some

pub loop-place-preserved : goal.loop-place-preserved
loop-place-preserved c = record {
  within = (let h = next_below (four_in_order (refutation_of_four c.args.strict) c.args.k.now c.args.p.now c.args.q.now) (may_be_fourth c.args.k.now c.args.p.now.half c.args.q.now.half) (no_fourth c.args.strict c.args.k.now c.args.p.now c.args.q.now) c.args.rs.now c.args.places c.requires.places c.loop-place.from c.in-Some.place c.in-Some.ensures.some in omega (arith, h));
  first =
      not_found_next (four_in_order (refutation_of_four c.args.strict) c.args.k.now c.args.p.now c.args.q.now) (may_be_fourth c.args.k.now c.args.p.now.half c.args.q.now.half) (no_fourth c.args.strict c.args.k.now c.args.p.now c.args.q.now) c.args.rs.now c.args.places c.requires.places c.loop-place.from c.in-Some.place c.in-Some.ensures.some c.index-rs-place.result c.index-rs-place.is c.if-four_if_one_sign.ensures
      ∙ c.loop-place.invariant.first;
}

pub returns : goal.returns
returns c = end_of_walk (four_in_order (refutation_of_four c.args.strict) c.args.k.now c.args.p.now c.args.q.now) (may_be_fourth c.args.k.now c.args.p.now.half c.args.q.now.half) (no_fourth c.args.strict c.args.k.now c.args.p.now c.args.q.now) c.args.rs.now c.args.places c.requires.places c.loop-place.from c.in_default.ensures.none ∙ c.loop-place.invariant.first
