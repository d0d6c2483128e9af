use Rattle.std.proofs.Common.{◌-◌, ◌*◌, ◌%◌, ◌^◌, length, ◌∙◌, arith}
use Rattle.rp_geometry.specs.searches.Elimination.{refutation_of_three}
use Rattle.rp_elim.specs.HeldFast.{three_in_order}
use Rattle.rp_elim.specs.SignSets.{is_flat}
use Rattle.rp_elim.proofs.SignSets.{no_third, flat_rest}
use Rattle.rp_elim.proofs.Walks.{end_of_walk, next_below, fewer_left, found_next, not_found_next}
use Rattle.rp_elim.proofs.through.first_three_with.Goals as goal

pub overflow_sub-flat-2 : goal.overflow_sub-flat-2
overflow_sub-flat-2 c = (flat_rest c.args.k.now c.args.p.now.half c.args.qs.now c.args.signs c.requires.few c.requires.signs).first

pub overflow_sub-flat-3 : goal.overflow_sub-flat-3
overflow_sub-flat-3 c = (flat_rest c.args.k.now c.args.p.now.half c.args.qs.now c.args.signs c.requires.few c.requires.signs).second

pub bounds-qs-place : goal.bounds-qs-place
bounds-qs-place c = next_below (three_in_order (refutation_of_three c.args.strict) c.args.k.now c.args.p.now) (is_flat c.args.k.now c.args.p.now.half) (no_third c.args.strict c.args.k.now c.args.p.now) c.args.qs.now (1 * 2 ^ length c.args.qs.now % 2 ^ 128 - 1 - c.args.signs.above - c.args.signs.below) (flat_rest c.args.k.now c.args.p.now.half c.args.qs.now c.args.signs c.requires.few c.requires.signs).rest c.loop-place.from c.in-Some.place c.in-Some.ensures.some

pub returns-then-three_in_order : goal.returns-then-three_in_order
returns-then-three_in_order c =
    found_next (three_in_order (refutation_of_three c.args.strict) c.args.k.now c.args.p.now) (is_flat c.args.k.now c.args.p.now.half) (no_third c.args.strict c.args.k.now c.args.p.now) c.args.qs.now (1 * 2 ^ length c.args.qs.now % 2 ^ 128 - 1 - c.args.signs.above - c.args.signs.below) (flat_rest c.args.k.now c.args.p.now.half c.args.qs.now c.args.signs c.requires.few c.requires.signs).rest c.loop-place.from c.in-Some.place c.in-Some.ensures.some c.index-qs-place.result c.index-qs-place.is c.three_in_order.new.found c.if-three_in_order.ensures
    ∙ c.loop-place.invariant.first

pub loop-place-smaller : goal.loop-place-smaller
loop-place-smaller c = fewer_left (three_in_order (refutation_of_three c.args.strict) c.args.k.now c.args.p.now) (is_flat c.args.k.now c.args.p.now.half) (no_third c.args.strict c.args.k.now c.args.p.now) c.args.qs.now (1 * 2 ^ length c.args.qs.now % 2 ^ 128 - 1 - c.args.signs.above - c.args.signs.below) (flat_rest c.args.k.now c.args.p.now.half c.args.qs.now c.args.signs c.requires.few c.requires.signs).rest c.loop-place.from c.in-Some.place c.in-Some.ensures.some

pub loop-place-preserved : goal.loop-place-preserved
loop-place-preserved c = record {
  within = (let h = next_below (three_in_order (refutation_of_three c.args.strict) c.args.k.now c.args.p.now) (is_flat c.args.k.now c.args.p.now.half) (no_third c.args.strict c.args.k.now c.args.p.now) c.args.qs.now (1 * 2 ^ length c.args.qs.now % 2 ^ 128 - 1 - c.args.signs.above - c.args.signs.below) (flat_rest c.args.k.now c.args.p.now.half c.args.qs.now c.args.signs c.requires.few c.requires.signs).rest c.loop-place.from c.in-Some.place c.in-Some.ensures.some in omega (arith, h));
  first =
      not_found_next (three_in_order (refutation_of_three c.args.strict) c.args.k.now c.args.p.now) (is_flat c.args.k.now c.args.p.now.half) (no_third c.args.strict c.args.k.now c.args.p.now) c.args.qs.now (1 * 2 ^ length c.args.qs.now % 2 ^ 128 - 1 - c.args.signs.above - c.args.signs.below) (flat_rest c.args.k.now c.args.p.now.half c.args.qs.now c.args.signs c.requires.few c.requires.signs).rest c.loop-place.from c.in-Some.place c.in-Some.ensures.some c.index-qs-place.result c.index-qs-place.is c.if-three_in_order.ensures
      ∙ c.loop-place.invariant.first;
}

pub returns : goal.returns
returns c = end_of_walk (three_in_order (refutation_of_three c.args.strict) c.args.k.now c.args.p.now) (is_flat c.args.k.now c.args.p.now.half) (no_third c.args.strict c.args.k.now c.args.p.now) c.args.qs.now (1 * 2 ^ length c.args.qs.now % 2 ^ 128 - 1 - c.args.signs.above - c.args.signs.below) (flat_rest c.args.k.now c.args.p.now.half c.args.qs.now c.args.signs c.requires.few c.requires.signs).rest c.loop-place.from c.in_default.ensures.none ∙ c.loop-place.invariant.first
