use Rattle.std.proofs.Common.{◌≡◌, ◌+◌, ◌≤◌, length, map, ap, ◌∙◌, arith}
use Rattle.rp_proximity.specs.Near.{may_meet}
use Rattle.rp_lots.proofs.Paired.{block_counted, few_so_far, none_more}
use Rattle.rp_lots.proofs.near.count_among.Goals as goal

pub loop-rest-preserved : goal.loop-rest-preserved
loop-rest-preserved g c =
    let seen = g.T.Oracle.seen in
    let split = c.split_at.ensures in
    let back = split.back_len in
    let few = c.loop-rest.invariant.few in
    record {
      counted = block_counted (may_meet c.args.reach) seen 32 c.loop-rest.rest.now c.split_at.result.0.now c.split_at.result.1.now (map seen c.args.others.now) c.loop-rest.count c.count_with_block-count.result _ split.front split.back c.count_with_block-count.ensures c.loop-rest.invariant.counted;
      few = omega (arith, back, few);
    }

pub overflow_add-count : goal.overflow_add-count
overflow_add-count g c =
    let seen = g.T.Oracle.seen in
    let split = c.split_at.ensures in
    let few = few_so_far (may_meet c.args.reach) seen c.args.parts.now c.args.others.now (c.loop-rest.count + c.count_with_block-count.result) _ c.requires.first c.requires.second
    (block_counted (may_meet c.args.reach) seen 32 c.loop-rest.rest.now c.split_at.result.0.now c.split_at.result.1.now (map seen c.args.others.now) c.loop-rest.count c.count_with_block-count.result _ split.front split.back c.count_with_block-count.ensures c.loop-rest.invariant.counted) in
    omega (arith, few)

pub overflow_add-result : goal.overflow_add-result
overflow_add-result g c =
    let few = few_so_far (may_meet c.args.reach) g.T.Oracle.seen c.args.parts.now c.args.others.now (c.loop-rest.count + c.count_with_block.result) 0 c.requires.first c.requires.second (none_more c.loop-rest.count c.count_with_block.result _ _ c.count_with_block.ensures c.loop-rest.invariant.counted) in
    omega (arith, few)

pub returns-clause-few : goal.returns-clause-few
returns-clause-few g c = few_so_far (may_meet c.args.reach) g.T.Oracle.seen c.args.parts.now c.args.others.now (c.loop-rest.count + c.count_with_block.result) 0 c.requires.first c.requires.second (none_more c.loop-rest.count c.count_with_block.result _ _ c.count_with_block.ensures c.loop-rest.invariant.counted)
