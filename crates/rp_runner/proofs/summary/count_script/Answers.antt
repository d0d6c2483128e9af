use Rattle.std.proofs.Common.{sym, subst, arith}
use Rattle.rp_model.specs.states.State.{state_of_parts}
use Rattle.rp_model.specs.states.Sound.{IsLaterThan}
use Rattle.rp_reports.specs.Machine.{Running}
use Rattle.rp_reports.specs.Made.{made_script}
use Rattle.rp_scripts.specs.Made.{made_line}
use Rattle.rp_scripts.proofs.MadeLemmas.{length-made}
use Rattle.rp_scripts.proofs.TrialLemmas.{HasCounted-start, HasCounted-more, HasCounted-counts, HasCounted-state}
use Rattle.rp_runner.proofs.summary.count_script.Goals as goal

pub loop-line-init : goal.loop-line-init
loop-line-init g c =
    record {
      bounded = record { refused = omega arith; proofs = omega arith };
      later = subst (λ (m : Running). IsLaterThan 1 (state_of_parts m.state)) (sym c.requires) (record { births = tt; ends = tt });
      counted = HasCounted-start (made_script c.args.building.storeys c.args.building.seed) c.new-script.result c.args.machine.now c.requires c.new-script.ensures;
    }

pub count_made-requires-clause-few : goal.count_made-requires-clause-few
count_made-requires-clause-few g c κs within =
    omega (arith, c.loop-line.invariant.counted.lines, length-made c.args.building.storeys c.args.building.seed, c.args.building.few)

pub loop-line-preserved : goal.loop-line-preserved
loop-line-preserved g c =
    record {
      bounded = c.in_ok-count_made.ensures.bounded;
      later = c.in_ok-count_made.ensures.later;
      counted =
          HasCounted-more (made_script c.args.building.storeys c.args.building.seed) c.loop-line.machine c.count_made.new.machine c.loop-line.counts c.count_made.new.counts
          (made_line c.in-Some.line) c.loop-line.script c.next_line.new.self c.loop-line.invariant.counted c.in-Some.ensures.next
          c.in_ok-count_made.ensures.counted c.in_ok-count_made.ensures.state;
    }

pub returns-clause-counts : goal.returns-clause-counts
returns-clause-counts g c =
    HasCounted-counts (made_script c.args.building.storeys c.args.building.seed) c.loop-line.script c.loop-line.machine c.loop-line.counts c.loop-line.invariant.counted c.in_default.ensures.end

pub returns-clause-state : goal.returns-clause-state
returns-clause-state g c =
    HasCounted-state (made_script c.args.building.storeys c.args.building.seed) c.loop-line.script c.loop-line.machine c.loop-line.counts c.loop-line.invariant.counted c.in_default.ensures.end
