use Rattle.std.proofs.Common.{◌+◌, ◌&&◌, sym, ◌∙◌, arith}
use Rattle.std.specs.List.{list_all}
use Rattle.rp_geometry.specs.sections.Ring.{is_turn}
use Rattle.rp_cert.proofs.Walks.{turns_left, turns_more}
use Rattle.rp_cert.proofs.ring.are_turns.Goals as goal

pub returns-then-not-is_turn : goal.returns-then-not-is_turn
returns-then-not-is_turn c =
    let steps = c.args.steps.now in
    let i = c.loop-i.i in
    let more = turns_more steps i c.index-steps-i.result c.index-steps-i-in-loop-i.result (omega (arith, c.loop-i-test.true)) c.index-steps-i.is c.index-steps-i-in-loop-i.is in
    let turn = sym c.if-not-is_turn.true ∙ c.is_turn.ensures in
    (λ k. turn k && list_all is_turn (turns_left (i + 1) steps)) ∙ sym more ∙ c.loop-i.invariant

pub loop-i-preserved : goal.loop-i-preserved
loop-i-preserved c =
    let steps = c.args.steps.now in
    let i = c.loop-i.i in
    let more = turns_more steps i c.index-steps-i.result c.index-steps-i-in-loop-i.result (omega (arith, c.loop-i-test.true)) c.index-steps-i.is c.index-steps-i-in-loop-i.is in
    let turn = sym c.if-not-is_turn.false ∙ c.is_turn.ensures in
    (λ k. turn k && list_all is_turn (turns_left (i + 1) steps)) ∙ sym more ∙ c.loop-i.invariant
