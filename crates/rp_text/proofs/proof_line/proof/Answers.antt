use Rattle.std.proofs.Common.{◌∙◌}
use Rattle.rp_text.proofs.WordLemmas.{past_in, past_out, past_at, past_apart, past_drop, past_box, with_in, with_out, with_at, with_apart, with_drop, with_box}
use Rattle.rp_text.proofs.proof_line.proof.Goals as goal

pub returns-in-Some : goal.returns-in-Some
returns-in-Some c = c.inside.ensures ∙ with_in c.args.line.now c.in-Some.rest.now c.in-Some.ensures

pub returns-in-Some-behind : goal.returns-in-Some-behind
returns-in-Some-behind c = c.outside.ensures ∙ with_out c.args.line.now c.in-Some-behind.rest.now (past_in c.args.line.now c.in_default.ensures) c.in-Some-behind.ensures

pub returns-in-Some-behind-2 : goal.returns-in-Some-behind-2
returns-in-Some-behind-2 c = c.at.ensures ∙ with_at c.args.line.now c.in-Some-behind-2.rest.now (past_out c.args.line.now (past_in c.args.line.now c.in_default.ensures) c.in_default-behind.ensures) c.in-Some-behind-2.ensures

pub returns-in-Some-behind-3 : goal.returns-in-Some-behind-3
returns-in-Some-behind-3 c = c.apart.ensures ∙ with_apart c.args.line.now c.in-Some-behind-3.rest.now (past_at c.args.line.now (past_out c.args.line.now (past_in c.args.line.now c.in_default.ensures) c.in_default-behind.ensures) c.in_default-behind-2.ensures) c.in-Some-behind-3.ensures

pub returns-in-Some-behind-4 : goal.returns-in-Some-behind-4
returns-in-Some-behind-4 c = c.dropped.ensures ∙ with_drop c.args.line.now c.in-Some-behind-4.rest.now (past_apart c.args.line.now (past_at c.args.line.now (past_out c.args.line.now (past_in c.args.line.now c.in_default.ensures) c.in_default-behind.ensures) c.in_default-behind-2.ensures) c.in_default-behind-3.ensures) c.in-Some-behind-4.ensures

pub returns-in-Some-behind-5 : goal.returns-in-Some-behind-5
returns-in-Some-behind-5 c = c.bounds.ensures ∙ with_box c.args.line.now c.in-Some-behind-5.rest.now (past_drop c.args.line.now (past_apart c.args.line.now (past_at c.args.line.now (past_out c.args.line.now (past_in c.args.line.now c.in_default.ensures) c.in_default-behind.ensures) c.in_default-behind-2.ensures) c.in_default-behind-3.ensures) c.in_default-behind-4.ensures) c.in-Some-behind-5.ensures

pub returns : goal.returns
returns c = past_box c.args.line.now (past_drop c.args.line.now (past_apart c.args.line.now (past_at c.args.line.now (past_out c.args.line.now (past_in c.args.line.now c.in_default.ensures) c.in_default-behind.ensures) c.in_default-behind-2.ensures) c.in_default-behind-3.ensures) c.in_default-behind-4.ensures) c.in_default-behind-5.ensures
