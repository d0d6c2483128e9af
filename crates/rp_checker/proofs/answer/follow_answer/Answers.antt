use Rattle.std.proofs.Common.{◌+◌, ◌<◌, sym, ap, ◌∙◌, arith}
use Rattle.std.specs.Prelude.{option_map}
use Rattle.std.proofs.lemmas.Result.{err_from_is_err_and}
use Rattle.rp_model.specs.states.State.{state_of_parts}
use Rattle.rp_states.proofs.Added.{later_further}
use Rattle.rp_command.specs.Versions.{version_of}
use Rattle.rp_checker.specs.Answers.{echo_with}
use Rattle.rp_checker.proofs.Numbered.{no_echo, low_echo, echo_halts, echo_ends}
use Rattle.rp_checker.proofs.answer.follow_answer.Goals as goal

pub returns-in_default : goal.returns-in_default
returns-in_default c =
    no_echo (version_of c.args.version) (record { last = c.args.last; state = c.args.register.now }) c.args.trail.now c.number.result c.number.ensures (sym c.next_echo.ensures ∙ ap (option_map echo_with) c.in_default.is)

pub returns-then-n-last : goal.returns-then-n-last
returns-then-n-last c =
    low_echo (version_of c.args.version) (record { last = c.args.last; state = c.args.register.now }) c.args.trail.now c.number.result (echo_with (c.in-Some.n, c.in-Some.text)) c.number.ensures
    (sym c.next_echo.ensures ∙ ap (option_map echo_with) c.in-Some.is) c.if-n-last.true

pub follow_echo-requires-clause-later : goal.follow_echo-requires-clause-later
follow_echo-requires-clause-later c = let later : c.args.last < c.in-Some.n = c.if-n-last.false in later_further (c.args.last + 1) c.in-Some.n (omega (arith, later)) (state_of_parts c.args.register.now) c.requires

pub returns-in_err-follow_echo : goal.returns-in_err-follow_echo
returns-in_err-follow_echo c =
    let p = err_from_is_err_and c.from_residual.result c.from_residual.ensures.1 in
    rw (p.1, p.2)
    (echo_halts (version_of c.args.version) (record { last = c.args.last; state = c.args.register.now }) c.args.trail.now c.begin.new.self (echo_with (c.in-Some.n, c.in-Some.text)) c.in_err-follow_echo.field-0.0
    (sym c.next_echo.ensures ∙ ap (option_map echo_with) c.in-Some.is) c.if-n-last.false c.begin.ensures c.in_err-follow_echo.ensures)

pub returns : goal.returns
returns c =
    echo_ends (version_of c.args.version) (record { last = c.args.last; state = c.args.register.now }) c.args.trail.now c.begin.new.self c.follow_echo.new.trail (echo_with (c.in-Some.n, c.in-Some.text)) c.follow_echo.new.register
    (sym c.next_echo.ensures ∙ ap (option_map echo_with) c.in-Some.is) c.if-n-last.false c.begin.ensures c.in_ok-follow_echo.ensures
