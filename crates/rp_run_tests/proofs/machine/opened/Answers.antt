use Rattle.std.proofs.Common.{◌≡◌, sym, subst}
use Rattle.std.specs.Prelude.{Result, Ok, Err, IfOk}
use Rattle.std.specs.declared.alloc.AllocError.{AllocError}
use Rattle.rp_language.specs.Grammar.{Version}
use Rattle.rp_model.specs.states.State.{opening, state_of_parts}
use Rattle.rp_model.specs.states.Sound.{IsLaterThan}
use Rattle.rp_reports.specs.Machine.{Running}
use Rattle.rp_command.specs.Versions.{version_of}
use Rattle.rp_run_tests.proofs.machine.opened.Goals as goal

-- the opening state has no lots
opening_later : (v : Version) (r : Result Running AllocError) → IfOk r (λ m. m ≡ record { version = v; state = opening }) → IfOk r (λ m. IsLaterThan 1 (state_of_parts m.state))
opening_later v (Ok m) h = subst (λ (m : Running). IsLaterThan 1 (state_of_parts m.state)) (sym h) (record { births = tt; ends = tt })
opening_later v (Err e) h = tt

pub returns : goal.returns
returns c = opening_later (version_of c.args.version) c.new.result c.new.ensures
