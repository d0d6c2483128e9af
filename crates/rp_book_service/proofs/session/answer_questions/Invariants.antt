use Rattle.std.proofs.Common.{◌≤◌, ◌+◌, length}
use Rattle.rp_model.specs.states.State.{state_of_parts}
use Rattle.rp_model.specs.states.Sound.{IsLaterThan}
use Rattle.rp_reports.specs.Report.{script_lines}
use Rattle.rp_book_service.proofs.SessionLemmas.{HasAsked}
use Rattle.rp_book_service.proofs.session.answer_questions.Given as goal

abbrev pub invariant-loop-line : goal.invariant-loop-line
invariant-loop-line g l =
    record {
      counts : g.K.Sink.faults l.fn.sink ≤ g.K.Sink.faults l.sink;
      number : l.next + length l.rest ≤ l.number + length l.lines;
      later : IsLaterThan l.next (state_of_parts l.machine.state);
      asked : HasAsked l.fn.machine l.machine l.number l.next (script_lines l.lines) (script_lines l.rest) (g.K.Sink.said l.fn.sink) (g.K.Sink.said l.sink) l.refused;
    }

abbrev pub decreases-loop-line : goal.decreases-loop-line
decreases-loop-line g l = length l.rest
