use Rattle.std.proofs.Common.{sym}
use Rattle.rp_command.specs.Versions.{version_of}
use Rattle.rp_checker.proofs.answer.follow_text.Goals as goal

pub follow_read-followed-requires-clause-read : goal.follow_read-followed-requires-clause-read
follow_read-followed-requires-clause-read c = (version_of c.args.version, c.args.text.now, sym c.in_ok-line.ensures)
