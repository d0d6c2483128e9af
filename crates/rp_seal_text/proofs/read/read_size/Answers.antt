use Rattle.std.proofs.Common.{subst, sym, IsUtf8}
use Rattle.std.proofs.lemmas.Fmt.{IsAscii-decimal}
use Rattle.std.proofs.lemmas.Str.{IsUtf8-from_ascii}
use Rattle.rp_seal_text.proofs.read.read_size.Goals as goal

pub returns-in_err-read_text-clause-each : goal.returns-in_err-read_text-clause-each
returns-in_err-read_text-clause-each c = λ size fits is.
    absurd (c.in_err-read_text.ensures (subst IsUtf8 (sym is) (IsUtf8-from_ascii _ (IsAscii-decimal size fits))))
