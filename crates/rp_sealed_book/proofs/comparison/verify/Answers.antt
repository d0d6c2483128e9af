use Rattle.std.proofs.Common.{◌≡◌, ◌≤◌, length, map, take, ap, ◌∙◌}
use Rattle.rp_book.specs.Act.{act_of}
use Rattle.rp_seal.specs.Hash.{hashes_of}
use Rattle.rp_seal_text.specs.Checkpoint.{fields_of}
use Rattle.rp_sealed_book.specs.Log.{log_of, log_root}
use Rattle.rp_sealed_book.specs.Verdict.{Binds}
use Rattle.rp_sealed_book.proofs.LogLemmas.{binds, of-book}
use Rattle.rp_sealed_book.proofs.comparison.verify.Goals as goal

pub returns-clause-sound : goal.returns-clause-sound
returns-clause-sound g c = λ begins.
    let log = log_of c.text.result.now (map act_of c.acts.result.now) in
    let verdict = c.compare.ensures log (ap hashes_of c.deref.ensures.value ∙ c.in_ok-leaves.ensures.hashes) in
    let holds : (c.args.seal.now.size ≤ length log) × (log_root (take c.args.seal.now.size log) ≡ c.args.seal.now.root.bytes) = rw begins at verdict in
    of-book (g.B.Book.script c.args.book.now) (g.B.Book.acts c.args.book.now) c.text.result.now (map act_of c.acts.result.now) (Binds (fields_of c.args.seal.now)) c.text.ensures.bytes c.acts.ensures.told
    (binds (fields_of c.args.seal.now) log c.in_ok-leaves.ensures.encodable holds.0 holds.1)
