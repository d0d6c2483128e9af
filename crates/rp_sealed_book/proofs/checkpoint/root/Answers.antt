use Rattle.std.proofs.Common.{◌≡◌, map, ap, ◌∙◌}
use Rattle.rp_book.specs.Act.{act_of}
use Rattle.rp_seal.specs.Hash.{hashes_of}
use Rattle.rp_seal.specs.Merkle.{root_of}
use Rattle.rp_sealed_book.specs.Log.{log_of, log_root}
use Rattle.rp_sealed_book.proofs.LogLemmas.{of-book, root-whole}
use Rattle.rp_sealed_book.proofs.checkpoint.root.Goals as goal

pub returns : goal.returns
returns g c =
    let log = log_of c.text.result.now (map act_of c.acts.result.now) in
    of-book (g.B.Book.script c.args.book.now) (g.B.Book.acts c.args.book.now) c.text.result.now (map act_of c.acts.result.now) (λ l. c.root_by_threads.result.bytes ≡ log_root l) c.text.ensures.bytes c.acts.ensures.told
    (c.root_by_threads.ensures ∙ ap (λ hs. root_of (hashes_of hs)) c.deref.ensures.value ∙ root-whole c.in_ok-leaves.leaves.items log c.in_ok-leaves.ensures.hashes)
