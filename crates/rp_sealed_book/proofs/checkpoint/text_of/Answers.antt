use Rattle.std.proofs.Common.{◌≡◌, length, map, rules, ap, sym, ◌∙◌, string_bytes}
use Rattle.rp_book.specs.Act.{act_of}
use Rattle.rp_seal.specs.Hash.{hashes_of}
use Rattle.rp_seal.specs.Merkle.{root_of}
use Rattle.rp_seal_text.specs.Checkpoint.{lines_of}
use Rattle.rp_sealed_book.specs.Log.{checkpoint_of, log_of}
use Rattle.rp_sealed_book.proofs.LogLemmas.{checkpoint-is, of-book}
use Rattle.rp_sealed_book.proofs.checkpoint.text_of.Goals as goal

pub returns : goal.returns
returns g c =
    let log = log_of c.text.result.now (map act_of c.acts.result.now) in
    let origin : string_bytes c.in_ok-origin.origin ≡ c.args.origin.now = c.in_ok-origin.ensures.ok in
    let fields = checkpoint-is _ c.args.origin.now _ _ c.in_ok-leaves.leaves.items log origin (c.len.ensures ∙ sym c.deref.ensures.len ∙ ap length c.deref.ensures.value) (c.root_by_threads-root.ensures ∙ ap (λ hs. root_of (hashes_of hs)) c.deref.ensures.value) c.in_ok-leaves.ensures.hashes in (
      search rules,
      of-book (g.B.Book.script c.args.book.now) (g.B.Book.acts c.args.book.now) c.text.result.now (map act_of c.acts.result.now) (λ l. string_bytes c.in_ok-text.text ≡ lines_of (checkpoint_of c.args.origin.now l))
          c.text.ensures.bytes c.acts.ensures.told (c.in_ok-text.ensures.text ∙ ap lines_of (c.in-Some.ensures.value ∙ fields)),
    )
