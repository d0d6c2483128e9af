use Rattle.std.proofs.Common.{◌-◌, map, drop}
use Rattle.std.specs.Prelude.{All}
use Rattle.rp_book.specs.Act.{act_of}
use Rattle.rp_seal_text.specs.ActText.{IsActText}
use Rattle.rp_sealed_book.proofs.LogLemmas.{of-book}
use Rattle.rp_sealed_book.proofs.stream.put_acts.Goals as goal

pub returns-clause-valid : goal.returns-clause-valid
returns-clause-valid g c =
    of-book (g.B.Book.script c.args.book.now) (g.B.Book.acts c.args.book.now) c.text.result.now (map act_of c.acts.result.now) (λ log. All IsActText (drop (c.args.from - 1) log))
    c.text.ensures.bytes c.acts.ensures.told c.in_ok-text.ensures.valid
