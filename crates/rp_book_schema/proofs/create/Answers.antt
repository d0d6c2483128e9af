use Rattle.sqlite.specs.Held.{state}
use Rattle.rp_book_schema.proofs.EntryLemmas.{makes}
use Rattle.rp_book_schema.proofs.create.Goals as goal

pub returns : goal.returns
returns g c = record {
  makes = λ clean has. makes (state g.S.Store c.args.conn.now) (state g.S.Store c.execute.new.self) c.execute.result has (c.execute.ensures.runs clean);
}
