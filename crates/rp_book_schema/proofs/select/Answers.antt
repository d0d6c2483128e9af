use Rattle.sqlite.specs.Held.{state}
use Rattle.rp_book_schema.proofs.EntryLemmas.{lists_on, rests_on}
use Rattle.rp_book_schema.proofs.select.Goals as goal

pub returns-clause-lists : goal.returns-clause-lists
returns-clause-lists g c = λ clean has.
    lists_on (λ rows. rows.items) (state g.S.Store c.args.conn.now) (state g.S.Store c.query_all.new.self) c.query_all.result has (c.query_all.ensures.ok clean)

pub returns-clause-same : goal.returns-clause-same
returns-clause-same g c = λ clean has.
    rests_on (λ rows. rows.items) (state g.S.Store c.args.conn.now) (state g.S.Store c.query_all.new.self) c.query_all.result has (c.query_all.ensures.ok clean)
