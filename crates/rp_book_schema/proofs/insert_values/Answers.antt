use Rattle.sqlite.specs.Held.{state}
use Rattle.sqlite.specs.Values.{bound}
use Rattle.sqlite.proofs.StateLemmas.{survives_weaker}
use Rattle.rp_book_schema.proofs.EntryLemmas.{adds_by, commits_by, leaves_on}
use Rattle.rp_book_schema.proofs.insert_values.Goals as goal

pub returns-clause-adds : goal.returns-clause-adds
returns-clause-adds g c = λ clean has e v.
    adds_by (state g.S.Store c.args.conn.now) (state g.S.Store c.execute.new.self) c.execute.result (bound c.args.values) e v has (c.execute.ensures.runs clean)

pub returns-clause-fails : goal.returns-clause-fails
returns-clause-fails g c = λ clean.
    leaves_on (state g.S.Store c.args.conn.now) (state g.S.Store c.execute.new.self) _ _ c.execute.result (c.execute.ensures.runs clean)

pub returns-clause-survives : goal.returns-clause-survives
returns-clause-survives g c = λ has e v.
    survives_weaker (state g.S.Store c.args.conn.now) (state g.S.Store c.execute.new.self) _ _
    (λ clean db h. commits_by (state g.S.Store c.args.conn.now) db (bound c.args.values) e v has h) c.execute.ensures.survives

pub returns-clause-clean : goal.returns-clause-clean
returns-clause-clean g c = c.execute.ensures.survives.clean
