use Rattle.std.proofs.Common.{option_map}
use Rattle.sqlite_value.specs.Value.{owned}
use Rattle.rp_book_schema.specs.Entry.{fields_of}
use Rattle.rp_book_schema.proofs.EntryLemmas.{values_are}
use Rattle.rp_book_schema.proofs.insert.Goals as goal

pub returns-clause-adds : goal.returns-clause-adds
returns-clause-adds g c = λ clean has.
    c.insert_values.ensures.adds clean has
    (fields_of c.args.number c.args.first c.args.last c.args.added.now (option_map (λ t. t.now) c.args.who) (option_map (λ t. t.now) c.args.deed) c.args.lines.now)
    (values_are (λ t. t.now) c.args.number c.args.first c.args.last c.args.added.now c.args.who c.args.deed c.args.lines.now
    (owned c.to_sql.result) (owned c.to_sql-2.result) (owned c.to_sql-3.result) (owned c.to_sql-4.result) (owned c.to_sql-5.result) (owned c.to_sql-6.result)
    c.to_sql.ensures c.to_sql-2.ensures c.to_sql-3.ensures c.to_sql-4.ensures c.to_sql-5.ensures c.to_sql-6.ensures)

pub returns-clause-survives : goal.returns-clause-survives
returns-clause-survives g c = λ has.
    c.insert_values.ensures.survives has
    (fields_of c.args.number c.args.first c.args.last c.args.added.now (option_map (λ t. t.now) c.args.who) (option_map (λ t. t.now) c.args.deed) c.args.lines.now)
    (values_are (λ t. t.now) c.args.number c.args.first c.args.last c.args.added.now c.args.who c.args.deed c.args.lines.now
    (owned c.to_sql.result) (owned c.to_sql-2.result) (owned c.to_sql-3.result) (owned c.to_sql-4.result) (owned c.to_sql-5.result) (owned c.to_sql-6.result)
    c.to_sql.ensures c.to_sql-2.ensures c.to_sql-3.ensures c.to_sql-4.ensures c.to_sql-5.ensures c.to_sql-6.ensures)
