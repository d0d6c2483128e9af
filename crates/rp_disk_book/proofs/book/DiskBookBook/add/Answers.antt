use Rattle.std.proofs.Common.{◌≡◌, ◌+◌, ◌≤◌, ◌++◌, IsTrue, length, map, option_map, ap, sym, subst, arith, ◌∙◌}
use Rattle.sqlite.specs.Held.{state}
use Rattle.sqlite.specs.State.{Survives}
use Rattle.rp_reports.specs.Output.{most_script_bytes}
use Rattle.rp_book.specs.Act.{act_of}
use Rattle.rp_book_schema.specs.Entry.{AddsEntry, Fields, GainsEntry, book_schema, entries_in}
use Rattle.rp_disk_book.specs.Kept.{Kept, IsKept, contents_of, with_act}
use Rattle.rp_disk_book.specs.Disk.{RecoverableFromDatabase, IsBook, Opened}
use Rattle.rp_disk_book.proofs.DiskLemmas.{fields_are, finds_more, is_longer}
use Rattle.rp_disk_book.proofs.FindLemmas.{finds_only, may_find}
use Rattle.rp_disk_book.proofs.KeptLemmas.{IsKept-push}
use Rattle.rp_disk_book.proofs.book.DiskBookBook.add.Goals as goal

pub returns-in-Err-clause-crash : goal.returns-in-Err-clause-crash
returns-in-Err-clause-crash g c = λ test finds passes.
    let book = c.self.inside in
    let old = state g.S.Store book.conn in
    let new = state g.S.Store c.insert.new.conn in
    let acts = map act_of book.contents.acts.items in
    let a = c.in_ok-act.act in
    let e = c.args.entry in
    let lines = c.args.lines.now in
    let none : book.faults ≡ 0 = omega (arith, c.if-self-gt0.false) in
    let fields = fields_are c.next_number-number.result (length acts + 1) a.first a.last e.added.now (option_map (λ t. t.now) e.who) (option_map (λ t. t.now) e.deed) (act_of a) lines c.next_number-number.ensures c.in_ok-act.ensures.act in
    finds_more old new acts (act_of a) book.contents.script.items lines c.requires.end c.in_ok-act.ensures.numbers (c.self.invariant.1 none) c.insert.ensures.clean
    (subst (λ (f : Fields). old.now.schema ≡ book_schema → Survives old new (λ db. GainsEntry (entries_in old.now.trees) (entries_in db) f)) fields c.insert.ensures.survives)
    test (subst (λ (o : Opened g.row.S.Denot). RecoverableFromDatabase (state g.S.Store o.conn) test) (sym c.self.view_is) finds)
    (subst (λ (o : Opened g.row.S.Denot). IsTrue (test (o.script ++ lines))) (sym c.self.view_is) passes)

pub returns-clause-crash : goal.returns-clause-crash
returns-clause-crash g c = λ test finds passes.
    let book = c.self.inside in
    let old = state g.S.Store book.conn in
    let new = state g.S.Store c.insert.new.conn in
    let acts = map act_of book.contents.acts.items in
    let a = c.in_ok-act.act in
    let e = c.args.entry in
    let lines = c.args.lines.now in
    let none : book.faults ≡ 0 = omega (arith, c.if-self-gt0.false) in
    let fields = fields_are c.next_number-number.result (length acts + 1) a.first a.last e.added.now (option_map (λ t. t.now) e.who) (option_map (λ t. t.now) e.deed) (act_of a) lines c.next_number-number.ensures c.in_ok-act.ensures.act in
    finds_more old new acts (act_of a) book.contents.script.items lines c.requires.end c.in_ok-act.ensures.numbers (c.self.invariant.1 none) c.insert.ensures.clean
    (subst (λ (f : Fields). old.now.schema ≡ book_schema → Survives old new (λ db. GainsEntry (entries_in old.now.trees) (entries_in db) f)) fields c.insert.ensures.survives)
    test (subst (λ (o : Opened g.row.S.Denot). RecoverableFromDatabase (state g.S.Store o.conn) test) (sym c.self.view_is) finds)
    (subst (λ (o : Opened g.row.S.Denot). IsTrue (test (o.script ++ lines))) (sym c.self.view_is) passes)

pub invariant_of-self-2 : goal.invariant_of-self-2
invariant_of-self-2 g c =
    let book = c.self.inside in
    let old = state g.S.Store book.conn in
    let new = state g.S.Store c.insert.new.conn in
    let acts = map act_of book.contents.acts.items in
    let a = c.in_ok-act.act in
    let e = c.args.entry in
    let lines = c.args.lines.now in
    let short = subst (λ (o : Opened g.row.S.Denot). length o.script + length lines ≤ most_script_bytes) (sym c.self.view_is) c.requires.short in
    let fields = fields_are c.next_number-number.result (length acts + 1) a.first a.last e.added.now (option_map (λ t. t.now) e.who) (option_map (λ t. t.now) e.deed) (act_of a) lines c.next_number-number.ensures c.in_ok-act.ensures.act in
    let pushed : contents_of c.push.new.self ≡ with_act (contents_of book.contents) (act_of a) lines = c.push.ensures ∙ ap (λ (k : Kept). with_act k (act_of a) lines) c.in_ok-act.ensures.same in (
      subst IsKept (sym pushed) (IsKept-push (contents_of book.contents) (act_of a) lines c.self.invariant.0 c.requires.end short c.in_ok-act.ensures.numbers c.in_ok-act.ensures.fits),
      λ none clean.
          subst (λ (k : Kept). IsBook new k.acts k.script) (sym pushed)
          (is_longer old new acts (act_of a) book.contents.script.items lines c.requires.end c.in_ok-act.ensures.numbers (c.self.invariant.1 none) c.insert.ensures.clean
          (λ now schema. subst (λ (f : Fields). AddsEntry old new f) fields (c.in_default.ensures.adds now schema)) clean),
    )

pub returns-clause-only : goal.returns-clause-only
returns-clause-only g c =
    let k = contents_of c.push.new.self in
    let none : c.self.inside.faults ≡ 0 = omega (arith, c.if-self-gt0.false) in
    finds_only (state g.S.Store c.insert.new.conn) k.acts k.script ((invariant_of-self-2 g c).1 none) (g.met.S.Store.settled c.insert.new.conn.store)

pub returns-clause-found : goal.returns-clause-found
returns-clause-found g c =
    let k = contents_of c.push.new.self in
    let none : c.self.inside.faults ≡ 0 = omega (arith, c.if-self-gt0.false) in
    may_find (state g.S.Store c.insert.new.conn) k.acts k.script ((invariant_of-self-2 g c).1 none) (g.met.S.Store.stays c.insert.new.conn.store)
