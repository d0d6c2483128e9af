use Rattle.std.proofs.Common.{◌≡◌, ◌+◌, ℕ, List, Option, drop, get_or, map, refl, subst, arith, ◌∷◌}
use Rattle.rp_book.specs.Act.{Told}
use Rattle.rp_book.specs.declared.act.Entry.{Entry}
use Rattle.rp_seal.specs.Act.{ActEntry, entry_of}
use Rattle.rp_seal.specs.declared.act.SealedAct.{SealedAct}
use Rattle.rp_book_service.specs.Joined.{MayTake}
use Rattle.rp_book_service.proofs.ReplayLemmas.{IsTaken, may-take-more, no_act, rest-next, finds-more, taken-more}
use Rattle.rp_book_service.proofs.replay.add_all.Goals as goal

pub loop-act-preserved : goal.loop-act-preserved
loop-act-preserved g c =
    let acts : List SealedAct = c.args.acts.now in
    let i : ℕ = c.loop-act.act-index in
    let act : SealedAct = get_or acts i no_act in
    let more : List ActEntry = map entry_of (drop (i + 1) acts) in
    let entry : Entry = record { added = act.added; who = act.who; deed = act.deed } in
    let told_old : Option (List ℕ) = g.B.Book.script c.args.book.now in
    let listed_old : Option (List Told) = g.B.Book.acts c.args.book.now in
    let told : Option (List ℕ) = g.B.Book.script c.loop-act.book in
    let listed : Option (List Told) = g.B.Book.acts c.loop-act.book in
    let told_now : Option (List ℕ) = g.B.Book.script c.add.new.self in
    let listed_now : Option (List Told) = g.B.Book.acts c.add.new.self in
    let rest : map entry_of (drop i acts) ≡ entry_of act ∷ more = rest-next acts i no_act c.loop-act-test.true in
    let may : MayTake told listed (entry_of act ∷ more) = subst (MayTake told listed) rest c.loop-act.invariant.may in
    let taken : IsTaken told_old told listed_old listed (map entry_of acts) (entry_of act ∷ more) = subst (IsTaken told_old told listed_old listed (map entry_of acts)) rest c.loop-act.invariant.taken in
    record {
      counts = omega (arith, c.loop-act.invariant.counts, c.add.ensures.counts);
      may = may-take-more told told_now listed listed_now act entry more may refl refl refl c.in_ok-add.ensures.ok c.in_ok-add.ensures.gained;
      taken = taken-more told_old told told_now listed_old listed listed_now (map entry_of acts) more act entry taken may refl refl refl c.in_ok-add.ensures.ok c.in_ok-add.ensures.gained;
      crash = finds-more (g.B.Book.recoverable c.args.book.now) (g.B.Book.recoverable c.loop-act.book) (g.B.Book.recoverable c.add.new.self) told_old told listed_old listed (map entry_of acts) more (entry_of act) c.loop-act.invariant.crash c.add.ensures.crash taken;
      only = λ _. c.in_ok-add.ensures.only;
      found = λ _. c.in_ok-add.ensures.found;
    }

pub returns-in_err-add-clause-crash : goal.returns-in_err-add-clause-crash
returns-in_err-add-clause-crash g c =
    let acts : List SealedAct = c.args.acts.now in
    let i : ℕ = c.loop-act.act-index in
    let act : SealedAct = get_or acts i no_act in
    let more : List ActEntry = map entry_of (drop (i + 1) acts) in
    let told_old : Option (List ℕ) = g.B.Book.script c.args.book.now in
    let listed_old : Option (List Told) = g.B.Book.acts c.args.book.now in
    let told : Option (List ℕ) = g.B.Book.script c.loop-act.book in
    let listed : Option (List Told) = g.B.Book.acts c.loop-act.book in
    let rest : map entry_of (drop i acts) ≡ entry_of act ∷ more = rest-next acts i no_act c.loop-act-test.true in
    let taken : IsTaken told_old told listed_old listed (map entry_of acts) (entry_of act ∷ more) = subst (IsTaken told_old told listed_old listed (map entry_of acts)) rest c.loop-act.invariant.taken in
    finds-more (g.B.Book.recoverable c.args.book.now) (g.B.Book.recoverable c.loop-act.book) (g.B.Book.recoverable c.add.new.self) told_old told listed_old listed (map entry_of acts) more (entry_of act) c.loop-act.invariant.crash c.add.ensures.crash taken
