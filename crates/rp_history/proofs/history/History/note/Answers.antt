use Rattle.std.proofs.Common.{◌≡◌, ◌++◌, ◌∙◌, None, List, map, sym, ap, ap₂, subst}
use Rattle.rp_model.specs.states.State.{Lot, ended_at}
use Rattle.rp_history.specs.Lots.{lot_of, new_lot_of, AreKeptWell}
use Rattle.std.specs.List.{AllByRecursion}
use Rattle.rp_history.proofs.Appended.{born_live}
use Rattle.rp_history.proofs.KeptWell.{well_after, fresh_born, distinct_born}
use Rattle.rp_history.proofs.history.History.note.Goals as goal

pub append-requires-clause-live : goal.append-requires-clause-live
append-requires-clause-live c = subst (AllByRecursion (λ (l : Lot (Unit {0})). l.ended ≡ None)) (sym c.in_ok-born.ensures) (born_live c.args.line (map new_lot_of c.args.births.now))

pub append-requires-clause-fresh : goal.append-requires-clause-fresh
append-requires-clause-fresh c =
    let ended = c.end_all.ensures.lots ∙ ap (map (ended_at c.args.line c.args.ends.now)) (c.in_ok-reserve.ensures.lots ∙ c.self.view_is) in
    fresh_born c.args.line c.args.ends.now c.args.self.now c.end_all.new.list.lots (map new_lot_of c.args.births.now) (map lot_of c.in_ok-born.born.items) ended c.in_ok-born.ensures c.requires.new

pub append-requires-clause-distinct : goal.append-requires-clause-distinct
append-requires-clause-distinct c =
    distinct_born c.args.line c.args.self.now (map new_lot_of c.args.births.now) (map lot_of c.in_ok-born.born.items) c.in_ok-born.ensures c.requires.new

pub invariant_of-self-2 : goal.invariant_of-self-2
invariant_of-self-2 c =
    let lots = c.args.self.now in
    let new = map new_lot_of c.args.births.now in
    let well = subst (λ (ls : List (Lot (Unit {0}))). AreKeptWell ls) c.self.view_is c.self.invariant in
    let ended = c.end_all.ensures.lots ∙ ap (map (ended_at c.args.line c.args.ends.now)) (c.in_ok-reserve.ensures.lots ∙ c.self.view_is) in
    subst (λ (ls : List (Lot (Unit {0}))). AreKeptWell ls) (sym (c.append.ensures ∙ ap₂ ◌++◌ ended c.in_ok-born.ensures))
    (well_after c.args.line c.args.ends.now new lots c.requires.later c.requires.new well)

pub returns-clause-well : goal.returns-clause-well
returns-clause-well c =
    let lots = c.args.self.now in
    let new = map new_lot_of c.args.births.now in
    let well = subst (λ (ls : List (Lot (Unit {0}))). AreKeptWell ls) c.self.view_is c.self.invariant in
    let ended = c.end_all.ensures.lots ∙ ap (map (ended_at c.args.line c.args.ends.now)) (c.in_ok-reserve.ensures.lots ∙ c.self.view_is) in
    subst (λ (ls : List (Lot (Unit {0}))). AreKeptWell ls) (sym (c.append.ensures ∙ ap₂ ◌++◌ ended c.in_ok-born.ensures))
    (well_after c.args.line c.args.ends.now new lots c.requires.later c.requires.new well)
