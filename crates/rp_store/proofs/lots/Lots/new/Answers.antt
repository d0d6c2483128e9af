use Rattle.std.proofs.Common.{List, [], map, sym, subst}
use Rattle.rp_model.specs.states.State.{Lot}
use Rattle.rp_lotindex.specs.Indexed.{index_of}
use Rattle.rp_store.specs.Kept.{AreLots}
use Rattle.rp_store.proofs.Boxed.{no_lots}
use Rattle.rp_store.proofs.lots.Lots.new.Goals as goal

pub invariant_of-result : goal.invariant_of-result
invariant_of-result g c =
    let parts = g.F.Forms.parts_of in
    let index = index_of c.new-3.result in
    subst (λ (forms : List _). AreLots c.new.result (map parts forms) 0 index) (sym c.new-2.ensures)
    (subst (λ (history : List (Lot (Unit {0}))). AreLots history [] 0 index) (sym c.new.ensures) (no_lots index c.new-3.ensures))
