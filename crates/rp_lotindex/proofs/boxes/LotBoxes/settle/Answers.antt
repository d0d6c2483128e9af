use Rattle.std.proofs.Common.{Option, ap}
use Rattle.std.specs.Prelude.{unwrap_or}
use Rattle.std.specs.FinMap.{empty}
use Rattle.rp_boxindex.specs.Boxes.{Boxes}
use Rattle.rp_history.specs.Lots.{lot_of}
use Rattle.rp_lotindex.specs.declared.boxes.LotBoxes.{LotBoxes}
use Rattle.rp_lotindex.specs.Indexed.{boxes_by, index_of}
use Rattle.rp_lotindex.proofs.Boxed.{settled_empty}
use Rattle.rp_lotindex.proofs.boxes.LotBoxes.settle.Goals as goal

pub returns-in_default-clause-settled : goal.returns-in_default-clause-settled
returns-in_default-clause-settled g c =
    let y = c.args.lot.now.layer in
    let after : LotBoxes = record { layers = c.get_mut.follows.lender-at-none } in
    settled_empty (index_of c.args.self.now y) (index_of after y) c.args.place (boxes_by (lot_of c.args.lot.now) (g.B.Bounded.boxes c.args.boxes.now))
    (ap (λ (o : Option Boxes). unwrap_or o empty) c.in_default.ensures.value)
    (ap (λ n. let b : LotBoxes = record { layers = n } in index_of b y) c.get_mut.follows.holds-at-none)
