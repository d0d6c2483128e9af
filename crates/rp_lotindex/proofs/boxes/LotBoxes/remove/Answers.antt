use Rattle.std.proofs.Common.{Option, ap}
use Rattle.std.specs.Prelude.{unwrap_or}
use Rattle.std.specs.FinMap.{empty}
use Rattle.rp_boxindex.specs.Boxes.{Boxes}
use Rattle.rp_lotindex.specs.declared.boxes.LotBoxes.{LotBoxes}
use Rattle.rp_lotindex.specs.Indexed.{index_of}
use Rattle.rp_lotindex.proofs.Boxed.{taken_empty}
use Rattle.rp_lotindex.proofs.boxes.LotBoxes.remove.Goals as goal

pub returns-in_default-clause-gone : goal.returns-in_default-clause-gone
returns-in_default-clause-gone c =
    let y = c.args.layer.now in
    let after : LotBoxes = record { layers = c.get_mut.follows.lender-at-none } in
    taken_empty (index_of c.args.self.now y) (index_of after y) c.args.place
    (ap (λ (o : Option Boxes). unwrap_or o empty) c.in_default.ensures.value)
    (ap (λ n. let b : LotBoxes = record { layers = n } in index_of b y) c.get_mut.follows.holds-at-none)
