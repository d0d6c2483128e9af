use Rattle.rp_space.specs.Boxes.{integer_box}
use Rattle.rp_store.proofs.Boxed.{part_box}
use Rattle.rp_store.proofs.boxes.FormBoxesBounded.bounds.Goals as goal

pub returns-then-parts-le-FEW : goal.returns-then-parts-le-FEW
returns-then-parts-le-FEW g c =
    part_box g.F.Forms.seen c.parts-parts.result.now (g.F.Forms.parts_of c.args.self.now.form.now) c.args.number c.index-parts-number.result (integer_box c.bounds.result.now) c.parts-parts.ensures c.if-parts-le-FEW.true c.requires c.index-parts-number.is c.bounds.ensures
