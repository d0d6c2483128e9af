use Rattle.std.proofs.Common.{List, ◌∙◌, sym, subst}
use Rattle.rp_geometry.specs.Geometry.{HalfSpace, IntegerBox}
use Rattle.rp_geometry.specs.laws.CellLaws.{AreHalfSpaces}
use Rattle.rp_geometry.specs.parts.LeastBox.{IsLeastBox}
use Rattle.rp_parts.proofs.LeastBox.{least_box_is_least_spec}
use Rattle.rp_cell.proofs.Boxed.{same_least}
use Rattle.rp_cell.proofs.held.Held.sides.Goals as goal

pub sides_in-requires-clause-value : goal.sides_in-requires-clause-value
sides_in-requires-clause-value c = c.bounds.ensures.value ∙ same_least c.args.self.now c.args.slim.now (subst (λ (hs : List HalfSpace). AreHalfSpaces hs) c.halves.ensures.value c.keep_bounds.ensures) c.keep_bounds-2.ensures c.requires.member c.requires.same

pub sides_in-requires-clause-least : goal.sides_in-requires-clause-least
sides_in-requires-clause-least c =
    subst (λ (b : IntegerBox). IsLeastBox c.args.slim.now b) (sym (sides_in-requires-clause-value c)) (least_box_is_least_spec c.args.slim.now c.keep_bounds-2.ensures c.requires.member)
