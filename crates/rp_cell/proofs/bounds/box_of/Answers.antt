use Rattle.std.proofs.Common.{sym, subst, ap, ◌∙◌}
use Rattle.rp_geometry.specs.Geometry.{IntegerBox}
use Rattle.rp_geometry.specs.parts.LeastBox.{IsLeastBox, least_box}
use Rattle.rp_parts.proofs.LeastBox.{least_box_is_least_spec}
use Rattle.rp_cell.proofs.bounds.box_of.Goals as goal

pub returns-clause-value : goal.returns-clause-value
returns-clause-value c = c.bounds.ensures.value ∙ ap least_box c.new.ensures

pub returns-clause-least : goal.returns-clause-least
returns-clause-least c =
    subst (λ (b : IntegerBox). IsLeastBox c.args.cell.now b) (sym (returns-clause-value c)) (least_box_is_least_spec c.args.cell.now c.keep_bounds.ensures c.requires.member)
