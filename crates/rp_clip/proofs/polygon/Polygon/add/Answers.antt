use Rattle.std.proofs.Common.{◌<◌, List, length, sym, ap, ◌∙◌, subst}
use Rattle.std.specs.Prelude.{not}
use Rattle.std.specs.List.{Contains}
use Rattle.rp_geometry.specs.Geometry.{RationalPoint}
use Rattle.rp_clip.specs.Polygons.{Sided}
use Rattle.rp_clip.specs.Tables.{counting}
use Rattle.rp_clip.proofs.Polygons.{polygon_added, polygon_stays}
use Rattle.rp_clip.proofs.polygon.Polygon.add.Goals as goal

pub invariant_of-self : goal.invariant_of-self
invariant_of-self c = (
  c.self.invariant.0,
  polygon_stays c.self.inside.planes c.push.new.self c.args.h (counting c.self.inside.is_second c.self.inside.first c.self.inside.second) c.self.invariant.1
      (subst (λ (s : Sided). 0 < length s.halves) (sym c.self.view_is) c.requires.some) (subst (λ (s : Sided). length s.halves < 64) (sym c.self.view_is) c.requires.few) c.numbers.ensures.kept.numbers
      (λ v m. c.is_positive_at_all.ensures c.if-is_positive_at_all.true v
      (subst (λ (ps : List RationalPoint). Contains ps v) (ap (λ (s : Sided). s.table.points) c.self.view_is ∙ sym (c.corners.ensures.points ∙ ap (λ t. t.points) c.table.ensures)) m))
      c.push.ensures,
)

pub invariant_of-self-2 : goal.invariant_of-self-2
invariant_of-self-2 c = (
  c.self.invariant.0,
  polygon_added c.self.inside.planes c.push-2.new.self c.args.h (counting c.self.inside.is_second c.self.inside.first c.self.inside.second)
      (counting (not c.self.inside.is_second) c.refill.new.first c.refill.new.second) c.refill.result c.self.invariant.1
      (subst (λ (s : Sided). 0 < length s.halves) (sym c.self.view_is) c.requires.some) (subst (λ (s : Sided). length s.halves < 64) (sym c.self.view_is) c.requires.few) c.numbers.ensures.kept.numbers
      c.refill.ensures.refilled c.if-not-refill.false c.push-2.ensures,
)
