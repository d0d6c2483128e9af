use Rattle.std.proofs.Common.{List, [], ◌∷◌, ◌++◌, length, ap, ◌∙◌, arith, length-append}
use Rattle.rp_geometry.specs.Geometry.{HalfSpace, complement}
use Rattle.rp_geometry.specs.searches.ProofLine.{strict_line}
use Rattle.rp_cell.specs.Slimming.{tested}
use Rattle.rp_cell.proofs.SlimSoFar.{points_told, terms_told}
use Rattle.rp_cell.proofs.slimming.with_complement.Goals as goal

pub decide_strict-requires : goal.decide_strict-requires
decide_strict-requires c =
    omega (arith, c.requires, ap (λ (hs : List HalfSpace). length hs) (c.as_slice.ensures.value ∙ c.outside_of.ensures.items), length-append (c.args.kept.now ++ c.args.rest.now) (complement c.args.half.now ∷ []), length-append c.args.kept.now c.args.rest.now)

pub returns-in-Inside : goal.returns-in-Inside
returns-in-Inside c = points_told (tested c.args.kept.now c.args.half.now c.args.rest.now) c.in-Inside.field-0 (c.in-Inside.ensures.line ∙ ap strict_line (c.as_slice.ensures.value ∙ c.outside_of.ensures.items))

pub returns-in-Outside : goal.returns-in-Outside
returns-in-Outside c = terms_told (tested c.args.kept.now c.args.half.now c.args.rest.now) c.in-Outside.terms (c.in-Outside.ensures.line ∙ ap strict_line (c.as_slice.ensures.value ∙ c.outside_of.ensures.items))
