use Rattle.std.proofs.Common.{◌++◌, ◌∷◌, [], true, List, sym, ap, ◌∙◌, subst, append-nil}
use Rattle.std.specs.Prelude.{Option, unwrap_or}
use Rattle.rp_geometry.specs.Geometry.{RationalPoint, HalfSpace}
use Rattle.rp_geometry.specs.sets.Shape.{shape_of_cell}
use Rattle.rp_geometry.specs.sets.Sets.{IsEmpty}
use Rattle.rp_geometry.specs.laws.CellLaws.{IsSolution}
use Rattle.rp_geometry.specs.searches.Certificate.{Multiple}
use Rattle.rp_geometry.specs.searches.Elimination.{first_outside}
use Rattle.rp_convex.proofs.Inside.{member_moves_inside_spec}
use Rattle.rp_cell.proofs.Answered.{outside_is_some}
use Rattle.rp_cell.proofs.bounds.side_proof.Goals as goal

pub first_outside_through-requires-clause-others : goal.first_outside_through-requires-clause-others
first_outside_through-requires-clause-others c =
    subst (λ (hs : List HalfSpace). (p : RationalPoint) × IsSolution true hs p) (sym (append-nil c.args.cell.now)) (member_moves_inside_spec c.args.cell.now c.keep_bounds.ensures c.requires.member)

pub unwrap-requires : goal.unwrap-requires
unwrap-requires c =
    outside_is_some (c.args.cell.now ++ c.not.result ∷ []) c.first_outside_through.result c.first_outside_through.ensures.none
    (subst (λ (h : HalfSpace). IsEmpty (shape_of_cell (c.args.cell.now ++ h ∷ []))) (sym c.not.ensures) c.requires.none)

pub returns : goal.returns
returns c =
    ap (λ (o : Option (List Multiple)). unwrap_or o [])
    (sym c.unwrap.ensures ∙ c.first_outside_through.ensures.first ∙ ap (λ (h : HalfSpace). first_outside true (c.args.cell.now ++ h ∷ [])) c.not.ensures)
