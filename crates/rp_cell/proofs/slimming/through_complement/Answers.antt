use Rattle.std.proofs.Common.{◌≡◌, List, [], ◌∷◌, ◌++◌, sym, subst}
use Rattle.rp_geometry.specs.Geometry.{HalfSpace}
use Rattle.rp_geometry.specs.laws.CellLaws.{AreHalfSpaces}
use Rattle.rp_cell.specs.Slimming.{tested, IsDropProof}
use Rattle.rp_cell.proofs.Dropped.{refutation_says}
use Rattle.rp_cell.proofs.slimming.through_complement.Goals as goal

pub returns : goal.returns
returns c =
    let others = c.args.kept.now ++ c.args.rest.now in
    let list : others ++ c.not.result ∷ [] ≡ tested c.args.kept.now c.args.half.now c.args.rest.now = λ i. others ++ c.not.ensures i ∷ [] in
    subst (λ (hs : List HalfSpace). IsDropProof hs c.first_outside_behind.result) list
    (refutation_says (others ++ c.not.result ∷ []) c.first_outside_behind.result (subst AreHalfSpaces (sym list) c.requires.bounds) c.first_outside_behind.ensures.first c.first_outside_behind.ensures.none)
