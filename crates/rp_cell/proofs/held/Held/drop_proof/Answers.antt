use Rattle.std.proofs.Common.{List, ◌++◌, true, append-nil, refl, subst}
use Rattle.rp_geometry.specs.Geometry.{RationalPoint, HalfSpace}
use Rattle.rp_geometry.specs.laws.CellLaws.{IsSolution, AreHalfSpaces}
use Rattle.rp_geometry.proofs.Bounds.{cube_bounds}
use Rattle.rp_cell.proofs.Dropped.{tested_below, fewer_here, tested_bounds, others_have, side_has_member}
use Rattle.rp_cell.proofs.held.Held.drop_proof.Goals as goal

pub has_side-requires : goal.has_side-requires
has_side-requires c = tested_below c.args.self.now c.args.place c.args.kept.now c.args.half.now c.args.rest.now c.requires

pub returns-then-has_side-clause-proof : goal.returns-then-has_side-clause-proof
returns-then-has_side-clause-proof c = side_has_member c.args.self.now c.args.place c.args.kept.now c.args.half.now c.args.rest.now (subst AreHalfSpaces c.halves.ensures.value c.keep_bounds.ensures) cube_bounds c.requires (c.has_side.ensures c.if-has_side.true)

pub through_complement-requires-clause-few : goal.through_complement-requires-clause-few
through_complement-requires-clause-few c = fewer_here c.halves.result.now c.args.self.now c.args.place c.args.kept.now c.args.half.now c.args.rest.now c.halves.ensures.value c.halves.ensures.few c.requires

pub through_complement-requires-clause-bounds : goal.through_complement-requires-clause-bounds
through_complement-requires-clause-bounds c = tested_bounds c.args.self.now c.args.place c.args.kept.now c.args.half.now c.args.rest.now (subst AreHalfSpaces c.halves.ensures.value c.keep_bounds.ensures) c.requires

pub through_complement-requires-clause-others : goal.through_complement-requires-clause-others
through_complement-requires-clause-others c =
    let others = c.args.kept.now ++ c.args.rest.now in
    subst (λ (hs : List HalfSpace). (p : RationalPoint) × IsSolution true hs p) (append-nil others)
    (others_have c.args.self.now c.args.place c.args.kept.now c.args.half.now c.args.rest.now others (subst AreHalfSpaces c.halves.ensures.value c.keep_bounds.ensures) (c.has_point.ensures c.if-has_point.true) c.requires refl)

pub with_complement-requires : goal.with_complement-requires
with_complement-requires c = fewer_here c.halves.result.now c.args.self.now c.args.place c.args.kept.now c.args.half.now c.args.rest.now c.halves.ensures.value c.halves.ensures.few c.requires
