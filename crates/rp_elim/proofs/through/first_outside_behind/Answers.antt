use Rattle.std.proofs.Common.{List, sym, subst, append-nil, [], ◌++◌, ◌∷◌, ◌∙◌}
use Rattle.rp_algebra.proofs.Listed.{all_append}
use Rattle.rp_geometry.specs.Geometry.{RationalPoint, HalfSpace, IsHalfSpace}
use Rattle.rp_geometry.specs.laws.CellLaws.{AreHalfSpaces, IsSolution}
use Rattle.rp_elim.proofs.Found.{found_passes, none_where_solution}
use Rattle.rp_elim.proofs.InPlace.{first_with_others}
use Rattle.rp_elim.proofs.through.first_outside_behind.Goals as goal

pub returns-clause-first : goal.returns-clause-first
returns-clause-first c =
    let others = c.args.first.now ++ c.args.second.now in
    let bounds = all_append IsHalfSpace c.args.first.now c.args.second.now c.keep_bounds.ensures c.keep_bounds-2.ensures in
    c.if_found.ensures ∙ c.first_beside-is_found.ensures
    ∙ sym (first_with_others c.args.strict others c.args.last.now [] (all_append IsHalfSpace others [] bounds tt)
    (subst (λ (hs : List HalfSpace). (p : RationalPoint) × IsSolution c.args.strict hs p) (sym (append-nil others)) c.requires.others))

-- the whole cell keeps its bounds
cell_bounds : (c : goal.After-if_found) → AreHalfSpaces (c.args.first.now ++ c.args.second.now ++ c.args.last.now ∷ [])
cell_bounds c =
    let bounds = all_append IsHalfSpace c.args.first.now c.args.second.now c.keep_bounds.ensures c.keep_bounds-2.ensures in
    all_append IsHalfSpace (c.args.first.now ++ c.args.second.now) (c.args.last.now ∷ []) bounds (subst (λ (h : HalfSpace). IsHalfSpace h) c.numbers.ensures.numbers c.numbers.ensures.small, tt)

pub returns-clause-passes : goal.returns-clause-passes
returns-clause-passes c = found_passes c.args.strict (c.args.first.now ++ c.args.second.now ++ c.args.last.now ∷ []) (cell_bounds c) c.if_found.result (returns-clause-first c)

pub returns-clause-none : goal.returns-clause-none
returns-clause-none c = none_where_solution c.args.strict (c.args.first.now ++ c.args.second.now ++ c.args.last.now ∷ []) (cell_bounds c) c.if_found.result (returns-clause-first c)
