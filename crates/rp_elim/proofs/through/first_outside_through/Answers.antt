use Rattle.std.proofs.Common.{sym, subst, append-nil, ◌++◌, ◌∷◌, ◌∙◌}
use Rattle.rp_algebra.proofs.Listed.{all_append}
use Rattle.rp_geometry.specs.Geometry.{HalfSpace, IsHalfSpace, with_cube}
use Rattle.rp_elim.specs.HeldFast.{placed_list, first_through}
use Rattle.rp_elim.proofs.Found.{found_passes, none_where_solution}
use Rattle.rp_elim.proofs.InPlace.{first_with_others}
use Rattle.rp_elim.proofs.through.first_outside_through.Goals as goal

pub returns-clause-first : goal.returns-clause-first
returns-clause-first c =
    let before = c.args.before.now in
    let after = c.args.after.now in
    c.if_found.ensures ∙ c.first_beside-is_found.ensures
    ∙ (λ i. first_through c.args.strict c.args.half.now (placed_list (append-nil before i) (with_cube after)))
    ∙ sym (first_with_others c.args.strict before c.args.half.now after (all_append IsHalfSpace before after c.keep_bounds.ensures c.keep_bounds-2.ensures) c.requires.others)

pub returns-clause-passes : goal.returns-clause-passes
returns-clause-passes c =
    let before = c.args.before.now in
    let rest = c.args.half.now ∷ c.args.after.now in
    let bounds = all_append IsHalfSpace before rest c.keep_bounds.ensures (subst (λ (h : HalfSpace). IsHalfSpace h) c.numbers.ensures.numbers c.numbers.ensures.small, c.keep_bounds-2.ensures) in
    found_passes c.args.strict (before ++ rest) bounds c.if_found.result (returns-clause-first c)

pub returns-clause-none : goal.returns-clause-none
returns-clause-none c =
    let before = c.args.before.now in
    let rest = c.args.half.now ∷ c.args.after.now in
    let bounds = all_append IsHalfSpace before rest c.keep_bounds.ensures (subst (λ (h : HalfSpace). IsHalfSpace h) c.numbers.ensures.numbers c.numbers.ensures.small, c.keep_bounds-2.ensures) in
    none_where_solution c.args.strict (before ++ rest) bounds c.if_found.result (returns-clause-first c)
