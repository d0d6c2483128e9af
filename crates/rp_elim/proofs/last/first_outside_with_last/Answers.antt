use Rattle.std.proofs.Common.{◌≡◌, List, Some, [], ◌∷◌, ◌++◌, sym, subst, ◌∙◌}
use Rattle.rp_algebra.proofs.Listed.{all_append}
use Rattle.rp_algebra.proofs.Options.{if_some}
use Rattle.rp_geometry.specs.Geometry.{RationalPoint, HalfSpace, IsHalfSpace}
use Rattle.rp_geometry.specs.searches.Certificate.{Multiple}
use Rattle.rp_geometry.specs.searches.Elimination.{first_outside}
use Rattle.rp_geometry.specs.laws.CellLaws.{AreHalfSpaces, IsSolution}
use Rattle.rp_elim.proofs.FewTerms.{few_leave_none}
use Rattle.rp_elim.proofs.LastTerms.{last_is_first}
use Rattle.rp_elim.proofs.last.first_outside_with_last.Goals as goal

-- it is the first of all
first : (c : goal.After-if_found) (terms : List Multiple) → c.if_found.result ≡ Some terms → first_outside c.args.strict (c.args.others.now ++ c.args.last.now ∷ []) ≡ Some terms
first c terms e = last_is_first c.args.strict c.args.others.now c.args.last.now c.keep_bounds.ensures c.requires terms (sym (c.if_found.ensures ∙ c.first_with_last-is_found.ensures) ∙ e)

pub returns-clause-first : goal.returns-clause-first
returns-clause-first c = if_some (λ terms. first_outside c.args.strict (c.args.others.now ++ c.args.last.now ∷ []) ≡ Some terms) c.if_found.result (first c)

pub returns-clause-none : goal.returns-clause-none
returns-clause-none c =
    let cell = c.args.others.now ++ c.args.last.now ∷ [] in
    let bounds : AreHalfSpaces cell = all_append IsHalfSpace c.args.others.now (c.args.last.now ∷ []) c.keep_bounds.ensures (subst (λ (h : HalfSpace). IsHalfSpace h) c.numbers.ensures.numbers c.numbers.ensures.small, tt) in
    if_some (λ terms. (p : RationalPoint) → ¬ IsSolution c.args.strict cell p) c.if_found.result (λ terms e. few_leave_none c.args.strict cell bounds terms (first c terms e))
