use Rattle.std.proofs.Common.{◌≡◌, ◌++◌, List, Some, sym, ◌∙◌}
use Rattle.std.specs.Prelude.{IsTrue}
use Rattle.rp_algebra.proofs.Listed.{all_append}
use Rattle.rp_algebra.proofs.Options.{if_some}
use Rattle.rp_geometry.specs.Geometry.{RationalPoint, HalfSpace, IsHalfSpace}
use Rattle.rp_geometry.specs.searches.Certificate.{Multiple, is_outside_certificate}
use Rattle.rp_geometry.specs.searches.Elimination.{first_outside}
use Rattle.rp_geometry.specs.laws.CellLaws.{IsSolution, AreHalfSpaces}
use Rattle.rp_elim.proofs.Between.{first_between}
use Rattle.rp_elim.proofs.FewTerms.{few_are_first, few_pass, few_leave_none}
use Rattle.rp_elim.proofs.search.first_outside_between.Goals as goal

pub returns-clause-found : goal.returns-clause-found
returns-clause-found c =
    c.if_found.ensures ∙ c.first_between-is_found.ensures
    ∙ sym (first_between c.args.strict c.args.first.now c.args.second.now c.keep_bounds.ensures c.keep_bounds-2.ensures c.requires.first c.requires.second)

-- both cells together
abbrev both : (c : goal.After-if_found) → List HalfSpace
both c = c.args.first.now ++ c.args.second.now

-- they keep their bounds
bounds : (c : goal.After-if_found) → AreHalfSpaces (both c)
bounds c = all_append IsHalfSpace c.args.first.now c.args.second.now c.keep_bounds.ensures c.keep_bounds-2.ensures

-- it is the first of all
first : (c : goal.After-if_found) (terms : List Multiple) → c.if_found.result ≡ Some terms → first_outside c.args.strict (both c) ≡ Some terms
first c terms e = few_are_first c.args.strict (both c) terms (sym (returns-clause-found c) ∙ e)

pub returns-clause-first : goal.returns-clause-first
returns-clause-first c = if_some (λ terms. first_outside c.args.strict (both c) ≡ Some terms) c.if_found.result (first c)

pub returns-clause-passes : goal.returns-clause-passes
returns-clause-passes c =
    if_some (λ terms. IsTrue (is_outside_certificate c.args.strict (both c) terms)) c.if_found.result (λ terms e. few_pass c.args.strict (both c) (bounds c) terms (first c terms e))

pub returns-clause-none : goal.returns-clause-none
returns-clause-none c =
    if_some (λ terms. (p : RationalPoint) → ¬ IsSolution c.args.strict (both c) p) c.if_found.result (λ terms e. few_leave_none c.args.strict (both c) (bounds c) terms (first c terms e))
