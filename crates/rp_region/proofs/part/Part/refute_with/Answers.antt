use Rattle.std.proofs.Common.{◌≡◌, ◌++◌, List, sym, ap, ◌∙◌, subst}
use Rattle.std.specs.Prelude.{IfSome}
use Rattle.rp_geometry.specs.Geometry.{HalfSpace}
use Rattle.rp_geometry.specs.sets.Shape.{Part, shape_of_cell}
use Rattle.rp_geometry.specs.sets.Sets.{IsNonempty}
use Rattle.rp_geometry.specs.searches.ProofLine.{out_line, strict_line}
use Rattle.rp_region.proofs.part.Part.refute_with.Goals as goal

pub refute_between-requires-clause-first : goal.refute_between-requires-clause-first
refute_between-requires-clause-first c = subst (λ (hs : List HalfSpace). IsNonempty (shape_of_cell hs)) (sym c.items.ensures) c.self.invariant.nonempty

pub refute_between-requires-clause-second : goal.refute_between-requires-clause-second
refute_between-requires-clause-second c = subst (λ (hs : List HalfSpace). IsNonempty (shape_of_cell hs)) (sym c.items-2.ensures) c.other.invariant.nonempty

pub returns : goal.returns
returns c =
    subst (λ (hs : List HalfSpace). IfSome c.refute_between.result (λ terms. out_line terms ≡ strict_line hs))
    (λ i. (c.items.ensures ∙ ap (λ (p : Part). p.cell) c.self.view_is) i ++ (c.items-2.ensures ∙ ap (λ (p : Part). p.cell) c.other.view_is) i) c.refute_between.ensures
