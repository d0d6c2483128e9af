use Rattle.std.proofs.Common.{◌≤◌, ◌∷◌, [], ◌++◌, List, length, length-append, sym, ap, ◌∙◌, subst, arith}
use Rattle.std.proofs.lemmas.List.{take-append-le}
use Rattle.rp_geometry.specs.Geometry.{HalfSpace}
use Rattle.rp_geometry.specs.sets.Shape.{shape_of_cell}
use Rattle.rp_geometry.specs.sets.Sets.{IsNonempty}
use Rattle.rp_cell.specs.Held.{IsHeld}
use Rattle.rp_cell.proofs.held.Held.add.Goals as goal

pub invariant_of-self : goal.invariant_of-self
invariant_of-self c =
    let cell = c.self.inside.cell.items in
    let few = subst (λ (hs : List HalfSpace). length hs ≤ 63) (sym c.self.view_is) (omega (arith, c.requires)) in
    let grown = c.self.invariant.front in
    subst (λ (hs : List HalfSpace). IsHeld hs c.add_if-self-inside.new.clip c.add_if-self-inside.result c.self.inside.inner) (sym c.push.ensures.items) (record {
      few = omega (arith, few, length-append cell (c.args.half ∷ []));
      same = λ e. c.add_if-self-inside.ensures.added e ∙ ap (λ (hs : List HalfSpace). hs ++ c.args.half ∷ []) (c.self.invariant.same (c.add_if-self-inside.ensures.was e));
      front = omega (arith, grown, length-append cell (c.args.half ∷ []));
      inside = λ l. subst (λ (hs : List HalfSpace). IsNonempty (shape_of_cell hs)) (sym (take-append-le c.self.inside.inner cell (c.args.half ∷ []) grown)) (c.self.invariant.inside l);
    })
