use Rattle.std.proofs.Common.{◌≡◌, List, ◌∷◌, [], map, length}
use Rattle.rp_geometry.specs.sets.Shape.{Part}
use Rattle.rp_model.specs.commands.Parts.{new_lot}
use Rattle.rp_history.specs.Parts.{new_lots}
use Rattle.rp_subdivide.specs.Children.{formed_child}
use Rattle.rp_subdivide.proofs.subdividing.children_born.Given as goal

-- the children so far are born
abbrev pub invariant-loop-id : goal.invariant-loop-id
invariant-loop-id g l = record {
  each : length l.births.items ≡ length l.forms.items;
  born : (view : g.row.F.Denot → List Part) → new_lots l.births.items (map view l.forms.items) ≡ map (λ c. new_lot l.layer c.id c.parts (l.origin ∷ [])) (map (formed_child view) l.yielded);
}
