use Rattle.std.proofs.Common.{◌≡◌, map, take}
use Rattle.std.specs.List.{AllByRecursion}
use Rattle.rp_geometry.specs.parts.Parts.{IsRegion}
use Rattle.rp_subdivide.specs.Children.{formed_children}
use Rattle.rp_parcels.specs.Register.{child_of}
use Rattle.rp_parcels.proofs.changes.formed.Given as goal

-- each child so far has its region
abbrev pub invariant-loop-child : goal.invariant-loop-child
invariant-loop-child l = record {
  each : formed_children (λ form. form) l.made ≡ map child_of (take l.child-index l.children);
  regions : AllByRecursion (λ c. IsRegion c.form) l.made.items;
}
