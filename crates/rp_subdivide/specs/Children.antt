-- The children of a subdivision.
use Rattle.std.specs.Prelude.{◌≤◌, List, map, length}
use Rattle.rp_geometry.specs.sets.Shape.{Part}
use Rattle.rp_geometry.specs.parts.Parts.{most_parts}
use Rattle.rp_model.specs.commands.Subdivide.{FormedChild}
use Rattle.rp_lists.specs.Listed.{Listed}
use Rattle.rp_subdivide.specs.declared.child.Child.{Child}

-- the child of the model for a child of the code
abbrev pub formed_child : {F : Type 0} → (F → List Part) → Child F → FormedChild
formed_child view c = record { id = c.id; parts = view c.form }

-- the children of the model for children of the code
abbrev pub formed_children : {F : Type 0} → (F → List Part) → Listed (Child F) → List FormedChild
formed_children view children = map (formed_child view) children.items

-- the form of the child has at most 1,024 parts
abbrev pub IsShort : {F : Type 0} → (F → List Part) → Child F → Type 0
IsShort view c = length (view c.form) ≤ most_parts
