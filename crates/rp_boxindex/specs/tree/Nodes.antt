-- The view of a tree, and the invariant of each of its nodes.
use Rattle.std.specs.Prelude.{◌≡◌, ℕ, ◌+◌, ◌*◌, ◌^◌, ◌<◌, ◌≤◌, max, ℤ, Bool, not, ◌&&◌, int_lt, int_le, List, ◌∷◌, ◌++◌, length, Option, Some, None, Box}
use Rattle.std.specs.declared.alloc.Global.{Global}
use Rattle.rp_geometry.specs.Geometry.{IntegerBox}
use Rattle.rp_space.specs.Boxes.{integer_box}
use Rattle.rp_boxindex.specs.Boxes.{Entry}
use Rattle.rp_boxindex.specs.Counts.{count}
use Rattle.rp_boxindex.specs.declared.tree.Node.{Node}
use Rattle.rp_boxindex.specs.tree.Order.{AllAfter, IsBetween}
use Rattle.rp_boxindex.specs.tree.Views.{TreeView, empty_tree}

-- the entries of a node and of the nodes below it, in order
abbrev pub entries_of : Node → List Entry
entries_of n = n.left.entries ++ n.entry ∷ n.right.entries

-- the entry of a node, if there is one
abbrev pub entry_of : Option (Box Node Global) → Option Entry
entry_of None = None
entry_of (Some n) = Some n.value.entry

-- the view of a tree with the given root
abbrev pub view_of : Option (Box Node Global) → TreeView
view_of None = empty_tree
view_of (Some n) = record { entries = entries_of n.value; height = n.value.height }

-- the greatest x of an entry's box
abbrev pub high : Entry → ℤ
high e = (integer_box e.1).x2

-- the number is the greatest x of all boxes: no box has a greater one, and some box has it
abbrev pub IsTop : ℤ → List Entry → Type 0
IsTop top es = (count (λ x. int_lt top (high x)) es ≡ 0) × (0 < count (λ x. int_le top (high x)) es)

-- the second box is within the first, on each axis
abbrev pub is_within : IntegerBox → IntegerBox → Bool
is_within hull b = int_le hull.x1 b.x1 && int_le b.x2 hull.x2 && int_le hull.y1 b.y1 && int_le b.y2 hull.y2 && int_le hull.z1 b.z1 && int_le b.z2 hull.z2

-- all boxes of a list are within a box
abbrev pub AreWithin : IntegerBox → List Entry → Type 0
AreWithin hull es = count (λ e. not (is_within hull (integer_box e.1))) es ≡ 0

-- a tree of n entries has a height with 2 ^ height at most (n + 1) ^ 2
abbrev pub IsSlender : ℕ → ℕ → Type 0
IsSlender n height = 2 ^ height ≤ (n + 1) * (n + 1)

-- the two heights differ by at most the given number
abbrev pub DifferByAtMost : ℕ → ℕ → ℕ → Type 0
DifferByAtMost by l r = (l ≤ r + by) × (r ≤ l + by)

-- the tree has an entry between two sides, whose heights differ by at most one
pub record AreParts (tree left : TreeView) (e : Entry) (right : TreeView) : Type 0 where
  pub entries : tree.entries ≡ left.entries ++ e ∷ right.entries
  pub between : IsBetween left.entries e right.entries
  pub level : DifferByAtMost 1 left.height right.height
  pub height : tree.height ≡ max left.height right.height + 1

-- the first entry of a tree, and the tree of the others
pub record IsSplit (tree : TreeView) (first : Entry) (rest : TreeView) : Type 0 where
  pub entries : tree.entries ≡ first ∷ rest.entries
  pub after : AllAfter first rest.entries
  pub not_higher : rest.height ≤ tree.height
  pub at_most_one_lower : tree.height ≤ rest.height + 1

-- the invariant of each node of a tree: order, balance, height, greatest x and box
pub record IsSettled (n : Node) : Type 0 where
  pub between : IsBetween n.left.entries n.entry n.right.entries
  pub level : DifferByAtMost 1 n.left.height n.right.height
  pub height : n.height ≡ max n.left.height n.right.height + 1
  pub top : IsTop n.top (entries_of n)
  pub hull : AreWithin (integer_box n.hull) (entries_of n)
  pub slender : IsSlender (length (entries_of n)) n.height

-- the invariant of the root of a tree, if there is one
abbrev pub IsTree : Option (Box Node Global) → Type 0
IsTree None = Unit {0}
IsTree (Some n) = IsSettled n.value
