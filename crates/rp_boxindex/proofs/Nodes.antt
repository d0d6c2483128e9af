-- What holds at the nodes of a tree.
use Rattle.std.proofs.Common.{◌≡◌, ℕ, ◌+◌, ◌<◌, max, ℤ, Bool, true, false, cond, ◌⊎◌, inl, inr, int_lt, int_le, List, ◌∷◌, ◌++◌, length, ap, ◌∙◌, arith, length-append}
use Rattle.rp_space.specs.Boxes.{integer_box}
use Rattle.rp_boxindex.specs.Counts.{count}
use Rattle.rp_boxindex.specs.Boxes.{Entry}
use Rattle.rp_boxindex.specs.tree.Nodes.{high, IsTop, AreWithin, IsSlender, DifferByAtMost, IsSettled, entries_of}
use Rattle.rp_boxindex.specs.tree.Order.{IsBetween}
use Rattle.rp_boxindex.specs.declared.tree.Node.{Node}
use Rattle.rp_boxindex.proofs.Counts.{count-round, count-none, when}
use Rattle.rp_boxindex.proofs.Ints.{le_self, le_then_lt, le_then_le, not_lt}
use Rattle.rp_boxindex.proofs.Slender.{slender_node}

-- a greater number is above all that a smaller one is above
pub none_higher : (x top : ℤ) (es : List Entry) → int_le x top ≡ true → count (λ e. int_lt x (high e)) es ≡ 0 → count (λ e. int_lt top (high e)) es ≡ 0
none_higher x top es le none = count-none (λ (e : Entry). int_lt top (high e)) (λ (e : Entry). int_lt x (high e)) (λ e h. le_then_lt x top (high e) le h) es none

-- the greater one of a number and of the greatest x of the boxes
pub record IsTopWith (top x : ℤ) (es : List Entry) : Type 0 where
  pub above : int_le top x ≡ true
  pub all : count (λ e. int_lt x (high e)) es ≡ 0
  pub one : (x ≡ top) ⊎ (0 < count (λ e. int_le x (high e)) es)

one_below : (s x : ℤ) (left : List Entry) (e : Entry) (right : List Entry) → (s ≡ high e) ⊎ (0 < count (λ y. int_le s (high y)) left) → x ≡ s → 0 < count (λ y. int_le x (high y)) (left ++ e ∷ right)
one_below s x left e right (inl own) same =
    let p : Entry → Bool = λ y. int_le x (high y) in
    let here : cond {A = ℕ} (p e) 1 0 ≡ 1 = when (p e) true (rw (same, own) (le_self (high e))) in
    let sum = count-round p left e right in
    omega arith
one_below s x left e right (inr there) same =
    let p : Entry → Bool = λ y. int_le x (high y) in
    let q : Entry → Bool = λ y. int_le s (high y) in
    let alike : count p left ≡ count q left = ap (λ t. count (λ (y : Entry). int_le t (high y)) left) same in
    let sum = count-round p left e right in
    omega arith

one_of : (s x : ℤ) (left : List Entry) (e : Entry) (right : List Entry) → (s ≡ high e) ⊎ (0 < count (λ y. int_le s (high y)) left) → (x ≡ s) ⊎ (0 < count (λ y. int_le x (high y)) right) → 0 < count (λ y. int_le x (high y)) (left ++ e ∷ right)
one_of s x left e right below (inl same) = one_below s x left e right below same
one_of s x left e right below (inr there) =
    let p : Entry → Bool = λ y. int_le x (high y) in
    let sum = count-round p left e right in
    omega arith

-- the top of a node from those of its sides
pub top_of_node : (s x : ℤ) (left : List Entry) (e : Entry) (right : List Entry) → IsTopWith (high e) s left → IsTopWith s x right → IsTop x (left ++ e ∷ right)
top_of_node s x left e right low up =
    let p : Entry → Bool = λ y. int_lt x (high y) in
    let on_left : count p left ≡ 0 = none_higher s x left up.above low.all in
    let here : cond {A = ℕ} (p e) 1 0 ≡ 0 = when (p e) false (not_lt (high e) x (le_then_le (high e) s x low.above up.above)) in
    let sum = count-round p left e right in
    let all = up.all in
    let none : count p (left ++ e ∷ right) ≡ 0 = omega arith in
    (none, one_of s x left e right low.one up.one)

-- what holds at a node of two slender sides
pub settled_node : (n : Node) → IsBetween n.left.entries n.entry n.right.entries → DifferByAtMost 1 n.left.height n.right.height → n.height ≡ max n.left.height n.right.height + 1 → IsTop n.top (entries_of n) → AreWithin (integer_box n.hull) (entries_of n) → IsSlender (length n.left.entries) n.left.height → IsSlender (length n.right.entries) n.right.height → IsSettled n
settled_node n between level height top hull left right =
    let size : length (entries_of n) ≡ length n.left.entries + (1 + length n.right.entries) = length-append n.left.entries (n.entry ∷ n.right.entries) ∙ omega arith in
    record {
      between = between;
      level = level;
      height = height;
      top = top;
      hull = hull;
      slender = rw height (slender_node (length n.left.entries) (length n.right.entries) n.left.height n.right.height (length (entries_of n)) left right level.0 level.1 size);
    }
