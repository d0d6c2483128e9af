-- What a change in one half of a cell does to the entries of its tree.
use Rattle.std.proofs.Common.{◌≡◌, ℕ, ◌+◌, Bool, true, false, cond, not, List, ◌∷◌, ◌++◌, Option, Some, None, Box, MatchOption, sym, ap, ◌∙◌, arith, subst}
use Rattle.std.specs.declared.alloc.Global.{Global}
use Rattle.std.specs.Option.{option_to_list}
use Rattle.rp_geometry.specs.Geometry.{IntegerBox}
use Rattle.rp_geometry.specs.parts.LeastBox.{box_union}
use Rattle.rp_space.specs.declared.bounds.IntBox.{IntBox}
use Rattle.rp_space.specs.Boxes.{integer_box}
use Rattle.rp_boxindex.specs.Boxes.{Entry}
use Rattle.rp_boxindex.specs.cells.Halves.{is_upper, AreHalves}
use Rattle.rp_boxindex.specs.cells.Nodes.{AreCells, AreSides, IsCell, cells_view, cell_entries}
use Rattle.rp_boxindex.specs.cells.Views.{CellsView}
use Rattle.rp_boxindex.specs.Counts.{count, SameCounts}
use Rattle.rp_boxindex.specs.declared.cells.CellNode.{CellNode}
use Rattle.rp_boxindex.specs.declared.middle.Middle.{Middle}
use Rattle.rp_boxindex.specs.declared.place.Place.{Place}
use Rattle.rp_boxindex.specs.tree.Nodes.{is_within, AreWithin}
use Rattle.rp_boxindex.specs.tree.Order.{place_of, is_at_place}
use Rattle.rp_boxindex.proofs.Counts.{count-append, count-none, count-round, when}
use Rattle.rp_boxindex.proofs.Changes.{is_not}
use Rattle.rp_boxindex.proofs.Hulls.{hull_of_node, are_within_further, union_first, union_second}
use Rattle.rp_boxindex.proofs.Order.{at_place}

-- of the entries of a tree, those that pass are the node's own or in one of the halves
pub count_sides : (p : Entry → Bool) {t lower upper : CellsView} {m : Middle} {e : Entry} → AreSides t lower m e upper → count p t.entries ≡ cond (p e) 1 0 + (count p lower.entries + count p upper.entries)
count_sides p {t} {lower} {upper} {m} {e} sides = ap (count p) sides.entries ∙ ap (λ n. cond (p e) 1 0 + n) (count-append p lower.entries upper.entries)

-- the same of a list of that form
count_of : (p : Entry → Bool) (r : List Entry) (e : Entry) (xs ys : List Entry) → r ≡ e ∷ (xs ++ ys) → count p r ≡ cond (p e) 1 0 + (count p xs + count p ys)
count_of p r e xs ys is = ap (count p) is ∙ ap (λ n. cond (p e) 1 0 + n) (count-append p xs ys)

-- an entry more in one half is one more in the tree
pub more_upper : {t lower upper : CellsView} {m : Middle} {e : Entry} (x : Entry) (more r : List Entry) → AreSides t lower m e upper → SameCounts more (x ∷ upper.entries) → r ≡ e ∷ (lower.entries ++ more) → SameCounts r (x ∷ t.entries)
more_upper {t} {lower} {upper} {m} {e} x more r sides grown is p =
    let all = count_sides p sides in
    let new = count_of p r e lower.entries more is in
    let side = grown p in
    omega arith

pub more_lower : {t lower upper : CellsView} {m : Middle} {e : Entry} (x : Entry) (more r : List Entry) → AreSides t lower m e upper → SameCounts more (x ∷ lower.entries) → r ≡ e ∷ (more ++ upper.entries) → SameCounts r (x ∷ t.entries)
more_lower {t} {lower} {upper} {m} {e} x more r sides grown is p =
    let all = count_sides p sides in
    let new = count_of p r e more upper.entries is in
    let side = grown p in
    omega arith

-- an entry more in a half, by its place
halves_upper : {lower upper : List Entry} {m : Middle} (x : Entry) (more : List Entry) → AreHalves lower m upper → SameCounts more (x ∷ upper) → is_upper m (place_of x) ≡ true → AreHalves lower m more
halves_upper {lower} {upper} {m} x more halves grown up = record {
  below = halves.below;
  above =
      let side = grown (λ e. not (is_upper m (place_of e))) in
      let own = when (not (is_upper m (place_of x))) false (ap not up) in
      let rest = halves.above in
      omega arith;
}

halves_lower : {lower upper : List Entry} {m : Middle} (x : Entry) (more : List Entry) → AreHalves lower m upper → SameCounts more (x ∷ lower) → is_upper m (place_of x) ≡ false → AreHalves more m upper
halves_lower {lower} {upper} {m} x more halves grown low = record {
  below =
      let side = grown (λ e. is_upper m (place_of e)) in
      let own = when (is_upper m (place_of x)) false low in
      let rest = halves.below in
      omega arith;
  above = halves.above;
}

-- a box around all boxes of the tree and the new one is around all boxes of the new tree
hull_upper : (s : IntegerBox) (x e : Entry) (lower upper more : List Entry) → is_within s (integer_box x.1) ≡ true → AreWithin s (e ∷ (lower ++ upper)) → SameCounts more (x ∷ upper) → AreWithin s (e ∷ (lower ++ more))
hull_upper s x e lower upper more own around grown =
    let p : Entry → Bool = λ y. not (is_within s (integer_box y.1)) in
    let all : cond {A = ℕ} (p e) 1 0 + count p (lower ++ upper) ≡ 0 = around in
    let here : cond {A = ℕ} (p x) 1 0 ≡ 0 = when (p x) false (ap not own) in
    let side : count p more ≡ cond {A = ℕ} (p x) 1 0 + count p upper = grown p in
    let before = count-append p lower upper in
    let after = count-append p lower more in
    omega arith

hull_lower : (s : IntegerBox) (x e : Entry) (lower upper more : List Entry) → is_within s (integer_box x.1) ≡ true → AreWithin s (e ∷ (lower ++ upper)) → SameCounts more (x ∷ lower) → AreWithin s (e ∷ (more ++ upper))
hull_lower s x e lower upper more own around grown =
    let p : Entry → Bool = λ y. not (is_within s (integer_box y.1)) in
    let all : cond {A = ℕ} (p e) 1 0 + count p (lower ++ upper) ≡ 0 = around in
    let here : cond {A = ℕ} (p x) 1 0 ≡ 0 = when (p x) false (ap not own) in
    let side : count p more ≡ cond {A = ℕ} (p x) 1 0 + count p lower = grown p in
    let before = count-append p lower upper in
    let after = count-append p more upper in
    omega arith

-- the union of a hull and of an entry's box is around both
pub wide_union : (u hull : IntBox) (x : Entry) → integer_box u ≡ box_union (integer_box hull) (integer_box x.1) → (is_within (integer_box u) (integer_box hull) ≡ true) × (is_within (integer_box u) (integer_box x.1) ≡ true)
wide_union u hull x is =
    let b : IntegerBox = integer_box hull in
    let e : IntegerBox = integer_box x.1 in
    (subst (λ (v : IntegerBox). is_within v b ≡ true) (sym is) (union_first b e), subst (λ (v : IntegerBox). is_within v e ≡ true) (sym is) (union_second b e))

-- a node with another hull
abbrev pub with_hull : CellNode → IntBox → CellNode
with_hull n u = record { lower = n.lower; entry = n.entry; middle = n.middle; hull = u; upper = n.upper }

-- a node keeps what holds of it when its hull grows
pub settled_wider : (n : CellNode) (u : IntBox) → IsCell n → is_within (integer_box u) (integer_box n.hull) ≡ true → IsCell (with_hull n u)
settled_wider n u settled wide = record { halves = settled.halves; hull = are_within_further (integer_box u) (integer_box n.hull) (cell_entries n) wide settled.hull }

-- a node keeps what holds of it when a half has an entry more, by its place, whose box is in the hull
pub settled_upper : (n : CellNode) (x : Entry) (more : CellsView) → IsCell n → is_within (integer_box n.hull) (integer_box x.1) ≡ true → SameCounts more.entries (x ∷ n.upper.entries) → is_upper n.middle (place_of x) ≡ true → IsCell (record { lower = n.lower; entry = n.entry; middle = n.middle; hull = n.hull; upper = more })
settled_upper n x more settled own grown up = record {
  halves = halves_upper x more.entries settled.halves grown up;
  hull = hull_upper (integer_box n.hull) x n.entry n.lower.entries n.upper.entries more.entries own settled.hull grown;
}

pub settled_lower : (n : CellNode) (x : Entry) (more : CellsView) → IsCell n → is_within (integer_box n.hull) (integer_box x.1) ≡ true → SameCounts more.entries (x ∷ n.lower.entries) → is_upper n.middle (place_of x) ≡ false → IsCell (record { lower = more; entry = n.entry; middle = n.middle; hull = n.hull; upper = n.upper })
settled_lower n x more settled own grown low = record {
  halves = halves_lower x more.entries settled.halves grown low;
  hull = hull_lower (integer_box n.hull) x n.entry n.lower.entries n.upper.entries more.entries own settled.hull grown;
}

-- the sides of a tree whose root has a node
pub sides_of : (t : CellsView) (root : Option (Box CellNode Global)) (held : Box CellNode Global) → cells_view root ≡ t → root ≡ Some held → AreCells root → AreSides t held.value.lower held.value.middle held.value.entry held.value.upper
sides_of t root held view is cells =
    let settled : IsCell held.value = subst AreCells is cells in
    record {
      entries = sym (ap (λ (v : CellsView). v.entries) view) ∙ ap (λ (r : Option (Box CellNode Global)). (cells_view r).entries) is;
      halves = settled.halves;
    }

-- what is gone from one half is gone from the tree
pub gone_upper : {t lower upper : CellsView} {m : Middle} {e : Entry} (gone : Option Entry) (less r : List Entry) → AreSides t lower m e upper → SameCounts upper.entries (option_to_list gone ++ less) → r ≡ e ∷ (lower.entries ++ less) → SameCounts t.entries (option_to_list gone ++ r)
gone_upper {t} {lower} {upper} {m} {e} gone less r sides shrunk is p =
    let all = count_sides p sides in
    let new = count_of p r e lower.entries less is in
    let side = shrunk p in
    let one = count-append p (option_to_list gone) less in
    let two = count-append p (option_to_list gone) r in
    omega arith

pub gone_lower : {t lower upper : CellsView} {m : Middle} {e : Entry} (gone : Option Entry) (less r : List Entry) → AreSides t lower m e upper → SameCounts lower.entries (option_to_list gone ++ less) → r ≡ e ∷ (less ++ upper.entries) → SameCounts t.entries (option_to_list gone ++ r)
gone_lower {t} {lower} {upper} {m} {e} gone less r sides shrunk is p =
    let all = count_sides p sides in
    let new = count_of p r e less upper.entries is in
    let side = shrunk p in
    let one = count-append p (option_to_list gone) less in
    let two = count-append p (option_to_list gone) r in
    omega arith

-- an entry at a place has that place
has_place : (p : Place) (e : Entry) → is_at_place p e ≡ true → p ≡ place_of e
has_place p e h = let there = at_place p e h in λ i. record { low = there.low i; id = there.id i }

-- nothing is at a place of the other half
none_lower : (p : Place) (m : Middle) (lower : List Entry) → is_upper m p ≡ true → count (λ e. is_upper m (place_of e)) lower ≡ 0 → count (is_at_place p) lower ≡ 0
none_lower p m lower up below = count-none (is_at_place p) (λ (e : Entry). is_upper m (place_of e)) (λ e h. subst (λ (q : Place). is_upper m q ≡ true) (has_place p e h) up) lower below

none_upper : (p : Place) (m : Middle) (upper : List Entry) → is_upper m p ≡ false → count (λ e. not (is_upper m (place_of e))) upper ≡ 0 → count (is_at_place p) upper ≡ 0
none_upper p m upper low above = count-none (is_at_place p) (λ (e : Entry). not (is_upper m (place_of e))) (λ e h. is_not (is_upper m (place_of e)) (λ k. sym (subst (λ (q : Place). is_upper m q ≡ false) (has_place p e h) low) ∙ k)) upper above

-- what is not in the half of its place is nowhere in the tree
pub nowhere_upper : {t lower upper : CellsView} {m : Middle} {e : Entry} (p : Place) (gone : Option Entry) → AreSides t lower m e upper → is_at_place p e ≡ false → is_upper m p ≡ true → MatchOption gone (count (is_at_place p) upper.entries ≡ 0) (λ x. is_at_place p x ≡ true) → MatchOption gone (count (is_at_place p) t.entries ≡ 0) (λ x. is_at_place p x ≡ true)
nowhere_upper {t} {lower} {upper} {m} {e} p (Some x) sides apart up there = there
nowhere_upper {t} {lower} {upper} {m} {e} p None sides apart up none =
    let all = count_sides (is_at_place p) sides in
    let own = when (is_at_place p e) false apart in
    let other = none_lower p m lower.entries up sides.halves.below in
    omega arith

pub nowhere_lower : {t lower upper : CellsView} {m : Middle} {e : Entry} (p : Place) (gone : Option Entry) → AreSides t lower m e upper → is_at_place p e ≡ false → is_upper m p ≡ false → MatchOption gone (count (is_at_place p) lower.entries ≡ 0) (λ x. is_at_place p x ≡ true) → MatchOption gone (count (is_at_place p) t.entries ≡ 0) (λ x. is_at_place p x ≡ true)
nowhere_lower {t} {lower} {upper} {m} {e} p (Some x) sides apart low there = there
nowhere_lower {t} {lower} {upper} {m} {e} p None sides apart low none =
    let all = count_sides (is_at_place p) sides in
    let own = when (is_at_place p e) false apart in
    let other = none_upper p m upper.entries low sides.halves.above in
    omega arith

-- what the lower half keeps when it gives a node is, with the node, the lower half
pub united : {t first second : CellsView} {inner : Middle} {e : Entry} (rest upper r : List Entry) → AreSides t first inner e second → SameCounts rest (first.entries ++ second.entries) → r ≡ e ∷ (rest ++ upper) → SameCounts r (t.entries ++ upper)
united {t} {first} {second} {inner} {e} rest upper r sides same is p =
    let all = count_sides p sides in
    let kept = same p in
    let both = count-append p first.entries second.entries in
    let new = count_of p r e rest upper is in
    let whole = count-append p t.entries upper in
    omega arith

-- a box around the node's box and the boxes of both halves
pub hull_of_cell : (s hull : IntegerBox) (e : Entry) (lower upper : List Entry) → is_within s (integer_box e.1) ≡ true → AreWithin s lower → is_within hull s ≡ true → AreWithin hull upper → AreWithin hull (e ∷ (lower ++ upper))
hull_of_cell s hull e lower upper own below more above =
    let p : Entry → Bool = λ y. not (is_within hull (integer_box y.1)) in
    let around : AreWithin hull (lower ++ e ∷ upper) = hull_of_node s hull lower e upper own below more above in
    let sum = count-round p lower e upper in
    let both = count-append p lower upper in
    omega arith
