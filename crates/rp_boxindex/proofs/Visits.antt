-- A visit of a node: what is taken, and how many steps it takes. s, t, u and v are counts of steps, in order: t is that after the visit of the node and the turn of the walk.
use Rattle.std.proofs.Common.{◌≡◌, ℕ, ◌+◌, ◌*◌, ◌≤◌, max, ℤ, Bool, true, false, cond, not, List, [], ◌∷◌, ◌++◌, refl, sym, ap, ◌∙◌, arith, append-nil}
use Rattle.rp_algebra.proofs.Tests.{and_fails}
use Rattle.rp_geometry.specs.Geometry.{IntegerBox}
use Rattle.rp_boxindex.specs.Counts.{count}
use Rattle.rp_boxindex.specs.Bound.{meets_on_x}
use Rattle.rp_boxindex.specs.Boxes.{Entry}
use Rattle.rp_boxindex.specs.Meeting.{is_below, do_meet, ids_that_meet}
use Rattle.rp_boxindex.specs.tree.Cost.{AllLow, most_steps, most_steps_low}
use Rattle.rp_boxindex.specs.tree.Nodes.{high, IsTop, AreWithin, AreParts}
use Rattle.rp_boxindex.specs.tree.Order.{low}
use Rattle.rp_boxindex.specs.tree.Taking.{taken}
use Rattle.rp_boxindex.specs.tree.Views.{TreeView}
use Rattle.rp_boxindex.proofs.Bounds.{one_side, one_side_low, two_sides, two_sides_low}
use Rattle.rp_boxindex.proofs.Changes.{count_parts}
use Rattle.rp_boxindex.proofs.Pruned.{none_reaches, none_after, low_before, some_meets, ids-none, ids-unmet, ids-append}
use Rattle.rp_boxindex.proofs.Hulls.{none_in_hull}
use Rattle.rp_boxindex.proofs.Counts.{when}
use Rattle.rp_boxindex.proofs.Taken.{taken-append}

-- the steps where the left side alone is visited, of any tree and then of a low one
pub only_left : (c : Bool) (b : IntegerBox) {tree left right : TreeView} {e : Entry} → AreParts tree left e right → (s t u : ℕ) → t ≤ s + 1 + 2 * count (meets_on_x c b) (e ∷ []) → u ≤ t + most_steps (count (meets_on_x c b) left.entries) left.height → u ≤ s + most_steps (count (meets_on_x c b) tree.entries) tree.height
only_left c b {tree} {left} {right} {e} parts s t u step le =
    let all = count_parts (meets_on_x c b) parts in
    let height = parts.height in
    let k = count (meets_on_x c b) tree.entries in
    let l = count (meets_on_x c b) left.entries in
    let same : most_steps l left.height ≤ most_steps l left.height = omega arith in
    let o : ℕ = cond (meets_on_x c b e) 1 0 in
    let less : l + o ≤ k = omega arith in
    let lower : left.height + 1 ≤ tree.height = omega arith in
    let bound : most_steps l left.height + 1 + 2 * o ≤ most_steps k tree.height = one_side (most_steps l left.height) k l o tree.height left.height same less lower in
    omega arith

-- the steps where no side is visited, of any tree and then of a low one
pub no_side : (c : Bool) (b : IntegerBox) {tree left right : TreeView} {e : Entry} → AreParts tree left e right → (s t : ℕ) → t ≤ s + 1 + 2 * count (meets_on_x c b) (e ∷ []) → t ≤ s + most_steps (count (meets_on_x c b) tree.entries) tree.height
no_side c b {tree} {left} {right} {e} parts s t step =
    let all = count_parts (meets_on_x c b) parts in
    let k = count (meets_on_x c b) tree.entries in
    let o : ℕ = cond (meets_on_x c b e) 1 0 in
    let less : o ≤ k = omega arith in
    omega arith

pub no_side_low : (c : Bool) (b : IntegerBox) {tree left right : TreeView} {e : Entry} → AreParts tree left e right → (s t : ℕ) → t ≤ s + 1 + 2 * count (meets_on_x c b) (e ∷ []) → t ≤ s + most_steps_low (count (meets_on_x c b) tree.entries) tree.height
no_side_low c b {tree} {left} {right} {e} parts s t step =
    let all = count_parts (meets_on_x c b) parts in
    let k = count (meets_on_x c b) tree.entries in
    let o : ℕ = cond (meets_on_x c b e) 1 0 in
    let less : o ≤ k = omega arith in
    omega arith

-- the left side of a low tree is low, and so is the right one
low_left : (c : Bool) (b : IntegerBox) {tree left right : TreeView} {e : Entry} → AreParts tree left e right → AllLow c b tree.entries → AllLow c b left.entries
low_left c b {tree} {left} {right} {e} parts all = let sum = count_parts (λ (x : Entry). not (is_below c (low x) b.x2)) parts in omega arith

low_right : (c : Bool) (b : IntegerBox) {tree left right : TreeView} {e : Entry} → AreParts tree left e right → AllLow c b tree.entries → AllLow c b right.entries
low_right c b {tree} {left} {right} {e} parts all = let sum = count_parts (λ (x : Entry). not (is_below c (low x) b.x2)) parts in omega arith

pub only_left_low : (c : Bool) (b : IntegerBox) {tree left right : TreeView} {e : Entry} (top : ℤ) → AreParts tree left e right → IsTop top tree.entries → is_below c b.x1 top ≡ true → (s t u : ℕ) → t ≤ s + 1 + 2 * count (meets_on_x c b) (e ∷ []) → (AllLow c b left.entries → u ≤ t + most_steps_low (count (meets_on_x c b) left.entries) left.height) → AllLow c b tree.entries → u ≤ s + most_steps_low (count (meets_on_x c b) tree.entries) tree.height
only_left_low c b {tree} {left} {right} {e} top parts is reach s t u step le low_all =
    let all = count_parts (meets_on_x c b) parts in
    let height = parts.height in
    let k = count (meets_on_x c b) tree.entries in
    let l = count (meets_on_x c b) left.entries in
    let some = some_meets c b top tree.entries is low_all reach in
    let steps = le (low_left c b parts low_all) in
    let same : most_steps_low l left.height ≤ most_steps_low l left.height = omega arith in
    let o : ℕ = cond (meets_on_x c b e) 1 0 in
    let less : l + o ≤ k = omega arith in
    let lower : left.height + 1 ≤ tree.height = omega arith in
    let bound : most_steps_low l left.height + 1 + 2 * o ≤ most_steps_low k tree.height = one_side_low (most_steps_low l left.height) k l o tree.height left.height same less some lower in
    omega arith

-- the steps where both sides are, of any tree and then of a low one
pub both_sides : (c : Bool) (b : IntegerBox) {tree left right : TreeView} {e : Entry} → AreParts tree left e right → is_below c (low e) b.x2 ≡ true → (s t u v : ℕ) → t ≤ s + 1 + 2 * count (meets_on_x c b) (e ∷ []) → (AllLow c b left.entries → u ≤ t + most_steps_low (count (meets_on_x c b) left.entries) left.height) → v ≤ u + most_steps (count (meets_on_x c b) right.entries) right.height → v ≤ s + most_steps (count (meets_on_x c b) tree.entries) tree.height
both_sides c b {tree} {left} {right} {e} parts early s t u v step le more =
    let all = count_parts (meets_on_x c b) parts in
    let height = parts.height in
    let k = count (meets_on_x c b) tree.entries in
    let l = count (meets_on_x c b) left.entries in
    let m = count (meets_on_x c b) right.entries in
    let steps = le (low_before c b e left.entries parts.between.before early) in
    let same : most_steps_low l left.height ≤ most_steps_low l left.height = omega arith in
    let same' : most_steps m right.height ≤ most_steps m right.height = omega arith in
    let o : ℕ = cond (meets_on_x c b e) 1 0 in
    let less : l + (o + m) ≤ k = omega arith in
    let gt : left.height ≤ max left.height right.height = omega arith in
    let ft : right.height ≤ max left.height right.height = omega arith in
    let lower : max left.height right.height + 1 ≤ tree.height = omega arith in
    let bound : most_steps_low l left.height + most_steps m right.height + 1 + 2 * o ≤ most_steps k tree.height = two_sides (most_steps_low l left.height) (most_steps m right.height) k l o m tree.height left.height right.height (max left.height right.height) same same' less gt ft lower in
    omega arith

pub both_sides_low : (c : Bool) (b : IntegerBox) {tree left right : TreeView} {e : Entry} (top : ℤ) → AreParts tree left e right → IsTop top tree.entries → is_below c b.x1 top ≡ true → (s t u v : ℕ) → t ≤ s + 1 + 2 * count (meets_on_x c b) (e ∷ []) → (AllLow c b left.entries → u ≤ t + most_steps_low (count (meets_on_x c b) left.entries) left.height) → (AllLow c b right.entries → v ≤ u + most_steps_low (count (meets_on_x c b) right.entries) right.height) → AllLow c b tree.entries → v ≤ s + most_steps_low (count (meets_on_x c b) tree.entries) tree.height
both_sides_low c b {tree} {left} {right} {e} top parts is reach s t u v step le more low_all =
    let all = count_parts (meets_on_x c b) parts in
    let height = parts.height in
    let k = count (meets_on_x c b) tree.entries in
    let l = count (meets_on_x c b) left.entries in
    let m = count (meets_on_x c b) right.entries in
    let some = some_meets c b top tree.entries is low_all reach in
    let steps = le (low_left c b parts low_all) in
    let steps' = more (low_right c b parts low_all) in
    let same : most_steps_low l left.height ≤ most_steps_low l left.height = omega arith in
    let same' : most_steps_low m right.height ≤ most_steps_low m right.height = omega arith in
    let o : ℕ = cond (meets_on_x c b e) 1 0 in
    let less : l + (o + m) ≤ k = omega arith in
    let gt : left.height ≤ max left.height right.height = omega arith in
    let ft : right.height ≤ max left.height right.height = omega arith in
    let lower : max left.height right.height + 1 ≤ tree.height = omega arith in
    let bound : most_steps_low l left.height + most_steps_low m right.height + 1 + 2 * o ≤ most_steps_low k tree.height = two_sides_low (most_steps_low l left.height) (most_steps_low m right.height) k l o m tree.height left.height right.height (max left.height right.height) same same' less some gt ft lower in
    omega arith

-- nothing is taken where no box reaches far enough
pub found_none : {S : Type 0} (after : S → ℕ → S) (taker : S) (c : Bool) (b : IntegerBox) (top : ℤ) (es : List Entry) → IsTop top es → is_below c b.x1 top ≡ false → taker ≡ taken after taker (ids_that_meet c b es)
found_none after taker c b top es is short = sym (ap (taken after taker) (ids-none c b es (none_reaches c b top es is short)))

-- nor where the hull does not meet the box
pub found_none_in_hull : {S : Type 0} (after : S → ℕ → S) (taker : S) (c : Bool) (b hull : IntegerBox) (es : List Entry) → AreWithin hull es → do_meet c b hull ≡ false → taker ≡ taken after taker (ids_that_meet c b es)
found_none_in_hull after taker c b hull es within apart = sym (ap (taken after taker) (ids-unmet c b es (none_in_hull c b hull es within apart)))

-- all is taken on the left where the node's box begins too late
pub found_left : {S : Type 0} (after : S → ℕ → S) (taker new : S) (c : Bool) (b : IntegerBox) {tree left right : TreeView} {e : Entry} → AreParts tree left e right → is_below c (low e) b.x2 ≡ false → new ≡ taken after taker (ids_that_meet c b left.entries) → new ≡ taken after taker (ids_that_meet c b tree.entries)
found_left after taker new c b {tree} {left} {right} {e} parts late is =
    let own : cond {A = ℕ} (meets_on_x c b e) 1 0 ≡ 0 = when (meets_on_x c b e) false (and_fails (is_below c b.x1 (high e)) (is_below c (low e) b.x2) late) in
    let rest = none_after c b e right.entries parts.between.after late in
    let none : count (meets_on_x c b) (e ∷ right.entries) ≡ 0 = omega arith in
    let whole : ids_that_meet c b tree.entries ≡ ids_that_meet c b left.entries = ap (ids_that_meet c b) parts.entries ∙ (ids-append c b left.entries (e ∷ right.entries) ∙ (ap (λ ids. ids_that_meet c b left.entries ++ ids) (ids-none c b (e ∷ right.entries) none) ∙ append-nil (ids_that_meet c b left.entries))) in
    is ∙ ap (taken after taker) (sym whole)

-- what is taken on the left, at the node and on the right
pub found_all : {S : Type 0} (after : S → ℕ → S) (taker new more all : S) (c : Bool) (b : IntegerBox) {tree left right : TreeView} {e : Entry} → AreParts tree left e right → new ≡ taken after taker (ids_that_meet c b left.entries) → more ≡ taken after new (ids_that_meet c b (e ∷ [])) → all ≡ taken after more (ids_that_meet c b right.entries) → all ≡ taken after taker (ids_that_meet c b tree.entries)
found_all after taker new more all c b {tree} {left} {right} {e} parts p q r =
    let own = ids_that_meet c b (e ∷ []) in
    let ls = ids_that_meet c b left.entries in
    let rs = ids_that_meet c b right.entries in
    let whole : ids_that_meet c b tree.entries ≡ ls ++ (own ++ rs) = ap (ids_that_meet c b) parts.entries ∙ (ids-append c b left.entries (e ∷ right.entries) ∙ ap (λ ids. ls ++ ids) (ids-append c b (e ∷ []) right.entries)) in
    rw (r, q, p, whole, taken-append after taker ls (own ++ rs), taken-append after (taken after taker ls) own rs) refl
