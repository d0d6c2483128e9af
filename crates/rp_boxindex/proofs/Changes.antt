-- What a change on one side of a node does to the entries of its tree.
use Rattle.std.proofs.Common.{◌≡◌, ◌+◌, ◌≤◌, Bool, true, false, cond, not, ◌&&◌, List, [], ◌∷◌, ◌++◌, Option, Some, None, MatchOption, refl, sym, ap, ◌∙◌, arith, subst}
use Rattle.std.specs.Option.{option_to_list}
use Rattle.rp_boxindex.specs.Counts.{count, SameCounts}
use Rattle.rp_boxindex.specs.Boxes.{Entry}
use Rattle.rp_boxindex.specs.declared.place.Place.{Place}
use Rattle.rp_boxindex.specs.tree.Nodes.{AreParts, IsSplit}
use Rattle.rp_boxindex.specs.tree.Order.{place_of, precedes, is_before, is_at_place, AllBefore, AllAfter, IsBetween}
use Rattle.rp_boxindex.specs.tree.Views.{TreeView}
use Rattle.rp_boxindex.proofs.Counts.{count-round, count-append, count-none, false_not_true, when, not_counted}
use Rattle.rp_boxindex.proofs.Order.{precedes-trans, before_parts, after_parts, before_later, after_join, after_earlier, not_both, not_own}

-- of the entries of a tree, those that pass are on the left, in the middle or on the right
pub count_parts : (p : Entry → Bool) {t left right : TreeView} {e : Entry} → AreParts t left e right → count p t.entries ≡ count p left.entries + (cond (p e) 1 0 + count p right.entries)
count_parts p {t} {left} {right} {e} parts = ap (count p) parts.entries ∙ count-round p left.entries e right.entries

-- an entry more on one side is one more in the tree
pub more_left : {t left right : TreeView} {e : Entry} (x : Entry) (more r : List Entry) → AreParts t left e right → SameCounts more (x ∷ left.entries) → r ≡ more ++ e ∷ right.entries → SameCounts r (x ∷ t.entries)
more_left {t} {left} {right} {e} x more r parts grown is p =
    let all = count_parts p parts in
    let new : count p r ≡ count p more + (cond (p e) 1 0 + count p right.entries) = ap (count p) is ∙ count-round p more e right.entries in
    let side = grown p in
    omega arith

pub more_right : {t left right : TreeView} {e : Entry} (x : Entry) (more r : List Entry) → AreParts t left e right → SameCounts more (x ∷ right.entries) → r ≡ left.entries ++ e ∷ more → SameCounts r (x ∷ t.entries)
more_right {t} {left} {right} {e} x more r parts grown is p =
    let all = count_parts p parts in
    let new : count p r ≡ count p left.entries + (cond (p e) 1 0 + count p more) = ap (count p) is ∙ count-round p left.entries e more in
    let side = grown p in
    omega arith

-- a place that is free in a tree is free in its parts
pub free_left : {t left right : TreeView} {e : Entry} (p : Place) → AreParts t left e right → count (is_at_place p) t.entries ≡ 0 → count (is_at_place p) left.entries ≡ 0
free_left {t} {left} {right} {e} p parts free = let all = count_parts (is_at_place p) parts in omega arith

pub free_right : {t left right : TreeView} {e : Entry} (p : Place) → AreParts t left e right → count (is_at_place p) t.entries ≡ 0 → count (is_at_place p) right.entries ≡ 0
free_right {t} {left} {right} {e} p parts free = let all = count_parts (is_at_place p) parts in omega arith

other_way : (a b : Bool) → a ≡ false → (not a && not b) ≡ false → b ≡ true
other_way true b h k = absurd (false_not_true (sym h))
other_way false true h k = refl
other_way false false h k = absurd (false_not_true (sym k))

-- an entry that is not before the node's, and whose place is free, is after it
after_node : {t left right : TreeView} {e : Entry} (x : Entry) → AreParts t left e right → count (is_at_place (place_of x)) t.entries ≡ 0 → is_before x e ≡ false → is_before e x ≡ true
after_node {t} {left} {right} {e} x parts free h =
    let all = count_parts (is_at_place (place_of x)) parts in
    let own : is_at_place (place_of x) e ≡ false = not_counted (is_at_place (place_of x) e) 0 (omega arith) in
    other_way (is_before x e) (is_before e x) h own

-- the node's entry stays between its sides where a later one goes to the right
pub between_right : {t left right : TreeView} {e : Entry} (x : Entry) (more : List Entry) → AreParts t left e right → count (is_at_place (place_of x)) t.entries ≡ 0 → is_before x e ≡ false → SameCounts more (x ∷ right.entries) → IsBetween left.entries e more
between_right {t} {left} {right} {e} x more parts free h grown =
    let after = after_node x parts free h in
    let side = grown (λ (y : Entry). not (is_before e y)) in
    let own = not_own (is_before e x) after in
    let old = parts.between.after in
    record { before = parts.between.before; after = omega arith }

-- the first entry of the left side is that of the tree
pub split_left : {t left right rest : TreeView} {e first : Entry} (r : TreeView) → AreParts t left e right → IsSplit left first rest → r.entries ≡ rest.entries ++ e ∷ right.entries → r.height ≤ t.height → t.height ≤ r.height + 1 → IsSplit t first r
split_left {t} {left} {right} {rest} {e} {first} r parts split is low high =
    let whole : AllBefore (first ∷ rest.entries) e = subst (λ es. AllBefore es e) split.entries parts.between.before in
    let front = before_parts [] first rest.entries e whole in
    record {
      entries = parts.entries ∙ (ap (λ es. es ++ e ∷ right.entries) split.entries ∙ ap (λ es. first ∷ es) (sym is));
      after = subst (AllAfter first) (sym is) (after_join first rest.entries e right.entries split.after front.1 (after_earlier first e right.entries front.1 parts.between.after));
      not_higher = low;
      at_most_one_lower = high;
    }

-- the node's entry stays between its sides where one of them has an entry less
pub between_less_left : {t left right : TreeView} {e : Entry} (gone : Option Entry) (less : List Entry) → AreParts t left e right → SameCounts left.entries (option_to_list gone ++ less) → IsBetween less e right.entries
between_less_left {t} {left} {right} {e} gone less parts shrunk =
    let late = λ (y : Entry). not (is_before y e) in
    let side = shrunk late in
    let parted = count-append late (option_to_list gone) less in
    let old = parts.between.before in
    record { before = omega arith; after = parts.between.after }

pub between_less_right : {t left right : TreeView} {e : Entry} (gone : Option Entry) (less : List Entry) → AreParts t left e right → SameCounts right.entries (option_to_list gone ++ less) → IsBetween left.entries e less
between_less_right {t} {left} {right} {e} gone less parts shrunk =
    let early = λ (y : Entry). not (is_before e y) in
    let side = shrunk early in
    let parted = count-append early (option_to_list gone) less in
    let old = parts.between.after in
    record { before = parts.between.before; after = omega arith }

-- what is gone on one side is gone from the tree
pub gone_left : {t left right : TreeView} {e : Entry} (gone : Option Entry) (less r : List Entry) → AreParts t left e right → SameCounts left.entries (option_to_list gone ++ less) → r ≡ less ++ e ∷ right.entries → SameCounts t.entries (option_to_list gone ++ r)
gone_left {t} {left} {right} {e} gone less r parts shrunk is p =
    let all = count_parts p parts in
    let new : count p r ≡ count p less + (cond (p e) 1 0 + count p right.entries) = ap (count p) is ∙ count-round p less e right.entries in
    let side = shrunk p in
    let one = count-append p (option_to_list gone) less in
    let two = count-append p (option_to_list gone) r in
    omega arith

pub gone_right : {t left right : TreeView} {e : Entry} (gone : Option Entry) (less r : List Entry) → AreParts t left e right → SameCounts right.entries (option_to_list gone ++ less) → r ≡ left.entries ++ e ∷ less → SameCounts t.entries (option_to_list gone ++ r)
gone_right {t} {left} {right} {e} gone less r parts shrunk is p =
    let all = count_parts p parts in
    let new : count p r ≡ count p left.entries + (cond (p e) 1 0 + count p less) = ap (count p) is ∙ count-round p left.entries e less in
    let side = shrunk p in
    let one = count-append p (option_to_list gone) less in
    let two = count-append p (option_to_list gone) r in
    omega arith

pub gone_own : {t left right : TreeView} {e : Entry} (r : List Entry) → AreParts t left e right → r ≡ left.entries ++ right.entries → SameCounts t.entries (e ∷ r)
gone_own {t} {left} {right} {e} r parts is p =
    let all = count_parts p parts in
    let new : count p r ≡ count p left.entries + count p right.entries = ap (count p) is ∙ count-append p left.entries right.entries in
    omega arith

-- a place before or after another is not the same
apart_if_before : (a b : Bool) → a ≡ true → (not a && not b) ≡ false
apart_if_before a b h = rw h

apart_if_after : (a b : Bool) → b ≡ true → (not a && not b) ≡ false
apart_if_after true b h = refl
apart_if_after false b h = rw h

pub is_not : (b : Bool) → (b ≡ true → false ≡ true) → not b ≡ true
is_not true h = absurd (false_not_true (h refl))
is_not false h = refl

-- an entry before the node's is not on its right
none_right : (p : Place) (e : Entry) (right : List Entry) → precedes p (place_of e) ≡ true → AllAfter e right → count (is_at_place p) right ≡ 0
none_right p e right h after = count-none (is_at_place p) (λ (y : Entry). not (is_before e y)) (λ y same. is_not (is_before e y) (λ k. sym (not_both (precedes p (place_of y)) (precedes (place_of y) p) same).0 ∙ precedes-trans p (place_of e) (place_of y) h k)) right after

-- nor is one after it on its left
none_left : (p : Place) (e : Entry) (left : List Entry) → precedes (place_of e) p ≡ true → AllBefore left e → count (is_at_place p) left ≡ 0
none_left p e left h before = count-none (is_at_place p) (λ (y : Entry). not (is_before y e)) (λ y same. is_not (is_before y e) (λ k. sym (not_both (precedes p (place_of y)) (precedes (place_of y) p) same).1 ∙ precedes-trans (place_of y) (place_of e) p k h)) left before

-- what is not on its side is nowhere in the tree
pub nowhere_left : {t left right : TreeView} {e : Entry} (p : Place) (gone : Option Entry) → AreParts t left e right → precedes p (place_of e) ≡ true → MatchOption gone (count (is_at_place p) left.entries ≡ 0) (λ x. is_at_place p x ≡ true) → MatchOption gone (count (is_at_place p) t.entries ≡ 0) (λ x. is_at_place p x ≡ true)
nowhere_left {t} {left} {right} {e} p (Some x) parts h there = there
nowhere_left {t} {left} {right} {e} p None parts h none =
    let all = count_parts (is_at_place p) parts in
    let own = when (is_at_place p e) false (apart_if_before (precedes p (place_of e)) (precedes (place_of e) p) h) in
    let other = none_right p e right.entries h parts.between.after in
    omega arith

pub nowhere_right : {t left right : TreeView} {e : Entry} (p : Place) (gone : Option Entry) → AreParts t left e right → precedes (place_of e) p ≡ true → MatchOption gone (count (is_at_place p) right.entries ≡ 0) (λ x. is_at_place p x ≡ true) → MatchOption gone (count (is_at_place p) t.entries ≡ 0) (λ x. is_at_place p x ≡ true)
nowhere_right {t} {left} {right} {e} p (Some x) parts h there = there
nowhere_right {t} {left} {right} {e} p None parts h none =
    let all = count_parts (is_at_place p) parts in
    let own = when (is_at_place p e) false (apart_if_after (precedes p (place_of e)) (precedes (place_of e) p) h) in
    let other = none_left p e left.entries h parts.between.before in
    omega arith

-- the first entry of the right side takes the place of the node's entry
pub united_between : {right rest : TreeView} {first : Entry} (left : List Entry) → ((e : Entry) × IsBetween left e right.entries) → IsSplit right first rest → IsBetween left first rest.entries
united_between {right} {rest} {first} left around split =
    let e = around.0 in
    let after : AllAfter e (first ∷ rest.entries) = subst (AllAfter e) split.entries around.1.after in
    let front = after_parts e [] first rest.entries after in
    record { before = before_later e first left front.1 around.1.before; after = split.after }
