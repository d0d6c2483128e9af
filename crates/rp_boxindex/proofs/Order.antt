-- Entries in the order of the tree, round an entry.
use Rattle.std.proofs.Common.{◌≡◌, ℕ, ◌<◌, ◌≤◌, ℤ, Bool, true, false, cond, not, ◌&&◌, ◌||◌, int_lt, ltb, List, ◌∷◌, ◌++◌, refl, sym, ap, ◌∙◌, arith, subst, ◌⊎◌, inl, inr}
use Rattle.std.specs.Ordering.{int_eq}
use Rattle.rp_boxindex.specs.Boxes.{Entry}
use Rattle.rp_boxindex.specs.declared.place.Place.{Place}
use Rattle.rp_boxindex.specs.tree.Nodes.{AreParts}
use Rattle.rp_boxindex.specs.tree.Order.{corner_of, place_of, is_less_or, precedes, is_before, is_at_place, AllBefore, AllAfter, IsBetween}
use Rattle.rp_boxindex.specs.tree.Views.{TreeView}
use Rattle.rp_boxindex.proofs.Counts.{count-round, count-none, false_not_true}
use Rattle.rp_boxindex.proofs.Ints.{lt_then_lt, neither_less, not_lt, le_self}
use Rattle.std.proofs.lemmas.Bool.Decides.{Decides-int_eq}
use borrow.Author.Tests.{ltb-true, ltb-false}
use Rattle.std.proofs.lemmas.Bool.{lt-ltb, le-ltb}

pub or_cases : (a b : Bool) → (a || b) ≡ true → (a ≡ true) ⊎ (b ≡ true)
or_cases true b h = inl refl
or_cases false b h = inr h

pub and_parts : (a b : Bool) → (a && b) ≡ true → (a ≡ true) × (b ≡ true)
and_parts true b h = (refl, h)
and_parts false b h = absurd (false_not_true h)

or_first : (a b : Bool) → a ≡ true → (a || b) ≡ true
or_first a b h = rw h

or_second : (a b : Bool) → b ≡ true → (a || b) ≡ true
or_second true b h = refl
or_second false b h = h

pub int_eq_is : (a b : ℤ) → int_eq a b ≡ true → a ≡ b
int_eq_is a b h = (Decides-int_eq a b).0 h

pub int_eq_same : (a : ℤ) → int_eq a a ≡ true
int_eq_same a = (Decides-int_eq a a).1 refl

pub not_both : (a b : Bool) → (not a && not b) ≡ true → (a ≡ false) × (b ≡ false)
not_both false false h = (refl, refl)
not_both true b h = absurd (false_not_true h)
not_both false true h = absurd (false_not_true h)

or_neither : (a b : Bool) → (a || b) ≡ false → (a ≡ false) × (b ≡ false)
or_neither false b h = (refl, h)
or_neither true b h = absurd (false_not_true (sym h))

-- the order by a number and by what stands behind it
both_rise : (a b c : ℤ) (r s t : Bool) → (r ≡ true → s ≡ true → t ≡ true) → (int_lt a b ≡ true) ⊎ ((int_eq a b && r) ≡ true) → (int_lt b c ≡ true) ⊎ ((int_eq b c && s) ≡ true) → is_less_or a c t ≡ true
both_rise a b c r s t behind (inl h) (inl l) = or_first (int_lt a c) _ (lt_then_lt a b c h l)
both_rise a b c r s t behind (inl h) (inr l) =
    let same : b ≡ c = int_eq_is b c (and_parts _ _ l).0 in
    let less : int_lt a c ≡ true = subst (λ t. int_lt a t ≡ true) same h in
    or_first (int_lt a c) _ less
both_rise a b c r s t behind (inr h) (inl l) =
    let same : a ≡ b = int_eq_is a b (and_parts _ _ h).0 in
    let less : int_lt a c ≡ true = subst (λ t. int_lt t c ≡ true) (sym same) l in
    or_first (int_lt a c) _ less
both_rise a b c r s t behind (inr h) (inr l) =
    let p = and_parts (int_eq a b) r h in
    let q = and_parts (int_eq b c) s l in
    let same : a ≡ b = int_eq_is a b p.0 in
    let same' : b ≡ c = int_eq_is b c q.0 in
    let both : (int_eq a c && t) ≡ true = rw (same, same', int_eq_same c) (behind p.1 q.1) in
    or_second (int_lt a c) (int_eq a c && t) both

less_or_rises : (a b c : ℤ) (r s t : Bool) → (r ≡ true → s ≡ true → t ≡ true) → is_less_or a b r ≡ true → is_less_or b c s ≡ true → is_less_or a c t ≡ true
less_or_rises a b c r s t behind h k = both_rise a b c r s t behind (or_cases _ _ h) (or_cases _ _ k)

less_then_less : (i j k : ℕ) → ltb i j ≡ true → ltb j k ≡ true → ltb i k ≡ true
less_then_less i j k h l =
    let less : i < j = ltb-true i j h in
    let less' : j < k = ltb-true j k l in
    let up : i < k = omega arith in
    lt-ltb i k up

-- where two corners have the same x, and the same y, the rest decides
abbrev by_z : Place → Place → Bool
by_z p q = is_less_or p.low.z q.low.z (ltb p.id q.id)

abbrev by_y : Place → Place → Bool
by_y p q = is_less_or p.low.y q.low.y (by_z p q)

-- what precedes a place that precedes another precedes it too
pub precedes-trans : (p q r : Place) → precedes p q ≡ true → precedes q r ≡ true → precedes p r ≡ true
precedes-trans p q r =
    less_or_rises p.low.x q.low.x r.low.x (by_y p q) (by_y q r) (by_y p r)
    (less_or_rises p.low.y q.low.y r.low.y (by_z p q) (by_z q r) (by_z p r)
    (less_or_rises p.low.z q.low.z r.low.z (ltb p.id q.id) (ltb q.id r.id) (ltb p.id r.id)
    (less_then_less p.id q.id r.id)))

-- numbers of which neither is before the other are the same, and so is what stands behind them
record AreSame (a b : ℤ) (r s : Bool) : Type 0 where
  same : a ≡ b
  first : r ≡ false
  second : s ≡ false

neither : (a b : ℤ) (r s : Bool) → is_less_or a b r ≡ false → is_less_or b a s ≡ false → AreSame a b r s
neither a b r s h k =
    let p = or_neither (int_lt a b) _ h in
    let q = or_neither (int_lt b a) _ k in
    let same : a ≡ b = neither_less a b p.0 q.0 in
    let e : r ≡ false = simp (same, int_eq_same) at p.1 in
    let f : s ≡ false = simp (same, int_eq_same) at q.1 in
    record { same = same; first = e; second = f }

same_ids : (i j : ℕ) → ltb i j ≡ false → ltb j i ≡ false → i ≡ j
same_ids i j e f =
    let le : j ≤ i = ltb-false i j e in
    let ge : i ≤ j = ltb-false j i f in
    omega arith

-- an entry has the id and the corner of its place
pub record IsThere (p : Place) (e : Entry) : Type 0 where
  pub id : p.id ≡ e.0
  pub low : p.low ≡ corner_of e

pub at_place : (p : Place) (e : Entry) → is_at_place p e ≡ true → IsThere p e
at_place p e h =
    let q : Place = place_of e in
    let both = not_both (precedes p q) (precedes q p) h in
    let x = neither p.low.x q.low.x (by_y p q) (by_y q p) both.0 both.1 in
    let y = neither p.low.y q.low.y (by_z p q) (by_z q p) x.first x.second in
    let z = neither p.low.z q.low.z (ltb p.id q.id) (ltb q.id p.id) y.first y.second in
    record { id = same_ids p.id q.id z.first z.second; low = λ i. record { x = x.same i; y = y.same i; z = z.same i } }

-- of a node's entries its own
is_own : (b : Bool) → cond {A = ℕ} (not b) 1 0 ≡ 0 → b ≡ true
is_own true e = refl
is_own false e = absurd (omega arith)

contra : (a b : Bool) → (b ≡ true → a ≡ true) → not a ≡ true → not b ≡ true
contra true b h k = absurd (false_not_true k)
contra false true h k = absurd (false_not_true (h refl))
contra false false h k = refl

-- what is after a later entry is after an earlier one
pub after_earlier : (x y : Entry) (es : List Entry) → is_before x y ≡ true → AllAfter y es → AllAfter x es
after_earlier x y es h after = count-none (λ (z : Entry). not (is_before x z)) (λ (z : Entry). not (is_before y z)) (λ z k. contra (is_before x z) (is_before y z) (λ l. precedes-trans (place_of x) (place_of y) (place_of z) h l) k) es after

pub before_later : (x y : Entry) (es : List Entry) → is_before x y ≡ true → AllBefore es x → AllBefore es y
before_later x y es h before = count-none (λ (z : Entry). not (is_before z y)) (λ (z : Entry). not (is_before z x)) (λ z k. contra (is_before z y) (is_before z x) (λ l. precedes-trans (place_of z) (place_of x) (place_of y) l h) k) es before

-- the entries of a side, before the node's own
pub before_parts : (a : List Entry) (j : Entry) (b : List Entry) (k : Entry) → AllBefore (a ++ j ∷ b) k → AllBefore a k × (is_before j k ≡ true) × AllBefore b k
before_parts a j b k h =
    let sum = count-round (λ (x : Entry). not (is_before x k)) a j b in
    (omega arith, is_own (is_before j k) (omega arith), omega arith)

pub after_parts : (k : Entry) (a : List Entry) (j : Entry) (b : List Entry) → AllAfter k (a ++ j ∷ b) → AllAfter k a × (is_before k j ≡ true) × AllAfter k b
after_parts k a j b h =
    let sum = count-round (λ (x : Entry). not (is_before k x)) a j b in
    (omega arith, is_own (is_before k j) (omega arith), omega arith)

-- an entry that passes is not among those that fail
pub not_own : (b : Bool) → b ≡ true → cond {A = ℕ} (not b) 1 0 ≡ 0
not_own b h = ap (λ (c : Bool). cond {A = ℕ} (not c) 1 0) h

before_join : (a : List Entry) (j : Entry) (b : List Entry) (k : Entry) → AllBefore a k → is_before j k ≡ true → AllBefore b k → AllBefore (a ++ j ∷ b) k
before_join a j b k p q r =
    let sum = count-round (λ (x : Entry). not (is_before x k)) a j b in
    let own = not_own (is_before j k) q in
    omega arith

pub after_join : (k : Entry) (a : List Entry) (j : Entry) (b : List Entry) → AllAfter k a → is_before k j ≡ true → AllAfter k b → AllAfter k (a ++ j ∷ b)
after_join k a j b p q r =
    let sum = count-round (λ (x : Entry). not (is_before k x)) a j b in
    let own = not_own (is_before k j) q in
    omega arith

-- a turn to the right: k leaves the right part of j's entries beneath it
turned_low : (a : List Entry) (j : Entry) (b : List Entry) (k : Entry) (c : List Entry) → IsBetween (a ++ j ∷ b) k c → IsBetween b k c
turned_low a j b k c h = record { before = (before_parts a j b k h.before).2; after = h.after }

turned_high : (a : List Entry) (j : Entry) (b : List Entry) (k : Entry) (c : List Entry) → IsBetween a j b → IsBetween (a ++ j ∷ b) k c → IsBetween a j (b ++ k ∷ c)
turned_high a j b k c low h =
    let jk = (before_parts a j b k h.before).1 in
    record { before = low.before; after = after_join j b k c low.after jk (after_earlier j k c jk h.after) }

-- a turn to the left
turned_low_left : (a : List Entry) (k : Entry) (b : List Entry) (j : Entry) (c : List Entry) → IsBetween a k (b ++ j ∷ c) → IsBetween a k b
turned_low_left a k b j c h = record { before = h.before; after = (after_parts k b j c h.after).0 }

turned_high_left : (a : List Entry) (k : Entry) (b : List Entry) (j : Entry) (c : List Entry) → IsBetween b j c → IsBetween a k (b ++ j ∷ c) → IsBetween (a ++ k ∷ b) j c
turned_high_left a k b j c low h =
    let kj = (after_parts k b j c h.after).1 in
    record { before = before_join a k b j (before_later k j a kj h.before) kj low.before; after = low.after }

middle_between : (a : List Entry) (j : Entry) (u : List Entry) (i : Entry) (v : List Entry) (k : Entry) (c : List Entry) → IsBetween u i v → IsBetween a j (u ++ i ∷ v) → IsBetween (u ++ i ∷ v) k c → IsBetween (a ++ j ∷ u) i (v ++ k ∷ c)
middle_between a j u i v k c inner left right = record { before = (turned_high_left a j u i v inner left).before; after = (turned_high u i v k c inner right).after }

-- the same, where the parts are those of a tree: a tree left of an entry, and its right side there
pub low_side : {t a b : TreeView} {j : Entry} → AreParts t a j b → (k : Entry) (c : List Entry) → IsBetween t.entries k c → IsBetween b.entries k c
low_side {t} {a} {b} {j} parts k c h = turned_low a.entries j b.entries k c (rw parts.entries at h)

-- a tree right of an entry, and its left side there
pub high_side : {t a b : TreeView} {j : Entry} → AreParts t a j b → (k : Entry) (c : List Entry) → IsBetween c k t.entries → IsBetween c k a.entries
high_side {t} {a} {b} {j} parts k c h = turned_low_left c k a.entries j b.entries (rw parts.entries at h)

pub turned_right : {t a b : TreeView} {j : Entry} → AreParts t a j b → (k : Entry) (c m : List Entry) → IsBetween t.entries k c → m ≡ b.entries ++ k ∷ c → IsBetween a.entries j m
turned_right {t} {a} {b} {j} parts k c m h e = rw e (turned_high a.entries j b.entries k c parts.between (rw parts.entries at h))

pub turned_left : {t b c : TreeView} {j : Entry} → AreParts t b j c → (k : Entry) (a m : List Entry) → IsBetween a k t.entries → m ≡ a ++ k ∷ b.entries → IsBetween m j c.entries
turned_left {t} {b} {c} {j} parts k a m h e = rw e (turned_high_left a k b.entries j c.entries parts.between (rw parts.entries at h))

pub turned_twice : {t u v : TreeView} {i : Entry} → AreParts t u i v → (a : List Entry) (j k : Entry) (c m n : List Entry) → IsBetween a j t.entries → IsBetween t.entries k c → m ≡ a ++ j ∷ u.entries → n ≡ v.entries ++ k ∷ c → IsBetween m i n
turned_twice {t} {u} {v} {i} parts a j k c m n left right e f = rw (e, f) (middle_between a j u.entries i v.entries k c parts.between (rw parts.entries at left) (rw parts.entries at right))

lt_itself : (a : ℤ) → int_lt a a ≡ false
lt_itself a = not_lt a a (le_self a)

itself : (a : ℤ) (r : Bool) → is_less_or a a r ≡ r
itself a r = rw (lt_itself a) refl

not_before_itself : (p : Place) → precedes p p ≡ false
not_before_itself p =
    let least : p.id ≤ p.id = omega arith in
    itself p.low.x (by_y p p) ∙ (itself p.low.y (by_z p p) ∙ (itself p.low.z (ltb p.id p.id) ∙ le-ltb p.id p.id least))

-- an entry with the id and the least corner of a place stands there
pub at_place_from : (p : Place) (e : Entry) → p.id ≡ e.0 → p.low ≡ corner_of e → is_at_place p e ≡ true
at_place_from p e same low =
    let q : Place = place_of e in
    let is : p ≡ q = λ i. record { low = low i; id = same i } in
    let neither : (not (precedes q q) && not (precedes q q)) ≡ true = rw (not_before_itself q) refl in
    subst (λ (r : Place). (not (precedes r q) && not (precedes q r)) ≡ true) (sym is) neither
