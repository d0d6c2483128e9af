-- What need not be visited, and what is found.
use Rattle.std.proofs.Common.{◌≡◌, ◌≤◌, ℤ, Bool, true, false, not, ◌&&◌, ◌||◌, int_lt, int_le, List, [], ◌∷◌, ◌++◌, map, refl, ap, ◌∙◌, arith, subst, inl, inr}
use Rattle.std.specs.List.{filter}
use Rattle.std.proofs.lemmas.List.{map-append}
use Rattle.std.proofs.lemmas.List.Elements.{filter-append}
use Rattle.rp_space.specs.Boxes.{integer_box}
use Rattle.rp_geometry.specs.Geometry.{IntegerBox}
use Rattle.rp_boxindex.specs.Counts.{count}
use Rattle.rp_boxindex.specs.Bound.{meets_on_x}
use Rattle.rp_boxindex.specs.Boxes.{Entry}
use Rattle.rp_boxindex.specs.Meeting.{is_below, meets, ids_that_meet}
use Rattle.rp_boxindex.specs.tree.Cost.{AllLow}
use Rattle.rp_boxindex.specs.tree.Nodes.{high, IsTop}
use Rattle.rp_boxindex.specs.tree.Order.{low, is_before, AllBefore, AllAfter}
use Rattle.rp_boxindex.proofs.Counts.{count-none, count-cover, not_counted}
use Rattle.rp_boxindex.proofs.Changes.{is_not}
use Rattle.rp_boxindex.proofs.Ints.{le_self, le_then_le, le_then_lt, lt_then_le, lt_is_le, lt_or_le}
use Rattle.std.proofs.lemmas.Bool.{or_right}
use Rattle.rp_algebra.proofs.Tests.{false_of_not, false_not_true}
use Rattle.rp_boxindex.proofs.Order.{or_cases, and_parts, int_eq_is}

-- bounds farther apart
pub below_farther : (c : Bool) (a b t : ℤ) → is_below c a b ≡ true → int_le b t ≡ true → is_below c a t ≡ true
below_farther true a b t h k = le_then_le a b t h k
below_farther false a b t h k = lt_then_le a b t h k

pub below_nearer : (c : Bool) (s a b : ℤ) → int_le s a ≡ true → is_below c a b ≡ true → is_below c s b ≡ true
below_nearer true s a b k h = le_then_le s a b k h
below_nearer false s a b k h = le_then_lt s a b k h

higher : (a t h : ℤ) (c : Bool) → is_below c a t ≡ false → is_below c a h ≡ true → (b : Bool) → int_lt t h ≡ b → b ≡ true
higher a t h c f k true e = refl
higher a t h c f k false e = absurd (false_not_true _ (below_farther c a h t k (lt_or_le t h e)) f)

-- no box meets on the x axis where none reaches far enough
pub none_reaches : (c : Bool) (b : IntegerBox) (top : ℤ) (es : List Entry) → IsTop top es → is_below c b.x1 top ≡ false → count (meets_on_x c b) es ≡ 0
none_reaches c b top es is f = count-none (meets_on_x c b) (λ (e : Entry). int_lt top (high e)) (λ e m. higher b.x1 top (high e) c f (and_parts (is_below c b.x1 (high e)) (is_below c (low e) b.x2) m).0 (int_lt top (high e)) refl) es is.0

-- of the order, the least x
before_is_lower : (x y : Entry) → is_before x y ≡ true → int_le (low x) (low y) ≡ true
before_is_lower x y h =
    elim (or_cases (int_lt (low x) (low y)) _ h) [
      | inl less ↦ lt_is_le (low x) (low y) less
      | inr same ↦ let e : low x ≡ low y = int_eq_is (low x) (low y) (and_parts _ _ same).0 in subst (λ t. int_le (low x) t ≡ true) e (le_self (low x))
    ]

-- no box after one that begins too late meets on the x axis
pub none_after : (c : Bool) (b : IntegerBox) (e : Entry) (es : List Entry) → AllAfter e es → is_below c (low e) b.x2 ≡ false → count (meets_on_x c b) es ≡ 0
none_after c b e es after f = count-none (meets_on_x c b) (λ (x : Entry). not (is_before e x)) (λ x m. is_not (is_before e x) (λ k. absurd (false_not_true _ (below_nearer c (low e) (low x) b.x2 (before_is_lower e x k) (and_parts (is_below c b.x1 (high x)) (is_below c (low x) b.x2) m).1) f))) es after

-- all boxes before one that begins early enough do so too
pub low_before : (c : Bool) (b : IntegerBox) (e : Entry) (es : List Entry) → AllBefore es e → is_below c (low e) b.x2 ≡ true → AllLow c b es
low_before c b e es before t = count-none (λ (x : Entry). not (is_below c (low x) b.x2)) (λ (x : Entry). not (is_before x e)) (λ x m. is_not (is_before x e) (λ k. absurd (false_not_true _ (below_nearer c (low x) (low e) b.x2 (before_is_lower x e k) t) (false_of_not (is_below c (low x) b.x2) m)))) es before

-- where all boxes are low, and one reaches far enough, one meets on the x axis
some_covered : (c : Bool) (b : IntegerBox) (top : ℤ) (e : Entry) → is_below c b.x1 top ≡ true → int_le top (high e) ≡ true → (t : Bool) → is_below c (low e) b.x2 ≡ t → ((is_below c b.x1 (high e) && t) || not t) ≡ true
some_covered c b top e h k true is = rw (below_farther c b.x1 top (high e) h k)
some_covered c b top e h k false is = or_right _ true refl

pub some_meets : (c : Bool) (b : IntegerBox) (top : ℤ) (es : List Entry) → IsTop top es → AllLow c b es → is_below c b.x1 top ≡ true → 1 ≤ count (meets_on_x c b) es
some_meets c b top es is low_all h =
    let le = count-cover (λ (e : Entry). int_le top (high e)) (meets_on_x c b) (λ (e : Entry). not (is_below c (low e) b.x2)) (λ e k. some_covered c b top e h k (is_below c (low e) b.x2) refl) es in
    let some = is.1 in
    omega arith

-- what meets does so on the x axis
six : (a b c d e f : Bool) → (a && b && c && d && e && f) ≡ true → (a && b) ≡ true
six true true c d e f h = refl
six true false c d e f h = absurd (false_not_true false h refl)
six false b c d e f h = absurd (false_not_true false h refl)

meets_is_on_x : (c : Bool) (b : IntegerBox) (e : Entry) → meets c b e ≡ true → meets_on_x c b e ≡ true
meets_is_on_x true b e h = let f = integer_box e.1 in six (int_le b.x1 f.x2) (int_le f.x1 b.x2) (int_le b.y1 f.y2) (int_le f.y1 b.y2) (int_le b.z1 f.z2) (int_le f.z1 b.z2) h
meets_is_on_x false b e h = let f = integer_box e.1 in six (int_lt b.x1 f.x2) (int_lt f.x1 b.x2) (int_lt b.y1 f.y2) (int_lt f.y1 b.y2) (int_lt b.z1 f.z2) (int_lt f.z1 b.z2) h

none_meets : (c : Bool) (b : IntegerBox) (es : List Entry) → count (meets_on_x c b) es ≡ 0 → count (meets c b) es ≡ 0
none_meets c b es none = count-none (meets c b) (meets_on_x c b) (λ e h. meets_is_on_x c b e h) es none

-- nothing passes, so nothing is left
filter-none : {X : Type 0} (p : X → Bool) (xs : List X) → count p xs ≡ 0 → filter p xs ≡ []
filter-none p [] h = refl
filter-none p (x ∷ xs) h =
    let here = not_counted (p x) (count p xs) h in
    let rest : count p xs ≡ 0 = omega arith in
    rw here (filter-none p xs rest)

pub ids-unmet : (c : Bool) (b : IntegerBox) (es : List Entry) → count (meets c b) es ≡ 0 → ids_that_meet c b es ≡ []
ids-unmet c b es none = ap (map (λ (e : Entry). e.0)) (filter-none (meets c b) es none)

pub ids-none : (c : Bool) (b : IntegerBox) (es : List Entry) → count (meets_on_x c b) es ≡ 0 → ids_that_meet c b es ≡ []
ids-none c b es none = ids-unmet c b es (none_meets c b es none)

pub ids-append : (c : Bool) (b : IntegerBox) (xs ys : List Entry) → ids_that_meet c b (xs ++ ys) ≡ ids_that_meet c b xs ++ ids_that_meet c b ys
ids-append c b xs ys = ap (map (λ (e : Entry). e.0)) (filter-append (meets c b) xs ys) ∙ map-append (λ (e : Entry). e.0) (filter (meets c b) xs) (filter (meets c b) ys)
