-- Trees of numbers: when numbers are put under others, and when two trees are joined.
use Rattle.std.proofs.Common.{◌≡◌, ℕ, zero, suc, ◌+◌, ◌<◌, ◌≤◌, ◌⊎◌, inl, inr, ⊎_elim, List, [], ◌∷◌, ◌++◌, length, get_or, set, take, drop, refl, subst, sym, ap, ◌∙◌, arith}
use Rattle.std.proofs.lemmas.Bool.{cases_eq, cases_order}
use Rattle.std.proofs.lemmas.List.{length-set, get_or-set_same, get_or-set_other, get_or_past, take_at, take_more}
use Rattle.std.specs.List.{AllByRecursion}
use Rattle.rp_geometry.specs.laws.PieceLaws.{IsJoined, itself, further}
use Rattle.rp_parts.proofs.Growth.{joined_on, joined_end, joined_back}
use Rattle.rp_unionfind.specs.Forest.{AreLow, IsForest}
use Rattle.rp_unionfind.specs.Lists.{IsWithin}
use Rattle.rp_unionfind.proofs.Ways.{joined_more, joined_last, Meets, joined_cases}

-- the number above a number
abbrev pub above : List ℕ → ℕ → ℕ
above ps k = get_or ps k 0

-- ---- one number put under another

-- what stands above each number then
set_cases : (ps : List ℕ) (k y j : ℕ) → k < length ps → ((j ≡ k) × (above (set ps k y) j ≡ y)) ⊎ ((j ≡ k → ⊥) × (above (set ps k y) j ≡ above ps j))
set_cases ps k y j h = ⊎_elim
    (λ (e : j ≡ k). inl (e, ap (above (set ps k y)) e ∙ get_or-set_same ps k y 0 h))
    (λ (n : j ≡ k → ⊥). inr (n, get_or-set_other ps k j y 0 n))
    (cases_eq j k)

-- a number put under one that is not greater
pub set_low : (ps : List ℕ) (k y : ℕ) → AreLow ps → y ≤ k → k < length ps → AreLow (set ps k y)
set_low ps k y low h l j = ⊎_elim
    (λ (r : (j ≡ k) × (above (set ps k y) j ≡ y)). let a = r.0 in let b = r.1 in omega (arith, a, b, h))
    (λ (r : (j ≡ k → ⊥) × (above (set ps k y) j ≡ above ps j)). let a = low j in let b = r.1 in omega (arith, a, b))
    (set_cases ps k y j l)

-- a number put under a smaller one is no root
root_before : (ps : List ℕ) (k y j : ℕ) → y < k → k < length ps → above (set ps k y) j ≡ j → above ps j ≡ j
root_before ps k y j h l e = ⊎_elim
    (λ (r : (j ≡ k) × (above (set ps k y) j ≡ y)). absurd (let a = r.0 in let b = r.1 in omega (arith, a, b, h, e)))
    (λ (r : (j ≡ k → ⊥) × (above (set ps k y) j ≡ above ps j)). sym r.1 ∙ e)
    (set_cases ps k y j l)

-- a root stays one where another number that is none is put under one
pub root_stays : (ps : List ℕ) (k y j : ℕ) → (above ps k ≡ k → ⊥) → k < length ps → above ps j ≡ j → above (set ps k y) j ≡ j
root_stays ps k y j n l e = ⊎_elim
    (λ (r : (j ≡ k) × (above (set ps k y) j ≡ y)). absurd (n (subst (λ i. above ps i ≡ i) r.0 e)))
    (λ (r : (j ≡ k → ⊥) × (above (set ps k y) j ≡ above ps j)). r.1 ∙ e)
    (set_cases ps k y j l)

-- ---- a number that is no root put under the one two above it

-- it stands below
pub two_above : (ps : List ℕ) (k : ℕ) → AreLow ps → (above ps k ≡ k → ⊥) → above ps (above ps k) < k
two_above ps k low n = let a = low k in let b = low (above ps k) in omega (arith, a, b, n)

-- it is joined to the number
pub joined_above : (links : List (ℕ × ℕ)) (n : ℕ) (ps : List ℕ) (k : ℕ) → IsForest links n ps → 1 ≤ k → k ≤ n → IsJoined links n k (above ps (above ps k))
joined_above links n ps k f h l =
    let w = f.joined k h l in
    let r = joined_end links n k (above ps k) h l w in
    joined_on links n k (above ps k) (above ps (above ps k)) w (f.joined (above ps k) r.0 r.1)

-- the trees are the same
pub halved : (links : List (ℕ × ℕ)) (n : ℕ) (ps : List ℕ) (k : ℕ) → IsForest links n ps → 1 ≤ k → k ≤ n → (above ps k ≡ k → ⊥) → IsForest links n (set ps k (above ps (above ps k)))
halved links n ps k f h l root = record {
  size = length-set ps k y ∙ f.size;
  low = set_low ps k y f.low (omega (arith, below)) within;
  joined = λ j a b. ⊎_elim
      (λ (r : (j ≡ k) × (above (set ps k y) j ≡ y)). subst (λ i. IsJoined links n j i) (sym r.1) (subst (λ i. IsJoined links n i y) (sym r.0) (joined_above links n ps k f h l)))
      (λ (r : (j ≡ k → ⊥) × (above (set ps k y) j ≡ above ps j)). subst (λ i. IsJoined links n j i) (sym r.1) (f.joined j a b))
      (set_cases ps k y j within);
  apart = λ i j a b c d e g w. f.apart i j a b c d (root_before ps k y i below within e) (root_before ps k y j below within g) w;
}
  where
    y : ℕ
    y = above ps (above ps k)

    below : y < k
    below = two_above ps k f.low root

    within : k < length ps
    within = let s = f.size in omega (arith, s, l)

-- a step up from a number that is joined to another one
pub step_up : (links : List (ℕ × ℕ)) (n : ℕ) (start ps : List ℕ) (number k : ℕ) → IsForest links n start → number < length start → 1 ≤ number → IsForest links n ps × IsJoined links n number k → (above ps k ≡ k → ⊥)
    → IsForest links n (set ps k (above ps (above ps k))) × IsJoined links n number (above ps (above ps k))
step_up links n start ps number k f l h r root =
    let s = f.size in
    let range = joined_end links n number k h (omega (arith, s, l)) r.1 in
    (halved links n ps k r.0 range.0 range.1 root, joined_on links n number k (above ps (above ps k)) r.1 (joined_above links n ps k r.0 range.0 range.1))

-- ---- no links

-- without links a number is joined to itself alone
joined_none : (n i j : ℕ) → IsJoined [] n i j → i ≡ j
joined_none n i j itself = refl
joined_none n i j (further w a b e) = absurd (cc)

-- each number in a tree of its own
pub single_forest : (n m : ℕ) (ps : List ℕ) → m ≤ n + 1 → n + 1 ≤ m → length ps ≡ m → ((k : ℕ) → k < m → above ps k ≡ k) → IsForest [] n ps
single_forest n m ps a b size own = record {
  size = omega (arith, size, a, b);
  low = λ k. ⊎_elim
      (λ (h : k < m). let e = own k h in omega (arith, e))
      (λ (h : m ≤ k). let e = get_or_past ps k 0 (omega (arith, size, h)) in omega (arith, e))
      (below_or_not k m);
  joined = λ k h l. subst (λ i. IsJoined [] n k i) (sym (own k (omega (arith, l, b)))) itself;
  apart = λ i j c d p q e g w. joined_none n i j w;
}
  where
    below_or_not : (k m : ℕ) → (k < m) ⊎ (m ≤ k)
    below_or_not k m = ⊎_elim
        (λ (e : k ≡ m). inr (omega (arith, e)))
        (⊎_elim (λ (h : k < m). inl h) (λ (h : m < k). inr (omega (arith, h))))
        (cases_order k m)

-- ---- two trees joined

module _ (links : List (ℕ × ℕ)) (l : ℕ × ℕ) (n : ℕ) (ps : List ℕ) (f : IsForest links n ps) where
  -- a root that meets the link is the root of one of its ends
  meets_root : (one other k : ℕ) → 1 ≤ k → k ≤ n → 1 ≤ one → one ≤ n → 1 ≤ other → other ≤ n → above ps one ≡ one → above ps other ≡ other
      → IsJoined links n l.0 one → IsJoined links n l.1 other → above ps k ≡ k → Meets links l n k → (k ≡ one) ⊎ (k ≡ other)
  meets_root one other k a b c d e g r s v w root (inl m) = inl (f.apart k one a b c d root r (joined_on links n k l.0 one m v))
  meets_root one other k a b c d e g r s v w root (inr m) = inr (f.apart k other a b e g root s (joined_on links n k l.1 other m w))

  -- a root is put under another one, where every root that meets the link is one of the two
  put_under : (high low : ℕ) → low ≤ high → 1 ≤ low → high ≤ n → IsJoined (links ++ l ∷ []) n high low
      → ((k : ℕ) → 1 ≤ k → k ≤ n → above ps k ≡ k → Meets links l n k → (k ≡ low) ⊎ (k ≡ high)) → above ps high ≡ high → IsForest (links ++ l ∷ []) n (set ps high low)
  put_under high low h a b w only root = record {
    size = length-set ps high low ∙ f.size;
    low = set_low ps high low f.low h within;
    joined = λ j c d. ⊎_elim
        (λ (r : (j ≡ high) × (above (set ps high low) j ≡ low)). subst (λ i. IsJoined (links ++ l ∷ []) n j i) (sym r.1) (subst (λ i. IsJoined (links ++ l ∷ []) n i low) (sym r.0) w))
        (λ (r : (j ≡ high → ⊥) × (above (set ps high low) j ≡ above ps j)). subst (λ i. IsJoined (links ++ l ∷ []) n j i) (sym r.1) (joined_more links l n j (above ps j) (f.joined j c d)))
        (set_cases ps high low j within);
    apart = λ i j c d p q e g v. ⊎_elim
        (λ (o : IsJoined links n i j). f.apart i j c d p q (was_root i e) (was_root j g) o)
        (λ (o : Meets links l n i × Meets links l n j). lowest i e (only i c d (was_root i e) o.0) ∙ sym (lowest j g (only j p q (was_root j g) o.1)))
        (joined_cases links l n i j c d v);
  }
    where
      within : high < length ps
      within = let s = f.size in omega (arith, s, b)

      was_root : (k : ℕ) → above (set ps high low) k ≡ k → above ps k ≡ k
      was_root k e = ⊎_elim
          (λ (r : (k ≡ high) × (above (set ps high low) k ≡ low)). subst (λ i. above ps i ≡ i) (sym r.0) root)
          (λ (r : (k ≡ high → ⊥) × (above (set ps high low) k ≡ above ps k)). sym r.1 ∙ e)
          (set_cases ps high low k within)

      lowest : (k : ℕ) → above (set ps high low) k ≡ k → (k ≡ low) ⊎ (k ≡ high) → k ≡ low
      lowest k e (inl s) = s
      lowest k e (inr s) = ⊎_elim
          (λ (r : (k ≡ high) × (above (set ps high low) k ≡ low)). sym e ∙ r.1)
          (λ (r : (k ≡ high → ⊥) × (above (set ps high low) k ≡ above ps k)). absurd (r.0 s))
          (set_cases ps high low k within)

  -- the greater of two roots is put under the smaller one
  pub trees_joined : (one other : ℕ) → 1 ≤ l.0 → l.0 ≤ n → 1 ≤ l.1 → l.1 ≤ n → above ps one ≡ one → above ps other ≡ other → IsJoined links n l.0 one → IsJoined links n l.1 other
      → (high low : ℕ) → ((high ≡ one) × (low ≡ other)) ⊎ ((high ≡ other) × (low ≡ one)) → low ≤ high → IsForest (links ++ l ∷ []) n (set ps high low)
  trees_joined one other a b c d r s v w high low which h = by_order which
    where
      one_range : (1 ≤ one) × (one ≤ n)
      one_range = joined_end links n l.0 one a b v

      other_range : (1 ≤ other) × (other ≤ n)
      other_range = joined_end links n l.1 other c d w

      across : IsJoined (links ++ l ∷ []) n one other
      across =
          joined_on (links ++ l ∷ []) n one l.0 other (joined_more links l n one l.0 (joined_back links n l.0 one a b v))
          (joined_on (links ++ l ∷ []) n l.0 l.1 other (joined_last links l n c d) (joined_more links l n l.1 other w))

      only : (k : ℕ) → 1 ≤ k → k ≤ n → above ps k ≡ k → Meets links l n k → (k ≡ one) ⊎ (k ≡ other)
      only k p q root m = meets_root one other k p q one_range.0 one_range.1 other_range.0 other_range.1 r s v w root m

      turned : {A B : Type 0} → A ⊎ B → B ⊎ A
      turned (inl x) = inr x
      turned (inr y) = inl y

      by_order : ((high ≡ one) × (low ≡ other)) ⊎ ((high ≡ other) × (low ≡ one)) → IsForest (links ++ l ∷ []) n (set ps high low)
      by_order (inl (e, g)) =
          subst (λ k. IsForest (links ++ l ∷ []) n (set ps k low)) (sym e) (subst (λ k. IsForest (links ++ l ∷ []) n (set ps one k)) (sym g)
          (put_under one other (omega (arith, e, g, h)) other_range.0 one_range.1 across (λ k p q root m. turned (only k p q root m)) r))
      by_order (inr (e, g)) =
          subst (λ k. IsForest (links ++ l ∷ []) n (set ps k low)) (sym e) (subst (λ k. IsForest (links ++ l ∷ []) n (set ps other k)) (sym g)
          (put_under other one (omega (arith, e, g, h)) one_range.0 other_range.1 (joined_back (links ++ l ∷ []) n one other one_range.0 one_range.1 across) only s))

-- ---- one link of a list

-- the next link of a list of links joins its trees
pub next_joined : (links : List (ℕ × ℕ)) (n i : ℕ) (now new items : List ℕ) (len : ℕ) → AllByRecursion (IsWithin n) links → i < length links → now ≡ items → IsForest (take i links) n items → length new ≡ length now → len ≡ length items
    → ((ls : List (ℕ × ℕ)) (m : ℕ) → 1 ≤ (get_or links i (0, 0)).0 → 1 ≤ (get_or links i (0, 0)).1 → IsForest ls m now → IsForest (ls ++ ((get_or links i (0, 0)).0, (get_or links i (0, 0)).1) ∷ []) m new)
    → IsForest (take (i + 1) links) n (take len (new ++ drop (length new) items))
next_joined links n i now new items len within h e f same room joined =
    let w = at_place links i within h in
    let all = take_at new (drop (length new) items) len (same ∙ ap length e ∙ sym room) in
    subst (λ ps. IsForest (take (i + 1) links) n ps) (sym all)
    (subst (λ ls. IsForest ls n new) (sym (take_more links i (0, 0) h)) (joined (take i links) n w.0 w.2 (subst (λ ps. IsForest (take i links) n ps) (sym e) f)))
  where
    at_place : (ls : List (ℕ × ℕ)) (j : ℕ) → AllByRecursion (IsWithin n) ls → j < length ls → IsWithin n (get_or ls j (0, 0))
    at_place [] j a l = absurd (omega (arith, l))
    at_place (x ∷ ls) zero a l = a.0
    at_place (x ∷ ls) (suc j) a l = at_place ls j a.1 (omega (arith, l))
