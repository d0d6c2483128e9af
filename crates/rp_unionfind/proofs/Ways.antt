-- Ways over links, where one more link comes behind.
use Rattle.std.proofs.Common.{◌≡◌, ℕ, ◌≤◌, Bool, true, ◌&&◌, ◌||◌, ◌⊎◌, inl, inr, ⊎_elim, List, [], ◌∷◌, ◌++◌, refl, subst}
use Rattle.std.proofs.lemmas.Bool.{eqb-true, eq-eqb, or_cases, or_left}
use Rattle.std.specs.Prelude.{◌==◌}
use Rattle.rp_algebra.proofs.Listed.{Listed, first, later, listed_cases, listed_left, listed_right}
use Rattle.rp_algebra.proofs.Tests.{and_first, and_second, and_true}
use Rattle.rp_geometry.specs.parts.Groups.{is_linked}
use Rattle.rp_geometry.specs.laws.PieceLaws.{IsJoined, itself, further}
use Rattle.rp_algebra.proofs.Filter.{some_passes, passes_some}
use Rattle.rp_parts.proofs.Growth.{joined_on, joined_end, joined_back}

-- ---- one link more

-- the link joins the two numbers
abbrev links_both : ℕ → ℕ → ℕ × ℕ → Bool
links_both i j l = (l.0 == i && l.1 == j) || (l.0 == j && l.1 == i)

-- the link joins the two numbers, the one way round or the other
abbrev AreEnds : ℕ × ℕ → ℕ → ℕ → Type 0
AreEnds l i j = ((l.0 ≡ i) × (l.1 ≡ j)) ⊎ ((l.0 ≡ j) × (l.1 ≡ i))

-- numbers that a link joins are its ends
ends_of : (l : ℕ × ℕ) (i j : ℕ) → links_both i j l ≡ true → AreEnds l i j
ends_of l i j e = ⊎_elim
    (λ (h : (l.0 == i && l.1 == j) ≡ true). inl (eqb-true l.0 i (and_first (l.0 == i) (l.1 == j) h), eqb-true l.1 j (and_second (l.0 == i) (l.1 == j) h)))
    (λ (h : (l.0 == j && l.1 == i) ≡ true). inr (eqb-true l.0 j (and_first (l.0 == j) (l.1 == i) h), eqb-true l.1 i (and_second (l.0 == j) (l.1 == i) h)))
    (or_cases (l.0 == i && l.1 == j) (l.0 == j && l.1 == i) e)

module _ (links : List (ℕ × ℕ)) (l : ℕ × ℕ) where
  -- numbers that were linked still are
  linked_more : (i j : ℕ) → is_linked links i j ≡ true → is_linked (links ++ l ∷ []) i j ≡ true
  linked_more i j e =
      let s = some_passes (links_both i j) links e in
      passes_some (links_both i j) (links ++ l ∷ []) s.item (listed_left s.item links (l ∷ []) s.listed) s.passes

  -- the ends of the last link are linked
  linked_last : is_linked (links ++ l ∷ []) l.0 l.1 ≡ true
  linked_last =
      passes_some (links_both l.0 l.1) (links ++ l ∷ []) l (listed_right l links (l ∷ []) first)
      (or_left (l.0 == l.0 && l.1 == l.1) (l.0 == l.1 && l.1 == l.0) (and_true (l.0 == l.0) (l.1 == l.1) (eq-eqb l.0 l.0 refl) (eq-eqb l.1 l.1 refl)))

  -- numbers that are linked were so before, or are the ends of the last link
  linked_cases : (i j : ℕ) → is_linked (links ++ l ∷ []) i j ≡ true → (is_linked links i j ≡ true) ⊎ AreEnds l i j
  linked_cases i j e =
      let s = some_passes (links_both i j) (links ++ l ∷ []) e in
      ⊎_elim
      (λ (h : Listed s.item links). inl (passes_some (links_both i j) links s.item h s.passes))
      (λ (h : Listed s.item (l ∷ [])). inr (only s.item h s.passes))
      (listed_cases s.item links (l ∷ []) s.listed)
    where
      only : (m : ℕ × ℕ) → Listed m (l ∷ []) → links_both i j m ≡ true → AreEnds l i j
      only m first p = ends_of l i j p
      only m (later r) p = elim r [ ]

  -- ---- ways

  module _ (n : ℕ) where
    -- numbers that were joined still are
    pub joined_more : (i j : ℕ) → IsJoined links n i j → IsJoined (links ++ l ∷ []) n i j
    joined_more i j itself = itself
    joined_more i j (further {j = m} w a b e) = further (joined_more i m w) a b (linked_more m j e)

    -- the ends of the last link are joined
    pub joined_last : 1 ≤ l.1 → l.1 ≤ n → IsJoined (links ++ l ∷ []) n l.0 l.1
    joined_last a b = further itself a b linked_last

    -- the number was joined to an end of the last link
    abbrev pub Meets : ℕ → Type 0
    Meets k = IsJoined links n k l.0 ⊎ IsJoined links n k l.1

    -- a number that was joined to one that meets the link meets it
    meets_on : (i j : ℕ) → IsJoined links n i j → Meets j → Meets i
    meets_on i j w (inl v) = inl (joined_on links n i j l.0 w v)
    meets_on i j w (inr v) = inr (joined_on links n i j l.1 w v)

    -- an end of the link meets it
    meets_first : (i : ℕ) → l.0 ≡ i → Meets i
    meets_first i e = inl (subst (λ k. IsJoined links n k l.0) e itself)

    -- and so does the other
    meets_second : (i : ℕ) → l.1 ≡ i → Meets i
    meets_second i e = inr (subst (λ k. IsJoined links n k l.1) e itself)

    -- numbers that are joined were so before, or both meet the last link
    pub joined_cases : (i j : ℕ) → 1 ≤ i → i ≤ n → IsJoined (links ++ l ∷ []) n i j → IsJoined links n i j ⊎ (Meets i × Meets j)
    joined_cases i j a b itself = inl itself
    joined_cases i j a b (further {j = m} w c d e) = by_link (joined_cases i m a b w) (linked_cases m j e)
      where
        range : (1 ≤ m) × (m ≤ n)
        range = joined_end (links ++ l ∷ []) n i m a b w

        near : IsJoined links n i m ⊎ (Meets i × Meets m) → Meets m → Meets i
        near (inl v) y = meets_on i m v y
        near (inr (x, z)) y = x

        by_link : IsJoined links n i m ⊎ (Meets i × Meets m) → (is_linked links m j ≡ true) ⊎ AreEnds l m j → IsJoined links n i j ⊎ (Meets i × Meets j)
        by_link (inl v) (inl k) = inl (further v c d k)
        by_link (inr (x, y)) (inl k) = inr (x, meets_on j m (joined_back links n m j range.0 range.1 (further itself c d k)) y)
        by_link r (inr (inl (p, q))) = inr (near r (meets_first m p), meets_second j q)
        by_link r (inr (inr (p, q))) = inr (near r (meets_second m q), meets_first j p)
