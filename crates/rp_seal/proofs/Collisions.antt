-- Of a list of strings: either two collide, or SHA-256 is injective on it.
use Rattle.std.proofs.Common.{◌≡◌, ◌≢◌, ℕ, zero, suc, ◌<◌, ◌⊎◌, inl, inr, Contains, List, [], ◌∷◌, length, map, get_or, arith, refl, ap, ap₂, sym, ◌∙◌}
use Rattle.std.proofs.lemmas.Bool.{cases_eq}
use Rattle.sha2.specs.Sha256.{sha256}
use Rattle.rp_seal.specs.Merkle.{leaf_input}
use Rattle.rp_seal.specs.Collision.{HasCollision}
use Rattle.rp_seal.proofs.Binding.{Has, Separates}

-- two strings are equal or different
pub same_or_not : (x y : List ℕ) → (x ≡ y) ⊎ (x ≢ y)
same_or_not [] [] = inl refl
same_or_not [] (y ∷ ys) = inr (λ h. (cc))
same_or_not (x ∷ xs) [] = inr (λ h. (cc))
same_or_not (x ∷ xs) (y ∷ ys) =
    elim (cases_eq x y) [
      | inl head ↦ elim (same_or_not xs ys) [ inl tail ↦ inl (ap₂ (λ (a : ℕ) (b : List ℕ). a ∷ b) head tail) | inr apart ↦ inr (λ h. apart (cc)) ]
      | inr apart ↦ inr (λ h. apart (cc))
    ]

-- a string of xs and a different one of ys have one SHA-256
record Clash (xs ys : List (List ℕ)) : Type 0 where
  one : List ℕ
  other : List ℕ
  one_among : Has xs one
  other_among : Has ys other
  differ : one ≢ other
  collide : sha256 one ≡ sha256 other

-- a string of xs and a string of ys with one SHA-256 are equal
abbrev Apart : List (List ℕ) → List (List ℕ) → Type 0
Apart xs ys = (x y : List ℕ) → Has xs x → Has ys y → sha256 x ≡ sha256 y → x ≡ y

-- one string clashes with a list or is apart from it
against : (x : List ℕ) (ys : List (List ℕ)) → Clash (x ∷ []) ys ⊎ Apart (x ∷ []) ys
against x [] = inr (λ a b m n h. absurd n)
against x (y ∷ ys) =
    elim (against x ys) [
      | inl c ↦ inl (record { one = c.one; other = c.other; one_among = c.one_among; other_among = inr c.other_among; differ = c.differ; collide = c.collide })
      | inr rest ↦ elim (same_or_not (sha256 x) (sha256 y)) [
        | inl collide ↦ elim (same_or_not x y) [
          | inl same ↦ inr (λ a b m n h. first a b x y ys same rest m n h)
          | inr differ ↦ inl (record { one = x; other = y; one_among = inl refl; other_among = inl refl; differ = differ; collide = collide })
        ]
        | inr apart ↦ inr (λ a b m n h. second a b x y ys apart rest m n h)
      ]
    ]
  where
    first : (a b x y : List ℕ) (ys : List (List ℕ)) → x ≡ y → Apart (x ∷ []) ys → Has (x ∷ []) a → Has (y ∷ ys) b → sha256 a ≡ sha256 b → a ≡ b
    first a b x y ys same rest (inl p) (inl q) h = p ∙ same ∙ sym q
    first a b x y ys same rest (inl p) (inr q) h = rest a b (inl p) q h
    first a b x y ys same rest (inr p) q h = absurd p

    second : (a b x y : List ℕ) (ys : List (List ℕ)) → (sha256 x ≡ sha256 y → ⊥) → Apart (x ∷ []) ys → Has (x ∷ []) a → Has (y ∷ ys) b → sha256 a ≡ sha256 b → a ≡ b
    second a b x y ys apart rest (inl p) (inl q) h = absurd (apart (sym (ap sha256 p) ∙ h ∙ ap sha256 q))
    second a b x y ys apart rest (inl p) (inr q) h = rest a b (inl p) q h
    second a b x y ys apart rest (inr p) q h = absurd p

-- two lists clash or are apart
among : (xs ys : List (List ℕ)) → Clash xs ys ⊎ Apart xs ys
among [] ys = inr (λ a b m n h. absurd m)
among (x ∷ xs) ys =
    elim (against x ys) [
      | inl c ↦ inl (record { one = c.one; other = c.other; one_among = widen c.one x xs c.one_among; other_among = c.other_among; differ = c.differ; collide = c.collide })
      | inr here ↦ elim (among xs ys) [
        | inl c ↦ inl (record { one = c.one; other = c.other; one_among = inr c.one_among; other_among = c.other_among; differ = c.differ; collide = c.collide })
        | inr there ↦ inr (λ a b m n h. either a b x xs ys here there m n h)
      ]
    ]
  where
    widen : (a x : List ℕ) (xs : List (List ℕ)) → Has (x ∷ []) a → Has (x ∷ xs) a
    widen a x xs (inl p) = inl p
    widen a x xs (inr p) = absurd p

    either : (a b x : List ℕ) (xs ys : List (List ℕ)) → Apart (x ∷ []) ys → Apart xs ys → Has (x ∷ xs) a → Has ys b → sha256 a ≡ sha256 b → a ≡ b
    either a b x xs ys here there (inl p) n h = here a b (inl p) n h
    either a b x xs ys here there (inr p) n h = there a b p n h

-- a member by cases is a member by its index
contains : (xs : List (List ℕ)) (x : List ℕ) → Has xs x → Contains xs x
contains [] x h = absurd h
contains (y ∷ xs) x (inl e) = (0, omega arith, sym e)
contains (y ∷ xs) x (inr h) = let (k, below, there) = contains xs x h in (suc k, omega arith, there)

-- two of the strings collide, or SHA-256 is injective on them
pub collide_or_not : (xs : List (List ℕ)) → HasCollision xs ⊎ Separates (Has xs)
collide_or_not xs =
    elim (among xs xs) [
      | inl c ↦ inl (record { one = c.one; other = c.other; one_among = contains xs c.one c.one_among; other_among = contains xs c.other c.other_among; differ = c.differ; collide = c.collide })
      | inr apart ↦ inr apart
    ]

-- the string that is hashed for the entry at i is among the strings that are hashed for the entries
pub has_leaf : (es : List (List ℕ)) (i : ℕ) → i < length es → Has (map leaf_input es) (leaf_input (get_or es i []))
has_leaf [] i h = absurd (omega arith)
has_leaf (e ∷ es) zero h = inl refl
has_leaf (e ∷ es) (suc i) h = inr (has_leaf es i (omega arith))
