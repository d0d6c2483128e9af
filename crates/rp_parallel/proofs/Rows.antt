-- Meanings of items in a row, put together.
use Rattle.std.proofs.Common.{◌≡◌, ℕ, zero, suc, ◌+◌, ◌-◌, ◌≤◌, [], ◌∷◌, ◌++◌, sym, ap, ◌∙◌, arith, zero-add, add-zero}
use Rattle.rp_parallel.specs.Meanings.{meanings_from}

-- a row is its front followed by its back
pub meanings_from-append : {X : Type 0} (meaning : ℕ → X) (first m n : ℕ) → meanings_from meaning first (m + n) ≡ meanings_from meaning first m ++ meanings_from meaning (first + m) n
meanings_from-append meaning first zero n = rw (zero-add, add-zero)
meanings_from-append meaning first (suc m) n =
    let e : suc m + n ≡ suc (m + n) = omega arith in
    let f : first + suc m ≡ suc first + m = omega arith in
    rw (e, f) (ap (λ xs. meaning first ∷ xs) (meanings_from-append meaning (suc first) m n))

-- one item more
pub meanings_from-push : {X : Type 0} (meaning : ℕ → X) (first k : ℕ) → first ≤ k → meanings_from meaning first (k + 1 - first) ≡ meanings_from meaning first (k - first) ++ meaning k ∷ []
meanings_from-push meaning first k h =
    let e : k + 1 - first ≡ (k - first) + suc 0 = omega arith in
    let f : first + (k - first) ≡ k = omega arith in
    ap (meanings_from meaning first) e ∙ (meanings_from-append meaning first (k - first) (suc 0) ∙ ap (λ i. meanings_from meaning first (k - first) ++ meaning i ∷ []) f)

-- the two halves of a row
pub meanings_from-halves : {X : Type 0} (meaning : ℕ → X) (first middle end : ℕ) → first ≤ middle → middle ≤ end → meanings_from meaning first (middle - first) ++ meanings_from meaning middle (end - middle) ≡ meanings_from meaning first (end - first)
meanings_from-halves meaning first middle end h k =
    let e : end - first ≡ (middle - first) + (end - middle) = omega arith in
    let f : first + (middle - first) ≡ middle = omega arith in
    sym (ap (meanings_from meaning first) e ∙ (meanings_from-append meaning first (middle - first) (end - middle) ∙ ap (λ i. meanings_from meaning first (middle - first) ++ meanings_from meaning i (end - middle)) f))
