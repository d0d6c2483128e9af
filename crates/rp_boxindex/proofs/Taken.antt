-- What becomes of one who takes the ids that a search finds.
use Rattle.std.proofs.Common.{◌≡◌, ℕ, List, [], ◌∷◌, ◌++◌, refl, sym, ◌∙◌, append-nil, append_assoc}
use Rattle.rp_boxindex.specs.tree.Taking.{taken}

-- one list after the other
pub taken-append : {S : Type 0} (after : S → ℕ → S) (taker : S) (xs ys : List ℕ) → taken after taker (xs ++ ys) ≡ taken after (taken after taker xs) ys
taken-append after taker [] ys = refl
taken-append after taker (x ∷ xs) ys = taken-append after (after taker x) xs ys

-- a list of what is taken
pub taken-pushed : (out ids : List ℕ) → taken (λ (xs : List ℕ) x. xs ++ x ∷ []) out ids ≡ out ++ ids
taken-pushed out [] = sym (append-nil out)
taken-pushed out (x ∷ xs) = taken-pushed (out ++ x ∷ []) xs ∙ append_assoc out (x ∷ []) xs
