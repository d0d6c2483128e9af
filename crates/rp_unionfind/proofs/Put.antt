-- A number put into a list of a list of lists, as the code does it.
use Rattle.std.proofs.Common.{◌≡◌, ℕ, zero, suc, ◌<◌, List, [], ◌∷◌, ◌++◌, length, get_or, set, ap, ◌∙◌, arith}
use Rattle.rp_lists.specs.Listed.{Listed}
use Rattle.rp_unionfind.specs.Lists.{lists_of, with_number}

-- a number behind those of a list at a place
pub put_known : (lists : List (Listed ℕ)) (place k : ℕ) (old new : Listed ℕ) → place < length lists → old ≡ get_or lists place old → new.items ≡ old.items ++ k ∷ [] → lists_of (set lists place new) ≡ with_number place k (lists_of lists)
put_known [] place k old new h e m = absurd (omega (arith, h))
put_known (x ∷ lists) zero k old new h e m = ap (λ ks. ks ∷ lists_of lists) (m ∙ ap (λ (list : Listed ℕ). list.items ++ k ∷ []) e)
put_known (x ∷ lists) (suc place) k old new h e m = ap (λ gs. x.items ∷ gs) (put_known lists place k old new (omega (arith, h)) e m)

-- a number in a new list behind all
pub put_new : (lists : List (Listed ℕ)) (k : ℕ) (fresh old new : Listed ℕ) → fresh.items ≡ [] → old ≡ get_or (lists ++ fresh ∷ []) (length lists) old → new.items ≡ old.items ++ k ∷ []
    → lists_of (set (lists ++ fresh ∷ []) (length lists) new) ≡ with_number (length lists) k (lists_of lists)
put_new [] k fresh old new n e m = ap (λ ks. ks ∷ []) (m ∙ ap (λ (list : Listed ℕ). list.items ++ k ∷ []) e ∙ ap (λ ks. ks ++ k ∷ []) n)
put_new (x ∷ lists) k fresh old new n e m = ap (λ gs. x.items ∷ gs) (put_new lists k fresh old new n e m)
