-- The numbers of a chain.
use Rattle.std.proofs.Common.{ℕ, ◌<◌, List, [], ◌∷◌, sym, subst}
use Rattle.std.specs.List.{AllByRecursion}
use Rattle.rp_access.specs.Chain.{IsLinked, GoesDown, IsRoute}

-- the numbers of a chain are below the count
pub route_below : (g : List (List ℕ)) (n from last : ℕ) → from < n → ((i j : ℕ) → IsLinked g i j → j < n) → (route : List ℕ) → IsRoute g from last route → AllByRecursion (λ k. k < n) route
route_below g n from last h linked [] r = tt
route_below g n from last h linked (i ∷ js) r = (subst (λ k. k < n) (sym r.0) h, down js from r.2)
  where
    down : (ks : List ℕ) (k : ℕ) → GoesDown g last k ks → AllByRecursion (λ k. k < n) ks
    down [] k d = tt
    down (j ∷ ks) k d = (linked k j d.0.linked, down ks j d.1)
