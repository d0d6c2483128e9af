use Rattle.std.proofs.Common.{◌≡◌, ℕ, ◌<◌, List, length, get_or, subst}
use Rattle.std.specs.List.Sorted.{IsBinarySearchResult}
use Rattle.std.specs.Ordering.{nat_cmp}
use Rattle.std.specs.Result.{MatchResult}
use Rattle.rp_history.proofs.Places.{number_found}
use Rattle.rp_history.proofs.list.take_out.Goals as goal

pub unreachable-requires : goal.unreachable-requires
unreachable-requires c =
    let places = c.args.places.now.items in
    subst (λ r. MatchResult r (λ i. (i < length places) × (get_or places i 0 ≡ c.args.place)) (λ i. ⊥)) c.in-Err.is
    (number_found places c.args.place c.binary_search.result c.requires.rising c.requires.there (subst (λ (ks : List ℕ). IsBinarySearchResult (λ y. nat_cmp y c.args.place) ks c.binary_search.result) c.deref.ensures.value c.binary_search.ensures.position))

pub returns-clause-rest : goal.returns-clause-rest
returns-clause-rest c =
    let places = c.args.places.now.items in
    let found = subst (λ r. MatchResult r (λ i. (i < length places) × (get_or places i 0 ≡ c.args.place)) (λ i. ⊥)) c.in-Ok.is
    (number_found places c.args.place c.binary_search.result c.requires.rising c.requires.there (subst (λ (ks : List ℕ). IsBinarySearchResult (λ y. nat_cmp y c.args.place) ks c.binary_search.result) c.deref.ensures.value c.binary_search.ensures.position)) in
    record { one = record { number = c.in-Ok.number; below = found.0; is = found.1 }; rest = c.remove.ensures.items }
