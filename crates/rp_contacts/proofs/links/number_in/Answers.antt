use Rattle.std.proofs.Common.{◌≡◌, ◌<◌, length, get_or, subst}
use Rattle.std.specs.Result.{MatchResult}
use Rattle.rp_contacts.proofs.links.number_in.Goals as goal
use Rattle.rp_history.proofs.Places.{number_found}

pub unreachable-requires : goal.unreachable-requires
unreachable-requires c =
    subst (λ r. MatchResult r (λ i. (i < length c.args.places.now) × (get_or c.args.places.now i 0 ≡ c.args.place)) (λ i. ⊥)) c.in-Err.is
    (number_found c.args.places.now c.args.place c.binary_search.result c.requires.rising c.requires.there c.binary_search.ensures.position)
