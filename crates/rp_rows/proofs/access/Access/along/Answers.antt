use Rattle.std.proofs.Common.{ℕ, ◌<◌, length, ap, ap₂, ◌∙◌, arith}
use Rattle.rp_geometry.specs.parts.Levels.{levels_along, chain_along}
use Rattle.rp_model.specs.states.State.{most_kept_parts}
use Rattle.rp_model.specs.commands.Verdict.{access_lines, level_lines}
use Rattle.rp_rows.specs.Access.{told_chain, told_levels}
use Rattle.rp_rows.proofs.AccessLines.{route_within, route_few, both_told}
use Rattle.rp_rows.proofs.access.Access.along.Goals as goal

pub named_chain-requires-clause-within : goal.named_chain-requires-clause-within
named_chain-requires-clause-within c =
    let ids = c.args.ids.now in
    let start = c.number_of-start.result in
    let end = c.number_of-end.result in
    let start_below : start < length ids = omega (arith, c.number_of-start.ensures, c.requires.from_there) in
    let end_below : end < length ids = omega (arith, c.number_of-end.ensures, c.requires.to_there) in
    route_within c.in_ok-links.links c.args.pairs.now c.in_ok-links.ensures.links ids c.in_ok-links.ensures.count start end start_below end_below c.in_ok-route.route c.in_ok-route.ensures

pub named_chain-requires-clause-few : goal.named_chain-requires-clause-few
named_chain-requires-clause-few c =
    let ids = c.args.ids.now in
    let start = c.number_of-start.result in
    let end = c.number_of-end.result in
    let start_below : start < length ids = omega (arith, c.number_of-start.ensures, c.requires.from_there) in
    let end_below : end < length ids = omega (arith, c.number_of-end.ensures, c.requires.to_there) in
    route_few c.in_ok-links.links c.args.pairs.now c.in_ok-links.ensures.links ids c.in_ok-links.ensures.count start end start_below end_below most_kept_parts c.requires.few c.in_ok-route.route c.in_ok-route.ensures

pub returns : goal.returns
returns c =
    let ids = c.args.ids.now in
    let pairs = c.args.pairs.now in
    let start = c.number_of-start.result in
    let end = c.number_of-end.result in
    let start_below : start < length ids = omega (arith, c.number_of-start.ensures, c.requires.from_there) in
    let end_below : end < length ids = omega (arith, c.number_of-end.ensures, c.requires.to_there) in
    both_told c.in_ok-links.links pairs c.in_ok-links.ensures.links ids c.in_ok-links.ensures.count start end start_below end_below c.in_ok-route.route c.in_ok-route.ensures c.in_ok-levels.levels.items c.in_ok-levels.ensures.found
    (told_chain c.in_ok-chain.chain) (told_levels c.in_ok-levels-2.levels.items) c.in_ok-chain.ensures.told (c.in_ok-levels-2.ensures ∙ ap (level_lines ids) c.deref.ensures.value)
    ∙ ap₂ (λ (a b : ℕ). access_lines ids (chain_along pairs (length ids) a b) (levels_along pairs (length ids) b)) c.number_of-start.ensures c.number_of-end.ensures
