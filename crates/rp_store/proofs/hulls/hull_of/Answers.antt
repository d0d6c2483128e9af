use Rattle.std.proofs.Common.{List, map, ap, ◌∙◌}
use Rattle.std.proofs.lemmas.List.{take_rest}
use Rattle.rp_proximity.specs.Hulls.{joined}
use Rattle.rp_lotindex.specs.Indexed.{hull_of_parts}
use Rattle.rp_store.proofs.Boxed.{hull_by_first}
use Rattle.rp_store.proofs.hulls.hull_of.Goals as goal

pub returns-in-len1-up : goal.returns-in-len1-up
returns-in-len1-up g c =
    let seen = g.F.Forms.seen in
    c.joined.ensures ∙ ap (λ (ps : List _). joined (seen c.first-item.result).bounds (map (λ p. (seen p).bounds) ps)) (take_rest c.parts.result.now 1)
    ∙ hull_by_first g.F.Forms.seen c.parts.result.now c.first-item.result c.in-len1-up.len_at_least c.first-item.is ∙ ap hull_of_parts c.parts.ensures
