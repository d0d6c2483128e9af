use Rattle.std.proofs.Common.{◌≡◌, ℕ, ◌≤◌, [], map, sym, ap, ◌∙◌, subst, length}
use Rattle.std.proofs.lemmas.Result.{err_from_is_err_and}
use Rattle.std.proofs.lemmas.List.{length-map}
use Rattle.rp_geometry.specs.parts.Groups.{groups_of}
use Rattle.rp_geometry.specs.parts.Parts.{most_parts}
use Rattle.rp_semantics.specs.Walk.{done, stopped, limit_met, pass}
use Rattle.rp_semantics.specs.Pieces.{numbered_from, links_among, pieces_of_parts}
use Rattle.rp_unionfind.specs.Lists.{numbers_of}
use Rattle.rp_oracle.specs.Refines.{StopsBy}
use Rattle.rp_oracle.proofs.Left.{stop_left}
use Rattle.rp_eval.proofs.Linked.{count_is, too_many, links_left, groups_found}
use Rattle.rp_eval.proofs.contacts.pieces.Goals as goal

pub returns-then-not-count-clause-comes : goal.returns-then-not-count-clause-comes
returns-then-not-count-clause-comes g c =
    let tester = g.T.Oracle.tester in
    let seen = g.T.Oracle.seen in
    let parts = c.parts-parts.result.now in
    subst (λ ps. pieces_of_parts tester ps c.args.tests.now ≡ stopped limit_met c.count.new.self) c.parts-parts.ensures
    (too_many tester seen (map seen parts) c.pair_count.result c.args.tests.now c.count.new.self (count_is tester seen parts c.pair_count.result c.pair_count.ensures) c.if-not-count.ensures)

pub returns-in_err-links_among-clause-comes : goal.returns-in_err-links_among-clause-comes
returns-in_err-links_among-clause-comes g c =
    let p = err_from_is_err_and c.from_residual.result c.from_residual.ensures.1 in
    let tester = g.T.Oracle.tester in
    let seen = g.T.Oracle.seen in
    let parts = c.parts-parts.result.now in
    let ps = map seen parts in
    let e = c.in_err-links_among.field-0.0 in
    let new = c.links_among.new.tests in
    rw (p.1, p.2)
    (subst (λ ps. StopsBy e new (pieces_of_parts tester ps c.args.tests.now)) c.parts-parts.ensures
    (stop_left (links_among tester [] (numbered_from 1 ps)) (λ links. pass (groups_of links (length ps)))
    (links_left tester seen ps c.pair_count.result c.args.tests.now c.count.new.self (count_is tester seen parts c.pair_count.result c.pair_count.ensures) c.if-not-count.ensures)
    e new (subst (λ found. StopsBy e new (links_among tester found (numbered_from 1 ps) c.count.new.self)) c.new-links.ensures c.in_err-links_among.ensures.comes)))

pub returns-clause-comes : goal.returns-clause-comes
returns-clause-comes g c =
    let tester = g.T.Oracle.tester in
    let seen = g.T.Oracle.seen in
    let parts = c.parts-parts.result.now in
    let links = c.links_among.new.links.items in
    subst (λ ps. pieces_of_parts tester ps c.args.tests.now ≡ done (numbers_of c.in_ok-groups_of_links.field-0) c.links_among.new.tests) c.parts-parts.ensures
    (groups_found tester seen parts c.pair_count.result c.new-links.result.items links (numbers_of c.in_ok-groups_of_links.field-0) c.args.tests.now c.count.new.self c.links_among.new.tests
    (count_is tester seen parts c.pair_count.result c.pair_count.ensures) c.if-not-count.ensures c.new-links.ensures c.in_ok-links_among.ensures.comes
    (c.in_ok-groups_of_links.ensures.right ∙ ap (λ ls. groups_of ls (length parts)) c.items.ensures))

pub returns-then-not-count-clause-few : goal.returns-then-not-count-clause-few
returns-then-not-count-clause-few g c = tt

pub links_among-requires-clause-few : goal.links_among-requires-clause-few
links_among-requires-clause-few g c = subst (λ (n : ℕ). n ≤ most_parts) (ap length (sym c.parts-parts.ensures) ∙ length-map c.parts-parts.result.now g.T.Oracle.seen) c.requires

pub links_among-requires-clause-within : goal.links_among-requires-clause-within
links_among-requires-clause-within g c = rw c.new-links.ensures tt

pub returns-in_err-links_among-clause-few : goal.returns-in_err-links_among-clause-few
returns-in_err-links_among-clause-few g c = let p = err_from_is_err_and c.from_residual.result c.from_residual.ensures.1 in rw p.1 tt

pub groups_of_links-requires-clause-few : goal.groups_of_links-requires-clause-few
groups_of_links-requires-clause-few g c = subst (λ (n : ℕ). n ≤ most_parts) (ap length (sym c.parts-parts.ensures) ∙ length-map c.parts-parts.result.now g.T.Oracle.seen) c.requires

pub groups_of_links-requires-clause-within : goal.groups_of_links-requires-clause-within
groups_of_links-requires-clause-within g c = rw c.items.ensures c.in_ok-links_among.ensures.within

pub returns-in_err-groups_of_links-clause-comes : goal.returns-in_err-groups_of_links-clause-comes
returns-in_err-groups_of_links-clause-comes g c =
    let p = err_from_is_err_and c.from_residual-in_err-groups_of_links.result c.from_residual-in_err-groups_of_links.ensures.1 in
    rw (p.1, p.2) tt

pub returns-in_err-groups_of_links-clause-few : goal.returns-in_err-groups_of_links-clause-few
returns-in_err-groups_of_links-clause-few g c =
    let p = err_from_is_err_and c.from_residual-in_err-groups_of_links.result c.from_residual-in_err-groups_of_links.ensures.1 in
    rw p.1 tt
