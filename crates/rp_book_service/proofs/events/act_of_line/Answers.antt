use Rattle.std.proofs.Common.{ltb, refl, rules, ap, length, ◌∙◌, option_map, Bor}
use Rattle.std.proofs.lemmas.List.Sorted.{IsPartitionPoint-from_clause, IsPartitionedBy-ltb}
use Rattle.std.proofs.lemmas.Option.{slice_get_past, slice_get_read}
use Rattle.rp_book.specs.declared.act.Act.{Act}
use Rattle.rp_book.specs.Act.{act_of}
use Rattle.rp_book_service.proofs.EventLemmas.{act_with-none, act_with-other, act_with-some, last-rises}
use Rattle.rp_book_service.proofs.events.act_of_line.Goals as goal

pub returns-in_err-act-clause-found : goal.returns-in_err-act-clause-found
returns-in_err-act-clause-found c = λ order.
    let point = IsPartitionPoint-from_clause (λ (a : Act). ltb a.last c.args.line) _ _ c.partition_point-place.ensures.partitioned (IsPartitionedBy-ltb (λ (a : Act). a.last) c.args.acts.now c.args.line (last-rises 0 c.args.acts.now order)) (λ a r q k. search rules) in
    ap (option_map (λ (act : Bor Act). act_of act.now)) c.from_residual.ensures
    ∙ act_with-none c.args.line c.args.acts.now c.partition_point-place.result order point (slice_get_past c.args.acts.now c.partition_point-place.result c.in_err-act.ensures.lookup.3)

pub returns-then-has_line-clause-found : goal.returns-then-has_line-clause-found
returns-then-has_line-clause-found c = λ order.
    let acts = c.args.acts.now in
    let place = c.partition_point-place.result in
    let lookup = c.in_ok-act.ensures.lookup in
    let point = IsPartitionPoint-from_clause (λ (a : Act). ltb a.last c.args.line) _ _ c.partition_point-place.ensures.partitioned (IsPartitionedBy-ltb (λ (a : Act). a.last) acts c.args.line (last-rises 0 acts order)) (λ a r q k. search rules) in
    act_with-some c.args.line acts place order point c.in_ok-act.act.now (slice_get_read acts (length acts) place c.in_ok-act.act.now refl lookup.3.0 lookup.1) (c.has_line.ensures.0 c.if-has_line.true)

pub returns-else-has_line-clause-found : goal.returns-else-has_line-clause-found
returns-else-has_line-clause-found c = λ order.
    let acts = c.args.acts.now in
    let place = c.partition_point-place.result in
    let lookup = c.in_ok-act.ensures.lookup in
    let point = IsPartitionPoint-from_clause (λ (a : Act). ltb a.last c.args.line) _ _ c.partition_point-place.ensures.partitioned (IsPartitionedBy-ltb (λ (a : Act). a.last) acts c.args.line (last-rises 0 acts order)) (λ a r q k. search rules) in
    act_with-other c.args.line acts place order point c.in_ok-act.act.now (slice_get_read acts (length acts) place c.in_ok-act.act.now refl lookup.3.0 lookup.1)
    (λ has. let holds = c.has_line.ensures.1 has in let lacks = c.if-has_line.false in absurd (cc))
