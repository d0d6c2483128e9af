use Rattle.std.proofs.Common.{ap, sym, ◌∙◌, option_map, reverse}
use Rattle.rp_seal.specs.Hash.{bytes_of, hashes_of}
use Rattle.rp_seal.specs.Consistency.{root_pair, in_left, in_right, consistency_roots}
use Rattle.rp_seal.proofs.ConsistencyPaths.{consistency_roots-same}
use Rattle.rp_seal.proofs.Steps.{consistency_step-end, consistency_step-left, consistency_step-right, root_pair-none, root_pair-left, root_pair-right}
use Rattle.rp_seal.proofs.consistency.+consistency_roots.Goals as goal

pub returns-then-first-second : goal.returns-then-first-second
returns-then-first-second t c =
    c.common_roots.ensures ∙ ap (option_map root_pair) (sym (consistency_roots-same c.args.first c.args.second (option_map bytes_of c.args.known) (reverse (hashes_of c.args.proof.now)) c.if-first-second.true))

pub returns-in_default : goal.returns-in_default
returns-in_default t c =
    ap (option_map root_pair) (sym (consistency_step-end c.args.first c.args.second (option_map bytes_of c.args.known) c.args.proof.now c.in_default.ensures.cases c.if-first-second.false))

pub returns-in_default-consistency_roots : goal.returns-in_default-consistency_roots
returns-in_default-consistency_roots t c =
    sym (ap (option_map root_pair) (consistency_step-left c.args.first c.args.second c.split_point-left_size.result (option_map bytes_of c.args.known) c.args.proof.now c.in-Some.below.now c.in-Some.sibling.now
    c.in-Some.ensures.cases.0 c.if-first-second.false c.split_point-left_size.ensures.value c.if-first-left_size.true)
    ∙ root_pair-none (in_left (bytes_of c.in-Some.sibling.now)) (consistency_roots c.args.first c.split_point-left_size.result (option_map bytes_of c.args.known) (reverse (hashes_of c.in-Some.below.now))) c.in_default-consistency_roots.ensures)

pub returns-in_default-consistency_roots-2 : goal.returns-in_default-consistency_roots-2
returns-in_default-consistency_roots-2 t c =
    sym (ap (option_map root_pair) (consistency_step-right c.args.first c.args.second c.split_point-left_size.result (option_map bytes_of c.args.known) c.args.proof.now c.in-Some.below.now c.in-Some.sibling.now
    c.in-Some.ensures.cases.0 c.if-first-second.false c.split_point-left_size.ensures.value c.if-first-left_size.false)
    ∙ root_pair-none (in_right (bytes_of c.in-Some.sibling.now)) _ c.in_default-consistency_roots-2.ensures)

pub returns-in-Some-consistency_roots : goal.returns-in-Some-consistency_roots
returns-in-Some-consistency_roots t c =
    sym (ap (option_map root_pair) (consistency_step-left c.args.first c.args.second c.split_point-left_size.result (option_map bytes_of c.args.known) c.args.proof.now c.in-Some.below.now c.in-Some.sibling.now
    c.in-Some.ensures.cases.0 c.if-first-second.false c.split_point-left_size.ensures.value c.if-first-left_size.true)
    ∙ root_pair-left (bytes_of c.in-Some.sibling.now) (bytes_of c.in-Some-consistency_roots.left) (bytes_of c.in-Some-consistency_roots.wide) (bytes_of c.node_hash.result) _ c.in-Some-consistency_roots.ensures c.node_hash.ensures)

pub returns-in-Some-consistency_roots-2 : goal.returns-in-Some-consistency_roots-2
returns-in-Some-consistency_roots-2 t c =
    sym (ap (option_map root_pair) (consistency_step-right c.args.first c.args.second c.split_point-left_size.result (option_map bytes_of c.args.known) c.args.proof.now c.in-Some.below.now c.in-Some.sibling.now
    c.in-Some.ensures.cases.0 c.if-first-second.false c.split_point-left_size.ensures.value c.if-first-left_size.false)
    ∙ root_pair-right (bytes_of c.in-Some.sibling.now) (bytes_of c.in-Some-consistency_roots-2.right) (bytes_of c.in-Some-consistency_roots-2.wide) (bytes_of c.node_hash-else-first-left_size.result) (bytes_of c.node_hash-else-first-left_size-2.result) _
    c.in-Some-consistency_roots-2.ensures c.node_hash-else-first-left_size.ensures c.node_hash-else-first-left_size-2.ensures)
