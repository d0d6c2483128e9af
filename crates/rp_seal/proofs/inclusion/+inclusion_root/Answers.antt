use Rattle.std.proofs.Common.{ap, sym, ◌∙◌, arith, List, ℕ, Some, option_map}
use Rattle.rp_seal.specs.Hash.{bytes_of}
use Rattle.rp_seal.specs.Merkle.{node_hash}
use Rattle.rp_seal.proofs.Steps.{inclusion_step-end, inclusion_step-no_end, inclusion_step-few, inclusion_step-left, inclusion_step-right}
use Rattle.rp_seal.proofs.inclusion.+inclusion_root.Goals as goal

pub returns-then-size-eq1 : goal.returns-then-size-eq1
returns-then-size-eq1 t c = sym (inclusion_step-end c.args.index c.args.size (bytes_of c.args.leaf.now) c.args.proof.now c.in_default.ensures.cases c.if-size-eq1.true)

pub returns-else-size-eq1 : goal.returns-else-size-eq1
returns-else-size-eq1 t c = sym (inclusion_step-no_end c.args.index c.args.size (bytes_of c.args.leaf.now) c.args.proof.now c.in_default.ensures.cases c.if-size-eq1.false)

pub returns-then-size-le1 : goal.returns-then-size-le1
returns-then-size-le1 t c =
    sym (inclusion_step-few c.args.index c.args.size (bytes_of c.args.leaf.now) c.args.proof.now c.in-Some.below.now c.in-Some.sibling.now c.in-Some.ensures.cases.0 c.if-size-le1.true)

pub returns-in_default-inclusion_root : goal.returns-in_default-inclusion_root
returns-in_default-inclusion_root t c =
    ap (option_map (λ h. node_hash h (bytes_of c.in-Some.sibling.now))) c.in_default-inclusion_root.ensures
    ∙ sym (inclusion_step-left c.args.index c.args.size c.split_point-left_size.result (bytes_of c.args.leaf.now) c.args.proof.now c.in-Some.below.now c.in-Some.sibling.now c.in-Some.ensures.cases.0 (omega arith) c.split_point-left_size.ensures.value c.if-index-left_size.true)

pub returns-in_default-inclusion_root-2 : goal.returns-in_default-inclusion_root-2
returns-in_default-inclusion_root-2 t c =
    ap (option_map (λ h. node_hash (bytes_of c.in-Some.sibling.now) h)) c.in_default-inclusion_root-2.ensures
    ∙ sym (inclusion_step-right c.args.index c.args.size c.split_point-left_size.result (bytes_of c.args.leaf.now) c.args.proof.now c.in-Some.below.now c.in-Some.sibling.now c.in-Some.ensures.cases.0 (omega arith) c.split_point-left_size.ensures.value c.if-index-left_size.false)

pub returns-in-Some-inclusion_root : goal.returns-in-Some-inclusion_root
returns-in-Some-inclusion_root t c =
    ap (λ (v : List ℕ). Some v) c.node_hash.ensures
    ∙ ap (option_map (λ h. node_hash h (bytes_of c.in-Some.sibling.now))) c.in-Some-inclusion_root.ensures
    ∙ sym (inclusion_step-left c.args.index c.args.size c.split_point-left_size.result (bytes_of c.args.leaf.now) c.args.proof.now c.in-Some.below.now c.in-Some.sibling.now c.in-Some.ensures.cases.0 (omega arith) c.split_point-left_size.ensures.value c.if-index-left_size.true)

pub returns-in-Some-inclusion_root-2 : goal.returns-in-Some-inclusion_root-2
returns-in-Some-inclusion_root-2 t c =
    ap (λ (v : List ℕ). Some v) c.node_hash-else-index-left_size.ensures
    ∙ ap (option_map (λ h. node_hash (bytes_of c.in-Some.sibling.now) h)) c.in-Some-inclusion_root-2.ensures
    ∙ sym (inclusion_step-right c.args.index c.args.size c.split_point-left_size.result (bytes_of c.args.leaf.now) c.args.proof.now c.in-Some.below.now c.in-Some.sibling.now c.in-Some.ensures.cases.0 (omega arith) c.split_point-left_size.ensures.value c.if-index-left_size.false)
