use Rattle.std.proofs.Common.{ap, ◌∙◌, subst, arith, length, get_or, ◌-◌, List, []}
use Rattle.rp_seal.specs.declared.hash.NodeHash.{NodeHash}
use Rattle.rp_seal.specs.Hash.{hashes_of}
use Rattle.rp_seal.specs.Merkle.{root_of}
use Rattle.rp_seal.specs.Inclusion.{IsInclusionProof}
use Rattle.rp_seal.proofs.Steps.{inclusion_proof-one, inclusion_proof-left, inclusion_proof-right}
use Rattle.rp_seal.proofs.inclusion.+prove_inclusion.Goals as goal

pub returns-then-hashes-eq1 : goal.returns-then-hashes-eq1
returns-then-hashes-eq1 t c = inclusion_proof-one c.args.hashes.now c.args.index c.new.result.items c.if-hashes-eq1.true c.requires c.new.ensures.items

pub returns-in_ok-push : goal.returns-in_ok-push
returns-in_ok-push t c =
    inclusion_proof-left c.args.hashes.now c.push.new.self.items c.in_ok-proof.proof.items c.args.index c.split_point-left_size.result c.root_of.result (omega arith) c.split_point-left_size.ensures.value c.if-index-left_size.true
    c.in_ok-push.ensures.items (c.root_of.ensures ∙ ap (λ (v : List NodeHash). root_of (hashes_of v)) c.split_at.ensures.back)
    (subst (λ (v : List NodeHash). IsInclusionProof (root_of (hashes_of v)) (length v) c.args.index (get_or (hashes_of v) c.args.index []) (hashes_of c.in_ok-proof.proof.items)) c.split_at.ensures.front c.in_ok-proof.ensures)

pub returns-in_ok-push-2 : goal.returns-in_ok-push-2
returns-in_ok-push-2 t c =
    inclusion_proof-right c.args.hashes.now c.push-else-index-left_size.new.self.items c.in_ok-proof-2.proof.items c.args.index c.split_point-left_size.result c.root_of-else-index-left_size.result (omega arith) c.split_point-left_size.ensures.value c.if-index-left_size.false c.requires
    c.in_ok-push-2.ensures.items (c.root_of-else-index-left_size.ensures ∙ ap (λ (v : List NodeHash). root_of (hashes_of v)) c.split_at.ensures.front)
    (subst (λ (v : List NodeHash). IsInclusionProof (root_of (hashes_of v)) (length v) (c.args.index - c.split_point-left_size.result) (get_or (hashes_of v) (c.args.index - c.split_point-left_size.result) []) (hashes_of c.in_ok-proof-2.proof.items)) c.split_at.ensures.back c.in_ok-proof-2.ensures)
