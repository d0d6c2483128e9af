use Rattle.std.proofs.Common.{List, ap₂, arith, sym, ◌∙◌}
use Rattle.rp_seal.specs.Hash.{hashes_of}
use Rattle.rp_seal.specs.Merkle.{node_hash, root_of}
use Rattle.rp_seal.specs.declared.hash.NodeHash.{NodeHash}
use Rattle.rp_seal.proofs.Steps.{slice-many}
use Rattle.rp_seal.proofs.threads.+fn-root_in_halves-join+arg2+fn-root_in_halves-join+arg3+root_in_halves.Goals as goal

pub returns : goal.returns
returns g t c =
    c.node_hash.ensures ∙ ap₂ node_hash c.join.ensures.first c.join.ensures.second
    ∙ ap₂ (λ (l r : List NodeHash). node_hash (root_of (hashes_of l)) (root_of (hashes_of r))) c.split_at.ensures.front c.split_at.ensures.back
    ∙ sym (slice-many c.args.hashes.now c.split_point.result (omega arith) c.split_point.ensures.value)
