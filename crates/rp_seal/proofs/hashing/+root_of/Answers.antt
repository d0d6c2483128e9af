use Rattle.std.proofs.Common.{◌≡◌, ap, ap₂, sym, ◌∙◌, arith, length, drop, take, List, length-drop, take_all, ◌-◌}
use Rattle.rp_seal.specs.declared.hash.NodeHash.{NodeHash}
use Rattle.rp_seal.specs.Hash.{hashes_of}
use Rattle.rp_seal.specs.Merkle.{node_hash, root_of}
use Rattle.rp_seal.proofs.Steps.{slice-none, slice-one, slice-many}
use Rattle.rp_seal.proofs.hashing.+root_of.Goals as goal

pub returns-in-empty : goal.returns-in-empty
returns-in-empty t c = c.empty_root.ensures ∙ sym (slice-none c.args.hashes.now (omega arith))

pub returns-in-len1 : goal.returns-in-len1
returns-in-len1 t c = sym (slice-one c.args.hashes.now c.only-item.result (omega arith) c.only-item.is)

pub returns-in_default : goal.returns-in_default
returns-in_default t c =
    let rest : take (length c.args.hashes.now - c.split_point-left_size.result) (drop c.split_point-left_size.result c.args.hashes.now) ≡ drop c.split_point-left_size.result c.args.hashes.now =
    take_all _ _ (omega (arith, length-drop c.split_point-left_size.result c.args.hashes.now)) in
    c.node_hash.ensures ∙ ap₂ node_hash c.root_of.ensures (c.root_of-in_default.ensures ∙ ap (λ (v : List NodeHash). root_of (hashes_of v)) rest)
    ∙ sym (slice-many c.args.hashes.now c.split_point-left_size.result (omega arith) c.split_point-left_size.ensures.value)
