use Rattle.std.proofs.Common.{ap, ◌∙◌, length, take}
use Rattle.rp_seal.specs.Hash.{hashes_of}
use Rattle.rp_seal.specs.Merkle.{root_of}
use Rattle.rp_seal.proofs.Trees.{root-none}
use Rattle.rp_seal.proofs.Steps.{from_empty-intro, slice-none}
use Rattle.rp_seal.proofs.consistency.prove_consistency.Goals as goal

pub returns-then-first-eq0 : goal.returns-then-first-eq0
returns-then-first-eq0 c =
    from_empty-intro c.args.first (root_of (hashes_of (take c.args.first c.args.hashes.now))) (length c.args.hashes.now) (root_of (hashes_of c.args.hashes.now)) (hashes_of c.new.result.items) c.if-first-eq0.true
    (ap hashes_of c.new.ensures.items, ap (λ n. root_of (hashes_of (take n c.args.hashes.now))) c.if-first-eq0.true ∙ root-none, λ e. slice-none c.args.hashes.now e)
