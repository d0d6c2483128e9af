use Rattle.std.proofs.Common.{◌≡◌, ap, sym, ◌∙◌, subst, arith, ◌-◌, ◌++◌, ◌∷◌, [], List, Vec, Global, false}
use Rattle.rp_seal.specs.declared.hash.NodeHash.{NodeHash}
use Rattle.rp_seal.specs.Hash.{hashes_of}
use Rattle.rp_seal.specs.Merkle.{root_of}
use Rattle.rp_seal.specs.Consistency.{IsConsistencyPath}
use Rattle.rp_seal.proofs.Steps.{consistency_proof-known, consistency_proof-new, consistency_proof-left, consistency_proof-right}
use Rattle.rp_seal.proofs.consistency.+consistency_path.Goals as goal
use Rattle.rp_seal.proofs.consistency.+consistency_path.Goals.{then-not-is_known+in_ok-push, else-not-is_known}

pub returns-then-first-hashes : goal.returns-then-first-hashes
returns-then-first-hashes t c =
    elim c.if-not-is_known.branch [
      | then-not-is_known+in_ok-push w ↦
          let items : c.if-not-is_known.proof.items ≡ w.root_of.result ∷ [] =
          ap (λ (v : Vec NodeHash Global). v.items) w.proof-is ∙ w.in_ok-push.ensures.items ∙ ap (λ (v : List NodeHash). v ++ w.root_of.result ∷ []) c.new-proof.ensures.items in
          subst (λ b. IsConsistencyPath c.args.hashes.now c.args.first b c.if-not-is_known.proof.items) (sym w.if-not-is_known.true)
          (consistency_proof-new c.args.hashes.now c.args.first c.if-not-is_known.proof.items w.root_of.result c.if-first-hashes.true items w.root_of.ensures)
      | else-not-is_known w ↦
          let items : c.if-not-is_known.proof.items ≡ [] = ap (λ (v : Vec NodeHash Global). v.items) w.proof-is ∙ c.new-proof.ensures.items in
          subst (λ b. IsConsistencyPath c.args.hashes.now c.args.first b c.if-not-is_known.proof.items) (sym w.if-not-is_known.false)
          (consistency_proof-known c.args.hashes.now c.args.first c.if-not-is_known.proof.items c.if-first-hashes.true items)
    ]

pub returns-in_ok-push-2 : goal.returns-in_ok-push-2
returns-in_ok-push-2 t c =
    consistency_proof-left c.args.hashes.now c.push-then-first-left_size.new.self.items c.in_ok-proof.proof.items c.args.first c.split_point-left_size.result c.args.is_known c.root_of-then-first-left_size.result
    (omega arith) c.split_point-left_size.ensures.value c.if-first-hashes.false c.if-first-left_size.true c.in_ok-push-2.ensures.items
    (c.root_of-then-first-left_size.ensures ∙ ap (λ (v : List NodeHash). root_of (hashes_of v)) c.split_at.ensures.back)
    (subst (λ (v : List NodeHash). IsConsistencyPath v c.args.first c.args.is_known c.in_ok-proof.proof.items) c.split_at.ensures.front c.in_ok-proof.ensures)

pub returns-in_ok-push-3 : goal.returns-in_ok-push-3
returns-in_ok-push-3 t c =
    consistency_proof-right c.args.hashes.now c.push-else-first-left_size.new.self.items c.in_ok-proof-2.proof.items c.args.first c.split_point-left_size.result c.args.is_known c.root_of-else-first-left_size.result
    (omega arith) c.split_point-left_size.ensures.value c.if-first-hashes.false c.if-first-left_size.false c.requires.longer c.in_ok-push-3.ensures.items
    (c.root_of-else-first-left_size.ensures ∙ ap (λ (v : List NodeHash). root_of (hashes_of v)) c.split_at.ensures.front)
    (subst (λ (v : List NodeHash). IsConsistencyPath v (c.args.first - c.split_point-left_size.result) false c.in_ok-proof-2.proof.items) c.split_at.ensures.back c.in_ok-proof-2.ensures)
