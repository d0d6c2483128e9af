use Rattle.std.proofs.Common.{◌≡◌, ◌-◌, Some, length, map, ap, sym, ◌∙◌, option_map, subst, []}
use Rattle.std.specs.Prelude.{slice_index_or}
use Rattle.rp_book.specs.Act.{act_of}
use Rattle.rp_seal.specs.Act.{entry_of}
use Rattle.rp_seal.specs.Hash.{hashes_of}
use Rattle.rp_seal.specs.Inclusion.{IsInclusionProof}
use Rattle.rp_seal.specs.Merkle.{root_of}
use Rattle.rp_sealed_book.specs.Log.{entry_numbered, log_of}
use Rattle.rp_sealed_book.proofs.LogLemmas.{length-leaves}
use Rattle.rp_sealed_book.proofs.ProofLemmas.{included, place-of}
use Rattle.rp_sealed_book.proofs.inclusion.proof_of.Goals as goal

pub returns : goal.returns
returns g c =
    let log = log_of c.args.script.now (map act_of c.args.acts.now) in
    let act : entry_numbered log c.args.number ≡ Some (entry_of c.in-Some.act) = sym c.entry_with.ensures ∙ ap (option_map entry_of) c.in-Some.is in
    let place = place-of log c.args.number (entry_of c.in-Some.act) act in
    let hashes = c.in_ok-leaves.leaves.items in
    let leads = c.in_ok-proof.ensures in
    record {
      act = act;
      size = c.len-size.ensures ∙ sym c.deref.ensures.len ∙ ap length c.deref.ensures.value ∙ length-leaves hashes log c.in_ok-leaves.ensures.hashes;
      leads = included hashes log (c.args.number - 1) (entry_of c.in-Some.act) (hashes_of c.in_ok-proof.proof.items) c.in_ok-leaves.ensures.hashes place.1
          (subst (λ hs. IsInclusionProof (root_of (hashes_of hs)) (length hs) (c.args.number - 1) (slice_index_or (hashes_of hs) (c.args.number - 1) []) (hashes_of c.in_ok-proof.proof.items))
          c.deref.ensures.value leads);
    }
