use Rattle.rp_seal.specs.Hash.{bytes_of, hashes_of}
use Rattle.rp_seal.proofs.Sound.{inclusion_proof-sound, sized-hashes}
use Rattle.rp_seal.proofs.inclusion.check_inclusion.Goals as goal

pub returns-clause-sound : goal.returns-clause-sound
returns-clause-sound c = λ yes. inclusion_proof-sound (bytes_of c.args.root.now) c.args.size c.args.index c.args.entry.now (hashes_of c.args.proof.now) (sized-hashes c.args.proof.now) (c.is_included.ensures.0 yes)
