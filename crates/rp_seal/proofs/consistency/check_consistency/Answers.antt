use Rattle.std.proofs.Common.{inl, inr, arith}
use Rattle.rp_seal.specs.Hash.{bytes_of, hashes_of}
use Rattle.rp_seal.proofs.Sound.{consistency_proof-sound, sized-hashes}
use Rattle.rp_seal.proofs.consistency.check_consistency.Goals as goal

pub returns-clause-longer : goal.returns-clause-longer
returns-clause-longer c = λ yes. elim (c.is_consistent.ensures.0 yes) [ inl is ↦ is.longer | inr is ↦ let none = is.none in omega (arith, none) ]

pub returns-clause-sound : goal.returns-clause-sound
returns-clause-sound c = λ yes. consistency_proof-sound c.args.first_size (bytes_of c.args.first.now) c.args.second_size (bytes_of c.args.second.now) (hashes_of c.args.proof.now)
    c.args.first.now.sized (sized-hashes c.args.proof.now) (c.is_consistent.ensures.0 yes)
