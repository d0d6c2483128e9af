use Rattle.std.proofs.Common.{ap}
use Rattle.rp_seal.specs.Hash.{hashes_of}
use Rattle.rp_seal_text.specs.Checkpoint.{fields_of}
use Rattle.rp_seal_text.specs.ProofFiles.{link_fields}
use Rattle.rp_sealed_book.proofs.ProofLemmas.{continues}
use Rattle.rp_sealed_book.proofs.check.check_link.Goals as goal

pub returns-clause-sound : goal.returns-clause-sound
returns-clause-sound c = λ yes.
    continues (fields_of c.args.old.now) (fields_of c.args.new.now) (link_fields c.args.link.now) (hashes_of c.deref.result.now) (ap hashes_of c.deref.ensures.value) (c.check_consistency.ensures.sound yes)
