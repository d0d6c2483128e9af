use Rattle.std.proofs.Common.{[], ◌∷◌, append_assoc, ◌∙◌}
use Rattle.base64.specs.Engines.{standard}
use Rattle.base64.specs.GeneralPurpose.{encode_of}
use Rattle.rp_seal_text.proofs.SpelledLines.{root_line}
use Rattle.rp_seal_text.proofs.hashes.take_hash.Goals as goal

pub returns-in_default-clause-each : goal.returns-in_default-clause-each
returns-in_default-clause-each c = λ hash rest hash_is is.
    c.in_default.ensures.each (encode_of standard hash) rest (root_line hash) (is ∙ append_assoc (encode_of standard hash) (10 ∷ []) rest)

pub returns-in_default-2-clause-each : goal.returns-in_default-2-clause-each
returns-in_default-2-clause-each c = λ hash rest hash_is is.
    let line = c.in-Some.ensures.each (encode_of standard hash) rest (root_line hash) (is ∙ append_assoc (encode_of standard hash) (10 ∷ []) rest) in
    let found = c.in_ok-hash.ensures.each hash hash_is.sized hash_is.bytes line.0 in
    rw c.in_default-2.is at found

pub returns-clause-each : goal.returns-clause-each
returns-clause-each c = λ hash rest hash_is is.
    let line = c.in-Some.ensures.each (encode_of standard hash) rest (root_line hash) (is ∙ append_assoc (encode_of standard hash) (10 ∷ []) rest) in
    let found = c.in_ok-hash.ensures.each hash hash_is.sized hash_is.bytes line.0 in
    (rw c.in-Some-2.is at found, line.1)
