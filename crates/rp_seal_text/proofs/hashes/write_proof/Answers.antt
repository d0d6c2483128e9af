use Rattle.std.proofs.Common.{◌≡◌, ℕ, List, ◌++◌, length, take, codes, subst, ap, sym, ◌∙◌, append-nil, append_assoc, take_all}
use Rattle.std.proofs.lemmas.List.{length-map}
use Rattle.std.proofs.lemmas.List.Elements.{All-nil, All-push}
use Rattle.rp_seal.specs.declared.hash.NodeHash.{NodeHash}
use Rattle.rp_seal.specs.Hash.{bytes_of, hashes_of}
use Rattle.rp_seal_text.specs.Fields.{number_line}
use Rattle.rp_seal_text.specs.Hashes.{AreHashes, IsHash, hash_line, hash_lines}
use Rattle.rp_seal_text.proofs.HashLemmas.{hash_lines-push, hashes_of-more}
use Rattle.rp_seal_text.proofs.hashes.write_proof.Goals as goal

pub loop-hash-init : goal.loop-hash-init
loop-hash-init c = record { text = sym (append-nil c.write_number.new.text.items); hashes = All-nil IsHash }

pub loop-hash-preserved : goal.loop-hash-preserved
loop-hash-preserved c =
    let before : List (List ℕ) = hashes_of (take c.loop-hash.hash-index c.args.hashes.now) in
    let more = hashes_of-more c.args.hashes.now c.loop-hash.hash-index c.hash-item.result c.loop-hash-test.true c.hash-item.is in
    record {
      text = c.in_ok-write_hash.ensures.text ∙ ap (λ v. v ++ hash_line (bytes_of c.hash-item.result)) c.loop-hash.invariant.text
          ∙ append_assoc c.write_number.new.text.items (hash_lines before) (hash_line (bytes_of c.hash-item.result))
          ∙ ap (λ v. c.write_number.new.text.items ++ v) (sym (hash_lines-push before (bytes_of c.hash-item.result)) ∙ ap hash_lines (sym more));
      hashes = subst AreHashes (sym more) (All-push IsHash before (bytes_of c.hash-item.result) c.loop-hash.invariant.hashes c.in_ok-write_hash.ensures.hash);
    }

pub returns-clause-text : goal.returns-clause-text
returns-clause-text c =
    let hashes : List NodeHash = c.args.hashes.now in
    let all : take c.loop-hash.hash-index hashes ≡ hashes = take_all c.loop-hash.hash-index hashes c.loop-hash-test.false in
    c.loop-hash.invariant.text
    ∙ ap (λ v. v ++ hash_lines (hashes_of (take c.loop-hash.hash-index hashes))) c.in_ok-write_number.ensures.text
    ∙ append_assoc c.args.text.now.items (number_line (codes "proof") (length hashes)) (hash_lines (hashes_of (take c.loop-hash.hash-index hashes)))
    ∙ ap (λ v. c.args.text.now.items ++ (number_line (codes "proof") (length hashes) ++ hash_lines (hashes_of v))) all
    ∙ ap (λ n. c.args.text.now.items ++ (number_line (codes "proof") n ++ hash_lines (hashes_of hashes))) (sym (length-map hashes bytes_of))

pub returns-clause-hashes : goal.returns-clause-hashes
returns-clause-hashes c =
    subst (λ (v : List NodeHash). AreHashes (hashes_of v)) (take_all c.loop-hash.hash-index c.args.hashes.now c.loop-hash-test.false) c.loop-hash.invariant.hashes
