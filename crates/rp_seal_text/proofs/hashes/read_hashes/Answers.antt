use Rattle.std.proofs.Common.{◌≡◌, ◌<◌, ◌+◌, ◌==◌, ℕ, List, [], ◌∷◌, ◌++◌, true, length, ap, sym, ◌∙◌, arith, append-nil, append_assoc, length-append, subst}
use Rattle.std.proofs.lemmas.Bool.{eqb-true}
use Rattle.std.proofs.lemmas.List.{map-append, length-map, nil_from_length}
use Rattle.std.proofs.lemmas.List.Elements.{All-nil, All-push}
use Rattle.rp_seal.specs.Hash.{bytes_of, hashes_of}
use Rattle.rp_seal_text.specs.Hashes.{AreHashes, IsHash, hash_line, hash_lines}
use Rattle.rp_seal_text.proofs.HashLemmas.{hash_lines-push, left_after, next_left, none_left}
use Rattle.rp_seal_text.proofs.hashes.read_hashes.Goals as goal

pub lines-init : goal.lines-init
lines-init c =
    let none : hashes_of c.in_ok-hashes.hashes.items ≡ [] = ap hashes_of c.in_ok-hashes.ensures.items in
    record {
      count = ap length c.in_ok-hashes.ensures.items;
      found = ap (λ v. hash_lines v ++ c.args.text.now) (sym none);
      hashes = subst AreHashes (sym none) (All-nil IsHash);
      each = λ hashes count are is. record { left = hashes; all = ap (λ v. v ++ hashes) (sym none); are = are; lines = is };
    }

pub returns-in_default-clause-each : goal.returns-in_default-clause-each
returns-in_default-clause-each c = λ hashes count are is.
    let read : List (List ℕ) = hashes_of c.lines.hashes.items in
    let below : length read < length hashes = omega (arith, length-map c.lines.hashes.items bytes_of, c.lines.invariant.count) in
    let next = next_left hashes read c.lines.rest.now (c.lines.invariant.each hashes count are is) below in
    let found = c.in_ok-hash.ensures.each next.hash (hash_lines next.left) next.hash_is next.lines in
    rw c.in_default.is at found

pub lines-preserved : goal.lines-preserved
lines-preserved c =
    let read : List (List ℕ) = hashes_of c.lines.hashes.items in
    let items : hashes_of c.push.new.self.items ≡ read ++ bytes_of c.in-Some.hash ∷ [] =
    ap hashes_of c.in_ok-push.ensures.items ∙ map-append bytes_of c.lines.hashes.items (c.in-Some.hash ∷ []) in
    let step = rw c.in-Some.is at c.in_ok-hash.ensures.found in
    record {
      count = ap length c.in_ok-push.ensures.items ∙ length-append c.lines.hashes.items (c.in-Some.hash ∷ []) ∙ ap (λ n. n + 1) c.lines.invariant.count;
      found = c.lines.invariant.found ∙ ap (λ v. hash_lines read ++ v) step
          ∙ sym (append_assoc (hash_lines read) (hash_line (bytes_of c.in-Some.hash)) c.in-Some.more.now)
          ∙ ap (λ v. v ++ c.in-Some.more.now) (sym (hash_lines-push read (bytes_of c.in-Some.hash)) ∙ ap hash_lines (sym items));
      hashes = subst AreHashes (sym items) (All-push IsHash read (bytes_of c.in-Some.hash) c.lines.invariant.hashes (rw c.in-Some.is at c.in_ok-hash.ensures.hash));
      each = λ hashes count are is.
          let below : length read < length hashes = omega (arith, length-map c.lines.hashes.items bytes_of, c.lines.invariant.count) in
          let next = next_left hashes read c.lines.rest.now (c.lines.invariant.each hashes count are is) below in
          let found = c.in_ok-hash.ensures.each next.hash (hash_lines next.left) next.hash_is next.lines in
          let got = rw c.in-Some.is at found in
          left_after hashes read _ c.lines.rest.now _ next (items ∙ ap (λ v. read ++ v ∷ []) got.0) got.1;
    }

pub returns-then-is_empty-clause-found : goal.returns-then-is_empty-clause-found
returns-then-is_empty-clause-found c =
    let lines : List ℕ = hash_lines (hashes_of c.lines.hashes.items) in
    let none : c.lines.rest.now ≡ [] = nil_from_length c.lines.rest.now (eqb-true (length c.lines.rest.now) 0 (sym c.is_empty.ensures ∙ c.if-is_empty.true)) in
    (omega (arith, c.lines.invariant.count), c.lines.invariant.found ∙ ap (λ v. lines ++ v) none ∙ append-nil lines)

pub returns-then-is_empty-clause-each : goal.returns-then-is_empty-clause-each
returns-then-is_empty-clause-each c = λ hashes count are is.
    let read : List (List ℕ) = hashes_of c.lines.hashes.items in
    let all : length read ≡ length hashes = omega (arith, length-map c.lines.hashes.items bytes_of, c.lines.invariant.count) in
    (none_left hashes read c.lines.rest.now (c.lines.invariant.each hashes count are is) all).0

pub returns-else-is_empty-clause-each : goal.returns-else-is_empty-clause-each
returns-else-is_empty-clause-each c = λ hashes count are is.
    let read : List (List ℕ) = hashes_of c.lines.hashes.items in
    let all : length read ≡ length hashes = omega (arith, length-map c.lines.hashes.items bytes_of, c.lines.invariant.count) in
    let none = none_left hashes read c.lines.rest.now (c.lines.invariant.each hashes count are is) all in
    let yes : c.is_empty.result ≡ true = c.is_empty.ensures ∙ ap (λ (v : List ℕ). length v == 0) none.1 in
    (cc)
