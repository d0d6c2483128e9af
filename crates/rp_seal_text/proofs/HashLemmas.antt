-- The lines of hashes.
use Rattle.std.proofs.Common.{◌≡◌, ℕ, ◌+◌, ◌<◌, List, [], ◌∷◌, ◌++◌, length, get_or, take, ap, sym, ◌∙◌, arith, append-nil, append_assoc, length-append}
use Rattle.std.proofs.lemmas.Grind.{flat_map-append}
use Rattle.std.proofs.lemmas.List.{map-append, take_more}
use Rattle.std.proofs.lemmas.List.Elements.{All-head, All-tail}
use Rattle.rp_seal.specs.declared.hash.NodeHash.{NodeHash}
use Rattle.rp_seal.specs.Hash.{bytes_of, hashes_of}
use Rattle.rp_seal_text.specs.Hashes.{AreHashes, IsHash, hash_line, hash_lines}

-- the lines of hashes and one more hash are their lines and its line
pub hash_lines-push : (hashes : List (List ℕ)) (hash : List ℕ) → hash_lines (hashes ++ hash ∷ []) ≡ hash_lines hashes ++ hash_line hash
hash_lines-push hashes hash =
    flat_map-append hash_line hashes (hash ∷ []) ∙ ap (λ v. hash_lines hashes ++ v) (append-nil (hash_line hash))

-- the bytes of the first i + 1 hashes are those of the first i, and those of the one at i
pub hashes_of-more : (hashes : List NodeHash) (i : ℕ) (hash : NodeHash) → i < length hashes → hash ≡ get_or hashes i hash
    → hashes_of (take (i + 1) hashes) ≡ hashes_of (take i hashes) ++ bytes_of hash ∷ []
hashes_of-more hashes i hash below is =
    ap hashes_of (take_more hashes i hash below ∙ ap (λ h. take i hashes ++ h ∷ []) (sym is)) ∙ map-append bytes_of (take i hashes) (hash ∷ [])

-- of the lines of hashes some are read, and a text has the lines of the others
pub record IsLeft (hashes read : List (List ℕ)) (text : List ℕ) : Type 0 where
  pub left : List (List ℕ)
  pub all : hashes ≡ read ++ left
  pub are : AreHashes left
  pub lines : text ≡ hash_lines left

-- of the lines of hashes some are read, and a text has the line of the next one and the lines of the others
pub record IsNext (hashes read : List (List ℕ)) (text : List ℕ) : Type 0 where
  pub hash : List ℕ
  pub left : List (List ℕ)
  pub all : hashes ≡ read ++ hash ∷ left
  pub hash_is : IsHash hash
  pub are : AreHashes left
  pub lines : text ≡ hash_line hash ++ hash_lines left

-- if fewer hashes are read than there are, there is a next one
next_of : (hashes read : List (List ℕ)) (text : List ℕ) (left : List (List ℕ)) → hashes ≡ read ++ left → AreHashes left
    → text ≡ hash_lines left → length read < length hashes → IsNext hashes read text
next_of hashes read text [] all are lines below =
    absurd (omega (arith, ap length all, length-append read []))
next_of hashes read text (hash ∷ left) all are lines below = record {
  hash = hash;
  left = left;
  all = all;
  hash_is = All-head IsHash hash left are;
  are = All-tail IsHash hash left are;
  lines = lines;
}

-- if fewer hashes are read than there are, the text begins with the line of the next one
pub next_left : (hashes read : List (List ℕ)) (text : List ℕ) → IsLeft hashes read text → length read < length hashes
    → IsNext hashes read text
next_left hashes read text l below = next_of hashes read text l.left l.all l.are l.lines below

-- after the next hash is read, the lines of the others are left
pub left_after : (hashes read read_now : List (List ℕ)) (text text_now : List ℕ) (n : IsNext hashes read text) → read_now ≡ read ++ n.hash ∷ []
    → text_now ≡ hash_lines n.left → IsLeft hashes read_now text_now
left_after hashes read read_now text text_now n more lines = record {
  left = n.left;
  all = n.all ∙ sym (append_assoc read (n.hash ∷ []) n.left) ∙ ap (λ v. v ++ n.left) (sym more);
  are = n.are;
  lines = lines;
}

-- if as many hashes are read as there are, the text is empty and the hashes read are all
all_read : (hashes read : List (List ℕ)) (text : List ℕ) (left : List (List ℕ)) → hashes ≡ read ++ left → text ≡ hash_lines left
    → length read ≡ length hashes → (read ≡ hashes) × (text ≡ [])
all_read hashes read text [] all lines count = (sym (all ∙ append-nil read), lines)
all_read hashes read text (hash ∷ left) all lines count =
    absurd (omega (arith, ap length all, length-append read (hash ∷ left), count))

-- if as many hashes are read as there are, nothing is left
pub none_left : (hashes read : List (List ℕ)) (text : List ℕ) → IsLeft hashes read text → length read ≡ length hashes
    → (read ≡ hashes) × (text ≡ [])
none_left hashes read text l count = all_read hashes read text l.left l.all l.lines count
