-- The bytes of an act determine the act.
use Rattle.std.proofs.Common.{◌≡◌, ℕ, ◌<◌, ◌^◌, List, [], ◌++◌, length, take, drop, Option, Some, None, IfSome, refl, ap, subst, sym, ◌∙◌, append_assoc, append-nil, w32, w64}
use Rattle.std.proofs.lemmas.List.{take_at, append_cancel_left}
use Rattle.std.proofs.lemmas.Nat.{from_be_bytes-to_be_bytes_4, from_be_bytes-to_be_bytes_8}
use Rattle.std.specs.Int.{to_be_bytes, from_be_bytes}
use Rattle.rp_seal.specs.Act.{ActEntry, IsEncodable, act_bytes, text_bytes, option_bytes}

-- if p ++ x and q ++ y are equal, and p and q have one length, p is q and x is y
fronts : (p q x y : List ℕ) → length p ≡ length q → p ++ x ≡ q ++ y → (p ≡ q) × (x ≡ y)
fronts p q x y len same =
    let front : p ≡ q = sym (take_at p x (length p) refl) ∙ ap (take (length p)) same ∙ take_at q y (length p) (sym len) in
    (front, append_cancel_left q x y (subst (λ v. v ++ x ≡ q ++ y) front same))

-- equal lists that begin with the four bytes of a number have the same number and the same rest
number_front : (m n : ℕ) (x y : List ℕ) → m < 2 ^ 32 → n < 2 ^ 32 → to_be_bytes w32 m ++ x ≡ to_be_bytes w32 n ++ y → (m ≡ n) × (x ≡ y)
number_front m n x y hm hn same =
    let parts = fronts (to_be_bytes w32 m) (to_be_bytes w32 n) x y refl same in
    (sym (from_be_bytes-to_be_bytes_4 m hm) ∙ ap (from_be_bytes w32) parts.0 ∙ from_be_bytes-to_be_bytes_4 n hn, parts.1)

-- equal lists that begin with the eight bytes of a number have the same number and the same rest
length_front : (m n : ℕ) (x y : List ℕ) → m < 2 ^ 64 → n < 2 ^ 64 → to_be_bytes w64 m ++ x ≡ to_be_bytes w64 n ++ y → (m ≡ n) × (x ≡ y)
length_front m n x y hm hn same =
    let parts = fronts (to_be_bytes w64 m) (to_be_bytes w64 n) x y refl same in
    (sym (from_be_bytes-to_be_bytes_8 m hm) ∙ ap (from_be_bytes w64) parts.0 ∙ from_be_bytes-to_be_bytes_8 n hn, parts.1)

-- equal lists that begin with the bytes of a text have the same text and the same rest
text_front : (s t x y : List ℕ) → length s < 2 ^ 64 → length t < 2 ^ 64 → text_bytes s ++ x ≡ text_bytes t ++ y → (s ≡ t) × (x ≡ y)
text_front s t x y hs ht same =
    let whole : to_be_bytes w64 (length s) ++ (s ++ x) ≡ to_be_bytes w64 (length t) ++ (t ++ y) =
    sym (append_assoc (to_be_bytes w64 (length s)) s x) ∙ same ∙ append_assoc (to_be_bytes w64 (length t)) t y in
    let parts = length_front (length s) (length t) (s ++ x) (t ++ y) hs ht whole in
    fronts s t x y parts.0 parts.1

-- equal lists that begin with the bytes of an optional text have the same text and the same rest
option_front : (s t : Option (List ℕ)) (x y : List ℕ) → IfSome s (λ v. length v < 2 ^ 64) → IfSome t (λ v. length v < 2 ^ 64)
    → option_bytes s ++ x ≡ option_bytes t ++ y → (s ≡ t) × (x ≡ y)
option_front None None x y hs ht same = (refl, ap (drop 1) same)
option_front None (Some t) x y hs ht same = cc
option_front (Some s) None x y hs ht same = cc
option_front (Some s) (Some t) x y hs ht same =
    let rest : text_bytes s ++ x ≡ text_bytes t ++ y = ap (drop 1) same in
    let parts = text_front s t x y hs ht rest in
    (ap (λ (v : List ℕ). Some v) parts.0, parts.1)

-- two acts with the same bytes are equal
pub same_act : (a b : ActEntry) → IsEncodable a → IsEncodable b → act_bytes a ≡ act_bytes b → a ≡ b
same_act a b ra rb same =
    let number = number_front a.number b.number _ _ ra.number rb.number same in
    let first = number_front a.first b.first _ _ ra.first rb.first number.1 in
    let last = number_front a.last b.last _ _ ra.last rb.last first.1 in
    let added = text_front a.added b.added _ _ ra.added rb.added last.1 in
    let who = option_front a.who b.who _ _ ra.who rb.who added.1 in
    let deed = option_front a.deed b.deed _ _ ra.deed rb.deed who.1 in
    let lines = text_front a.lines b.lines [] [] ra.lines rb.lines (append-nil (text_bytes a.lines) ∙ deed.1 ∙ sym (append-nil (text_bytes b.lines))) in
    λ i. record { number = number.0 i; first = first.0 i; last = last.0 i; added = added.0 i; who = who.0 i; deed = deed.0 i; lines = lines.0 i }
