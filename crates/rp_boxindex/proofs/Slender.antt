-- How high a balanced tree can be.
use Rattle.std.proofs.Common.{◌≡◌, ℕ, zero, suc, ◌+◌, ◌*◌, ◌^◌, ◌<◌, ◌≤◌, max, refl, ap, arith, lit<, ◌⊎◌, inl, inr}
use Rattle.std.proofs.Math.Nat.{mul-le-mul}
use Rattle.std.proofs.Math.Pow.{pow_mono}
use native.Mathlib.Numerals.{unary_clauses}
use Rattle.rp_boxindex.specs.tree.Nodes.{IsSlender}

cases_le : (a b : ℕ) → (a ≤ b) ⊎ (b ≤ a)
cases_le a b = grind arith

-- two numbers whose squares reach p make a sum whose square reaches 4p
four_times : (a b p : ℕ) → p ≤ a * a → p ≤ b * b → 4 * p ≤ (a + b) * (a + b)
four_times a b p h k =
    let both : p ≤ a * b = elim (cases_le a b) [
      | inl le ↦ let same : a ≤ a = omega arith in let m : a * a ≤ a * b = mul-le-mul same le in omega arith
      | inr le ↦ let same : b ≤ b = omega arith in let m : b * b ≤ a * b = mul-le-mul le same in omega arith
    ] in
    omega arith

pow_up : (k : ℕ) → 2 ^ (suc (suc k)) ≡ 4 * 2 ^ k
pow_up k = simp unary_clauses (omega arith)

small : (size : ℕ) → 1 ≤ size → 2 ^ 1 ≤ (size + 1) * (size + 1)
small size h = let two : 2 ≤ size + 1 = omega arith in let m : 2 * 2 ≤ (size + 1) * (size + 1) = mul-le-mul two two in omega arith

grown : (m n l r size q : ℕ) → IsSlender m l → IsSlender n r → q ≤ l → q ≤ r → size ≡ m + (1 + n) → 2 ^ (suc (suc q)) ≤ (size + 1) * (size + 1)
grown m n l r size q left right ql qr e =
    let a : 2 ^ q ≤ 2 ^ l = pow_mono ql in
    let b : 2 ^ q ≤ 2 ^ r = pow_mono qr in
    let f : 4 * 2 ^ q ≤ ((m + 1) + (n + 1)) * ((m + 1) + (n + 1)) = four_times (m + 1) (n + 1) (2 ^ q) (omega arith) (omega arith) in
    let s : size + 1 ≡ (m + 1) + (n + 1) = omega arith in
    rw (pow_up q, s) f

by_height : (m n l r size h : ℕ) → h ≡ max l r → IsSlender m l → IsSlender n r → l ≤ r + 1 → r ≤ l + 1 → size ≡ m + (1 + n) → IsSlender size (h + 1)
by_height m n l r size zero is left right lr rl e = small size (omega arith)
by_height m n l r size (suc q) is left right lr rl e =
    let s : suc q + 1 ≡ suc (suc q) = omega arith in
    rw s (grown m n l r size q left right (omega arith) (omega arith) e)

-- a node whose sides differ by at most one, where l and r are their heights and m and n their lengths
pub slender_node : (m n l r size : ℕ) → IsSlender m l → IsSlender n r → l ≤ r + 1 → r ≤ l + 1 → size ≡ m + (1 + n) → IsSlender size (max l r + 1)
slender_node m n l r size left right lr rl e = by_height m n l r size (max l r) refl left right lr rl e

-- a tree is at most as high as any number with a greater power
pub height_at_most : (n h e : ℕ) → IsSlender n h → (n + 1) * (n + 1) < 2 ^ (e + 1) → h ≤ e
height_at_most n h e s lt =
    elim (cases_le (e + 1) h) [
      | inl high ↦ let up : 2 ^ (e + 1) ≤ 2 ^ h = pow_mono high in absurd (omega arith)
      | inr low ↦ elim (cases_le h e) [
        | inl at ↦ at
        | inr above ↦ let is : h ≡ e + 1 ⊎ h ≤ e = grind arith in elim is [
          | inl same ↦ let up : 2 ^ h ≡ 2 ^ (e + 1) = ap (λ k. 2 ^ k) same in absurd (omega arith)
          | inr at ↦ at
        ]
      ]
    ]

-- fewer than 2^64 entries are at most 128 high
pub height_below : (n h : ℕ) → IsSlender n h → n < 2 ^ 64 → h ≤ 128
height_below n h s lt =
    let le : n + 1 ≤ 2 ^ 64 = omega arith in
    let square : (n + 1) * (n + 1) ≤ 2 ^ 64 * 2 ^ 64 = mul-le-mul le le in
    let limit : 2 ^ 64 * 2 ^ 64 < 2 ^ (128 + 1) = lit< tt in
    height_at_most n h 128 s (omega arith)
