-- The bytes of a name in an array of fixed length.
use Rattle.std.specs.Prelude.{◌≡◌, ℕ, true, ◌-◌, ◌≤◌, List, ◌++◌, length, take, drop, replicate}
use Rattle.std.proofs.Common.{ap, sym, ◌∙◌, arith, length-take}
use Rattle.std.proofs.Math.ListN.{take-append-drop}
use Rattle.rp_language.specs.Name.{is_name}
use Rattle.rp_lists.specs.declared.name.Name.TheInside.{Inside}

-- the bytes of the name: the first ones, as many as its length
abbrev pub kept_bytes : Inside → List ℕ
kept_bytes a = take a.len a.bytes

-- the first bytes are a name, and those after them are zeros
pub record IsNameInside (a : Inside) : Type 0 where
  pub room : length a.bytes ≡ 32
  pub fits : a.len ≤ 32
  pub zeros : drop a.len a.bytes ≡ replicate (32 - a.len) 0
  pub name : is_name (kept_bytes a) ≡ true

-- the array of a name, from its bytes
abbrev pub name_back : List ℕ → Inside
name_back bytes = record { bytes = bytes ++ replicate (32 - length bytes) 0; len = length bytes }

-- the number of bytes of the name is its length
kept_length : (a : Inside) → IsNameInside a → length (kept_bytes a) ≡ a.len
kept_length a h = let e = length-take a.len a.bytes in let r = h.room in let f = h.fits in omega (arith, e, r, f)

-- the bytes of the name and zeros make up all bytes
whole_bytes : (a : Inside) → IsNameInside a → kept_bytes a ++ replicate (32 - length (kept_bytes a)) 0 ≡ a.bytes
whole_bytes a h =
    ap (λ (n : ℕ). kept_bytes a ++ replicate (32 - n) 0) (kept_length a h) ∙ ap (λ (r : List ℕ). kept_bytes a ++ r) (sym h.zeros) ∙ take-append-drop a.len a.bytes

-- the array of a name is determined by its bytes
pub kept_back : (a : Inside) → IsNameInside a → name_back (kept_bytes a) ≡ a
kept_back a h = λ i. record { bytes = whole_bytes a h i; len = kept_length a h i }
