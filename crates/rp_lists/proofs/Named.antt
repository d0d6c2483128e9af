-- The bytes of a name and zeros behind them fill its room.
use Rattle.std.proofs.Common.{◌≡◌, ℕ, ◌≤◌, true, ◌&&◌, List, [], ◌∷◌, ◌++◌, length, drop, ap, ◌∙◌, arith, length-append}
use Rattle.std.specs.Prelude.{replicate, nat_le}
use Rattle.std.specs.List.{list_all}
use Rattle.std.proofs.lemmas.List.{length-replicate, drop-replicate, length-drop}
use Rattle.std.proofs.Math.Seq.{take-append_seam, drop-append_seam}
use Rattle.rp_language.specs.Name.{is_letter, is_name_byte, is_name}
use Rattle.rp_lists.specs.NameBytes.{IsNameInside}
use Rattle.std.proofs.lemmas.Bool.{and_parts}

-- a name has at most 32 bytes
pub name_length : (bytes : List ℕ) → is_name bytes ≡ true → length bytes ≤ 32
name_length [] e = omega arith
name_length (b ∷ bs) e = let f : nat_le (length (b ∷ bs)) 32 ≡ true = (and_parts (is_letter b && list_all is_name_byte bs) (nat_le (length (b ∷ bs)) 32) e).1 in grind arith

-- bytes of a name, with the zeros behind them that are left of 32, are the inside of a name
pub name_inside : (bytes : List ℕ) → is_name bytes ≡ true → IsNameInside (record { bytes = bytes ++ drop (length bytes) (replicate 32 0); len = length bytes })
name_inside bytes e =
    let fits = name_length bytes e in
    let zeros = drop-replicate {X = ℕ} (length bytes) 32 0 in
    let left = length-drop {A = ℕ} (length bytes) (replicate 32 0) in
    let all = length-replicate {A = ℕ} 32 0 in
    let whole = length-append {A = ℕ} bytes (drop (length bytes) (replicate 32 0)) in
    record {
      room = omega (arith, fits, left, all, whole);
      fits = fits;
      zeros = drop-append_seam bytes (drop (length bytes) (replicate 32 0)) ∙ zeros;
      name = ap is_name (take-append_seam bytes (drop (length bytes) (replicate 32 0))) ∙ e;
    }
