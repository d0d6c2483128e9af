-- Coordinates of both versions: what is spelled is read again, also in the second version what was read in the first.
use Rattle.std.proofs.Common.{◌≡◌, ℕ, suc, ◌*◌, ◌^◌, ◌<◌, ◌≤◌, ℤ, nat_abs, List, length, Option, Some, subst}
use Rattle.std.specs.Fmt.{decimal, signed_decimal}
use Rattle.rp_geometry.proofs.InLowestTerms.{IsNoGreater}
use Rattle.rp_language.specs.Grammar.{Word, natural_spelled, number_spelled, Version, one, two, thousandths_spelled, thousandths_text, signed, signed_text, coordinate_spelled, coordinate_text}
use Rattle.rp_language.proofs.ReadAgain.{HasNoSpace}
use Rattle.rp_language.proofs.Signed.{SpellsNaturals, GrowsBy, signed_reads, signed_plain, signed_grows}
use Rattle.rp_language.proofs.Decimal.{decimals, signed_decimal_is, decimals_grow}
use Rattle.rp_language.proofs.Thousandths.{thousandths, thousandths_grow, thousandths_from_decimal}

-- ---- numbers that are spelled in some way

-- whole numbers are spelled so: their texts spell them and have no space, and one that stands in for the number of a word grows by as much at most
pub record SpellsNumbers (extra : ℕ) (old new : Word → Option ℤ) (text : ℤ → Word) : Type 0 where
  pub reads : (v : ℤ) → nat_abs v < 10 ^ 64 → new (text v) ≡ Some v
  pub plain : (v : ℤ) → nat_abs v < 10 ^ 64 → HasNoSpace (text v)
  pub grows : (word : Word) (u v : ℤ) → old word ≡ Some v → IsNoGreater u v → nat_abs u < 10 ^ 64 → suc (length (text u)) ≤ suc extra * suc (length word)

-- natural numbers make whole numbers
whole_numbers : (extra : ℕ) (old new : Word → Option ℕ) (text : ℕ → List ℕ) → SpellsNaturals new text → GrowsBy extra old text → SpellsNumbers extra (signed old) (signed new) (signed_text text)
whole_numbers extra old new text s g = record { reads = signed_reads s; plain = signed_plain s; grows = signed_grows extra old text g }

-- numbers of units, as what they are read as in some version
whole_decimals : (extra : ℕ) (old : Word → Option ℕ) → GrowsBy extra old decimal → SpellsNumbers extra (signed old) number_spelled signed_decimal
whole_decimals extra old g = subst (λ (text : ℤ → Word). SpellsNumbers extra (signed old) number_spelled text) (λ i v. signed_decimal_is v i) (whole_numbers extra old natural_spelled decimal decimals g)

-- numbers are spelled by their decimals
pub numbers : (extra : ℕ) → SpellsNumbers extra number_spelled number_spelled signed_decimal
numbers extra = whole_decimals extra natural_spelled (decimals_grow extra)

-- ---- versions

-- coordinates that were read in one version are spelled in another one
abbrev pub SpellsCoordinates : ℕ → Version → Version → Type 0
SpellsCoordinates extra old new = SpellsNumbers extra (coordinate_spelled old) (coordinate_spelled new) (coordinate_text new)

-- in one version they are no longer than what was read
pub same_coordinates : (v : Version) → SpellsCoordinates 0 v v
same_coordinates one = numbers 0
same_coordinates two = whole_numbers 0 thousandths_spelled thousandths_spelled thousandths_text thousandths thousandths_grow

-- from the first version to the second they are at most three times as long
pub upgraded_coordinates : SpellsCoordinates 2 one two
upgraded_coordinates = whole_numbers 2 natural_spelled thousandths_spelled thousandths_text thousandths thousandths_from_decimal
