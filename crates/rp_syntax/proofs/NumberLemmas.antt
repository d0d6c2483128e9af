-- Coordinates of words: holding a number changes nothing within the bounds of its place.
use Rattle.std.proofs.Common.{◌≡◌, Bool, true, false, ◌&&◌, ℤ, pos, negsuc, ◌≤ℤ◌, Option, Some, None, Ok, Err, refl, sym, ap, ◌∙◌, subst, arith}
use Rattle.std.specs.Prelude.{int_le, option_map}
use Rattle.std.proofs.lemmas.Int.{ints}
use Rattle.rp_language.specs.Grammar.{Word, Version, Place, Reader, bad_syntax, out_of_range, gives, fails, read_on, ◌>>=◌, next_word, or_fault, in_bounds, coordinate_spelled, coordinate}
use Rattle.rp_command.specs.Held.{held, IsHeldBound}

-- equal answers have equal values
same_some : (x y : ℤ) → Some x ≡ Some y → x ≡ y
same_some x y e = cc

-- none is not some value
none_not_some : (x : ℤ) → None ≡ Some x → ⊥
none_not_some x e = cc

-- a number that is held within bounds is as it was
held_within : (least greatest v : ℤ) → IsHeldBound least → IsHeldBound greatest → least ≤ℤ held v → held v ≤ℤ greatest → held v ≡ v
held_within least greatest (pos n) l g low high = omega (arith, ints)
held_within least greatest (negsuc n) l g low high = omega (arith, ints)

-- a number within bounds is not held
within_held : (least greatest v : ℤ) → IsHeldBound least → IsHeldBound greatest → least ≤ℤ v → v ≤ℤ greatest → held v ≡ v
within_held least greatest (pos n) l g low high = omega (arith, ints)
within_held least greatest (negsuc n) l g low high = omega (arith, ints)

-- the tests of bounds
low_is : (least greatest v : ℤ) → (int_le least v && int_le v greatest) ≡ true → least ≤ℤ v
low_is least greatest v e = grind (arith, ints)

high_is : (least greatest v : ℤ) → (int_le least v && int_le v greatest) ≡ true → v ≤ℤ greatest
high_is least greatest v e = grind (arith, ints)

-- ---- what is read

-- a word that was read, and the coordinate that it spells
read_word : (v : Version) (least greatest : ℤ) (p q : Place) (word : Word) (o : Option ℤ) → next_word p ≡ Ok (word, q) → coordinate_spelled v word ≡ o → coordinate v least greatest p ≡ read_on (in_bounds least greatest) (or_fault bad_syntax o q)
unfolding coordinate
read_word v least greatest p q word o e is =
    ap (read_on (λ w. or_fault bad_syntax (coordinate_spelled v w) >>= in_bounds least greatest)) e ∙ ap (λ (x : Option ℤ). read_on (in_bounds least greatest) (or_fault bad_syntax x q)) is

-- what the test of the bounds gives
tested : (test b : Bool) (x : ℤ) (q : Place) → test ≡ b → (elim test as (λ _. Reader ℤ) [ true ↦ gives x | false ↦ fails out_of_range ]) q ≡ (elim b as (λ _. Reader ℤ) [ true ↦ gives x | false ↦ fails out_of_range ]) q
tested test b x q e = ap (λ (t : Bool). (elim t as (λ _. Reader ℤ) [ true ↦ gives x | false ↦ fails out_of_range ]) q) e

-- a coordinate within its bounds is read
pub read_within : (v : Version) (least greatest x : ℤ) (p q : Place) (word : Word) → IsHeldBound least → IsHeldBound greatest → next_word p ≡ Ok (word, q) → option_map held (coordinate_spelled v word) ≡ Some x → (int_le least x && int_le x greatest) ≡ true
    → coordinate v least greatest p ≡ Ok (x, q)
read_within v least greatest x p q word l g e is inside = from (coordinate_spelled v word) refl is
  where
    from : (o : Option ℤ) → coordinate_spelled v word ≡ o → option_map held o ≡ Some x → coordinate v least greatest p ≡ Ok (x, q)
    from None spelled is = absurd (none_not_some x is)
    from (Some y) spelled is =
        let held_is : held y ≡ x = same_some (held y) x is in
        let held_inside = subst (λ (z : ℤ). (int_le least z && int_le z greatest) ≡ true) (sym held_is) inside in
        let same : y ≡ x = sym (held_within least greatest y l g (low_is least greatest (held y) held_inside) (high_is least greatest (held y) held_inside)) ∙ held_is in
        read_word v least greatest p q word (Some x) e (spelled ∙ ap Some same) ∙ tested _ true x q inside

-- a coordinate out of its bounds is not
pub read_outside : (v : Version) (least greatest x : ℤ) (p q : Place) (word : Word) → IsHeldBound least → IsHeldBound greatest → next_word p ≡ Ok (word, q) → option_map held (coordinate_spelled v word) ≡ Some x → (int_le least x && int_le x greatest) ≡ false
    → coordinate v least greatest p ≡ Err out_of_range
read_outside v least greatest x p q word l g e is out = from (coordinate_spelled v word) refl is
  where
    from : (o : Option ℤ) → coordinate_spelled v word ≡ o → option_map held o ≡ Some x → coordinate v least greatest p ≡ Err out_of_range
    from None spelled is = absurd (none_not_some x is)
    from (Some y) spelled is = by (int_le least y && int_le y greatest) refl
      where
        by : (test : Bool) → (int_le least y && int_le y greatest) ≡ test → coordinate v least greatest p ≡ Err out_of_range
        by false f = read_word v least greatest p q word (Some y) e spelled ∙ tested _ false y q f
        by true f =
            let same : y ≡ x = sym (within_held least greatest y l g (low_is least greatest y f) (high_is least greatest y f)) ∙ same_some (held y) x is in
            let inside = subst (λ (z : ℤ). (int_le least z && int_le z greatest) ≡ true) same f in
            absurd (cc)
