-- The places at which a sublist stands: rising numbers, and from such numbers back to the sublist.
use Rattle.std.proofs.Common.{◌≡◌, ℕ, zero, suc, ◌<◌, ◌≤◌, List, [], ◌∷◌, length, ◌⊎◌, inl, inr, ⊎_elim, refl, sym, ap, ◌∙◌, subst, arith}
use Rattle.std.specs.List.{AllByRecursion}
use Rattle.rp_geometry.specs.Geometry.{HalfSpace}
use Rattle.rp_geometry.specs.laws.CellLaws.{StandAt, IsSmallerAt, AreRising}
use Rattle.rp_algebra.proofs.Options.{none_not_some, same_some}
use Rattle.rp_convex.proofs.Combination.{Among, none, skip, take}
use Rattle.rp_convex.proofs.Dropped.{among_among}
use Rattle.rp_convex.proofs.Searched.{among_none}

-- every place one further
abbrev pub shifted : List ℕ → List ℕ
shifted [] = []
shifted (i ∷ is) = suc i ∷ shifted is

-- the places of a sublist
abbrev pub places : {ks hs : List HalfSpace} → Among ks hs → List ℕ
places none = []
places (skip m) = shifted (places m)
places (take m) = 0 ∷ shifted (places m)

-- as many places
length-shifted : (is : List ℕ) → length (shifted is) ≡ length is
length-shifted [] = refl
length-shifted (i ∷ is) = ap suc (length-shifted is)

-- as many places as half-spaces
pub length-places : {ks hs : List HalfSpace} (m : Among ks hs) → length (places m) ≡ length ks
length-places none = refl
length-places (skip m) = length-shifted (places m) ∙ length-places m
length-places (take m) = ap suc (length-shifted (places m) ∙ length-places m)

-- ---- the places are rising, and the half-spaces stand there
-- successors keep the order
suc_smaller : (i j : ℕ) → i < j → suc i < suc j
suc_smaller i j h = omega arith

-- places one further are rising
rising_shifted : (is : List ℕ) → AreRising is → AreRising (shifted is)
rising_shifted [] r = tt
rising_shifted (i ∷ []) r = tt
rising_shifted (i ∷ j ∷ is) r = (suc_smaller i j r.0, rising_shifted (j ∷ is) r.1)

-- the first place and places one further are rising
rising_first : (is : List ℕ) → AreRising is → AreRising (0 ∷ shifted is)
rising_first [] r = tt
rising_first (i ∷ is) r = (omega arith, rising_shifted (i ∷ is) r)

-- the places of a sublist are rising
pub rising_places : {ks hs : List HalfSpace} (m : Among ks hs) → AreRising (places m)
rising_places none = tt
rising_places (skip m) = rising_shifted (places m) (rising_places m)
rising_places (take m) = rising_first (places m) (rising_places m)

-- the half-spaces stand one place further in a list with one more
stand_shifted : (x : HalfSpace) (hs : List HalfSpace) (is : List ℕ) (ks : List HalfSpace) → StandAt hs is ks → StandAt (x ∷ hs) (shifted is) ks
stand_shifted x hs [] [] s = tt
stand_shifted x hs [] (k ∷ ks) s = s
stand_shifted x hs (i ∷ is) [] s = s
stand_shifted x hs (i ∷ is) (k ∷ ks) s = (s.0, stand_shifted x hs is ks s.1)

-- the half-spaces of a sublist stand at its places
pub stand_places : {ks hs : List HalfSpace} (m : Among ks hs) → StandAt hs (places m) ks
stand_places none = tt
stand_places (skip {h} {hs} {ks} m) = stand_shifted h hs (places m) ks (stand_places m)
stand_places (take {h} {hs} {ks} m) = (refl, stand_shifted h hs (places m) ks (stand_places m))

-- ---- from places to a sublist
-- the place before, or 0
abbrev pred_of : ℕ → ℕ
pred_of zero = zero
pred_of (suc n) = n

-- every place one back
abbrev lowered : List ℕ → List ℕ
lowered [] = []
lowered (i ∷ is) = pred_of i ∷ lowered is

-- the place after the place before
suc-pred : (i : ℕ) → 0 < i → suc (pred_of i) ≡ i
suc-pred zero h = absurd (omega (arith, h))
suc-pred (suc n) h = refl

-- one back and one further
shifted-lowered : (is : List ℕ) → AllByRecursion (λ i. 0 < i) is → shifted (lowered is) ≡ is
shifted-lowered [] h = refl
shifted-lowered (i ∷ is) h = λ j. suc-pred i h.0 j ∷ shifted-lowered is h.1 j

-- the places after the first are above 0
above : (i : ℕ) (is : List ℕ) → AreRising (i ∷ is) → AllByRecursion (λ j. 0 < j) is
above i [] r = tt
above i (j ∷ is) r = (let l = r.0 in omega (arith, l), above j is r.1)

-- the places after the first are rising
rising_tail : (i : ℕ) (is : List ℕ) → AreRising (i ∷ is) → AreRising is
rising_tail i [] r = tt
rising_tail i (j ∷ is) r = r.1

-- places are rising where those one further are
rising_lowered : (is : List ℕ) → AreRising (shifted is) → AreRising is
rising_lowered [] r = tt
rising_lowered (i ∷ []) r = tt
rising_lowered (i ∷ j ∷ is) r = (let l = r.0 in omega (arith, l), rising_lowered (j ∷ is) r.1)

-- the half-spaces stand one place back in the list with one less
stand_lowered : (x : HalfSpace) (hs : List HalfSpace) (is : List ℕ) (ks : List HalfSpace) → StandAt (x ∷ hs) (shifted is) ks → StandAt hs is ks
stand_lowered x hs [] [] s = tt
stand_lowered x hs [] (k ∷ ks) s = s
stand_lowered x hs (i ∷ is) [] s = s
stand_lowered x hs (i ∷ is) (k ∷ ks) s = (s.0, stand_lowered x hs is ks s.1)

-- a sublist that stands at given places
abbrev pub Embedded : List HalfSpace → List ℕ → List HalfSpace → Type 0
Embedded hs is ks = (m : Among ks hs) × (places m ≡ is)

-- the empty sublist has no places
pub places-none : (hs : List HalfSpace) → places (among_none hs) ≡ []
places-none [] = refl
places-none (h ∷ hs) = ap shifted (places-none hs)

module _ (x : HalfSpace) (hs : List HalfSpace) (rest : (is : List ℕ) (ks : List HalfSpace) → AreRising is → StandAt hs is ks → Embedded hs is ks) where
  -- places that are all above 0
  embed_above : (is : List ℕ) (ks : List HalfSpace) → AllByRecursion (λ i. 0 < i) is → AreRising is → StandAt (x ∷ hs) is ks → (m : Among ks hs) × (shifted (places m) ≡ is)
  embed_above is ks a r s =
      let e = shifted-lowered is a in
      let p = rest (lowered is) ks (rising_lowered (lowered is) (subst AreRising (sym e) r)) (stand_lowered x hs (lowered is) ks (subst (λ js. StandAt (x ∷ hs) js ks) (sym e) s)) in
      (p.0, ap shifted p.1 ∙ e)

  -- the first place, and places above 0
  embed_take : (is : List ℕ) (k : HalfSpace) (ks : List HalfSpace) → x ≡ k → AllByRecursion (λ i. 0 < i) is → AreRising is → StandAt (x ∷ hs) is ks → Embedded (x ∷ hs) (0 ∷ is) (k ∷ ks)
  embed_take is k ks e a r s =
      let p = embed_above is ks a r s in
      subst (λ j. Embedded (x ∷ hs) (0 ∷ is) (j ∷ ks)) e (take p.0, ap (λ js. 0 ∷ js) p.1)

  -- places that are all above 0, in the list with one more
  embed_skip : (is : List ℕ) (ks : List HalfSpace) → AllByRecursion (λ i. 0 < i) is → AreRising is → StandAt (x ∷ hs) is ks → Embedded (x ∷ hs) is ks
  embed_skip is ks a r s = let p = embed_above is ks a r s in (skip p.0, p.1)

-- a successor is above 0
suc_above : (i : ℕ) → 0 < suc i
suc_above i = omega arith

-- half-spaces at rising places are a sublist
pub embed : (hs : List HalfSpace) (is : List ℕ) (ks : List HalfSpace) → AreRising is → StandAt hs is ks → Embedded hs is ks
embed [] [] [] r s = (none, refl)
embed [] [] (k ∷ ks) r s = absurd s
embed [] (i ∷ is) [] r s = absurd s
embed [] (i ∷ is) (k ∷ ks) r s = absurd (none_not_some k s.0)
embed (x ∷ hs) [] [] r s = (among_none (x ∷ hs), places-none (x ∷ hs))
embed (x ∷ hs) [] (k ∷ ks) r s = absurd s
embed (x ∷ hs) (i ∷ is) [] r s = absurd s
embed (x ∷ hs) (zero ∷ is) (k ∷ ks) r s = embed_take x hs (embed hs) is k ks (same_some x k s.0) (above zero is r) (rising_tail zero is r) s.1
embed (x ∷ hs) (suc i ∷ is) (k ∷ ks) r s = embed_skip x hs (embed hs) (suc i ∷ is) (k ∷ ks) (suc_above i, above (suc i) is r) r s

-- the same places have the same half-spaces
pub same_stand : (hs : List HalfSpace) (is : List ℕ) (ks js : List HalfSpace) → StandAt hs is ks → StandAt hs is js → ks ≡ js
same_stand hs [] [] [] s t = refl
same_stand hs [] [] (j ∷ js) s t = absurd t
same_stand hs [] (k ∷ ks) js s t = absurd s
same_stand hs (i ∷ is) [] js s t = absurd s
same_stand hs (i ∷ is) (k ∷ ks) [] s t = absurd t
same_stand hs (i ∷ is) (k ∷ ks) (j ∷ js) s t = λ n. same_some k j (sym s.0 ∙ t.0) n ∷ same_stand hs is ks js s.1 t.1 n

-- ---- the order of places
-- nothing is smaller than no places
pub smaller_none : (is : List ℕ) → IsSmallerAt is [] → ⊥
smaller_none [] h = h
smaller_none (i ∷ is) h = h

-- the order one place back
pub smaller_lowered : (is js : List ℕ) → IsSmallerAt (shifted is) (shifted js) → IsSmallerAt is js
smaller_lowered [] js h = h
smaller_lowered (i ∷ is) [] h = h
smaller_lowered (i ∷ is) (j ∷ js) h = ⊎_elim (λ l. inl (omega (arith, l))) (λ r. let e = r.0 in inr (omega (arith, e), smaller_lowered is js r.1)) h

-- none is before the first place
pub not_before_first : (is js : List ℕ) → IsSmallerAt (shifted is) (0 ∷ js) → ⊥
not_before_first [] js h = h
not_before_first (i ∷ is) js h = ⊎_elim (λ l. omega (arith, l)) (λ r. let e = r.0 in omega (arith, e)) h

-- the order behind the first place
pub smaller_rest : (is js : List ℕ) → IsSmallerAt (0 ∷ shifted is) (0 ∷ shifted js) → IsSmallerAt is js
smaller_rest is js h = ⊎_elim (λ l. absurd (omega (arith, l))) (λ r. smaller_lowered is js r.1) h

-- one of two lists of as many places is smaller, or they are the same
pub smaller_or_same : (is js : List ℕ) → length is ≡ length js → IsSmallerAt is js ⊎ (is ≡ js) ⊎ IsSmallerAt js is
smaller_or_same [] [] e = inr (inl refl)
smaller_or_same [] (j ∷ js) e = absurd (omega (arith, e))
smaller_or_same (i ∷ is) [] e = absurd (omega (arith, e))
smaller_or_same (i ∷ is) (j ∷ js) e = by_first (order_of i j) (smaller_or_same is js (omega (arith, e)))
  where
    order_of : (i j : ℕ) → (i < j) ⊎ (i ≡ j) ⊎ (j < i)
    order_of zero zero = inr (inl refl)
    order_of zero (suc j) = inl (omega arith)
    order_of (suc i) zero = inr (inr (omega arith))
    order_of (suc i) (suc j) = ⊎_elim (λ l. inl (omega (arith, l))) (λ m. ⊎_elim (λ e. inr (inl (ap suc e))) (λ g. inr (inr (omega (arith, g)))) m) (order_of i j)

    by_first : (i < j) ⊎ (i ≡ j) ⊎ (j < i) → IsSmallerAt is js ⊎ (is ≡ js) ⊎ IsSmallerAt js is → IsSmallerAt (i ∷ is) (j ∷ js) ⊎ (i ∷ is ≡ j ∷ js) ⊎ IsSmallerAt (j ∷ js) (i ∷ is)
    by_first o r =
        ⊎_elim
        (λ l. inl (inl l))
        (λ m. ⊎_elim
        (λ e. ⊎_elim (λ s. inl (inr (e, s))) (λ t. ⊎_elim (λ f. inr (inl (λ n. e n ∷ f n))) (λ g. inr (inr (inr (sym e, g)))) t) r)
        (λ g. inr (inr (inl g))) m) o

-- ---- a sublist of a sublist has fewer places, or the same
-- a sublist is not longer
pub among_length : {ks hs : List HalfSpace} → Among ks hs → length ks ≤ length hs
among_length none = omega arith
among_length (skip m) = let l = among_length m in omega (arith, l)
among_length (take m) = let l = among_length m in omega (arith, l)

-- all of a list
pub among_whole : {ks hs : List HalfSpace} → Among ks hs → length ks ≡ length hs → ks ≡ hs
among_whole none e = refl
among_whole (skip m) e = let l = among_length m in absurd (omega (arith, e, l))
among_whole (take {h} m) e = ap (λ gs. h ∷ gs) (among_whole m (omega (arith, e)))

-- a sublist of all of a sublist has its places
pub places-whole : {js ks hs : List HalfSpace} (j : Among js ks) (m : Among ks hs) → length js ≡ length ks → places (among_among j m) ≡ places m
places-whole j none e = let z = among_length j in no_places (among_among j none)
  where
    no_places : {gs : List HalfSpace} (m : Among gs []) → places m ≡ []
    no_places none = refl
places-whole j (skip m) e = ap shifted (places-whole j m e)
places-whole (skip j) (take m) e = let l = among_length j in absurd (omega (arith, e, l))
places-whole (take j) (take m) e = ap (λ is. 0 ∷ shifted is) (places-whole j m (omega (arith, e)))
