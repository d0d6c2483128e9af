-- Stretches of lines, one after the other.
use Rattle.std.proofs.Common.{◌≡◌, ℕ, zero, suc, ◌+◌, ◌/◌, ◌^◌, ◌<◌, ◌≤◌, ◌==◌, Bool, true, false, cond, List, [], ◌∷◌, Option, refl, sym, ap, ◌∙◌, subst, arith}
use Rattle.std.proofs.Math.Nat.{pow-suc}
use Rattle.std.proofs.lemmas.Bool.Decides.{Decides-eqb}
use Rattle.rp_algebra.proofs.Listed.{Listed, first, later, listed_left, listed_right}
use Rattle.rp_geometry.specs.Geometry.{IntegerBox}
use Rattle.rp_boxindex.specs.Boxes.{Boxes}
use Rattle.rp_lotindex.specs.declared.stretch.Stretch.{Stretch}
use Rattle.rp_lotindex.specs.Cubes.{past_number, in_turns}
use Rattle.rp_lotindex.specs.Owner.{boxes_past, first_in}
use Rattle.rp_lotindex.specs.Stretches.{stretch_from, stretches_from}

-- ---- the least stretch with two lines, step by step

-- the first of those that are left
pub stretch_here : (f level a b : ℕ) → a ≡ b → stretch_from f level a b ≡ record { level = level; mark = a }
unfolding stretch_from
stretch_here zero level a b e = refl
stretch_here (suc f) level a b e = ap (λ (t : Bool). cond t (record { level = level; mark = a }) (stretch_from f (level + 1) (a / 2) (b / 2))) ((Decides-eqb a b).1 e)

-- or a further one
pub stretch_next : (f g level a b : ℕ) → f ≡ g + 1 → (a ≡ b → ⊥) → stretch_from f level a b ≡ stretch_from g (level + 1) (a / 2) (b / 2)
unfolding stretch_from
stretch_next zero g level a b e apart = absurd (omega (arith, e))
stretch_next (suc f) g level a b e apart =
    let same : f ≡ g = omega (arith, e) in
    by (a == b) refl ∙ ap (λ (i : ℕ). stretch_from i (level + 1) (a / 2) (b / 2)) same
  where
    by : (t : Bool) → (a == b) ≡ t → cond t (record { level = level; mark = a }) (stretch_from f (level + 1) (a / 2) (b / 2)) ≡ stretch_from f (level + 1) (a / 2) (b / 2)
    by true h = absurd (apart ((Decides-eqb a b).0 h))
    by false h = refl

-- none is left behind the last
pub stretch_last : (f level a b : ℕ) → f ≡ 0 → stretch_from f level a b ≡ record { level = level; mark = a }
unfolding stretch_from
stretch_last zero level a b e = refl
stretch_last (suc f) level a b e = absurd (omega (arith, e))

-- ---- the stretches with a line

-- one of them is the next
pub stretches_next : (f g level n : ℕ) → f ≡ g + 1 → stretches_from f level n ≡ record { level = level; mark = n } ∷ stretches_from g (level + 1) (n / 2)
unfolding stretches_from
stretches_next zero g level n e = absurd (omega (arith, e))
stretches_next (suc f) g level n e = let same : f ≡ g = omega (arith, e) in ap (λ (i : ℕ). record { level = level; mark = n } ∷ stretches_from i (level + 1) (n / 2)) same

-- none is left behind the last
pub stretches_end : (f level n : ℕ) → f ≡ 0 → stretches_from f level n ≡ []
unfolding stretches_from
stretches_end zero level n e = refl
stretches_end (suc f) level n e = absurd (omega (arith, e))

-- a half is below half a power of two
half_below : (f n : ℕ) → n < 2 ^ suc f → n / 2 < 2 ^ f
half_below f n h = let twice = pow-suc 2 f in omega (arith, h, twice)

-- the least stretch with two lines is one of those with a line between them
pub stretch_listed : (f level a n b : ℕ) → a ≤ n → n ≤ b → n < 2 ^ f → Listed {A = Stretch} (stretch_from f level a b) (stretches_from (suc f) level n)
unfolding stretch_from stretches_from
stretch_listed zero level a n b low high small =
    let same : n ≡ a = omega (arith, low, small) in
    subst (λ (i : ℕ). Listed {A = Stretch} (record { level = level; mark = a }) (record { level = level; mark = i } ∷ [])) (sym same) first
stretch_listed (suc f) level a n b low high small =
    by (a == b) refl (stretch_listed f (level + 1) (a / 2) (n / 2) (b / 2) (omega (arith, low)) (omega (arith, high)) (half_below f n small))
  where
    by : (t : Bool) → (a == b) ≡ t → Listed {A = Stretch} (stretch_from f (level + 1) (a / 2) (b / 2)) (stretches_from (suc f) (level + 1) (n / 2)) →
        Listed {A = Stretch} (cond t (record { level = level; mark = a }) (stretch_from f (level + 1) (a / 2) (b / 2))) (record { level = level; mark = n } ∷ stretches_from (suc f) (level + 1) (n / 2))
    by true h rest =
        let own = (Decides-eqb a b).0 h in
        let same : n ≡ a = omega (arith, low, high, own) in
        subst (λ (i : ℕ). Listed {A = Stretch} (record { level = level; mark = a }) (record { level = level; mark = i } ∷ stretches_from (suc f) (level + 1) (n / 2))) (sym same) first
    by false h rest = later rest

-- a box that is asked about at one of some stretches is asked about at them
pub past_listed : (unit : IntegerBox) (s : Stretch) (ss : List Stretch) → Listed s ss → (b : IntegerBox) → Listed b (in_turns (past_number s) unit) → Listed b (boxes_past unit ss)
past_listed unit s [] l b t = elim l [ ]
past_listed unit s (r ∷ ss) first b t = listed_left b (in_turns (past_number s) unit) (boxes_past unit ss) t
past_listed unit s (r ∷ ss) (later l) b t = listed_right b (in_turns (past_number r) unit) (boxes_past unit ss) (past_listed unit s ss l b t)

-- ---- what is found at them, one after the other

module _ (test : ℕ → Bool) (boxes : Boxes) (unit : IntegerBox) where
  -- what is found at the stretches with a line that are left, so many, and what was found before
  abbrev pub found_from : ℕ → ℕ → ℕ → Option ℕ → Option ℕ
  found_from f level n o = first_in test boxes (boxes_past unit (stretches_from f level n)) o

  -- at one of them
  pub found_next : (f g level n : ℕ) (old new : Option ℕ) (k : ℕ) → f ≡ g + 1 → k ≡ past_number (record { level = level; mark = n }) → new ≡ first_in test boxes (in_turns k unit) old → found_from g (level + 1) (n / 2) new ≡ found_from f level n old
  found_next f g level n old new k count own is =
      ap (found_from g (level + 1) (n / 2)) (is ∙ ap (λ (i : ℕ). first_in test boxes (in_turns i unit) old) own)
      ∙ sym (ap (λ (ss : List Stretch). first_in test boxes (boxes_past unit ss) old) (stretches_next f g level n count))

  -- behind the last
  pub found_end : (f level n : ℕ) (o : Option ℕ) → f ≡ 0 → o ≡ found_from f level n o
  found_end f level n o count = sym (ap (λ (ss : List Stretch). first_in test boxes (boxes_past unit ss) o) (stretches_end f level n count))
