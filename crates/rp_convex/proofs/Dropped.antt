-- Sublists, and terms without those of factor 0.
use Rattle.std.proofs.Common.{◌≡◌, ◌<◌, ◌≤◌, ℤ, pos, ◌+ℤ◌, ◌*ℤ◌, ◌≤ℤ◌, ◌<ℤ◌, List, [], ◌∷◌, ◌⊎◌, ⊎_elim, length, refl, sym, ap, ◌∙◌, arith}
use Rattle.std.specs.List.{AllByRecursion}
use Rattle.std.proofs.lemmas.Int.{ints}
use Rattle.rp_geometry.specs.Geometry.{HalfSpace}
use Rattle.rp_geometry.specs.searches.Certificate.{Multiple, weighted_sum}
use Rattle.rp_geometry.specs.searches.Elimination.{half_spaces_of}
use Rattle.rp_algebra.proofs.IntLaws.{trichotomy_ℤ}
use Rattle.rp_algebra.proofs.Reify.{by_ring_at, reify}
use Rattle.rp_convex.proofs.Combination.{Among, none, skip, take, ArePositive}

-- a sublist of a sublist
abbrev pub among_among : {js ks hs : List HalfSpace} → Among js ks → Among ks hs → Among js hs
among_among j none = j
among_among j (skip k) = skip (among_among j k)
among_among (skip j) (take k) = skip (among_among j k)
among_among (take j) (take k) = take (among_among j k)

-- no factor is negative
abbrev pub AreNonnegative : List Multiple → Type 0
AreNonnegative ts = AllByRecursion (λ t. pos 0 ≤ℤ t.factor) ts

-- some factor is 0
abbrev pub HasZero : List Multiple → Type 0
HasZero [] = ⊥
HasZero (t ∷ ts) = (t.factor ≡ pos 0) ⊎ HasZero ts

-- the terms of positive factor
pub record Dropped (ts : List Multiple) : Type 0 where
  pub terms : List Multiple
  pub among : Among (half_spaces_of terms) (half_spaces_of ts)
  pub positive : ArePositive terms
  pub sums : (F : HalfSpace → ℤ) → weighted_sum F terms ≡ weighted_sum F ts
  pub most : length terms ≤ length ts
  pub fewer : HasZero ts → length terms < length ts

-- a term of factor 0 adds nothing
zero_term : (f s : ℤ) (v : ℤ) → v ≡ pos 0 → s ≡ v *ℤ f +ℤ s
zero_term f s v e =
    let z : s ≡ pos 0 *ℤ f +ℤ s = by_ring_at (f ∷ s ∷ []) (search reify depth 40 fits 100000) tt in
    z ∙ ap (λ x. x *ℤ f +ℤ s) (sym e)

module _ (t : Multiple) (ts : List Multiple) (d : Dropped ts) where
  -- a term of factor 0 is dropped
  drop_it : t.factor ≡ pos 0 → Dropped (t ∷ ts)
  drop_it e = record {
    terms = d.terms;
    among = skip d.among;
    positive = d.positive;
    sums = λ F. d.sums F ∙ zero_term (F t.of) (weighted_sum F ts) t.factor e;
    most = let m = d.most in omega arith;
    fewer = λ z. let m = d.most in omega arith;
  }

  -- a term of positive factor is kept
  keep_it : pos 0 <ℤ t.factor → Dropped (t ∷ ts)
  keep_it p = record {
    terms = t ∷ d.terms;
    among = take d.among;
    positive = (p, d.positive);
    sums = λ F. ap (λ x. t.factor *ℤ F t.of +ℤ x) (d.sums F);
    most = let m = d.most in omega arith;
    fewer = λ z. ⊎_elim (λ e. absurd (omega (arith, ints, e, p))) (λ r. let m = d.fewer r in omega arith) z;
  }

  -- each term is dropped or kept
  drop_or_keep : pos 0 ≤ℤ t.factor → Dropped (t ∷ ts)
  drop_or_keep p = ⊎_elim keep_it (λ r. ⊎_elim (λ e. drop_it (sym e)) (λ n. absurd (omega (arith, ints, n, p))) r) (trichotomy_ℤ (pos 0) t.factor)

-- all terms of factor 0 are dropped
pub dropped : (ts : List Multiple) → AreNonnegative ts → Dropped ts
dropped [] h = record { terms = []; among = none; positive = tt; sums = λ F. refl; most = omega arith; fewer = λ z. absurd z }
dropped (t ∷ ts) h = drop_or_keep t ts (dropped ts h.1) h.0
