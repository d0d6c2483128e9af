-- Every contradiction leads to one that the search meets: one to four terms with signed minors as factors.
use Rattle.std.proofs.Common.{◌≡◌, ℕ, zero, suc, ◌<◌, ◌≤◌, ℤ, pos, neg_ℤ, ◌<ℤ◌, List, [], ◌∷◌, length, refl, sym, ap, ◌∙◌, subst, arith}
use Rattle.std.specs.List.{AllByRecursion}
use Rattle.rp_geometry.specs.Geometry.{HalfSpace}
use Rattle.rp_geometry.specs.searches.Certificate.{Multiple, weighted_sum}
use Rattle.rp_geometry.specs.searches.Elimination.{half_spaces_of}
use Rattle.rp_algebra.specs.Within.{IsWithin}
use Rattle.rp_algebra.proofs.IntLaws.{linear}
use Rattle.rp_algebra.proofs.Numbers.{opposite_within}
use Rattle.rp_convex.proofs.Combination.{Among, ArePositive, IsSmall, greatest_minor, Contradiction, Refutation}
use Rattle.rp_convex.proofs.Cone.{among_all}
use Rattle.rp_convex.proofs.Leaning.{Leaning, kept, leaned, turned, weighted_sum-turned}
use Rattle.rp_convex.proofs.Dependence.{Dependence, dependence, Cancel, AreLeansSmall}
use Rattle.rp_convex.proofs.Settle.{Related, Outcome, shorter, up, down, settle, LeansAllUp, LeansAllDown}

-- the relation has the half-spaces of the sum
half_spaces_of-leaned : (es : List Leaning) → half_spaces_of (kept es) ≡ half_spaces_of (leaned es)
half_spaces_of-leaned [] = refl
half_spaces_of-leaned (e ∷ es) = ap (λ hs. e.of ∷ hs) (half_spaces_of-leaned es)

-- so has the turned relation
half_spaces_of-turned : (es : List Leaning) → half_spaces_of (kept es) ≡ half_spaces_of (leaned (turned es))
half_spaces_of-turned [] = refl
half_spaces_of-turned (e ∷ es) = ap (λ hs. e.of ∷ hs) (half_spaces_of-turned es)

-- a relation that leans up has positive factors
leaned_positive : (es : List Leaning) → LeansAllUp es → ArePositive (leaned es)
leaned_positive [] h = tt
leaned_positive (e ∷ es) h = (h.0, leaned_positive es h.1)

-- so has the turned one that leans down
turned_positive : (es : List Leaning) → LeansAllDown es → ArePositive (leaned (turned es))
turned_positive [] h = tt
turned_positive (e ∷ es) h = (let l = h.0 in omega (arith, linear, l), turned_positive es h.1)

-- the factors of the relation are small
small_leaned : (es : List Leaning) → AreLeansSmall es → AllByRecursion (λ t. IsWithin greatest_minor t.factor) (leaned es)
small_leaned [] h = tt
small_leaned (e ∷ es) h = (h.0, small_leaned es h.1)

-- those of the turned relation are small
small_turned : (es : List Leaning) → AreLeansSmall es → AllByRecursion (λ t. IsWithin greatest_minor t.factor) (leaned (turned es))
small_turned [] h = tt
small_turned (e ∷ es) h = (opposite_within greatest_minor e.lean h.0, small_turned es h.1)

module _ (offset : HalfSpace → ℤ) (hs : List HalfSpace) (small : AllByRecursion IsSmall hs) where
  -- a contradiction beside its relation
  related : (m : Contradiction offset hs) → Dependence m.terms → Related offset hs
  related m d =
      let same = sym d.same in
      record {
        es = d.es;
        among = subst (λ ts. Among (half_spaces_of ts) hs) same m.among;
        keeps = d.keeps;
        kept_a = subst (λ ts. weighted_sum (λ h. h.a) ts ≡ pos 0) same m.a;
        kept_b = subst (λ ts. weighted_sum (λ h. h.b) ts ≡ pos 0) same m.b;
        kept_c = subst (λ ts. weighted_sum (λ h. h.c) ts ≡ pos 0) same m.c;
        negative = subst (λ ts. weighted_sum offset ts <ℤ pos 0) same m.negative;
        leaned_a = d.a;
        leaned_b = d.b;
        leaned_c = d.c;
        some = d.some;
      }

  -- the relation itself refutes
  refuted_up : (m : Contradiction offset hs) (d : Dependence m.terms) → LeansAllUp d.es → weighted_sum offset (leaned d.es) <ℤ pos 0 → Refutation offset hs
  refuted_up m d u low = record {
    of = record {
      terms = leaned d.es;
      among = subst (λ gs. Among gs hs) (ap half_spaces_of (sym d.same) ∙ half_spaces_of-leaned d.es) m.among;
      positive = leaned_positive d.es u;
      a = d.a;
      b = d.b;
      c = d.c;
      negative = low;
    };
    candidate = d.up u;
    small = small_leaned d.es d.small;
  }

  -- the turned relation refutes
  refuted_down : (m : Contradiction offset hs) (d : Dependence m.terms) → LeansAllDown d.es → pos 0 <ℤ weighted_sum offset (leaned d.es) → Refutation offset hs
  refuted_down m d l high =
      let e = weighted_sum-turned offset d.es in
      record {
        of = record {
          terms = leaned (turned d.es);
          among = subst (λ gs. Among gs hs) (ap half_spaces_of (sym d.same) ∙ half_spaces_of-turned d.es) m.among;
          positive = turned_positive d.es l;
          a = weighted_sum-turned (λ h. h.a) d.es ∙ ap neg_ℤ d.a;
          b = weighted_sum-turned (λ h. h.b) d.es ∙ ap neg_ℤ d.b;
          c = weighted_sum-turned (λ h. h.c) d.es ∙ ap neg_ℤ d.c;
          negative = omega (arith, linear, e, high);
        };
        candidate = d.down l;
        small = small_turned d.es d.small;
      }

  -- by the three outcomes
  by_outcome : (m : Contradiction offset hs) (d : Dependence m.terms) → ((n : Contradiction offset hs) → length n.terms < length m.terms → Refutation offset hs) → Outcome offset hs (related m d) → Refutation offset hs
  unfolding related
  by_outcome m d rest (shorter s) = rest s.0 (subst (λ ts. length s.0.terms < length ts) d.same s.1)
  by_outcome m d rest (up u low) = refuted_up m d u low
  by_outcome m d rest (down l high) = refuted_down m d l high

  -- the terms are not none, since their offsets do not add up to 0
  has_dependence : (ts : List Multiple) → Cancel ts → weighted_sum offset ts <ℤ pos 0 → Dependence ts
  has_dependence [] k low = absurd (omega (arith, linear, low))
  has_dependence (t ∷ ts) k low = dependence t ts k

  -- a contradiction refutes, or has fewer terms
  one_step : (m : Contradiction offset hs) → ((n : Contradiction offset hs) → length n.terms < length m.terms → Refutation offset hs) → Refutation offset hs
  one_step m rest =
      let d = has_dependence m.terms (record { positive = m.positive; small = among_all IsSmall m.among small; a = m.a; b = m.b; c = m.c }) m.negative in
      by_outcome m d rest (settle (related m d))

  -- by the number of terms
  reduce_within : (n : ℕ) (m : Contradiction offset hs) → length m.terms ≤ n → Refutation offset hs
  reduce_within zero m l = one_step m (λ k lt. absurd (omega arith))
  reduce_within (suc n) m l = one_step m (λ k lt. reduce_within n k (omega arith))

  -- so every contradiction leads to a refutation
  pub reduce : Contradiction offset hs → Refutation offset hs
  reduce m = reduce_within (length m.terms) m (omega arith)
