-- Either a solution or an outside certificate, and never both. The strict case is the weak one with the offsets N d - 1 in the place of d, for a great N.
use Rattle.std.proofs.Common.{◌≡◌, ℕ, suc, ◌*◌, ◌≤◌, ℤ, pos, negsuc, neg_ℤ, ◌+ℤ◌, ◌*ℤ◌, ◌≤ℤ◌, ◌<ℤ◌, Bool, true, false, ◌&&◌, List, [], ◌∷◌, length, inl, inr, ⊎_elim, refl, subst, arith}
use Rattle.std.specs.List.{AllByRecursion, list_all}
use Rattle.std.proofs.lemmas.Int.{ints}
use Rattle.rp_algebra.specs.Integer.{is_positive, is_nonnegative}
use Rattle.rp_geometry.specs.Geometry.{RationalPoint, HalfSpace, point_of, side_value, with_cube, is_listed}
use Rattle.rp_geometry.specs.searches.Certificate.{Multiple, weighted_sum, is_one_to_four, is_multiplier, is_balanced, is_contradiction, is_outside_certificate}
use Rattle.rp_geometry.specs.searches.Elimination.{half_spaces_of}
use Rattle.rp_geometry.specs.laws.CellLaws.{IsSolution, SolutionOrCertificate}
use Rattle.rp_algebra.specs.Within.{IsWithin}
use Rattle.rp_algebra.proofs.IntLaws.{linear}
use Rattle.rp_algebra.proofs.Reify.{by_ring_at, reify}
use Rattle.rp_convex.proofs.Combination.{greatest_minor, ArePositive, IsCandidate, one, two, two_negated, three, three_negated, four, four_negated, Refutation}
use Rattle.rp_convex.proofs.Sums.{weighted_sum-mixed}
use Rattle.rp_convex.proofs.Bounds.{small_with_cube}
use Rattle.rp_convex.proofs.Weak.{Point, offset_side, point_or_refutation}
use Rattle.rp_algebra.proofs.Tests.{and_true, is_positive_true, is_negative_true, at_most_true}
use Rattle.rp_algebra.proofs.Listed.{list_all_true}
use Rattle.rp_convex.proofs.Tests.{listed-from, multiplier-from, balanced-from}
use Rattle.rp_convex.proofs.Never.{never_both}

-- the great number N, 2 ^ 77: above the sum of four factors
abbrev pub great : ℤ
great = pos 151115727451828646838272

-- the offset of a weak side
abbrev pub weak_offset : HalfSpace → ℤ
weak_offset h = h.d

-- the offset of a strict side
abbrev pub strict_offset : HalfSpace → ℤ
strict_offset h = great *ℤ h.d +ℤ negsuc 0

-- the offsets of the two kinds
abbrev pub offset_of : Bool → HalfSpace → ℤ
offset_of true h = strict_offset h
offset_of false h = weak_offset h

-- ---- a candidate has one to four terms
-- it has one to four, as the test says
pub candidate_some : {ts : List Multiple} → IsCandidate ts → is_one_to_four (length ts) ≡ true
candidate_some (one h) = refl
candidate_some (two f g m n e) = refl
candidate_some (two_negated f g m n e) = refl
candidate_some (three f g h l m n e) = refl
candidate_some (three_negated f g h l m n e) = refl
candidate_some (four d f g h k l m n e) = refl
candidate_some (four_negated d f g h k l m n e) = refl

-- it has at most four
candidate_most : {ts : List Multiple} → IsCandidate ts → length ts ≤ 4
candidate_most (one h) = omega arith
candidate_most (two f g m n e) = omega arith
candidate_most (two_negated f g m n e) = omega arith
candidate_most (three f g h l m n e) = omega arith
candidate_most (three_negated f g h l m n e) = omega arith
candidate_most (four d f g h k l m n e) = omega arith
candidate_most (four_negated d f g h k l m n e) = omega arith

-- ---- the sum of the factors
-- a factor is at most the greatest minor
factor_most : (v : ℤ) → IsWithin greatest_minor v → (v *ℤ pos 1) ≤ℤ pos greatest_minor
factor_most v h = let s = h.abs_le in omega (arith, ints, s)

-- a sum of one factor more
factors_more : (v s : ℤ) (n : ℕ) → v ≤ℤ pos greatest_minor → s ≤ℤ pos (greatest_minor * n) → (v +ℤ s) ≤ℤ pos (greatest_minor * suc n)
factors_more v s n h k = omega (arith, ints)

-- the sum of the factors is at most as many greatest minors as there are terms
factors_most : (ts : List Multiple) → AllByRecursion (λ t. IsWithin greatest_minor t.factor) ts → weighted_sum (λ h. pos 1) ts ≤ℤ pos (greatest_minor * length ts)
factors_most [] h = omega (arith, ints)
factors_most (t ∷ ts) h = factors_more (t.factor *ℤ pos 1) (weighted_sum (λ h. pos 1) ts) (length ts) (factor_most t.factor h.0) (factors_most ts h.1)

-- N s - k < 0 with k below N
low_sum : (s k : ℤ) (n : ℕ) → k ≤ℤ pos (greatest_minor * n) → n ≤ 4 → (great *ℤ s +ℤ k *ℤ negsuc 0) <ℤ pos 0 → s ≤ℤ pos 0
low_sum s k n h l e = omega (arith, ints)

-- ---- the certificate
-- a refutation contradicts, in the words of the certificate
pub contradiction-from : (strict : Bool) (hs : List HalfSpace) (r : Refutation (offset_of strict) hs) → is_contradiction strict r.of.terms ≡ true
contradiction-from true hs r =
    let low = subst (λ v. v <ℤ pos 0) (weighted_sum-mixed great (negsuc 0) (λ h. h.d) (λ h. pos 1) r.of.terms) r.of.negative in
    at_most_true (weighted_sum (λ h. h.d) r.of.terms) (pos 0) (low_sum (weighted_sum (λ h. h.d) r.of.terms) (weighted_sum (λ h. pos 1) r.of.terms) (length r.of.terms) (factors_most r.of.terms r.small) (candidate_most r.candidate) low)
contradiction-from false hs r = is_negative_true (weighted_sum (λ h. h.d) r.of.terms) r.of.negative

-- its terms pass the test of a term
pub terms-from : (hs : List HalfSpace) (ts : List Multiple) → ArePositive ts → AllByRecursion (λ t. IsWithin greatest_minor t.factor) ts → AllByRecursion (λ h. is_listed h hs ≡ true) (half_spaces_of ts) → list_all (λ t. is_multiplier t.factor && is_listed t.of hs) ts ≡ true
terms-from hs [] p s l = refl
terms-from hs (t ∷ ts) p s l = and_true _ _ (and_true _ _ (multiplier-from t.factor p.0 s.0) l.0) (terms-from hs ts p.1 s.1 l.1)

-- a refutation is an outside certificate
pub certificate-from : (strict : Bool) (cell : List HalfSpace) (r : Refutation (offset_of strict) (with_cube cell)) → is_outside_certificate strict cell r.of.terms ≡ true
certificate-from strict cell r =
    let ts = r.of.terms in
    and_true _ (is_contradiction strict ts)
    (and_true _ (is_balanced ts)
    (and_true (is_one_to_four (length ts)) _ (candidate_some r.candidate) (terms-from (with_cube cell) ts r.of.positive r.small (listed-from r.of.among)))
    (balanced-from ts r.of.a r.of.b r.of.c))
    (contradiction-from strict (with_cube cell) r)

-- ---- the solution
-- the value with the strict offset is the side at a point of N times the weight, less the weight
pub weighted : (a b c d x y z w : ℤ) → a *ℤ x +ℤ b *ℤ y +ℤ c *ℤ z +ℤ (great *ℤ d +ℤ negsuc 0) *ℤ w ≡ (a *ℤ x +ℤ b *ℤ y +ℤ c *ℤ z +ℤ d *ℤ (great *ℤ w)) +ℤ neg_ℤ w
weighted a b c d x y z w = by_ring_at (a ∷ b ∷ c ∷ d ∷ x ∷ y ∷ z ∷ w ∷ []) (search reify depth 40 fits 100000) tt

-- so that side is above 0
pub strict_side : (h : HalfSpace) (p : RationalPoint) → pos 0 <ℤ p.w → pos 0 ≤ℤ offset_side strict_offset p h → pos 0 <ℤ side_value h (point_of p.x p.y p.z (great *ℤ p.w))
strict_side h p w n =
    let e = weighted h.a h.b h.c h.d p.x p.y p.z p.w in
    omega (arith, linear, e, w, n)

-- N times a weight above 0 is above 0
pub greater : (w : ℤ) → pos 0 <ℤ w → pos 0 <ℤ (great *ℤ w)
greater w h = omega (arith, ints)

-- a point is a solution
pub solution-from : (strict : Bool) (cell : List HalfSpace) → Point (offset_of strict) (with_cube cell) → (p : RationalPoint) × IsSolution strict cell p
solution-from true cell q = (
  point_of q.at.x q.at.y q.at.z (great *ℤ q.at.w),
  (
    greater q.at.w q.weight,
    list_all_true (λ h. is_positive (side_value h (point_of q.at.x q.at.y q.at.z (great *ℤ q.at.w)))) (λ h. pos 0 ≤ℤ offset_side strict_offset q.at h)
        (λ h n. is_positive_true (side_value h (point_of q.at.x q.at.y q.at.z (great *ℤ q.at.w))) (strict_side h q.at q.weight n)) (with_cube cell) q.all,
  ),
)
solution-from false cell q =
    (q.at, (q.weight, list_all_true (λ h. is_nonnegative (side_value h q.at)) (λ h. pos 0 ≤ℤ offset_side weak_offset q.at h) (λ h n. at_most_true (pos 0) (side_value h q.at) n) (with_cube cell) q.all))

-- ---- the alternative
-- the law
pub solution_or_certificate_spec : SolutionOrCertificate
solution_or_certificate_spec strict cell bounds = (
  ⊎_elim
      (λ q. inl (solution-from strict cell q))
      (λ r. inr (r.of.terms, certificate-from strict cell r))
      (point_or_refutation (offset_of strict) (with_cube cell) (small_with_cube cell bounds)),
  λ s c. never_both strict cell s.0 c.0 s.1 c.1,
)
