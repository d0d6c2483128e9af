use Rattle.std.proofs.Common.{◌≡◌, ℕ, ℤ, ◌^◌, to_z, of_z, [], ◌∷◌, sym, subst, ◌∙◌}
use mir.Syntax.{w32, w64, w128}
use Rattle.rp_algebra.specs.Integer.{gcd_of, reduced_by}
use Rattle.rp_algebra.specs.Within.{IsWithin}
use Rattle.rp_algebra.proofs.LowestTerms.{quotient_within}
use Rattle.rp_algebra.proofs.Machine.{written, held, fits_by, is_by, read_is}
use Rattle.rp_geometry.specs.sections.Trace.{trace_of}
use Rattle.rp_cert.proofs.trace.lowest.Goals as goal

-- a quotient of a number that is read is as small as the number
small_quotient : (m g : ℕ) {v q : ℤ} → q ≡ reduced_by g (to_z w128 (of_z w128 (to_z w64 (of_z w64 v)))) → to_z w128 (of_z w128 (to_z w64 (of_z w64 v))) ≡ v → IsWithin m v → IsWithin m q
small_quotient m g {v = v} e r h = subst (IsWithin m) (sym (e ∙ (λ i. reduced_by g (r i)))) (quotient_within m g v h)

pub overflow_cast-result : goal.overflow_cast-result
overflow_cast-result c = let a = c.requires.a_small in fits_by (written w128 _ (held (small_quotient (2 ^ 24) _ c.quotient.ensures (is_by (written w128 _ (written w64 _ (held a))) tt) a))) tt

pub overflow_cast-result-2 : goal.overflow_cast-result-2
overflow_cast-result-2 c = let b = c.requires.b_small in fits_by (written w128 _ (held (small_quotient (2 ^ 24) _ c.quotient-2.ensures (is_by (written w128 _ (written w64 _ (held b))) tt) b))) tt

pub overflow_cast-result-3 : goal.overflow_cast-result-3
overflow_cast-result-3 c = let d = c.requires.d_small in fits_by (written w128 _ (held (small_quotient (2 ^ 50) _ c.quotient-3.ensures (is_by (written w128 _ (written w64 _ (held d))) tt) d))) tt

pub returns : goal.returns
returns c =
    let g = gcd_of (c.args.a ∷ c.args.b ∷ c.args.d ∷ []) in
    let qa = read_is w64 c.requires.a_small tt in
    let qb = read_is w64 c.requires.b_small tt in
    let qd = read_is w64 c.requires.d_small tt in
    let n = c.divisor_of-divisor.ensures.value ∙ (λ i. gcd_of (qa i ∷ qb i ∷ qd i ∷ [])) in
    let ra = is_by (written w128 _ (written w64 _ (held c.requires.a_small))) tt in
    let rb = is_by (written w128 _ (written w64 _ (held c.requires.b_small))) tt in
    let rd = is_by (written w128 _ (written w64 _ (held c.requires.d_small))) tt in
    let ea : c.quotient.result ≡ reduced_by g c.args.a = c.quotient.ensures ∙ (λ i. reduced_by (n i) (ra i)) in
    let wa : IsWithin (2 ^ 24) c.quotient.result = subst (IsWithin (2 ^ 24)) (sym ea) (quotient_within (2 ^ 24) g c.args.a c.requires.a_small) in
    let eb : c.quotient-2.result ≡ reduced_by g c.args.b = c.quotient-2.ensures ∙ (λ i. reduced_by (n i) (rb i)) in
    let wb : IsWithin (2 ^ 24) c.quotient-2.result = subst (IsWithin (2 ^ 24)) (sym eb) (quotient_within (2 ^ 24) g c.args.b c.requires.b_small) in
    let ed : c.quotient-3.result ≡ reduced_by g c.args.d = c.quotient-3.ensures ∙ (λ i. reduced_by (n i) (rd i)) in
    let wd : IsWithin (2 ^ 50) c.quotient-3.result = subst (IsWithin (2 ^ 50)) (sym ed) (quotient_within (2 ^ 50) g c.args.d c.requires.d_small) in
    let pa = is_by (written w32 _ (written w128 _ (held wa))) tt ∙ ea in
    let pb = is_by (written w32 _ (written w128 _ (held wb))) tt ∙ eb in
    let pd = is_by (written w64 _ (written w128 _ (held wd))) tt ∙ ed in
    record { value = λ i. trace_of (pa i) (pb i) (pd i) }
