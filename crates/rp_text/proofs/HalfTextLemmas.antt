-- The texts of half-spaces that are kept.
use Rattle.std.proofs.Common.{◌≡◌, ℕ, Bool, true, false, not, ◌&&◌, ℤ, int_eq, List, [], ◌∷◌, length, refl, arith}
use Rattle.std.specs.Bool.{◌==◌}
use Rattle.std.proofs.lemmas.Int.{ints}
use Rattle.rp_algebra.proofs.Tests.{and_first, and_second}
use Rattle.rp_geometry.specs.Geometry.{HalfSpace}
use Rattle.rp_reports.specs.Text.{half_space_text}
use Rattle.rp_text.specs.HalfTexts.{IsTextOf}

-- two half-spaces that the test calls equal
pub same_half : (g h : HalfSpace) → not (int_eq g.a h.a && (int_eq g.b h.b && (int_eq g.c h.c && int_eq g.d h.d))) ≡ false → g ≡ h
same_half g h e =
    let all = equal (int_eq g.a h.a && (int_eq g.b h.b && (int_eq g.c h.c && int_eq g.d h.d))) e in
    let rest = and_second (int_eq g.a h.a) (int_eq g.b h.b && (int_eq g.c h.c && int_eq g.d h.d)) all in
    let last = and_second (int_eq g.b h.b) (int_eq g.c h.c && int_eq g.d h.d) rest in
    let a = same g.a h.a (and_first (int_eq g.a h.a) (int_eq g.b h.b && (int_eq g.c h.c && int_eq g.d h.d)) all) in
    let b = same g.b h.b (and_first (int_eq g.b h.b) (int_eq g.c h.c && int_eq g.d h.d) rest) in
    let c = same g.c h.c (and_first (int_eq g.c h.c) (int_eq g.d h.d) last) in
    let d = same g.d h.d (and_second (int_eq g.c h.c) (int_eq g.d h.d) last) in
    λ i. record { a = a i; b = b i; c = c i; d = d i }
  where
    equal : (b : Bool) → not b ≡ false → b ≡ true
    equal true e = refl
    equal false e = cc

    same : (v w : ℤ) → int_eq v w ≡ true → v ≡ w
    same v w e = grind (arith, ints)

-- a text that is kept is that of its half-space
pub kept_text : (h : HalfSpace) (text : List ℕ) → IsTextOf h text → (length text == 0) ≡ false → text ≡ half_space_text h
kept_text h [] k e = cc
kept_text h (b ∷ bs) k e = k (λ z. cc)
