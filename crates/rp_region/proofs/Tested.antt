-- What a test has found, of the proof line that tells it.
use Rattle.std.proofs.Common.{◌≡◌, true, false, List, [], ◌∷◌, length, refl, sym, ap, ◌∙◌}
use Rattle.std.specs.Prelude.{nat_le, Option, Some, None, Result, Ok, Err, is_some, OnOk, OnErr}
use Rattle.std.specs.declared.alloc.AllocError.{AllocError}
use Rattle.rp_geometry.specs.Geometry.{RationalPoint, HalfSpace}
use Rattle.rp_geometry.specs.sets.Shape.{Part}
use Rattle.rp_geometry.specs.searches.Certificate.{Multiple}
use Rattle.rp_geometry.specs.searches.Vertex.{first_inside, first_weak_point}
use Rattle.rp_geometry.specs.searches.ProofLine.{ProofLine, in_line, out_line, at_line, apart_line, outside_terms, strict_line, weak_line}
use Rattle.rp_geometry.specs.parts.PartTest.{has_member, has_weak_point, slimmed, part_lines, part_of}
use Rattle.rp_geometry.specs.parts.Parts.{most_half_spaces}
use Rattle.rp_region.specs.Makes.{op_result, Makes}
use Rattle.rp_region.specs.Tells.{strict_tells, weak_tells}
use Rattle.rp_region.proofs.Left.{not_begun}
use Rattle.rp_semantics.specs.Walk.{Outcome, done, stopped, limit_met, Work, with_lines, strict_test, weak_test, part_test}

-- the work with one line in other words
one_line : (w v : Work) (told line : ProofLine) → told ≡ line → v ≡ with_lines w (told ∷ []) → with_lines w (line ∷ []) ≡ v
one_line w v told line e m = ap (λ l. with_lines w (l ∷ [])) (sym e) ∙ sym m

-- no certificate made of points is found where multiples are told
pub no_points : (cell : List HalfSpace) (terms : List Multiple) → out_line terms ≡ strict_line cell → first_inside cell ≡ None
unfolding strict_line
no_points cell terms e = by_found (first_inside cell) e
  where
    by_found : (o : Option (List RationalPoint)) → out_line terms ≡ elim o as (λ _. ProofLine) [ Some points ↦ in_line points | None ↦ out_line (outside_terms true cell) ] → o ≡ None
    by_found (Some points) e = absurd (cc)
    by_found None e = refl

-- no weak point is found where multiples are told
pub no_weak_point : (cell : List HalfSpace) (terms : List Multiple) → apart_line terms ≡ weak_line cell → first_weak_point cell ≡ None
unfolding weak_line
no_weak_point cell terms e = by_found (first_weak_point cell) e
  where
    by_found : (o : Option RationalPoint) → apart_line terms ≡ elim o as (λ _. ProofLine) [ Some p ↦ at_line p | None ↦ apart_line (outside_terms false cell) ] → o ≡ None
    by_found (Some p) e = absurd (cc)
    by_found None e = refl

-- a strict test with what it has found
pub strict_told : (cell : List HalfSpace) (o : Option (List RationalPoint)) (told : ProofLine) (w v : Work) → first_inside cell ≡ o → told ≡ strict_line cell → v ≡ with_lines w (told ∷ []) → strict_test cell w ≡ done (is_some o) v
unfolding strict_test has_member
strict_told cell o told w v e l m = λ i. done (is_some (e i)) (one_line w v told (strict_line cell) l m i)

-- a weak test with what it has found
pub weak_told : (cell : List HalfSpace) (o : Option RationalPoint) (told : ProofLine) (w v : Work) → first_weak_point cell ≡ o → told ≡ weak_line cell → v ≡ with_lines w (told ∷ []) → weak_test cell w ≡ done (is_some o) v
unfolding weak_test has_weak_point
weak_told cell o told w v e l m = λ i. done (is_some (e i)) (one_line w v told (weak_line cell) l m i)

-- a part test that finds no member
pub no_part : (cell : List HalfSpace) (told : ProofLine) (w v : Work) → first_inside cell ≡ None → told ≡ strict_line cell → v ≡ with_lines w (told ∷ []) → part_test cell w ≡ done None v
unfolding part_test has_member
no_part cell told w v e l m = ap by_found e ∙ ap (λ u. done None u) (one_line w v told (strict_line cell) l m)
  where
    by_found : Option (List RationalPoint) → Outcome Work (Option Part)
    by_found o = elim (is_some o) as (λ _. Outcome Work (Option Part)) [
      | false ↦ done None (with_lines w (strict_line cell ∷ []))
      | true ↦ elim (nat_le (length (slimmed cell).kept) most_half_spaces) as (λ _. Outcome Work (Option Part)) [
        | true ↦ done (Some (part_of (slimmed cell))) (with_lines w (strict_line cell ∷ part_lines (slimmed cell)))
        | false ↦ stopped limit_met w
      ]
    ]

-- ---- tests that are known to find nothing

-- a strict test
pub strict_refuted : (cell : List HalfSpace) (terms : List Multiple) (r : Result (Unit {0}) AllocError) (w v : Work) → out_line terms ≡ strict_line cell → OnOk r (v ≡ with_lines w (out_line terms ∷ [])) → OnErr r (v ≡ w)
    → Makes (λ _. false) (op_result r) w v (strict_test cell)
strict_refuted cell terms (Ok x) w v e m n = strict_told cell None (out_line terms) w v (no_points cell terms e) e m
strict_refuted cell terms (Err x) w v e m n = not_begun (strict_test cell) w v (strict_tells cell) n

-- a weak test
pub weak_refuted : (cell : List HalfSpace) (terms : List Multiple) (r : Result (Unit {0}) AllocError) (w v : Work) → apart_line terms ≡ weak_line cell → OnOk r (v ≡ with_lines w (apart_line terms ∷ [])) → OnErr r (v ≡ w)
    → Makes (λ _. false) (op_result r) w v (weak_test cell)
weak_refuted cell terms (Ok x) w v e m n = weak_told cell None (apart_line terms) w v (no_weak_point cell terms e) e m
weak_refuted cell terms (Err x) w v e m n = not_begun (weak_test cell) w v (weak_tells cell) n
