-- Flat certificates: proofs that a cell has no point at a height, and the first of them.
use Rattle.std.specs.Prelude.{ℕ, Bool, true, false, ◌&&◌, ◌||◌, not, ℤ, pos, int_le, List, [], ◌∷◌, length, nat_le, Option, Some, None}
use Rattle.std.specs.List.{list_all}
use Rattle.rp_algebra.specs.Integer.{is_zero, is_positive}
use Rattle.rp_geometry.specs.Geometry.{HalfSpace, is_listed}
use Rattle.rp_geometry.specs.searches.Certificate.{Multiple, weighted_sum, is_multiplier}
use Rattle.rp_geometry.specs.searches.Search.{first_of, first_of_pairs, first_of_triples}
use Rattle.rp_geometry.specs.searches.Elimination.{multiple_of, normal_terms, minors_of_two, minors_on_axes}
use Rattle.rp_geometry.specs.sections.Trace.{has_trace, offset_at, holds_level, with_sides}

-- ---- the definition

-- the number is from 1 to 3
abbrev pub is_one_to_three : ℕ → Bool
is_one_to_three n = nat_le 1 n && nat_le n 3

-- the first kind: one half-space without a trace, which does not hold the points at height z
abbrev pub is_level_kind : ℤ → List Multiple → Bool
is_level_kind z [] = false
is_level_kind z (t ∷ []) = not (has_trace t.of) && not (holds_level z t.of)
is_level_kind z (t ∷ u ∷ terms) = false

-- the second kind: each term has a trace, and the sum of c z + d over the terms is at most 0
abbrev pub is_trace_kind : ℤ → List Multiple → Bool
is_trace_kind z terms = list_all (λ t. has_trace t.of) terms && int_le (weighted_sum (offset_at z) terms) (pos 0)

-- flat certificate: one to three positive multiples of half-spaces of the flat list; a and b each add up to 0; of one of the two kinds
abbrev pub is_flat : ℤ → List HalfSpace → List Multiple → Bool
is_flat z cell terms =
    is_one_to_three (length terms) && list_all (λ t. is_multiplier t.factor && is_listed t.of (with_sides cell)) terms
    && (is_zero (weighted_sum (λ h. h.a) terms) && is_zero (weighted_sum (λ h. h.b) terms)) && (is_level_kind z terms || is_trace_kind z terms)

-- ---- the first flat certificate

-- all factors are positive, a and b each add up to 0, and the terms are of one of the two kinds
abbrev pub is_flat_refutation : ℤ → List Multiple → Bool
is_flat_refutation z terms =
    list_all (λ t. is_positive t.factor) terms && (is_zero (weighted_sum (λ h. h.a) terms) && is_zero (weighted_sum (λ h. h.b) terms))
    && (is_level_kind z terms || is_trace_kind z terms)

-- the terms, if they are a flat refutation
abbrev pub flat_terms_if : ℤ → List Multiple → Option (List Multiple)
flat_terms_if z terms = elim (is_flat_refutation z terms) [ true ↦ Some terms | false ↦ None ]

-- the flat certificate by one half-space, if it is one
unfoldable pub flat_of_one : ℤ → HalfSpace → Option (List Multiple)
flat_of_one z h = flat_terms_if z (multiple_of (pos 1) h ∷ [])

-- the flat certificate by two half-spaces, if it is one
unfoldable pub flat_of_two : ℤ → HalfSpace → HalfSpace → Option (List Multiple)
flat_of_two z g h = flat_terms_if z (normal_terms (minors_of_two g h))

-- the flat certificate by three half-spaces, if it is one
unfoldable pub flat_of_three : ℤ → HalfSpace → HalfSpace → HalfSpace → Option (List Multiple)
flat_of_three z f g h = flat_terms_if z (normal_terms (minors_on_axes f g h (λ k. k.a) (λ k. k.b)))

-- the first flat certificate of a cell at height z, by number of terms and then by places; its factors are signed minors in lowest terms
unfoldable pub first_flat : ℤ → List HalfSpace → Option (List Multiple)
first_flat z cell =
    elim (first_of (flat_of_one z) (with_sides cell)) [
      | Some terms ↦ Some terms
      | None ↦ elim (first_of_pairs (flat_of_two z) (with_sides cell)) [
        | Some terms ↦ Some terms
        | None ↦ first_of_triples (flat_of_three z) (with_sides cell)
      ]
    ]
