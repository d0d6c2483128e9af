-- The terms of a certificate have multipliers within bounds.
use Rattle.std.proofs.Common.{◌≡◌, true, ◌&&◌, List, [], ◌∷◌, refl}
use Rattle.std.specs.List.{list_all}
use Rattle.rp_algebra.proofs.Tests.{and_first, and_second, and_true}
use Rattle.rp_geometry.specs.Geometry.{HalfSpace, is_listed, with_cube}
use Rattle.rp_geometry.specs.sections.Trace.{with_sides}
use Rattle.rp_geometry.specs.searches.Certificate.{Multiple, is_multiplier}

-- where each term is a multiple within bounds of a half-space of a list, each multiplier is within bounds
bounded : (hs : List HalfSpace) (terms : List Multiple) → list_all (λ t. is_multiplier t.factor && is_listed t.of hs) terms ≡ true → list_all (λ t. is_multiplier t.factor) terms ≡ true
bounded hs [] e = refl
bounded hs (t ∷ terms) e =
    let each = is_multiplier t.factor && is_listed t.of hs in
    let rest = list_all (λ (u : Multiple). is_multiplier u.factor && is_listed u.of hs) terms in
    and_true (is_multiplier t.factor) (list_all (λ (u : Multiple). is_multiplier u.factor) terms)
    (and_first (is_multiplier t.factor) (is_listed t.of hs) (and_first each rest e))
    (bounded hs terms (and_second each rest e))

-- those of an outside certificate
pub multipliers_of : (cell : List HalfSpace) (terms : List Multiple) → list_all (λ t. is_multiplier t.factor && is_listed t.of (with_cube cell)) terms ≡ true → list_all (λ t. is_multiplier t.factor) terms ≡ true
multipliers_of cell terms e = bounded (with_cube cell) terms e

-- those of a flat certificate
pub multipliers_beside : (cell : List HalfSpace) (terms : List Multiple) → list_all (λ t. is_multiplier t.factor && is_listed t.of (with_sides cell)) terms ≡ true → list_all (λ t. is_multiplier t.factor) terms ≡ true
multipliers_beside cell terms e = bounded (with_sides cell) terms e
