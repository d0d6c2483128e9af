-- A half-space that a line drops changes no member.
use Rattle.std.proofs.Common.{◌≡◌, Bool, true, false, not, ◌&&◌, ◌||◌, List, [], ◌∷◌, ◌++◌, refl, sym, ap, ◌∙◌, subst}
use Rattle.std.specs.Prelude.{Option, Some, None}
use Rattle.rp_algebra.proofs.Options.{none_not_some, same_some}
use Rattle.rp_algebra.proofs.Tests.{false_not_true}
use Rattle.rp_geometry.specs.Geometry.{RationalPoint, HalfSpace, IsPoint, IsKeptHalfSpace, holds, complement, is_cube_point, half_space_eq, is_listed}
use Rattle.rp_geometry.specs.sets.Shape.{passes, shape_of_cell}
use Rattle.rp_geometry.specs.sets.Sets.{IsNonempty}
use Rattle.rp_geometry.specs.searches.Certificate.{Multiple, is_outside_certificate}
use Rattle.rp_geometry.specs.searches.ProofLine.{ProofLine, drop_line}
use Rattle.rp_geometry.specs.laws.CellLaws.{AreHalfSpaces, IsSolution}
use Rattle.rp_geometry.specs.parts.Parts.{AreKeptHalfSpaces}
use Rattle.rp_reports.specs.Check.{without, dropped_by}
use Rattle.rp_convex.proofs.Inside.{member_moves_inside_spec}
use Rattle.rp_convex.proofs.Tests.{half_space_eq-to, listed-to}
use Rattle.rp_convex.proofs.Alternative.{solution_or_certificate_spec}
use Rattle.rp_parts.proofs.Regions.{cell_append}
use Rattle.rp_geometry.proofs.Kept.{are_half_spaces, kept_together, kept_complement}
use Rattle.rp_forms.proofs.Alike.{Alike, fails_empty, complement_alone}

-- ---- outside certificates

-- a strict outside certificate shows that the cell has no member
pub no_member : (cell : List HalfSpace) (terms : List Multiple) → AreHalfSpaces cell → is_outside_certificate true cell terms ≡ true → IsNonempty (shape_of_cell cell) → ⊥
no_member cell terms k e n = (solution_or_certificate_spec true cell k).1 (member_moves_inside_spec cell k n) (terms, e)

-- and a weak one that the weak system has no point
pub no_weak_point : (cell : List HalfSpace) (terms : List Multiple) → AreHalfSpaces cell → is_outside_certificate false cell terms ≡ true → ((p : RationalPoint) × IsSolution false cell p) → ⊥
no_weak_point cell terms k e s = (solution_or_certificate_spec false cell k).1 s (terms, e)

-- where nothing of a cell is outside a half-space, it holds the points of the cell
pub shown : (cell : List HalfSpace) (h : HalfSpace) (terms : List Multiple) → AreKeptHalfSpaces cell → IsKeptHalfSpace h → is_outside_certificate true (cell ++ complement h ∷ []) terms ≡ true
    → (p : RationalPoint) → IsPoint p → is_cube_point p ≡ true → passes (shape_of_cell cell) p ≡ true → holds h p ≡ true
shown cell h terms k kh e p w c m = by_test (holds h p) (ap (λ b. b && not (holds h p)) (sym m) ∙ sym (λ i. passes (shape_of_cell cell) p && complement_alone h kh.numbers p w i) ∙ sym (cell_append cell (complement h ∷ []) p) ∙ nothing)
  where
    kept : AreKeptHalfSpaces (cell ++ complement h ∷ [])
    kept = kept_together cell (complement h ∷ []) k (kept_complement h kh, tt)

    nothing : passes (shape_of_cell (cell ++ complement h ∷ [])) p ≡ false
    nothing = fails_empty (shape_of_cell (cell ++ complement h ∷ [])) (no_member (cell ++ complement h ∷ []) terms (are_half_spaces (cell ++ complement h ∷ []) kept) e) p w c

    by_test : (b : Bool) → (true && not b) ≡ false → b ≡ true
    by_test true e = refl
    by_test false e = absurd (cc)

-- ---- a list without a half-space

-- its half-spaces are kept
pub without_kept : (h : HalfSpace) (ks : List HalfSpace) → AreKeptHalfSpaces ks → AreKeptHalfSpaces (without h ks)
without_kept h [] k = tt
without_kept h (g ∷ ks) k = elim (half_space_eq h g) as (λ b. AreKeptHalfSpaces (elim b [ true ↦ ks | false ↦ g ∷ without h ks ])) [ true ↦ k.1 | false ↦ (k.0, without_kept h ks k.1) ]

-- two tests exchanged
exchanged : (a b c : Bool) → (a && (b && c)) ≡ (b && (a && c))
exchanged true b c = refl
exchanged false true c = refl
exchanged false false c = refl

-- the rest, where the first is the half-space
abbrev without_by : HalfSpace → HalfSpace → List HalfSpace → Bool → List HalfSpace
without_by h g ks b = elim b [ true ↦ ks | false ↦ g ∷ without h ks ]

-- the list passes where the half-space holds and the others pass
pub without_passes : (h : HalfSpace) (ks : List HalfSpace) (p : RationalPoint) → is_listed h ks ≡ true → passes (shape_of_cell ks) p ≡ (holds h p && passes (shape_of_cell (without h ks)) p)
without_passes h [] p e = absurd (false_not_true false e refl)
without_passes h (g ∷ ks) p e = by_test (half_space_eq h g) refl e (without_passes h ks p)
  where
    by_test : (b : Bool) → half_space_eq h g ≡ b → (b || is_listed h ks) ≡ true → (is_listed h ks ≡ true → passes (shape_of_cell ks) p ≡ (holds h p && passes (shape_of_cell (without h ks)) p))
        → (holds g p && passes (shape_of_cell ks) p) ≡ (holds h p && passes (shape_of_cell (without_by h g ks b)) p)
    by_test true s l rest = ap (λ k. holds k p && passes (shape_of_cell ks) p) (half_space_eq-to h g s)
    by_test false s l rest = ap (λ b. holds g p && b) (rest l) ∙ exchanged (holds g p) (holds h p) (passes (shape_of_cell (without h ks)) p)

-- ---- dropping

-- the half-space stands in the list, and the certificate shows that the others need it not
pub record IsDropped (kept : List HalfSpace) (h : HalfSpace) : Type 0 where
  pub listed : is_listed h kept ≡ true
  pub terms : List Multiple
  pub certificate : is_outside_certificate true (without h kept ++ complement h ∷ []) terms ≡ true

-- the half-space, where the test passes
abbrev dropped_if : HalfSpace → Bool → Option HalfSpace
dropped_if h b = elim b [ true ↦ Some h | false ↦ None ]

-- what a line drops
pub dropped_is : (kept : List HalfSpace) (o : Option ProofLine) (h : HalfSpace) → dropped_by kept o ≡ Some h → IsDropped kept h
dropped_is kept (Some (drop_line g terms)) h e = by_tests (is_listed g kept) (is_outside_certificate true (without g kept ++ complement g ∷ []) terms) refl refl e
  where
    by_tests : (a b : Bool) → is_listed g kept ≡ a → is_outside_certificate true (without g kept ++ complement g ∷ []) terms ≡ b → dropped_if g (a && b) ≡ Some h → IsDropped kept h
    by_tests true true l c s = subst (IsDropped kept) (same_some g h s) (record { listed = l; terms = terms; certificate = c })
    by_tests true false l c s = absurd (none_not_some h s)
    by_tests false b l c s = absurd (none_not_some h s)
dropped_is kept _ h e = absurd (none_not_some h e)

-- what is dropped changes no member
pub dropped_alike : (kept : List HalfSpace) (h : HalfSpace) → AreKeptHalfSpaces kept → IsDropped kept h → Alike (shape_of_cell (without h kept)) (shape_of_cell kept)
dropped_alike kept h k d p w c = by_test (passes (shape_of_cell (without h kept)) p) refl
  where
    each : (b : Bool) → passes (shape_of_cell (without h kept)) p ≡ b → passes (shape_of_cell kept) p ≡ (holds h p && b)
    each b e = without_passes h kept p d.listed ∙ ap (λ x. holds h p && x) e

    by_test : (b : Bool) → passes (shape_of_cell (without h kept)) p ≡ b → passes (shape_of_cell (without h kept)) p ≡ passes (shape_of_cell kept) p
    by_test true e = e ∙ sym (each true e ∙ ap (λ x. x && true) (shown (without h kept) h d.terms (without_kept h kept k) (listed-to IsKeptHalfSpace h kept d.listed k) d.certificate p w c e))
    by_test false e = e ∙ sym (each false e ∙ nothing (holds h p))
      where
        nothing : (a : Bool) → (a && false) ≡ false
        nothing true = refl
        nothing false = refl
