-- Whether two regions share a member, and whether they are in contact, is found by tests of pairs of their cells.
use Rattle.std.proofs.Common.{◌≡◌, ⊎_elim, Bool, true, ◌&&◌, ◌||◌, List, [], ◌∷◌, ◌++◌, refl, ap, sym, subst, ◌∙◌}
use Rattle.std.specs.Prelude.{◌↔◌, IsTrue, is_some}
use Rattle.std.specs.List.{list_any, AllByRecursion}
use Rattle.std.proofs.lemmas.Bool.{or_cases}
use Rattle.rp_algebra.proofs.Tests.{and_first, and_second, and_true}
use Rattle.rp_algebra.proofs.Listed.{Listed, first, later, all_of, listed_at}
use Rattle.rp_geometry.specs.Geometry.{RationalPoint, HalfSpace}
use Rattle.rp_geometry.specs.sets.Shape.{Shape, Part, passes, shape_of_cell, shape_of_cells, shape_of_parts}
use Rattle.rp_geometry.specs.sets.Sets.{IsNonempty, Overlaps}
use Rattle.rp_geometry.specs.sets.Contact.{IsInContact, IsBoundedRegion}
use Rattle.rp_geometry.specs.searches.Vertex.{first_inside, first_weak_point}
use Rattle.rp_geometry.specs.laws.CellLaws.{AreHalfSpaces}
use Rattle.rp_geometry.specs.laws.RegionLaws.{OverlapOfPartsIsFound, ContactOfPartsIsFound, some_pair}
use Rattle.rp_algebra.proofs.Filter.{some_passes, passes_some}
use Rattle.rp_convex.proofs.InsideFound.{inside_is_found_spec}
use Rattle.rp_geometry.proofs.Members.{member_in_cube, member_passes, is_member_of, overlap_larger, contact_larger}
use Rattle.rp_parts.proofs.NearRegion.{cell_within, near_region_is_weak_spec}
use Rattle.rp_parts.proofs.Near.{near_cell_is_weak_spec}
use Rattle.rp_parts.proofs.Pairs.{overlap_is_found_spec, contact_is_found_spec}

-- ---- pairs

-- a test of two cells
abbrev pub PairTest : Type 0
PairTest = List HalfSpace → List HalfSpace → Bool

-- some cell of the first list and some cell of the second pass the test
abbrev pub some_cells : PairTest → List (List HalfSpace) → List (List HalfSpace) → Bool
some_cells test f g = list_any (λ c. list_any (λ e. test c e) g) f

-- two cells that pass the test
pub record Passing (test : PairTest) (f g : List (List HalfSpace)) : Type 0 where
  pub one : List HalfSpace
  pub other : List HalfSpace
  pub one_listed : Listed one f
  pub other_listed : Listed other g
  pub passes : test one other ≡ true

-- where some two cells pass, they are there
pub passing : (test : PairTest) (f g : List (List HalfSpace)) → some_cells test f g ≡ true → Passing test f g
passing test f g e =
    let c = some_passes (λ c. list_any (λ e. test c e) g) f e in
    let d = some_passes (λ e. test c.item e) g c.passes in
    record { one = c.item; other = d.item; one_listed = c.listed; other_listed = d.listed; passes = d.passes }

-- where two cells pass, some do
pub passes_pair : (test : PairTest) (f g : List (List HalfSpace)) (c e : List HalfSpace) → Listed c f → Listed e g → test c e ≡ true → some_cells test f g ≡ true
passes_pair test f g c e l m t = passes_some (λ c. list_any (λ e. test c e) g) f c l (passes_some (λ e. test c e) g e m t)

-- ---- common members

-- a cell of the list that has the point as a member
record InCell (cells : List (List HalfSpace)) (p : RationalPoint) : Type 0 where
  cell : List HalfSpace
  listed : Listed cell cells
  passes : passes (shape_of_cell cell) p ≡ true

-- a point that passes the test of the list passes that of one of its cells
in_some_cell : (cells : List (List HalfSpace)) (p : RationalPoint) → passes (shape_of_cells cells) p ≡ true → InCell cells p
in_some_cell [] p e = absurd (cc)
in_some_cell (c ∷ cells) p e =
    ⊎_elim
    (λ (t : passes (shape_of_cell c) p ≡ true). record { cell = c; listed = first; passes = t })
    (λ (t : passes (shape_of_cells cells) p ≡ true). let i = in_some_cell cells p t in record { cell = i.cell; listed = later i.listed; passes = i.passes })
    (or_cases (passes (shape_of_cell c) p) (passes (shape_of_cells cells) p) e)

-- whether two cells share a member
abbrev pub share : PairTest
share c e = is_some (first_inside (c ++ e))

-- two regions share a member exactly where two of their cells do
pub overlap_of_cells : (f g : List (List HalfSpace)) → IsBoundedRegion f → IsBoundedRegion g → Overlaps (shape_of_cells f) (shape_of_cells g) ↔ IsTrue (some_cells share f g)
overlap_of_cells f g kf kg = (
  λ (p, m, n).
      let i = in_some_cell f p (member_passes (shape_of_cells f) p m) in
      let j = in_some_cell g p (member_passes (shape_of_cells g) p n) in
      let both : Overlaps (shape_of_cell i.cell) (shape_of_cell j.cell) = (p, is_member_of (shape_of_cell i.cell) p m.0 (member_in_cube (shape_of_cells f) p m) i.passes, is_member_of (shape_of_cell j.cell) p n.0 (member_in_cube (shape_of_cells g) p n) j.passes) in
      passes_pair share f g i.cell j.cell i.listed j.listed
      ((overlap_is_found_spec i.cell j.cell (all_of AreHalfSpaces f kf i.cell i.listed) (all_of AreHalfSpaces g kg j.cell j.listed)).0 both),
  λ e.
      let s = passing share f g e in
      overlap_larger (shape_of_cell s.one) (shape_of_cells f) (shape_of_cell s.other) (shape_of_cells g) (cell_within f s.one s.one_listed) (cell_within g s.other s.other_listed)
      ((overlap_is_found_spec s.one s.other (all_of AreHalfSpaces f kf s.one s.one_listed) (all_of AreHalfSpaces g kg s.other s.other_listed)).1 s.passes),
)

-- ---- contact

-- whether the weak systems of two cells share a point
abbrev pub touch : PairTest
touch c e = is_some (first_weak_point (c ++ e))

-- whether both have a member
abbrev both_full : PairTest
both_full c e = is_some (first_inside c) && is_some (first_inside e)

-- whether two cells have a member, and their weak systems share a point
abbrev pub touch_full : PairTest
touch_full c e = both_full c e && touch c e

-- two cells with a member in two regions, and near one point
record NearPair (f g : List (List HalfSpace)) : Type 0 where
  one : List HalfSpace
  other : List HalfSpace
  one_listed : Listed one f
  other_listed : Listed other g
  one_full : IsNonempty (shape_of_cell one)
  other_full : IsNonempty (shape_of_cell other)
  contact : IsInContact (shape_of_cell one) (shape_of_cell other)

-- regions in contact have such cells
near_pair : (f g : List (List HalfSpace)) → IsBoundedRegion f → IsBoundedRegion g → IsInContact (shape_of_cells f) (shape_of_cells g) → NearPair f g
near_pair f g kf kg (p, n, m) =
    let i = (near_region_is_weak_spec f kf p).0 n in
    let j = (near_region_is_weak_spec g kg p).0 m in
    let l = listed_at i.cell f i.place i.stands in
    let r = listed_at j.cell g j.place j.stands in
    record {
      one = i.cell;
      other = j.cell;
      one_listed = l;
      other_listed = r;
      one_full = i.nonempty;
      other_full = j.nonempty;
      contact = (
        p,
        (near_cell_is_weak_spec i.cell (all_of AreHalfSpaces f kf i.cell l) i.nonempty p).1 (i.point, i.weak),
        (near_cell_is_weak_spec j.cell (all_of AreHalfSpaces g kg j.cell r) j.nonempty p).1 (j.point, j.weak),
      );
    }

-- regions are in contact where two of their cells are
contact_of_pair : (f g : List (List HalfSpace)) (c e : List HalfSpace) → Listed c f → Listed e g → IsInContact (shape_of_cell c) (shape_of_cell e) → IsInContact (shape_of_cells f) (shape_of_cells g)
contact_of_pair f g c e l m k = contact_larger (shape_of_cell c) (shape_of_cells f) (shape_of_cell e) (shape_of_cells g) (cell_within f c l) (cell_within g e m) k

-- two regions are in contact exactly where two of their cells with a member have weak systems that share a point
pub contact_of_cells : (f g : List (List HalfSpace)) → IsBoundedRegion f → IsBoundedRegion g → IsInContact (shape_of_cells f) (shape_of_cells g) ↔ IsTrue (some_cells touch_full f g)
contact_of_cells f g kf kg = (
  λ k.
      let s = near_pair f g kf kg k in
      let a = all_of AreHalfSpaces f kf s.one s.one_listed in
      let b = all_of AreHalfSpaces g kg s.other s.other_listed in
      passes_pair touch_full f g s.one s.other s.one_listed s.other_listed
      (and_true (both_full s.one s.other) (touch s.one s.other)
      (and_true (is_some (first_inside s.one)) (is_some (first_inside s.other)) ((inside_is_found_spec s.one a).some.1 s.one_full) ((inside_is_found_spec s.other b).some.1 s.other_full))
      ((contact_is_found_spec s.one s.other a b s.one_full s.other_full).0 s.contact)),
  λ e.
      let s = passing touch_full f g e in
      let a = all_of AreHalfSpaces f kf s.one s.one_listed in
      let b = all_of AreHalfSpaces g kg s.other s.other_listed in
      let full = and_first (both_full s.one s.other) (touch s.one s.other) s.passes in
      let m = (inside_is_found_spec s.one a).some.0 (and_first (is_some (first_inside s.one)) (is_some (first_inside s.other)) full) in
      let n = (inside_is_found_spec s.other b).some.0 (and_second (is_some (first_inside s.one)) (is_some (first_inside s.other)) full) in
      contact_of_pair f g s.one s.other s.one_listed s.other_listed ((contact_is_found_spec s.one s.other a b m n).1 (and_second (both_full s.one s.other) (touch s.one s.other) s.passes)),
)

-- where each cell has a member, the weak systems alone decide
pub contact_of_full_cells : (f g : List (List HalfSpace)) → IsBoundedRegion f → IsBoundedRegion g → AllByRecursion (λ c. IsNonempty (shape_of_cell c)) f → AllByRecursion (λ c. IsNonempty (shape_of_cell c)) g
    → IsInContact (shape_of_cells f) (shape_of_cells g) ↔ IsTrue (some_cells touch f g)
contact_of_full_cells f g kf kg nf ng = (
  λ k.
      let s = near_pair f g kf kg k in
      passes_pair touch f g s.one s.other s.one_listed s.other_listed
      ((contact_is_found_spec s.one s.other (all_of AreHalfSpaces f kf s.one s.one_listed) (all_of AreHalfSpaces g kg s.other s.other_listed) s.one_full s.other_full).0 s.contact),
  λ e.
      let s = passing touch f g e in
      contact_of_pair f g s.one s.other s.one_listed s.other_listed
      ((contact_is_found_spec s.one s.other (all_of AreHalfSpaces f kf s.one s.one_listed) (all_of AreHalfSpaces g kg s.other s.other_listed)
      (all_of (λ c. IsNonempty (shape_of_cell c)) f nf s.one s.one_listed) (all_of (λ c. IsNonempty (shape_of_cell c)) g ng s.other s.other_listed)).1 s.passes),
)

-- ---- lists of parts

-- the cells of a list of parts
abbrev pub cells_of : List Part → List (List HalfSpace)
cells_of [] = []
cells_of (p ∷ ps) = p.cell ∷ cells_of ps

-- they make up the same shape
pub parts_as_cells : (ps : List Part) → shape_of_parts ps ≡ shape_of_cells (cells_of ps)
parts_as_cells [] = refl
parts_as_cells (p ∷ ps) = ap (λ s. Shape.union (shape_of_cell p.cell) s) (parts_as_cells ps)

-- what is true of the cell of each part is true of each cell
pub all_cells : (P : List HalfSpace → Type 0) (ps : List Part) → AllByRecursion (λ p. P p.cell) ps → AllByRecursion P (cells_of ps)
all_cells P [] k = tt
all_cells P (p ∷ ps) k = (k.0, all_cells P ps k.1)

-- a test of the cells of the parts
any_as_cells : (test : List HalfSpace → Bool) (ps : List Part) → list_any (λ p. test p.cell) ps ≡ list_any test (cells_of ps)
any_as_cells test [] = refl
any_as_cells test (p ∷ ps) = ap (λ b. test p.cell || b) (any_as_cells test ps)

-- the same of pairs
pairs_as_cells : (test : PairTest) (ps qs : List Part) → some_pair test ps qs ≡ some_cells test (cells_of ps) (cells_of qs)
pairs_as_cells test [] qs = refl
pairs_as_cells test (p ∷ ps) qs = λ i. any_as_cells (λ e. test p.cell e) qs i || pairs_as_cells test ps qs i

-- what is said of cells and pairs of them, said of parts
said_of_parts : (ps qs : List Part) (test : PairTest) (P : Shape → Shape → Type 0) → P (shape_of_cells (cells_of ps)) (shape_of_cells (cells_of qs)) ↔ IsTrue (some_cells test (cells_of ps) (cells_of qs))
    → P (shape_of_parts ps) (shape_of_parts qs) ↔ IsTrue (some_pair test ps qs)
said_of_parts ps qs test P said = (
  λ k. pairs_as_cells test ps qs ∙ said.0 (subst (λ s. P (shape_of_cells (cells_of ps)) s) (parts_as_cells qs) (subst (λ s. P s (shape_of_parts qs)) (parts_as_cells ps) k)),
  λ e. subst (λ s. P s (shape_of_parts qs)) (sym (parts_as_cells ps)) (subst (λ s. P (shape_of_cells (cells_of ps)) s) (sym (parts_as_cells qs)) (said.1 (sym (pairs_as_cells test ps qs) ∙ e))),
)

-- the law
pub overlap_of_parts_is_found_spec : OverlapOfPartsIsFound
overlap_of_parts_is_found_spec ps qs kp kq =
    said_of_parts ps qs share Overlaps (overlap_of_cells (cells_of ps) (cells_of qs) (all_cells AreHalfSpaces ps kp) (all_cells AreHalfSpaces qs kq))

-- the law
pub contact_of_parts_is_found_spec : ContactOfPartsIsFound
contact_of_parts_is_found_spec ps qs kp kq np nq =
    said_of_parts ps qs touch IsInContact
    (contact_of_full_cells (cells_of ps) (cells_of qs) (all_cells AreHalfSpaces ps kp) (all_cells AreHalfSpaces qs kq)
    (all_cells (λ c. IsNonempty (shape_of_cell c)) ps np) (all_cells (λ c. IsNonempty (shape_of_cell c)) qs nq))
