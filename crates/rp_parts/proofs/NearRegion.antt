-- Near a list of cells are the points of the weak systems of those that have a member.
-- That a point is near a union does not say by itself near which of the two it is. So it is decided of each cell whether it has a member and the point is in its weak system,
-- or its members are far from the point; and where the members of all cells are far, those of the region are.
use Rattle.std.proofs.Common.{◌≡◌, ℕ, suc, ◌+◌, ◌≤◌, ℤ, pos, nat_abs, ◌-ℤ◌, ◌*ℤ◌, ◌≤ℤ◌, ◌<ℤ◌, ◌⊎◌, inl, inr, ⊎_elim, Bool, true, false, ◌&&◌, ◌||◌, List, [], ◌∷◌, refl, arith}
use Rattle.std.specs.Prelude.{IsTrue, is_some}
use Rattle.std.specs.List.{list_all}
use Rattle.std.proofs.Math.Nat.{mul-le-mul_right}
use Rattle.std.proofs.lemmas.Int.{ints}
use Rattle.rp_algebra.specs.Integer.{is_nonnegative}
use Rattle.rp_algebra.proofs.Tests.{and_first, and_second, and_true}
use Rattle.rp_algebra.proofs.Listed.{Listed, first, later, all_of, listed_at}
use Rattle.rp_geometry.specs.Geometry.{RationalPoint, HalfSpace, IsPoint, side_value, with_cube, is_in_weak_system, is_cube_point}
use Rattle.rp_geometry.specs.sets.Shape.{Shape, IsMember, passes, shape_of_cell, shape_of_cells}
use Rattle.rp_geometry.specs.sets.Sets.{IsNonempty, IsWithin}
use Rattle.rp_geometry.specs.sets.Contact.{IsCloseTo, IsBoundedRegion}
use Rattle.rp_geometry.specs.searches.Vertex.{first_inside}
use Rattle.rp_geometry.specs.laws.CellLaws.{AreHalfSpaces}
use Rattle.rp_geometry.specs.laws.PartLaws.{NearRegionIsWeak, IsWeakInSome}
use Rattle.rp_convex.proofs.InsideFound.{inside_is_found_spec}
use Rattle.rp_parts.proofs.Near.{IsFar, far_below, near_not_far, near_cell_is_weak_spec}
use Rattle.rp_geometry.proofs.Members.{near_larger, union_cases}

-- ---- near, or far

-- what is close is as close by a smaller number
closer : (m n : ℕ) (t w : ℤ) → m ≤ n → (pos n *ℤ pos (nat_abs t)) ≤ℤ w → (pos m *ℤ pos (nat_abs t)) ≤ℤ w
closer m n t w h k = omega (arith, ints, k, mul-le-mul_right (nat_abs t) h)

-- the same of points
closer_to : (m n : ℕ) (p q : RationalPoint) → m ≤ n → IsCloseTo n p q → IsCloseTo m p q
closer_to m n p q h c = record {
  x = closer m n (p.x *ℤ q.w -ℤ q.x *ℤ p.w) (p.w *ℤ q.w) h c.x;
  y = closer m n (p.y *ℤ q.w -ℤ q.y *ℤ p.w) (p.w *ℤ q.w) h c.y;
  z = closer m n (p.z *ℤ q.w -ℤ q.z *ℤ p.w) (p.w *ℤ q.w) h c.z;
}

-- an item of a list that fails a test
record SomeFails {A : Type 0} (test : A → Bool) (xs : List A) : Type 0 where
  item : A
  listed : Listed item xs
  fails : test item ≡ false

-- where not all items pass, one fails
some_fails : {A : Type 0} (test : A → Bool) (xs : List A) → list_all test xs ≡ false → SomeFails test xs
some_fails test [] e = absurd (cc)
some_fails {A} test (x ∷ xs) e = by_test (test x) refl (λ k. some_fails test xs k) e
  where
    by_test : (b : Bool) → test x ≡ b → (list_all test xs ≡ false → SomeFails test xs) → (b && list_all test xs) ≡ false → SomeFails test (x ∷ xs)
    by_test true t rest k = let s = rest k in record { item = s.item; listed = later s.listed; fails = s.fails }
    by_test false t rest k = record { item = x; listed = first; fails = t }

-- a number that is not at least 0 is below 0
not_nonnegative_is : (v : ℤ) → is_nonnegative v ≡ false → v <ℤ pos 0
not_nonnegative_is v e = grind (arith, ints)

-- where a cell has no member, none is close
none_close : (cell : List HalfSpace) (p : RationalPoint) → (IsNonempty (shape_of_cell cell) → ⊥) → IsFar (shape_of_cell cell) p
none_close cell p n = record { number = 1; positive = omega arith; far = λ q m c. n (q, m) }

-- the cell has a member and the point is in its weak system, or the members are far from the point
weak_or_far : (cell : List HalfSpace) (p : RationalPoint) → AreHalfSpaces cell → IsPoint p → (IsNonempty (shape_of_cell cell) × IsTrue (is_in_weak_system cell p)) ⊎ IsFar (shape_of_cell cell) p
weak_or_far cell p k w = by_tests (is_some (first_inside cell)) refl (is_in_weak_system cell p) refl
  where
    by_tests : (b : Bool) → is_some (first_inside cell) ≡ b → (t : Bool) → is_in_weak_system cell p ≡ t → (IsNonempty (shape_of_cell cell) × IsTrue (is_in_weak_system cell p)) ⊎ IsFar (shape_of_cell cell) p
    by_tests false e t f = inr (none_close cell p (λ n. let (q, m) = n in (inside_is_found_spec cell k).none.0 e q m))
    by_tests true e true f = inl ((inside_is_found_spec cell k).some.0 e, f)
    by_tests true e false f = inr (let s = some_fails (λ h. is_nonnegative (side_value h p)) (with_cube cell) f in far_below cell p k w s.item s.listed (not_nonnegative_is (side_value s.item p) s.fails))

-- ---- unions

-- the union of far shapes is far
pub union_far : (s t : Shape) (p : RationalPoint) → IsFar s p → IsFar t p → IsFar (Shape.union s t) p
union_far s t p f g = record { number = f.number + g.number; positive = more f.number g.number f.positive; far = far }
  where
    more : (m n : ℕ) → 1 ≤ m → 1 ≤ m + n
    more m n h = omega arith

    left : (m n : ℕ) → m ≤ m + n
    left m n = omega arith

    right : (m n : ℕ) → n ≤ m + n
    right m n = omega arith

    far : (q : RationalPoint) → IsMember (Shape.union s t) q → IsCloseTo (f.number + g.number) p q → ⊥
    far q m c =
        ⊎_elim
        (λ k. f.far q k (closer_to f.number (f.number + g.number) p q (left f.number g.number) c))
        (λ k. g.far q k (closer_to g.number (f.number + g.number) p q (right f.number g.number) c))
        (union_cases s t q m)

-- no member of nothing is close
nothing_far : (p : RationalPoint) → IsFar Shape.nothing p
nothing_far p = record { number = 1; positive = omega arith; far = λ q m c. no_member (is_cube_point q) m.1 }
  where
    no_member : (b : Bool) → (b && false) ≡ true → ⊥
    no_member true e = cc
    no_member false e = cc

-- some cell of the list has a member and the point in its weak system, or all members are far from the point
pub region_weak_or_far : (cells : List (List HalfSpace)) (p : RationalPoint) → IsBoundedRegion cells → IsPoint p → IsWeakInSome cells p ⊎ IsFar (shape_of_cells cells) p
region_weak_or_far [] p k w = inr (nothing_far p)
region_weak_or_far (c ∷ cells) p k w =
    ⊎_elim
    (λ a. inl (record { place = 0; cell = c; stands = refl; nonempty = a.0; point = w; weak = a.1 }))
    (λ f. ⊎_elim
    (λ g. inl (record { place = suc g.place; cell = g.cell; stands = g.stands; nonempty = g.nonempty; point = w; weak = g.weak }))
    (λ g. inr (union_far (shape_of_cell c) (shape_of_cells cells) p f g))
    (region_weak_or_far cells p k.1 w))
    (weak_or_far c p k.0 w)

-- ---- the cells of a list

-- a point that passes the test of a cell passes that of the list
pub listed_passes : (cells : List (List HalfSpace)) (c : List HalfSpace) (q : RationalPoint) → Listed c cells → passes (shape_of_cell c) q ≡ true → passes (shape_of_cells cells) q ≡ true
listed_passes [] c q l e = elim l [ ]
listed_passes (b ∷ cells) c q first e = rw e
listed_passes (b ∷ cells) c q (later l) e = let k = listed_passes cells c q l e in rw k (or_true (passes (shape_of_cell b) q))
  where
    or_true : (b : Bool) → (b || true) ≡ true
    or_true true = refl
    or_true false = refl

-- a member of a cell is one of the list of cells
pub cell_within : (cells : List (List HalfSpace)) (c : List HalfSpace) → Listed c cells → IsWithin (shape_of_cell c) (shape_of_cells cells)
cell_within cells c l q (w, e) = (
  w,
  and_true (is_cube_point q) (passes (shape_of_cells cells) q) (and_first (is_cube_point q) (passes (shape_of_cell c) q) e)
      (listed_passes cells c q l (and_second (is_cube_point q) (passes (shape_of_cell c) q) e)),
)

-- the law
pub near_region_is_weak_spec : NearRegionIsWeak
near_region_is_weak_spec cells k p = (
  λ n. ⊎_elim (λ w. w) (λ f. absurd (near_not_far (shape_of_cells cells) p n f)) (region_weak_or_far cells p k n.point),
  λ w. let l = listed_at w.cell cells w.place w.stands in
      near_larger (shape_of_cell w.cell) (shape_of_cells cells) (cell_within cells w.cell l) p
      ((near_cell_is_weak_spec w.cell (all_of AreHalfSpaces cells k w.cell l) w.nonempty p).1 (w.point, w.weak)),
)
