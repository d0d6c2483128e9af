-- Whether two boxes are one.
use Rattle.std.proofs.Common.{◌≡◌, ℤ, Bool, true, false, ◌&&◌, List, [], ◌∷◌, refl, ap₂}
use Rattle.std.specs.Ordering.{int_eq}
use Rattle.rp_space.specs.declared.bounds.IntBox.{IntBox}
use Rattle.rp_boxindex.proofs.Counts.{false_not_true}
use Rattle.rp_boxindex.proofs.Order.{and_parts, int_eq_is, int_eq_same}

-- whether two lists are one
pub same_list : List ℤ → List ℤ → Bool
same_list [] [] = true
same_list [] (y ∷ ys) = false
same_list (x ∷ xs) [] = false
same_list (x ∷ xs) (y ∷ ys) = int_eq x y && same_list xs ys

same_list_is : (xs ys : List ℤ) → same_list xs ys ≡ true → xs ≡ ys
unfolding same_list
same_list_is [] [] h = refl
same_list_is [] (y ∷ ys) h = absurd (false_not_true h)
same_list_is (x ∷ xs) [] h = absurd (false_not_true h)
same_list_is (x ∷ xs) (y ∷ ys) h =
    let parts = and_parts (int_eq x y) (same_list xs ys) h in
    ap₂ (λ (z : ℤ) (zs : List ℤ). z ∷ zs) (int_eq_is x y parts.0) (same_list_is xs ys parts.1)

same_list_itself : (xs : List ℤ) → same_list xs xs ≡ true
unfolding same_list
same_list_itself [] = refl
same_list_itself (x ∷ xs) = rw (int_eq_same x) (same_list_itself xs)

-- whether two boxes are one
abbrev pub same_box : IntBox → IntBox → Bool
same_box v w = same_list v.lo w.lo && same_list v.hi w.hi

pub same_box_is : (v w : IntBox) → same_box v w ≡ true → v ≡ w
same_box_is v w h =
    let parts = and_parts (same_list v.lo w.lo) (same_list v.hi w.hi) h in
    ap₂ (λ (lo : List ℤ) (hi : List ℤ). let b : IntBox = record { lo = lo; hi = hi } in b) (same_list_is v.lo w.lo parts.0) (same_list_is v.hi w.hi parts.1)

pub same_box_itself : (v : IntBox) → same_box v v ≡ true
same_box_itself v = rw (same_list_itself v.lo) (same_list_itself v.hi)
