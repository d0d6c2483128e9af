-- A half-space that is negative on all of a plane leaves no vertex on it.
use Rattle.std.proofs.Common.{◌≡◌, ℤ, pos, neg_ℤ, ◌+ℤ◌, ◌-ℤ◌, ◌*ℤ◌, ◌<ℤ◌, Bool, true, false, List, [], ◌∷◌, ⊎_elim, refl, ap, ◌∙◌, arith}
use Rattle.std.specs.Prelude.{Option, Some, None, int_lt}
use Rattle.std.specs.List.{list_any}
use Rattle.std.proofs.lemmas.Bool.{or_cases}
use Rattle.std.proofs.lemmas.Bool.Decides.{Decides-int_eq}
use Rattle.std.proofs.lemmas.Int.{ints}
use Rattle.rp_algebra.specs.Integer.{int_eq}
use Rattle.rp_algebra.proofs.IntLaws.{linear, signs}
use Rattle.rp_algebra.proofs.Listed.{Listed, first, later}
use Rattle.rp_algebra.proofs.Numbers.{not_both}
use Rattle.rp_algebra.proofs.Reify.{by_ring_at, reify}
use Rattle.rp_algebra.proofs.Tests.{and_first, and_second, false_not_true}
use Rattle.rp_geometry.specs.Geometry.{RationalPoint, HalfSpace, IsPoint, complement, side_value}
use Rattle.rp_geometry.specs.searches.Vertex.{meeting_point, vertex_at}
use Rattle.rp_convex.proofs.Vertex.{weak_is}
use Rattle.rp_convex.proofs.Corners.{meeting_is, passed_choice}
use Rattle.rp_vertex.specs.Parallel.{have_same_normal, is_further, cuts_off}
use Rattle.rp_vertex.proofs.Span.{side_complement_of}

-- an item of a list that passes a test
pub record Passing {A : Type 0} (test : A → Bool) (xs : List A) : Type 0 where
  pub item : A
  pub listed : Listed item xs
  pub passes : test item ≡ true

-- where some item passes there is one
pub some_passes : {A : Type 0} (test : A → Bool) (xs : List A) → list_any test xs ≡ true → Passing test xs
some_passes test [] e = absurd (false_not_true false e refl)
some_passes test (x ∷ xs) e =
    ⊎_elim
    (λ (k : test x ≡ true). record { item = x; listed = first; passes = k })
    (λ (k : list_any test xs ≡ true). let p = some_passes test xs k in record { item = p.item; listed = later p.listed; passes = p.passes })
    (or_cases (test x) (list_any test xs) e)

-- the value with a lesser offset, over plain numbers
lesser_of : (a b c d e x y z w : ℤ) → a *ℤ x +ℤ b *ℤ y +ℤ c *ℤ z +ℤ e *ℤ w ≡ (a *ℤ x +ℤ b *ℤ y +ℤ c *ℤ z +ℤ d *ℤ w) -ℤ (d -ℤ e) *ℤ w
lesser_of a b c d e x y z w = by_ring_at (a ∷ b ∷ c ∷ d ∷ e ∷ x ∷ y ∷ z ∷ w ∷ []) (search reify depth 40 fits 100000) tt

-- a number that a product of two numbers above 0 is taken from, where it is 0
below : (v n m k : ℤ) → v ≡ n -ℤ m *ℤ k → n ≡ pos 0 → pos 0 <ℤ m → pos 0 <ℤ k → v <ℤ pos 0
below v n m k e z hm hk =
    let p : pos 0 <ℤ (m *ℤ k) = search signs in
    omega (arith, linear, e, z, p)

-- a half-space that lies further inside is negative on the plane
further_negative : (f g : HalfSpace) (p : RationalPoint) → is_further f g ≡ true → IsPoint p → side_value f p ≡ pos 0 → side_value g p <ℤ pos 0
further_negative f g p e w z =
    let same = and_first (have_same_normal f g) (int_lt g.d f.d) e in
    let bc = and_second (int_eq g.a f.a) _ same in
    let ea = (Decides-int_eq g.a f.a).0 (and_first (int_eq g.a f.a) _ same) in
    let eb = (Decides-int_eq g.b f.b).0 (and_first (int_eq g.b f.b) (int_eq g.c f.c) bc) in
    let ec = (Decides-int_eq g.c f.c).0 (and_second (int_eq g.b f.b) (int_eq g.c f.c) bc) in
    let less = apart g.d f.d (and_second (have_same_normal f g) (int_lt g.d f.d) e) in
    below (side_value g p) (side_value f p) (f.d -ℤ g.d) p.w
    ((λ i. ea i *ℤ p.x +ℤ eb i *ℤ p.y +ℤ ec i *ℤ p.z +ℤ g.d *ℤ p.w) ∙ lesser_of f.a f.b f.c f.d g.d p.x p.y p.z p.w) z less w
  where
    apart : (v w : ℤ) → int_lt v w ≡ true → pos 0 <ℤ (w -ℤ v)
    apart v w e = grind (arith, ints)

-- so is one that lies further inside than the complement
cut_negative : (f g : HalfSpace) (p : RationalPoint) → cuts_off f g ≡ true → IsPoint p → side_value f p ≡ pos 0 → side_value g p <ℤ pos 0
cut_negative f g p e w z =
    ⊎_elim
    (λ (k : is_further f g ≡ true). further_negative f g p k w z)
    (λ (k : is_further (complement f) g ≡ true). further_negative (complement f) g p k w (side_complement_of f.a f.b f.c f.d p.x p.y p.z p.w ∙ ap neg_ℤ z))
    (or_cases (is_further f g) (is_further (complement f) g) e)

-- so it leaves no vertex there
pub no_vertex_on : (test : RationalPoint → Bool) (system : List HalfSpace) (f g h k : HalfSpace) → Listed k system → cuts_off f k ≡ true → vertex_at test system f g h ≡ None
no_vertex_on test system f g h k l c = by_answer (vertex_at test system f g h) refl
  where
    by_answer : (o : Option RationalPoint) → vertex_at test system f g h ≡ o → vertex_at test system f g h ≡ None
    by_answer None e = e
    by_answer (Some v) e =
        let p = passed_choice test system (meeting_point f g h) v e in
        let m = meeting_is f g h v p.is in
        let w = weak_is system v m.point p.weak in
        absurd (not_both (side_value k v) (cut_negative f k v c m.point m.tight.first) (w.sides k l))
