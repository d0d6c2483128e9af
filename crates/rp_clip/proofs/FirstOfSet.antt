-- The first three places of the planes through a vertex are its first basis.
use Rattle.std.proofs.Common.{◌≡◌, ℕ, zero, suc, ◌+◌, ◌<◌, ◌≤◌, pos, inl, inr, ⊎_elim, List, [], ◌∷◌, length, refl, sym, ap, ◌∙◌, subst, arith}
use Rattle.std.specs.Prelude.{Option, Some, None, IfSome, is_some}
use Rattle.std.specs.Int.{bit_at}
use Rattle.std.proofs.lemmas.Bool.{cases_lt, cases_order}
use Rattle.std.proofs.lemmas.Nat.Bits.{bit_at-lt}
use Rattle.rp_algebra.proofs.Numbers.{zero_or_not}
use Rattle.rp_algebra.proofs.Reify.{by_ring_at, reify}
use Rattle.rp_algebra.proofs.Options.{some_not_none, same_some, known_some}
use Rattle.rp_geometry.specs.Geometry.{RationalPoint, HalfSpace, side_value, with_cube}
use Rattle.rp_geometry.specs.searches.Vertex.{meeting_weight, meeting_point}
use Rattle.rp_convex.proofs.Meeting.{meets}
use Rattle.rp_convex.proofs.OnlyOne.{no_meeting}
use Rattle.rp_convex.specs.Bases.{Places, IsBefore, PassesAt, IsBasis, IsGreedyBasis}
use Rattle.rp_convex.proofs.Bases.{vertex_has_greedy_basis_spec}
use Rattle.rp_convex.proofs.Edges.{not_parallel}
use Rattle.rp_clip.specs.Firsts.{IsBasisBefore}
use Rattle.rp_space.specs.Places.{IsIn, IsLowestFrom}
use Rattle.rp_clip.specs.Masks.{half_at, mask_of, HasHalfSpaces}
use Rattle.rp_clip.specs.Meetings.{ArePlaces, AreBefore, IsFirstOfSet, IsVertexSet, IsThree}
use Rattle.rp_clip.specs.declared.meet.Basis.{Basis}
use Rattle.rp_clip.proofs.HalfAt.{place_below}
use Rattle.rp_clip.proofs.Masks.{IsThroughAt, in_mask, mask_in}
use Rattle.rp_clip.proofs.Meetings.{one_lowest}
use Rattle.rp_clip.proofs.Ordered.{place_of_list, place_rises, place_not_below, at_list, list_place}
use Rattle.rp_clip.proofs.Walks.{one_not_zero}

-- ---- there is one only

-- of two triples of places that are both the first, neither has the others before
not_two : (cell : List HalfSpace) (set : ℕ) (b c : Basis) → IsFirstOfSet cell set b → IsFirstOfSet cell set c → AreBefore b.second b.third c.second c.third → ⊥
not_two cell set b c k l before =
    let low : b.first ≡ c.first = one_lowest set b.first c.first k.lowest l.lowest in
    let one : k.one ≡ l.one = same_some k.one l.one (sym k.first ∙ ap (half_at cell) low ∙ l.first) in
    let none = l.earlier b.second b.third k.two k.three (subst (λ (n : ℕ). ArePlaces cell set (n + 1) b.second b.third k.two k.three) low k.others) before in
    let some = known_some (meeting_point k.two k.three k.one) k.meets in
    some_not_none some.value (sym some.is ∙ ap (meeting_point k.two k.three) one ∙ none)

-- two bases with the same places are the same
same_basis : (b c : Basis) → b.first ≡ c.first → b.second ≡ c.second → b.third ≡ c.third → b ≡ c
same_basis b c e f g = λ i. record { first = e i; second = f i; third = g i }

-- a set has one first triple
pub one_first : (cell : List HalfSpace) (set : ℕ) (b c : Basis) → IsFirstOfSet cell set b → IsFirstOfSet cell set c → b ≡ c
one_first cell set b c k l =
    let low : b.first ≡ c.first = one_lowest set b.first c.first k.lowest l.lowest in
    ⊎_elim
    (λ (e : b.second ≡ c.second). ⊎_elim
    (λ (f : b.third ≡ c.third). same_basis b c low e f)
    (⊎_elim (λ (m : b.third < c.third). absurd (not_two cell set b c k l (inr (e, m)))) (λ (m : c.third < b.third). absurd (not_two cell set c b l k (inr (sym e, m)))))
    (cases_order b.third c.third))
    (⊎_elim (λ (m : b.second < c.second). absurd (not_two cell set b c k l (inl m))) (λ (m : c.second < b.second). absurd (not_two cell set c b l k (inl m))))
    (cases_order b.second c.second)

-- ---- it is the basis that is found one plane after the other

-- the places of a set for places of the list
abbrev pub set_places : ℕ → Places → Basis
set_places n p = record { first = place_of_list n p.first; second = place_of_list n p.second; third = place_of_list n p.third }

-- the determinant with the planes moved round
cycled : (f g h : HalfSpace) → meeting_weight f g h ≡ meeting_weight g h f
cycled f g h = by_ring_at (f.a ∷ f.b ∷ f.c ∷ g.a ∷ g.b ∷ g.c ∷ h.a ∷ h.b ∷ h.c ∷ []) (search reify depth 40 fits 100000) tt

-- the three planes in the order in which the code has them
turned_weight : (f g h : HalfSpace) → (meeting_weight f g h ≡ pos 0 → ⊥) → meeting_weight g h f ≡ pos 0 → ⊥
turned_weight f g h n e = n (cycled f g h ∙ e)

-- a bit that is not 1 is 0
pub zero_unless : (b : ℕ) → b < 2 → (b ≡ 1 → ⊥) → b ≡ 0
zero_unless zero l n = refl
zero_unless (suc zero) l n = absurd (n refl)
zero_unless (suc (suc b)) l n = absurd (omega (arith, l))

-- none unless it can be some
none_unless : (f g h : HalfSpace) → ((meeting_weight f g h ≡ pos 0 → ⊥) → ⊥) → meeting_point f g h ≡ None
none_unless f g h n = ⊎_elim (λ (e : meeting_weight f g h ≡ pos 0). no_meeting f g h e) (λ (m : meeting_weight f g h ≡ pos 0 → ⊥). absurd (n m)) (zero_or_not (meeting_weight f g h))

-- the greedy basis of a point of the list is the first triple of its set
pub greedy_is_first : (cell : List HalfSpace) (v : RationalPoint) (p : Places) → length cell ≤ 64 → IsGreedyBasis (with_cube cell) v p → IsFirstOfSet cell (mask_of cell v) (set_places (length cell) p)
greedy_is_first cell v p few k = record {
  lowest = record {
    from_on = omega arith;
    below = (let h = place_below cell (at p.first) b.one (here p.first b.one b.first) in omega (arith, h));
    is_in = mask_in cell v (at p.first) b.one few (here p.first b.one b.first) b.first.on;
    none = λ i a l. zero_unless (bit_at (mask_of cell v) i) (bit_at-lt (mask_of cell v) i) (λ e. too_low i l (in_mask cell v i few e));
  };
  one = b.one;
  first = here p.first b.one b.first;
  two = b.two;
  three = b.three;
  others = record {
    from_on = (let h = place_rises (length cell) p.first p.second few b.rises in omega (arith, h));
    rises = place_rises (length cell) p.second p.third few b.rises_on;
    first_in = mask_in cell v (at p.second) b.two few (here p.second b.two b.second) b.second.on;
    second_in = mask_in cell v (at p.third) b.three few (here p.third b.three b.third) b.third.on;
    first = here p.second b.two b.second;
    second = here p.third b.three b.third;
  };
  meets = ap is_some (meets b.two b.three b.one (turned_weight b.one b.two b.three b.independent)).is;
  earlier = λ i j f g a before. none_unless f g b.one (λ n. too_early i j f g a before (λ e. n (sym (cycled b.one f g) ∙ e)));
}
  where
    b : IsBasis (with_cube cell) v p
    b = k.basis

    at : ℕ → ℕ
    at q = place_of_list (length cell) q

    here : (q : ℕ) (h : HalfSpace) → PassesAt (with_cube cell) v q h → half_at cell (place_of_list (length cell) q) ≡ Some h
    here q h a = at_list cell q h few a.stands

    too_low : (i : ℕ) → i < place_of_list (length cell) p.first → IsThroughAt cell v i → ⊥
    too_low i l t =
        let r = list_place cell i t.half t.at in
        let m = place_not_below (length cell) p.first r.place few (k.lowest r.place t.half (record { stands = r.stands; on = t.on })) in
        let e = r.back in
        omega (arith, l, m, e)

    through : (i : ℕ) (f : HalfSpace) → IsIn (mask_of cell v) i → half_at cell i ≡ Some f → side_value f v ≡ pos 0
    through i f e s = let t = in_mask cell v i few e in subst (λ (g : HalfSpace). side_value g v ≡ pos 0) (same_some t.half f (sym t.at ∙ s)) t.on

    passes : (i : ℕ) (f : HalfSpace) → IsIn (mask_of cell v) i → (s : half_at cell i ≡ Some f) → PassesAt (with_cube cell) v (list_place cell i f s).place f
    passes i f e s = record { stands = (list_place cell i f s).stands; on = through i f e s }

    above : (q i : ℕ) (f : HalfSpace) (s : half_at cell i ≡ Some f) → place_of_list (length cell) q < i → q < (list_place cell i f s).place
    above q i f s l =
        let r = list_place cell i f s in
        let e = r.back in
        ⊎_elim
        (λ (m : q < r.place). m)
        (λ (m : r.place ≤ q). let n = place_not_below (length cell) r.place q few m in absurd (omega (arith, n, l, e)))
        (cases_lt q r.place)

    too_early : (i j : ℕ) (f g : HalfSpace) → ArePlaces cell (mask_of cell v) (place_of_list (length cell) p.first + 1) i j f g
        → AreBefore i j (place_of_list (length cell) p.second) (place_of_list (length cell) p.third) → (meeting_weight b.one f g ≡ pos 0 → ⊥) → ⊥
    too_early i j f g a before n =
        let r = list_place cell i f a.first in
        let s = list_place cell j g a.second in
        let l = a.from_on in
        let up = above p.first i f a.first (omega (arith, l)) in
        let m = place_not_below (length cell) p.second r.place few (k.next r.place f up (passes i f a.first_in a.first) (not_parallel b.one f g n)) in
        let e = r.back in
        by_before before m e
      where
        by_before : AreBefore i j (place_of_list (length cell) p.second) (place_of_list (length cell) p.third)
            → place_of_list (length cell) p.second ≤ place_of_list (length cell) (list_place cell i f a.first).place → place_of_list (length cell) (list_place cell i f a.first).place ≡ i → ⊥
        by_before (inl c) m e = omega (arith, c, m, e)
        by_before (inr (c, d)) m e =
            let two : f ≡ b.two = same_some f b.two (sym a.first ∙ ap (half_at cell) c ∙ here p.second b.two b.second) in
            let s = list_place cell j g a.second in
            let rise = a.rises in
            let up = above p.second j g a.second (omega (arith, c, rise)) in
            let t = place_not_below (length cell) p.third s.place few (k.last s.place g up (passes j g a.second_in a.second) (subst (λ (h : HalfSpace). meeting_weight b.one h g ≡ pos 0 → ⊥) two n)) in
            let back = s.back in
            omega (arith, t, d, back)

-- a triple of the list that is before another has places of the set that are
pub before_in_set : (n : ℕ) (p q : Places) → n ≤ 64 → IsBefore p q → IsBasisBefore (set_places n p) (set_places n q)
before_in_set n p q few (inl l) = inl (place_rises n p.first q.first few l)
before_in_set n p q few (inr (e, inl l)) = inr (ap (place_of_list n) e, inl (place_rises n p.second q.second few l))
before_in_set n p q few (inr (e, inr (f, l))) = inr (ap (place_of_list n) e, inr (ap (place_of_list n) f, place_rises n p.third q.third few l))

-- ---- the planes through a vertex

-- each has a half-space
pub vertex_half_spaces : (cell : List HalfSpace) (set : ℕ) → IsVertexSet cell set → HasHalfSpaces cell set
vertex_half_spaces cell set k i e = let t = in_mask cell k.vertex i k.few (subst (λ (n : ℕ). IsIn n i) k.exact e) in (t.half, t.at)

-- they have first three
vertex_first : (cell : List HalfSpace) (set : ℕ) → IsVertexSet cell set → (b : Basis) × IsFirstOfSet cell set b
vertex_first cell set k =
    let g = vertex_has_greedy_basis_spec cell k.vertex k.bounds k.is_vertex in
    (set_places (length cell) g.0, subst (λ (n : ℕ). IsFirstOfSet cell n (set_places (length cell) g.0)) (sym k.exact) (greedy_is_first cell k.vertex g.0 k.few g.1))

-- the lowest place from one on is not above any other from there on
not_above : (set from n i : ℕ) → IsLowestFrom set from n → from ≤ i → IsIn set i → n ≤ i
not_above set from n i k l e = ⊎_elim (λ (m : i < n). absurd (one_not_zero (bit_at set i) e (k.none i l m))) (λ (m : n ≤ i). m) (cases_lt i n)

-- where a set has three places, these are the first three
three_first : (cell : List HalfSpace) (set : ℕ) (b c : Basis) → IsThree set b → IsFirstOfSet cell set c → c ≡ b
three_first cell set b c t k = same_basis c b low mid high
  where
    low : c.first ≡ b.first
    low = one_lowest set c.first b.first k.lowest t.first

    last : c.third ≤ b.third
    last = ⊎_elim (λ (m : b.third < c.third). absurd (one_not_zero (bit_at set c.third) k.others.second_in (t.none c.third (omega (arith, m))))) (λ (m : c.third ≤ b.third). m) (cases_lt b.third c.third)

    mid : c.second ≡ b.second
    mid =
        let on = k.others.from_on in
        let rise = k.others.rises in
        let up = not_above set (b.first + 1) b.second c.second t.second (omega (arith, on, low)) k.others.first_in in
        ⊎_elim
        (λ (m : b.second < c.second). let far = not_above set (b.second + 1) b.third c.second t.third (omega (arith, m)) k.others.first_in in absurd (omega (arith, far, rise, last)))
        (λ (m : c.second ≤ b.second). omega (arith, m, up))
        (cases_lt b.second c.second)

    high : c.third ≡ b.third
    high =
        let rise = k.others.rises in
        let far = not_above set (b.second + 1) b.third c.third t.third (omega (arith, rise, mid)) k.others.second_in in
        omega (arith, far, last)

-- so they are of a vertex
three_is_first : (cell : List HalfSpace) (set : ℕ) (b : Basis) → IsVertexSet cell set → IsThree set b → IsFirstOfSet cell set b
three_is_first cell set b k t = let f = vertex_first cell set k in subst (λ (c : Basis). IsFirstOfSet cell set c) (three_first cell set b f.0 t f.1) f.1

-- the same of an answer
pub three_found : (cell : List HalfSpace) (set : ℕ) (o : Option Basis) → IsVertexSet cell set → IfSome o (IsThree set) → IfSome o (λ b. IsFirstOfSet cell set b)
three_found cell set None k t = tt
three_found cell set (Some b) k t = three_is_first cell set b k t
