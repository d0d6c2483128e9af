-- The trapezoids that have a point: an odd number of them where the point passes the test of the prism.
use Rattle.std.proofs.Common.{◌≡◌, ℤ, pos, ◌+ℤ◌, ◌-ℤ◌, ◌*ℤ◌, ◌<ℤ◌, ◌≤ℤ◌, Bool, true, false, ◌&&◌, ◌||◌, List, [], ◌∷◌, refl, sym, ap, ◌∙◌, arith}
use Rattle.std.specs.Prelude.{int_le, int_lt}
use Rattle.std.specs.List.{AllByRecursion}
use Rattle.std.proofs.lemmas.Int.{ints}
use Rattle.std.proofs.lemmas.Bool.Decides.{Decides-int_eq}
use Rattle.rp_algebra.specs.Integer.{is_zero}
use Rattle.rp_algebra.proofs.Reify.{lt_by_ring, reify}
use Rattle.rp_algebra.proofs.IntLaws.{mul_nonneg_ℤ, mul_pos_ℤ, add_nonneg_ℤ, add_pos_right_ℤ}
use Rattle.rp_algebra.proofs.Tests.{and_first, and_second, at_most_is, is_positive_true, false_not_true}
use Rattle.rp_algebra.proofs.Listed.{all_map}
use Rattle.rp_geometry.specs.Geometry.{RationalPoint, IsPoint, side_value, owns_boundary, holds, all_hold}
use Rattle.rp_geometry.specs.sets.Prism.{Corner, Edge, edges_of, left_end, right_end, is_upright, spans, below_line, below_edge, is_above, Prism, is_between_heights, passes_prism, IsPrism}
use Rattle.rp_geometry.specs.parts.Trapezoid.{least_y, trapezoid}
use Rattle.rp_parts.proofs.Parity.{differ, parity, odd_count, differ_itself, even_spans, spans_differ}
use Rattle.rp_parts.proofs.Ends.{IsAtLeast, ends_of, both_ends, all_at_least}
use Rattle.rp_parts.proofs.Trapezoids.{trapezoid_points}

-- ---- parities

-- tests that answer alike on the edges of a list
same_parity_of : (f g : Edge → Bool) (es : List Edge) → AllByRecursion (λ e. f e ≡ g e) es → parity f es ≡ parity g es
same_parity_of f g [] h = refl
same_parity_of f g (e ∷ es) h = λ i. differ (h.0 i) (same_parity_of f g es h.1 i)

-- a further test that is the same for all
differ_and : (a b c : Bool) → differ (a && c) (b && c) ≡ (differ a b && c)
differ_and true true true = refl
differ_and true true false = refl
differ_and true false true = refl
differ_and true false false = refl
differ_and false b c = refl

-- for all of a list
parity_and : (f : Edge → Bool) (c : Bool) (es : List Edge) → parity (λ e. f e && c) es ≡ (parity f es && c)
parity_and f c [] = refl
parity_and f c (e ∷ es) = ap (differ (f e && c)) (parity_and f c es) ∙ differ_and (f e) (parity f es) c

-- no edge passes
parity_none : (es : List Edge) → parity (λ _. false) es ≡ false
parity_none [] = refl
parity_none (e ∷ es) = parity_none es

-- ---- below the least y

-- an edge is above each point that it spans and that is below both ends
above_value : (l r : Corner) (p : RationalPoint) (least : ℤ) → least ≤ℤ l.y → least ≤ℤ r.y → l.x <ℤ r.x → (l.x *ℤ p.w) ≤ℤ p.x → p.x <ℤ (r.x *ℤ p.w) → p.y <ℤ (least *ℤ p.w) → pos 0 <ℤ side_value (below_line l r) p
above_value l r p least above_l above_r order from to below =
    lt_by_ring (l.x ∷ l.y ∷ r.x ∷ r.y ∷ p.x ∷ p.y ∷ p.z ∷ p.w ∷ least ∷ []) positive (search reify depth 60 fits 100000) tt
  where
    positive : pos 0 <ℤ (((r.y -ℤ least) *ℤ (p.x -ℤ l.x *ℤ p.w) +ℤ (l.y -ℤ least) *ℤ (r.x *ℤ p.w -ℤ p.x)) +ℤ (r.x -ℤ l.x) *ℤ (least *ℤ p.w -ℤ p.y))
    positive =
        add_pos_right_ℤ ((r.y -ℤ least) *ℤ (p.x -ℤ l.x *ℤ p.w) +ℤ (l.y -ℤ least) *ℤ (r.x *ℤ p.w -ℤ p.x)) ((r.x -ℤ l.x) *ℤ (least *ℤ p.w -ℤ p.y))
        (add_nonneg_ℤ ((r.y -ℤ least) *ℤ (p.x -ℤ l.x *ℤ p.w)) ((l.y -ℤ least) *ℤ (r.x *ℤ p.w -ℤ p.x))
        (mul_nonneg_ℤ (r.y -ℤ least) (p.x -ℤ l.x *ℤ p.w) (at_least least r.y above_r) (at_least (l.x *ℤ p.w) p.x from))
        (mul_nonneg_ℤ (l.y -ℤ least) (r.x *ℤ p.w -ℤ p.x) (at_least least l.y above_l) (at_least_less p.x (r.x *ℤ p.w) to)))
        (mul_pos_ℤ (r.x -ℤ l.x) (least *ℤ p.w -ℤ p.y) (less l.x r.x order) (less p.y (least *ℤ p.w) below))
      where
        at_least : (u v : ℤ) → u ≤ℤ v → pos 0 ≤ℤ (v -ℤ u)
        at_least u v h = omega (arith, ints)

        at_least_less : (u v : ℤ) → u <ℤ v → pos 0 ≤ℤ (v -ℤ u)
        at_least_less u v h = omega (arith, ints)

        less : (u v : ℤ) → u <ℤ v → pos 0 <ℤ (v -ℤ u)
        less u v h = omega (arith, ints)

-- ---- one edge

-- the point is in the trapezoid of an edge, which is passed over where its ends have one x
abbrev pub in_trapezoid : Prism → RationalPoint → Bool → Edge → Bool
in_trapezoid s p true e = false
in_trapezoid s p false e = all_hold (trapezoid s e) p

-- an edge whose ends have one x spans nothing
upright_spans_nothing : (e : Edge) (x w : ℤ) → pos 0 <ℤ w → is_upright e ≡ true → spans e x w ≡ false
upright_spans_nothing e x w h u =
    let same : e.start.x ≡ e.end.x = (Decides-int_eq e.start.x e.end.x).0 u in
    spans_differ e x w h ∙ (λ i. differ (int_lt x (same i *ℤ w)) (int_lt x (e.end.x *ℤ w))) ∙ differ_itself (int_lt x (e.end.x *ℤ w))

-- both ends of an edge are within bounds and not below the least y
abbrev IsGood : ℤ → Edge → Type 0
IsGood least e = IsAtLeast least e.start × IsAtLeast least e.end

module _ (s : Prism) (p : RationalPoint) (w : IsPoint p) where
  -- from the least y on, an edge's trapezoid has the point where the edge is above it and the point is between the heights
  in_from_least : int_le (least_y s.corners *ℤ p.w) p.y ≡ true → (e : Edge) → IsGood (least_y s.corners) e → (u : Bool) → is_upright e ≡ u → in_trapezoid s p u e ≡ (is_above e p && is_between_heights s p)
  in_from_least h e g true u = λ i. (sym (upright_spans_nothing e p.x p.w w u) i && holds (below_edge e) p) && is_between_heights s p
  in_from_least h e g false u =
      trapezoid_points s e (ends_of (IsAtLeast (least_y s.corners)) e g.0 g.1 u).order p
      ∙ (λ i. ((spans e p.x p.w && h i) && holds (below_edge e) p) && is_between_heights s p)
      ∙ (λ i. (and_true_after (spans e p.x p.w) i && holds (below_edge e) p) && is_between_heights s p)
    where
      and_true_after : (a : Bool) → (a && true) ≡ a
      and_true_after true = refl
      and_true_after false = refl

  -- below the least y no trapezoid has the point
  in_below_least : int_le (least_y s.corners *ℤ p.w) p.y ≡ false → (e : Edge) → IsGood (least_y s.corners) e → (u : Bool) → is_upright e ≡ u → in_trapezoid s p u e ≡ false
  in_below_least h e g true u = refl
  in_below_least h e g false u =
      trapezoid_points s e (ends_of (IsAtLeast (least_y s.corners)) e g.0 g.1 u).order p
      ∙ (λ i. ((spans e p.x p.w && h i) && holds (below_edge e) p) && is_between_heights s p)
      ∙ nothing_left (spans e p.x p.w) (holds (below_edge e) p) (is_between_heights s p)
    where
      nothing_left : (a b c : Bool) → (((a && false) && b) && c) ≡ false
      nothing_left true b c = refl
      nothing_left false b c = refl

  -- below the least y each edge that spans the point is above it
  above_below_least : int_le (least_y s.corners *ℤ p.w) p.y ≡ false → (e : Edge) → IsGood (least_y s.corners) e → is_above e p ≡ spans e p.x p.w
  above_below_least h e g = by_span (spans e p.x p.w) refl
    where
      below : p.y <ℤ (least_y s.corners *ℤ p.w)
      below = grind (arith, ints)

      by_span : (b : Bool) → spans e p.x p.w ≡ b → (b && holds (below_edge e) p) ≡ b
      by_span false t = refl
      by_span true t =
          let n = ends_of (IsAtLeast (least_y s.corners)) e g.0 g.1 (slanted (is_upright e) refl) in
          let from : ((left_end e).x *ℤ p.w) ≤ℤ p.x = at_most_is ((left_end e).x *ℤ p.w) p.x (and_first (int_le ((left_end e).x *ℤ p.w) p.x) (int_lt p.x ((right_end e).x *ℤ p.w)) t) in
          let to : p.x <ℤ ((right_end e).x *ℤ p.w) = less_is p.x ((right_end e).x *ℤ p.w) (and_second (int_le ((left_end e).x *ℤ p.w) p.x) (int_lt p.x ((right_end e).x *ℤ p.w)) t) in
          let v = is_positive_true (side_value (below_edge e) p) (above_value (left_end e) (right_end e) p (least_y s.corners) n.left.above n.right.above n.order from to below) in
          λ i. v i || (is_zero (side_value (below_edge e) p) && owns_boundary (below_edge e))
        where
          less_is : (u v : ℤ) → int_lt u v ≡ true → u <ℤ v
          less_is u v e = grind (arith, ints)

          slanted : (u : Bool) → is_upright e ≡ u → is_upright e ≡ false
          slanted false u = u
          slanted true u = absurd (false_not_true (spans e p.x p.w) t (upright_spans_nothing e p.x p.w w u))

  -- ---- all edges

  -- the edges of the polygon
  all_good : IsPrism s → AllByRecursion (IsGood (least_y s.corners)) (edges_of s.corners)
  all_good k = both_ends (IsAtLeast (least_y s.corners)) s.corners (all_at_least s.corners k.corners)

  -- an odd number of trapezoids has the point exactly where it passes the test of the prism
  pub trapezoids_together : IsPrism s → parity (λ e. in_trapezoid s p (is_upright e) e) (edges_of s.corners) ≡ passes_prism s p
  trapezoids_together k = by_least (int_le (least_y s.corners *ℤ p.w) p.y) refl
    where
      es : List Edge
      es = edges_of s.corners

      and_turned : (a b : Bool) → (a && b) ≡ (b && a)
      and_turned true true = refl
      and_turned true false = refl
      and_turned false true = refl
      and_turned false false = refl

      and_false : (a : Bool) → false ≡ (a && false)
      and_false true = refl
      and_false false = refl

      by_least : (b : Bool) → int_le (least_y s.corners *ℤ p.w) p.y ≡ b → parity (λ e. in_trapezoid s p (is_upright e) e) (edges_of s.corners) ≡ passes_prism s p
      by_least true h =
          same_parity_of (λ e. in_trapezoid s p (is_upright e) e) (λ e. is_above e p && is_between_heights s p) es
          (all_map (IsGood (least_y s.corners)) (λ e. in_trapezoid s p (is_upright e) e ≡ (is_above e p && is_between_heights s p)) (λ e g. in_from_least h e g (is_upright e) refl) es (all_good k))
          ∙ parity_and (λ e. is_above e p) (is_between_heights s p) es
          ∙ and_turned (parity (λ e. is_above e p) es) (is_between_heights s p)
          ∙ ap (λ b. is_between_heights s p && b) (sym (odd_count (λ e. is_above e p) es))
      by_least false h =
          same_parity_of (λ e. in_trapezoid s p (is_upright e) e) (λ _. false) es
          (all_map (IsGood (least_y s.corners)) (λ e. in_trapezoid s p (is_upright e) e ≡ false) (λ e g. in_below_least h e g (is_upright e) refl) es (all_good k))
          ∙ parity_none es
          ∙ and_false (is_between_heights s p)
          ∙ ap (λ b. is_between_heights s p && b) (sym (
          odd_count (λ e. is_above e p) es
          ∙ same_parity_of (λ e. is_above e p) (λ e. spans e p.x p.w) es
          (all_map (IsGood (least_y s.corners)) (λ e. is_above e p ≡ spans e p.x p.w) (λ e g. above_below_least h e g) es (all_good k))
          ∙ even_spans s.corners p.x p.w w
          ))
