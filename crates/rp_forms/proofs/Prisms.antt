-- The form of a prism has exactly its members, for any tester that answers rightly.
use Rattle.std.proofs.Common.{◌≡◌, ◌≤◌, Bool, true, false, not, ◌&&◌, ◌||◌, List, [], ◌∷◌, ◌++◌, length, refl, sym, ap, ◌∙◌, arith}
use Rattle.std.specs.Prelude.{Option, Some, None}
use Rattle.std.specs.List.{AllByRecursion}
use Rattle.rp_geometry.specs.Geometry.{RationalPoint, HalfSpace}
use Rattle.rp_geometry.specs.sets.Prism.{Edge, edges_of, is_upright, Prism, IsPrism}
use Rattle.rp_geometry.specs.sets.Shape.{Shape, Part, passes, shape_of_cell, shape_of_parts}
use Rattle.rp_geometry.specs.parts.Parts.{most_parts, AreParts, AreOf}
use Rattle.rp_geometry.specs.parts.Trapezoid.{trapezoid}
use Rattle.rp_semantics.specs.Walk.{Tester}
use Rattle.rp_semantics.specs.Form.{subtract, exchange, exchange_edge, exchange_edges, prism_form}
use Rattle.rp_semantics.specs.FormLaws.{IfDone, IsMadeOf, AnswersRightly, PrismIsRight}
use Rattle.rp_semantics.proofs.Outcomes.{weaker_done, then_done}
use Rattle.rp_algebra.proofs.Listed.{all_append}
use Rattle.rp_geometry.proofs.Members.{cell_passes_as}
use Rattle.rp_parts.proofs.Parity.{differ, differ_false, parity}
use Rattle.rp_parts.proofs.Ends.{IsNearby, AreNear, ends_of, edges_near}
use Rattle.rp_parts.proofs.Trapezoids.{trapezoid_kept}
use Rattle.rp_parts.proofs.Together.{in_trapezoid, trapezoids_together}
use Rattle.rp_forms.proofs.Alike.{parts_append}
use Rattle.rp_forms.proofs.Walks.{few_done}
use Rattle.rp_forms.proofs.Made.{AreMade, made_as, are_of, made_of, made_alone}
use Rattle.rp_forms.proofs.Difference.{difference_is_right_spec}

-- ---- laws of tests

-- what is in one of both
exchanged_differ : (a b : Bool) → ((a && not b) || (b && not a)) ≡ differ a b
exchanged_differ true true = refl
exchanged_differ true false = refl
exchanged_differ false true = refl
exchanged_differ false false = refl

-- differing tests, grouped in two ways
differ_groups : (a b c : Bool) → differ (differ a b) c ≡ differ a (differ b c)
differ_groups true true true = refl
differ_groups true true false = refl
differ_groups true false c = refl
differ_groups false b c = refl

-- nothing is exchanged
exchange_nothing : (a : Bool) → a ≡ ((a && not false) || (false && not a))
exchange_nothing true = refl
exchange_nothing false = refl

-- ---- shapes

-- what is in one of both shapes
abbrev exchanged : Shape → Shape → Shape
exchanged s t = Shape.union (Shape.difference s t) (Shape.difference t s)

-- a shape and the trapezoid of an edge, which is passed over where its ends have one x
abbrev with_edge : Prism → Bool → Shape → Edge → Shape
with_edge s true t e = t
with_edge s false t e = exchanged t (shape_of_cell (trapezoid s e))

-- a shape and the trapezoids of edges in order
abbrev with_edges : Prism → Shape → List Edge → Shape
with_edges s t [] = t
with_edges s t (e ∷ es) = with_edges s (with_edge s (is_upright e) t e) es

-- the points of a shape and one trapezoid
with_edge_passes : (s : Prism) (t : Shape) (e : Edge) (p : RationalPoint) (u : Bool) → passes (with_edge s u t e) p ≡ differ (passes t p) (in_trapezoid s p u e)
with_edge_passes s t e p true = sym (differ_false (passes t p))
with_edge_passes s t e p false = exchanged_differ (passes t p) (passes (shape_of_cell (trapezoid s e)) p) ∙ ap (differ (passes t p)) (sym (cell_passes_as (trapezoid s e) p))

-- the points of a shape and some trapezoids
with_edges_passes : (s : Prism) (t : Shape) (es : List Edge) (p : RationalPoint) → passes (with_edges s t es) p ≡ differ (passes t p) (parity (λ e. in_trapezoid s p (is_upright e) e) es)
with_edges_passes s t [] p = sym (differ_false (passes t p))
with_edges_passes s t (e ∷ es) p =
    with_edges_passes s (with_edge s (is_upright e) t e) es p
    ∙ ap (λ b. differ b (parity (λ d. in_trapezoid s p (is_upright d) d) es)) (with_edge_passes s t e p (is_upright e))
    ∙ differ_groups (passes t p) (in_trapezoid s p (is_upright e) e) (parity (λ d. in_trapezoid s p (is_upright d) d) es)

-- ---- the walk

module _ {W : Type 0} (P : Part → Type 0) (t : Tester W) (right : AnswersRightly P t) where
  -- few parts, which keep the fact and have the points of the shape
  abbrev Drawn : Shape → List Part → Type 0
  Drawn s parts = AreMade P s parts × (length parts ≤ most_parts)

  -- parts that are drawn are few parts
  are_parts : (s : Shape) (parts : List Part) → Drawn s parts → AreParts P parts
  are_parts s parts d = record { each = d.0.each; few = d.1 }

  -- two lists of parts together
  both_made : (s u : Shape) (ps qs : List Part) → AreMade P s ps → AreMade P u qs → AreMade P (Shape.union s u) (ps ++ qs)
  both_made s u ps qs m n = record {
    each = all_append P ps qs m.each n.each;
    alike = λ p w i. parts_append ps qs p ∙ (λ j. m.alike p w i j || n.alike p w i j);
  }

  -- one part is exchanged with the parts so far
  exchange_draws : (s : Shape) (cell : List HalfSpace) (current : List Part) (o : Option Part) → Drawn s current → IsMadeOf P cell o → (w : W) → IfDone (exchange t current o w) (Drawn (exchanged s (shape_of_cell cell)))
  exchange_draws s cell current None d m w =
      let none = made_alone P cell None m in (
        made_as P s (exchanged s (shape_of_cell cell)) current
            (λ p v i. exchange_nothing (passes s p) ∙ (λ j. (passes s p && not (none.alike p v i j)) || (none.alike p v i j && not (passes s p))))
            d.0,
        d.1,
      )
  exchange_draws s cell current (Some part) d m w =
      then_done (AreOf P (Shape.difference (shape_of_parts current) (shape_of_parts (part ∷ [])))) _ (subtract t current (part ∷ []) w) _
      (difference_is_right_spec P t right current (part ∷ []) (are_parts s current d) new w)
      (λ outside v a. then_done (AreOf P (Shape.difference (shape_of_parts (part ∷ [])) (shape_of_parts current))) _ (subtract t (part ∷ []) current v) _
      (difference_is_right_spec P t right (part ∷ []) current new (are_parts s current d) v)
      (λ added u b. few_done (Drawn (exchanged s (shape_of_cell cell))) most_parts (outside ++ added)
      (λ few. (
        made_as P (exchanged (shape_of_parts current) (shape_of_parts (part ∷ []))) (exchanged s (shape_of_cell cell)) (outside ++ added)
            (λ p x i. λ j. (d.0.alike p x i j && not (one.alike p x i j)) || (one.alike p x i j && not (d.0.alike p x i j)))
            (both_made (Shape.difference (shape_of_parts current) (shape_of_parts (part ∷ []))) (Shape.difference (shape_of_parts (part ∷ [])) (shape_of_parts current)) outside added (made_of P _ outside a) (made_of P _ added b)),
        few,
      ))
      u))
    where
      one : AreMade P (shape_of_cell cell) (part ∷ [])
      one = made_alone P cell (Some part) m

      new : AreParts P (part ∷ [])
      new = record { each = one.each; few = omega arith }

  -- the trapezoid of one edge
  edge_draws : (s : Prism) → IsPrism s → (shape : Shape) (current : List Part) (e : Edge) → AreNear e → Drawn shape current → (u : Bool) → is_upright e ≡ u → (w : W) → IfDone (exchange_edge t s u current e w) (Drawn (with_edge s u shape e))
  edge_draws s k shape current e n d true f w = d
  edge_draws s k shape current e n d false f w =
      then_done (IsMadeOf P (trapezoid s e)) _ (t.part (trapezoid s e) w) _
      (right.part (trapezoid s e) (trapezoid_kept s e k (ends_of IsNearby e n.0 n.1 f)) w)
      (λ o v m. exchange_draws shape (trapezoid s e) current o d m v)

  -- the trapezoids of edges in order
  edges_draw : (s : Prism) → IsPrism s → (shape : Shape) (current : List Part) (es : List Edge) → AllByRecursion AreNear es → Drawn shape current → (w : W) → IfDone (exchange_edges t s current es w) (Drawn (with_edges s shape es))
  edges_draw s k shape current [] n d w = d
  edges_draw s k shape current (e ∷ es) n d w =
      then_done (Drawn (with_edge s (is_upright e) shape e)) _ (exchange_edge t s (is_upright e) current e w) _
      (edge_draws s k shape current e n.0 d (is_upright e) refl w)
      (λ next v m. edges_draw s k (with_edge s (is_upright e) shape e) next es n.1 m v)

  -- the parts have exactly the members of the prism
  drawn_of : (s : Prism) → IsPrism s → (parts : List Part) → Drawn (with_edges s Shape.nothing (edges_of s.corners)) parts → AreOf P (Shape.prism s) parts
  drawn_of s k parts d =
      are_of P (Shape.prism s) parts
      (made_as P (with_edges s Shape.nothing (edges_of s.corners)) (Shape.prism s) parts (λ p w i. with_edges_passes s Shape.nothing (edges_of s.corners) p ∙ trapezoids_together s p w k) d.0)
      d.1

  -- no parts at first
  no_parts : Drawn Shape.nothing []
  no_parts = (record { each = tt; alike = λ p w i. refl }, omega arith)

  -- the law
  pub prism_is_right_spec : PrismIsRight P t
  prism_is_right_spec s k w =
      weaker_done (Drawn (with_edges s Shape.nothing (edges_of s.corners))) (AreOf P (Shape.prism s))
      (prism_form t s w)
      (edges_draw s k Shape.nothing [] (edges_of s.corners) (edges_near s k) no_parts w)
      (λ parts d. drawn_of s k parts d)
