-- A form is short where names and lots stand for short lists of parts, whatever answers the tests.
use Rattle.std.proofs.Common.{◌≡◌, ◌≤◌, ◌*◌, Bool, true, false, List, [], ◌∷◌, ◌++◌, length, Option, Some, None, Result, Ok, Err, refl, subst, arith}
use Rattle.std.specs.Prelude.{IfOk, IfSome, nat_le}
use Rattle.std.proofs.lemmas.Bool.{leb-true}
use Rattle.rp_geometry.specs.Geometry.{HalfSpace, box_half_spaces}
use Rattle.rp_geometry.specs.sets.Prism.{Edge, edges_of, is_upright, Prism}
use Rattle.rp_geometry.specs.sets.Shape.{Part}
use Rattle.rp_geometry.specs.parts.Parts.{most_parts}
use Rattle.rp_geometry.specs.parts.PartTest.{whole_part}
use Rattle.rp_geometry.specs.parts.Trapezoid.{trapezoid}
use Rattle.rp_language.specs.Expression.{Expression, half_space, box, prism, everything, nothing, named, lot, intersection, union, difference, complement, Meaning}
use Rattle.rp_semantics.specs.Walk.{Outcome, done, stopped, limit_met, Walk, Tester, pass, stop, after_first, ◌>>=◌}
use Rattle.rp_semantics.specs.Form.{made_part, if_at_most, parts_or_none, join_pair, join_with_part, join_each, join, subtract_part, subtract, parts_of_cell, subtract_from_whole, exchange_lists, exchange, exchange_edge, exchange_edges, form}
use Rattle.rp_semantics.specs.FormLaws.{IfDone}
use Rattle.rp_oracle.specs.declared.stopped.Stopped.{Stopped}
use Rattle.rp_oracle.specs.Refines.{Refines}
use Rattle.rp_oracle.specs.Short.{StandShort}

-- the list has at most 1,024 parts
abbrev IsShort : List Part → Type 0
IsShort ps = length ps ≤ most_parts

-- one walk and then the next, which uses what the first one comes to
then_short : {W : Type 0} (o : Outcome W (List Part)) (next : List Part → Walk W (List Part)) → IfDone o IsShort → ((ps : List Part) (w : W) → IsShort ps → IfDone (next ps w) IsShort) → IfDone (after_first next o) IsShort
then_short (done ps w) next h each = each ps w h
then_short (stopped s w) next h each = tt

-- the same of a first walk of whose result nothing is known
after_short : {W A : Type 0} (o : Outcome W A) (next : A → Walk W (List Part)) → ((x : A) (w : W) → IfDone (next x w) IsShort) → IfDone (after_first next o) IsShort
after_short (done x w) next each = each x w
after_short (stopped s w) next each = tt

-- the part that was made, as a list
made_short : (o : Option Part) → IsShort (made_part o)
made_short None = omega arith
made_short (Some p) = omega arith

-- what a name or a lot stands for
stand_short : (o : Option (List Part)) → IfSome o IsShort → IsShort (parts_or_none o)
stand_short None h = omega arith
stand_short (Some ps) h = h

module _ {W : Type 0} (t : Tester W) where
  -- a list that passes the limit
  at_most_short : (ps : List Part) (w : W) → IfDone (if_at_most most_parts ps w) IsShort
  at_most_short ps w = by_test (nat_le (length ps) most_parts) (leb-true (length ps) most_parts)
    where
      by_test : (b : Bool) → (b ≡ true → IsShort ps) → IfDone ((elim b as (λ _. Walk W (List Part)) [ true ↦ pass ps | false ↦ stop limit_met ]) w) IsShort
      by_test true h = h refl
      by_test false h = tt

  -- the join of two parts
  pair_short : (made : List Part) (p q : Part) (w : W) → IfDone (join_pair t made p q w) IsShort
  pair_short made p q w = after_short (t.part (p.cell ++ q.cell) w) (λ o. if_at_most most_parts (made ++ made_part o)) (λ o v. at_most_short (made ++ made_part o) v)

  -- that of a part and a list
  with_part_short : (made : List Part) (p : Part) (qs : List Part) (w : W) → IsShort made → IfDone (join_with_part t made p qs w) IsShort
  with_part_short made p [] w h = h
  with_part_short made p (q ∷ qs) w h = then_short (join_pair t made p q w) (λ longer. join_with_part t longer p qs) (pair_short made p q w) (λ longer v k. with_part_short longer p qs v k)

  -- that of each part of a list
  each_short : (made ps qs : List Part) (w : W) → IsShort made → IfDone (join_each t made ps qs w) IsShort
  each_short made [] qs w h = h
  each_short made (p ∷ ps) qs w h = then_short (join_with_part t made p qs w) (λ longer. join_each t longer ps qs) (with_part_short made p qs w h) (λ longer v k. each_short longer ps qs v k)

  -- the join of two lists
  join_short : (ps qs : List Part) (w : W) → IfDone (join t ps qs w) IsShort
  join_short ps qs w = after_short (t.count (length ps * length qs) w) (λ _. join_each t [] ps qs) (λ _ v. each_short [] ps qs v (omega arith))

  -- what is left of a short list
  subtract_short : (ps qs : List Part) (w : W) → IsShort ps → IfDone (subtract t ps qs w) IsShort
  subtract_short ps [] w h = h
  subtract_short ps (q ∷ qs) w h =
      after_short (subtract_part t [] ps q w) (λ left. if_at_most most_parts left >>= (λ next. subtract t next qs))
      (λ left v. then_short (if_at_most most_parts left v) (λ next. subtract t next qs) (at_most_short left v) (λ next u k. subtract_short next qs u k))

  -- what is in one of two lists and not in the other
  lists_short : (current made : List Part) (w : W) → IfDone (exchange_lists t current made w) IsShort
  lists_short current made w =
      after_short (subtract t current made w) (λ outside. subtract t made current >>= (λ added. if_at_most most_parts (outside ++ added)))
      (λ outside v. after_short (subtract t made current v) (λ added. if_at_most most_parts (outside ++ added)) (λ added u. at_most_short (outside ++ added) u))

  -- the same with a part, if there is one
  exchange_short : (current : List Part) (o : Option Part) (w : W) → IsShort current → IfDone (exchange t current o w) IsShort
  exchange_short current None w h = h
  exchange_short current (Some made) w h = lists_short current (made ∷ []) w

  -- the same with the trapezoid of an edge
  edge_short : (s : Prism) (b : Bool) (current : List Part) (e : Edge) (w : W) → IsShort current → IfDone (exchange_edge t s b current e w) IsShort
  edge_short s true current e w h = h
  edge_short s false current e w h = after_short (t.part (trapezoid s e) w) (λ made. exchange t current made) (λ made v. exchange_short current made v h)

  -- the same with those of several edges
  edges_short : (s : Prism) (current : List Part) (es : List Edge) (w : W) → IsShort current → IfDone (exchange_edges t s current es w) IsShort
  edges_short s current [] w h = h
  edges_short s current (e ∷ es) w h = then_short (exchange_edge t s (is_upright e) current e w) (λ next. exchange_edges t s next es) (edge_short s (is_upright e) current e w h) (λ next v k. edges_short s next es v k)

  -- the form of a cell
  cell_short : (cell : List HalfSpace) (w : W) → IfDone (parts_of_cell t cell w) IsShort
  cell_short cell w = after_short (t.part cell w) (λ o. pass (made_part o)) (λ o v. made_short o)

  -- two forms and then what is made of them
  both_short : (first second : Walk W (List Part)) (next : List Part → List Part → Walk W (List Part)) (w : W) → IfDone (first w) IsShort → ((v : W) → IfDone (second v) IsShort)
      → ((ps qs : List Part) (v : W) → IsShort ps → IfDone (next ps qs v) IsShort) → IfDone (after_first (λ ps. second >>= (λ qs. next ps qs)) (first w)) IsShort
  both_short first second next w h k each = then_short (first w) (λ ps. second >>= (λ qs. next ps qs)) h (λ ps v s. then_short (second v) (λ qs. next ps qs) (k v) (λ qs u _. each ps qs u s))

  module _ (m : Meaning (List Part)) (short : StandShort m) where
    -- the form of an expression
    form_short : (e : Expression) (w : W) → IfDone (form t m e w) IsShort
    form_short (half_space h) w = cell_short (h ∷ []) w
    form_short (box b) w = cell_short (box_half_spaces b) w
    form_short (prism s) w = edges_short s [] (edges_of s.corners) w (omega arith)
    form_short everything w = omega arith
    form_short nothing w = omega arith
    form_short (named x) w = stand_short (m.of_name x) (short.names x)
    form_short (lot x) w = stand_short (m.of_lot x) (short.lots x)
    form_short (union e f) w = both_short (form t m e) (form t m f) (λ ps qs. if_at_most most_parts (ps ++ qs)) w (form_short e w) (λ v. form_short f v) (λ ps qs v _. at_most_short (ps ++ qs) v)
    form_short (intersection e f) w = both_short (form t m e) (form t m f) (λ ps qs. join t ps qs) w (form_short e w) (λ v. form_short f v) (λ ps qs v _. join_short ps qs v)
    form_short (difference e f) w = both_short (form t m e) (form t m f) (λ ps qs. subtract t ps qs) w (form_short e w) (λ v. form_short f v) (λ ps qs v h. subtract_short ps qs v h)
    form_short (complement e) w = then_short (form t m e w) (λ ps. subtract_from_whole t ps) (form_short e w) (λ ps v _. subtract_short (whole_part ∷ []) ps v (omega arith))

    -- so is one that was made
    pub made_form_is_short : {F : Type 0} (view : F → List Part) (e : Expression) (r : Result F Stopped) (w u : W) → Refines view r u (form t m e w) → IfOk r (λ f. length (view f) ≤ most_parts)
    made_form_is_short view e (Ok f) w u h = subst (λ (o : Outcome W (List Part)). IfDone o IsShort) h (form_short e w)
    made_form_is_short view e (Err lost) w u h = tt
