-- subdivide ID COUNT ID EXPRESSION ..: divides one lot into several.
use Rattle.std.specs.Prelude.{ℕ, ◌+◌, true, false, not, ◌==◌, List, [], ◌∷◌, ◌++◌, map, length, Option, Some, None}
use Rattle.rp_geometry.specs.sets.Sets.{IsNonempty, IsEmpty, IsWithin, Overlaps}
use Rattle.rp_geometry.specs.sets.Shape.{Shape, Part}
use Rattle.rp_language.specs.Expression.{Child, Meaning, signature, subdivide_verb}
use Rattle.rp_language.specs.Name.{Label}
use Rattle.rp_semantics.specs.Compare.{is_covered}
use Rattle.rp_semantics.specs.Form.{common_nearby, near_pair, form}
use Rattle.rp_semantics.specs.Walk.{Walk, pass, ◌>>=◌, ◌>>◌, Tester}
use Rattle.rp_model.specs.commands.Checks.{refuse_if, and_then, check_subdivide, child_ids}
use Rattle.rp_model.specs.commands.Definition.{Definition}
use Rattle.rp_model.specs.commands.Parts.{count_among, parts_with_id, joined_parts, new_lot}
use Rattle.rp_model.specs.commands.Reply.{Reply, accepted, check, check_size}
use Rattle.rp_model.specs.commands.Rules.{Rule, names_then, refused_where, accepts}
use Rattle.rp_model.specs.commands.Sets.{set_of, set_with_id, union_of, lot_of_set}
use Rattle.rp_model.specs.commands.Verdict.{Refusal, empty_child, outside_lot, children_overlap, gap}
use Rattle.rp_model.specs.states.State.{most_kept_parts, StateOf, layer_with_id, parts_in, parts_under_lots, lots_replaced, State}

-- a child of a subdivision, with its form
pub record FormedChild : Type 0 where
  pub id : Label
  pub parts : List Part

-- refuses the first child without a part; the children are numbered from k
abbrev pub first_empty_child : ℕ → List FormedChild → Option Refusal
first_empty_child k [] = None
first_empty_child k (c ∷ cs) = and_then (refuse_if (length c.parts == 0) (empty_child k)) (first_empty_child (k + 1) cs)

-- the lists of parts of children, in order
abbrev pub child_parts : List FormedChild → List (List Part)
child_parts cs = map (λ c. c.parts) cs

module _ {W : Type 0} (tester : Tester W) where
  -- the refusal of the first child that is not within the parts; the children are numbered from k
  abbrev pub first_outside_child : List Part → ℕ → List FormedChild → Walk W (Option Refusal)
  first_outside_child qs k [] = pass None
  first_outside_child qs k (c ∷ cs) = do
    inside ← is_covered tester c.parts qs
    elim inside [ false ↦ pass (Some (outside_lot k)) | true ↦ first_outside_child qs (k + 1) cs ]

  -- the refusal of the first child that overlaps child m, whose parts are given; the children are numbered from n
  abbrev pub first_overlapping_child : ℕ → List Part → ℕ → List FormedChild → Walk W (Option Refusal)
  first_overlapping_child m ps n [] = pass None
  first_overlapping_child m ps n (c ∷ cs) = do
    found ← common_nearby tester ps c.parts
    elim found [ true ↦ pass (Some (children_overlap m n)) | false ↦ first_overlapping_child m ps (n + 1) cs ]

  -- the refusal of the first pair of children that overlap, in lexicographic order of their numbers, from m on
  abbrev pub first_overlapping_children : ℕ → List FormedChild → Walk W (Option Refusal)
  first_overlapping_children m [] = pass None
  first_overlapping_children m (c ∷ cs) = do
    found ← first_overlapping_child m c.parts (m + 1) cs
    elim found [ Some r ↦ pass (Some r) | None ↦ first_overlapping_children (m + 1) cs ]

  -- the checks on names, empty children, the size, children outside, overlapping children, and a gap
  abbrev pub row_subdivide : {S : Type 0} → StateOf S → Label → List FormedChild → Walk W Reply
  row_subdivide s x cs = check (and_then (check_subdivide s x (map (λ c. c.id) cs)) (first_empty_child 1 cs)) do
    check_size (parts_under_lots s.lots + length (joined_parts (child_parts cs))) most_kept_parts
    out ← first_outside_child (parts_with_id s x) 1 cs
    check out do
      tester.count (count_among near_pair (child_parts cs))
      double ← first_overlapping_children 1 cs
      check double do
        covered ← is_covered tester (parts_with_id s x) (joined_parts (child_parts cs))
        check (refuse_if (not covered) gap) (pass (accepted (lots_replaced (x ∷ []) (map (λ c. new_lot (layer_with_id s x) c.id c.parts (x ∷ [])) cs))))

  -- appends the forms of children, in order, to those made so far
  abbrev pub form_children : Meaning (List Part) → List FormedChild → List Child → Walk W (List FormedChild)
  form_children m made [] = pass made
  form_children m made (c ∷ cs) = do
    ps ← form tester m c.shape
    form_children m (made ++ record { id = c.id; parts = ps } ∷ []) cs

-- the sets of children
abbrev pub child_sets : State → List Child → List Shape
child_sets s cs = map (λ c. set_of s c.shape) cs

-- the rule refuses at the first empty set; the sets are numbered from k
abbrev pub refused_at_empty : ℕ → List Shape → Rule → Rule
refused_at_empty k [] rest = rest
refused_at_empty k (a ∷ sets) rest = refused_where (IsEmpty a) (empty_child k) (refused_at_empty (k + 1) sets rest)

-- the rule refuses at the first set that is not within the lot; the sets are numbered from k
abbrev pub refused_at_outside : Shape → ℕ → List Shape → Rule → Rule
refused_at_outside whole k [] rest = rest
refused_at_outside whole k (a ∷ sets) rest = refused_where (¬ IsWithin a whole) (outside_lot k) (refused_at_outside whole (k + 1) sets rest)

-- the rule refuses at the first set that overlaps set m; the sets are numbered from n
abbrev pub refused_at_later : ℕ → Shape → ℕ → List Shape → Rule → Rule
refused_at_later m a n [] rest = rest
refused_at_later m a n (b ∷ sets) rest = refused_where (Overlaps a b) (children_overlap m n) (refused_at_later m a (n + 1) sets rest)

-- the rule refuses at the first pair of sets that overlap, in lexicographic order of their numbers, from m on
abbrev pub refused_at_pair : ℕ → List Shape → Rule → Rule
refused_at_pair m [] rest = rest
refused_at_pair m (a ∷ sets) rest = refused_at_later m a (m + 1) sets (refused_at_pair (m + 1) sets rest)

-- the rule: the checks on names, empty children, children outside, overlapping children, and a gap
abbrev pub rule_subdivide : State → Label → List Child → Rule
rule_subdivide s x cs =
    names_then (check_subdivide s x (child_ids cs))
    (refused_at_empty 1 (child_sets s cs)
    (refused_at_outside (set_with_id s x) 1 (child_sets s cs)
    (refused_at_pair 1 (child_sets s cs)
    (refused_where (IsNonempty (Shape.difference (set_with_id s x) (union_of (child_sets s cs)))) gap accepts))))

-- the definition of subdivide
abbrev pub subdivide_definition : Definition (signature subdivide_verb)
subdivide_definition = record {
  may_meet_limit = true;
  row = λ t s (x, (cs, end)). do
    formed ← form_children t (parts_in s) [] cs
    row_subdivide t s x formed;
  rule = λ s formed (x, (cs, end)). rule_subdivide s x cs;
  change = λ s (x, (cs, end)). lots_replaced (x ∷ []) (map (λ c. lot_of_set (layer_with_id s x) c.id (set_of s c.shape) (x ∷ [])) cs);
}
