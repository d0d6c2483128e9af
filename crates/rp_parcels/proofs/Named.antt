-- Lists of parts under names of their own, beside lots: so the law of the row of a command can be cited where its parts are given.
use Rattle.std.proofs.Common.{◌≡◌, ℕ, ◌+◌, ◌≤◌, Bool, true, false, List, [], ◌∷◌, ◌++◌, map, length, Option, Some, None, refl, sym, ap, ◌∙◌, subst, arith, append_assoc, append-nil}
use Rattle.std.specs.Prelude.{IsTrue, not, suc, option_map}
use Rattle.std.specs.List.{AllByRecursion}
use Rattle.std.proofs.lemmas.Bool.{or_parts, not-true}
use Rattle.std.proofs.lemmas.List.{length-append}
use Rattle.std.proofs.lemmas.List.Sums.{sum_by-cons}
use Rattle.rp_algebra.proofs.Tests.{and_first, and_second}
use Rattle.rp_algebra.proofs.Lists.{all_both}
use Rattle.rp_geometry.specs.sets.Shape.{Shape, Part}
use Rattle.rp_geometry.specs.parts.Parts.{IsPart, IsRegion, AreOf}
use Rattle.rp_language.specs.Name.{Label, label_eq, is_among}
use Rattle.rp_language.specs.Expression.{Child as ChildLine, Meaning, named, first_of_two, if_missing, first_unknown_among}
use Rattle.rp_semantics.specs.Walk.{done, Walk, Work, after_first, first_tester}
use Rattle.rp_semantics.specs.Form.{parts_or_none}
use Rattle.rp_model.specs.states.State.{Kept, Lot, PlainState, names_of, kept_named, parts_of_kept, kept_of_parts, state_of_parts, parts_in, parts_under_names, most_kept_parts}
use Rattle.rp_model.specs.states.Sound.{are_distinct, IsSound}
use Rattle.rp_model.specs.commands.Verdict.{unknown}
use Rattle.rp_model.specs.commands.Reply.{Reply, check}
use Rattle.rp_model.specs.commands.Subdivide.{FormedChild, form_children, child_parts}
use Rattle.rp_model.specs.commands.Definition.{with_form}
use Rattle.rp_model.specs.commands.Parts.{joined_parts}
use Rattle.rp_states.proofs.Labels.{label_itself, label_turned}
use Rattle.rp_parcels.specs.Kept.{AreSound}

-- parts under a name
abbrev pub kept_child : FormedChild → Kept (Unit {0})
kept_child c = record { name = c.id; set = tt; parts = c.parts }

-- an expression that is the name
abbrev pub child_line : FormedChild → ChildLine
child_line c = record { id = c.id; shape = named c.id }

-- lots, in a layer, with these names
abbrev pub named_parts : Label → List FormedChild → List (Lot (Unit {0})) → PlainState
named_parts y cs lots = record { layer = y; names = map kept_child cs; lots = lots }

-- ---- the state

-- the names with the sets of their parts
abbrev shaped : List FormedChild → List (Kept Shape)
shaped cs = map kept_of_parts (map kept_child cs)

-- the names
child_names : (cs : List FormedChild) → names_of (shaped cs) ≡ map (λ c. c.id) cs
child_names [] = refl
child_names (c ∷ cs) = ap (λ (xs : List Label). c.id ∷ xs) (child_names cs)

-- how many parts they keep
child_sizes : (cs : List FormedChild) → parts_under_names (shaped cs) ≡ length (joined_parts (child_parts cs))
child_sizes [] = refl
child_sizes (c ∷ cs) =
    let one = sum_by-cons (λ (k : Kept Shape). length k.parts) (kept_of_parts (kept_child c)) (shaped cs) in
    let more = child_sizes cs in
    let both = length-append c.parts (joined_parts (child_parts cs)) in
    omega (arith, one, more, both)

-- the parts of each are of its set
children_of : (cs : List FormedChild) → AllByRecursion (λ c. IsRegion c.parts) cs → AllByRecursion (λ k. AreOf IsPart k.set k.parts) (shaped cs)
children_of [] h = tt
children_of (c ∷ cs) h = (record { all = h.0; members = ((λ p m. m), λ p m. m) }, children_of cs h.1)

-- as many names as lists
child_count : (cs : List FormedChild) → length (shaped cs) ≡ length cs
child_count [] = refl
child_count (c ∷ cs) = ap (λ (n : ℕ). suc n) (child_count cs)

-- few distinct names of regions beside sound lots
pub record AreNamed (cs : List FormedChild) : Type 0 where
  pub distinct : IsTrue (are_distinct (map (λ c. c.id) cs))
  pub regions : AllByRecursion (λ c. IsRegion c.parts) cs
  pub few : length cs ≤ 1024
  pub room : length (joined_parts (child_parts cs)) ≤ most_kept_parts

-- they make a sound state
pub named_sound : (y : Label) (cs : List FormedChild) (lots : List (Lot (Unit {0}))) → AreSound lots → AreNamed cs → IsSound (state_of_parts (named_parts y cs lots))
named_sound y cs lots h n = record {
  names_keep_parts = children_of cs n.regions;
  lots_keep_parts = h.lots_keep_parts;
  names_distinct = subst (λ (xs : List Label). IsTrue (are_distinct xs)) (sym (child_names cs)) n.distinct;
  ids_distinct = h.ids_distinct;
  live_lots_apart = h.live_lots_apart;
  lots_nonempty = h.lots_nonempty;
  few_names = let e = child_count cs in let few = n.few in omega (arith, e, few);
  few_parts_under_names = let e = child_sizes cs in let room = n.room in omega (arith, e, room);
  few_parts_under_lots = h.few_parts_under_lots;
  ends_after_birth = h.ends_after_birth;
  origins_before = h.origins_before;
  origins_of_layer = h.origins_of_layer;
}

-- ---- what is found under the names

-- each label of a list is another one than one that is not there
each_other : (x : Label) (cs : List FormedChild) → is_among x (map (λ c. c.id) cs) ≡ false → AllByRecursion (λ c. label_eq c.id x ≡ false) cs
each_other x [] e = tt
each_other x (c ∷ cs) e = let p = or_parts (label_eq x c.id) (is_among x (map (λ d. d.id) cs)) e in (label_turned x c.id p.0, each_other x cs p.1)

-- the first of some names, or a later one
abbrev found_or : FormedChild → Option (Kept (Unit {0})) → Bool → Option (List Part)
found_or c later b = parts_of_kept (elim b as (λ _. Option (Kept (Unit {0}))) [ true ↦ Some (kept_child c) | false ↦ later ])

-- a name stands for the parts
abbrev pub Found : Label → List FormedChild → List (Lot (Unit {0})) → FormedChild → Type 0
Found y cs lots c = (parts_in (named_parts y cs lots)).of_name c.id ≡ Some c.parts

-- so does each, where no two are one
pub found_each : (y : Label) (cs : List FormedChild) (lots : List (Lot (Unit {0}))) → IsTrue (are_distinct (map (λ c. c.id) cs)) → AllByRecursion (Found y cs lots) cs
found_each y [] lots d = tt
found_each y (c ∷ cs) lots d = (
  ap (found_or c (kept_named c.id (map kept_child cs))) (label_itself c.id),
  all_both (λ (k : FormedChild). label_eq k.id c.id ≡ false) (Found y cs lots) (Found y (c ∷ cs) lots) (λ k n f. ap (found_or c (kept_named k.id (map kept_child cs))) n ∙ f) cs
      (each_other c.id cs (not-true (is_among c.id (map (λ k. k.id) cs)) (and_first (not (is_among c.id (map (λ k. k.id) cs))) (are_distinct (map (λ k. k.id) cs)) d)))
      (found_each y cs lots (and_second (not (is_among c.id (map (λ k. k.id) cs))) (are_distinct (map (λ k. k.id) cs)) d)),
)

-- ---- rows of expressions that are names

module _ (m : Meaning (List Part)) where
  -- the row of one, whose parts are given
  pub row_named : (x : Label) (ps : List Part) → m.of_name x ≡ Some ps → (next : List Part → Walk Work Reply) (w : Work) → check (option_map unknown (first_unknown_among m (named x ∷ []))) (with_form first_tester m (named x) next) w ≡ next ps w
  row_named x ps e next w = ap (λ (o : Option (List Part)). check (option_map unknown (first_of_two (if_missing x o) None)) (next (parts_or_none o)) w) e

  -- all are there
  names_there : (cs : List FormedChild) → AllByRecursion (λ c. m.of_name c.id ≡ Some c.parts) cs → first_unknown_among m (map (λ c. c.shape) (map child_line cs)) ≡ None
  names_there [] h = refl
  names_there (c ∷ cs) h = ap (λ (o : Option (List Part)). first_of_two (if_missing c.id o) (first_unknown_among m (map (λ d. d.shape) (map child_line cs)))) h.0 ∙ names_there cs h.1

  -- their forms are the given parts
  names_formed : (made cs : List FormedChild) → AllByRecursion (λ c. m.of_name c.id ≡ Some c.parts) cs → (w : Work) → form_children first_tester m made (map child_line cs) w ≡ done (made ++ cs) w
  names_formed made [] h w = ap (λ (ds : List FormedChild). done ds w) (sym (append-nil made))
  names_formed made (c ∷ cs) h w =
      ap (λ (o : Option (List Part)). form_children first_tester m (made ++ record { id = c.id; parts = parts_or_none o } ∷ []) (map child_line cs) w) h.0
      ∙ names_formed (made ++ c ∷ []) cs h.1 w
      ∙ ap (λ (ds : List FormedChild). done ds w) (append_assoc made (c ∷ []) cs)

  -- the row of all, whose parts are given
  pub row_named_each : (cs : List FormedChild) → AllByRecursion (λ c. m.of_name c.id ≡ Some c.parts) cs → (next : List FormedChild → Walk Work Reply) (w : Work)
      → check (option_map unknown (first_unknown_among m (map (λ c. c.shape) (map child_line cs)))) (λ v. after_first next (form_children first_tester m [] (map child_line cs) v)) w ≡ next cs w
  row_named_each cs h next w =
      ap (λ (o : Option Label). check (option_map unknown o) (λ v. after_first next (form_children first_tester m [] (map child_line cs) v)) w) (names_there cs h)
      ∙ ap (after_first next) (names_formed [] cs h w)
