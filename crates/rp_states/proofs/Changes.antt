-- The laws over states of the commands that change something.
use Rattle.rp_geometry.specs.parts.Parts.{most_parts}
use Rattle.rp_geometry.specs.sets.Sets.{IsNonempty, IsEmpty, IsWithin, Overlaps}
use Rattle.rp_geometry.specs.sets.Shape.{Part, Shape}
use Rattle.rp_language.specs.Expression.{Child, Command, Meaning, define, register, cut, subdivide, consolidate, retire, Expression}
use Rattle.rp_language.specs.Name.{Label, label_eq, is_among}
use Rattle.rp_model.specs.commands.Checks.{refuse_if, and_then, check_each, check_repeated, check_layers, check_cut, check_subdivide, check_consolidate, check_new, check_live, child_ids, check_name}
use Rattle.rp_model.specs.commands.Consolidate.{row_consolidate, consolidate_definition}
use Rattle.rp_model.specs.commands.Cut.{row_cut, cut_definition}
use Rattle.rp_model.specs.commands.Definition.{with_form}
use Rattle.rp_model.specs.commands.Let.{row_define, let_definition}
use Rattle.rp_model.specs.commands.Parts.{new_lot, parts_with_id, joined_parts, lot_parts, count_with_each, count_among}
use Rattle.rp_model.specs.commands.Register.{first_overlapped, row_register, refused_at_overlap, register_definition}
use Rattle.rp_model.specs.commands.Reply.{Reply, accepted, check, check_size}
use Rattle.rp_model.specs.commands.Retire.{row_retire, retire_definition}
use Rattle.rp_model.specs.commands.Rule.{fill_lots}
use Rattle.rp_model.specs.commands.Rules.{Rule, names_then, refused_where, accepts}
use Rattle.rp_model.specs.commands.Sets.{set_of, lot_of_set, union_of}
use Rattle.rp_model.specs.commands.Subdivide.{FormedChild, child_parts, first_empty_child, first_outside_child, first_overlapping_children, row_subdivide, form_children, child_sets, refused_at_empty, refused_at_outside, refused_at_pair, rule_subdivide, subdivide_definition}
use Rattle.rp_model.specs.commands.Verdict.{overlaps, gap, empty_side, empty, known, same_name, too_few, layers}
use Rattle.rp_model.specs.states.State.{Lot, NewLot, State, present_lots, layer_with_id, name_added, lots_replaced, bare_lot, sets_only, StateOf, parts_in, parts_under_names, parts_under_lots, parts_only, most_kept_parts, most_names}
use Rattle.rp_states.proofs.Bare.{bare_new, names_bare, moved, set_bare, set_with_bare, check_live_bare, check_new_bare, layer_with_bare, layer_of_first_bare, check_layers_bare, present_bare}
use Rattle.rp_states.proofs.Plain.{layer_with_same, layer_of_first_same, present_same, lot_parts_same, lots_size_same, names_same, names_size_same, first_overlapped_same, meaning_same, check_live_same, check_new_same, parts_with_same}
use Rattle.rp_states.proofs.Walks.{if_checked, if_sized}
use Rattle.rp_semantics.proofs.Outcomes.{after_done, then_done}
use Rattle.rp_semantics.specs.Compare.{is_covered}
use Rattle.rp_semantics.specs.Form.{join, subtract, form, near_pair}
use Rattle.rp_semantics.specs.FormLaws.{IfDone}
use Rattle.rp_semantics.specs.Walk.{Outcome, done, stopped, Walk, pass, Tester, ◌>>=◌, ◌>>◌}
use Rattle.std.proofs.Common.{◌≡◌, ℕ, not, List, [], ◌∷◌, ◌++◌, map, length, refl, sym, ap, ap₂, ◌∙◌, subst, nat_lt, option_map, ◌+◌, ◌==◌, ◌≤◌, inr, arith, append_assoc, append-nil, length-append}
use Rattle.std.proofs.lemmas.List.Sums.{sum_by-cons}
use Rattle.std.proofs.lemmas.List.{length-map, map-append}
use Rattle.rp_states.proofs.Fits.{plain_new, parts_of_new, IsFitReply, refuses_fit, Plain}
use Rattle.rp_model.specs.commands.Layer.{layer_definition}

-- ---- rows read parts alone

module _ {S W : Type 0} (t : Tester W) (s : StateOf S) where
  -- a new name
  pub define_same : (x : Label) (ps : List Part) → ◌≡◌ {A = Walk W Reply} (row_define (parts_only s) x ps) (row_define s x ps)
  define_same x ps = rw (names_same, names_size_same, length-map) refl

  -- the check of layers
  check_layers_same : (ids : List Label) → check_layers (parts_only s) ids ≡ check_layers s ids
  check_layers_same ids = λ i. check_each (λ y. refuse_if (not (label_eq (layer_with_same s i y) (layer_of_first_same s i ids))) (layers y)) ids

  -- the checks of a consolidation
  check_consolidate_same : (x : Label) (ids : List Label) → check_consolidate (parts_only s) x ids ≡ check_consolidate s x ids
  check_consolidate_same x ids = λ i. and_then (refuse_if (nat_lt (length ids) 2) too_few) (and_then (check_each (check_live_same s i) ids) (and_then (check_repeated [] ids) (and_then (check_layers_same ids i) (check_new_same s i x))))

  -- the checks of a subdivision
  check_subdivide_same : (x : Label) (ids : List Label) → check_subdivide (parts_only s) x ids ≡ check_subdivide s x ids
  check_subdivide_same x ids = λ i. and_then (refuse_if (nat_lt (length ids) 2) too_few) (and_then (check_live_same s i x) (and_then (check_each (check_new_same s i) ids) (check_repeated [] ids)))

  -- the checks of a cut
  check_cut_same : (x first second : Label) → check_cut (parts_only s) x first second ≡ check_cut s x first second
  check_cut_same x first second = λ i. and_then (check_live_same s i x) (and_then (check_new_same s i first) (and_then (check_new_same s i second) (refuse_if (label_eq first second) same_name)))

  -- a consolidation
  pub consolidate_same : (x : Label) (ids : List Label) → ◌≡◌ {A = Walk W Reply} (row_consolidate (parts_only s) x ids) (row_consolidate s x ids)
  consolidate_same x ids = λ i. check (check_consolidate_same x ids i) do
    check_size (length (joined_parts (map (λ y. parts_with_same s i y) ids))) most_parts
    check_size (lots_size_same s.lots i + length (joined_parts (map (λ y. parts_with_same s i y) ids))) most_kept_parts
    pass (accepted (lots_replaced ids (new_lot (layer_of_first_same s i ids) x (joined_parts (map (λ y. parts_with_same s i y) ids)) ids ∷ [])))

  -- a retirement
  pub retire_same : (x : Label) → ◌≡◌ {A = Walk W Reply} (row_retire (parts_only s) x) (row_retire s x)
  retire_same x = λ i. check (check_live_same s i x) (pass (accepted (lots_replaced (x ∷ []) [])))

  -- lists of parts of the live lots of the present layer
  present_lists_same : lot_parts (present_lots (parts_only s)) ≡ lot_parts (present_lots s)
  present_lists_same = ap lot_parts (present_same s) ∙ lot_parts_same (present_lots s)

  -- a registration
  pub register_same : (x : Label) (ps : List Part) → ◌≡◌ {A = Walk W Reply} (row_register t (parts_only s) x ps) (row_register t s x ps)
  register_same x ps =
      let overlapped : first_overlapped t ps (present_lots (parts_only s)) ≡ first_overlapped t ps (present_lots s) = ap (first_overlapped t ps) (present_same s) ∙ first_overlapped_same t ps (present_lots s) in
      λ i. check (and_then (check_new_same s i x) (refuse_if (length ps == 0) empty)) do
        check_size (lots_size_same s.lots i + length ps) most_kept_parts
        t.count (count_with_each near_pair ps (present_lists_same i))
        found ← overlapped i
        check (option_map overlaps found) (pass (accepted (lots_replaced [] (new_lot s.layer x ps [] ∷ []))))

  -- a cut
  pub cut_same : (x first second : Label) (ps : List Part) → ◌≡◌ {A = Walk W Reply} (row_cut t (parts_only s) x ps first second) (row_cut t s x ps first second)
  cut_same x first second ps = λ i. check (check_cut_same x first second i) do
    inner ← join t (parts_with_same s i x) ps
    check (refuse_if (length inner == 0) (empty_side 1)) do
      outer ← subtract t (parts_with_same s i x) ps
      check (refuse_if (length outer == 0) (empty_side 2)) do
        check_size (lots_size_same s.lots i + length inner + length outer) most_kept_parts
        pass (accepted (lots_replaced (x ∷ []) (new_lot (layer_with_same s i x) first inner (x ∷ []) ∷ new_lot (layer_with_same s i x) second outer (x ∷ []) ∷ [])))

  -- a subdivision
  pub subdivide_same : (x : Label) (cs : List FormedChild) → ◌≡◌ {A = Walk W Reply} (row_subdivide t (parts_only s) x cs) (row_subdivide t s x cs)
  subdivide_same x cs = λ i. check (and_then (check_subdivide_same x (map (λ c. c.id) cs) i) (first_empty_child 1 cs)) do
    check_size (lots_size_same s.lots i + length (joined_parts (child_parts cs))) most_kept_parts
    out ← first_outside_child t (parts_with_same s i x) 1 cs
    check out do
      t.count (count_among near_pair (child_parts cs))
      double ← first_overlapping_children t 1 cs
      check double do
        covered ← is_covered t (parts_with_same s i x) (joined_parts (child_parts cs))
        check (refuse_if (not covered) gap) (pass (accepted (lots_replaced (x ∷ []) (map (λ c. new_lot (layer_with_same s i x) c.id c.parts (x ∷ [])) cs))))

-- ---- rules read sets alone

-- the first lot that overlaps
overlap_bare : (ls : List (Lot Shape)) (a : Shape) (rest : Rule) → refused_at_overlap (map bare_lot ls) a rest ≡ refused_at_overlap ls a rest
overlap_bare [] a rest = refl
overlap_bare (l ∷ ls) a rest = ap (refused_where (Overlaps l.set a) (overlaps l.id)) (overlap_bare ls a rest)

module _ (s : State) where
  -- the sets of children
  children_bare : (cs : List Child) → child_sets (sets_only s) cs ≡ child_sets s cs
  children_bare cs = λ i. map (λ c. set_bare s i c.shape) cs

  -- the rule of a subdivision, by its readings
  subdivide_bare : (x : Label) (cs : List Child) → rule_subdivide (sets_only s) x cs ≡ rule_subdivide s x cs
  subdivide_bare x cs = λ i. names_then (and_then (refuse_if (nat_lt (length (child_ids cs)) 2) too_few) (and_then (check_live_bare s i x) (and_then (check_each (check_new_bare s i) (child_ids cs)) (check_repeated [] (child_ids cs)))))
      (refused_at_empty 1 (children_bare cs i)
      (refused_at_outside (set_with_bare s i x) 1 (children_bare cs i)
      (refused_at_pair 1 (children_bare cs i)
      (refused_where (IsNonempty (Shape.difference (set_with_bare s i x) (union_of (children_bare cs i)))) gap accepts))))

-- ---- replies fit

module _ {W : Type 0} (t : Tester W) (s : State) where
  -- a new name
  define_fit : (x : Label) (e : Expression) (ps : List Part) (w : W) → IfDone (row_define s x ps w) (IsFitReply s (define x e))
  define_fit x e ps w =
      let Q = IsFitReply s (define x e) in
      if_checked Q (check_name s x) _ w (refuses_fit s (define x e))
      (if_sized Q (length s.names + 1) most_names _ w λ few.
      if_sized Q (parts_under_names s.names + length ps) most_kept_parts _ w λ few_parts.
      inr (record { says = refl; bare = refl; same = refl; sizes = (few, few_parts) }))

  -- a registration
  register_fit : (x : Label) (e : Expression) (ps : List Part) (w : W) → IfDone (row_register t s x ps w) (IsFitReply s (register x e))
  register_fit x e ps w =
      let Q = IsFitReply s (register x e) in
      if_checked Q (and_then (check_new s x) (refuse_if (length ps == 0) empty)) _ w (refuses_fit s (register x e))
      (if_sized Q (parts_under_lots s.lots + length ps) most_kept_parts _ w λ few.
      after_done Q (t.count (count_with_each near_pair ps (lot_parts (present_lots s))) w) _ λ u w.
      after_done Q (first_overlapped t ps (present_lots s) w) _ λ found w.
      if_checked Q (option_map overlaps found) _ w (refuses_fit s (register x e))
      (inr (record { says = refl; bare = refl; same = refl; sizes = omega arith })))

  -- a cut
  cut_fit : (x : Label) (e : Expression) (first second : Label) (ps : List Part) (w : W) → IfDone (row_cut t s x ps first second w) (IsFitReply s (cut x e first second))
  cut_fit x e first second ps w =
      let Q = IsFitReply s (cut x e first second) in
      if_checked Q (check_cut s x first second) _ w (refuses_fit s (cut x e first second))
      (after_done Q (join t (parts_with_id s x) ps w) _ λ inner w.
      if_checked Q (refuse_if (length inner == 0) (empty_side 1)) _ w (refuses_fit s (cut x e first second))
      (after_done Q (subtract t (parts_with_id s x) ps w) _ λ outer w.
      if_checked Q (refuse_if (length outer == 0) (empty_side 2)) _ w (refuses_fit s (cut x e first second))
      (if_sized Q (parts_under_lots s.lots + length inner + length outer) most_kept_parts _ w λ few.
      inr (record { says = refl; bare = refl; same = refl; sizes = omega arith }))))

  -- the children that are formed have the ids of the line
  formed_ids : (m : Meaning (List Part)) (made : List FormedChild) (cs : List Child) (w : W) → IfDone (form_children t m made cs w) (λ f. map (λ c. c.id) f ≡ map (λ c. c.id) made ++ child_ids cs)
  formed_ids m made [] w = sym (append-nil (map (λ c. c.id) made))
  formed_ids m made (c ∷ cs) w =
      after_done (λ f. map (λ d. d.id) f ≡ map (λ d. d.id) made ++ child_ids (c ∷ cs)) (form t m c.shape w) _ λ ps w.
      next ps (form_children t m (made ++ record { id = c.id; parts = ps } ∷ []) cs w) (formed_ids m (made ++ record { id = c.id; parts = ps } ∷ []) cs w)
    where
      next : (ps : List Part) (o : Outcome W (List FormedChild)) → IfDone o (λ f. map (λ d. d.id) f ≡ map (λ d. d.id) (made ++ record { id = c.id; parts = ps } ∷ []) ++ child_ids cs) → IfDone o (λ f. map (λ d. d.id) f ≡ map (λ d. d.id) made ++ child_ids (c ∷ cs))
      next ps (stopped e v) h = tt
      next ps (done f v) h =
          h ∙ ap (λ (xs : List Label). xs ++ child_ids cs) (map-append (λ (d : FormedChild). d.id) made (record { id = c.id; parts = ps } ∷ [])) ∙ append_assoc (map (λ d. d.id) made) (c.id ∷ []) (child_ids cs)

  -- a consolidation
  consolidate_fit : (x : Label) (ids : List Label) (w : W) → IfDone (row_consolidate s x ids w) (IsFitReply s (consolidate x ids))
  consolidate_fit x ids w =
      let Q = IsFitReply s (consolidate x ids) in
      if_checked Q (check_consolidate s x ids) _ w (refuses_fit s (consolidate x ids))
      (if_sized Q (length (joined_parts (map (λ x. parts_with_id s x) ids))) most_parts _ w λ short.
      if_sized Q (parts_under_lots s.lots + length (joined_parts (map (λ x. parts_with_id s x) ids))) most_kept_parts _ w λ few.
      inr (record { says = refl; bare = refl; same = refl; sizes = omega arith }))

  -- a retirement
  retire_fit : parts_under_lots s.lots ≤ most_kept_parts → (x : Label) (w : W) → IfDone (row_retire s x w) (IsFitReply s (retire x))
  retire_fit few x w =
      if_checked (IsFitReply s (retire x)) (check_live s x) _ w (refuses_fit s (retire x))
      (inr (record { says = refl; bare = refl; same = refl; sizes = omega arith }))

  -- the new lots of a subdivision have the ids of the line
  filled_same : (x : Label) (cs : List Child) (formed : List FormedChild) → map (λ c. c.id) formed ≡ child_ids cs →
      map plain_new (fill_lots (map (λ c. lot_of_set (layer_with_id s x) c.id (set_of s c.shape) (x ∷ [])) cs) (map (λ c. new_lot (layer_with_id s x) c.id c.parts (x ∷ [])) formed)) ≡ map (λ c. new_lot (layer_with_id s x) c.id c.parts (x ∷ [])) formed
  filled_same x [] [] h = refl
  filled_same x [] (f ∷ formed) h = absurd (cc)
  filled_same x (c ∷ cs) [] h = absurd (cc)
  filled_same x (c ∷ cs) (f ∷ formed) h =
      let head : f.id ≡ c.id = cc in
      let tail : map (λ c. c.id) formed ≡ child_ids cs = cc in
      ap₂ ◌∷◌ (ap (λ (y : Label). new_lot (layer_with_id s x) y f.parts (x ∷ [])) (sym head)) (filled_same x cs formed tail)

  -- the new lots of a subdivision have the sets of the line
  filled_bare : (x : Label) (cs : List Child) (made : List (NewLot (Unit {0}))) → map bare_new (fill_lots (map (λ c. lot_of_set (layer_with_id s x) c.id (set_of s c.shape) (x ∷ [])) cs) made) ≡ map (λ c. lot_of_set (layer_with_id s x) c.id (set_of s c.shape) (x ∷ [])) cs
  filled_bare x [] made = refl
  filled_bare x (c ∷ cs) [] = ap (λ (new : List (NewLot Shape)). lot_of_set (layer_with_id s x) c.id (set_of s c.shape) (x ∷ []) ∷ new) (filled_bare x cs [])
  filled_bare x (c ∷ cs) (m ∷ made) = ap (λ (new : List (NewLot Shape)). lot_of_set (layer_with_id s x) c.id (set_of s c.shape) (x ∷ []) ∷ new) (filled_bare x cs made)

  -- the new lots of a subdivision keep the parts of the children
  children_parts : (x : Label) (formed : List FormedChild) → parts_of_new (map (λ c. new_lot (layer_with_id s x) c.id c.parts (x ∷ [])) formed) ≡ length (joined_parts (child_parts formed))
  children_parts x [] = refl
  children_parts x (f ∷ formed) =
      sum_by-cons (λ (a : NewLot (Unit {0})). length a.parts) (new_lot (layer_with_id s x) f.id f.parts (x ∷ [])) (map (λ c. new_lot (layer_with_id s x) c.id c.parts (x ∷ [])) formed)
      ∙ ap (λ (n : ℕ). length f.parts + n) (children_parts x formed)
      ∙ sym (length-append f.parts (joined_parts (child_parts formed)))

  -- a subdivision
  subdivide_fit : (x : Label) (cs : List Child) (formed : List FormedChild) → map (λ c. c.id) formed ≡ child_ids cs → (w : W) → IfDone (row_subdivide t s x formed w) (IsFitReply s (subdivide x cs))
  subdivide_fit x cs formed same w =
      let Q = IsFitReply s (subdivide x cs) in
      if_checked Q (and_then (check_subdivide s x (map (λ c. c.id) formed)) (first_empty_child 1 formed)) _ w (refuses_fit s (subdivide x cs))
      (if_sized Q (parts_under_lots s.lots + length (joined_parts (child_parts formed))) most_kept_parts _ w λ few.
      after_done Q (first_outside_child t (parts_with_id s x) 1 formed w) _ λ out w.
      if_checked Q out _ w (refuses_fit s (subdivide x cs))
      (after_done Q (t.count (count_among near_pair (child_parts formed)) w) _ λ u w.
      after_done Q (first_overlapping_children t 1 formed w) _ λ double w.
      if_checked Q double _ w (refuses_fit s (subdivide x cs))
      (after_done Q (is_covered t (parts_with_id s x) (joined_parts (child_parts formed)) w) _ λ covered w.
      if_checked Q (refuse_if (not covered) gap) _ w (refuses_fit s (subdivide x cs))
      (inr (record {
        says = refl;
        bare = ap (lots_replaced (x ∷ [])) (filled_bare x cs (map (λ c. new_lot (layer_with_id s x) c.id c.parts (x ∷ [])) formed));
        same = ap (lots_replaced (x ∷ [])) (filled_same x cs formed same);
        sizes = subst (λ (n : ℕ). parts_under_lots s.lots + n ≤ most_kept_parts) (sym (children_parts x formed)) few;
      })))))

  -- one form and then a row
  one_form : (c : Command) (e : Expression) (r : List Part → Walk W Reply) (w : W) → ((ps : List Part) (w : W) → IfDone (r ps w) (IsFitReply s c)) → IfDone (with_form t (parts_in s) e r w) (IsFitReply s c)
  one_form c e r w h = after_done (IsFitReply s c) (form t (parts_in s) e w) r h

-- ---- the laws of each

-- let
pub let_plain : Plain let_definition
let_plain = record {
  same = λ t s (x, (u, (e, end))). λ i. with_form t (meaning_same s i) e λ ps. define_same t s x ps i;
  rule = λ s formed (x, (u, (e, end))). moved (λ i. names_then (refuse_if (is_among x (names_bare s.names i)) (known x)) accepts);
  change = λ s (x, (u, (e, end))). λ i. name_added (record { name = x; set = set_bare s i e; parts = [] });
  fits = λ t s few (x, (u, (e, end))) w. one_form t s (define x e) e _ w (define_fit t s x e);
}

-- register
pub register_plain : Plain register_definition
register_plain = record {
  same = λ t s (x, (e, end)). λ i. with_form t (meaning_same s i) e λ ps. register_same t s x ps i;
  rule = λ s formed (x, (e, end)). moved (let overlapped : (a : Shape) → refused_at_overlap (present_lots (sets_only s)) a accepts ≡ refused_at_overlap (present_lots s) a accepts = λ a. ap (λ (ls : List (Lot Shape)). refused_at_overlap ls a accepts) (present_bare s) ∙ overlap_bare (present_lots s) a accepts in
      λ i. names_then (check_new_bare s i x) (refused_where (IsEmpty (set_bare s i e)) empty (overlapped (set_bare s i e) i)));
  change = λ s (x, (e, end)). λ i. lots_replaced [] (lot_of_set s.layer x (set_bare s i e) [] ∷ []);
  fits = λ t s few (x, (e, end)) w. one_form t s (register x e) e _ w (register_fit t s x e);
}

-- cut
pub cut_plain : Plain cut_definition
cut_plain = record {
  same = λ t s (x, (e, (first, (second, end)))). λ i. with_form t (meaning_same s i) e λ ps. cut_same t s x first second ps i;
  rule = λ s formed (x, (e, (first, (second, end)))). moved (λ i. names_then (and_then (check_live_bare s i x) (and_then (check_new_bare s i first) (and_then (check_new_bare s i second) (refuse_if (label_eq first second) same_name))))
      (refused_where (¬ Overlaps (set_with_bare s i x) (set_bare s i e)) (empty_side 1) (refused_where (IsWithin (set_with_bare s i x) (set_bare s i e)) (empty_side 2) accepts)));
  change = λ s (x, (e, (first, (second, end)))). λ i. lots_replaced (x ∷ []) (lot_of_set (layer_with_bare s i x) first (Shape.intersection (set_with_bare s i x) (set_bare s i e)) (x ∷ []) ∷ lot_of_set (layer_with_bare s i x) second (Shape.difference (set_with_bare s i x) (set_bare s i e)) (x ∷ []) ∷ []);
  fits = λ t s few (x, (e, (first, (second, end)))) w. one_form t s (cut x e first second) e _ w (cut_fit t s x e first second);
}

-- subdivide
pub subdivide_plain : Plain subdivide_definition
subdivide_plain = record {
  same = λ t s (x, (cs, end)). λ i. do
    formed ← form_children t (meaning_same s i) [] cs
    subdivide_same t s x formed i;
  rule = λ s formed (x, (cs, end)). moved (subdivide_bare s x cs);
  change = λ s (x, (cs, end)). λ i. lots_replaced (x ∷ []) (map (λ c. lot_of_set (layer_with_bare s i x) c.id (set_bare s i c.shape) (x ∷ [])) cs);
  fits = λ t s few (x, (cs, end)) w. then_done (λ f. map (λ c. c.id) f ≡ child_ids cs) (IsFitReply s (subdivide x cs)) (form_children t (parts_in s) [] cs w) _ (formed_ids t s (parts_in s) [] cs w) λ f w same. subdivide_fit t s x cs f same w;
}

-- consolidate
pub consolidate_plain : Plain consolidate_definition
consolidate_plain = record {
  same = λ t s (x, (ids, end)). consolidate_same t s x ids;
  rule = λ s formed (x, (ids, end)). moved (λ i. names_then (and_then (refuse_if (nat_lt (length ids) 2) too_few) (and_then (check_each (check_live_bare s i) ids) (and_then (check_repeated [] ids) (and_then (check_layers_bare s ids i) (check_new_bare s i x))))) accepts);
  change = λ s (x, (ids, end)). λ i. lots_replaced ids (lot_of_set (layer_of_first_bare s ids i) x (union_of (map (λ y. set_with_bare s i y) ids)) ids ∷ []);
  fits = λ t s few (x, (ids, end)) w. consolidate_fit t s x ids w;
}

-- retire
pub retire_plain : Plain retire_definition
retire_plain = record {
  same = λ t s (x, end). retire_same t s x;
  rule = λ s formed (x, end). moved (λ i. names_then (check_live_bare s i x) accepts);
  change = λ s os. refl;
  fits = λ t s few (x, end) w. retire_fit t s few x w;
}

-- layer
pub layer_plain : Plain layer_definition
layer_plain = record {
  same = λ t s os. refl;
  rule = λ s formed os vs h. h;
  change = λ s os. refl;
  fits = λ t s few (y, end) w. inr (record { says = refl; bare = refl; same = refl; sizes = tt });
}
