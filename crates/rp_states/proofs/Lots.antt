-- The laws over states of the questions about lots, and of member.
use Rattle.rp_algebra.proofs.Lists.{map_get}
use Rattle.rp_algebra.proofs.Options.{none_not_some, same_some}
use Rattle.rp_chains.proofs.Related.{AreStepsOf, chosen_there, levels_there}
use Rattle.rp_geometry.specs.Geometry.{RationalPoint}
use Rattle.rp_geometry.specs.sets.Chain.{AreLevelsBy, IsChosenBy}
use Rattle.rp_geometry.specs.sets.Contact.{IsInContact}
use Rattle.rp_geometry.specs.sets.Shape.{Part, is_member, Shape, IsMember}
use Rattle.rp_language.specs.Expression.{Command, resolve_names, ask_neighbours, ask_history, ask_at, ask_as_of, ask_audit, ask_list, ask_access}
use Rattle.rp_language.specs.Name.{Label, label_eq, is_among}
use Rattle.rp_model.specs.commands.Access.{AreInContactAt, tells_access, rule_access, access_by_links, links_among_lists, row_access, access_definition}
use Rattle.rp_model.specs.commands.At.{owner_line, parcel_at, at_definition}
use Rattle.rp_model.specs.commands.Audit.{count_in_layers, all_apart, row_audit, all_apart_from, audit_definition}
use Rattle.rp_model.specs.commands.Checks.{refuse_if, and_then, check_access, check_live, check_registered}
use Rattle.rp_model.specs.commands.History.{row_history, history_definition}
use Rattle.rp_model.specs.commands.Neighbours.{AreSelected, rule_neighbours, touched_lots, row_neighbours, neighbours_definition}
use Rattle.rp_model.specs.commands.Parts.{is_in_parts, parts_with_id, lot_parts, count_with_each, count_among, numbered_lists, shapes_of_parts}
use Rattle.rp_model.specs.commands.Reply.{Reply, reply_lines, reply, yes_or_no, check}
use Rattle.rp_model.specs.commands.Rules.{Rule, answers, yes_where, names_then}
use Rattle.rp_model.specs.commands.Verdict.{Refusal, Verdict, unknown, access_lines, layers, neighbour_lines, lot_lines}
use Rattle.rp_model.specs.states.State.{Lot, State, live_lots, is_alive_after, alive_after, ids_of, place_among, lots_of_layer, present_lots, layer_lots, other_live_lots_of_layer, lineage, bare_lot, sets_only, StateOf, plain_lot, parts_only}
use Rattle.rp_reports.specs.TrueReport.{is_accepted_change}
use Rattle.rp_states.proofs.Bare.{live_bare, ids_bare, counted_bare, of_layer_bare, lineage_bare, by_names, moved, set_bare, set_with_bare, check_live_bare, layer_with_bare, present_bare, layer_bare, near_bare}
use Rattle.rp_states.proofs.Picked.{pick}
use Rattle.rp_states.proofs.Plain.{kept_images, live_same, alive_same, of_layer_same, layer_with_same, present_same, layer_same, near_same, ids_same, lot_parts_same, lines_same, owner_same, lineage_same, touched_same, meaning_same, check_live_same, parts_with_same}
use Rattle.rp_states.proofs.Walks.{if_checked}
use Rattle.rp_semantics.proofs.Outcomes.{after_done}
use Rattle.rp_semantics.specs.Form.{near_pair, touching_pair}
use Rattle.rp_semantics.specs.FormLaws.{IfDone}
use Rattle.rp_semantics.specs.Walk.{Walk, pass, Tester, ◌>>◌, ◌>>=◌}
use Rattle.std.proofs.Common.{◌≡◌, ℕ, Bool, true, false, not, ◌⊎◌, inl, List, [], ◌∷◌, map, length, Some, refl, sym, ap, ap₂, ◌∙◌, subst, None, Option, option_map, ◌+◌}
use Rattle.std.proofs.lemmas.List.{length-map}
use Rattle.std.specs.List.{slice_get}
use Rattle.rp_states.proofs.Fits.{IsFitReply, yes_or_no_answers, refuses_fit, lines_fit, Plain}
use Rattle.rp_model.specs.commands.Member.{member_definition}
use Rattle.rp_model.specs.commands.Asof.{asof_definition}
use Rattle.rp_model.specs.commands.List.{list_definition}

-- ---- rows read parts alone

module _ {S W : Type 0} (t : Tester W) (s : StateOf S) where
  -- the number of some lots, and their lines
  counted_same : (count : ℕ → Verdict) (ls : List (Lot S)) → count (length (map plain_lot ls)) ∷ lot_lines (map plain_lot ls) ≡ count (length ls) ∷ lot_lines ls
  counted_same count ls = ap₂ (λ (n : ℕ) (vs : List Verdict). count n ∷ vs) (length-map ls plain_lot) (lines_same ls)

  -- a history
  history_same : (x : Label) → ◌≡◌ {A = Walk W Reply} (row_history (parts_only s) x) (row_history s x)
  history_same x =
      let lines : Verdict.lots (length (lineage x (map plain_lot s.lots))) ∷ lot_lines (lineage x (map plain_lot s.lots)) ≡ Verdict.lots (length (lineage x s.lots)) ∷ lot_lines (lineage x s.lots) =
      ap (λ (ls : List (Lot (Unit {0}))). Verdict.lots (length ls) ∷ lot_lines ls) (lineage_same x s.lots) ∙ counted_same Verdict.lots (lineage x s.lots) in
      λ i. check (refuse_if (not (is_among x (ids_same s.lots i))) (unknown x)) (pass (reply_lines (lines i)))

  -- neighbours
  neighbours_same : (x : Label) → ◌≡◌ {A = Walk W Reply} (row_neighbours t (parts_only s) x) (row_neighbours t s x)
  neighbours_same x =
      let lists : lot_parts (other_live_lots_of_layer (parts_only s) x) ≡ lot_parts (other_live_lots_of_layer s x) = ap lot_parts (near_same s x) ∙ lot_parts_same (other_live_lots_of_layer s x) in
      let touched : (ps : List Part) → touched_lots t [] ps (other_live_lots_of_layer (parts_only s) x) ≡ touched_lots t [] ps (other_live_lots_of_layer s x) = λ ps. ap (touched_lots t [] ps) (near_same s x) ∙ touched_same t [] ps (other_live_lots_of_layer s x) in
      λ i. check (check_live_same s i x) do
        t.count (count_with_each touching_pair (parts_with_same s i x) (lists i))
        found ← touched (parts_with_same s i x) i
        pass (reply_lines (neighbour_lines found))

  -- the checks of access
  check_access_same : (x y : Label) → check_access (parts_only s) x y ≡ check_access s x y
  check_access_same x y = λ i. and_then (check_live_same s i x) (and_then (check_live_same s i y) (refuse_if (not (label_eq (layer_with_same s i y) (layer_with_same s i x))) (layers y)))

  -- access
  pub access_same : (x y : Label) → ◌≡◌ {A = Walk W Reply} (row_access t (parts_only s) x y) (row_access t s x y)
  access_same x y =
      let lots = layer_same s x in
      let lists : lot_parts (layer_lots (parts_only s) x) ≡ lot_parts (layer_lots s x) = ap lot_parts lots ∙ lot_parts_same (layer_lots s x) in
      let ids : ids_of (layer_lots (parts_only s) x) ≡ ids_of (layer_lots s x) = ap ids_of lots ∙ ids_same (layer_lots s x) in
      λ i. check (check_access_same x y i) do
        t.count (count_among touching_pair (lists i))
        links ← links_among_lists t [] (numbered_lists 0 (lists i))
        pass (reply_lines (access_by_links (ids i) links x y))

  -- lists of parts of the lots of a layer
  layer_lists_same : (y : Label) (ls : List (Lot S)) → lot_parts (lots_of_layer y (map plain_lot ls)) ≡ lot_parts (lots_of_layer y ls)
  layer_lists_same y ls = ap lot_parts (of_layer_same y ls) ∙ lot_parts_same (lots_of_layer y ls)

  -- the pairs of parts of each two lots of one layer
  pairs_same : (ls : List (Lot S)) → count_in_layers near_pair (map plain_lot ls) ≡ count_in_layers near_pair ls
  pairs_same [] = refl
  pairs_same (l ∷ ls) = ap₂ (λ (lists : List (List Part)) (n : ℕ). count_with_each near_pair l.parts lists + n) (layer_lists_same l.layer ls) (pairs_same ls)

  -- each two lots of one layer
  apart_same : (ls : List (Lot S)) → all_apart t (map plain_lot ls) ≡ all_apart t ls
  apart_same [] = refl
  apart_same (l ∷ ls) = λ i. all_apart_from t l.parts (layer_lists_same l.layer ls i) >> apart_same ls i

  -- an audit
  audit_same : ◌≡◌ {A = Walk W Reply} (row_audit t (parts_only s)) (row_audit t s)
  audit_same =
      let count : length (live_lots (map plain_lot s.lots)) ≡ length (live_lots s.lots) = ap length (live_same s.lots) ∙ length-map (live_lots s.lots) plain_lot in
      let pairs : count_in_layers near_pair (live_lots (map plain_lot s.lots)) ≡ count_in_layers near_pair (live_lots s.lots) = ap (count_in_layers near_pair) (live_same s.lots) ∙ pairs_same (live_lots s.lots) in
      let apart : all_apart t (live_lots (map plain_lot s.lots)) ≡ all_apart t (live_lots s.lots) = ap (all_apart t) (live_same s.lots) ∙ apart_same (live_lots s.lots) in
      λ i. do
        t.count (pairs i)
        apart i
        pass (reply (Verdict.clear (count i)))

  -- the owner of a point
  owners_same : (p : RationalPoint) (ls : List (Lot S)) (ks : List (Lot (Unit {0}))) → ks ≡ map plain_lot ls → owner_line ks p ≡ owner_line ls p
  owners_same p ls ks e = ap (λ (js : List (Lot (Unit {0}))). owner_line js p) e ∙ owner_same ls p

-- ---- rules read sets alone

-- the parcel at a point
parcel_bare : (ls : List (Lot Shape)) (p : RationalPoint) → parcel_at (map bare_lot ls) p ≡ parcel_at ls p
parcel_bare [] p = refl
parcel_bare (l ∷ ls) p = ap (λ (rest : Rule). pick (is_member l.set p) (answers (Verdict.parcel l.id ∷ [])) rest) (parcel_bare ls p)

-- the lots in contact with a set
selected_bare : (a : Shape) (ls : List (Lot Shape)) → AreSelected (λ l. IsInContact a l.set) (map bare_lot ls) ≡ AreSelected (λ l. IsInContact a l.set) ls
selected_bare a [] = refl
selected_bare a (l ∷ ls) = λ i ids. ((others : List Label) × IsInContact a l.set × (ids ≡ l.id ∷ others) × selected_bare a ls i others) ⊎ ((¬ IsInContact a l.set) × selected_bare a ls i ids)

-- the lot at a place without its parts
got_bare : (ls : List (Lot Shape)) (i : ℕ) (b : Lot Shape) → slice_get (map bare_lot ls) i ≡ Some b → (l : Lot Shape) × (slice_get ls i ≡ Some l) × (bare_lot l ≡ b)
got_bare ls i b e = by (slice_get ls i) refl
  where
    by : (o : Option (Lot Shape)) → slice_get ls i ≡ o → (l : Lot Shape) × (slice_get ls i ≡ Some l) × (bare_lot l ≡ b)
    by None f = absurd (none_not_some b (sym (map_get bare_lot ls i ∙ ap (option_map bare_lot) f) ∙ e))
    by (Some l) f = (l, f, same_some (bare_lot l) b (sym (map_get bare_lot ls i ∙ ap (option_map bare_lot) f) ∙ e))

-- contact between the lots at two places
contact_bare : (ls : List (Lot Shape)) → AreStepsOf (AreInContactAt ls) (AreInContactAt (map bare_lot ls))
contact_bare ls = record {
  there = λ i j h. (bare_lot h.0, bare_lot h.1, map_get bare_lot ls i ∙ ap (option_map bare_lot) h.2, map_get bare_lot ls j ∙ ap (option_map bare_lot) h.3, h.4);
  back = λ i j h.
      let l = got_bare ls i h.0 h.2 in
      let k = got_bare ls j h.1 h.3 in
      inl (l.0, k.0, l.1, k.1, subst (λ (b : Shape). IsInContact l.0.set b) (sym (ap (λ (m : Lot Shape). m.set) k.2)) (subst (λ (a : Shape). IsInContact a h.1.set) (sym (ap (λ (m : Lot Shape). m.set) l.2)) h.4));
}

-- the chain and the levels among lots
tells_bare : (x y : Label) (ls : List (Lot Shape)) (vs : List Verdict) → tells_access ls x y vs → tells_access (map bare_lot ls) x y vs
tells_bare x y ls vs h =
    let R = AreInContactAt (map bare_lot ls) in
    let chosen = chosen_there (AreInContactAt ls) R (contact_bare ls) (place_among x (ids_of ls)) (place_among y (ids_of ls)) h.0 h.2 in
    let levels = levels_there (AreInContactAt ls) R (contact_bare ls) (length ls) (place_among y (ids_of ls)) h.1 h.3 in
    let same = sym (ids_bare ls) in (
      h.0,
      h.1,
      subst (λ (ids : List Label). IsChosenBy R (place_among x ids) (place_among y ids) h.0) same chosen,
      subst (λ (n : ℕ). AreLevelsBy R n (place_among y (ids_of (map bare_lot ls))) h.1) (sym (length-map ls bare_lot)) (subst (λ (ids : List Label). AreLevelsBy R (length ls) (place_among y ids) h.1) same levels),
      subst (λ (ids : List Label). answers (access_lines ids h.0 h.1) vs) same h.4,
    )

module _ (s : State) where
  -- the rule of neighbours
  neighbours_bare : (x : Label) → rule_neighbours (sets_only s) x ≡ rule_neighbours s x
  neighbours_bare x =
      let selected : (a : Shape) → AreSelected (λ l. IsInContact a l.set) (other_live_lots_of_layer (sets_only s) x) ≡ AreSelected (λ l. IsInContact a l.set) (other_live_lots_of_layer s x) = λ a. ap (AreSelected (λ l. IsInContact a l.set)) (near_bare s x) ∙ selected_bare a (other_live_lots_of_layer s x) in
      λ i. names_then (check_live_bare s i x) (λ given. (ids : List Label) × selected (set_with_bare s i x) i ids × answers (neighbour_lines ids) given)

  -- the checks of access
  check_access_bare : (x y : Label) → check_access (sets_only s) x y ≡ check_access s x y
  check_access_bare x y = λ i. and_then (check_live_bare s i x) (and_then (check_live_bare s i y) (refuse_if (not (label_eq (layer_with_bare s i y) (layer_with_bare s i x))) (layers y)))

  -- the rule of access
  access_bare : (x y : Label) (vs : List Verdict) → rule_access s x y vs → rule_access (sets_only s) x y vs
  access_bare x y vs h =
      subst (λ (o : Option Refusal). names_then o (tells_access (layer_lots (sets_only s) x) x y) vs) (sym (check_access_bare x y))
      (by_names (check_access s x y) (tells_access (layer_lots s x) x y) (tells_access (layer_lots (sets_only s) x) x y) vs
      (λ k. subst (λ (ls : List (Lot Shape)). tells_access ls x y vs) (sym (layer_bare s x)) (tells_bare x y (layer_lots s x) vs k)) h)

-- ---- replies fit

module _ {W : Type 0} (t : Tester W) (s : State) where
  -- the line about an owner does not say ok
  owner_fit : (c : Command) (lots : List (Lot Shape)) (p : RationalPoint) → IsFitReply s c (reply (owner_line lots p))
  owner_fit c [] p = lines_fit s c _ refl
  owner_fit c (l ∷ lots) p = by (is_in_parts l.parts p) (owner_fit c lots p)
    where
      by : (b : Bool) → IsFitReply s c (reply (owner_line lots p)) → IsFitReply s c (reply (pick b (Verdict.parcel l.id) (owner_line lots p)))
      by true h = lines_fit s c _ refl
      by false h = h

  -- neighbours
  neighbours_fit : (c : Command) (x : Label) (w : W) → IfDone (row_neighbours t s x w) (IsFitReply s c)
  neighbours_fit c x w =
      let Q = IsFitReply s c in
      if_checked Q (check_live s x) _ w (refuses_fit s c)
      (after_done Q (t.count (count_with_each touching_pair (parts_with_id s x) (lot_parts (other_live_lots_of_layer s x))) w) _ λ u w.
      after_done Q (touched_lots t [] (parts_with_id s x) (other_live_lots_of_layer s x) w) _ λ found w.
      lines_fit s c _ refl)

  -- a chain and levels, or none, do not say ok alone
  access_not_ok : (ids : List Label) (chosen : Option (List ℕ)) (levels : List (Option ℕ)) → is_accepted_change (access_lines ids chosen levels) ≡ false
  access_not_ok ids None levels = refl
  access_not_ok ids (Some places) levels = refl

  -- access
  access_fit : (c : Command) (x y : Label) (w : W) → IfDone (row_access t s x y w) (IsFitReply s c)
  access_fit c x y w =
      let Q = IsFitReply s c in
      if_checked Q (check_access s x y) _ w (refuses_fit s c)
      (after_done Q (t.count (count_among touching_pair (lot_parts (layer_lots s x))) w) _ λ u w.
      after_done Q (links_among_lists t [] (numbered_lists 0 (lot_parts (layer_lots s x))) w) _ λ links w.
      lines_fit s c _ (access_not_ok (ids_of (layer_lots s x)) _ _))

  -- an audit
  audit_fit : (c : Command) (w : W) → IfDone (row_audit t s w) (IsFitReply s c)
  audit_fit c w =
      let Q = IsFitReply s c in
      after_done Q (t.count (count_in_layers near_pair (live_lots s.lots)) w) _ λ u w.
      after_done Q (all_apart t (live_lots s.lots) w) _ λ u w.
      lines_fit s c _ refl

-- ---- the laws of each

-- member
pub member_plain : Plain member_definition
member_plain = record {
  same = λ t s (e, (p, end)). λ i. pass (yes_or_no (is_member (resolve_names (shapes_of_parts (meaning_same s i)) e) p));
  rule = λ s formed (e, (p, end)). moved (λ i. yes_where (IsMember (set_bare s i e) p));
  change = λ s os. refl;
  fits = λ t s few (e, (p, end)) w. inl (yes_or_no_answers _);
}

-- neighbours
pub neighbours_plain : Plain neighbours_definition
neighbours_plain = record {
  same = λ t s (x, end). neighbours_same t s x;
  rule = λ s formed (x, end). moved (neighbours_bare s x);
  change = λ s os. refl;
  fits = λ t s few (x, end) w. neighbours_fit t s (ask_neighbours x) x w;
}

-- history
pub history_plain : Plain history_definition
history_plain = record {
  same = λ t s (x, end). history_same t s x;
  rule = λ s formed (x, end). moved (let lines = ap (λ (ls : List (Lot Shape)). Verdict.lots (length ls) ∷ lot_lines ls) (lineage_bare x s.lots) ∙ counted_bare Verdict.lots (lineage x s.lots) in
      λ i. names_then (refuse_if (not (is_among x (ids_bare s.lots i))) (unknown x)) (answers (lines i)));
  change = λ s os. refl;
  fits = λ t s few (x, end) w. if_checked (IsFitReply s (ask_history x)) (check_registered s x) _ w (refuses_fit s (ask_history x)) (lines_fit s (ask_history x) _ refl);
}

-- at
pub at_plain : Plain at_definition
at_plain = record {
  same = λ t s (p, end). ap (λ (v : Verdict). pass (reply v)) (owners_same t s p (present_lots s) (present_lots (parts_only s)) (present_same s));
  rule = λ s formed (p, end). moved (ap (λ (ls : List (Lot Shape)). parcel_at ls p) (present_bare s) ∙ parcel_bare (present_lots s) p);
  change = λ s os. refl;
  fits = λ t s few (p, end) w. owner_fit t s (ask_at p) (present_lots s) p;
}

-- asof
pub asof_plain : Plain asof_definition
asof_plain = record {
  same = λ t s (n, (p, end)). ap (λ (v : Verdict). pass (reply v)) (owners_same t s p (lots_of_layer s.layer (alive_after n s.lots)) (lots_of_layer s.layer (alive_after n (map plain_lot s.lots))) (ap (lots_of_layer s.layer) (alive_same n s.lots) ∙ of_layer_same s.layer (alive_after n s.lots)));
  rule = λ s formed (n, (p, end)). moved (ap (λ (ls : List (Lot Shape)). parcel_at (lots_of_layer s.layer ls) p) (kept_images bare_lot (is_alive_after n) s.lots) ∙ ap (λ (ls : List (Lot Shape)). parcel_at ls p) (of_layer_bare s.layer (alive_after n s.lots)) ∙ parcel_bare (lots_of_layer s.layer (alive_after n s.lots)) p);
  change = λ s os. refl;
  fits = λ t s few (n, (p, end)) w. owner_fit t s (ask_as_of n p) (lots_of_layer s.layer (alive_after n s.lots)) p;
}

-- audit
pub audit_plain : Plain audit_definition
audit_plain = record {
  same = λ t s os. audit_same t s;
  rule = λ s formed os. moved (ap (λ (n : ℕ). answers (Verdict.clear n ∷ [])) (ap length (live_bare s.lots) ∙ length-map (live_lots s.lots) bare_lot));
  change = λ s os. refl;
  fits = λ t s few os w. audit_fit t s ask_audit w;
}

-- list
pub list_plain : Plain list_definition
list_plain = record {
  same = λ t s os. ap (λ (vs : List Verdict). pass (reply_lines vs)) (ap (λ (ls : List (Lot (Unit {0}))). Verdict.parcels (length ls) ∷ lot_lines ls) (live_same s.lots) ∙ counted_same t s Verdict.parcels (live_lots s.lots));
  rule = λ s formed os. moved (ap answers (ap (λ (ls : List (Lot Shape)). Verdict.parcels (length ls) ∷ lot_lines ls) (live_bare s.lots) ∙ counted_bare Verdict.parcels (live_lots s.lots)));
  change = λ s os. refl;
  fits = λ t s few os w. lines_fit s ask_list _ refl;
}

-- access
pub access_plain : Plain access_definition
access_plain = record {
  same = λ t s (x, (y, end)). access_same t s x y;
  rule = λ s formed (x, (y, end)). access_bare s x y;
  change = λ s os. refl;
  fits = λ t s few (x, (y, end)) w. access_fit t s (ask_access x y) x y w;
}
