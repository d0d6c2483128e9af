-- The rows of changes and questions come to the same behind any earlier lines.
use Rattle.std.proofs.Common.{◌≡◌, Bool, true, false, cond, List, [], ◌∷◌, length, refl, sym, subst}
use Rattle.std.specs.Prelude.{IsTrue, ◌↔◌}
use Rattle.std.specs.List.{AllByRecursion}
use Rattle.rp_geometry.specs.searches.ProofLine.{ProofLine}
use Rattle.rp_geometry.specs.sets.Shape.{Part, shape_of_parts}
use Rattle.rp_geometry.specs.sets.Sets.{Overlaps}
use Rattle.rp_geometry.specs.parts.Parts.{IsRegion}
use Rattle.rp_language.specs.Name.{Label, label_eq}
use Rattle.rp_semantics.specs.Walk.{Outcome, done, stopped, Walk, Work, first_tester}
use Rattle.rp_semantics.specs.Form.{near_pair, common_nearby}
use Rattle.rp_semantics.specs.FormLaws.{IfDone}
use Rattle.rp_semantics.proofs.Outcomes.{weaker_done}
use Rattle.rp_model.specs.states.State.{Lot, PlainState, live_lots, lots_of_layer}
use Rattle.rp_model.specs.states.Sound.{Pairwise}
use Rattle.rp_model.specs.commands.Verdict.{clear}
use Rattle.rp_model.specs.commands.Reply.{Reply, reply}
use Rattle.rp_model.specs.commands.Subdivide.{FormedChild, row_subdivide}
use Rattle.rp_model.specs.commands.Parts.{lot_parts}
use Rattle.rp_model.specs.commands.Audit.{count_in_layers, all_apart_from, all_apart, row_audit}
use Rattle.rp_model.specs.commands.Register.{row_register}
use Rattle.rp_model.specs.commands.Cut.{row_cut}
use Rattle.rp_model.specs.commands.Consolidate.{row_consolidate}
use Rattle.rp_model.specs.commands.Neighbours.{row_neighbours}
use Rattle.rp_model.specs.commands.Access.{row_access}
use Rattle.rp_row_soundness.proofs.Right.{first_walks_are_right}
use Rattle.rp_states.proofs.Labels.{label_is}
use Rattle.rp_history.specs.Lots.{lots_in}
use Rattle.rp_proximity.proofs.Skipped.{apart_on}
use Rattle.rp_region.proofs.Behind.{ComesBehind}
use Rattle.rp_parametricity.proofs.Kept.{FormedHave, ReplyHas}
use Rattle.rp_checker_completeness.proofs.Commands.{Any, AnyLabel, any_parts, any_labels, any_state}
use Rattle.rp_parametricity.proofs.Rows.{register_alike, cut_alike, subdivide_alike, consolidate_alike, neighbours_alike, access_alike}
use Rattle.rp_parametricity.proofs.Likeness.{Anything}
use Rattle.rp_parametricity.proofs.Forms.{after, common_nearby_alike}
use Rattle.rp_eval.proofs.Appended.{behind, Again, Appended, appended, binds_appended, related_appended, ends_behind, stops_behind}
use Rattle.rp_parcels.specs.Kept.{AreSound}
use Rattle.rp_parcels.proofs.Alone.{ApartLots, live_apart}
use Rattle.rp_parcels.proofs.Sizes.{live_regions}

-- a row that is like itself with lines in front
row_behind : (row : Walk Work Reply) → Appended (ReplyHas Any AnyLabel) row row → ComesBehind row
row_behind row h = record { ends = ends_behind (ReplyHas Any AnyLabel) row h; stops = stops_behind (ReplyHas Any AnyLabel) row h }

-- nothing is asked of children
any_children : (cs : List FormedChild) → FormedHave Any AnyLabel cs
any_children [] = tt
any_children (c ∷ cs) = ((tt, any_parts c.parts), any_children cs)

module _ (s : PlainState) where
  -- a registration
  pub register_behind : (x : Label) (ps : List Part) → ComesBehind (row_register first_tester s x ps)
  unfolding appended
  register_behind x ps = row_behind (row_register first_tester s x ps) (register_alike appended Any AnyLabel first_tester first_tester related_appended s (any_state s) x tt ps (any_parts ps))

  -- a cut
  pub cut_behind : (x : Label) (ps : List Part) (first second : Label) → ComesBehind (row_cut first_tester s x ps first second)
  unfolding appended
  cut_behind x ps first second = row_behind (row_cut first_tester s x ps first second) (cut_alike appended Any AnyLabel first_tester first_tester related_appended s (any_state s) x ps first second tt tt tt (any_parts ps))

  -- a subdivision
  pub subdivide_behind : (x : Label) (cs : List FormedChild) → ComesBehind (row_subdivide first_tester s x cs)
  unfolding appended
  subdivide_behind x cs = row_behind (row_subdivide first_tester s x cs) (subdivide_alike appended Any AnyLabel first_tester first_tester related_appended s (any_state s) x tt cs (any_children cs))

  -- a consolidation
  pub consolidate_behind : (x : Label) (ids : List Label) → ComesBehind (row_consolidate s x ids)
  unfolding appended
  consolidate_behind x ids = row_behind (row_consolidate s x ids) (consolidate_alike appended Any AnyLabel s (any_state s) x ids tt (any_labels ids))

  -- neighbours
  pub neighbours_behind : (x : Label) → ComesBehind (row_neighbours first_tester s x)
  unfolding appended
  neighbours_behind x = row_behind (row_neighbours first_tester s x) (neighbours_alike appended Any AnyLabel first_tester first_tester related_appended s (any_state s) x tt)

  -- access
  pub access_behind : (x y : Label) → ComesBehind (row_access first_tester s x y)
  unfolding appended
  access_behind x y = row_behind (row_access first_tester s x y) (access_alike appended Any AnyLabel first_tester first_tester related_appended s (any_state s) x y tt tt)

-- ---- an audit: its pairs share no point, so it is never stopped but by a limit

-- a walk that comes behind any lines to what it comes to without, of which more is known
known_appended : {A : Type 0} (P : A → Type 0) (walk : Walk Work A) → Appended Anything walk walk → ((w : Work) → IfDone (walk w) P) → Appended P walk walk
known_appended {A = A} P walk h known = record { again = λ front w. by front (walk w) (walk (behind front w)) (h.again front w) (known w) }
  where
    by : (front : List ProofLine) (o p : Outcome Work A) → Again Anything front o p → IfDone o P → Again P front o p
    by front (done x v) p g k = (g.0, k)
    by front (stopped s v) p g k = g

-- the tests of two lists that share no point find none
none_found : (ps qs : List Part) → IsRegion ps → IsRegion qs → ¬ Overlaps (shape_of_parts ps) (shape_of_parts qs) → (w : Work) → IfDone (common_nearby first_tester ps qs w) (λ found. found ≡ false)
none_found ps qs h k apart w = weaker_done (λ found. IsTrue found ↔ Overlaps (shape_of_parts ps) (shape_of_parts qs)) (λ found. found ≡ false) (common_nearby first_tester ps qs w) (first_walks_are_right.commons ps qs h k w).1 by
  where
    by : (b : Bool) → (IsTrue b ↔ Overlaps (shape_of_parts ps) (shape_of_parts qs)) → b ≡ false
    by true f = absurd (apart (f.0 refl))
    by false f = refl

-- a list is shown apart from others of which it is
apart_from_appended : (ps : List Part) (lists : List (List Part)) → IsRegion ps → AllByRecursion (λ qs. IsRegion qs × ¬ Overlaps (shape_of_parts ps) (shape_of_parts qs)) lists → Appended Anything (all_apart_from first_tester ps lists) (all_apart_from first_tester ps lists)
unfolding appended
apart_from_appended ps [] h apart = appended.passes Anything tt tt
apart_from_appended ps (qs ∷ lists) h apart =
    binds_appended (λ found. found ≡ false) Anything (common_nearby first_tester ps qs) (common_nearby first_tester ps qs) (apart_on first_tester ps lists) (apart_on first_tester ps lists)
    (known_appended (λ found. found ≡ false) (common_nearby first_tester ps qs) (common_nearby_alike appended Any first_tester first_tester related_appended ps qs (any_parts ps) (any_parts qs)) (none_found ps qs h apart.0.0 apart.0.1))
    λ found e. subst (λ (b : Bool). Appended Anything (apart_on first_tester ps lists b) (apart_on first_tester ps lists b)) (sym e) (apart_from_appended ps lists h apart.1)

-- so are each two lots
apart_appended : (lots : List (Lot (Unit {0}))) → AllByRecursion (λ l. IsRegion l.parts) lots → Pairwise ApartLots lots → Appended Anything (all_apart first_tester lots) (all_apart first_tester lots)
unfolding appended
apart_appended [] h apart = appended.passes Anything tt tt
apart_appended (l ∷ lots) h apart =
    after appended Anything _ _ _ _ (apart_from_appended l.parts (lot_parts (lots_of_layer l.layer lots)) h.0 (others lots h.1 apart.0)) λ _. apart_appended lots h.1 apart.1
  where
    -- the others of its layer
    others : (ls : List (Lot (Unit {0}))) → AllByRecursion (λ m. IsRegion m.parts) ls → AllByRecursion (ApartLots l) ls → AllByRecursion (λ qs. IsRegion qs × ¬ Overlaps (shape_of_parts l.parts) (shape_of_parts qs)) (lot_parts (lots_of_layer l.layer ls))
    others [] r a = tt
    others (m ∷ ls) r a = by (label_eq m.layer l.layer) refl (others ls r.1 a.1)
      where
        by : (b : Bool) → label_eq m.layer l.layer ≡ b → AllByRecursion (λ qs. IsRegion qs × ¬ Overlaps (shape_of_parts l.parts) (shape_of_parts qs)) (lot_parts (lots_of_layer l.layer ls))
            → AllByRecursion (λ qs. IsRegion qs × ¬ Overlaps (shape_of_parts l.parts) (shape_of_parts qs)) (lot_parts (cond b (m ∷ lots_of_layer l.layer ls) (lots_of_layer l.layer ls)))
        by true e later = ((r.0, a.0 (sym (label_is m.layer l.layer e))), later)
        by false e later = later

-- an audit of sound lots
pub audit_behind : (lots : List (Lot (Unit {0}))) → AreSound lots → ComesBehind (row_audit first_tester (lots_in [] lots))
unfolding appended
audit_behind lots sound =
    row_behind (row_audit first_tester (lots_in [] lots))
    (after appended (ReplyHas Any AnyLabel) _ _ _ _ (related_appended.count (count_in_layers near_pair (live_lots lots))) λ _.
    after appended (ReplyHas Any AnyLabel) _ _ _ _ (apart_appended (live_lots lots) (live_regions lots sound) (live_apart lots sound)) λ _.
    appended.passes (ReplyHas Any AnyLabel) (reply (clear (length (live_lots lots)))) ((tt, tt), tt))
