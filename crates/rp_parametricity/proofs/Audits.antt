-- An audit and a section over two testers, or over one: what the searches over pairs of lots come to is all that is asked.
use Rattle.std.proofs.Common.{◌≡◌, ℤ, Bool, true, false, List, [], ◌∷◌, map, length}
use Rattle.std.specs.List.{AllByRecursion}
use Rattle.rp_geometry.specs.Geometry.{HalfSpace}
use Rattle.rp_geometry.specs.sections.Slice.{Slice}
use Rattle.rp_geometry.specs.sets.Shape.{Part}
use Rattle.rp_language.specs.Name.{Label}
use Rattle.rp_language.specs.Expression.{Expression, Command, ask_audit, ask_section, first_unknown_among}
use Rattle.rp_semantics.specs.Walk.{Stop, taken_wrong, stopped, Walk, stop, ◌>>=◌, Tester}
use Rattle.rp_semantics.specs.Form.{common_nearby, near_pair}
use Rattle.rp_model.specs.states.State.{Lot, StateOf, live_lots, lots_of_layer, parts_in}
use Rattle.rp_model.specs.commands.Verdict.{Verdict, section_lines, unknown}
use Rattle.rp_model.specs.commands.Reply.{reply, reply_lines}
use Rattle.rp_model.specs.commands.Parts.{lot_parts}
use Rattle.rp_model.specs.commands.Audit.{count_in_layers, all_apart_from, all_apart}
use Rattle.rp_model.specs.commands.Row.{row}
use Rattle.rp_parametricity.proofs.Likeness.{Anything, Likeness, PartsHave, Related}
use Rattle.rp_parametricity.proofs.Forms.{after, form_alike, common_nearby_alike}
use Rattle.rp_parametricity.proofs.Kept.{IsVerdictProper, ReplyHas, StateHas, CommandHas, meaning_has, may_map, unknown_among_has}
use Rattle.rp_parametricity.proofs.Rows.{check_alike}
use Rattle.rp_parametricity.proofs.Trivial.{Any, AnyLabel, any_parts, any_state, any_command}
use Rattle.rp_parametricity.proofs.OneTester.{OutcomeFact, Fulfils, fulfils_then, one_walk, anything_done, TestsFulfil, related, row_fulfils}

-- searches behind which a walk goes on where nothing was found, and is stopped otherwise
pub record Searches {V W : Type 0} (like : Likeness V W) : Type 1 where
  pub Found : Walk V Bool → Walk W Bool → Type 0
  pub ends : {A : Type 0} (Q : A → Type 0) (m : Walk V Bool) (k : Walk W Bool) (n : Walk V A) (l : Walk W A) → Found m k → like.Alike Q n l
      → like.Alike Q (m >>= λ found. elim found [ true ↦ stop taken_wrong | false ↦ n ]) (k >>= λ found. elim found [ true ↦ stop taken_wrong | false ↦ l ])

module _ {V W : Type 0} (like : Likeness V W) (e : Searches like) (one : Tester V) (two : Tester W) where
  -- the searches of one list with others
  abbrev pub ListsSearched : List Part → List (List Part) → Type 0
  ListsSearched ps lists = AllByRecursion (λ qs. e.Found (common_nearby one ps qs) (common_nearby two ps qs)) lists

  -- those of each two lots of one layer
  abbrev pub LotsSearched : {S : Type 0} → List (Lot S) → Type 0
  LotsSearched [] = Unit {0}
  LotsSearched (l ∷ ls) = ListsSearched l.parts (lot_parts (lots_of_layer l.layer ls)) × LotsSearched ls

  -- one lot apart from others
  apart_from_alike : (ps : List Part) (lists : List (List Part)) → ListsSearched ps lists → like.Alike Anything (all_apart_from one ps lists) (all_apart_from two ps lists)
  apart_from_alike ps [] h = like.passes Anything tt tt
  apart_from_alike ps (qs ∷ lists) h = e.ends Anything _ _ _ _ h.0 (apart_from_alike ps lists h.1)

  -- each two lots apart
  pub all_apart_alike : {S : Type 0} (ls : List (Lot S)) → LotsSearched ls → like.Alike Anything (all_apart one ls) (all_apart two ls)
  all_apart_alike [] h = like.passes Anything tt tt
  all_apart_alike (l ∷ ls) h = after like Anything _ _ _ _ (apart_from_alike l.parts (lot_parts (lots_of_layer l.layer ls)) h.0) λ _. all_apart_alike ls h.1

module _ {V W : Type 0} (like : Likeness V W) (P : HalfSpace → Type 0) (N : Label → Type 0) (one : Tester V) (two : Tester W) (r : Related like P one two) where
  -- an audit
  pub audit_alike : (e : Searches like) {S : Type 0} (s : StateOf S) → LotsSearched like e one two (live_lots s.lots) → like.Alike (ReplyHas P N) (row one s ask_audit) (row two s ask_audit)
  audit_alike e s h =
      after like (ReplyHas P N) _ _ _ _ (r.count (count_in_layers near_pair (live_lots s.lots))) λ _.
      after like (ReplyHas P N) _ _ _ _ (all_apart_alike like e one two (live_lots s.lots) h) λ _.
      like.passes (ReplyHas P N) (reply (Verdict.clear (length (live_lots s.lots)))) ((tt, tt), tt)

  -- the lines of slices
  slices_proper : (slices : List Slice) → AllByRecursion (IsVerdictProper N) (map Verdict.slice slices)
  slices_proper [] = tt
  slices_proper (x ∷ slices) = (tt, slices_proper slices)

  -- a section, where slices are shown alike
  pub section_alike : ((z : ℤ) (ps : List Part) → like.Alike Anything (one.slices z ps) (two.slices z ps)) → {S : Type 0} (s : StateOf S) → StateHas P N s → (e : Expression) (z : ℤ) → CommandHas P N (ask_section e z)
      → like.Alike (ReplyHas P N) (row one s (ask_section e z)) (row two s (ask_section e z))
  section_alike slices s h e z k =
      check_alike like P N _ _ _ (may_map N unknown (λ _ n. n) (first_unknown_among (parts_in s) (e ∷ [])) (unknown_among_has P N (parts_in s) (e ∷ []) k.shapes))
      (like.binds (PartsHave P) (ReplyHas P N) _ _ _ _ (form_alike like P one two r N (parts_in s) (meaning_has P N s h) e k.shapes.0) λ ps _.
      after like (ReplyHas P N) _ _ _ _ (slices z ps) λ found. like.passes (ReplyHas P N) (reply_lines (section_lines found)) ((tt, slices_proper found), tt))

-- ---- over one tester

module _ {W : Type 0} (fact : OutcomeFact W) where
  -- where nothing is found
  unfoldable pub none_found : Searches (one_walk fact)
  unfolding one_walk
  none_found = record {
    Found = λ m k. Fulfils fact (λ b. b ≡ false) m;
    ends = λ Q m k n l h g w. fulfils_then fact (λ b. b ≡ false) Q w (m w) _ (h w) (by Q n g);
  }
    where
      by : {A : Type 0} (Q : A → Type 0) (n : Walk W A) → Fulfils fact Q n → (b : Bool) → b ≡ false → Fulfils fact Q (elim b as (λ _. Walk W A) [ true ↦ stop taken_wrong | false ↦ n ])
      by Q n g true e = absurd (cc)
      by Q n g false e = g

  -- where the fact holds of each stop
  unfoldable pub any_found : ((A : Type 0) (e : Stop) (w : W) → fact.Of {A = A} w (stopped e w)) → Searches (one_walk fact)
  unfolding one_walk
  any_found stops = record {
    Found = λ m k. Fulfils fact Anything m;
    ends = λ Q m k n l h g w. fulfils_then fact Anything Q w (m w) _ (h w) (λ b _. by Q n g b);
  }
    where
      by : {A : Type 0} (Q : A → Type 0) (n : Walk W A) → Fulfils fact Q n → (b : Bool) → Fulfils fact Q (elim b as (λ _. Walk W A) [ true ↦ stop taken_wrong | false ↦ n ])
      by {A = A} Q n g true = λ w. (stops A taken_wrong w, tt)
      by Q n g false = g

  module _ (t : Tester W) (tests : TestsFulfil fact t) (slices : (z : ℤ) (ps : List Part) (w : W) → fact.Of w (t.slices z ps w)) where
    -- the row of each command, where an audit searches so
    pub all_rows_fulfil : (e : Searches (one_walk fact)) → {S : Type 0} (s : StateOf S) → LotsSearched (one_walk fact) e t t (live_lots s.lots) → (c : Command) (w : W) → fact.Of w (row t s c w)
    unfolding one_walk
    all_rows_fulfil e s h ask_audit w = (audit_alike (one_walk fact) Any AnyLabel t t (related fact t tests) e s h w).0
    all_rows_fulfil e s h (ask_section f z) w =
        (section_alike (one_walk fact) Any AnyLabel t t (related fact t tests) (λ z ps w. (slices z ps w, anything_done fact (t.slices z ps w))) s (any_state s) f z (any_command (ask_section f z)) w).0
    all_rows_fulfil e s h c w = row_fulfils fact t tests s c tt w

    -- where the fact holds of each stop nothing is asked of an audit
    pub each_row_fulfils : ((A : Type 0) (e : Stop) (w : W) → fact.Of {A = A} w (stopped e w)) → {S : Type 0} (s : StateOf S) (c : Command) (w : W) → fact.Of w (row t s c w)
    unfolding one_walk any_found
    each_row_fulfils stops s c w = all_rows_fulfil (any_found stops) s (lots (live_lots s.lots)) c w
      where
        lists : (ps : List Part) (others : List (List Part)) → ListsSearched (one_walk fact) (any_found stops) t t ps others
        lists ps [] = tt
        lists ps (qs ∷ others) = (common_nearby_alike (one_walk fact) Any t t (related fact t tests) ps qs (any_parts ps) (any_parts qs), lists ps others)

        lots : {S : Type 0} (ls : List (Lot S)) → LotsSearched (one_walk fact) (any_found stops) t t ls
        lots [] = tt
        lots (l ∷ ls) = (lists l.parts (lot_parts (lots_of_layer l.layer ls)), lots ls)
