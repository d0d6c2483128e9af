-- A lot that is subdivided: the row meets its rule, and the children's parts have the members of their sets.
use Rattle.std.proofs.Common.{◌≡◌, ℕ, ◌+◌, Bool, true, false, not, List, [], ◌∷◌, ◌++◌, length, map, inl, inr, refl, ap, sym, ◌∙◌, subst}
use Rattle.std.proofs.lemmas.List.{append_assoc}
use Rattle.std.specs.Prelude.{IsTrue, ◌↔◌, ◌==◌, Option, Some, None}
use Rattle.std.specs.List.{AllByRecursion}
use Rattle.rp_algebra.proofs.Tests.{false_not_true}
use Rattle.rp_language.specs.Name.{Label}
use Rattle.rp_geometry.specs.sets.Shape.{Shape, Part, shape_of_parts}
use Rattle.rp_geometry.specs.sets.Sets.{IsNonempty, IsEmpty, IsWithin, SameMembers, Overlaps}
use Rattle.rp_semantics.specs.Walk.{Walk, Tester, pass, ◌>>=◌, ◌>>◌, Outcome, done, stopped, after_first}
use Rattle.rp_model.specs.states.State.{most_kept_parts}
use Rattle.rp_language.specs.Expression.{Child, IsKeptExpression, subdivide, subdivide_verb}
use Rattle.rp_semantics.specs.Form.{form, common_nearby, near_pair}
use Rattle.rp_model.specs.states.State.{State, layer_with_id, parts_in, sets_in, parts_under_lots, lots_replaced}
use Rattle.rp_model.specs.commands.Verdict.{Refusal, Verdict, refused, empty_child, outside_lot, children_overlap, gap, says_ok}
use Rattle.rp_model.specs.commands.Checks.{check_subdivide, child_ids, refuse_if, and_then}
use Rattle.rp_model.specs.commands.Reply.{Reply, refusal, accepted, check, check_size}
use Rattle.rp_model.specs.commands.Parts.{parts_with_id, joined_parts, new_lot, count_among}
use Rattle.rp_model.specs.commands.Subdivide.{FormedChild, child_parts, first_empty_child, first_outside_child, first_overlapping_child, first_overlapping_children, row_subdivide, form_children, rule_subdivide, refused_at_empty, refused_at_outside, refused_at_later, refused_at_pair, child_sets}
use Rattle.rp_model.specs.commands.Rules.{Rule, accepts, names_then, refused_where}
use Rattle.rp_model.specs.commands.Sets.{lot_of_set, set_of, set_with_id, union_of}
use Rattle.rp_model.specs.commands.Rule.{fill_lots, with_parts, rule_after_labels, change_of}
use Rattle.rp_semantics.specs.Compare.{is_covered}
use Rattle.rp_geometry.specs.parts.Parts.{AreOf}
use Rattle.rp_model.specs.states.Sound.{IsSoundWith, Pairwise}
use Rattle.rp_semantics.specs.FormLaws.{IfDone}
use Rattle.rp_semantics.specs.FormLaws.{WalksAreRight}
use Rattle.rp_semantics.proofs.Outcomes.{then_done, after_done, weaker_done}
use Rattle.rp_reports.specs.laws.RowLaws.{NewPartsAreOf}
use Rattle.rp_geometry.proofs.SameMembers.{same_back, same_difference, within_same, overlaps_same, nonempty_same}
use Rattle.rp_row_soundness.proofs.Outcomes.{Replies, names_first_done}
use Rattle.rp_row_soundness.proofs.Parts.{empty_if, nonempty_if, rest_done, cover_done}
use Rattle.rp_row_soundness.proofs.Meanings.{meanings_agree}
use Rattle.rp_row_soundness.proofs.Neighbours.{lot_is_of}
use Rattle.rp_row_soundness.proofs.Reshape.{AreListsOf, joined_each, joined_members}
use Rattle.rp_model.specs.commands.Definition.{nothing_formed}
use Rattle.rp_row_soundness.specs.Limits.{IfDoneWith, AreWithinSoFar, AreApartIfSearched, PassedBySubdivide}
use Rattle.rp_model.proofs.Refusals.{not_refused_if, neither}
use Rattle.rp_row_soundness.proofs.Stopped.{IfStopped, stopped_told, stopped_weaker, stopped_both, stopped_then, stopped_after, stopped_check, stopped_checks}
use Rattle.rp_row_soundness.proofs.OneAnswer.{IsOneAtMost, one_answer, one_where, one_after_names}
use Rattle.rp_row_soundness.proofs.Laws.{Meets}
use Rattle.rp_row_soundness.proofs.Spoken.{Speaks, answers_speak, refused_speaks, names_speak}

-- ---- the forms of children

-- a child and its form
pub record IsFormed (P : Part → Type 0) (s : State) (c : Child) (f : FormedChild) : Type 0 where
  pub id : f.id ≡ c.id
  pub parts : AreOf P (set_of s c.shape) f.parts

-- children and their forms, in order
abbrev pub AreFormed : (Part → Type 0) → State → List Child → List FormedChild → Type 0
AreFormed P s [] [] = Unit {0}
AreFormed P s (c ∷ cs) (f ∷ fs) = IsFormed P s c f × AreFormed P s cs fs
AreFormed P s [] (f ∷ fs) = ⊥
AreFormed P s (c ∷ cs) [] = ⊥

-- forms of children behind those made before
record FormedBehind (P : Part → Type 0) (s : State) (cs : List Child) (made formed : List FormedChild) : Type 0 where
  pub new : List FormedChild
  pub behind : formed ≡ made ++ new
  pub are : AreFormed P s cs new

-- the forms of children are made one after the other
children_done : {W : Type 0} (P : Part → Type 0) (t : Tester W) → WalksAreRight P t → (s : State) → IsSoundWith P s → (cs : List Child) → AllByRecursion IsKeptExpression (map (λ c. c.shape) cs) → (made : List FormedChild) (w : W)
    → IfDone (form_children t (parts_in s) made cs w) (FormedBehind P s cs made)
children_done P t right s sound [] kept made w = record { new = []; behind = sym (append_nil made); are = tt }
  where
    append_nil : (xs : List FormedChild) → xs ++ [] ≡ xs
    append_nil [] = refl
    append_nil (x ∷ xs) = ap (λ ys. x ∷ ys) (append_nil xs)
children_done P t right s sound (c ∷ cs) kept made w =
    then_done (AreOf P (set_of s c.shape)) (FormedBehind P s (c ∷ cs) made) (form t (parts_in s) c.shape w) _ (right.forms (parts_in s) (sets_in s) (meanings_agree P s sound) c.shape kept.0 w)
    (λ ps v h. let f : FormedChild = record { id = c.id; parts = ps } in
    weaker_done (FormedBehind P s cs (made ++ f ∷ [])) (FormedBehind P s (c ∷ cs) made) (form_children t (parts_in s) (made ++ f ∷ []) cs v) (children_done P t right s sound cs kept.1 (made ++ f ∷ []) v)
    (λ formed b. record { new = f ∷ b.new; behind = b.behind ∙ append_assoc made (f ∷ []) b.new; are = (record { id = refl; parts = h }, b.are) }))

-- the forms of children, made from the first on
pub all_children_done : {W : Type 0} (P : Part → Type 0) (t : Tester W) → WalksAreRight P t → (s : State) → IsSoundWith P s → (cs : List Child) → AllByRecursion IsKeptExpression (map (λ c. c.shape) cs) → (w : W)
    → IfDone (form_children t (parts_in s) [] cs w) (AreFormed P s cs)
all_children_done P t right s sound cs kept w =
    weaker_done (FormedBehind P s cs []) (AreFormed P s cs) (form_children t (parts_in s) [] cs w) (children_done P t right s sound cs kept [] w) (λ formed b. subst (AreFormed P s cs) (sym b.behind) b.are)

-- the ids of formed children
pub formed_ids : (P : Part → Type 0) (s : State) (cs : List Child) (fs : List FormedChild) → AreFormed P s cs fs → map (λ f. f.id) fs ≡ child_ids cs
formed_ids P s [] [] h = refl
formed_ids P s (c ∷ cs) (f ∷ fs) h = let e = h.0.id in let k = formed_ids P s cs fs h.1 in λ i. e i ∷ k i
formed_ids P s [] (f ∷ fs) h = elim h [ ]
formed_ids P s (c ∷ cs) [] h = elim h [ ]

-- the parts of formed children
formed_lists : (P : Part → Type 0) (s : State) (cs : List Child) (fs : List FormedChild) → AreFormed P s cs fs → AreListsOf P (child_sets s cs) (child_parts fs)
formed_lists P s [] [] h = tt
formed_lists P s (c ∷ cs) (f ∷ fs) h = (h.0.parts, formed_lists P s cs fs h.1)
formed_lists P s [] (f ∷ fs) h = elim h [ ]
formed_lists P s (c ∷ cs) [] h = elim h [ ]

-- ---- the searches for a refusal

-- what a search for a refusal comes to meets the rule: the refusal, or else the rest of the rule
abbrev pub Entails : Rule → Rule → Option Refusal → Type 0
Entails rule rest o = (given : List Verdict) → names_then o rest given → rule given

-- the first child without a part
empty_meets : {W : Type 0} (P : Part → Type 0) (t : Tester W) → WalksAreRight P t → (s : State) (rest : Rule) (k : ℕ) (cs : List Child) (fs : List FormedChild) → AreFormed P s cs fs
    → Entails (refused_at_empty k (child_sets s cs) rest) rest (first_empty_child k fs)
empty_meets P t right s rest k [] [] h = λ given e. e
empty_meets P t right s rest k (c ∷ cs) (f ∷ fs) h =
    by_test (length f.parts == 0) (empty_if P (set_of s c.shape) f.parts h.0.parts) (nonempty_if P t right.tests (set_of s c.shape) f.parts h.0.parts) (empty_meets P t right s rest (k + 1) cs fs h.1)
  where
    by_test : (b : Bool) → (b ≡ true → IsEmpty (set_of s c.shape)) → (b ≡ false → IsNonempty (set_of s c.shape)) → Entails (refused_at_empty (k + 1) (child_sets s cs) rest) rest (first_empty_child (k + 1) fs)
        → Entails (refused_at_empty k (child_sets s (c ∷ cs)) rest) rest (and_then (refuse_if b (empty_child k)) (first_empty_child (k + 1) fs))
    by_test true is_empty is_not later = λ given e. inl (is_empty refl, e)
    by_test false is_empty is_not later = λ given e. inr (λ n. let m = is_not refl in n m.0 m.1, later given e)
empty_meets P t right s rest k [] (f ∷ fs) h = elim h [ ]
empty_meets P t right s rest k (c ∷ cs) [] h = elim h [ ]

module _ {W : Type 0} (P : Part → Type 0) (t : Tester W) (right : WalksAreRight P t) (s : State) (whole : Shape) (qs : List Part) (of_whole : AreOf P whole qs) where
  -- the first child outside the lot
  outside_meets : (rest : Rule) (k : ℕ) (cs : List Child) (fs : List FormedChild) → AreFormed P s cs fs → (w : W) → IfDone (first_outside_child t qs k fs w) (Entails (refused_at_outside whole k (child_sets s cs) rest) rest)
  outside_meets rest k [] [] h w = λ given e. e
  outside_meets rest k (c ∷ cs) (f ∷ fs) h w =
      then_done (λ b. IsTrue b ↔ IsWithin (shape_of_parts f.parts) (shape_of_parts qs)) (Entails (refused_at_outside whole k (child_sets s (c ∷ cs)) rest) rest) (is_covered t f.parts qs w) _
      (cover_done P t right.tests right.differences f.parts qs h.0.parts.all of_whole.all.each w) (by_test (outside_meets rest (k + 1) cs fs h.1))
    where
      in_sets : IsWithin (shape_of_parts f.parts) (shape_of_parts qs) → IsWithin (set_of s c.shape) whole
      in_sets = within_same (shape_of_parts f.parts) (shape_of_parts qs) (set_of s c.shape) whole h.0.parts.members of_whole.members

      in_parts : IsWithin (set_of s c.shape) whole → IsWithin (shape_of_parts f.parts) (shape_of_parts qs)
      in_parts = within_same (set_of s c.shape) whole (shape_of_parts f.parts) (shape_of_parts qs) (same_back (shape_of_parts f.parts) (set_of s c.shape) h.0.parts.members) (same_back (shape_of_parts qs) whole of_whole.members)

      by_test : ((v : W) → IfDone (first_outside_child t qs (k + 1) fs v) (Entails (refused_at_outside whole (k + 1) (child_sets s cs) rest) rest)) → (b : Bool) (v : W) → IsTrue b ↔ IsWithin (shape_of_parts f.parts) (shape_of_parts qs)
          → IfDone ((elim b as (λ _. Walk W (Option Refusal)) [ false ↦ pass (Some (outside_lot k)) | true ↦ first_outside_child t qs (k + 1) fs ]) v) (Entails (refused_at_outside whole k (child_sets s (c ∷ cs)) rest) rest)
      by_test later false v g = λ given e. inl (λ i. false_not_true false (g.1 (in_parts i)) refl, e)
      by_test later true v g =
          weaker_done (Entails (refused_at_outside whole (k + 1) (child_sets s cs) rest) rest) (Entails (refused_at_outside whole k (child_sets s (c ∷ cs)) rest) rest) (first_outside_child t qs (k + 1) fs v) (later v)
          (λ o m given e. inr (λ n. n (in_sets (g.0 refl)), m given e))
  outside_meets rest k [] (f ∷ fs) h w = elim h [ ]
  outside_meets rest k (c ∷ cs) [] h w = elim h [ ]

  -- the first later child that overlaps a child
  later_meets : (rest : Rule) (m : ℕ) (a : Shape) (ps : List Part) → AreOf P a ps → (n : ℕ) (cs : List Child) (fs : List FormedChild) → AreFormed P s cs fs → (w : W)
      → IfDone (first_overlapping_child t m ps n fs w) (Entails (refused_at_later m a n (child_sets s cs) rest) rest)
  later_meets rest m a ps k n [] [] h w = λ given e. e
  later_meets rest m a ps k n (c ∷ cs) (f ∷ fs) h w =
      then_done (λ b. IsTrue b ↔ Overlaps (shape_of_parts ps) (shape_of_parts f.parts)) (Entails (refused_at_later m a n (child_sets s (c ∷ cs)) rest) rest) (common_nearby t ps f.parts w) _
      (right.commons ps f.parts k.all h.0.parts.all w).1 (by_test (later_meets rest m a ps k (n + 1) cs fs h.1))
    where
      in_sets : Overlaps (shape_of_parts ps) (shape_of_parts f.parts) → Overlaps a (set_of s c.shape)
      in_sets = overlaps_same (shape_of_parts ps) (shape_of_parts f.parts) a (set_of s c.shape) k.members h.0.parts.members

      in_parts : Overlaps a (set_of s c.shape) → Overlaps (shape_of_parts ps) (shape_of_parts f.parts)
      in_parts = overlaps_same a (set_of s c.shape) (shape_of_parts ps) (shape_of_parts f.parts) (same_back (shape_of_parts ps) a k.members) (same_back (shape_of_parts f.parts) (set_of s c.shape) h.0.parts.members)

      by_test : ((v : W) → IfDone (first_overlapping_child t m ps (n + 1) fs v) (Entails (refused_at_later m a (n + 1) (child_sets s cs) rest) rest)) → (b : Bool) (v : W) → IsTrue b ↔ Overlaps (shape_of_parts ps) (shape_of_parts f.parts)
          → IfDone ((elim b as (λ _. Walk W (Option Refusal)) [ true ↦ pass (Some (children_overlap m n)) | false ↦ first_overlapping_child t m ps (n + 1) fs ]) v) (Entails (refused_at_later m a n (child_sets s (c ∷ cs)) rest) rest)
      by_test later true v g = λ given e. inl (in_sets (g.0 refl), e)
      by_test later false v g =
          weaker_done (Entails (refused_at_later m a (n + 1) (child_sets s cs) rest) rest) (Entails (refused_at_later m a n (child_sets s (c ∷ cs)) rest) rest) (first_overlapping_child t m ps (n + 1) fs v) (later v)
          (λ o d given e. inr (λ i. false_not_true false (g.1 (in_parts i)) refl, d given e))
  later_meets rest m a ps k n [] (f ∷ fs) h w = elim h [ ]
  later_meets rest m a ps k n (c ∷ cs) [] h w = elim h [ ]

  -- the first pair of children that overlap
  pub pair_meets : (rest : Rule) (m : ℕ) (cs : List Child) (fs : List FormedChild) → AreFormed P s cs fs → (w : W) → IfDone (first_overlapping_children t m fs w) (Entails (refused_at_pair m (child_sets s cs) rest) rest)
  pair_meets rest m [] [] h w = λ given e. e
  pair_meets rest m (c ∷ cs) (f ∷ fs) h w =
      then_done (Entails (refused_at_pair m (child_sets s (c ∷ cs)) rest) (refused_at_pair (m + 1) (child_sets s cs) rest)) (Entails (refused_at_pair m (child_sets s (c ∷ cs)) rest) rest) (first_overlapping_child t m f.parts (m + 1) fs w) _
      (later_meets (refused_at_pair (m + 1) (child_sets s cs) rest) m (set_of s c.shape) f.parts h.0.parts (m + 1) cs fs h.1 w) (by_found (pair_meets rest (m + 1) cs fs h.1))
    where
      by_found : ((v : W) → IfDone (first_overlapping_children t (m + 1) fs v) (Entails (refused_at_pair (m + 1) (child_sets s cs) rest) rest)) → (o : Option Refusal) (v : W)
          → Entails (refused_at_pair m (child_sets s (c ∷ cs)) rest) (refused_at_pair (m + 1) (child_sets s cs) rest) o
          → IfDone ((elim o as (λ _. Walk W (Option Refusal)) [ Some r ↦ pass (Some r) | None ↦ first_overlapping_children t (m + 1) fs ]) v) (Entails (refused_at_pair m (child_sets s (c ∷ cs)) rest) rest)
      by_found later (Some r) v g = λ given e. g given e
      by_found later None v g =
          weaker_done (Entails (refused_at_pair (m + 1) (child_sets s cs) rest) rest) (Entails (refused_at_pair m (child_sets s (c ∷ cs)) rest) rest) (first_overlapping_children t (m + 1) fs v) (later v) (λ o d given e. g given (d given e))
  pair_meets rest m [] (f ∷ fs) h w = elim h [ ]
  pair_meets rest m (c ∷ cs) [] h w = elim h [ ]

-- ---- the row

-- a check whose search meets the rule
searched_done : {W : Type 0} (K : Reply → Type 0) (rule rest : Rule) (o : Option Refusal) (walk : Walk W Reply) (w : W) → Entails rule rest o
    → ((r : Refusal) → K (refusal r)) → IfDone (walk w) (λ r. rest r.verdicts × K r) → IfDone (check o walk w) (λ r. rule r.verdicts × K r)
searched_done K rule rest None walk w meets refuses goes_on = weaker_done (λ r. rest r.verdicts × K r) (λ r. rule r.verdicts × K r) (walk w) goes_on (λ r k. (meets r.verdicts k.0, k.1))
searched_done K rule rest (Some r) walk w meets refuses goes_on = (meets (refused r ∷ []) refl, refuses r)

-- a lot is subdivided
pub subdivide_meets : {W : Type 0} (P : Part → Type 0) (t : Tester W) → WalksAreRight P t → (s : State) → IsSoundWith P s → (x : Label) (cs : List Child) (fs : List FormedChild) → AreFormed P s cs fs → (w : W)
    → IfDone (row_subdivide t s x fs w) (Replies P (lots_replaced (x ∷ []) (map (λ c. lot_of_set (layer_with_id s x) c.id (set_of s c.shape) (x ∷ [])) cs)) (rule_subdivide s x cs))
subdivide_meets {W = W} P t right s sound x cs fs h w =
    weaker_done (λ r. names_then (check_subdivide s x (map (λ f. f.id) fs)) not_empty r.verdicts × Keeps r) (λ r. rule_subdivide s x cs r.verdicts × Keeps r) (row_subdivide t s x fs w)
    (names_first_done Keeps (check_subdivide s x (map (λ f. f.id) fs)) (first_empty_child 1 fs) not_empty sized w (λ r. tt)
    (λ e. searched_done Keeps not_empty inside (first_empty_child 1 fs) sized w (empty_meets P t right s inside 1 cs fs h) (λ r. tt)
    (after_done (Both inside) (check_size (parts_under_lots s.lots + length parts) most_kept_parts w) _
    (λ _ v. then_done (Entails inside apart) (Both inside) (first_outside_child t qs 1 fs v) _ (outside_meets P t right s whole qs k apart 1 cs fs h v)
    (λ o u m. searched_done Keeps inside apart o counted u m (λ r. tt)
    (after_done (Both apart) (t.count (count_among near_pair (child_parts fs)) u) _
    (λ _ y. then_done (Entails apart covered) (Both apart) (first_overlapping_children t 1 fs y) _ (pair_meets P t right s whole qs k covered 1 cs fs h y)
    (λ d z n. searched_done Keeps apart covered d cover z n (λ r. tt)
    (then_done (λ b. (b ≡ true → IsEmpty rest_of_parts) × (b ≡ false → IsNonempty rest_of_parts)) (Both covered) (is_covered t qs parts z) _
    (rest_done P t right.tests right.differences qs parts k.all (joined_each P sets (child_parts fs) lists) z) by_cover)))))))))
    (λ r g. (subst (λ ids. names_then (check_subdivide s x ids) not_empty r.verdicts) (formed_ids P s cs fs h) g.0, g.1))
  where
    whole : Shape
    whole = set_with_id s x

    qs : List Part
    qs = parts_with_id s x

    k : AreOf P whole qs
    k = lot_is_of P s sound x

    sets : List Shape
    sets = child_sets s cs

    parts : List Part
    parts = joined_parts (child_parts fs)

    lists : AreListsOf P sets (child_parts fs)
    lists = formed_lists P s cs fs h

    rest_of_parts : Shape
    rest_of_parts = Shape.difference (shape_of_parts qs) (shape_of_parts parts)

    rest_of_sets : Shape
    rest_of_sets = Shape.difference whole (union_of sets)

    same_rest : SameMembers rest_of_parts rest_of_sets
    same_rest = same_difference (shape_of_parts qs) (shape_of_parts parts) whole (union_of sets) k.members (joined_members P sets (child_parts fs) lists)

    Keeps : Reply → Type 0
    Keeps r = NewPartsAreOf P (with_parts (lots_replaced (x ∷ []) (map (λ c. lot_of_set (layer_with_id s x) c.id (set_of s c.shape) (x ∷ [])) cs)) r.change)

    covered : Rule
    covered = refused_where (IsNonempty rest_of_sets) gap accepts

    apart : Rule
    apart = refused_at_pair 1 sets covered

    inside : Rule
    inside = refused_at_outside whole 1 sets apart

    not_empty : Rule
    not_empty = refused_at_empty 1 sets inside

    Both : Rule → Reply → Type 0
    Both rule r = rule r.verdicts × Keeps r

    ends : Bool → Walk W Reply
    ends b = check (refuse_if (not b) gap) (pass (accepted (lots_replaced (x ∷ []) (map (λ f. new_lot (layer_with_id s x) f.id f.parts (x ∷ [])) fs))))

    cover : Walk W Reply
    cover = is_covered t qs parts >>= ends

    counted : Walk W Reply
    counted = t.count (count_among near_pair (child_parts fs)) >> (first_overlapping_children t 1 fs >>= (λ double. check double cover))

    sized : Walk W Reply
    sized = check_size (parts_under_lots s.lots + length parts) most_kept_parts >> (first_outside_child t qs 1 fs >>= (λ out. check out counted))

    new_parts : (cs : List Child) (fs : List FormedChild) → AreFormed P s cs fs → AllByRecursion (λ l. AreOf P l.set l.parts) (fill_lots (map (λ c. lot_of_set (layer_with_id s x) c.id (set_of s c.shape) (x ∷ [])) cs) (map (λ f. new_lot (layer_with_id s x) f.id f.parts (x ∷ [])) fs))
    new_parts [] [] g = tt
    new_parts (c ∷ cs) (f ∷ fs) g = (g.0.parts, new_parts cs fs g.1)
    new_parts [] (f ∷ fs) g = elim g [ ]
    new_parts (c ∷ cs) [] g = elim g [ ]

    by_cover : (b : Bool) (v : W) → (b ≡ true → IsEmpty rest_of_parts) × (b ≡ false → IsNonempty rest_of_parts) → IfDone (ends b v) (Both covered)
    by_cover true v g = (inr (λ n. let m = nonempty_same rest_of_sets rest_of_parts (same_back rest_of_parts rest_of_sets same_rest) n in g.0 refl m.0 m.1, refl), new_parts cs fs h)
    by_cover false v g = (inl (nonempty_same rest_of_parts rest_of_sets same_rest (g.1 refl), refl), tt)

-- ---- where a limit is met

-- a rule that any lines keep
abbrev anything : Rule
anything given = Unit {0}

-- where the rule holds of no lines at all, which are no refusal, no later set overlaps the set
later_apart : (rest : Rule) (m : ℕ) (a : Shape) (n : ℕ) (sets : List Shape) → refused_at_later m a n sets rest [] → AllByRecursion (λ b. ¬ Overlaps a b) sets × rest []
later_apart rest m a n [] h = (tt, h)
later_apart rest m a n (b ∷ sets) (inl h) = absurd (let e = h.1 in cc)
later_apart rest m a n (b ∷ sets) (inr h) = let k = later_apart rest m a (n + 1) sets h.1 in ((h.0, k.0), k.1)

-- and no two sets overlap
pairs_apart : (m : ℕ) (sets : List Shape) → refused_at_pair m sets anything [] → Pairwise (λ a b. ¬ Overlaps a b) sets
pairs_apart m [] h = tt
pairs_apart m (a ∷ sets) h = let k = later_apart (refused_at_pair (m + 1) sets anything) m a (m + 1) sets h in (k.0, pairs_apart (m + 1) sets k.1)

module _ {W : Type 0} (P : Part → Type 0) (t : Tester W) (right : WalksAreRight P t) (s : State) (sound : IsSoundWith P s) where
  -- each child has a member where none is refused as empty
  none_empty : (k : ℕ) (cs : List Child) (fs : List FormedChild) → AreFormed P s cs fs → first_empty_child k fs ≡ None → AllByRecursion IsNonempty (child_sets s cs)
  none_empty k [] [] h e = tt
  none_empty k (c ∷ cs) (f ∷ fs) h e =
      let d = neither (refuse_if (length f.parts == 0) (empty_child k)) (first_empty_child (k + 1) fs) e in
      (nonempty_if P t right.tests (set_of s c.shape) f.parts h.0.parts (not_refused_if (length f.parts == 0) (empty_child k) d.0), none_empty (k + 1) cs fs h.1 d.1)
  none_empty k [] (f ∷ fs) h e = elim h [ ]
  none_empty k (c ∷ cs) [] h e = elim h [ ]

  -- each child that the walk passed is within the lot
  within_passed : (x : Label) (rest : Walk W Reply) (k : ℕ) (cs : List Child) (fs : List FormedChild) → AreFormed P s cs fs → (w : W)
      → IfStopped (after_first (λ out. check out rest) (first_outside_child t (parts_with_id s x) k fs w)) (AreWithinSoFar t s x cs fs w)
  within_passed x rest k [] [] h w = stopped_told (rest w) (Unit {0}) tt
  within_passed x rest k (c ∷ cs) (f ∷ fs) h w = by_cover (is_covered t f.parts qs w) (cover_done P t right.tests right.differences f.parts qs h.0.parts.all of_whole.all.each w) (within_passed x rest (k + 1) cs fs h.1)
    where
      qs : List Part
      qs = parts_with_id s x

      of_whole : AreOf P (set_with_id s x) qs
      of_whole = lot_is_of P s sound x

      goes_on : Option Refusal → Walk W Reply
      goes_on out = check out rest

      by_cover : (o : Outcome W Bool) → IfDone o (λ b. IsTrue b ↔ IsWithin (shape_of_parts f.parts) (shape_of_parts qs))
          → ((v : W) → IfStopped (after_first goes_on (first_outside_child t qs (k + 1) fs v)) (AreWithinSoFar t s x cs fs v))
          → IfStopped (after_first goes_on (after_first (λ inside. elim inside as (λ _. Walk W (Option Refusal)) [ false ↦ pass (Some (outside_lot k)) | true ↦ first_outside_child t qs (k + 1) fs ]) o))
          (IfDoneWith o (λ _ v. IsWithin (set_of s c.shape) (set_with_id s x) × AreWithinSoFar t s x cs fs v))
      by_cover (done true v) g later =
          stopped_weaker (AreWithinSoFar t s x cs fs v) (IsWithin (set_of s c.shape) (set_with_id s x) × AreWithinSoFar t s x cs fs v) (after_first goes_on (first_outside_child t qs (k + 1) fs v)) (later v)
          (λ d. (within_same (shape_of_parts f.parts) (shape_of_parts qs) (set_of s c.shape) (set_with_id s x) h.0.parts.members of_whole.members (g.0 refl), d))
      by_cover (done false v) g later = tt
      by_cover (stopped e v) g later = tt
  within_passed x rest k [] (f ∷ fs) h w = elim h [ ]
  within_passed x rest k (c ∷ cs) [] h w = elim h [ ]

  -- the names, the children and their pairs
  subdivide_passed : (x : Label) (cs : List Child) (fs : List FormedChild) → AreFormed P s cs fs → (w : W) → IfStopped (row_subdivide t s x fs w) (PassedBySubdivide t s x cs fs w)
  subdivide_passed x cs fs h w =
      stopped_checks (PassedBySubdivide t s x cs fs w) (check_subdivide s x (map (λ f. f.id) fs)) (first_empty_child 1 fs) _ w
      (λ e d. stopped_weaker (IfDoneWith (check_size size most_kept_parts w) Sized) (PassedBySubdivide t s x cs fs w) _
      (stopped_after Sized (check_size size most_kept_parts w) _
      (λ _ v. stopped_both (AreWithinSoFar t s x cs fs v) (AreApartIfSearched t s x cs fs v) _ (within_passed x _ 1 cs fs h v)
      (stopped_after Inside (first_outside_child t qs 1 fs v) _
      (λ out u. stopped_check (Inside out u) out _ u
      (λ _. stopped_after Counted (t.count (count_among near_pair (child_parts fs)) u) _
      (λ _ y. stopped_then (Entails (refused_at_pair 1 (child_sets s cs) anything) anything) Apart (first_overlapping_children t 1 fs y) _ (pair_meets P t right s (set_with_id s x) qs (lot_is_of P s sound x) anything 1 cs fs h y)
      (λ double z m. stopped_check (Apart double z) double _ z
      (λ g. stopped_told _ (Apart double z) (pairs_apart 1 (child_sets s cs) (subst (Entails (refused_at_pair 1 (child_sets s cs) anything) anything) g m [] tt))))))))))
      (λ m. (subst (λ ids. check_subdivide s x ids ≡ None) (formed_ids P s cs fs h) e, none_empty 1 cs fs h d, m)))
    where
      qs : List Part
      qs = parts_with_id s x

      size : ℕ
      size = parts_under_lots s.lots + length (joined_parts (child_parts fs))

      Apart : Option Refusal → W → Type 0
      Apart double v = Pairwise (λ a b. ¬ Overlaps a b) (child_sets s cs)

      Counted : Unit {0} → W → Type 0
      Counted u v = IfDoneWith (first_overlapping_children t 1 fs v) Apart

      Inside : Option Refusal → W → Type 0
      Inside out v = IfDoneWith (t.count (count_among near_pair (child_parts fs)) v) Counted

      Sized : Unit {0} → W → Type 0
      Sized u v = AreWithinSoFar t s x cs fs v × AreApartIfSearched t s x cs fs v

-- ---- one verdict

-- the first empty set
one_empty : (k : ℕ) (sets : List Shape) (rest : Rule) → IsOneAtMost rest → IsOneAtMost (refused_at_empty k sets rest)
one_empty k [] rest one = one
one_empty k (a ∷ sets) rest one = one_where (IsEmpty a) (empty_child k) (refused_at_empty (k + 1) sets rest) (λ _. one_empty (k + 1) sets rest one)

-- the first set outside
one_outside : (whole : Shape) (k : ℕ) (sets : List Shape) (rest : Rule) → IsOneAtMost rest → IsOneAtMost (refused_at_outside whole k sets rest)
one_outside whole k [] rest one = one
one_outside whole k (a ∷ sets) rest one = one_where (¬ IsWithin a whole) (outside_lot k) (refused_at_outside whole (k + 1) sets rest) (λ _. one_outside whole (k + 1) sets rest one)

-- the first later set that overlaps one
one_later : (m : ℕ) (a : Shape) (n : ℕ) (sets : List Shape) (rest : Rule) → IsOneAtMost rest → IsOneAtMost (refused_at_later m a n sets rest)
one_later m a n [] rest one = one
one_later m a n (b ∷ sets) rest one = one_where (Overlaps a b) (children_overlap m n) (refused_at_later m a (n + 1) sets rest) (λ _. one_later m a (n + 1) sets rest one)

-- the first pair that overlaps
one_pair : (m : ℕ) (sets : List Shape) (rest : Rule) → IsOneAtMost rest → IsOneAtMost (refused_at_pair m sets rest)
one_pair m [] rest one = one
one_pair m (a ∷ sets) rest one = one_later m a (m + 1) sets (refused_at_pair (m + 1) sets rest) (one_pair (m + 1) sets rest one)

-- no two lists of lines meet the rule
one_subdivide : (s : State) (x : Label) (cs : List Child) → IsOneAtMost (rule_subdivide s x cs)
one_subdivide s x cs =
    one_after_names (check_subdivide s x (child_ids cs)) (refused_at_empty 1 (child_sets s cs) inside)
    (one_empty 1 (child_sets s cs) inside (one_outside (set_with_id s x) 1 (child_sets s cs) apart (one_pair 1 (child_sets s cs) covered
    (one_where (IsNonempty (Shape.difference (set_with_id s x) (union_of (child_sets s cs)))) gap accepts (λ _. one_answer (says_ok ∷ []))))))
  where
    covered : Rule
    covered = refused_where (IsNonempty (Shape.difference (set_with_id s x) (union_of (child_sets s cs)))) gap accepts

    apart : Rule
    apart = refused_at_pair 1 (child_sets s cs) covered

    inside : Rule
    inside = refused_at_outside (set_with_id s x) 1 (child_sets s cs) apart

-- behind the sets that may be empty
empty_speaks : (n : ℕ) (sets : List Shape) (rest : Rule) → Speaks rest → Speaks (refused_at_empty n sets rest)
empty_speaks n [] rest k = k
empty_speaks n (a ∷ sets) rest k = refused_speaks (IsEmpty a) (Refusal.empty_child n) (refused_at_empty (n + 1) sets rest) (empty_speaks (n + 1) sets rest k)

-- behind the sets that may lie outside
outside_speaks : (whole : Shape) (n : ℕ) (sets : List Shape) (rest : Rule) → Speaks rest → Speaks (refused_at_outside whole n sets rest)
outside_speaks whole n [] rest k = k
outside_speaks whole n (a ∷ sets) rest k = refused_speaks (¬ IsWithin a whole) (Refusal.outside_lot n) (refused_at_outside whole (n + 1) sets rest) (outside_speaks whole (n + 1) sets rest k)

-- behind the pairs with one set
later_speaks : (m : ℕ) (a : Shape) (n : ℕ) (sets : List Shape) (rest : Rule) → Speaks rest → Speaks (refused_at_later m a n sets rest)
later_speaks m a n [] rest k = k
later_speaks m a n (b ∷ sets) rest k = refused_speaks (Overlaps a b) (Refusal.children_overlap m n) (refused_at_later m a (n + 1) sets rest) (later_speaks m a (n + 1) sets rest k)

-- behind all pairs
pair_speaks : (m : ℕ) (sets : List Shape) (rest : Rule) → Speaks rest → Speaks (refused_at_pair m sets rest)
pair_speaks m [] rest k = k
pair_speaks m (a ∷ sets) rest k = later_speaks m a (m + 1) sets (refused_at_pair (m + 1) sets rest) (pair_speaks (m + 1) sets rest k)

-- the laws of subdivide
pub subdivide_laws : Meets subdivide_verb
subdivide_laws = record {
  replies = λ P t right s sound (x, (cs, end)) kept w.
      then_done (AreFormed P s cs) (Replies P (change_of s (subdivide x cs)) (rule_after_labels s nothing_formed (subdivide x cs))) (form_children t (parts_in s) [] cs w) _
      (all_children_done P t right s sound cs kept w) (λ fs v h. subdivide_meets P t right s sound x cs fs h v);
  passed = λ P t right s sound (x, (cs, end)) kept w.
      stopped_then (AreFormed P s cs) (λ fs v. PassedBySubdivide t s x cs fs v) (form_children t (parts_in s) [] cs w) _ (all_children_done P t right s sound cs kept w) (λ fs v h. subdivide_passed P t right s sound x cs fs h v);
  one = λ exclude pieces s formed h (x, (cs, end)). one_subdivide s x cs;
  speaks = λ s formed (x, (cs, end)).
      names_speak (check_subdivide s x (child_ids cs)) _
      (empty_speaks 1 (child_sets s cs) _ (outside_speaks (set_with_id s x) 1 (child_sets s cs) _ (pair_speaks 1 (child_sets s cs) _ (refused_speaks _ _ accepts (answers_speak _ tt)))));
}
