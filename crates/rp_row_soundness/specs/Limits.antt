-- The laws of a row that meets a limit: the refusals that come before the limit do not hold of the sets.
use Rattle.std.specs.Prelude.{◌≡◌, ℕ, ◌+◌, List, [], ◌∷◌, length, None}
use Rattle.std.specs.List.{AllByRecursion}
use Rattle.rp_language.specs.Name.{Label}
use Rattle.rp_language.specs.Grammar.{Version, command, reading}
use Rattle.rp_language.specs.Expression.{Child, Command, expressions_of, first_unknown_among, define, ask_member, ask_relation, register, cut, subdivide, consolidate, retire, ask_neighbours, ask_history, ask_at, ask_as_of, ask_list, set_layer, ask_access}
use Rattle.rp_geometry.specs.sets.Shape.{Shape, Part}
use Rattle.rp_geometry.specs.sets.Sets.{IsNonempty, IsWithin, Overlaps}
use Rattle.rp_semantics.specs.Walk.{Outcome, done, stopped, limit_met, Tester, Work, no_work, first_tester}
use Rattle.rp_semantics.specs.Form.{join, subtract, near_pair, form}
use Rattle.rp_semantics.specs.Compare.{is_covered}
use Rattle.rp_model.specs.states.State.{State, most_kept_parts, parts_in, sets_in, parts_under_lots}
use Rattle.rp_model.specs.states.Sound.{Pairwise, IsSound}
use Rattle.rp_model.specs.commands.Checks.{check_name, check_new, check_live, check_cut, check_subdivide, check_consolidate, check_access, child_ids}
use Rattle.rp_model.specs.commands.Subdivide.{FormedChild, child_parts, first_outside_child, first_overlapping_children, form_children, child_sets}
use Rattle.rp_model.specs.commands.Reply.{check_size}
use Rattle.rp_model.specs.commands.Parts.{parts_with_id, joined_parts, count_among}
use Rattle.rp_model.specs.commands.Sets.{set_of, set_with_id}
use Rattle.rp_model.specs.commands.Rule.{walked}

-- the property holds of the result of a walk and of the work at its end, if it is not stopped
abbrev pub IfDoneWith : {W A : Type 0} → Outcome W A → (A → W → Type 0) → Type 0
IfDoneWith (done x w) P = P x w
IfDoneWith (stopped e w) P = Unit {0}

-- no refusal except that of a label comes before a limit
abbrev pub NoRefusal : Type 0
NoRefusal = Unit {0}

-- the row meets no limit
abbrev pub NoLimit : Type 0
NoLimit = ⊥

module _ {W : Type 0} (tester : Tester W) (s : State) where
  -- the names pass; if the join is done, the lot and the set overlap; if the difference is done too, the lot is not within the set
  abbrev pub PassedByCut : Label → Shape → List Part → Label → Label → W → Type 0
  PassedByCut x a ps first second w =
      (check_cut s x first second ≡ None)
      × IfDoneWith (join tester (parts_with_id s x) ps w) (λ _ v.
      Overlaps (set_with_id s x) a
      × IfDoneWith (subtract tester (parts_with_id s x) ps v) (λ _ _. ¬ IsWithin (set_with_id s x) a))

  -- each child before the one at which the walk is stopped is within the lot
  abbrev pub AreWithinSoFar : Label → List Child → List FormedChild → W → Type 0
  AreWithinSoFar x [] fs w = Unit {0}
  AreWithinSoFar x (c ∷ cs) [] w = Unit {0}
  AreWithinSoFar x (c ∷ cs) (f ∷ fs) w = IfDoneWith (is_covered tester f.parts (parts_with_id s x) w) (λ _ v. IsWithin (set_of s c.shape) (set_with_id s x) × AreWithinSoFar x cs fs v)

  -- if the search for a child outside, the count and the search of pairs are done, no two children overlap
  abbrev pub AreApartIfSearched : Label → List Child → List FormedChild → W → Type 0
  AreApartIfSearched x cs fs w =
      IfDoneWith (first_outside_child tester (parts_with_id s x) 1 fs w) (λ _ v.
      IfDoneWith (tester.count (count_among near_pair (child_parts fs)) v) (λ _ u.
      IfDoneWith (first_overlapping_children tester 1 fs u) (λ _ _. Pairwise (λ a b. ¬ Overlaps a b) (child_sets s cs))))

  -- the names pass, and each child has a member; if the size is within its limit, the children tested are within the lot, and those compared are apart
  abbrev pub PassedBySubdivide : Label → List Child → List FormedChild → W → Type 0
  PassedBySubdivide x cs fs w =
      (check_subdivide s x (child_ids cs) ≡ None)
      × AllByRecursion IsNonempty (child_sets s cs)
      × IfDoneWith (check_size (parts_under_lots s.lots + length (joined_parts (child_parts fs))) most_kept_parts w) (λ _ v. AreWithinSoFar x cs fs v × AreApartIfSearched x cs fs v)

  -- what a command with known labels has passed if its row, walked from this work on, meets a limit; other commands refuse nothing before a limit
  abbrev pub PassedBy : Command → W → Type 0
  PassedBy (define x e) w = IfDoneWith (form tester (parts_in s) e w) (λ _ _. check_name s x ≡ None)
  PassedBy (ask_member e p) w = NoLimit
  PassedBy (ask_relation e f) w = IfDoneWith (form tester (parts_in s) e w) (λ _ v. IfDoneWith (form tester (parts_in s) f v) (λ _ _. IsNonempty (set_of s e) × IsNonempty (set_of s f)))
  PassedBy (register x e) w = IfDoneWith (form tester (parts_in s) e w) (λ _ _. (check_new s x ≡ None) × IsNonempty (set_of s e))
  PassedBy (cut x e first second) w = IfDoneWith (form tester (parts_in s) e w) (λ ps v. PassedByCut x (set_of s e) ps first second v)
  PassedBy (subdivide x cs) w = IfDoneWith (form_children tester (parts_in s) [] cs w) (λ fs v. PassedBySubdivide x cs fs v)
  PassedBy (consolidate x ids) w = check_consolidate s x ids ≡ None
  PassedBy (retire x) w = NoLimit
  PassedBy (ask_neighbours x) w = check_live s x ≡ None
  PassedBy (ask_history x) w = NoLimit
  PassedBy (ask_at p) w = NoLimit
  PassedBy (ask_as_of n p) w = NoLimit
  PassedBy ask_list w = NoLimit
  PassedBy (set_layer y) w = NoLimit
  PassedBy (ask_access x y) w = check_access s x y ≡ None
  PassedBy _ w = NoRefusal

-- in a sound state, if the row of a command meets a limit, no label is missing, and no refusal that comes before the limit holds
abbrev pub LimitComesAfterRefusals : Type 0
LimitComesAfterRefusals = (s : State) → IsSound s → (v : Version) (line : List ℕ) (c : Command) → reading v line ≡ command c → (w : Work) → walked s c ≡ stopped limit_met w →
    (first_unknown_among (sets_in s) (expressions_of c) ≡ None) × PassedBy first_tester s c no_work
