-- A walk through a tree of cells keeps its outcome.
use Rattle.std.proofs.Common.{◌≡◌, ℕ, Bool, true, false, not, List, [], ◌∷◌, ◌++◌, Option, Some, None, refl, sym, ap, ap₂, ◌∙◌, append-nil, append_assoc}
use Rattle.std.specs.Borrow.{Bor}
use Rattle.rp_geometry.specs.Geometry.{IntegerBox}
use Rattle.rp_boxindex.specs.Boxes.{Entry}
use Rattle.rp_boxindex.specs.cells.Views.{CellsView}
use Rattle.rp_boxindex.specs.cells.Walks.{tree_entries, has_no_item, pending_entries, are_none, is_done, outcome, IsFurther}
use Rattle.rp_boxindex.specs.declared.walk.Pending.{Pending}
use Rattle.rp_boxindex.specs.declared.walk.Pending.TheVariants.{Whole, Trees}
use Rattle.rp_boxindex.specs.declared.walk.Walk.{Walk}
use Rattle.rp_boxindex.specs.Meeting.{do_meet, ids_that_meet}
use Rattle.rp_boxindex.specs.tree.Nodes.{AreWithin}
use Rattle.rp_boxindex.specs.tree.Taking.{taken}
use Rattle.rp_boxindex.proofs.Counts.{false_not_true}
use Rattle.rp_boxindex.proofs.Hulls.{none_in_hull}
use Rattle.rp_boxindex.proofs.Order.{and_parts}
use Rattle.rp_boxindex.proofs.Pruned.{ids-append, ids-unmet}
use Rattle.rp_boxindex.proofs.Taken.{taken-append}
use Rattle.rp_algebra.proofs.Tests.{both_follow, false_of_not}

-- the entries of the last pending tree come first
pub pending-push : (xs : List (Option (Bor CellsView))) (cells : Bor CellsView) → tree_entries (xs ++ Some cells ∷ []) ≡ cells.now.entries ++ tree_entries xs
pending-push [] cells = sym (append-nil cells.now.entries)
pending-push (None ∷ xs) cells = pending-push xs cells
pending-push (Some other ∷ xs) cells = ap (λ (es : List Entry). es ++ other.now.entries) (pending-push xs cells) ∙ append_assoc cells.now.entries (tree_entries xs) other.now.entries

-- a place with no tree has no entries
pub pending-none : (xs : List (Option (Bor CellsView))) → tree_entries (xs ++ None ∷ []) ≡ tree_entries xs
pending-none [] = refl
pending-none (None ∷ xs) = pending-none xs
pending-none (Some other ∷ xs) = ap (λ (es : List Entry). es ++ other.now.entries) (pending-none xs)

-- one is pending behind others
pub one_pending : (xs : List (Option (Bor CellsView))) (o : Option (Bor CellsView)) → has_no_item (xs ++ o ∷ []) ≡ false
one_pending [] o = refl
one_pending (x ∷ xs) o = refl

no_entries : (xs : List (Option (Bor CellsView))) → has_no_item xs ≡ true → tree_entries xs ≡ []
no_entries [] h = refl
no_entries (x ∷ xs) h = absurd (false_not_true h)

nothing_left : (p : Pending) → are_none p ≡ true → pending_entries p ≡ []
nothing_left (Whole cells) h = absurd (false_not_true h)
nothing_left (Trees trees) h = no_entries trees.items h

-- ---- what a walk keeps

-- a walk that only lost places with no tree
pub further_same : {S : Type 0} (after : S → ℕ → S) (c : Bool) (b : IntegerBox) (old new : Walk S) → pending_entries new.pending ≡ pending_entries old.pending → new.taker ≡ old.taker → new.is_lost ≡ old.is_lost → (are_none old.pending ≡ true → are_none new.pending ≡ true) → IsFurther after c b old new
further_same after c b old new pending taker lost none = record {
  done = λ h. both_follow (not old.is_lost) (are_none old.pending) (not new.is_lost) (are_none new.pending) (λ k. rw lost k) none h;
  stays = λ h. sym lost ∙ h;
  same = λ h. ap₂ (λ t es. taken after t (ids_that_meet c b es)) taker pending;
}

-- a walk from which a tree is taken, with the outcome that it had
pub further_step : {S : Type 0} (after : S → ℕ → S) (c : Bool) (b : IntegerBox) (old new : Walk S) → are_none old.pending ≡ false → (new.is_lost ≡ false → old.is_lost ≡ false) → (new.is_lost ≡ false → outcome after c b new ≡ outcome after c b old) → IsFurther after c b old new
further_step after c b old new some stays same = record {
  done = λ h. absurd (false_not_true (sym some ∙ (and_parts (not old.is_lost) (are_none old.pending) h).1));
  stays = stays;
  same = same;
}

pub further_trans : {S : Type 0} (after : S → ℕ → S) (c : Bool) (b : IntegerBox) (old mid new : Walk S) → IsFurther after c b old mid → IsFurther after c b mid new → IsFurther after c b old new
further_trans after c b old mid new first second = record {
  done = λ h. second.done (first.done h);
  stays = λ h. first.stays (second.stays h);
  same = λ h. second.same h ∙ first.same (second.stays h);
}

pub further_itself : {S : Type 0} (after : S → ℕ → S) (c : Bool) (b : IntegerBox) (walk : Walk S) → IsFurther after c b walk walk
further_itself after c b walk = further_same after c b walk walk refl refl refl (λ h. h)

-- a walk that is done at no later time was not done before
pub not_done_before : {S : Type 0} (after : S → ℕ → S) (c : Bool) (b : IntegerBox) (old new : Walk S) → IsFurther after c b old new → is_done new ≡ false → (d : Bool) → is_done old ≡ d → is_done old ≡ false
not_done_before after c b old new further h true is = absurd (false_not_true (sym h ∙ further.done is))
not_done_before after c b old new further h false is = is

-- ---- one step

-- a tree around which the hull does not meet the box is left out
pub outcome_pruned : {S : Type 0} (after : S → ℕ → S) (c : Bool) (b hull : IntegerBox) (old new : Walk S) (es : List Entry) → pending_entries old.pending ≡ es ++ pending_entries new.pending → new.taker ≡ old.taker → AreWithin hull es → do_meet c b hull ≡ false → outcome after c b new ≡ outcome after c b old
outcome_pruned after c b hull old new es pending taker within apart =
    let rest = pending_entries new.pending in
    let none : ids_that_meet c b es ≡ [] = ids-unmet c b es (none_in_hull c b hull es within apart) in
    let ids : ids_that_meet c b (pending_entries old.pending) ≡ ids_that_meet c b rest = ap (ids_that_meet c b) pending ∙ (ids-append c b es rest ∙ ap (λ (xs : List ℕ). xs ++ ids_that_meet c b rest) none) in
    ap₂ (λ t xs. taken after t xs) taker (sym ids)

-- an entry is handed to the taker, and both sides are pending
pub outcome_visited : {S : Type 0} (after : S → ℕ → S) (c : Bool) (b : IntegerBox) (taker new : S) (es : List Entry) (e : Entry) (lower upper rest old all : List Entry) → es ≡ e ∷ (lower ++ upper) → old ≡ es ++ rest → all ≡ lower ++ (upper ++ rest) → new ≡ taken after taker (ids_that_meet c b (e ∷ [])) → taken after new (ids_that_meet c b all) ≡ taken after taker (ids_that_meet c b old)
outcome_visited after c b taker new es e lower upper rest old all shown pending added is =
    let both : old ≡ e ∷ all = pending ∙ (ap (λ (xs : List Entry). xs ++ rest) shown ∙ ap (λ (xs : List Entry). e ∷ xs) (append_assoc lower upper rest ∙ sym added)) in
    let ids : ids_that_meet c b old ≡ ids_that_meet c b (e ∷ []) ++ ids_that_meet c b all = ap (ids_that_meet c b) both ∙ ids-append c b (e ∷ []) all in
    ap (λ t. taken after t (ids_that_meet c b all)) is ∙ (sym (taken-append after taker (ids_that_meet c b (e ∷ [])) (ids_that_meet c b all)) ∙ ap (taken after taker) (sym ids))

-- ---- the whole walk

-- the taker of a walk that is done has the ids of all boxes that meet
pub walked : {S : Type 0} (after : S → ℕ → S) (c : Bool) (b : IntegerBox) (old new : Walk S) (taker : S) (es : List Entry) → IsFurther after c b old new → is_done new ≡ true → (old.is_lost ≡ false → pending_entries old.pending ≡ es) → old.taker ≡ taker → new.taker ≡ taken after taker (ids_that_meet c b es)
walked after c b old new taker es further done begins is =
    let parts = and_parts (not new.is_lost) (are_none new.pending) done in
    let found : new.is_lost ≡ false = false_of_not new.is_lost parts.0 in
    let ends : new.taker ≡ outcome after c b new = sym (ap (λ (xs : List Entry). taken after new.taker (ids_that_meet c b xs)) (nothing_left new.pending parts.1)) in
    ends ∙ (further.same found ∙ ap₂ (λ t xs. taken after t (ids_that_meet c b xs)) is (begins (further.stays found)))
