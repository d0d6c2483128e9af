-- What the checks on names come to.
use Rattle.std.proofs.Common.{◌≡◌, ℕ, ◌<◌, ◌≤◌, Bool, true, false, not, List, [], ◌∷◌, map, length, Option, Some, None, slice_get, get_or, refl, sym, ap, ◌∙◌, subst, arith}
use Rattle.std.specs.Prelude.{IfSome, IsTrue, nat_lt}
use Rattle.rp_algebra.proofs.Lists.{get_some, images_twice}
use Rattle.rp_language.specs.Name.{Label, is_among}
use Rattle.rp_model.specs.states.State.{Lot, PlainState, live_lots, live_lot, lot_with_id, ids_of, bare_lot, layer_of_lot, layer_with_id, layer_of_first}
use Rattle.rp_model.specs.states.Sound.{are_distinct}
use Rattle.rp_model.specs.commands.Verdict.{Refusal, known, unknown, too_few}
use Rattle.rp_model.specs.commands.Checks.{refuse_if, and_then, check_new, check_live, check_each, check_repeated, check_subdivide}
use Rattle.rp_history.specs.declared.fault.NameFault.{NameFault}
use Rattle.rp_history.specs.declared.lot.LotLine.{LotLine}
use Rattle.rp_history.specs.Lots.{lot_of, lots_in}
use Rattle.rp_history.specs.Checks.{InEach, refusal_of_names, FailsNames}
use Rattle.rp_history.proofs.Found.{there_if_found, not_there}
use Rattle.rp_history.proofs.Bare.{history_ids, none_here, none_live_here, live_here, within_lots}

-- ---- one check and then more

-- the first check is failed
pub fails_first : (e : NameFault) (o p : Option Refusal) → FailsNames e o → FailsNames e (and_then o p)
fails_first e o p h = by (refusal_of_names e) h
  where
    by : (f : Option Refusal) → IfSome f (λ r. o ≡ Some r) → IfSome f (λ r. and_then o p ≡ Some r)
    by None g = tt
    by (Some r) g = ap (λ (q : Option Refusal). and_then q p) g

-- the first check passes, and a later one is failed
pub fails_later : (e : NameFault) (o p : Option Refusal) → o ≡ None → FailsNames e p → FailsNames e (and_then o p)
fails_later e o p f h = subst (λ (q : Option Refusal). FailsNames e (and_then q p)) (sym f) h

-- where both pass, the first does
pub passes_first : (o p : Option Refusal) → and_then o p ≡ None → o ≡ None
passes_first None p h = refl
passes_first (Some r) p h = absurd (cc)

-- so a lot that is to be divided is live
pub divided_is_live : (s : PlainState) (x : Label) (ids : List Label) → check_subdivide s x ids ≡ None → check_live s x ≡ None
divided_is_live s x ids h = by (nat_lt (length ids) 2) h
  where
    by : (b : Bool) → and_then (refuse_if b too_few) (and_then (check_live s x) (and_then (check_each (check_new s) ids) (check_repeated [] ids))) ≡ None → check_live s x ≡ None
    by true g = absurd (cc)
    by false g = passes_first (check_live s x) (and_then (check_each (check_new s) ids) (check_repeated [] ids)) g

-- the same check in other words
pub fails_as : (e : NameFault) (o p : Option Refusal) → o ≡ p → FailsNames e o → FailsNames e p
fails_as e o p f h = subst (FailsNames e) f h

-- ---- a consolidation, check by check

-- there are two ids or more
pub are_enough : (n : ℕ) → 2 ≤ n → refuse_if (nat_lt n 2) too_few ≡ None
are_enough n h = let e : nat_lt n 2 ≡ false = grind (arith) in ap (λ (b : Bool). refuse_if b too_few) e

-- both pass
pub passes_both : (o p : Option Refusal) → o ≡ None → p ≡ None → and_then o p ≡ None
passes_both o p f g = ap (λ (q : Option Refusal). and_then q p) f ∙ g

-- the layer of the first id is that of the list
pub layer_of_head : (s : PlainState) (ids : List Label) (x : Label) → 0 < length ids → x ≡ get_or ids 0 x → layer_with_id s x ≡ layer_of_first s ids
layer_of_head s [] x l e = absurd (omega (arith, l))
layer_of_head s (y ∷ ids) x l e = ap (layer_with_id s) e

-- ---- ids

-- an id that has a place is registered
pub registered : (x : Label) (s : PlainState) (history : List (Lot (Unit {0}))) → history ≡ map bare_lot s.lots → (k : ℕ) → k < length history → slice_get history k ≡ lot_with_id x history → check_new s x ≡ Some (known x)
registered x s history e k within same =
    let item = get_some history k within in
    let among : is_among x (ids_of history) ≡ true = there_if_found x history item.0 (sym same ∙ item.1) in
    ap (λ (b : Bool). refuse_if b (known x)) (sym (ap (is_among x) (history_ids s.lots history e)) ∙ among)

-- an id that has none is not
pub not_registered : (x : Label) (s : PlainState) (history : List (Lot (Unit {0}))) → history ≡ map bare_lot s.lots → None ≡ lot_with_id x history → check_new s x ≡ None
not_registered x s history e same = ap (λ (b : Bool). refuse_if b (known x)) (not_there x s.lots (none_here x s.lots history e same))

-- the live lot at its place in the history is the one of the lots
pub live_there : (x : Label) (s : PlainState) (history : List (Lot (Unit {0}))) → history ≡ map bare_lot s.lots → IsTrue (are_distinct (ids_of history)) → (k : ℕ) → k < length history → slice_get history k ≡ live_lot x history → slice_get s.lots k ≡ live_lot x s.lots
live_there x s history e d k within same = live_here x s.lots history (subst (λ (xs : List Label). IsTrue (are_distinct xs)) (history_ids s.lots history e) d) e k (within_lots s.lots history e k within) same

-- so its id is live
pub is_live_there : (x : Label) (s : PlainState) (history : List (Lot (Unit {0}))) → history ≡ map bare_lot s.lots → IsTrue (are_distinct (ids_of history)) → (k : ℕ) → k < length history → slice_get history k ≡ live_lot x history → check_live s x ≡ None
is_live_there x s history e d k within same =
    let item = get_some s.lots k (within_lots s.lots history e k within) in
    ap (λ (b : Bool). refuse_if (not b) (unknown x)) (there_if_found x (live_lots s.lots) item.0 (sym (live_there x s history e d k within same) ∙ item.1))

-- an id that has none is not
pub is_not_live : (x : Label) (s : PlainState) (history : List (Lot (Unit {0}))) → history ≡ map bare_lot s.lots → None ≡ live_lot x history → check_live s x ≡ Some (unknown x)
is_not_live x s history e same = ap (λ (b : Bool). refuse_if (not b) (unknown x)) (not_there x (live_lots s.lots) (none_live_here x s.lots history e same))

-- an id that is live in each state with the history has a live lot in it
pub none_is_live : (x : Label) (history : List (Lot (Unit {0}))) (lines : List LotLine) → map lot_of lines ≡ history → InEach history (λ s. check_live s x ≡ None) → None ≡ live_lot x history → ⊥
none_is_live x history lines seen h none =
    let itself : history ≡ map bare_lot history = sym seen ∙ sym (images_twice lot_of bare_lot lines) ∙ ap (map bare_lot) seen in
    let f : check_live (lots_in [] history) x ≡ None = h (lots_in [] history) itself in
    let g = is_not_live x (lots_in [] history) history itself none in
    absurd (cc)

-- ---- each of a list

-- the check of the first of some ids is failed
pub each_fails : (e : NameFault) (test : Label → Option Refusal) (x : Label) (xs whole : List Label) (all : Option Refusal) → whole ≡ x ∷ xs → check_each test whole ≡ all → FailsNames e (test x) → FailsNames e all
each_fails e test x xs whole all f g h = fails_as e (and_then (test x) (check_each test xs)) all (sym (ap (check_each test) f) ∙ g) (fails_first e (test x) (check_each test xs) h)

-- it passes, and the others are left
pub each_passes : (test : Label → Option Refusal) (x : Label) (xs whole : List Label) (all : Option Refusal) → whole ≡ x ∷ xs → check_each test whole ≡ all → test x ≡ None → check_each test xs ≡ all
each_passes test x xs whole all e f h = sym (ap (λ (o : Option Refusal). and_then o (check_each test xs)) h) ∙ sym (ap (check_each test) e) ∙ f

-- the first of some ids passes where all do
pub first_passes : (test : Label → Option Refusal) (x : Label) (xs whole : List Label) → whole ≡ x ∷ xs → check_each test whole ≡ None → test x ≡ None
first_passes test x xs whole e f = passes_first (test x) (check_each test xs) (sym (ap (check_each test) e) ∙ f)

-- ---- layers

-- the layer of the live lot at a place
pub layer_here : (x : Label) (s : PlainState) (k : ℕ) (l : Lot (Unit {0})) → slice_get s.lots k ≡ live_lot x s.lots → slice_get s.lots k ≡ Some l → l.layer ≡ layer_with_id s x
layer_here x s k l same at = ap (layer_of_lot s.layer) (sym at ∙ same)
