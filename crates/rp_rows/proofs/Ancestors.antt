-- The lots that a lot was made from, and the row that tells them.
use Rattle.std.proofs.Common.{◌≡◌, ℕ, ◌≤◌, Bool, true, false, ◌||◌, not, ◌<◌, List, [], ◌∷◌, ◌++◌, zero, suc, length, Option, Some, None, is_some, refl, sym, ap, ◌∙◌, arith}
use Rattle.std.specs.Prelude.{IfSome, slice_get}
use Rattle.std.specs.List.{AllByRecursion}
use Rattle.std.specs.Option.{option_to_list, option_and_then}
use Rattle.std.proofs.lemmas.List.{length-map}
use Rattle.rp_algebra.proofs.Tests.{and_first, and_second}
use Rattle.rp_algebra.proofs.Lists.{all_both}
use Rattle.rp_language.specs.Name.{Label, label_eq, is_among}
use Rattle.rp_semantics.specs.Walk.{Walk, done, pass}
use Rattle.rp_model.specs.states.State.{Lot, PlainState, Traced, trace, lineage, ids_of, lot_with_id}
use Rattle.rp_model.specs.states.Sound.{are_distinct}
use Rattle.rp_model.specs.commands.Verdict.{Verdict, unknown, lot_lines}
use Rattle.rp_model.specs.commands.Checks.{refuse_if}
use Rattle.rp_model.specs.commands.Reply.{Reply, reply_lines, refusal, check}
use Rattle.rp_model.specs.commands.History.{row_history}
use Rattle.rp_states.proofs.Labels.{label_itself, label_turned}
use Rattle.rp_rows.specs.Lots.{lots_under}

-- ---- the lots that a lot was made from

-- what is true of all lots is true of those that a lot was made from
traced_all : (P : Lot (Unit {0}) → Type 0) (x : Label) (lots : List (Lot (Unit {0}))) → AllByRecursion P lots → AllByRecursion P (trace x lots).lots
traced_all P x [] h = tt
traced_all P x (l ∷ lots) h = by (is_among l.id (trace x lots).wanted) (traced_all P x lots h.1)
  where
    by : (b : Bool) → AllByRecursion P (trace x lots).lots → AllByRecursion P (elim b as (λ _. Traced (Unit {0})) [ true ↦ record { lots = l ∷ (trace x lots).lots; wanted = l.origins ++ (trace x lots).wanted } | false ↦ trace x lots ]).lots
    by true k = (h.0, k)
    by false k = k

-- they are no more than all lots
traced_few : (x : Label) (lots : List (Lot (Unit {0}))) → length (trace x lots).lots ≤ length lots
traced_few x [] = omega arith
traced_few x (l ∷ lots) = by (is_among l.id (trace x lots).wanted) (traced_few x lots)
  where
    by : (b : Bool) → length (trace x lots).lots ≤ length lots → length (elim b as (λ _. Traced (Unit {0})) [ true ↦ record { lots = l ∷ (trace x lots).lots; wanted = l.origins ++ (trace x lots).wanted } | false ↦ trace x lots ]).lots ≤ suc (length lots)
    by true k = omega arith
    by false k = omega arith

-- the same of a lineage
pub lineage_few : (x : Label) (lots : List (Lot (Unit {0}))) → length (lineage x lots) ≤ length lots
unfolding lineage
lineage_few x lots = traced_few x lots

-- ---- lots are found by their ids

-- an id that is among others is none that is not
not_this : (x : Label) (ls : List (Lot (Unit {0}))) → is_among x (ids_of ls) ≡ false → AllByRecursion (λ (l : Lot (Unit {0})). label_eq x l.id ≡ false) ls
not_this x [] h = tt
not_this x (l ∷ ls) h = by (label_eq x l.id) refl h (λ k. not_this x ls k)
  where
    by : (b : Bool) → label_eq x l.id ≡ b → (b || is_among x (ids_of ls)) ≡ false → (is_among x (ids_of ls) ≡ false → AllByRecursion (λ (l : Lot (Unit {0})). label_eq x l.id ≡ false) ls) → AllByRecursion (λ (l : Lot (Unit {0})). label_eq x l.id ≡ false) (l ∷ ls)
    by true e h later = absurd (cc)
    by false e h later = (e, later h)

-- a lot behind another id is found behind it
found_behind : (l : Lot (Unit {0})) (ls : List (Lot (Unit {0}))) (k : Lot (Unit {0})) → label_eq l.id k.id ≡ false → lot_with_id k.id ls ≡ Some k → lot_with_id k.id (l ∷ ls) ≡ Some k
found_behind l ls k other found = ap (λ (b : Bool). elim b as (λ _. Option (Lot (Unit {0}))) [ true ↦ Some l | false ↦ lot_with_id k.id ls ]) (label_turned l.id k.id other) ∙ found

-- where no id stands twice each lot is found by its own
each_found : (lots : List (Lot (Unit {0}))) → are_distinct (ids_of lots) ≡ true → AllByRecursion (λ (l : Lot (Unit {0})). lot_with_id l.id lots ≡ Some l) lots
each_found [] h = tt
each_found (l ∷ ls) h = (
  ap (λ (b : Bool). elim b as (λ _. Option (Lot (Unit {0}))) [ true ↦ Some l | false ↦ lot_with_id l.id ls ]) (label_itself l.id),
  all_both (λ (k : Lot (Unit {0})). label_eq l.id k.id ≡ false) (λ (k : Lot (Unit {0})). lot_with_id k.id ls ≡ Some k) (λ (k : Lot (Unit {0})). lot_with_id k.id (l ∷ ls) ≡ Some k) (λ k other found. found_behind l ls k other found) ls
      (not_this l.id ls (is_not (is_among l.id (ids_of ls)) (and_first (not (is_among l.id (ids_of ls))) (are_distinct (ids_of ls)) h))) (each_found ls (and_second (not (is_among l.id (ids_of ls))) (are_distinct (ids_of ls)) h)),
)
  where
    is_not : (b : Bool) → not b ≡ true → b ≡ false
    is_not true e = absurd (cc)
    is_not false e = refl

-- lots that are found by their ids are those under their ids
under_own : (ls lots : List (Lot (Unit {0}))) → AllByRecursion (λ (l : Lot (Unit {0})). lot_with_id l.id lots ≡ Some l) ls → lots_under (ids_of ls) lots ≡ ls
under_own [] lots h = refl
under_own (l ∷ ls) lots h = λ i. option_to_list (h.0 i) ++ under_own ls lots h.1 i

-- so a lineage is found by its ids
pub lineage_found : (x : Label) (lots : List (Lot (Unit {0}))) → are_distinct (ids_of lots) ≡ true → lots_under (ids_of (lineage x lots)) lots ≡ lineage x lots
unfolding lineage
lineage_found x lots distinct = under_own (trace x lots).lots lots (traced_all (λ (l : Lot (Unit {0})). lot_with_id l.id lots ≡ Some l) x lots (each_found lots distinct))

-- an id is among those of some lots where its lot is found
pub among_found : (x : Label) (lots : List (Lot (Unit {0}))) → is_some (lot_with_id x lots) ≡ is_among x (ids_of lots)
among_found x [] = refl
among_found x (l ∷ lots) = by (label_eq x l.id) (among_found x lots)
  where
    by : (b : Bool) → is_some (lot_with_id x lots) ≡ is_among x (ids_of lots) → is_some (elim b as (λ _. Option (Lot (Unit {0}))) [ true ↦ Some l | false ↦ lot_with_id x lots ]) ≡ (b || is_among x (ids_of lots))
    by true later = refl
    by false later = later

-- ---- `history`

-- the row of a lineage, by whether the id was ever registered
abbrev history_by : {W : Type 0} → PlainState → Label → Bool → Walk W Reply
history_by s x there = check (refuse_if (not there) (unknown x)) (pass (reply_lines (Verdict.lots (length (lineage x s.lots)) ∷ lot_lines (lineage x s.lots))))

-- an id that was never registered has no history
pub no_history : {W : Type 0} (s : PlainState) (x : Label) (w : W) → is_among x (ids_of s.lots) ≡ false → row_history s x w ≡ done (refusal (unknown x)) w
no_history s x w e = ap (λ (b : Bool). history_by s x b w) e

-- any other has that of its lineage
pub its_history : {W : Type 0} (s : PlainState) (x : Label) (w : W) → is_among x (ids_of s.lots) ≡ true → row_history s x w ≡ done (reply_lines (Verdict.lots (length (lineage x s.lots)) ∷ lot_lines (lineage x s.lots))) w
its_history s x w e = ap (λ (b : Bool). history_by s x b w) e

-- a place is there where the id is
pub placed : (x : Label) (kept : List (Lot (Unit {0}))) (o : Option ℕ) → option_and_then (λ k. slice_get kept k) o ≡ lot_with_id x kept → IfSome o (λ k. k < length kept) → is_some o ≡ is_among x (ids_of kept)
placed x kept o found within = by o within ∙ ap is_some found ∙ among_found x kept
  where
    there : (kept : List (Lot (Unit {0}))) (k : ℕ) → k < length kept → is_some (slice_get kept k) ≡ true
    there [] k h = absurd (omega arith)
    there (l ∷ ls) zero h = refl
    there (l ∷ ls) (suc k) h = there ls k (omega arith)

    by : (o : Option ℕ) → IfSome o (λ k. k < length kept) → is_some o ≡ is_some (option_and_then (λ k. slice_get kept k) o)
    by None h = refl
    by (Some k) h = sym (there kept k h)

-- the lines of a lineage, with their number before them
pub history_lines : (x : Label) (lots : List (Lot (Unit {0}))) (ids : List Label) (first all : List Verdict) → are_distinct (ids_of lots) ≡ true → ids ≡ ids_of (lineage x lots) → first ≡ Verdict.lots (length ids) ∷ [] → all ≡ first ++ lot_lines (lots_under ids lots)
    → (Verdict.lots (length (lineage x lots)) ∷ lot_lines (lineage x lots)) ≡ all
history_lines x lots ids first all distinct named begun ends =
    let many : length ids ≡ length (lineage x lots) = ap length named ∙ length-map (lineage x lots) (λ (l : Lot (Unit {0})). l.id) in
    let found : lots_under ids lots ≡ lineage x lots = ap (λ (xs : List Label). lots_under xs lots) named ∙ lineage_found x lots distinct in
    let lines : lot_lines (lots_under ids lots) ≡ lot_lines (lineage x lots) = ap lot_lines found in
    sym (ends ∙ (λ i. begun i ++ lines i) ∙ ap (λ (n : ℕ). Verdict.lots n ∷ lot_lines (lineage x lots)) many)

-- the ids of a lineage are no more than the lots
pub history_few : (x : Label) (kept : List (Lot (Unit {0}))) (ids : List Label) → ids ≡ ids_of (lineage x kept) → length ids ≤ length kept
history_few x kept ids named =
    let many : length ids ≡ length (lineage x kept) = ap length named ∙ length-map (lineage x kept) (λ (l : Lot (Unit {0})). l.id) in
    let few : length (lineage x kept) ≤ length kept = lineage_few x kept in
    omega arith
