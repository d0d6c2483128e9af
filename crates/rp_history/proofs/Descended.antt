-- The lots that a lot descends from, found from the last to the first by the places of those that are wanted.
use Rattle.std.proofs.Common.{◌≡◌, ℕ, zero, suc, ◌+◌, ◌-◌, ◌<◌, ◌≤◌, Bool, true, false, ◌||◌, cond, max, List, [], ◌∷◌, ◌++◌, reverse, length, take, drop, get_or, None, Some, slice_get, ◌⊎◌, ⊎_elim, refl, sym, ap, ap₂, ◌∙◌, subst, arith}
use Rattle.std.specs.Prelude.{IsTrue}
use Rattle.std.specs.List.{AllByRecursion}
use Rattle.std.specs.BTreeMap.{is_at}
use Rattle.std.specs.Ordering.{nat_cmp}
use Rattle.std.specs.declared.cmp.Ordering.TheVariants.{Less}
use Rattle.std.proofs.lemmas.Bool.Decides.{nat_tests}
use Rattle.std.proofs.lemmas.Cmp.{ranked}
use Rattle.std.proofs.lemmas.Bool.{or_left, or_right, or_cases, cases_lt}
use Rattle.std.proofs.lemmas.List.{map-append, reverse-append, drop_more, drop_all, take-append-drop, append_assoc}
use Rattle.std.proofs.lemmas.Option.{slice_get-get_or}
use Rattle.rp_algebra.proofs.Listed.{all_map}
use Rattle.rp_algebra.proofs.Lists.{get_some}
use Rattle.rp_language.specs.Name.{Label, label_eq, is_among}
use Rattle.rp_model.specs.states.State.{Lot, Traced, trace, lineage, lot_with_id, ids_of}
use Rattle.rp_model.specs.states.Sound.{are_distinct, OriginsStandBefore}
use Rattle.rp_states.proofs.Labels.{label_is, label_same, among_all}
use Rattle.rp_states.proofs.Lineage.{not_in_both}
use Rattle.rp_states.proofs.Picked.{pick}
use Rattle.rp_history.specs.Pending.{has_place, AddsPlaces}
use Rattle.rp_history.proofs.Found.{found_has_id, not_there, there, own_place, one_place}

-- ---- places that are pending

-- a place is itself, and no other
pub at_itself : (k : ℕ) → is_at (nat_cmp k) k ≡ true
at_itself k = grind (arith, nat_tests)

not_at : (k q : ℕ) → k < q → is_at (nat_cmp k) q ≡ false
not_at k q h = grind (arith, nat_tests, h)

not_behind : (k q : ℕ) → q < k → is_at (nat_cmp k) q ≡ false
not_behind k q h = grind (arith, nat_tests, h)

-- one behind all
none_at : (p : ℕ) (ks : List ℕ) → AllByRecursion (λ k. k < p) ks → has_place ks p ≡ false
none_at p [] h = refl
none_at p (k ∷ ks) h = ap₂ ◌||◌ (not_behind p k h.0) (none_at p ks h.1)

-- the last one
last_there : (ks : List ℕ) (q : ℕ) → has_place (ks ++ q ∷ []) q ≡ true
last_there [] q = ap (λ (b : Bool). b || false) (at_itself q)
last_there (k ∷ ks) q = or_right (is_at (nat_cmp q) k) (has_place (ks ++ q ∷ []) q) (last_there ks q)

-- one before the last
before_last : (ks : List ℕ) (q k : ℕ) → k < q → has_place (ks ++ q ∷ []) k ≡ has_place ks k
before_last [] q k h = ap (λ (b : Bool). b || false) (not_at k q h)
before_last (j ∷ ks) q k h = ap (λ (b : Bool). is_at (nat_cmp k) j || b) (before_last ks q k h)

-- one that is there
is_below : (q : ℕ) (ks : List ℕ) → AllByRecursion (λ k. k < q) ks → (k : ℕ) → has_place ks k ≡ true → k < q
is_below q [] h k e = absurd (cc)
is_below q (j ∷ ks) h k e = ⊎_elim (λ f. first (cases_lt k j) f) (λ f. is_below q ks h.1 k f) (or_cases (is_at (nat_cmp k) j) (has_place ks k) e)
  where
    first : ◌⊎◌ (k < j) (j ≤ k) → is_at (nat_cmp k) j ≡ true → k < q
    first c f = ⊎_elim (λ g. let low = h.0 in omega (arith, g, low)) (λ g. ⊎_elim (λ m. absurd (let no = not_behind k j m in cc)) (λ m. let low = h.0 in omega (arith, m, low)) (cases_lt j k)) c

-- one that passes for another is below as it is
below_too : (n p k : ℕ) → is_at (nat_cmp p) k ≡ true → p < n → k < n
below_too n p k e h =
    ⊎_elim (λ f. absurd (let no = not_at p k f in cc)) (λ f. ⊎_elim (λ g. absurd (let no = not_behind p k g in cc)) (λ g. omega (arith, f, g, h)) (cases_lt k p)) (cases_lt p k)

-- what each that is there is
all_there : (Q : ℕ → Type 0) (ks : List ℕ) → ((k : ℕ) → has_place ks k ≡ true → Q k) → AllByRecursion Q ks
all_there Q [] f = tt
all_there Q (k ∷ ks) f = (f k (or_left (is_at (nat_cmp k) k) (has_place ks k) (at_itself k)), all_there Q ks (λ j e. f j (or_right (is_at (nat_cmp j) k) (has_place ks j) e)))

-- the places that a test finds to be less than one
pub all_less : (q : ℕ) (ks : List ℕ) → ((k d : ℕ) → k < length ks → nat_cmp (get_or ks k d) q ≡ Less) → AllByRecursion (λ k. k < q) ks
all_less q [] f = tt
all_less q (k ∷ ks) f = (ranked k q Less (sym (f 0 0 (omega arith))), all_less q ks (λ i d h. f (suc i) d (omega (arith, h))))

-- the last of places that are below one
last_below : (p : ℕ) (ks : List ℕ) (q : ℕ) → AllByRecursion (λ k. k < p) (ks ++ q ∷ []) → q < p
last_below p [] q h = h.0
last_below p (k ∷ ks) q h = last_below p ks q h.1

-- all that are below
all_further : (q p : ℕ) (ks : List ℕ) → q ≤ p → AllByRecursion (λ k. k < q) ks → AllByRecursion (λ k. k < p) ks
all_further q p ks h = all_map (λ k. k < q) (λ k. k < p) (λ k f. omega (arith, f, h)) ks

-- behind all of them
abbrev pub end_of : List ℕ → ℕ
end_of [] = 0
end_of (k ∷ ks) = max (k + 1) (end_of ks)

end_below : (q : ℕ) (ks : List ℕ) → AllByRecursion (λ k. k < q) ks → end_of ks ≤ q
end_below q [] h = omega arith
end_below q (k ∷ ks) h = let low = h.0 in let later = end_below q ks h.1 in omega (arith, low, later)

end_last : (ks : List ℕ) (q : ℕ) → q < end_of (ks ++ q ∷ [])
end_last [] q = omega arith
end_last (k ∷ ks) q = let later = end_last ks q in omega (arith, later)

-- no place is pending
pub none_pending : (ks : List ℕ) → (0 < length ks → ⊥) → ks ≡ []
none_pending [] f = refl
none_pending (k ∷ ks) f = absurd (f (omega arith))

-- ---- places that are added

-- a label among two lists
among_both : (y : Label) (xs ys : List Label) → is_among y (xs ++ ys) ≡ (is_among y xs || is_among y ys)
among_both y [] ys = refl
among_both y (x ∷ xs) ys = by (label_eq y x) (among_both y xs ys)
  where
    by : (b : Bool) → is_among y (xs ++ ys) ≡ (is_among y xs || is_among y ys) → (b || is_among y (xs ++ ys)) ≡ ((b || is_among y xs) || is_among y ys)
    by true later = refl
    by false later = later

-- the place of a lot is that of those that have its id
placed_alone : {S : Type 0} (x : Label) (lots : List (Lot S)) → IsTrue (are_distinct (ids_of lots)) → (p : ℕ) → p < length lots → slice_get lots p ≡ lot_with_id x lots → (k : ℕ) (l : Lot S) → slice_get lots k ≡ Some l → is_at (nat_cmp p) k ≡ label_eq l.id x
placed_alone {S = S} x lots d p h found k l at = by (label_eq l.id x) refl
  where
    equal : label_eq l.id x ≡ false → p ≡ k → ⊥
    equal e f =
        let same : lot_with_id x lots ≡ Some l = sym found ∙ ap (slice_get lots) f ∙ at in
        let yes = label_same l.id x (sym (label_is x l.id (found_has_id x lots l same))) in
        cc (e, yes)

    by : (b : Bool) → label_eq l.id x ≡ b → is_at (nat_cmp p) k ≡ b
    by true e =
        let own : lot_with_id x lots ≡ Some l = subst (λ y. lot_with_id y lots ≡ Some l) (label_is l.id x e) (own_place lots d k l at) in
        subst (λ n. is_at (nat_cmp p) n ≡ true) (one_place lots d p k l (found ∙ own) at) (at_itself p)
    by false e = ⊎_elim (λ f. not_at p k f) (λ f. ⊎_elim (λ g. not_behind p k g) (λ g. absurd (equal e (omega (arith, f, g)))) (cases_lt k p)) (cases_lt p k)

-- the place of one lot
pub place_added : {S : Type 0} (x : Label) (lots : List (Lot S)) → IsTrue (are_distinct (ids_of lots)) → (p : ℕ) → p < length lots → slice_get lots p ≡ lot_with_id x lots → (old new : List ℕ) → ((k : ℕ) → has_place new k ≡ cond (is_at (nat_cmp p) k) true (has_place old k)) →
    AddsPlaces (x ∷ []) lots old new
place_added x lots d p h found old new updates = record {
  each = λ k l at. updates k ∙ ap (λ b. cond b true (has_place old k)) (placed_alone x lots d p h found k l at) ∙ either (label_eq l.id x) (has_place old k);
  within = λ all. all_there (λ k. k < length lots) new (λ k e. by all k (is_at (nat_cmp p) k) refl (sym (updates k) ∙ e));
}
  where
    either : (b c : Bool) → cond b true c ≡ ((b || false) || c)
    either true c = refl
    either false c = refl

    by : AllByRecursion (λ k. k < length lots) old → (k : ℕ) (b : Bool) → is_at (nat_cmp p) k ≡ b → cond b true (has_place old k) ≡ true → k < length lots
    by all k true e f = below_too (length lots) p k e h
    by all k false e f = is_below (length lots) old all k f

-- a lot that is not there has none
pub no_place_added : {S : Type 0} (x : Label) (lots : List (Lot S)) (ks : List ℕ) → lot_with_id x lots ≡ None → AddsPlaces (x ∷ []) lots ks ks
no_place_added {S = S} x lots ks none = record {
  each = λ k l at. ap (λ b. (b || false) || has_place ks k) (sym (other (label_eq l.id x) k l at refl));
  within = λ all. all;
}
  where
    other : (b : Bool) (k : ℕ) (l : Lot S) → slice_get lots k ≡ Some l → label_eq l.id x ≡ b → b ≡ false
    other false k l at e = refl
    other true k l at e =
        let here : is_among x (ids_of lots) ≡ true = subst (λ y. is_among y (ids_of lots) ≡ true) (label_is l.id x e) (there lots k l at) in
        let no = not_there x lots none in
        absurd (cc)

-- none is added
pub none_added : {S : Type 0} (lots : List (Lot S)) (ks : List ℕ) → AddsPlaces [] lots ks ks
none_added lots ks = record { each = λ k l at. refl; within = λ all. all }

-- one more is added
pub one_added : {S : Type 0} (xs : List Label) (x : Label) (lots : List (Lot S)) (old between new : List ℕ) → AddsPlaces xs lots old between → AddsPlaces (x ∷ []) lots between new → AddsPlaces (xs ++ x ∷ []) lots old new
one_added xs x lots old between new g h = record {
  each = λ k l at. h.each k l at ∙ ap (λ b. is_among l.id (x ∷ []) || b) (g.each k l at) ∙ turned (is_among l.id (x ∷ [])) (is_among l.id xs) (has_place old k) ∙ ap (λ b. b || has_place old k) (sym (among_both l.id xs (x ∷ [])));
  within = λ all. h.within (g.within all);
}
  where
    turned : (a b c : Bool) → (a || (b || c)) ≡ ((b || a) || c)
    turned true true c = refl
    turned true false c = refl
    turned false true c = refl
    turned false false c = refl

-- ---- what is wanted

-- those lots before a place that are wanted by the ones behind have the pending places, and those behind that were found are told from the last to the first
pub record AreWanted {S : Type 0} (x : Label) (lots : List (Lot S)) (p : ℕ) (ks : List ℕ) (down : List Label) : Type 0 where
  pub end : p ≤ length lots
  pub below : AllByRecursion (λ k. k < p) ks
  pub wanted : (k : ℕ) (l : Lot S) → k < p → slice_get lots k ≡ Some l → is_among l.id (trace x (drop p lots)).wanted ≡ has_place ks k
  pub found : ids_of (trace x (drop p lots)).lots ≡ reverse down

-- what is left from a place on
left_from : {S : Type 0} (lots : List (Lot S)) (k : ℕ) (l : Lot S) → k < length lots → slice_get lots k ≡ Some l → drop k lots ≡ l ∷ drop (k + 1) lots
left_from {S = S} lots k l h at =
    let item : get_or lots k l ≡ l = let e : Some (get_or lots k l) ≡ Some l = sym (slice_get-get_or lots k l h) ∙ at in cc in
    drop_more lots k l h ∙ ap (λ (m : Lot S). m ∷ drop (k + 1) lots) item

-- what is traced from the lot of a place on
traced_from : {S : Type 0} (x : Label) (lots : List (Lot S)) (k : ℕ) (l : Lot S) (b : Bool) → k < length lots → slice_get lots k ≡ Some l → is_among l.id (trace x (drop (k + 1) lots)).wanted ≡ b →
    trace x (drop k lots) ≡ pick b (record { lots = l ∷ (trace x (drop (k + 1) lots)).lots; wanted = l.origins ++ (trace x (drop (k + 1) lots)).wanted }) (trace x (drop (k + 1) lots))
traced_from {S = S} x lots k l b h at e =
    ap (trace x) (left_from lots k l h at)
    ∙ ap (λ (c : Bool). pick c (record { lots = l ∷ (trace x (drop (k + 1) lots)).lots; wanted = l.origins ++ (trace x (drop (k + 1) lots)).wanted }) (trace x (drop (k + 1) lots))) e

-- the lot before the place isn't wanted
pass_one : {S : Type 0} (x : Label) (lots : List (Lot S)) (p : ℕ) (ks : List ℕ) (down : List Label) → AreWanted x lots (p + 1) ks down → AllByRecursion (λ k. k < p) ks → AreWanted x lots p ks down
pass_one {S = S} x lots p ks down h low =
    let end = h.end in
    let here : p < length lots = omega (arith, end) in
    let l = get_some lots p here in
    let no = h.wanted p l.0 (omega arith) l.1 ∙ none_at p ks low in
    let same = traced_from x lots p l.0 false here l.1 no in
    record {
      end = omega (arith, end);
      below = low;
      wanted = λ k m g at. ap (λ (t : Traced S). is_among m.id t.wanted) same ∙ h.wanted k m (omega (arith, g)) at;
      found = ap (λ (t : Traced S). ids_of t.lots) same ∙ h.found;
    }

-- none of the lots between two places is wanted
pass_all : {S : Type 0} (x : Label) (lots : List (Lot S)) (n q p : ℕ) (ks : List ℕ) (down : List Label) → p ≡ q + n → AreWanted x lots p ks down → AllByRecursion (λ k. k < q) ks → AreWanted x lots q ks down
pass_all x lots zero q p ks down e h low = let same : p ≡ q = omega (arith, e) in subst (λ n. AreWanted x lots n ks down) same h
pass_all x lots (suc n) q p ks down e h low =
    let next : p ≡ q + n + 1 = omega (arith, e) in
    pass_all x lots n q (q + n) ks down refl (pass_one x lots (q + n) ks down (subst (λ m. AreWanted x lots m ks down) next h) (all_further q (q + n) ks (omega arith) low)) low

-- the last of a list put the other way round
turned_last : {A : Type 0} (xs : List A) (x : A) → reverse (xs ++ x ∷ []) ≡ x ∷ reverse xs
turned_last xs x = reverse-append xs (x ∷ [])

-- the origins of a lot stand before it
origins_before : {S : Type 0} (earlier : List Label) (before : List (Lot S)) (l : Lot S) (after : List (Lot S)) → OriginsStandBefore earlier (before ++ l ∷ after) → AllByRecursion (λ y. IsTrue (is_among y (earlier ++ ids_of before))) l.origins
origins_before earlier [] l after h = subst (λ (xs : List Label). AllByRecursion (λ y. IsTrue (is_among y xs)) l.origins) (sym (nothing_behind earlier)) h.0
  where
    nothing_behind : (xs : List Label) → xs ++ [] ≡ xs
    nothing_behind [] = refl
    nothing_behind (x ∷ xs) = ap (λ (ys : List Label). x ∷ ys) (nothing_behind xs)
origins_before earlier (m ∷ before) l after h =
    subst (λ (xs : List Label). AllByRecursion (λ y. IsTrue (is_among y xs)) l.origins) (append_assoc earlier (m.id ∷ []) (ids_of before)) (origins_before (earlier ++ m.id ∷ []) before l after h.1)

-- an item from a place on
there_behind : {S : Type 0} (lots : List (Lot S)) (q k : ℕ) (m : Lot S) → q ≤ k → slice_get lots k ≡ Some m → is_among m.id (ids_of (drop q lots)) ≡ true
there_behind lots zero k m h at = there lots k m at
there_behind [] (suc q) k m h at = absurd (cc)
there_behind (l ∷ lots) (suc q) zero m h at = absurd (omega (arith, h))
there_behind (l ∷ lots) (suc q) (suc k) m h at = there_behind lots q k m (omega (arith, h)) at

-- a lot that another was made from stands before it
origin_below : {S : Type 0} (lots : List (Lot S)) (q : ℕ) (l : Lot S) → IsTrue (are_distinct (ids_of lots)) → OriginsStandBefore [] lots → q < length lots → slice_get lots q ≡ Some l →
    (k : ℕ) (m : Lot S) → slice_get lots k ≡ Some m → is_among m.id l.origins ≡ true → k < q
origin_below {S = S} lots q l d o h at k m there e = ⊎_elim (λ f. f) (λ f. absurd (not_in_both (ids_of before) (ids_of (drop q lots)) split m.id earlier (there_behind lots q k m f there))) (cases_lt k q)
  where
    before : List (Lot S)
    before = take q lots

    whole : lots ≡ before ++ l ∷ drop (q + 1) lots
    whole = sym (take-append-drop q lots) ∙ ap (λ (ls : List (Lot S)). before ++ ls) (left_from lots q l h at)

    split : IsTrue (are_distinct (ids_of before ++ ids_of (drop q lots)))
    split = subst (λ (xs : List Label). IsTrue (are_distinct xs)) (ap ids_of (sym (take-append-drop q lots)) ∙ map-append (λ (n : Lot S). n.id) before (drop q lots)) d

    earlier : is_among m.id (ids_of before) ≡ true
    earlier = among_all (λ y. IsTrue (is_among y (ids_of before))) l.origins (origins_before [] before l (drop (q + 1) lots) (subst (OriginsStandBefore []) whole o)) m.id e

-- the lot of the last pending place is wanted: it is found, and the places of its origins are pending
take_last : {S : Type 0} (x : Label) (lots : List (Lot S)) (q : ℕ) (l : Lot S) (ks new : List ℕ) (down : List Label) → IsTrue (are_distinct (ids_of lots)) → OriginsStandBefore [] lots → slice_get lots q ≡ Some l →
    AreWanted x lots (q + 1) (ks ++ q ∷ []) down → AllByRecursion (λ k. k < q) ks → AddsPlaces l.origins lots ks new → AreWanted x lots q new (down ++ l.id ∷ [])
take_last {S = S} x lots q l ks new down d o at h low adds =
    let end = h.end in
    let here : q < length lots = omega (arith, end) in
    let yes = h.wanted q l (omega arith) at ∙ last_there ks q in
    let same = traced_from x lots q l true here at yes in
    let later : List Label = (trace x (drop (q + 1) lots)).wanted in
    let all = adds.within (all_further q (length lots) ks (omega (arith, here)) low) in
    record {
      end = omega (arith, end);
      below = all_there (λ k. k < q) new (λ k e. let m = get_some lots k (is_below (length lots) new all k e) in ⊎_elim (origin_below lots q l d o here at k m.0 m.1) (is_below q ks low k) (or_cases (is_among m.0.id l.origins) (has_place ks k) (sym (adds.each k m.0 m.1) ∙ e)));
      wanted = λ k m g there.
          ap (λ (t : Traced S). is_among m.id t.wanted) same
          ∙ among_both m.id l.origins later
          ∙ ap (λ (b : Bool). is_among m.id l.origins || b) (h.wanted k m (omega (arith, g)) there ∙ before_last ks q k g)
          ∙ sym (adds.each k m there);
      found = ap (λ (t : Traced S). ids_of t.lots) same ∙ ap (λ (ys : List Label). l.id ∷ ys) h.found ∙ sym (turned_last down l.id);
    }

-- a place that is pending is within
pub pending_within : {S : Type 0} (x : Label) (lots : List (Lot S)) (p : ℕ) (ks old : List ℕ) (q : ℕ) (down : List Label) → AreWanted x lots p old down → old ≡ ks ++ q ∷ [] → q < length lots
pending_within x lots p ks old q down h e =
    let low = last_below p ks q (subst (AllByRecursion (λ k. k < p)) e h.below) in
    let end = h.end in
    omega (arith, low, end)

-- the lot of the last pending place was looked at
pub next_wanted : {S : Type 0} (x : Label) (lots : List (Lot S)) (p q : ℕ) (l : Lot S) (old ks new : List ℕ) (down : List Label) → IsTrue (are_distinct (ids_of lots)) → OriginsStandBefore [] lots → slice_get lots q ≡ Some l →
    AreWanted x lots p old down → old ≡ ks ++ q ∷ [] → AllByRecursion (λ k. k < q) ks → AddsPlaces l.origins lots ks new → AreWanted x lots q new (down ++ l.id ∷ [])
next_wanted x lots p q l old ks new down d o at h e low adds =
    let here = last_below p ks q (subst (AllByRecursion (λ k. k < p)) e h.below) in
    let next : p ≡ q + 1 + (p - (q + 1)) = omega (arith, here) in
    take_last x lots q l ks new down d o at
    (subst (λ (js : List ℕ). AreWanted x lots (q + 1) js down) e (pass_all x lots (p - (q + 1)) (q + 1) p old down next h (subst (AllByRecursion (λ k. k < q + 1)) (sym e) (all_put ks (all_further q (q + 1) ks (omega arith) low))))) low adds
  where
    all_put : (ks : List ℕ) → AllByRecursion (λ k. k < q + 1) ks → AllByRecursion (λ k. k < q + 1) (ks ++ q ∷ [])
    all_put [] f = (omega arith, tt)
    all_put (k ∷ ks) f = (f.0, all_put ks f.1)

-- at first the lot itself is wanted
pub first_wanted : {S : Type 0} (x : Label) (lots : List (Lot S)) (ks : List ℕ) → AddsPlaces (x ∷ []) lots [] ks → AreWanted x lots (length lots) ks []
first_wanted {S = S} x lots ks adds =
    let none = drop_all (length lots) lots (omega arith) in
    record {
      end = omega arith;
      below = adds.within tt;
      wanted = λ k m g at. ap (λ (ls : List (Lot S)). is_among m.id (trace x ls).wanted) none ∙ or_nothing (is_among m.id (x ∷ [])) ∙ sym (adds.each k m at);
      found = ap (λ (ls : List (Lot S)). ids_of (trace x ls).lots) none;
    }
  where
    or_nothing : (b : Bool) → b ≡ (b || false)
    or_nothing true = refl
    or_nothing false = refl

-- when no place is pending, all are found
pub all_found : {S : Type 0} (x : Label) (lots : List (Lot S)) (p : ℕ) (down : List Label) → AreWanted x lots p [] down → reverse down ≡ ids_of (lineage x lots)
unfolding lineage
all_found x lots p down h = sym (pass_all x lots p 0 p [] down (omega arith) h tt).found

-- the end of those that are pending comes nearer
pub ends_sooner : {S : Type 0} (x : Label) (lots : List (Lot S)) (q : ℕ) (old ks new : List ℕ) (down : List Label) → AreWanted x lots q new down → old ≡ ks ++ q ∷ [] → end_of new < end_of old
ends_sooner x lots q old ks new down h e =
    let low = end_below q new h.below in
    let high = subst (λ (js : List ℕ). q < end_of js) (sym e) (end_last ks q) in
    omega (arith, low, high)
