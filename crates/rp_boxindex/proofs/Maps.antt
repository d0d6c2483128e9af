-- The map that is made of the entries of a tree.
use Rattle.std.proofs.Common.{◌≡◌, ℕ, ◌+◌, ◌≤◌, Bool, true, false, cond, ◌&&◌, ltb, List, [], ◌∷◌, ◌++◌, length, Option, Some, None, MatchOption, is_some, refl, sym, ap, ap₂, ◌∙◌, arith, subst}
use Rattle.std.specs.Ordering.{nat_cmp, is_eq, int_eq}
use Rattle.std.specs.declared.cmp.Ordering.{Ordering}
use Rattle.std.specs.declared.cmp.Ordering.TheVariants.{Less, Equal, Greater}
use Rattle.std.specs.Cmp.{nat_cmp_total}
use Rattle.std.specs.FinMap.{from_entries, get, insert, remove, entries, empty, find, put, len-empty, len-entries, entries-insert, get-from_entries, get-insert, get-remove, same_map, nat_cmp-IsAntisymmetric, contains_key}
use Rattle.std.specs.FinMap.Entries.{by_order}
use Rattle.std.specs.Option.{option_to_list}
use Rattle.std.specs.Map.{lookup, remove_entry, keys_of}
use Rattle.std.specs.BTreeMap.{is_at, insert_entry}
use Rattle.std.specs.List.Sorted.{IsStrictlySortedBy}
use Rattle.rp_space.specs.declared.bounds.IntBox.{IntBox}
use Rattle.rp_boxindex.specs.Counts.{count, SameCounts}
use Rattle.rp_boxindex.specs.Boxes.{Entry, Boxes}
use Rattle.rp_boxindex.specs.declared.place.Corner.{Corner}
use Rattle.rp_boxindex.specs.declared.place.Place.{Place}
use Rattle.rp_boxindex.specs.tree.Order.{corner_of, lows_of, place_of, is_at_place}
use Rattle.rp_boxindex.proofs.Counts.{count-none, count-le, count-all, false_not_true, when, not_counted}
use Rattle.rp_boxindex.proofs.Order.{at_place, at_place_from, and_parts, int_eq_is, int_eq_same}
use Rattle.rp_boxindex.proofs.Places.{has_id, IsUnique, count-map, at_is, at_itself, is_some-count, none_at, none_found, inserted_counts, removed_counts, changed_counts, sorted_unique, found_counts}
use Rattle.rp_boxindex.proofs.Same.{same_box, same_box_is, same_box_itself}

find_lookup : (es : List Entry) (q : ℕ) → find nat_cmp q es ≡ lookup (is_at (nat_cmp q)) es
find_lookup [] q = refl
find_lookup (e ∷ es) q = ap (cond (is_at (nat_cmp q) e.0) (Some e.1)) (find_lookup es q)

-- what the map of the entries has at an id
get_is : (es : List Entry) (q : ℕ) → get (from_entries {R = nat_cmp} es) q ≡ lookup (is_at (nat_cmp q)) es
get_is es q = get-from_entries nat_cmp_total es q ∙ find_lookup es q

is_one : (b : Bool) → cond {A = ℕ} b 1 0 ≡ 1 → b ≡ true
is_one true h = refl
is_one false h = absurd (omega arith)

-- two lists with the same entries, of which one has no id twice, have the same at an id
same_found : (xs ys : List Entry) (q : ℕ) (r s : Option IntBox) → lookup (is_at (nat_cmp q)) xs ≡ r → lookup (is_at (nat_cmp q)) ys ≡ s → SameCounts xs ys → count (has_id q) xs ≤ 1 → r ≡ s
same_found xs ys q None None f g same once = refl
same_found xs ys q None (Some w) f g same once =
    let a = none_at xs q f in
    let b = removed_counts ys q w g (has_id q) in
    let c = same (has_id q) in
    let at = when (has_id {Y = IntBox} q (q, w)) true (at_itself q q refl) in
    absurd (omega arith)
same_found xs ys q (Some v) None f g same once =
    let a = none_at ys q g in
    let b = removed_counts xs q v f (has_id q) in
    let c = same (has_id q) in
    let at = when (has_id {Y = IntBox} q (q, v)) true (at_itself q q refl) in
    absurd (omega arith)
same_found xs ys q (Some v) (Some w) f g same once =
    let p : Entry → Bool = λ e. same_box e.1 w in
    let here = same (has_id q) in
    let once' : count (has_id q) ys ≤ 1 = omega arith in
    let a = found_counts xs q v p f once in
    let b = found_counts ys q w p g once' in
    let c = same (λ e. has_id q e && p e) in
    let d = when (p (q, w)) true (same_box_itself w) in
    let e : cond {A = ℕ} (p (q, v)) 1 0 ≡ 1 = omega arith in
    ap (λ (x : IntBox). Some x) (same_box_is v w (is_one (p (q, v)) e))

same_lookup : (xs ys : List Entry) (q : ℕ) → SameCounts xs ys → count (has_id q) xs ≤ 1 → lookup (is_at (nat_cmp q)) xs ≡ lookup (is_at (nat_cmp q)) ys
same_lookup xs ys q same once = same_found xs ys q _ _ refl refl same once

-- a tree with an entry more makes the map with a box more
pub map_inserted : (es fs : List Entry) (k : ℕ) (v : IntBox) → SameCounts fs ((k, v) ∷ es) → IsUnique fs → from_entries {R = nat_cmp} fs ≡ insert (from_entries es) k v
map_inserted es fs k v same unique = same_map nat_cmp_total nat_cmp-IsAntisymmetric _ _ (λ q.
    get_is fs q ∙ same_lookup fs ((k, v) ∷ es) q same (unique q)
    ∙ sym (get-insert nat_cmp_total (from_entries es) k v q ∙ ap (cond (is_at (nat_cmp q) k) (Some v)) (get_is es q)))

removed_lookup : (es fs : List Entry) (k : ℕ) (x : Entry) (q : ℕ) (b : Bool) → is_at (nat_cmp q) k ≡ b → SameCounts es (x ∷ fs) → k ≡ x.0 → IsUnique es → lookup (is_at (nat_cmp q)) fs ≡ cond b None (lookup (is_at (nat_cmp q)) es)
removed_lookup es fs k x q true at same own unique =
    let a = same (has_id q) in
    let once = unique q in
    let x_at = when (has_id q x) true (at_itself q x.0 (at_is q k at ∙ own)) in
    none_found fs q (omega arith)
removed_lookup es fs k x q false at same own unique =
    let apart : is_at (nat_cmp q) x.0 ≡ false = subst (λ j. is_at (nat_cmp q) j ≡ false) own at in
    sym (same_lookup es (x ∷ fs) q same (unique q) ∙ ap (λ (b : Bool). cond b (Some x.1) (lookup (is_at (nat_cmp q)) fs)) apart)

-- and one with an entry less the map without the id
pub map_removed : (es fs : List Entry) (k : ℕ) (x : Entry) → SameCounts es (x ∷ fs) → k ≡ x.0 → IsUnique es → from_entries {R = nat_cmp} fs ≡ remove (from_entries es) k
map_removed es fs k x same own unique = same_map nat_cmp_total nat_cmp-IsAntisymmetric _ _ (λ q.
    get_is fs q ∙ removed_lookup es fs k x q (is_at (nat_cmp q) k) refl same own unique
    ∙ sym (get-remove nat_cmp_total (from_entries es) k q ∙ ap (cond (is_at (nat_cmp q) k) None) (get_is es q)))

removed_nothing : (es : List Entry) (k q : ℕ) (b : Bool) → is_at (nat_cmp q) k ≡ b → count (has_id k) es ≡ 0 → lookup (is_at (nat_cmp q)) es ≡ cond b None (lookup (is_at (nat_cmp q)) es)
removed_nothing es k q true at none = subst (λ j. lookup (is_at (nat_cmp j)) es ≡ None) (sym (at_is q k at)) (none_found es k none)
removed_nothing es k q false at none = refl

-- an id that is not there need not be removed
pub map_without : (es : List Entry) (k : ℕ) → count (has_id k) es ≡ 0 → from_entries {R = nat_cmp} es ≡ remove (from_entries es) k
map_without es k none = same_map nat_cmp_total nat_cmp-IsAntisymmetric _ _ (λ q.
    get_is es q ∙ removed_nothing es k q (is_at (nat_cmp q) k) refl none
    ∙ sym (get-remove nat_cmp_total (from_entries es) k q ∙ ap (cond (is_at (nat_cmp q) k) None) (get_is es q)))

-- a pair put into a list that has not its id
put_cases : (o : Ordering) (k : ℕ) (v : IntBox) (e : Entry) (es rest : List Entry) (p : Entry → Bool) → is_eq o ≡ false → count p rest ≡ cond (p (k, v)) 1 0 + count p es → count p (by_order o ((k, v) ∷ e ∷ es) ((e.0, v) ∷ es) (e ∷ rest)) ≡ cond (p (k, v)) 1 0 + (cond (p e) 1 0 + count p es)
put_cases Less k v e es rest p apart h = refl
put_cases Equal k v e es rest p apart h = absurd (false_not_true (sym apart))
put_cases Greater k v e es rest p apart h = omega arith

put_counts : (es : List Entry) (k : ℕ) (v : IntBox) → count (has_id k) es ≡ 0 → SameCounts (put nat_cmp k v es) ((k, v) ∷ es)
put_counts [] k v h p = refl
put_counts (e ∷ es) k v h p =
    let own = not_counted (is_at (nat_cmp k) e.0) (count (has_id k) es) h in
    let rest : count (has_id k) es ≡ 0 = omega arith in
    put_cases (nat_cmp k e.0) k v e es (put nat_cmp k v es) p own (put_counts es k v rest p)

nothing : (es : List Entry) → length es ≡ 0 → es ≡ []
nothing [] h = refl
nothing (e ∷ es) h = absurd (omega arith)

entries_empty : entries (empty {X = IntBox} {R = nat_cmp}) ≡ []
entries_empty = nothing _ (sym (len-entries (empty {X = IntBox} {R = nat_cmp})) ∙ len-empty nat_cmp IntBox)

-- the entries of the map are those of the list
pub same_entries : (es : List Entry) → IsUnique es → SameCounts (entries (from_entries {R = nat_cmp} es)) es
same_entries [] unique p = ap (count p) entries_empty
same_entries (e ∷ es) unique p =
    let later : IsUnique es = λ q. (let once = unique q in omega arith) in
    let before : SameCounts (entries (from_entries {R = nat_cmp} es)) es = same_entries es later in
    let own = unique e.0 in
    let at = when (has_id e.0 e) true (at_itself e.0 e.0 refl) in
    let here = before (has_id e.0) in
    let none : count (has_id e.0) (entries (from_entries {R = nat_cmp} es)) ≡ 0 = omega arith in
    let a = put_counts (entries (from_entries {R = nat_cmp} es)) e.0 e.1 none p in
    let b = before p in
    ap (count p) (entries-insert nat_cmp_total (from_entries es) e.0 e.1) ∙ (a ∙ ap (λ n. cond (p e) 1 0 + n) b)

-- no id stands twice in a tree whose ids stand in order beside it
pub ids_unique : (t : List Entry) (pl : List (ℕ × Corner)) → SameCounts (lows_of t) pl → IsStrictlySortedBy nat_cmp (keys_of pl) → IsUnique t
ids_unique t pl same order q =
    let a = same (has_id q) in
    let b = sorted_unique pl order q in
    let c = count-map (λ (e : Entry). (e.0, corner_of e)) (has_id q) t in
    omega arith

-- an id stands as often in the tree as beside it
pub same_ids_there : (t : List Entry) (pl : List (ℕ × Corner)) (k : ℕ) → SameCounts (lows_of t) pl → count (has_id {Y = Corner} k) pl ≡ count (has_id {Y = IntBox} k) t
same_ids_there t pl k same = sym (same (has_id k)) ∙ count-map (λ (e : Entry). (e.0, corner_of e)) (has_id k) t

-- the map has a box under an id exactly where the id stands beside the tree
pub contains_is : (t : List Entry) (pl : List (ℕ × Corner)) (m : Boxes) (k : ℕ) → SameCounts (lows_of t) pl → from_entries t ≡ m → contains_key m k ≡ is_some (lookup (is_at (nat_cmp k)) pl)
contains_is t pl m k same is = ap (λ (n : Boxes). contains_key n k) (sym is) ∙ (ap is_some (get_is t k) ∙ (is_some-count t k ∙ (ap (λ n. ltb 0 n) (sym (same_ids_there t pl k same)) ∙ sym (is_some-count pl k))))

-- the place of an id that is not there is free in the tree
pub place_is_free : (t : List Entry) (pl : List (ℕ × Corner)) (k : ℕ) (v : IntBox) → SameCounts (lows_of t) pl → lookup (is_at (nat_cmp k)) pl ≡ None → count (is_at_place (place_of (k, v))) t ≡ 0
place_is_free t pl k v same none =
    let own : Entry = (k, v) in
    let a = none_at pl k none in
    let b = same_ids_there t pl k same in
    let there : count (has_id k) t ≡ 0 = omega arith in
    count-none (is_at_place (place_of own)) (has_id k) (λ e h. at_itself k e.0 (at_place (place_of own) e h).id) t there

-- with an entry more, the tree still has what stands beside it
pub kept_inserted : (t s : List Entry) (pl ql : List (ℕ × Corner)) (k : ℕ) (v : IntBox) → SameCounts (lows_of t) pl → lookup (is_at (nat_cmp k)) pl ≡ None → SameCounts s ((k, v) ∷ t) → ql ≡ insert_entry nat_cmp pl k (corner_of (k, v)) → SameCounts (lows_of s) ql
kept_inserted t s pl ql k v same none grown is p =
    let f : Entry → ℕ × Corner = λ e. (e.0, corner_of e) in
    let own : Entry = (k, v) in
    let a = same p in
    let b = grown (λ e. p (f e)) in
    let c : count p ql ≡ cond (p (f own)) 1 0 + count p pl = ap (count p) is ∙ inserted_counts pl k (corner_of own) none p in
    let d = count-map f p t in
    let e = count-map f p s in
    omega arith

-- what is taken out of the tree is the entry of the id
pub record IsTakenOut (t s : List Entry) (p : Place) (gone : Option Entry) : Type 0 where
  pub shrunk : SameCounts t (option_to_list gone ++ s)
  pub found : MatchOption gone (count (is_at_place p) t ≡ 0) (λ e. is_at_place p e ≡ true)

pub record IsTaken (t s : List Entry) (ql : List (ℕ × Corner)) (k : ℕ) : Type 0 where
  pub entry : Entry
  pub id : k ≡ entry.0
  pub shrunk : SameCounts t (entry ∷ s)
  pub kept : SameCounts (lows_of s) ql

-- whether two corners are one
abbrev same_corner : Corner → Corner → Bool
same_corner a b = int_eq a.x b.x && (int_eq a.y b.y && int_eq a.z b.z)

same_corner_is : (a b : Corner) → same_corner a b ≡ true → a ≡ b
same_corner_is a b h =
    let x = and_parts (int_eq a.x b.x) (int_eq a.y b.y && int_eq a.z b.z) h in
    let y = and_parts (int_eq a.y b.y) (int_eq a.z b.z) x.1 in
    λ i. record { x = int_eq_is a.x b.x x.0 i; y = int_eq_is a.y b.y y.0 i; z = int_eq_is a.z b.z y.1 i }

own_passes : (k : ℕ) (low : Corner) → (is_at (nat_cmp k) k && same_corner low low) ≡ true
own_passes k low = rw (at_itself k k refl, int_eq_same low.x, int_eq_same low.y) (int_eq_same low.z)

passes_stands : (p : Place) (y : Entry) → (is_at (nat_cmp p.id) y.0 && same_corner (corner_of y) p.low) ≡ true → is_at_place p y ≡ true
passes_stands p y h =
    let parts = and_parts (is_at (nat_cmp p.id) y.0) (same_corner (corner_of y) p.low) h in
    at_place_from p y (at_is p.id y.0 parts.0) (sym (same_corner_is (corner_of y) p.low parts.1))

-- and so it has with an entry less, beside which one pair less stands
kept_less : (t s : List Entry) (pl ql : List (ℕ × Corner)) (k : ℕ) (low : Corner) (gone : Entry) → SameCounts (lows_of t) pl → lookup (is_at (nat_cmp k)) pl ≡ Some low → ql ≡ remove_entry (is_at (nat_cmp k)) pl → k ≡ gone.0 → low ≡ corner_of gone → SameCounts t (gone ∷ s) → SameCounts (lows_of s) ql
kept_less t s pl ql k low gone same there is id least shrunk p =
    let f : Entry → ℕ × Corner = λ e. (e.0, corner_of e) in
    let own : ℕ × Corner = (k, low) in
    let a = same p in
    let b : count p pl ≡ cond (p own) 1 0 + count p ql = removed_counts pl k low there p ∙ ap (λ l. cond (p own) 1 0 + count p l) (sym is) in
    let c = shrunk (λ e. p (f e)) in
    let d = count-map f p t in
    let e = count-map f p s in
    let g : cond {A = ℕ} (p own) 1 0 ≡ cond {A = ℕ} (p (f gone)) 1 0 = ap₂ (λ (i : ℕ) (z : Corner). cond {A = ℕ} (p (i, z)) 1 0) id least in
    omega arith

-- something is taken out where the id stands beside the tree
pub none_taken : (t s : List Entry) (pl : List (ℕ × Corner)) (k : ℕ) (low : Corner) → SameCounts (lows_of t) pl → lookup (is_at (nat_cmp k)) pl ≡ Some low → IsTakenOut t s (record { low = low; id = k }) None → ⊥
none_taken t s pl k low same there out =
    let f : Entry → ℕ × Corner = λ e. (e.0, corner_of e) in
    let place : Place = record { low = low; id = k } in
    let p : ℕ × Corner → Bool = λ e. has_id k e && same_corner e.1 low in
    let own : ℕ × Corner = (k, low) in
    let a = same p in
    let b = removed_counts pl k low there p in
    let c = when (p own) true (own_passes k low) in
    let d = count-map f p t in
    let e = count-le (λ (y : Entry). p (f y)) (is_at_place place) (λ y h. passes_stands place y h) t in
    let none = out.found in
    omega arith

pub taken : (t s : List Entry) (pl ql : List (ℕ × Corner)) (k : ℕ) (low : Corner) (gone : Option Entry) → SameCounts (lows_of t) pl → lookup (is_at (nat_cmp k)) pl ≡ Some low → ql ≡ remove_entry (is_at (nat_cmp k)) pl → IsTakenOut t s (record { low = low; id = k }) gone → IsTaken t s ql k
taken t s pl ql k low None same there is out = absurd (none_taken t s pl k low same there out)
taken t s pl ql k low (Some gone) same there is out =
    let place : Place = record { low = low; id = k } in
    let id : k ≡ gone.0 = (at_place place gone out.found).id in
    let least : low ≡ corner_of gone = (at_place place gone out.found).low in
    record {
      entry = gone;
      id = id;
      shrunk = out.shrunk;
      kept = λ p. kept_less t s pl ql k low gone same there is id least out.shrunk p;
    }

-- a box in the place of another, in the map
box_again : (m : Boxes) (k : ℕ) (v : IntBox) → insert (remove m k) k v ≡ insert m k v
box_again m k v = same_map nat_cmp_total nat_cmp-IsAntisymmetric _ _ (λ q.
    get-insert nat_cmp_total (remove m k) k v q ∙ ap (cond (is_at (nat_cmp q) k) (Some v)) (get-remove nat_cmp_total m k q) ∙ twice (is_at (nat_cmp q) k) (get m q) ∙ sym (get-insert nat_cmp_total m k v q))
  where
    twice : (b : Bool) (o : Option IntBox) → cond b (Some v) (cond b None o) ≡ cond b (Some v) o
    twice true o = refl
    twice false o = refl

-- and in the tree: the entry of the id is taken out, and one with the other box is put in
module _ (t rest : List Entry) (pl : List (ℕ × Corner)) (k : ℕ) (low : Corner) (v : IntBox) (same : SameCounts (lows_of t) pl) (order : IsStrictlySortedBy nat_cmp (keys_of pl)) (there : lookup (is_at (nat_cmp k)) pl ≡ Some low) (out : IsTaken t rest (remove_entry (is_at (nat_cmp k)) pl) k) where
  -- an id stands as often with the new entry as it did
  as_often : (q : ℕ) → cond {A = ℕ} (has_id {Y = IntBox} q (k, v)) 1 0 + count (has_id q) rest ≤ 1
  as_often q =
      let once = ids_unique t pl same order q in
      let all = out.shrunk (has_id q) in
      let own : cond {A = ℕ} (has_id {Y = IntBox} q (k, v)) 1 0 ≡ cond {A = ℕ} (has_id q out.entry) 1 0 = ap (λ (j : ℕ). cond {A = ℕ} (is_at (nat_cmp q) j) 1 0) out.id in
      omega arith

  -- the place of the new entry is free
  pub place_is_left : count (is_at_place (place_of (k, v))) rest ≡ 0
  place_is_left =
      let own : Entry = (k, v) in
      let once = as_often k in
      let here = when (has_id {Y = IntBox} k (k, v)) true (at_itself k k refl) in
      let none : count (has_id k) rest ≡ 0 = omega arith in
      count-none (is_at_place (place_of own)) (has_id k) (λ e h. at_itself k e.0 (at_place (place_of own) e h).id) rest none

  module _ (s : List Entry) (grown : SameCounts s ((k, v) ∷ rest)) where
    -- the tree still has what stands beside it
    pub kept_changed : (ql : List (ℕ × Corner)) → ql ≡ insert_entry nat_cmp pl k (corner_of (k, v)) → SameCounts (lows_of s) ql
    kept_changed ql is p =
        let f : Entry → ℕ × Corner = λ e. (e.0, corner_of e) in
        let own : Entry = (k, v) in
        let a = out.kept p in
        let b = grown (λ e. p (f e)) in
        let c : count p ql ≡ cond (p (f own)) 1 0 + count p (remove_entry (is_at (nat_cmp k)) pl) = ap (count p) is ∙ changed_counts pl k low (corner_of own) order there p in
        let d = count-map f p rest in
        let e = count-map f p s in
        omega arith

    -- and makes the map with the new box
    pub map_changed : from_entries {R = nat_cmp} s ≡ insert (from_entries t) k v
    map_changed =
        map_inserted rest s k v grown (λ q. let often = as_often q in let all = grown (has_id q) in omega arith)
        ∙ ap (λ (m : Boxes). insert m k v) (map_removed t rest k out.entry out.shrunk out.id (ids_unique t pl same order))
        ∙ box_again (from_entries t) k v

-- lists with the same items are of one length
pub same_length : {X : Type 0} (xs ys : List X) → SameCounts xs ys → length xs ≡ length ys
same_length xs ys same = sym (count-all xs) ∙ (same (λ _. true) ∙ count-all ys)
