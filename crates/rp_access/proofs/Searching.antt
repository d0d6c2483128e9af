-- The search for levels: what stays true while numbers are reached and visited in order, and that the levels are right when all are visited.
use Rattle.std.proofs.Common.{◌≡◌, ℕ, zero, suc, ◌+◌, ◌-◌, ◌^◌, ◌<◌, ◌≤◌, ◌⊎◌, inl, inr, ⊎_elim, Bool, true, false, List, [], ◌∷◌, ◌++◌, length, replicate, get_or-set_same, get_or-set_other, refl, sym, ap, ◌∙◌, subst, arith, add-one}
use Rattle.std.specs.Prelude.{Option, Some, None, is_some, slice_index, slice_index_or, slice_set}
use Rattle.std.specs.List.{Contains}
use Rattle.std.proofs.Math.ListN.{length-set}
use Rattle.std.proofs.lemmas.List.{get_or_default, length-replicate}
use Rattle.std.proofs.lemmas.List.Elements.{Contains-get_or}
use Rattle.rp_algebra.proofs.Tests.{same_test}
use Rattle.rp_algebra.proofs.Numbers.{same_or_not}
use Rattle.rp_geometry.specs.sets.Chain.{level_of}
use Rattle.rp_access.specs.Chain.{linked_to, IsLinked, AreLinks, AreLevels, PassesTests}
use Rattle.rp_access.specs.Searching.{Search, started, reach_one, reach, AreBelow}
use Rattle.rp_access.proofs.Tested.{some_of, below_of_entry, same_entry, passing_levels_are_levels_spec}

-- ---- lists

-- a place before the end of a longer list
place_before : (xs : List ℕ) (y p : ℕ) → p < length xs → slice_index (xs ++ y ∷ []) p ≡ slice_index xs p
place_before [] y p h = absurd (omega arith)
place_before (x ∷ xs) y zero h = refl
place_before (x ∷ xs) y (suc p) h = place_before xs y p (omega arith)

-- the last place
place_last : (xs : List ℕ) (y : ℕ) → slice_index (xs ++ y ∷ []) (length xs) ≡ y
place_last [] y = refl
place_last (x ∷ xs) y = place_last xs y

-- one longer
longer : (xs : List ℕ) (y : ℕ) → length (xs ++ y ∷ []) ≡ length xs + 1
longer [] y = refl
longer (x ∷ xs) y = let h : length (xs ++ y ∷ []) ≡ length xs + 1 = longer xs y in omega arith

-- how many numbers have no level
abbrev pub unreached : List (Option ℕ) → ℕ
unreached [] = 0
unreached (None ∷ levels) = suc (unreached levels)
unreached (Some k ∷ levels) = unreached levels

-- one number less has none
one_less : (levels : List (Option ℕ)) (j k : ℕ) → level_of levels j ≡ None → j < length levels → suc (unreached (slice_set levels j (Some k))) ≡ unreached levels
one_less [] j k e h = absurd (omega arith)
one_less (None ∷ levels) zero k e h = refl
one_less (Some l ∷ levels) zero k e h = absurd (cc)
one_less (None ∷ levels) (suc j) k e h = ap suc (one_less levels j k e (omega arith))
one_less (Some l ∷ levels) (suc j) k e h = one_less levels j k e (omega arith)

-- at first none has a level
all_unreached : (n : ℕ) → unreached (replicate n None) ≡ n
all_unreached zero = refl
all_unreached (suc n) = ap suc (all_unreached n)

-- an entry that is not there
none_of : (o : Option ℕ) → is_some o ≡ false → o ≡ None
none_of None e = refl
none_of (Some k) e = absurd (cc)

-- ---- what stays true

-- the number has the level
abbrev pub Has : Search → ℕ → ℕ → Type 0
Has s j k = level_of s.levels j ≡ Some k

-- the number at a place of the queue
abbrev pub at : Search → ℕ → ℕ
at s p = slice_index s.queue p

-- what is true of a search in which the first numbers of the queue, as many as `next` says, are visited, and in which no level is above the greatest
pub record IsSearching (g : List (List ℕ)) (last next greatest : ℕ) (s : Search) : Type 0 where
  pub as_many : length s.levels ≡ length g
  pub at_last : Has s last 0
  pub zero_only : (i : ℕ) → Has s i 0 → i ≡ last
  pub nearer : (i k : ℕ) → Has s i (suc k) → (j : ℕ) × IsLinked g i j × Has s j k
  pub queued : (i k : ℕ) → Has s i k → (p : ℕ) × (p < length s.queue) × (at s p ≡ i)
  pub levelled : (p : ℕ) → p < length s.queue → (k : ℕ) × Has s (at s p) k
  pub rising : (p q k l : ℕ) → p ≤ q → q < length s.queue → Has s (at s p) k → Has s (at s q) l → k ≤ l
  pub within : next ≤ length s.queue
  pub visited : (p k j : ℕ) → p < next → Has s (at s p) k → IsLinked g (at s p) j → (l : ℕ) × Has s j l × (l ≤ k + 1)
  pub short : (i k : ℕ) → Has s i k → k < length s.queue
  pub count : length s.queue + unreached s.levels ≡ length g
  pub most : (i k : ℕ) → Has s i k → k ≤ greatest

-- a higher bound on the levels
raised : (g : List (List ℕ)) (last next m n : ℕ) (s : Search) → m ≤ n → IsSearching g last next m s → IsSearching g last next n s
raised g last next m n s h a = record { as_many = a.as_many; at_last = a.at_last; zero_only = a.zero_only; nearer = a.nearer; queued = a.queued; levelled = a.levelled; rising = a.rising; within = a.within; visited = a.visited; short = a.short; count = a.count; most = λ i k e. (let b : k ≤ m = a.most i k e in omega arith) }

-- ---- one number more is reached

module _ (g : List (List ℕ)) (links : AreLinks g) (last next i k j : ℕ) (s : Search) (a : IsSearching g last next (suc k) s) (here : Has s i k) (link : IsLinked g i j) (free : level_of s.levels j ≡ None) where
  -- the search with this number
  abbrev t : Search
  t = record { levels = slice_set s.levels j (Some (suc k)); queue = s.queue ++ j ∷ [] }

  -- the number has an entry
  has_entry : j < length s.levels
  has_entry = let h : j < length g = links.below i j link in omega (arith, a.as_many)

  -- it has the level now
  new_level : Has t j (suc k)
  new_level = get_or-set_same s.levels j (Some (suc k)) None has_entry

  -- the levels that were there stay
  grows : (m l : ℕ) → Has s m l → Has t m l
  grows m l e = ⊎_elim
      (λ same. absurd (let f : level_of s.levels j ≡ Some l = subst (λ v. level_of s.levels v ≡ Some l) same e in let c : None ≡ Some l = sym free ∙ f in cc))
      (λ other. get_or-set_other s.levels j m (Some (suc k)) None other ∙ e)
      (same_or_not m j)

  -- and no other level is new
  back : (m l : ℕ) → Has t m l → Has s m l ⊎ ((m ≡ j) × (l ≡ suc k))
  back m l e = ⊎_elim
      (λ same. inr (same, same_entry (level_of t.levels j) l (suc k) (subst (λ v. level_of t.levels v ≡ Some l) same e) new_level))
      (λ other. inl (sym (get_or-set_other s.levels j m (Some (suc k)) None other) ∙ e))
      (same_or_not m j)

  -- the queue is longer by one
  queue_longer : length t.queue ≡ length s.queue + 1
  queue_longer = longer s.queue j

  -- the places that were there stay
  at_before : (p : ℕ) → p < length s.queue → at t p ≡ at s p
  at_before p h = place_before s.queue j p h

  -- a place before the end has the level that it had
  before_back : (p l : ℕ) → p < length s.queue → Has t (at t p) l → Has s (at s p) l
  before_back p l h e =
      let o = a.levelled p h in
      let f : Has t (at s p) l = subst (λ v. Has t v l) (at_before p h) e in
      o.1 ∙ ap Some (same_entry (level_of t.levels (at s p)) o.0 l (grows (at s p) o.0 o.1) f)

  -- the last place has the new level
  last_is : (p l : ℕ) → p ≡ length s.queue → Has t (at t p) l → l ≡ suc k
  last_is p l e h = same_entry (level_of t.levels j) l (suc k) (subst (λ v. Has t v l) (ap (at t) e ∙ place_last s.queue j) h) new_level

  -- a place is one of those before, or the last
  place_cases : (p : ℕ) → p < length t.queue → (p < length s.queue) ⊎ (p ≡ length s.queue)
  place_cases p h = ⊎_elim (λ e. inr e) (λ n. inl (omega (arith, queue_longer))) (same_or_not p (length s.queue))

  -- all of it stays true
  reached : IsSearching g last next (suc k) t
  reached = record {
    as_many = length-set s.levels j (Some (suc k)) ∙ a.as_many;
    at_last = grows last 0 a.at_last;
    zero_only = λ m e. ⊎_elim (a.zero_only m) (λ c. absurd (let z : 0 ≡ suc k = c.1 in omega arith)) (back m 0 e);
    nearer = λ m l e. ⊎_elim
        (λ old. let n = a.nearer m l old in (n.0, n.1, grows n.0 l n.2))
        (λ c. let z : l ≡ k = (let y : suc l ≡ suc k = c.1 in omega arith) in (i, subst (λ v. IsLinked g v i) (sym c.0) (links.both_ways i j link), grows i l (here ∙ ap Some (sym z))))
        (back m (suc l) e);
    queued = λ m l e. ⊎_elim
        (λ old. let p = a.queued m l old in (p.0, omega (arith, queue_longer, p.1), at_before p.0 p.1 ∙ p.2))
        (λ c. (length s.queue, omega (arith, queue_longer), place_last s.queue j ∙ sym c.0))
        (back m l e);
    levelled = λ p h. ⊎_elim
        (λ old. let l = a.levelled p old in (l.0, subst (λ v. Has t v l.0) (sym (at_before p old)) (grows (at s p) l.0 l.1)))
        (λ e. (suc k, subst (λ v. Has t v (suc k)) (sym (ap (at t) e ∙ place_last s.queue j)) new_level))
        (place_cases p h);
    rising = λ p q l m h b e f. ⊎_elim
        (λ q_old. a.rising p q l m h q_old (before_back p l (omega arith) e) (before_back q m q_old f))
        (λ q_last. ⊎_elim
        (λ p_old. let x : l ≤ suc k = a.most (at s p) l (before_back p l p_old e) in let y : m ≡ suc k = last_is q m q_last f in omega arith)
        (λ p_last. let x : l ≡ suc k = last_is p l p_last e in let y : m ≡ suc k = last_is q m q_last f in omega arith)
        (place_cases p (omega arith)))
        (place_cases q b);
    within = let h : next ≤ length s.queue = a.within in omega (arith, queue_longer);
    visited = λ p l m h e link.
        let old : p < length s.queue = (let w : next ≤ length s.queue = a.within in omega arith) in
        let n = a.visited p l m h (before_back p l old e) (subst (λ v. IsLinked g v m) (at_before p old) link) in
        (n.0, grows m n.0 n.1, n.2);
    short = λ m l e. ⊎_elim
        (λ old. let h : l < length s.queue = a.short m l old in omega (arith, queue_longer))
        (λ c. let h : k < length s.queue = a.short i k here in let z : l ≡ suc k = c.1 in omega (arith, queue_longer))
        (back m l e);
    count = omega (arith, queue_longer, one_less s.levels j (suc k) free has_entry, a.count);
    most = λ m l e. ⊎_elim (a.most m l) (λ c. let z : l ≡ suc k = c.1 in omega arith) (back m l e);
  }

-- ---- all that one number is linked to are reached

-- the search after some numbers are reached: what was true, what was there, and the levels of these numbers
pub record IsReached (g : List (List ℕ)) (last next i k : ℕ) (js : List ℕ) (s t : Search) : Type 0 where
  pub searching : IsSearching g last next (suc k) t
  pub place : at t next ≡ i
  pub there : next < length t.queue
  pub grown : (m l : ℕ) → Has s m l → Has t m l
  pub all : (j : ℕ) → Contains js j → (l : ℕ) × Has t j l

-- a number is the first of a list, or stands in the rest
contains_cases : (x : ℕ) (xs : List ℕ) (y : ℕ) → Contains (x ∷ xs) y → (x ≡ y) ⊎ Contains xs y
contains_cases x xs y (zero, h, e) = inl e
contains_cases x xs y (suc p, h, e) = inr (p, (omega arith), e)

-- the first of a list stands in it
contains_first : (x : ℕ) (xs : List ℕ) → Contains (x ∷ xs) x
contains_first x xs = (0, omega arith, refl)

-- what stands in the rest stands in the list
contains_later : (x : ℕ) (xs : List ℕ) (y : ℕ) → Contains xs y → Contains (x ∷ xs) y
contains_later x xs y (p, h, e) = (suc p, omega arith, e)

-- a number is reached, by the test whether it has a level
abbrev one_by : ℕ → ℕ → Search → Bool → Search
one_by level j s b = elim b [ true ↦ s | false ↦ record { levels = slice_set s.levels j (Some level); queue = s.queue ++ j ∷ [] } ]

module _ (g : List (List ℕ)) (links : AreLinks g) (last next i k : ℕ) where
  -- one number
  one_reached : (j : ℕ) (s : Search) → IsSearching g last next (suc k) s → at s next ≡ i → next < length s.queue → Has s i k → IsLinked g i j
      → (b : Bool) → is_some (level_of s.levels j) ≡ b → IsReached g last next i k (j ∷ []) s (one_by (suc k) j s b)
  one_reached j s a place there here link true e = record {
    searching = a;
    place = place;
    there = there;
    grown = λ m l h. h;
    all = λ m c. ⊎_elim (λ same. subst (λ v. (l : ℕ) × Has s v l) same (some_of (level_of s.levels j) e)) (λ n. absurd (let h : n.0 < 0 = n.1 in omega arith)) (contains_cases j [] m c);
  }
  one_reached j s a place there here link false e = record {
    searching = reached g links last next i k j s a here link free;
    place = at_before g links last next i k j s a here link free next there ∙ place;
    there = omega (arith, queue_longer g links last next i k j s a here link free);
    grown = grows g links last next i k j s a here link free;
    all = λ m c. ⊎_elim
        (λ same. subst (λ v. (l : ℕ) × Has (one_by (suc k) j s false) v l) same (suc k, new_level g links last next i k j s a here link free))
        (λ n. absurd (let h : n.0 < 0 = n.1 in omega arith))
        (contains_cases j [] m c);
  }
    where
      free : level_of s.levels j ≡ None
      free = none_of (level_of s.levels j) e

  -- each number of a list
  all_reached : (js : List ℕ) (s : Search) → IsSearching g last next (suc k) s → at s next ≡ i → next < length s.queue → Has s i k → ((j : ℕ) → Contains js j → IsLinked g i j)
      → IsReached g last next i k js s (reach (suc k) js s)
  all_reached [] s a place there here each = record { searching = a; place = place; there = there; grown = λ m l h. h; all = λ m c. absurd (let h : c.0 < 0 = c.1 in omega arith) }
  all_reached (j ∷ js) s a place there here each =
      let first = one_reached j s a place there here (each j (contains_first j js)) (is_some (level_of s.levels j)) refl in
      let rest = all_reached js (reach_one (suc k) j s) first.searching first.place first.there (first.grown i k here) (λ m c. each m (contains_later j js m c)) in
      record {
        searching = rest.searching;
        place = rest.place;
        there = rest.there;
        grown = λ m l h. rest.grown m l (first.grown m l h);
        all = λ m c. ⊎_elim
            (λ same. let l = first.all m (subst (λ v. Contains (j ∷ []) v) same (contains_first j [])) in (l.0, rest.grown m l.0 l.1))
            (rest.all m)
            (contains_cases j js m c);
      }

-- ---- one number more is visited

-- the search goes on: no level is more than one above that of the next number
pub record GoesOn (g : List (List ℕ)) (last next : ℕ) (s : Search) : Type 0 where
  pub bound : ℕ
  pub searching : IsSearching g last next bound s
  pub near : (k : ℕ) → next < length s.queue → Has s (at s next) k → bound ≤ k + 1

-- after the next number of the queue is visited
pub visit_next : (g : List (List ℕ)) → AreLinks g → (last next k : ℕ) (s : Search) → GoesOn g last next s → next < length s.queue → Has s (at s next) k
    → GoesOn g last (next + 1) (reach (suc k) (linked_to g (at s next)) s)
visit_next g links last next k s a there here = record {
  bound = suc k;
  searching = record {
    as_many = r.searching.as_many;
    at_last = r.searching.at_last;
    zero_only = r.searching.zero_only;
    nearer = r.searching.nearer;
    queued = r.searching.queued;
    levelled = r.searching.levelled;
    rising = r.searching.rising;
    short = r.searching.short;
    count = r.searching.count;
    most = r.searching.most;
    within = let h : next < length u.queue = r.there in omega arith;
    visited = λ p l j h e link. ⊎_elim
        (λ same.
        let e' : Has u (at s next) l = subst (λ v. Has u v l) (ap (at u) same ∙ r.place) e in
        let z : l ≡ k = same_entry (level_of u.levels (at s next)) l k e' (r.grown (at s next) k here) in
        let m = r.all j (subst (λ v. IsLinked g v j) (ap (at u) same ∙ r.place) link) in
        let b : m.0 ≤ suc k = r.searching.most j m.0 m.1 in
        (m.0, m.1, omega arith))
        (λ other. r.searching.visited p l j (omega arith) e link)
        (same_or_not p next);
  };
  near = λ l h e.
      let b : k ≤ l = r.searching.rising next (next + 1) k l (omega arith) h (subst (λ v. Has u v k) (sym r.place) (r.grown (at s next) k here)) e in
      omega arith;
}
  where
    u : Search
    u = reach (suc k) (linked_to g (at s next)) s

    r : IsReached g last next (at s next) k (linked_to g (at s next)) s (reach (suc k) (linked_to g (at s next)) s)
    r = all_reached g links last next (at s next) k (linked_to g (at s next)) s (raised g last next a.bound (suc k) s (let h : a.bound ≤ k + 1 = a.near k there here in omega arith) a.searching) refl there here (λ j c. c)

-- where all of the queue are visited, the levels pass the four tests
pub all_visited : (g : List (List ℕ)) → AreLinks g → (last next : ℕ) (s : Search) → GoesOn g last next s → length s.queue ≤ next → PassesTests g last s.levels
all_visited g links last next s a end = record {
  zero_at_last = λ i _. (a.searching.zero_only i, λ e. subst (λ v. Has s v 0) (sym e) a.searching.at_last);
  together = λ i j link. same_test (is_some (level_of s.levels i)) (is_some (level_of s.levels j)) (some_after i j link) (some_after j i (links.both_ways i j link));
  close = λ i j k l link e f. (at_most_one_more j i l k (links.both_ways i j link) f e, at_most_one_more i j k l link e f);
  nearer = a.searching.nearer;
}
  where
    -- a number that is linked to one with a level has one, one more at most
    level_after : (i j k : ℕ) → IsLinked g i j → Has s i k → (l : ℕ) × Has s j l × (l ≤ k + 1)
    level_after i j k link e =
        let p = a.searching.queued i k e in
        let before : p.0 < next = omega (arith, p.1) in
        a.searching.visited p.0 k j before (subst (λ v. Has s v k) (sym p.2) e) (subst (λ v. IsLinked g v j) (sym p.2) link)

    some_after : (i j : ℕ) → IsLinked g i j → is_some (level_of s.levels i) ≡ true → is_some (level_of s.levels j) ≡ true
    some_after i j link t =
        let k = some_of (level_of s.levels i) t in
        let l = level_after i j k.0 link k.1 in
        ap is_some l.1

    at_most_one_more : (i j k l : ℕ) → IsLinked g i j → Has s i k → Has s j l → l ≤ k + 1
    at_most_one_more i j k l link e f =
        let m = level_after i j k link e in
        subst (λ v. v ≤ k + 1) (same_entry (level_of s.levels j) m.0 l m.1 f) m.2

-- where all of the queue are visited, the levels are right
pub found_levels : (g : List (List ℕ)) → AreLinks g → (last next : ℕ) (s : Search) → last < length g → GoesOn g last next s → length s.queue ≤ next → AreLevels g last s.levels
found_levels g links last next s known a end = passing_levels_are_levels_spec g last s.levels known a.searching.as_many (all_visited g links last next s a end)

-- ---- the beginning

module _ (g : List (List ℕ)) (last n : ℕ) (as_many : n ≡ length g) (known : last < length g) where
  -- no number has a level
  abbrev unlevelled : List (Option ℕ)
  unlevelled = replicate n None

  -- at first
  no_level : (i : ℕ) → level_of (replicate n None) i ≡ None
  no_level i = none_anywhere n i
    where
      none_anywhere : (m j : ℕ) → level_of (replicate m None) j ≡ None
      none_anywhere zero j = refl
      none_anywhere (suc m) zero = refl
      none_anywhere (suc m) (suc j) = none_anywhere m j

  -- the last number has an entry
  entry_at_last : last < length unlevelled
  entry_at_last = let k : length unlevelled ≡ n = length-replicate n None in omega (arith, k)

  -- the last number has the level 0
  last_has : Has (started n last) last 0
  last_has = get_or-set_same (replicate n None) last (Some 0) None entry_at_last

  -- and no other level is there
  only_last : (i k : ℕ) → Has (started n last) i k → (i ≡ last) × (k ≡ 0)
  only_last i k e = ⊎_elim
      (λ same. (same, same_entry (level_of (started n last).levels last) k 0 (subst (λ v. Has (started n last) v k) same e) last_has))
      (λ other. absurd (let f : None ≡ Some k = sym (no_level i) ∙ (sym (get_or-set_other (replicate n None) last i (Some 0) None other) ∙ e) in cc))
      (same_or_not i last)

  -- only the last number is reached
  pub begins : GoesOn g last 0 (started n last)
  begins = record {
    bound = 0;
    searching = record {
      as_many = length-set (replicate n None) last (Some 0) ∙ length-replicate n None ∙ as_many;
      at_last = last_has;
      zero_only = λ i e. (only_last i 0 e).0;
      nearer = λ i k e. absurd (let z : suc k ≡ 0 = (only_last i (suc k) e).1 in omega arith);
      queued = λ i k e. (0, omega arith, sym (only_last i k e).0);
      levelled = λ p h. (0, subst (λ v. Has (started n last) v 0) (first p h) last_has);
      rising = λ p q k l _ _ e _. (let z : k ≡ 0 = (only_last (at (started n last) p) k e).1 in omega arith);
      within = omega arith;
      visited = λ p k j h _ _. absurd (omega arith);
      short = λ i k e. (let z : k ≡ 0 = (only_last i k e).1 in omega arith);
      count = omega (arith, one_less (replicate n None) last 0 (no_level last) entry_at_last, all_unreached n);
      most = λ i k e. (let z : k ≡ 0 = (only_last i k e).1 in omega arith);
    };
    near = λ k _ _. omega arith;
  }
    where
      first : (p : ℕ) → p < 1 → last ≡ at (started n last) p
      first zero h = refl
      first (suc p) h = absurd (omega arith)

-- ---- the steps of the code

-- the next number of the queue, as the code reads it
module _ (g : List (List ℕ)) (last next i : ℕ) (s : Search) (a : GoesOn g last next s) (more : next < length s.queue) (i_is : i ≡ slice_index_or s.queue next i) where
  -- it is the number at its place
  i_at : i ≡ at s next
  i_at = i_is ∙ get_or_default s.queue next i 0 more

  -- it has a level
  i_level : (k : ℕ) × Has s i k
  i_level = let l = a.searching.levelled next more in (l.0, subst (λ v. Has s v l.0) (sym i_at) l.1)

  -- it has an entry
  pub i_below : i < length s.levels
  i_below = below_of_entry s.levels i i_level.0 i_level.1

  -- it has a list
  pub i_listed : i < length g
  i_listed = omega (arith, i_below, a.searching.as_many)

  -- its level, as the code reads it
  pub here : (o : Option ℕ) (k : ℕ) → o ≡ slice_index_or s.levels i o → o ≡ Some k → Has s i k
  here o k r e = sym (get_or_default s.levels i o None i_below) ∙ sym r ∙ e

  -- it has a level, as the code reads it
  pub not_free : (o : Option ℕ) → o ≡ slice_index_or s.levels i o → o ≡ None → ⊥
  not_free o r e = let f : None ≡ Some i_level.0 = sym e ∙ r ∙ get_or_default s.levels i o None i_below ∙ i_level.1 in cc

  -- one level more is small
  pub level_fits : AreLinks g → (k : ℕ) → Has s i k → k + 1 < 2 ^ 32
  level_fits links k e = let h : k < length s.queue = a.searching.short i k e in omega (arith, h, a.searching.count, links.few)

  -- what it is linked to has entries
  pub linked_below : AreLinks g → (js : List ℕ) → js ≡ linked_to g i → AreBelow (length s.levels) js
  linked_below links js e p h =
      let in_list : p < length (linked_to g i) = subst (λ v. p < length v) e h in
      let c : IsLinked g i (slice_index (linked_to g i) p) = Contains-get_or (linked_to g i) p 0 in_list in
      let b : slice_index (linked_to g i) p < length g = links.below i (slice_index (linked_to g i) p) c in
      let same : slice_index js p ≡ slice_index (linked_to g i) p = ap (λ v. slice_index v p) e in
      omega (arith, b, same, a.searching.as_many)

  -- the search goes on after all of them are reached
  pub goes_on : AreLinks g → (k : ℕ) → Has s i k → (js : List ℕ) → js ≡ linked_to g i → (t : Search) → t ≡ reach (k + 1) js s → GoesOn g last (next + 1) t
  goes_on links k e js js_is t t_is =
      subst (GoesOn g last (next + 1)) (sym (t_is ∙ ap (λ v. reach v js s) (add-one k) ∙ ap (λ v. reach (suc k) v s) (js_is ∙ ap (linked_to g) i_at)))
      (visit_next g links last next k s a more (subst (λ v. Has s v k) i_at e))

-- the search has less to do
pub less_left : (g : List (List ℕ)) (last next : ℕ) (s t : Search) → GoesOn g last next s → GoesOn g last (next + 1) t → next < length s.queue → length t.levels - (next + 1) < length s.levels - next
less_left g last next s t a b more = omega (arith, a.searching.as_many, b.searching.as_many, a.searching.count)

-- the number of numbers is that of the lists
pub begins_as : (g : List (List ℕ)) (last n : ℕ) (s : Search) → n ≡ length g → last < length g → s ≡ started n last → GoesOn g last 0 s
begins_as g last n s as_many known e = subst (GoesOn g last 0) (sym e) (begins g last n as_many known)
