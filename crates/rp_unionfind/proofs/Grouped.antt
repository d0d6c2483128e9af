-- The groups that are made number by number, each behind the group of the number above it.
use Rattle.std.proofs.Common.{◌≡◌, ℕ, zero, suc, ◌+◌, ◌<◌, ◌≤◌, ◌⊎◌, inl, inr, ⊎_elim, List, [], ◌∷◌, ◌++◌, length, get_or, refl, subst, sym, ap, ◌∙◌, arith}
use Rattle.std.proofs.lemmas.Bool.{cases_eq}
use Rattle.std.proofs.lemmas.List.{length_push, get_or_push, get_or_append_left, get_or_read}
use Rattle.std.specs.Prelude.{◌↔◌}
use Rattle.std.specs.List.{AllByRecursion}
use Rattle.rp_algebra.proofs.Listed.{Listed, first, later, all_of, of_all, all_map, all_append, listed_left, listed_right}
use Rattle.rp_geometry.specs.sets.Pieces.{first_number, first_numbers}
use Rattle.rp_geometry.specs.parts.Groups.{groups_of}
use Rattle.rp_geometry.specs.laws.PieceLaws.{IsJoined, itself}
use Rattle.rp_parts.proofs.Growth.{joined_on, joined_end, joined_back}
use Rattle.rp_parts.proofs.Grouped.{of_classes, groups_are_joined_spec}
use Rattle.rp_parts.proofs.Partition.{Holds, holds_later, AreDisjoint, has_first}
use Rattle.rp_parts.proofs.Rising.{Rises}
use Rattle.rp_unionfind.specs.Forest.{IsForest}
use Rattle.rp_unionfind.specs.Lists.{with_number}
use Rattle.rp_unionfind.proofs.Trees.{above}

-- ---- a list with a number behind it

-- a list that rises, and a number above all of it
rises_push : (k : ℕ) (ks : List ℕ) → Rises ks → AllByRecursion (λ j. j < k) ks → Rises (ks ++ k ∷ [])
rises_push k [] r a = (tt, tt)
rises_push k (j ∷ ks) r a = (all_append (λ i. j < i) ks (k ∷ []) r.0 (a.0, tt), rises_push k ks r.1 a.1)

-- its first number is the same
first_push : (k : ℕ) (ks : List ℕ) → 0 < length ks → first_number (ks ++ k ∷ []) ≡ first_number ks
first_push k [] h = absurd (omega (arith, h))
first_push k (j ∷ ks) h = refl

-- it is not empty
nonempty_push : (k : ℕ) (ks : List ℕ) → 0 < length (ks ++ k ∷ [])
nonempty_push k [] = omega arith
nonempty_push k (j ∷ ks) = omega arith

-- ---- where numbers stand in lists

-- the list at a place
abbrev pub at : List (List ℕ) → ℕ → List ℕ
at gs place = get_or gs place []

-- a number of the list at a place is held
held_at : (gs : List (List ℕ)) (place k : ℕ) → Listed k (at gs place) → Holds k gs
held_at [] place k l = elim l [ ]
held_at (ks ∷ gs) zero k l = record { list = ks; listed = first; has = l }
held_at (ks ∷ gs) (suc place) k l = holds_later (held_at gs place k l)

-- that place is one of the lists
pub place_within : (gs : List (List ℕ)) (place k : ℕ) → Listed k (at gs place) → place < length gs
place_within [] place k l = elim l [ ]
place_within (ks ∷ gs) zero k l = omega arith
place_within (ks ∷ gs) (suc place) k l = let h = place_within gs place k l in omega (arith, h)

-- a number that is put at a place stands there
put_there : (gs : List (List ℕ)) (place k : ℕ) → place ≤ length gs → Listed k (at (with_number place k gs) place)
put_there [] zero k h = first
put_there [] (suc place) k h = absurd (omega (arith, h))
put_there (ks ∷ gs) zero k h = listed_right k ks (k ∷ []) first
put_there (ks ∷ gs) (suc place) k h = put_there gs place k (omega (arith, h))

-- all others stay where they were
put_stays : (gs : List (List ℕ)) (place k q j : ℕ) → Listed j (at gs q) → Listed j (at (with_number place k gs) q)
put_stays [] place k q j l = elim l [ ]
put_stays (ks ∷ gs) zero k zero j l = listed_left j ks (k ∷ []) l
put_stays (ks ∷ gs) zero k (suc q) j l = l
put_stays (ks ∷ gs) (suc place) k zero j l = l
put_stays (ks ∷ gs) (suc place) k (suc q) j l = put_stays gs place k q j l

-- the first number of a list is one of the first numbers
first_listed : (gs : List (List ℕ)) (ks : List ℕ) → Listed ks gs → Listed (first_number ks) (first_numbers gs)
first_listed [] ks l = elim l [ ]
first_listed (js ∷ gs) ks first = first
first_listed (js ∷ gs) ks (later l) = later (first_listed gs ks l)

-- lists with the same first number are one, where the first numbers rise
same_list : (gs : List (List ℕ)) → Rises (first_numbers gs) → (ks js : List ℕ) → Listed ks gs → Listed js gs → first_number ks ≡ first_number js → ks ≡ js
same_list [] r ks js l m e = elim l [ ]
same_list (hs ∷ gs) r ks js first first e = refl
same_list (hs ∷ gs) r ks js first (later m) e = absurd (let h = all_of (λ j. first_number hs < j) (first_numbers gs) r.0 (first_number js) (first_listed gs js m) in omega (arith, h, e))
same_list (hs ∷ gs) r ks js (later l) first e = absurd (let h = all_of (λ j. first_number hs < j) (first_numbers gs) r.0 (first_number ks) (first_listed gs ks l) in omega (arith, h, e))
same_list (hs ∷ gs) r ks js (later l) (later m) e = same_list gs r.1 ks js l m e

-- ---- groups of a forest

module _ (links : List (ℕ × ℕ)) (n : ℕ) (ps : List ℕ) where
  -- a number up to m that is joined to the first one
  abbrev pub IsMember : ℕ → ℕ → ℕ → Type 0
  IsMember m i j = (1 ≤ j) × (j ≤ m) × IsJoined links n i j

  -- a group of numbers up to m: it begins with a root
  pub record IsGroup (m : ℕ) (ks : List ℕ) : Type 0 where
    pub nonempty : 0 < length ks
    pub rising : Rises ks
    pub root : above ps (first_number ks) ≡ first_number ks
    pub members : AllByRecursion (IsMember m (first_number ks)) ks

  -- the numbers up to m in groups, and the place of the group of each
  pub record IsGrouped (m : ℕ) (gs : List (List ℕ)) (places : List ℕ) : Type 0 where
    pub size : length places ≡ m + 1
    pub placed : (k : ℕ) → 1 ≤ k → k ≤ m → Listed k (at gs (get_or places k 0))
    pub each : AllByRecursion (IsGroup m) gs
    pub in_order : Rises (first_numbers gs)

  -- a group of numbers up to m is one of numbers up to more
  wider : (m : ℕ) (ks : List ℕ) → IsGroup m ks → IsGroup (m + 1) ks
  wider m ks g = record {
    nonempty = g.nonempty;
    rising = g.rising;
    root = g.root;
    members = all_map (IsMember m (first_number ks)) (IsMember (m + 1) (first_number ks)) (λ j (a, b, c). (a, omega (arith, b), c)) ks g.members;
  }

  -- the next number is put behind a group in which the number above it stands
  group_more : (m : ℕ) (ks : List ℕ) (p : ℕ) → IsGroup m ks → Listed p ks → IsJoined links n p (m + 1) → IsGroup (m + 1) (ks ++ (m + 1) ∷ [])
  group_more m ks p g l w = record {
    nonempty = nonempty_push (m + 1) ks;
    rising = rises_push (m + 1) ks g.rising (all_map (IsMember m (first_number ks)) (λ j. j < m + 1) (λ j (a, b, c). omega (arith, b)) ks g.members);
    root = subst (λ i. above ps i ≡ i) (sym e) g.root;
    members = subst (λ i. AllByRecursion (IsMember (m + 1) i) (ks ++ (m + 1) ∷ [])) (sym e)
        (all_append (IsMember (m + 1) (first_number ks)) ks ((m + 1) ∷ []) (wider m ks g).members ((omega arith, omega arith, joined_on links n (first_number ks) p (m + 1) own.2 w), tt));
  }
    where
      e : first_number (ks ++ (m + 1) ∷ []) ≡ first_number ks
      e = first_push (m + 1) ks g.nonempty

      own : IsMember m (first_number ks) p
      own = all_of (IsMember m (first_number ks)) ks g.members p l

  -- a root begins a group
  group_new : (m : ℕ) → above ps (m + 1) ≡ m + 1 → IsGroup (m + 1) ((m + 1) ∷ [])
  group_new m root = record { nonempty = omega arith; rising = (tt, tt); root = root; members = ((omega arith, omega arith, itself), tt) }

  -- the first number of a group is a member
  first_member : (m : ℕ) (ks : List ℕ) → IsGroup m ks → IsMember m (first_number ks) (first_number ks)
  first_member m ks g = all_of (IsMember m (first_number ks)) ks g.members (first_number ks) (has_first ks g.nonempty)

  -- ---- all groups

  -- the groups with the next number behind one in which the number above it stands
  each_more : (m : ℕ) (gs : List (List ℕ)) (place p : ℕ) → AllByRecursion (IsGroup m) gs → Listed p (at gs place) → IsJoined links n p (m + 1) → AllByRecursion (IsGroup (m + 1)) (with_number place (m + 1) gs)
  each_more m [] place p a l w = elim l [ ]
  each_more m (ks ∷ gs) zero p a l w = (group_more m ks p a.0 l w, all_map (IsGroup m) (IsGroup (m + 1)) (wider m) gs a.1)
  each_more m (ks ∷ gs) (suc place) p a l w = (wider m ks a.0, each_more m gs place p a.1 l w)

  -- the groups with a root in a new one
  each_new : (m : ℕ) (gs : List (List ℕ)) → AllByRecursion (IsGroup m) gs → above ps (m + 1) ≡ m + 1 → AllByRecursion (IsGroup (m + 1)) (with_number (length gs) (m + 1) gs)
  each_new m [] a root = (group_new m root, tt)
  each_new m (ks ∷ gs) a root = (wider m ks a.0, each_new m gs a.1 root)

  -- the first numbers are the same
  firsts_more : (m : ℕ) (gs : List (List ℕ)) (place p : ℕ) → AllByRecursion (IsGroup m) gs → Listed p (at gs place) → first_numbers (with_number place (m + 1) gs) ≡ first_numbers gs
  firsts_more m [] place p a l = elim l [ ]
  firsts_more m (ks ∷ gs) zero p a l = ap (λ i. i ∷ first_numbers gs) (first_push (m + 1) ks a.0.nonempty)
  firsts_more m (ks ∷ gs) (suc place) p a l = ap (λ is. first_number ks ∷ is) (firsts_more m gs place p a.1 l)

  -- the root comes behind them
  firsts_new : (m : ℕ) (gs : List (List ℕ)) → first_numbers (with_number (length gs) (m + 1) gs) ≡ first_numbers gs ++ (m + 1) ∷ []
  firsts_new m [] = refl
  firsts_new m (ks ∷ gs) = ap (λ is. first_number ks ∷ is) (firsts_new m gs)

  -- they are numbers up to m
  firsts_below : (m : ℕ) (gs : List (List ℕ)) → AllByRecursion (IsGroup m) gs → AllByRecursion (λ j. j < m + 1) (first_numbers gs)
  firsts_below m [] a = tt
  firsts_below m (ks ∷ gs) a = (let b = (first_member m ks a.0).1 in omega (arith, b), firsts_below m gs a.1)

  -- ---- one number after the other

  -- where each number stands once one more is put at a place
  placed_more : (m : ℕ) (gs : List (List ℕ)) (places : List ℕ) (place : ℕ) → IsGrouped m gs places → place ≤ length gs
      → (k : ℕ) → 1 ≤ k → k ≤ m + 1 → Listed k (at (with_number place (m + 1) gs) (get_or (places ++ place ∷ []) k 0))
  placed_more m gs places place g h k a b = ⊎_elim
      (λ (e : k ≡ m + 1).
      subst (λ i. Listed i (at (with_number place (m + 1) gs) (get_or (places ++ place ∷ []) i 0))) (sym e)
      (subst (λ q. Listed (m + 1) (at (with_number place (m + 1) gs) q)) (sym (get_or_push places place 0 (m + 1) g.size)) (put_there gs place (m + 1) h)))
      (λ (e : k ≡ m + 1 → ⊥).
      let s = g.size in
      subst (λ q. Listed k (at (with_number place (m + 1) gs) q)) (sym (get_or_append_left places (place ∷ []) 0 k (omega (arith, s, b, e))))
      (put_stays gs place (m + 1) (get_or places k 0) k (g.placed k a (omega (arith, b, e)))))
      (cases_eq k (m + 1))

  -- a root
  pub grouped_new : (m : ℕ) (gs : List (List ℕ)) (places : List ℕ) → IsGrouped m gs places → above ps (m + 1) ≡ m + 1 → IsGrouped (m + 1) (with_number (length gs) (m + 1) gs) (places ++ length gs ∷ [])
  grouped_new m gs places g root = record {
    size = let l = length_push places (length gs) in let s = g.size in omega (arith, l, s);
    placed = placed_more m gs places (length gs) g (omega arith);
    each = each_new m gs g.each root;
    in_order = subst Rises (sym (firsts_new m gs)) (rises_push (m + 1) (first_numbers gs) g.in_order (firsts_below m gs g.each));
  }

  -- a number above which another stands: this has its place
  parent_placed : IsForest links n ps → (m : ℕ) (gs : List (List ℕ)) (places : List ℕ) → IsGrouped m gs places → m < n → (above ps (m + 1) ≡ m + 1 → ⊥) → Listed (above ps (m + 1)) (at gs (get_or places (above ps (m + 1)) 0))
  parent_placed f m gs places g h below =
      let r = joined_end links n (m + 1) (above ps (m + 1)) (omega arith) (omega (arith, h)) (f.joined (m + 1) (omega arith) (omega (arith, h))) in
      let l = f.low (m + 1) in
      g.placed (above ps (m + 1)) r.0 (omega (arith, l, below))

  -- a number above which another stands, of whose group the place is known
  pub grouped_more : IsForest links n ps → (m : ℕ) (gs : List (List ℕ)) (places : List ℕ) (place : ℕ) → IsGrouped m gs places → m + 1 ≤ n → (above ps (m + 1) ≡ m + 1 → ⊥) → place ≡ get_or places (above ps (m + 1)) 0
      → IsGrouped (m + 1) (with_number place (m + 1) gs) (places ++ place ∷ [])
  grouped_more f m gs places place g h below e = record {
    size = let l = length_push places place in let s = g.size in omega (arith, l, s);
    placed = placed_more m gs places place g (let l = place_within gs place p there in omega (arith, l));
    each = each_more m gs place p g.each there (joined_back links n (m + 1) p (omega arith) h way);
    in_order = subst Rises (sym (firsts_more m gs place p g.each there)) g.in_order;
  }
    where
      p : ℕ
      p = above ps (m + 1)

      way : IsJoined links n (m + 1) p
      way = f.joined (m + 1) (omega arith) h

      there : Listed p (at gs place)
      there = subst (λ q. Listed p (at gs q)) (sym e) (parent_placed f m gs places g (omega (arith, h)) below)

  -- the next number, as the code finds its place
  pub next_grouped : IsForest links n ps → (m : ℕ) (gs : List (List ℕ)) (places : List ℕ) (p place : ℕ) → IsGrouped m gs places → m < n → p ≡ get_or ps (m + 1) p
      → ((p ≡ m + 1) × (place ≡ length gs)) ⊎ ((p ≡ m + 1 → ⊥) × (place ≡ get_or places p place)) → (place ≤ length gs) × IsGrouped (m + 1) (with_number place (m + 1) gs) (places ++ place ∷ [])
  next_grouped f m gs places p place g h e which = by_root which
    where
      is : p ≡ above ps (m + 1)
      is = let s = f.size in get_or_read ps (m + 1) p (omega (arith, s, h)) e 0

      by_root : ((p ≡ m + 1) × (place ≡ length gs)) ⊎ ((p ≡ m + 1 → ⊥) × (place ≡ get_or places p place)) → (place ≤ length gs) × IsGrouped (m + 1) (with_number place (m + 1) gs) (places ++ place ∷ [])
      by_root (inl (r, q)) =
          (omega (arith, q), subst (λ x. IsGrouped (m + 1) (with_number x (m + 1) gs) (places ++ x ∷ [])) (sym q) (grouped_new m gs places g (sym is ∙ r)))
      by_root (inr (r, q)) =
          let low = f.low (m + 1) in
          let s = g.size in
          let at_p : place ≡ get_or places p 0 = get_or_read places p place (omega (arith, low, is, r, s)) q 0 in
          let t = grouped_more f m gs places place g (omega (arith, h)) (λ x. r (is ∙ x)) (at_p ∙ ap (λ x. get_or places x 0) is) in (
            let l = parent_placed f m gs places g h (λ x. r (is ∙ x)) in
                let w = place_within gs (get_or places (above ps (m + 1)) 0) (above ps (m + 1)) l in
                let same : place ≡ get_or places (above ps (m + 1)) 0 = at_p ∙ ap (λ x. get_or places x 0) is in
                omega (arith, w, same),
            t,
          )

  -- ---- all numbers

  -- groups with whose first numbers one number is joined have the same first number
  firsts_same : IsForest links n ps → (ks js : List ℕ) → IsGroup n ks → IsGroup n js → (k : ℕ) → IsJoined links n (first_number ks) k → IsJoined links n (first_number js) k → first_number ks ≡ first_number js
  firsts_same f ks js g h k v w =
      let a = first_member n ks g in
      let b = first_member n js h in
      f.apart (first_number ks) (first_number js) a.0 a.1 b.0 b.1 g.root h.root (joined_on links n (first_number ks) k (first_number js) v (joined_back links n (first_number js) k b.0 b.1 w))

  -- a number of a group is a member of it
  member_of : (ks : List ℕ) → IsGroup n ks → (k : ℕ) → Listed k ks → IsMember n (first_number ks) k
  member_of ks g k l = all_of (IsMember n (first_number ks)) ks g.members k l

  -- a group is a class of the numbers that links join
  group_joined : IsForest links n ps → (gs : List (List ℕ)) → AllByRecursion (IsGroup n) gs → Rises (first_numbers gs) → ((k : ℕ) → 1 ≤ k → k ≤ n → Holds k gs)
      → (ks : List ℕ) → Listed ks gs → (i j : ℕ) → Listed i ks → (Listed j ks ↔ IsJoined links n i j)
  group_joined f gs each in_order holds ks l i j a = (
    λ b. joined_on links n i (first_number ks) j (joined_back links n (first_number ks) i own.0 own.1 to_i.2) (member_of ks g j b).2,
    λ w.
        let r = joined_end links n i j to_i.0 to_i.1 w in
        let h = holds j r.0 r.1 in
        let other = all_of (IsGroup n) gs each h.list h.listed in
        let e = firsts_same f ks h.list g other j (joined_on links n (first_number ks) i j to_i.2 w) (member_of h.list other j h.has).2 in
        subst (λ xs. Listed j xs) (sym (same_list gs in_order ks h.list l h.listed e)) h.has,
  )
    where
      g : IsGroup n ks
      g = all_of (IsGroup n) gs each ks l

      own : IsMember n (first_number ks) (first_number ks)
      own = first_member n ks g

      to_i : IsMember n (first_number ks) i
      to_i = member_of ks g i a

  -- no two groups have a number in common
  groups_disjoint : IsForest links n ps → (gs : List (List ℕ)) → AllByRecursion (IsGroup n) gs → Rises (first_numbers gs) → AreDisjoint gs
  groups_disjoint f [] a r = tt
  groups_disjoint f (ks ∷ gs) a r = (
    λ k l h.
        let g = all_of (IsGroup n) gs a.1 h.list h.listed in
        let e = firsts_same f ks h.list a.0 g k (member_of ks a.0 k l).2 (member_of h.list g k h.has).2 in
        let o = all_of (λ j. first_number ks < j) (first_numbers gs) r.0 (first_number h.list) (first_listed gs h.list h.listed) in
        omega (arith, e, o),
    groups_disjoint f gs a.1 r.1,
  )

  -- the groups of all numbers are those that links join
  pub groups_made : IsForest links n ps → (gs : List (List ℕ)) (places : List ℕ) → IsGrouped n gs places → gs ≡ groups_of links n
  groups_made f gs places g =
      (groups_are_joined_spec links n gs).0
      (of_classes links n gs
      (record {
        in_range = λ k h. let m = member_of h.list (all_of (IsGroup n) gs g.each h.list h.listed) k h.has in (m.0, m.1);
        holds = holds;
        disjoint = groups_disjoint f gs g.each g.in_order;
      })
      (record {
        disjoint = groups_disjoint f gs g.each g.in_order;
        none_empty = all_map (IsGroup n) (λ ks. 0 < length ks) (λ ks h. h.nonempty) gs g.each;
        rising = all_map (IsGroup n) Rises (λ ks h. h.rising) gs g.each;
        in_order = g.in_order;
        joined = of_all (λ ks. (i j : ℕ) → Listed i ks → (Listed j ks ↔ IsJoined links n i j)) gs (group_joined f gs g.each g.in_order holds);
      }))
    where
      holds : (k : ℕ) → 1 ≤ k → k ≤ n → Holds k gs
      holds k a b = held_at gs (get_or places k 0) k (g.placed k a b)
