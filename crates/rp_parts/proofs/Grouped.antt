-- The groups that are computed are the classes of the numbers that links join, and there are no others.
use Rattle.std.proofs.Common.{◌≡◌, ℕ, zero, suc, ◌<◌, Bool, true, false, cond, not, ⊎_elim, List, [], ◌∷◌, map, length, refl, ap, subst, sym, arith}
use Rattle.std.proofs.lemmas.Bool.{ltb-true, lt-ltb, not-true, cases_order}
use Rattle.std.specs.Prelude.{nat_lt, ◌↔◌}
use Rattle.std.specs.List.{AllByRecursion, filter, flat_map}
use Rattle.rp_algebra.proofs.Listed.{Listed, first, later, all_of, all_map, listed_cases, listed_left, listed_right}
use Rattle.rp_algebra.proofs.Tests.{false_not_true}
use Rattle.rp_geometry.specs.sets.Pieces.{is_rising, first_number, first_numbers}
use Rattle.rp_geometry.specs.parts.Groups.{is_listed_number, group_of, groups, groups_of, numbers_to}
use Rattle.rp_geometry.specs.laws.PieceLaws.{IsJoined, AreGroups, GroupsAreJoined}
use Rattle.rp_algebra.proofs.Filter.{kept, keeps}
use Rattle.rp_geometry.proofs.Numbered.{listed_is, listed_true}
use Rattle.rp_parts.proofs.Numbered.{listed_to, to_listed}
use Rattle.rp_parts.proofs.Rising.{Rises, rises_is, rises_true, filter_rises, range_rises}
use Rattle.rp_parts.proofs.Partition.{Holds, AreDisjoint, IsPartition, partition_of, once_of, AreClasses, classes_same, at_most_each, has_first}
use Rattle.rp_parts.proofs.Growth.{not_empty, is_next, joined_on, joined_back, joined_end, group_first, group_all, group_filter, group_joined, joined_group}

-- ---- the items of lists that are made of others

-- an item, and that it was made of one of the list
record Made {A B : Type 0} (f : A → List B) (xs : List A) (y : B) : Type 0 where
  item : A
  listed : Listed item xs
  made : Listed y (f item)

-- each item of lists put together is one of some list
made_of : {A B : Type 0} (f : A → List B) (xs : List A) (y : B) → Listed y (flat_map f xs) → Made f xs y
made_of f [] y l = elim l [ ]
made_of f (x ∷ xs) y l =
    ⊎_elim
    (λ (i : Listed y (f x)). record { item = x; listed = first; made = i })
    (λ (i : Listed y (flat_map f xs)). let r = made_of f xs y i in record { item = r.item; listed = later r.listed; made = r.made })
    (listed_cases y (f x) (flat_map f xs) l)

-- an item of some list is one of the lists put together
of_made : {A B : Type 0} (f : A → List B) (xs : List A) (x : A) (y : B) → Listed x xs → Listed y (f x) → Listed y (flat_map f xs)
of_made f [] x y l i = elim l [ ]
of_made f (z ∷ xs) x y first i = listed_left y (f x) (flat_map f xs) i
of_made f (z ∷ xs) x y (later l) i = listed_right y (f z) (flat_map f xs) (of_made f xs x y l i)

-- ---- the numbers at which groups begin

module _ (links : List (ℕ × ℕ)) (n : ℕ) where
  -- the group of a number
  abbrev pub joined_to : ℕ → List ℕ
  joined_to i = group_of links (numbers_to n) i

  -- the groups of the numbers below k
  abbrev earlier : ℕ → ℕ → List ℕ
  earlier k j = elim (nat_lt j k) [ true ↦ joined_to j | false ↦ [] ]

  -- whether a number is in the group of a number below it
  abbrev is_taken : ℕ → Bool
  is_taken k = is_listed_number k (flat_map (earlier k) (numbers_to n))

  -- a number below k that has k in its group
  record Taker (k : ℕ) : Type 0 where
    number : ℕ
    listed : Listed number (numbers_to n)
    below : number < k
    has : Listed k (joined_to number)

  -- a number that is taken has a taker
  taker : (k : ℕ) → is_taken k ≡ true → Taker k
  taker k e = by_test (nat_lt m.item k) refl m.made
    where
      m : Made (earlier k) (numbers_to n) k
      m = made_of (earlier k) (numbers_to n) k (listed_is k (flat_map (earlier k) (numbers_to n)) e)

      by_test : (b : Bool) → nat_lt m.item k ≡ b → Listed k (elim b [ true ↦ joined_to m.item | false ↦ [] ]) → Taker k
      by_test true t l = record { number = m.item; listed = m.listed; below = ltb-true m.item k t; has = l }
      by_test false t l = elim l [ ]

  -- a number that has a taker is taken
  taken : (k j : ℕ) → Listed j (numbers_to n) → j < k → Listed k (joined_to j) → is_taken k ≡ true
  taken k j l h i = listed_true k (flat_map (earlier k) (numbers_to n)) (of_made (earlier k) (numbers_to n) j k l (subst (λ b. Listed k (elim b [ true ↦ joined_to j | false ↦ [] ])) (sym (lt-ltb j k h)) i))

  -- a number at which a group begins
  record IsLeader (k : ℕ) : Type 0 where
    listed : Listed k (numbers_to n)
    is : is_taken k ≡ false

  -- no taker comes before it
  leads : (k j : ℕ) → IsLeader k → Listed j (numbers_to n) → j < k → Listed k (joined_to j) → ⊥
  leads k j leader l h i = false_not_true (is_taken k) (taken k j l h i) leader.is

  -- the numbers at which groups begin
  abbrev leaders : List ℕ → List ℕ
  leaders ks = filter (λ k. not (is_taken k)) ks

  -- the groups are those of these numbers
  groups_are : (ks : List ℕ) → groups links (numbers_to n) ks ≡ map joined_to (leaders ks)
  groups_are [] = refl
  groups_are (k ∷ ks) = by_test (is_taken k) (groups_are ks)
    where
      by_test : (b : Bool) → groups links (numbers_to n) ks ≡ map joined_to (leaders ks)
          → (elim b [ true ↦ groups links (numbers_to n) ks | false ↦ joined_to k ∷ groups links (numbers_to n) ks ]) ≡ map joined_to (cond (not b) (k ∷ leaders ks) (leaders ks))
      by_test true e = e
      by_test false e = ap (λ gs. joined_to k ∷ gs) e

  -- a number of the groups of some numbers is in the group of one
  record InGroup (k : ℕ) (ls : List ℕ) : Type 0 where
    leader : ℕ
    listed : Listed leader ls
    has : Listed k (joined_to leader)

  -- a number that some of the groups have is in the group of one of the numbers
  in_group : (k : ℕ) (ls : List ℕ) → Holds k (map joined_to ls) → InGroup k ls
  in_group k ls h = by_place ls h.list h.listed h.has
    where
      by_place : (ls : List ℕ) (ks : List ℕ) → Listed ks (map joined_to ls) → Listed k ks → InGroup k ls
      by_place [] ks l i = elim l [ ]
      by_place (m ∷ ls) ks first i = record { leader = m; listed = first; has = i }
      by_place (m ∷ ls) ks (later l) i = let r = by_place ls ks l i in record { leader = r.leader; listed = later r.listed; has = r.has }

  -- the group of a number rises
  group_rises : (l : ℕ) → Listed l (numbers_to n) → Rises (joined_to l)
  group_rises l i = subst Rises (sym (group_filter links (numbers_to n) l i)) (filter_rises (is_next links (numbers_to n) (joined_to l)) (numbers_to n) (range_rises 1 n))

  -- each group of some leaders that rise is apart from the later ones
  leaders_disjoint : (ls : List ℕ) → ((k : ℕ) → Listed k ls → IsLeader k) → Rises ls → AreDisjoint (map joined_to ls)
  leaders_disjoint [] lead r = tt
  leaders_disjoint (l ∷ ls) lead r = (apart, leaders_disjoint ls (λ k i. lead k (later i)) r.1)
    where
      apart : (k : ℕ) → Listed k (joined_to l) → Holds k (map joined_to ls) → ⊥
      apart k i h =
          let g = in_group k ls h in
          let first_leader = lead l first in
          let other = lead g.leader (later g.listed) in
          let a = to_listed n l first_leader.listed in
          let b = to_listed n g.leader other.listed in
          let way = joined_on links n l k g.leader (group_joined links n l k i) (joined_back links n g.leader k b.0 b.1 (group_joined links n g.leader k g.has)) in
          leads g.leader l other first_leader.listed (all_of (λ j. l < j) ls r.0 g.leader g.listed) (joined_group links n l g.leader a.0 a.1 way)

  -- the groups of leaders are not empty
  leaders_nonempty : (ls : List ℕ) → ((k : ℕ) → Listed k ls → IsLeader k) → AllByRecursion (λ ks. 0 < length ks) (map joined_to ls)
  leaders_nonempty [] lead = tt
  leaders_nonempty (l ∷ ls) lead = (not_empty l (joined_to l) (group_first links (numbers_to n) l (lead l first).listed), leaders_nonempty ls (λ k i. lead k (later i)))

  -- they rise
  leaders_rise : (ls : List ℕ) → ((k : ℕ) → Listed k ls → IsLeader k) → AllByRecursion Rises (map joined_to ls)
  leaders_rise [] lead = tt
  leaders_rise (l ∷ ls) lead = (group_rises l (lead l first).listed, leaders_rise ls (λ k i. lead k (later i)))

  -- a leader is the first number of its group
  leader_first : (l : ℕ) → IsLeader l → first_number (joined_to l) ≡ l
  leader_first l lead =
      let all = to_listed n l lead.listed in
      let own = group_first links (numbers_to n) l lead.listed in
      let i = has_first (joined_to l) (not_empty l (joined_to l) own) in
      let below = at_most_each (joined_to l) (group_rises l lead.listed) l own in
      let m = first_number (joined_to l) in
      let way = group_joined links n l m i in
      let range = joined_end links n l m all.0 all.1 way in
      ⊎_elim
      (λ (e : m ≡ l). e)
      (⊎_elim
      (λ (h : m < l). absurd (leads l m lead (listed_to n m range.0 range.1) h (joined_group links n m l range.0 range.1 (joined_back links n l m all.0 all.1 way))))
      (λ (h : l < m). absurd (omega (arith, h, below))))
      (cases_order m l)

  -- the first numbers of the groups of leaders are the leaders
  leaders_first : (ls : List ℕ) → ((k : ℕ) → Listed k ls → IsLeader k) → first_numbers (map joined_to ls) ≡ ls
  leaders_first [] lead = refl
  leaders_first (l ∷ ls) lead = λ s. leader_first l (lead l first) s ∷ leaders_first ls (λ k i. lead k (later i)) s

  -- the groups of leaders are classes of the numbers that links join
  leaders_joined : (ls : List ℕ) → ((k : ℕ) → Listed k ls → IsLeader k) → AllByRecursion (λ ks. (i j : ℕ) → Listed i ks → (Listed j ks ↔ IsJoined links n i j)) (map joined_to ls)
  leaders_joined [] lead = tt
  leaders_joined (l ∷ ls) lead = (joined, leaders_joined ls (λ k i. lead k (later i)))
    where
      joined : (i j : ℕ) → Listed i (joined_to l) → (Listed j (joined_to l) ↔ IsJoined links n i j)
      joined i j a =
          let r = to_listed n l (lead l first).listed in
          let to_i = group_joined links n l i a in (
            λ b. joined_on links n i l j (joined_back links n l i r.0 r.1 to_i) (group_joined links n l j b),
            λ w. joined_group links n l j r.0 r.1 (joined_on links n l i j to_i w),
          )

  -- a leader of which the number is in the group
  record HasLeader (k : ℕ) : Type 0 where
    leader : ℕ
    lead : IsLeader leader
    has : Listed k (joined_to leader)

  -- each number has a leader: itself, or that of a number below it
  find_leader : (room k : ℕ) → k < room → Listed k (numbers_to n) → HasLeader k
  find_leader zero k h l = absurd (omega (arith, h))
  find_leader (suc room) k h l = by_test (is_taken k) refl (find_leader room)
    where
      by_test : (b : Bool) → is_taken k ≡ b → ((j : ℕ) → j < room → Listed j (numbers_to n) → HasLeader j) → HasLeader k
      by_test false e rest = record { leader = k; lead = record { listed = l; is = e }; has = group_first links (numbers_to n) k l }
      by_test true e rest =
          let t = taker k e in
          let below = t.below in
          let r = rest t.number (omega (arith, h, below)) t.listed in
          let range = to_listed n r.leader r.lead.listed in
          record {
            leader = r.leader;
            lead = r.lead;
            has = joined_group links n r.leader k range.0 range.1 (joined_on links n r.leader t.number k (group_joined links n r.leader t.number r.has) (group_joined links n t.number k t.has));
          }

  -- the leaders of all numbers are leaders
  all_lead : (k : ℕ) → Listed k (leaders (numbers_to n)) → IsLeader k
  all_lead k l = let r = kept (λ j. not (is_taken j)) (numbers_to n) k l in record { listed = r.listed; is = not-true (is_taken k) r.passes }

  -- the groups that are computed are those of the leaders
  abbrev computed : List (List ℕ)
  computed = map joined_to (leaders (numbers_to n))

  -- the leaders rise
  all_rise : Rises (leaders (numbers_to n))
  all_rise = filter_rises (λ j. not (is_taken j)) (numbers_to n) (range_rises 1 n)

  -- a group of a leader is one of the groups
  group_listed : (l : ℕ) (ls : List ℕ) → Listed l ls → Listed (joined_to l) (map joined_to ls)
  group_listed l [] i = elim i [ ]
  group_listed l (m ∷ ls) first = first
  group_listed l (m ∷ ls) (later i) = later (group_listed l ls i)

  -- each number from 1 to n stands in one group, and no other
  computed_partition : IsPartition n computed
  computed_partition = record {
    in_range = λ k h. let g = in_group k (leaders (numbers_to n)) h in to_listed n k (group_all links (numbers_to n) g.leader (all_lead g.leader g.listed).listed k g.has);
    holds = λ k h l.
        let r = find_leader (suc k) k (omega arith) (listed_to n k h l) in
        record { list = joined_to r.leader; listed = group_listed r.leader (leaders (numbers_to n)) (keeps (λ j. not (is_taken j)) (numbers_to n) r.leader r.lead.listed (ap not r.lead.is)); has = r.has };
    disjoint = leaders_disjoint (leaders (numbers_to n)) all_lead all_rise;
  }

  -- the groups are the classes of the numbers that links join
  computed_classes : AreClasses (IsJoined links n) computed
  computed_classes = record {
    disjoint = computed_partition.disjoint;
    none_empty = leaders_nonempty (leaders (numbers_to n)) all_lead;
    rising = leaders_rise (leaders (numbers_to n)) all_lead;
    in_order = subst Rises (sym (leaders_first (leaders (numbers_to n)) all_lead)) all_rise;
    joined = leaders_joined (leaders (numbers_to n)) all_lead;
  }

  -- ---- the groups as the definition says them

  -- what both say is the same
  pub classes_of : (gs : List (List ℕ)) → AreGroups links n gs → AreClasses (IsJoined links n) gs
  classes_of gs g = record {
    disjoint = (partition_of n gs g.each_once).disjoint;
    none_empty = g.none_empty;
    rising = all_map (λ ks. is_rising ks ≡ true) Rises rises_is gs g.rising;
    in_order = rises_is (first_numbers gs) g.in_order;
    joined = all_map (λ ks. (i j : ℕ) → is_listed_number i ks ≡ true → ((is_listed_number j ks ≡ true) ↔ IsJoined links n i j)) (λ ks. (i j : ℕ) → Listed i ks → (Listed j ks ↔ IsJoined links n i j))
        (λ ks h i j l. let r = h i j (listed_true i ks l) in (λ k. r.0 (listed_true j ks k), λ w. listed_is j ks (r.1 w))) gs g.joined;
  }

  -- the other way round
  pub of_classes : (gs : List (List ℕ)) → IsPartition n gs → AreClasses (IsJoined links n) gs → AreGroups links n gs
  of_classes gs p c = record {
    each_once = once_of n gs p c.rising;
    none_empty = c.none_empty;
    rising = all_map Rises (λ ks. is_rising ks ≡ true) rises_true gs c.rising;
    in_order = rises_true (first_numbers gs) c.in_order;
    joined = all_map (λ ks. (i j : ℕ) → Listed i ks → (Listed j ks ↔ IsJoined links n i j)) (λ ks. (i j : ℕ) → is_listed_number i ks ≡ true → ((is_listed_number j ks ≡ true) ↔ IsJoined links n i j))
        (λ ks h i j l. let r = h i j (listed_is i ks l) in (λ k. r.0 (listed_is j ks k), λ w. listed_true j ks (r.1 w))) gs c.joined;
  }

  -- there is only one list of groups
  pub groups_same : (gs hs : List (List ℕ)) → AreGroups links n gs → AreGroups links n hs → gs ≡ hs
  groups_same gs hs g h =
      let p = partition_of n gs g.each_once in
      let q = partition_of n hs h.each_once in
      classes_same (IsJoined links n) gs hs (classes_of gs g) (classes_of hs h) (
        λ k x. let r = p.in_range k x in q.holds k r.0 r.1,
        λ k x. let r = q.in_range k x in p.holds k r.0 r.1,
      )

  -- the groups that are computed are such groups
  pub groups_hold : AreGroups links n (groups_of links n)
  unfolding groups_of
  groups_hold = subst (AreGroups links n) (sym (groups_are (numbers_to n))) (of_classes computed computed_partition computed_classes)

-- the law
pub groups_are_joined_spec : GroupsAreJoined
groups_are_joined_spec links n gs = (
  λ g. groups_same links n gs (groups_of links n) g (groups_hold links n),
  λ e. subst (AreGroups links n) (sym e) (groups_hold links n),
)
