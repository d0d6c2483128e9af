-- A group that grows by links, until it grows no more: it then has the numbers that links join to its first one, and no others.
use Rattle.std.proofs.Common.{◌≡◌, ℕ, zero, suc, ◌+◌, ◌<◌, ◌≤◌, Bool, true, ◌&&◌, ◌||◌, ◌⊎◌, ⊎_elim, List, [], ◌∷◌, length, refl, ap, subst, sym, ◌∙◌, arith}
use mathlib.Core.Bool.{or_comm}
use Rattle.std.proofs.lemmas.Bool.{or_cases, or_left, or_right}
use Rattle.std.specs.Prelude.{◌==◌}
use Rattle.std.specs.List.{list_any, filter}
use Rattle.rp_algebra.proofs.Listed.{Listed, first, later}
use Rattle.rp_geometry.specs.parts.Groups.{is_linked, is_listed_number, grown, grown_by, group_of, numbers_to}
use Rattle.rp_geometry.specs.laws.PieceLaws.{IsJoined, itself, further}
use Rattle.rp_algebra.proofs.Filter.{some_passes, passes_some, kept, keeps, not_longer, filter_grows}
use Rattle.rp_geometry.proofs.Numbered.{listed_is, listed_true}
use Rattle.rp_parts.proofs.Numbered.{listed_to, to_listed}

-- ---- a longer filter

-- a list with an item is not empty
pub not_empty : (k : ℕ) (ks : List ℕ) → Listed k ks → 0 < length ks
not_empty k [] l = elim l [ ]
not_empty k (j ∷ ks) l = omega arith

-- ---- one step

module _ (links : List (ℕ × ℕ)) (all : List ℕ) where
  -- the number is in the group or linked to one of it
  abbrev pub is_next : List ℕ → ℕ → Bool
  is_next group k = is_listed_number k group || list_any (λ j. is_linked links k j) group

  -- a number of the group stays
  pub stays_next : (group : List ℕ) (k : ℕ) → Listed k group → is_next group k ≡ true
  stays_next group k l = or_left (is_listed_number k group) (list_any (λ j. is_linked links k j) group) (listed_true k group l)

  -- a number that is linked to one of the group comes
  pub comes_next : (group : List ℕ) (k j : ℕ) → Listed j group → is_linked links k j ≡ true → is_next group k ≡ true
  comes_next group k j l e = or_right (is_listed_number k group) (list_any (λ j. is_linked links k j) group) (passes_some (λ j. is_linked links k j) group j l e)

  -- ---- until it grows no more

  -- a group that does not grow stays as it is
  stays : (m : ℕ) (group : List ℕ) → group ≡ grown links all group → grown_by m links all group ≡ group
  stays zero group e = refl
  stays (suc m) group e = ap (grown_by m links all) (sym e) ∙ stays m group e

  -- a group of some of all numbers grows, or is as it was
  grows_or_not : (group : List ℕ) (test : ℕ → Bool) → group ≡ filter test all → (length group < length (grown links all group)) ⊎ (group ≡ grown links all group)
  grows_or_not group test e =
      subst (λ g. (length g < length (grown links all group)) ⊎ (g ≡ grown links all group)) (sym e)
      (filter_grows all test (is_next group) (λ x l p. stays_next group x (subst (λ g. Listed x g) (sym e) (keeps test all x l p))))

  -- a group of some of all numbers that has grown as often as there are numbers outside it grows no more
  settles : (m : ℕ) (group : List ℕ) (test : ℕ → Bool) → group ≡ filter test all → length all ≤ length group + m → grown links all (grown_by m links all group) ≡ grown_by m links all group
  settles zero group test e room =
      ⊎_elim
      (λ (h : length group < length (grown links all group)). absurd (let l = not_longer (is_next group) all in omega (arith, h, l, room)))
      (λ (s : group ≡ grown links all group). sym s)
      (grows_or_not group test e)
  settles (suc m) group test e room =
      ⊎_elim
      (λ (h : length group < length (grown links all group)). settles m (grown links all group) (is_next group) refl (omega (arith, h, room)))
      (λ (s : group ≡ grown links all group). let t = stays m (grown links all group) (ap (grown links all) s) in ap (grown links all) t ∙ sym (ap (grown links all) s) ∙ sym t)
      (grows_or_not group test e)

  -- a number of the group stays, however often it grows
  pub stays_listed : (m : ℕ) (group : List ℕ) (k : ℕ) → Listed k all → Listed k group → Listed k (grown_by m links all group)
  stays_listed zero group k l i = i
  stays_listed (suc m) group k l i = stays_listed m (grown links all group) k l (keeps (is_next group) all k l (stays_next group k i))

  -- only numbers of all come
  grown_all : (m : ℕ) (group : List ℕ) → ((k : ℕ) → Listed k group → Listed k all) → (k : ℕ) → Listed k (grown_by m links all group) → Listed k all
  grown_all zero group within k l = within k l
  grown_all (suc m) group within k l = grown_all m (grown links all group) (λ j i. (kept (is_next group) all j i).listed) k l

  -- the group of a number grows no more
  group_settles : (i : ℕ) → Listed i all → grown links all (group_of links all i) ≡ group_of links all i
  group_settles i l = by_room (length all) refl (not_empty i all l)
    where
      by_room : (m : ℕ) → length all ≡ m → 0 < m → grown links all (grown_by m links all (i ∷ [])) ≡ grown_by m links all (i ∷ [])
      by_room zero e h = absurd (omega (arith, h))
      by_room (suc m) e h =
          let some = not_empty i (grown links all (i ∷ [])) (keeps (is_next (i ∷ [])) all i l (stays_next (i ∷ []) i first)) in
          settles m (grown links all (i ∷ [])) (is_next (i ∷ [])) refl (omega (arith, e, some))

  -- a number is in its group
  pub group_first : (i : ℕ) → Listed i all → Listed i (group_of links all i)
  group_first i l = stays_listed (length all) (i ∷ []) i l first

  -- only numbers of all are in the group of one
  pub group_all : (i : ℕ) → Listed i all → (k : ℕ) → Listed k (group_of links all i) → Listed k all
  group_all i l k g = grown_all (length all) (i ∷ []) only k g
    where
      only : (j : ℕ) → Listed j (i ∷ []) → Listed j all
      only j first = l
      only j (later r) = elim r [ ]

  -- what is linked to a number of the group is in it
  pub group_closed : (i : ℕ) → Listed i all → (j k : ℕ) → Listed j (group_of links all i) → Listed k all → is_linked links k j ≡ true → Listed k (group_of links all i)
  group_closed i l j k g r e = subst (λ x. Listed k x) (group_settles i l) (keeps (is_next (group_of links all i)) all k r (comes_next (group_of links all i) k j g e))

  -- the group is a filter of all
  pub group_filter : (i : ℕ) → Listed i all → group_of links all i ≡ filter (is_next (group_of links all i)) all
  group_filter i l = sym (group_settles i l)

-- ---- ways over links

-- links have no direction
pub linked_back : (links : List (ℕ × ℕ)) (i j : ℕ) → is_linked links i j ≡ is_linked links j i
linked_back [] i j = refl
linked_back (l ∷ links) i j = λ s. or_comm (l.0 == i && l.1 == j) (l.0 == j && l.1 == i) s || linked_back links i j s

-- one way after another
pub joined_on : (links : List (ℕ × ℕ)) (n i j k : ℕ) → IsJoined links n i j → IsJoined links n j k → IsJoined links n i k
joined_on links n i j k w itself = w
joined_on links n i j k w (further {j = m} v h l e) = further (joined_on links n i j m w v) h l e

-- the end of a way is one of the numbers
pub joined_end : (links : List (ℕ × ℕ)) (n i j : ℕ) → 1 ≤ i → i ≤ n → IsJoined links n i j → (1 ≤ j) × (j ≤ n)
joined_end links n i j h l itself = (h, l)
joined_end links n i j h l (further w a b e) = (a, b)

-- a way can be gone back
pub joined_back : (links : List (ℕ × ℕ)) (n i j : ℕ) → 1 ≤ i → i ≤ n → IsJoined links n i j → IsJoined links n j i
joined_back links n i j h l itself = itself
joined_back links n i j h l (further {j = m} w a b e) =
    let r = joined_end links n i m h l w in
    joined_on links n j m i (further itself r.0 r.1 (linked_back links j m ∙ e)) (joined_back links n i m h l w)

-- ---- the group of a number

-- a number of a group whose numbers are joined to i is joined to it after the group has grown
grown_joined : (links : List (ℕ × ℕ)) (n i m : ℕ) (group : List ℕ) → ((k : ℕ) → Listed k group → IsJoined links n i k) → (k : ℕ) → Listed k (grown_by m links (numbers_to n) group) → IsJoined links n i k
grown_joined links n i zero group w k l = w k l
grown_joined links n i (suc m) group w k l = grown_joined links n i m (grown links (numbers_to n) group) next k l
  where
    next : (j : ℕ) → Listed j (grown links (numbers_to n) group) → IsJoined links n i j
    next j g =
        let r = kept (is_next links (numbers_to n) group) (numbers_to n) j g in
        let range = to_listed n j r.listed in
        ⊎_elim
        (λ (e : is_listed_number j group ≡ true). w j (listed_is j group e))
        (λ (e : list_any (λ x. is_linked links j x) group ≡ true).
        let s = some_passes (λ x. is_linked links j x) group e in
        further (w s.item s.listed) range.0 range.1 (linked_back links s.item j ∙ s.passes))
        (or_cases (is_listed_number j group) (list_any (λ x. is_linked links j x) group) r.passes)

-- a number of the group of another is joined to it
pub group_joined : (links : List (ℕ × ℕ)) (n i k : ℕ) → Listed k (group_of links (numbers_to n) i) → IsJoined links n i k
group_joined links n i k l = grown_joined links n i (length (numbers_to n)) (i ∷ []) only k l
  where
    only : (j : ℕ) → Listed j (i ∷ []) → IsJoined links n i j
    only j first = itself
    only j (later r) = elim r [ ]

-- a number that is joined to another is in its group
pub joined_group : (links : List (ℕ × ℕ)) (n i k : ℕ) → 1 ≤ i → i ≤ n → IsJoined links n i k → Listed k (group_of links (numbers_to n) i)
joined_group links n i k h l itself = group_first links (numbers_to n) i (listed_to n i h l)
joined_group links n i k h l (further {j = m} w a b e) =
    group_closed links (numbers_to n) i (listed_to n i h l) m k (joined_group links n i m h l w) (listed_to n k a b) (linked_back links k m ∙ e)
