-- The links that weak tests find are those of contact, and ways by contact are ways over links.
use Rattle.std.proofs.Common.{◌≡◌, ℕ, zero, suc, ◌+◌, ◌<◌, ◌≤◌, Bool, true, false, ◌&&◌, ◌||◌, ◌⊎◌, inl, inr, ⊎_elim, List, [], ◌∷◌, length, Some, refl, ap, subst, sym, ◌∙◌, arith}
use Rattle.std.proofs.lemmas.Bool.{or_cases, or_left, eqb-true, eq-eqb, cases_order, cases_eq}
use Rattle.std.specs.Prelude.{◌==◌, slice_get, ◌↔◌}
use Rattle.std.specs.List.{AllByRecursion}
use Rattle.rp_algebra.proofs.Listed.{Listed, first, later, listed_cases, listed_left, listed_right}
use Rattle.rp_algebra.proofs.Tests.{and_first, and_second, and_true}
use Rattle.rp_geometry.specs.sets.Shape.{Part}
use Rattle.rp_geometry.specs.sets.Contact.{IsInContact}
use Rattle.rp_geometry.specs.parts.Groups.{is_linked}
use Rattle.rp_geometry.specs.parts.Links.{is_touching, links_with, links_from, links_of}
use Rattle.rp_geometry.specs.laws.PieceLaws.{IsNonemptyPart, part_numbered, IsLinked, itself, further, AreContacts, LinksAreContacts, IsJoined}
use Rattle.rp_algebra.proofs.Filter.{some_passes, passes_some}
use Rattle.rp_geometry.proofs.Members.{contact_turned}
use Rattle.rp_parts.proofs.Pairs.{contact_is_found_spec}
use Rattle.rp_parts.proofs.Numbered.{part_at, part_in_range, at_number, near_part, near_numbered}
use Rattle.rp_parts.proofs.Growth.{linked_back, joined_end}

-- ---- the parts of a list that is numbered from some number

-- the part has the number j in the list whose first number is m
data At (p : Part) (j : ℕ) : ℕ → List Part → Type 0 where
  here : {parts : List Part} → At p j j (p ∷ parts)
  there : {m : ℕ} {q : Part} {parts : List Part} → At p j (suc m) parts → At p j m (q ∷ parts)

-- the number is at least the first one
at_least : (p : Part) (j m : ℕ) (parts : List Part) → At p j m parts → m ≤ j
at_least p j m parts here = omega arith
at_least p j m parts (there a) = let h = at_least p j _ _ a in omega (arith, h)

-- a part at a place of a list has the number that the place gives
at_place : (parts : List Part) (p : Part) (m k : ℕ) → slice_get parts k ≡ Some p → At p (k + m) m parts
at_place [] p m k e = absurd (cc)
at_place (q ∷ parts) p m zero e =
    let same : p ≡ q = cc in
    let number : m ≡ zero + m = omega arith in
    subst (λ j. At p j m (q ∷ parts)) number (subst (λ r. At p m m (r ∷ parts)) same here)
at_place (q ∷ parts) p m (suc k) e =
    let number : k + suc m ≡ suc k + m = omega arith in
    subst (λ j. At p j m (q ∷ parts)) number (there (at_place parts p (suc m) k e))

-- a part of the list that is numbered from 1 has its number
at_number_of : (parts : List Part) (p : Part) (j : ℕ) → part_at parts j ≡ Some p → At p j 1 parts
at_number_of parts p zero e = absurd (cc)
at_number_of parts p (suc k) e = let number : k + 1 ≡ suc k = omega arith in subst (λ j. At p j 1 parts) number (at_place parts p 1 k e)

-- the place of a number
record Place (p : Part) (j m : ℕ) (parts : List Part) : Type 0 where
  place : ℕ
  number : j ≡ place + m
  is : slice_get parts place ≡ Some p

-- a part with a number stands at its place
place_at : (p : Part) (j m : ℕ) (parts : List Part) → At p j m parts → Place p j m parts
place_at p j m [] a = elim a [ ]
place_at p j m (q ∷ parts) here = record { place = 0; number = omega arith; is = refl }
place_at p j m (q ∷ parts) (there a) = let r = place_at p j (suc m) parts a in let e = r.number in record { place = suc r.place; number = omega (arith, e); is = r.is }

-- a number from 1 has its part
number_at : (parts : List Part) (p : Part) (j : ℕ) → At p j 1 parts → part_at parts j ≡ Some p
number_at parts p j a =
    let r = place_at p j 1 parts a in
    let e = r.number in
    let number : j ≡ suc r.place = omega (arith, e) in
    ap (part_at parts) number ∙ r.is

-- ---- the links of one part

-- a part that the link of i reaches
record Reached (i : ℕ) (p : Part) (m : ℕ) (parts : List Part) (l : ℕ × ℕ) : Type 0 where
  from : l.0 ≡ i
  part : Part
  at : At part l.1 m parts
  touching : is_touching p part ≡ true

-- each link of a part reaches a part that it touches
links_reach : (i : ℕ) (p : Part) (m : ℕ) (parts : List Part) (l : ℕ × ℕ) → Listed l (links_with i p m parts) → Reached i p m parts l
links_reach i p m [] l x = elim x [ ]
links_reach i p m (q ∷ parts) l x = by_test (is_touching p q) refl l x (links_reach i p (suc m) parts l)
  where
    on : (k : ℕ × ℕ) → Reached i p (suc m) parts k → Reached i p m (q ∷ parts) k
    on k r = record { from = r.from; part = r.part; at = there r.at; touching = r.touching }

    by_test : (b : Bool) → is_touching p q ≡ b → (k : ℕ × ℕ) → Listed k (elim b [ true ↦ (i, m) ∷ links_with i p (suc m) parts | false ↦ links_with i p (suc m) parts ])
        → (Listed k (links_with i p (suc m) parts) → Reached i p (suc m) parts k) → Reached i p m (q ∷ parts) k
    by_test true e k first rest = record { from = refl; part = q; at = here; touching = e }
    by_test true e k (later y) rest = on k (rest y)
    by_test false e k y rest = on k (rest y)

-- a part that it touches is reached by a link
reach_links : (i : ℕ) (p : Part) (m : ℕ) (parts : List Part) (q : Part) (j : ℕ) → At q j m parts → is_touching p q ≡ true → Listed (i, j) (links_with i p m parts)
reach_links i p m [] r j a e = elim a [ ]
reach_links i p m (q ∷ parts) r j here e = subst (λ b. Listed (i, m) (elim b [ true ↦ (i, m) ∷ links_with i p (suc m) parts | false ↦ links_with i p (suc m) parts ])) (sym e) first
reach_links i p m (q ∷ parts) r j (there a) e = by_test (is_touching p q) (reach_links i p (suc m) parts r j a e)
  where
    by_test : (b : Bool) → Listed (i, j) (links_with i p (suc m) parts) → Listed (i, j) (elim b [ true ↦ (i, m) ∷ links_with i p (suc m) parts | false ↦ links_with i p (suc m) parts ])
    by_test true x = later x
    by_test false x = x

-- ---- the links of all parts

-- the two parts of a link
record Ends (m : ℕ) (parts : List Part) (l : ℕ × ℕ) : Type 0 where
  one : Part
  other : Part
  one_at : At one l.0 m parts
  other_at : At other l.1 m parts
  rising : l.0 < l.1
  touching : is_touching one other ≡ true

-- each link has two parts that touch
links_end : (m : ℕ) (parts : List Part) (l : ℕ × ℕ) → Listed l (links_from m parts) → Ends m parts l
links_end m [] l x = elim x [ ]
links_end m (p ∷ parts) l x = by_place (listed_cases l (links_with m p (suc m) parts) (links_from (suc m) parts) x) (links_end (suc m) parts l)
  where
    by_place : Listed l (links_with m p (suc m) parts) ⊎ Listed l (links_from (suc m) parts) → (Listed l (links_from (suc m) parts) → Ends (suc m) parts l) → Ends m (p ∷ parts) l
    by_place (inl y) rest =
        let r = links_reach m p (suc m) parts l y in
        let above = at_least r.part l.1 (suc m) parts r.at in
        let from = r.from in
        record { one = p; other = r.part; one_at = subst (λ j. At p j m (p ∷ parts)) (sym from) here; other_at = there r.at; rising = omega (arith, above, from); touching = r.touching }
    by_place (inr y) rest = let r = rest y in record { one = r.one; other = r.other; one_at = there r.one_at; other_at = there r.other_at; rising = r.rising; touching = r.touching }

-- two parts that touch are linked
ends_link : (m : ℕ) (parts : List Part) (p q : Part) (i j : ℕ) → At p i m parts → At q j m parts → i < j → is_touching p q ≡ true → Listed (i, j) (links_from m parts)
ends_link m [] p' q i j a b h e = elim a [ ]
ends_link m (p ∷ parts) p' q i j here here h e = absurd (omega (arith, h))
ends_link m (p ∷ parts) p' q i j here (there b) h e = listed_left (i, j) (links_with i p (suc i) parts) (links_from (suc i) parts) (reach_links i p (suc i) parts q j b e)
ends_link m (p ∷ parts) p' q i j (there a) here h e = absurd (let l = at_least p' i (suc j) parts a in omega (arith, l, h))
ends_link m (p ∷ parts) p' q i j (there a) (there b) h e = listed_right (i, j) (links_with m p (suc m) parts) (links_from (suc m) parts) (ends_link (suc m) parts p' q i j a b h e)

-- ---- links and contact

-- two parts of a list touch exactly where the shapes of their numbers are in contact
touch_numbers : (parts : List Part) → AllByRecursion IsNonemptyPart parts → (i j : ℕ) (p q : Part) → part_at parts i ≡ Some p → part_at parts j ≡ Some q
    → (is_touching p q ≡ true) ↔ IsInContact (part_numbered parts i) (part_numbered parts j)
touch_numbers parts h i j p q ep eq =
    let np = at_number IsNonemptyPart parts h i p ep in
    let nq = at_number IsNonemptyPart parts h j q eq in
    let found = contact_is_found_spec p.cell q.cell np.half_spaces nq.half_spaces np.nonempty nq.nonempty in (
      λ e. let (m, a, b) = found.1 e in (m, near_numbered parts i p ep m a, near_numbered parts j q eq m b),
      λ (m, a, b). found.0 (m, near_part parts h i p ep m a, near_part parts h j q eq m b),
    )

-- the law
pub links_are_contacts_spec : LinksAreContacts
unfolding links_of
links_are_contacts_spec parts h i j a b c = (to, back)
  where
    links : List (ℕ × ℕ)
    links = links_from 1 parts

    test : ℕ × ℕ → Bool
    test l = (l.0 == i && l.1 == j) || (l.0 == j && l.1 == i)

    to : is_linked links i j ≡ true → IsInContact (part_numbered parts i) (part_numbered parts j)
    to e =
        let s = some_passes test links e in
        let l = s.item in
        let r = links_end 1 parts l s.listed in
        let rising = r.rising in
        ⊎_elim
        (λ (k : (l.0 == i && l.1 == j) ≡ true).
        let x : l.0 ≡ i = eqb-true l.0 i (and_first (l.0 == i) (l.1 == j) k) in
        let y : l.1 ≡ j = eqb-true l.1 j (and_second (l.0 == i) (l.1 == j) k) in
        (touch_numbers parts h i j r.one r.other (number_at parts r.one i (subst (λ m. At r.one m 1 parts) x r.one_at)) (number_at parts r.other j (subst (λ m. At r.other m 1 parts) y r.other_at))).0 r.touching)
        (λ (k : (l.0 == j && l.1 == i) ≡ true).
        let x : l.0 ≡ j = eqb-true l.0 j (and_first (l.0 == j) (l.1 == i) k) in
        let y : l.1 ≡ i = eqb-true l.1 i (and_second (l.0 == j) (l.1 == i) k) in
        absurd (omega (arith, x, y, rising, b)))
        (or_cases (l.0 == i && l.1 == j) (l.0 == j && l.1 == i) s.passes)

    back : IsInContact (part_numbered parts i) (part_numbered parts j) → is_linked links i j ≡ true
    back t =
        let (p, ep) = part_in_range parts i a (omega arith) in
        let (q, eq) = part_in_range parts j (omega arith) c in
        let l = ends_link 1 parts p q i j (at_number_of parts p i ep) (at_number_of parts q j eq) b ((touch_numbers parts h i j p q ep eq).1 t) in
        passes_some test links (i, j) l (or_left (i == i && j == j) (i == j && j == i) (and_true (i == i) (j == j) (eq-eqb i i refl) (eq-eqb j j refl)))

-- ---- ways by contact and ways over links

-- two different numbers are linked where their parts are in contact
pub linked_of_contact : (parts : List Part) (links : List (ℕ × ℕ)) → AreContacts links parts → (i j : ℕ) → 1 ≤ i → i ≤ length parts → 1 ≤ j → j ≤ length parts → (i ≡ j → ⊥)
    → IsInContact (part_numbered parts i) (part_numbered parts j) → is_linked links i j ≡ true
linked_of_contact parts links contacts i j a b c d n t =
    ⊎_elim
    (λ (e : i ≡ j). absurd (n e))
    (⊎_elim
    (λ (h : i < j). (contacts i j a h d).1 t)
    (λ (h : j < i). linked_back links i j ∙ (contacts j i c h b).1 (contact_turned (part_numbered parts i) (part_numbered parts j) t)))
    (cases_order i j)

-- and the other way round
pub contact_of_linked : (parts : List Part) (links : List (ℕ × ℕ)) → AreContacts links parts → (i j : ℕ) → 1 ≤ i → i ≤ length parts → 1 ≤ j → j ≤ length parts → (i ≡ j → ⊥)
    → is_linked links i j ≡ true → IsInContact (part_numbered parts i) (part_numbered parts j)
contact_of_linked parts links contacts i j a b c d n e =
    ⊎_elim
    (λ (f : i ≡ j). absurd (n f))
    (⊎_elim
    (λ (h : i < j). (contacts i j a h d).0 e)
    (λ (h : j < i). contact_turned (part_numbered parts j) (part_numbered parts i) ((contacts j i c h b).0 (linked_back links j i ∙ e))))
    (cases_order i j)

-- the end of a way by contact has a part
pub linked_end : (parts : List Part) (i j : ℕ) → 1 ≤ i → i ≤ length parts → IsLinked parts i j → (1 ≤ j) × (j ≤ length parts)
linked_end parts i j a b itself = (a, b)
linked_end parts i j a b (further w c d t) = (c, d)

-- a way by contact is one over links
pub joined_of_linked : (parts : List Part) (links : List (ℕ × ℕ)) → AreContacts links parts → (i j : ℕ) → 1 ≤ i → i ≤ length parts → IsLinked parts i j → IsJoined links (length parts) i j
joined_of_linked parts links contacts i j a b itself = itself
joined_of_linked parts links contacts i j a b (further {j = m} w c d t) =
    let rest = joined_of_linked parts links contacts i m a b w in
    let r = linked_end parts i m a b w in
    ⊎_elim
    (λ (e : m ≡ j). subst (IsJoined links (length parts) i) e rest)
    (λ (n : m ≡ j → ⊥). further rest c d (linked_of_contact parts links contacts m j r.0 r.1 c d n t))
    (cases_eq m j)

-- a way over links is one by contact
pub linked_of_joined : (parts : List Part) (links : List (ℕ × ℕ)) → AreContacts links parts → (i j : ℕ) → 1 ≤ i → i ≤ length parts → IsJoined links (length parts) i j → IsLinked parts i j
linked_of_joined parts links contacts i j a b itself = itself
linked_of_joined parts links contacts i j a b (further {j = m} w c d e) =
    let rest = linked_of_joined parts links contacts i m a b w in
    let r = joined_end links (length parts) i m a b w in
    ⊎_elim
    (λ (f : m ≡ j). subst (IsLinked parts i) f rest)
    (λ (n : m ≡ j → ⊥). further rest c d (contact_of_linked parts links contacts m j r.0 r.1 c d n e))
    (cases_eq m j)
