-- The search of a level, over the sublists of so many items, finds the first in the order of places.
use Rattle.std.proofs.Common.{◌≡◌, ℕ, zero, suc, List, [], ◌∷◌, length, ⊎_elim, Option, Some, None, refl, sym, ap, ◌∙◌, subst, arith}
use Rattle.rp_geometry.specs.Geometry.{HalfSpace}
use Rattle.rp_geometry.specs.searches.Search.{first_of, first_of_pairs, first_of_triples, first_of_quadruples}
use Rattle.rp_geometry.specs.laws.CellLaws.{StandAt, IsSmallerAt}
use Rattle.rp_algebra.proofs.Options.{none_not_some, some_not_none, or_else, or_else_found, or_else_none}
use Rattle.rp_convex.proofs.Combination.{Among, skip, take}
use Rattle.rp_convex.proofs.Searched.{among_none}
use Rattle.rp_convex.proofs.OutsidePlaces.{places, length-places, stand_places, places-none, same_stand, smaller_none, smaller_rest, smaller_lowered, not_before_first, smaller_or_same, shifted}

-- no successor is 0
not_suc : (n : ℕ) → suc n ≡ zero → ⊥
not_suc n e = omega (arith, e)

-- equal successors are those of equal numbers
same_pred : (n k : ℕ) → suc n ≡ suc k → n ≡ k
same_pred n k e = omega (arith, e)

module _ {B : Type 0} where
  -- the first value over the sublists of k items
  abbrev pub first_sub : ℕ → (List HalfSpace → Option B) → List HalfSpace → Option B
  first_sub zero f hs = f []
  first_sub (suc k) f [] = None
  first_sub (suc k) f (x ∷ hs) = or_else (first_sub k (λ ks. f (x ∷ ks)) hs) (first_sub (suc k) f hs)

  -- the search of the items is that of level 1
  pub first_of-is : (f : List HalfSpace → Option B) (hs : List HalfSpace) → first_of (λ h. f (h ∷ [])) hs ≡ first_sub 1 f hs
  first_of-is f [] = refl
  first_of-is f (x ∷ hs) = ap (λ r. or_else (f (x ∷ [])) r) (first_of-is f hs)

  -- the search of the pairs is that of level 2
  pub first_of_pairs-is : (f : List HalfSpace → Option B) (hs : List HalfSpace) → first_of_pairs (λ g h. f (g ∷ h ∷ [])) hs ≡ first_sub 2 f hs
  first_of_pairs-is f [] = refl
  first_of_pairs-is f (x ∷ hs) = λ i. or_else (first_of-is (λ ks. f (x ∷ ks)) hs i) (first_of_pairs-is f hs i)

  -- the search of the triples is that of level 3
  pub first_of_triples-is : (f : List HalfSpace → Option B) (hs : List HalfSpace) → first_of_triples (λ e g h. f (e ∷ g ∷ h ∷ [])) hs ≡ first_sub 3 f hs
  first_of_triples-is f [] = refl
  first_of_triples-is f (x ∷ hs) = λ i. or_else (first_of_pairs-is (λ ks. f (x ∷ ks)) hs i) (first_of_triples-is f hs i)

  -- the search of four items each is that of level 4
  pub first_of_quadruples-is : (f : List HalfSpace → Option B) (hs : List HalfSpace) → first_of_quadruples (λ d e g h. f (d ∷ e ∷ g ∷ h ∷ [])) hs ≡ first_sub 4 f hs
  first_of_quadruples-is f [] = refl
  first_of_quadruples-is f (x ∷ hs) = λ i. or_else (first_of_triples-is (λ ks. f (x ∷ ks)) hs i) (first_of_quadruples-is f hs i)

  -- ---- missed
  -- where a level has no value, no sublist of so many items has one
  pub missed_sub : (k : ℕ) (f : List HalfSpace → Option B) (hs : List HalfSpace) → first_sub k f hs ≡ None → (ks : List HalfSpace) → Among ks hs → length ks ≡ k → f ks ≡ None
  missed_sub zero f hs e [] m l = e
  missed_sub zero f hs e (k ∷ ks) m l = absurd (not_suc (length ks) l)
  missed_sub (suc n) f [] e [] m l = absurd (not_suc n (sym l))
  missed_sub (suc n) f [] e (k ∷ ks) m l = elim m [ ]
  missed_sub (suc n) f (x ∷ hs) e ks (skip m) l = missed_sub (suc n) f hs (or_else_none (first_sub n (λ ks. f (x ∷ ks)) hs) (first_sub (suc n) f hs) e).1 ks m l
  missed_sub (suc n) f (x ∷ hs) e (k ∷ ks) (take m) l = missed_sub n (λ ks. f (x ∷ ks)) hs (or_else_none (first_sub n (λ ks. f (x ∷ ks)) hs) (first_sub (suc n) f hs) e).0 ks m (same_pred (length ks) n l)

  -- ---- found
  -- a sublist of k items with the value, before which none has one
  pub record FirstSub (k : ℕ) (f : List HalfSpace → Option B) (hs : List HalfSpace) (y : B) : Type 0 where
    pub items : List HalfSpace
    pub at : Among items hs
    pub many : length items ≡ k
    pub value : f items ≡ Some y
    pub first : (ks : List HalfSpace) (m : Among ks hs) → length ks ≡ k → IsSmallerAt (places m) (places at) → f ks ≡ None

  -- level 0 finds the empty sublist
  of_no_item : (f : List HalfSpace → Option B) (hs : List HalfSpace) (y : B) → f [] ≡ Some y → FirstSub zero f hs y
  of_no_item f hs y e = record {
    items = [];
    at = among_none hs;
    many = refl;
    value = e;
    first = λ ks m l s. absurd (smaller_none (places m) (subst (λ is. IsSmallerAt (places m) is) (places-none hs) s));
  }

  module _ (n : ℕ) (f : List HalfSpace → Option B) (x : HalfSpace) (hs : List HalfSpace) (y : B) where
    -- none is before a find with the first item
    before_here : (r : FirstSub n (λ ks. f (x ∷ ks)) hs y) (ks : List HalfSpace) (m : Among ks (x ∷ hs)) → length ks ≡ suc n → IsSmallerAt (places m) (0 ∷ shifted (places r.at)) → f ks ≡ None
    before_here r ks (skip m) l s = absurd (not_before_first (places m) (shifted (places r.at)) s)
    before_here r (k ∷ ks) (take m) l s = r.first ks m (same_pred (length ks) n l) (smaller_rest (places m) (places r.at) s)

    -- a find with the first item
    found_here : FirstSub n (λ ks. f (x ∷ ks)) hs y → FirstSub (suc n) f (x ∷ hs) y
    found_here r = record { items = x ∷ r.items; at = take r.at; many = ap suc r.many; value = r.value; first = before_here r }

    -- none is before a find without it
    before_later : first_sub n (λ ks. f (x ∷ ks)) hs ≡ None → (r : FirstSub (suc n) f hs y) (ks : List HalfSpace) (m : Among ks (x ∷ hs)) → length ks ≡ suc n → IsSmallerAt (places m) (shifted (places r.at)) → f ks ≡ None
    before_later e r ks (skip m) l s = r.first ks m l (smaller_lowered (places m) (places r.at) s)
    before_later e r (k ∷ ks) (take m) l s = missed_sub n (λ ks. f (x ∷ ks)) hs e ks m (same_pred (length ks) n l)

    -- a find without the first item
    found_later : first_sub n (λ ks. f (x ∷ ks)) hs ≡ None → FirstSub (suc n) f hs y → FirstSub (suc n) f (x ∷ hs) y
    found_later e r = record { items = r.items; at = skip r.at; many = r.many; value = r.value; first = before_later e r }

  -- what a level finds is its first
  pub found_sub : (k : ℕ) (f : List HalfSpace → Option B) (hs : List HalfSpace) (y : B) → first_sub k f hs ≡ Some y → FirstSub k f hs y
  found_sub zero f hs y e = of_no_item f hs y e
  found_sub (suc n) f [] y e = absurd (none_not_some y e)
  found_sub (suc n) f (x ∷ hs) y e =
      ⊎_elim
      (λ here. found_here n f x hs y (found_sub n (λ ks. f (x ∷ ks)) hs y here))
      (λ later. found_later n f x hs y later.0 (found_sub (suc n) f hs y later.1))
      (or_else_found (first_sub n (λ ks. f (x ∷ ks)) hs) (first_sub (suc n) f hs) y e)

  -- ---- the first is found
  module _ (k : ℕ) (f : List HalfSpace → Option B) (hs : List HalfSpace) (y : B) (r : FirstSub k f hs y) where
    -- two firsts have the same value
    same_found : (z : B) (q : FirstSub k f hs z) → Some z ≡ Some y
    same_found z q =
        ⊎_elim
        (λ before. absurd (none_not_some z (sym (r.first q.items q.at q.many before) ∙ q.value)))
        (λ m. ⊎_elim
        (λ e. sym q.value ∙ ap f (same_stand hs (places q.at) q.items r.items (stand_places q.at) (subst (λ is. StandAt hs is r.items) (sym e) (stand_places r.at))) ∙ r.value)
        (λ after. absurd (none_not_some y (sym (q.first r.items r.at r.many after) ∙ r.value))) m)
        (smaller_or_same (places q.at) (places r.at) (length-places q.at ∙ q.many ∙ sym r.many ∙ sym (length-places r.at)))

    -- so it is what the level finds
    is_found : (o : Option B) → first_sub k f hs ≡ o → o ≡ Some y
    is_found (Some z) e = same_found z (found_sub k f hs z e)
    is_found None e = absurd (some_not_none y (sym r.value ∙ missed_sub k f hs e r.items r.at r.many))

    -- the first of a level is found
    pub hit_sub : first_sub k f hs ≡ Some y
    hit_sub = is_found (first_sub k f hs) refl
