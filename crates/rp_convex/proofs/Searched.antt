-- What a search over the items of a list, or over each two, three or four of them, finds and misses.
use Rattle.std.proofs.Common.{◌≡◌, List, [], ◌∷◌, ⊎_elim, Option, Some, None}
use Rattle.rp_geometry.specs.Geometry.{HalfSpace}
use Rattle.rp_geometry.specs.searches.Search.{first_of, first_of_pairs, first_of_triples, first_of_quadruples}
use Rattle.rp_algebra.proofs.Options.{none_not_some, or_else_found, or_else_none}
use Rattle.rp_convex.proofs.Combination.{Among, none, skip, take}

-- no half-spaces are a sublist
abbrev pub among_none : (hs : List HalfSpace) → Among [] hs
among_none [] = none
among_none (h ∷ hs) = skip (among_none hs)

module _ {B : Type 0} where
  -- ---- found
  -- what a search of the items finds
  pub found_one : (f : HalfSpace → Option B) (hs : List HalfSpace) (y : B) → first_of f hs ≡ Some y → (h : HalfSpace) × Among (h ∷ []) hs × (f h ≡ Some y)
  found_one f [] y e = absurd (none_not_some y e)
  found_one f (h ∷ hs) y e =
      ⊎_elim
      (λ here. (h, take (among_none hs), here))
      (λ later. let r = found_one f hs y later.1 in (r.0, skip r.1, r.2))
      (or_else_found (f h) (first_of f hs) y e)

  -- what a search of the pairs finds
  pub found_two : (f : HalfSpace → HalfSpace → Option B) (hs : List HalfSpace) (y : B) → first_of_pairs f hs ≡ Some y → (g : HalfSpace) × (h : HalfSpace) × Among (g ∷ h ∷ []) hs × (f g h ≡ Some y)
  found_two f [] y e = absurd (none_not_some y e)
  found_two f (h ∷ hs) y e =
      ⊎_elim
      (λ here. let r = found_one (f h) hs y here in (h, r.0, take r.1, r.2))
      (λ later. let r = found_two f hs y later.1 in (r.0, r.1, skip r.2, r.3))
      (or_else_found (first_of (f h) hs) (first_of_pairs f hs) y e)

  -- what a search of the triples finds
  pub found_three : (f : HalfSpace → HalfSpace → HalfSpace → Option B) (hs : List HalfSpace) (y : B) → first_of_triples f hs ≡ Some y → (e : HalfSpace) × (g : HalfSpace) × (h : HalfSpace) × Among (e ∷ g ∷ h ∷ []) hs × (f e g h ≡ Some y)
  found_three f [] y e = absurd (none_not_some y e)
  found_three f (h ∷ hs) y e =
      ⊎_elim
      (λ here. let r = found_two (f h) hs y here in (h, r.0, r.1, take r.2, r.3))
      (λ later. let r = found_three f hs y later.1 in (r.0, r.1, r.2, skip r.3, r.4))
      (or_else_found (first_of_pairs (f h) hs) (first_of_triples f hs) y e)

  -- what a search of four items each finds
  pub found_four : (f : HalfSpace → HalfSpace → HalfSpace → HalfSpace → Option B) (hs : List HalfSpace) (y : B) → first_of_quadruples f hs ≡ Some y → (d : HalfSpace) × (e : HalfSpace) × (g : HalfSpace) × (h : HalfSpace) × Among (d ∷ e ∷ g ∷ h ∷ []) hs × (f d e g h ≡ Some y)
  found_four f [] y e = absurd (none_not_some y e)
  found_four f (h ∷ hs) y e =
      ⊎_elim
      (λ here. let r = found_three (f h) hs y here in (h, r.0, r.1, r.2, take r.3, r.4))
      (λ later. let r = found_four f hs y later.1 in (r.0, r.1, r.2, r.3, skip r.4, r.5))
      (or_else_found (first_of_triples (f h) hs) (first_of_quadruples f hs) y e)

  -- ---- missed
  -- what a search of the items misses
  pub missed_one : (f : HalfSpace → Option B) (hs : List HalfSpace) (h : HalfSpace) → first_of f hs ≡ None → Among (h ∷ []) hs → f h ≡ None
  missed_one f [] h e m = elim m [ ]
  missed_one f (x ∷ hs) h e (take m) = (or_else_none (f x) (first_of f hs) e).0
  missed_one f (x ∷ hs) h e (skip m) = missed_one f hs h (or_else_none (f x) (first_of f hs) e).1 m

  -- what a search of the pairs misses
  pub missed_two : (f : HalfSpace → HalfSpace → Option B) (hs : List HalfSpace) (g h : HalfSpace) → first_of_pairs f hs ≡ None → Among (g ∷ h ∷ []) hs → f g h ≡ None
  missed_two f [] g h e m = elim m [ ]
  missed_two f (x ∷ hs) g h e (take m) = missed_one (f x) hs h (or_else_none (first_of (f x) hs) (first_of_pairs f hs) e).0 m
  missed_two f (x ∷ hs) g h e (skip m) = missed_two f hs g h (or_else_none (first_of (f x) hs) (first_of_pairs f hs) e).1 m

  -- what a search of the triples misses
  pub missed_three : (f : HalfSpace → HalfSpace → HalfSpace → Option B) (hs : List HalfSpace) (d g h : HalfSpace) → first_of_triples f hs ≡ None → Among (d ∷ g ∷ h ∷ []) hs → f d g h ≡ None
  missed_three f [] d g h e m = elim m [ ]
  missed_three f (x ∷ hs) d g h e (take m) = missed_two (f x) hs g h (or_else_none (first_of_pairs (f x) hs) (first_of_triples f hs) e).0 m
  missed_three f (x ∷ hs) d g h e (skip m) = missed_three f hs d g h (or_else_none (first_of_pairs (f x) hs) (first_of_triples f hs) e).1 m

  -- what a search of four items each misses
  pub missed_four : (f : HalfSpace → HalfSpace → HalfSpace → HalfSpace → Option B) (hs : List HalfSpace) (c d g h : HalfSpace) → first_of_quadruples f hs ≡ None → Among (c ∷ d ∷ g ∷ h ∷ []) hs → f c d g h ≡ None
  missed_four f [] c d g h e m = elim m [ ]
  missed_four f (x ∷ hs) c d g h e (take m) = missed_three (f x) hs d g h (or_else_none (first_of_triples (f x) hs) (first_of_quadruples f hs) e).0 m
  missed_four f (x ∷ hs) c d g h e (skip m) = missed_four f hs c d g h (or_else_none (first_of_triples (f x) hs) (first_of_quadruples f hs) e).1 m
