-- Slimming of a cell, one half-space after the other.
use Rattle.std.proofs.Common.{◌≡◌, ℕ, zero, suc, ⊎_elim, ◌+◌, ◌-◌, ◌<◌, ◌≤◌, Bool, true, false, List, [], ◌∷◌, ◌++◌, append_assoc, append-nil, length, get_or, map, take, drop, refl, sym, ap, ◌∙◌, subst, arith, length-append}
use Rattle.std.specs.Prelude.{Option, Some, None, is_some}
use Rattle.std.specs.List.{slice_get}
use Rattle.std.proofs.lemmas.Grind.{common_steps}
use Rattle.std.proofs.lemmas.List.{map-append, take_more}
use Rattle.rp_algebra.proofs.Listed.{Listed, listed_left, listed_right, listed_cases, all_append}
use Rattle.rp_algebra.proofs.Lists.{drop_item}
use Rattle.rp_convex.proofs.Standing.{listed_contains, contains_listed}
use Rattle.rp_geometry.specs.Geometry.{RationalPoint, HalfSpace, IsKeptHalfSpace, complement}
use Rattle.rp_geometry.specs.parts.Parts.{AreKeptHalfSpaces}
use Rattle.rp_geometry.specs.parts.PartTest.{has_member, Slimmed, slim_from, slimmed}
use Rattle.rp_geometry.specs.searches.Certificate.{Multiple}
use Rattle.rp_geometry.specs.searches.ProofLine.{ProofLine, in_line, out_line, drop_line, strict_line, outside_terms}
use Rattle.rp_geometry.specs.searches.Vertex.{first_inside}
use Rattle.rp_cell.specs.Lines.{drop_line_of}
use Rattle.rp_cell.specs.Slimming.{tested, IsTested, IsDropProof}

-- ---- what a decision says

-- the line of a strict test, by what the search finds
abbrev line_by : List HalfSpace → Option (List RationalPoint) → ProofLine
line_by cell o = elim o [ Some points ↦ in_line points | None ↦ out_line (outside_terms true cell) ]

-- a test that tells points has found a member
pub points_told : (cell : List HalfSpace) (points : List RationalPoint) → in_line points ≡ strict_line cell → has_member cell ≡ true
unfolding has_member strict_line
points_told cell points e = by_search (first_inside cell) e
  where
    by_search : (o : Option (List RationalPoint)) → in_line points ≡ line_by cell o → is_some o ≡ true
    by_search (Some ps) e = refl
    by_search None e = absurd (cc)

-- a test that tells multiples has found none
pub terms_told : (cell : List HalfSpace) (terms : List Multiple) → out_line terms ≡ strict_line cell → (has_member cell ≡ false) × (terms ≡ outside_terms true cell)
unfolding has_member strict_line
terms_told cell terms e = by_search (first_inside cell) e
  where
    by_search : (o : Option (List RationalPoint)) → out_line terms ≡ line_by cell o → (is_some o ≡ false) × (terms ≡ outside_terms true cell)
    by_search (Some ps) e = absurd (cc)
    by_search None e = (refl, cc)

-- ---- a step of slimming

-- the outcome of a step, whether a half-space stays or goes
abbrev stays_or_goes : List HalfSpace → HalfSpace → List HalfSpace → Bool → Slimmed
stays_or_goes kept h hs t =
    elim t [
      | true ↦ slim_from (kept ++ h ∷ []) hs
      | false ↦ record { kept = (slim_from kept hs).kept; lines = drop_line h (outside_terms true (tested kept h hs)) ∷ (slim_from kept hs).lines }
    ]

-- what is kept and told so far, with what the rest comes to, is the slim cell
pub record IsSlimSoFar (cell : List HalfSpace) (i : ℕ) (kept : List HalfSpace) (told : List ProofLine) : Type 0 where
  pub all_kept : (slim_from kept (drop i cell)).kept ≡ (slimmed cell).kept
  pub all_told : told ++ (slim_from kept (drop i cell)).lines ≡ (slimmed cell).lines
  pub few : length kept ≤ i
  pub among : (g : HalfSpace) → Listed g kept → Listed g (take i cell)
  pub in_lowest_terms : AreKeptHalfSpaces (take i cell)

-- the same of lists that are equal
pub slim_is : (cell : List HalfSpace) (i : ℕ) {kept later : List HalfSpace} {told more : List ProofLine} → later ≡ kept → more ≡ told → IsSlimSoFar cell i kept told → IsSlimSoFar cell i later more
slim_is cell i {kept = kept} {more = more} e f s =
    subst (λ (hs : List HalfSpace). IsSlimSoFar cell i hs more) (sym e) (subst (λ (ts : List ProofLine). IsSlimSoFar cell i kept ts) (sym f) s)

-- at the start
pub slim_start : (cell kept : List HalfSpace) (told : List ProofLine) → kept ≡ [] → told ≡ [] → IsSlimSoFar cell 0 kept told
unfolding slimmed
slim_start cell kept told e f =
    subst (λ (ks : List HalfSpace). IsSlimSoFar cell 0 ks told) (sym e)
    (subst (λ (ts : List ProofLine). IsSlimSoFar cell 0 [] ts) (sym f) (record { all_kept = refl; all_told = refl; few = omega arith; among = λ g l. elim l [ ]; in_lowest_terms = tt }))

-- slimming from one half-space on
slim_next : (cell kept : List HalfSpace) (i : ℕ) (h : HalfSpace) (t : Bool) → i < length cell → h ≡ get_or cell i h → has_member (tested kept h (drop (i + 1) cell)) ≡ t
    → slim_from kept (drop i cell) ≡ stays_or_goes kept h (drop (i + 1) cell) t
slim_next cell kept i h t l e f = ap (slim_from kept) (drop_item cell i h l e) ∙ ap (stays_or_goes kept h (drop (i + 1) cell)) f

-- one more half-space in lowest terms
kept_more : (cell : List HalfSpace) (i : ℕ) (h : HalfSpace) → i < length cell → h ≡ get_or cell i h → IsKeptHalfSpace h → AreKeptHalfSpaces (take i cell) → AreKeptHalfSpaces (take (i + 1) cell)
kept_more cell i h l e k b =
    subst (λ (hs : List HalfSpace). AreKeptHalfSpaces hs) (sym (take_more cell i h l))
    (all_append IsKeptHalfSpace (take i cell) (get_or cell i h ∷ []) b (subst (λ (g : HalfSpace). IsKeptHalfSpace g) e k, tt))

-- the slice behind a place is the rest of the cell
pub slice_is : (cell : List HalfSpace) (k : ℕ) → take (length cell - k) (drop k cell) ≡ drop k cell
slice_is cell k = grind (arith, common_steps)

-- what is known at a half-space of a cell: where it stands, and that it is in lowest terms
pub record IsAt (cell : List HalfSpace) (i : ℕ) (h : HalfSpace) : Type 0 where
  pub below : i < length cell
  pub is : h ≡ get_or cell i h
  pub lowest : IsKeptHalfSpace h

-- a front is longer by the next item
among_more : (cell : List HalfSpace) (i : ℕ) (h : HalfSpace) → IsAt cell i h → take (i + 1) cell ≡ take i cell ++ h ∷ []
among_more cell i h k = take_more cell i h k.below ∙ ap (λ (g : HalfSpace). take i cell ++ g ∷ []) (sym k.is)

-- a half-space is tested as the definition has it
tested_at : (cell : List HalfSpace) (i : ℕ) (kept rest : List HalfSpace) (h : HalfSpace) (told : List ProofLine) → i < length cell → h ≡ get_or cell i h → rest ≡ take (length cell - (i + 1)) (drop (i + 1) cell) → IsSlimSoFar cell i kept told
    → IsTested cell i kept h rest
tested_at cell i kept rest h told l e f s = record {
  at = get_is cell i h l e;
  rest = f ∙ slice_is cell (i + 1);
  few = s.few;
  kept = λ g c. listed_contains g (take i cell) (s.among g (contains_listed g kept c));
}
  where
    get_is : {A : Type 0} (xs : List A) (i : ℕ) (x : A) → i < length xs → x ≡ get_or xs i x → slice_get xs i ≡ Some x
    get_is [] i x l e = absurd (omega (arith, l))
    get_is (y ∷ ys) zero x l e = ap (λ z. Some z) (sym e)
    get_is (y ∷ ys) (suc i) x l e = get_is ys i x (omega (arith, l)) e

-- the same of the cell and the list as they are read
pub tested_here : (halves cell : List HalfSpace) (i : ℕ) (kept items : List HalfSpace) (h : HalfSpace) (told : List ProofLine) → halves ≡ cell → items ≡ kept → i < length halves → h ≡ get_or halves i h → IsSlimSoFar cell i kept told
    → IsTested cell i items h (take (length halves - (i + 1)) (drop (i + 1) halves))
tested_here halves cell i kept items h told e f l g s =
    subst (λ (hs : List HalfSpace). IsTested cell i hs h (take (length halves - (i + 1)) (drop (i + 1) halves))) (sym f)
    (subst (λ (hs : List HalfSpace). IsTested cell i kept h (take (length hs - (i + 1)) (drop (i + 1) hs))) (sym e)
    (tested_at cell i kept (take (length cell - (i + 1)) (drop (i + 1) cell)) h told (subst (λ (hs : List HalfSpace). i < length hs) e l) (subst (λ (hs : List HalfSpace). h ≡ get_or hs i h) e g) refl s))

-- where a half-space of the cell stands, as it is read
pub at_here : (halves cell : List HalfSpace) (i : ℕ) (h : HalfSpace) → halves ≡ cell → i < length halves → h ≡ get_or halves i h → IsKeptHalfSpace h → IsAt cell i h
at_here halves cell i h e l g k = record { below = subst (λ (hs : List HalfSpace). i < length hs) e l; is = subst (λ (hs : List HalfSpace). h ≡ get_or hs i h) e g; lowest = k }

-- the list that is tested is that of the definition
pub tested_list : (halves cell : List HalfSpace) (i : ℕ) (kept items : List HalfSpace) (h : HalfSpace) → halves ≡ cell → items ≡ kept → tested items h (take (length halves - (i + 1)) (drop (i + 1) halves)) ≡ tested kept h (drop (i + 1) cell)
tested_list halves cell i kept items h e f = λ j. f j ++ (slice_is halves (i + 1) ∙ ap (drop (i + 1)) e) j ++ complement h ∷ []

-- what no proof says
pub drop_proof_none : (list : List HalfSpace) (o : Option (List Multiple)) {cell : List HalfSpace} → list ≡ cell → IsDropProof list o → o ≡ None → has_member cell ≡ true
drop_proof_none list o e k n = subst (λ (hs : List HalfSpace). has_member hs ≡ true) e (subst (λ (r : Option (List Multiple)). IsDropProof list r) n k)

-- what a proof says
pub drop_proof_some : (list : List HalfSpace) (o : Option (List Multiple)) (terms : List Multiple) {cell : List HalfSpace} → list ≡ cell → IsDropProof list o → o ≡ Some terms → (has_member cell ≡ false) × (terms ≡ outside_terms true cell)
drop_proof_some list o terms e k n = subst (λ (hs : List HalfSpace). (has_member hs ≡ false) × (terms ≡ outside_terms true hs)) e (subst (λ (r : Option (List Multiple)). IsDropProof list r) n k)

-- a half-space stays where a member of the others lies outside it
pub slim_stays : (cell : List HalfSpace) (i : ℕ) (kept : List HalfSpace) (h : HalfSpace) (told : List ProofLine) → IsAt cell i h
    → has_member (tested kept h (drop (i + 1) cell)) ≡ true → IsSlimSoFar cell i kept told → IsSlimSoFar cell (i + 1) (kept ++ h ∷ []) told
slim_stays cell i kept h told k e s =
    let next = slim_next cell kept i h true k.below k.is e in
    let few = s.few in
    record {
      all_kept = ap (λ (r : Slimmed). r.kept) (sym next) ∙ s.all_kept;
      all_told = ap (λ (r : Slimmed). told ++ r.lines) (sym next) ∙ s.all_told;
      few = omega (arith, length-append kept (h ∷ []));
      among = λ g l. subst (λ (hs : List HalfSpace). Listed g hs) (sym (among_more cell i h k)) (⊎_elim
          (λ (m : Listed g kept). listed_left g (take i cell) (h ∷ []) (s.among g m))
          (λ (m : Listed g (h ∷ [])). listed_right g (take i cell) (h ∷ []) m)
          (listed_cases g kept (h ∷ []) l));
      in_lowest_terms = kept_more cell i h k.below k.is k.lowest s.in_lowest_terms;
    }

-- a half-space goes where none does
pub slim_goes : (cell : List HalfSpace) (i : ℕ) (kept : List HalfSpace) (h : HalfSpace) (drops : List (HalfSpace × List Multiple)) (terms : List Multiple) → IsAt cell i h
    → (has_member (tested kept h (drop (i + 1) cell)) ≡ false) × (terms ≡ outside_terms true (tested kept h (drop (i + 1) cell)))
    → IsSlimSoFar cell i kept (map drop_line_of drops) → IsSlimSoFar cell (i + 1) kept (map drop_line_of (drops ++ (h, terms) ∷ []))
slim_goes cell i kept h drops terms k none s =
    let next = slim_next cell kept i h false k.below k.is none.0 in
    let rest = (slim_from kept (drop (i + 1) cell)).lines in
    let few = s.few in
    record {
      all_kept = ap (λ (r : Slimmed). r.kept) (sym next) ∙ s.all_kept;
      all_told = ap (λ (ts : List ProofLine). ts ++ rest) (map-append drop_line_of drops ((h, terms) ∷ []))
          ∙ append_assoc (map drop_line_of drops) (drop_line h terms ∷ []) rest
          ∙ ap (λ (ts : List Multiple). map drop_line_of drops ++ drop_line h ts ∷ rest) none.1
          ∙ ap (λ (r : Slimmed). map drop_line_of drops ++ r.lines) (sym next) ∙ s.all_told;
      few = omega arith;
      among = λ g l. subst (λ (hs : List HalfSpace). Listed g hs) (sym (among_more cell i h k)) (listed_left g (take i cell) (h ∷ []) (s.among g l));
      in_lowest_terms = kept_more cell i h k.below k.is k.lowest s.in_lowest_terms;
    }

-- what is known when nothing is left
pub record IsSlim (cell kept : List HalfSpace) (told : List ProofLine) : Type 0 where
  pub kept_is : kept ≡ (slimmed cell).kept
  pub told_is : told ≡ (slimmed cell).lines
  pub lowest : AreKeptHalfSpaces cell

-- at the end
pub slim_end : (cell kept : List HalfSpace) (told : List ProofLine) (i : ℕ) → length cell ≤ i → IsSlimSoFar cell i kept told → IsSlim cell kept told
slim_end cell kept told i h s =
    let none : drop i cell ≡ [] = grind (arith, common_steps) in
    let whole : take i cell ≡ cell = grind (arith, common_steps) in
    record {
      kept_is = sym (ap (λ (hs : List HalfSpace). (slim_from kept hs).kept) none) ∙ s.all_kept;
      told_is = sym (append-nil told) ∙ sym (ap (λ (hs : List HalfSpace). told ++ (slim_from kept hs).lines) none) ∙ s.all_told;
      lowest = subst (λ (hs : List HalfSpace). AreKeptHalfSpaces hs) whole s.in_lowest_terms;
    }
