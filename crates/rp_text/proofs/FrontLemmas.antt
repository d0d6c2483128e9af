-- Texts that are appended one after the other, whole or only a front of them.
use Rattle.std.proofs.Common.{◌≡◌, ℕ, ◌+◌, ◌<◌, ◌≤◌, List, [], ◌∷◌, ◌++◌, length, take, drop, get_or, Result, Ok, Err, sym, ap, ◌∙◌, append_assoc, add-one}
use Rattle.std.specs.List.{flat_map}
use Rattle.std.proofs.lemmas.List.{flat_map_more, take_all, take_more}
use Rattle.std.proofs.Math.ListN.{take-append-drop}
use Rattle.std.proofs.Math.Seq.{drop-cons}
use Rattle.std.proofs.lemmas.List.Concat.{flat_map-append}
use Rattle.rp_command.specs.Fronts.{AppendsFront}
use Rattle.rp_command.proofs.Fronts.{front_before}
use Rattle.rp_text.specs.Fronts.{Writes}

-- ---- two texts

-- a front of a second text comes behind the whole first
pub front_behind : (old middle new first second : List ℕ) → middle ≡ old ++ first → AppendsFront middle new second → AppendsFront old new (first ++ second)
front_behind old middle new first second h f =
    record {
      front = first ++ f.front;
      rest = f.rest;
      whole = ap (λ xs. first ++ xs) f.whole ∙ sym (append_assoc first f.front f.rest);
      appended = f.appended ∙ ap (λ xs. xs ++ f.front) h ∙ append_assoc old first f.front;
    }

-- a front of a text between two others
pub front_between : (old middle new first second third : List ℕ) → middle ≡ old ++ first → AppendsFront middle new second → AppendsFront old new (first ++ second ++ third)
front_between old middle new first second third h f =
    front_before old new (first ++ second) third (front_behind old middle new first second h f)

-- a second text comes behind the whole first
pub writes_behind : {X E : Type 0} (r : Result X E) (old middle new first second : List ℕ) → middle ≡ old ++ first → Writes r middle new second → Writes r old new (first ++ second)
writes_behind (Ok x) old middle new first second h w = w ∙ ap (λ xs. xs ++ second) h ∙ append_assoc old first second
writes_behind (Err e) old middle new first second h w = front_behind old middle new first second h w

-- a third text comes behind the whole first and second
pub writes_third : {X E : Type 0} (r : Result X E) (old middle later new first second third : List ℕ) → middle ≡ old ++ first → later ≡ middle ++ second → Writes r later new third → Writes r old new (first ++ second ++ third)
writes_third r old middle later new first second third h g w =
    writes_behind r old later new (first ++ second) third (g ∙ ap (λ xs. xs ++ second) h ∙ append_assoc old first second) w

-- a front of the same text in other words
pub front_same : (old new text other : List ℕ) → text ≡ other → AppendsFront old new text → AppendsFront old new other
front_same old new text other e f = record { front = f.front; rest = f.rest; whole = sym e ∙ f.whole; appended = f.appended }

-- the same text in other words
pub writes_same : {X E : Type 0} (r : Result X E) (old new text other : List ℕ) → text ≡ other → Writes r old new text → Writes r old new other
writes_same (Ok x) old new text other e w = w ∙ ap (λ xs. old ++ xs) e
writes_same (Err f) old new text other e w = front_same old new text other e w

-- ---- the texts of the items of a list

-- the items before a place are a front of all
pub front_so_far : {X : Type 0} (text : X → List ℕ) (old now new : List ℕ) (xs : List X) (i : ℕ) → now ≡ old ++ flat_map text (take i xs) → new ≡ now → AppendsFront old new (flat_map text xs)
front_so_far text old now new xs i h same =
    record {
      front = flat_map text (take i xs);
      rest = flat_map text (drop i xs);
      whole = ap (flat_map text) (sym (take-append-drop i xs)) ∙ flat_map-append text (take i xs) (drop i xs);
      appended = same ∙ h;
    }

-- the items before a place, the item there, and those behind it
cut_at : {X : Type 0} (text : X → List ℕ) (xs : List X) (i : ℕ) (x : X) → i < length xs → x ≡ get_or xs i x → flat_map text xs ≡ flat_map text (take i xs) ++ text x ++ flat_map text (drop (i + 1) xs)
cut_at {X} text xs i x h e =
    ap (flat_map text) (sym (take-append-drop i xs)) ∙ flat_map-append text (take i xs) (drop i xs)
    ∙ ap (λ ys. flat_map text (take i xs) ++ ys) (ap (flat_map text) (at_place xs i x h) ∙ ap (λ y. text y ++ flat_map text (drop (i + 1) xs)) (sym e))
    ∙ sym (append_assoc (flat_map text (take i xs)) (text x) (flat_map text (drop (i + 1) xs)))
  where
    at_place : (xs : List X) (i : ℕ) (d : X) → i < length xs → drop i xs ≡ get_or xs i d ∷ drop (i + 1) xs
    at_place xs i d h = rw add-one (drop-cons xs i d h)

-- a front of one item comes behind the items before it
pub front_within : {X : Type 0} (text : X → List ℕ) (old middle new : List ℕ) (xs : List X) (i : ℕ) (x : X) → i < length xs → x ≡ get_or xs i x → middle ≡ old ++ flat_map text (take i xs) → AppendsFront middle new (text x) → AppendsFront old new (flat_map text xs)
front_within text old middle new xs i x h e m f =
    front_same old new _ (flat_map text xs) (sym (cut_at text xs i x h e)) (front_between old middle new (flat_map text (take i xs)) (text x) (flat_map text (drop (i + 1) xs)) m f)

-- one item more was appended
pub more_written : {X : Type 0} (text : X → List ℕ) (old now new : List ℕ) (xs : List X) (i : ℕ) (x : X) → i < length xs → x ≡ get_or xs i x → now ≡ old ++ flat_map text (take i xs) → new ≡ now ++ text x → new ≡ old ++ flat_map text (take (i + 1) xs)
more_written text old now new xs i x h e so_far more =
    more ∙ ap (λ ys. ys ++ text x) so_far ∙ flat_map_more text old (take i xs) x ∙ ap (λ ys. old ++ flat_map text ys) (ap (λ y. take i xs ++ y ∷ []) e ∙ sym (take_more xs i x h))

-- all items were appended
pub all_written : {X : Type 0} (text : X → List ℕ) (old now : List ℕ) (xs : List X) (i : ℕ) → length xs ≤ i → now ≡ old ++ flat_map text (take i xs) → now ≡ old ++ flat_map text xs
all_written text old now xs i h so_far = so_far ∙ ap (λ ys. old ++ flat_map text ys) (take_all i xs h)
