-- Words that are written one after the other.
use Rattle.std.proofs.Common.{◌≡◌, ℕ, ◌+◌, ◌<◌, ◌≤◌, List, [], ◌∷◌, ◌++◌, length, take, drop, get_or, Result, Ok, Err, refl, sym, ap, ◌∙◌, append_assoc, OnOk, OnErr}
use Rattle.std.specs.List.{flat_map}
use Rattle.std.proofs.lemmas.Grind.{flat_map-append}
use Rattle.std.proofs.lemmas.List.{append-nil, take_more, take_all, take-append-drop}
use Rattle.std.specs.declared.alloc.AllocError.{AllocError}
use Rattle.rp_language.specs.Grammar.{Word, space, spaced, Version, expression_words}
use Rattle.rp_command.specs.declared.command.Expr.{Expr}
use Rattle.rp_command.specs.Fronts.{AppendsFront}
use Rattle.rp_spelling.specs.Spells.{behind_spaces, Spells}
use Rattle.rp_command.specs.Views.{expression_of}

-- the text of words and then others
behind_spaces-append : (xs ys : List Word) → behind_spaces (xs ++ ys) ≡ behind_spaces xs ++ behind_spaces ys
behind_spaces-append xs ys = flat_map-append (λ word. space ∷ word) xs ys

-- the first word stands behind no space, and each of the others behind one
pub spaced-cons : (word : Word) (words : List Word) → spaced (word ∷ words) ≡ word ++ behind_spaces words
spaced-cons word [] = sym (append-nil word)
spaced-cons word (next ∷ words) = ap (λ rest. word ++ space ∷ rest) (spaced-cons next words)

-- text and then more text
joined : (old mid new a b : List ℕ) → mid ≡ old ++ a → new ≡ mid ++ b → new ≡ old ++ (a ++ b)
joined old mid new a b first second = second ∙ ap (λ text. text ++ b) first ∙ append_assoc old a b

-- words were written, and then others
pub words_then : (old mid new : List ℕ) (xs ys words : List Word) → xs ++ ys ≡ words → mid ≡ old ++ behind_spaces xs → new ≡ mid ++ behind_spaces ys → new ≡ old ++ behind_spaces words
words_then old mid new xs ys words all first second =
    joined old mid new (behind_spaces xs) (behind_spaces ys) first second ∙ ap (λ text. old ++ text) (sym (behind_spaces-append xs ys)) ∙ ap (λ ws. old ++ behind_spaces ws) all

-- memory ran out within the first words
pub stopped_first : (old new : List ℕ) (xs ys words : List Word) → xs ++ ys ≡ words → AppendsFront old new (behind_spaces xs) → AppendsFront old new (behind_spaces words)
stopped_first old new xs ys words all f =
    record {
      front = f.front;
      rest = f.rest ++ behind_spaces ys;
      whole = ap behind_spaces (sym all) ∙ behind_spaces-append xs ys ∙ ap (λ t. t ++ behind_spaces ys) f.whole ∙ append_assoc f.front f.rest (behind_spaces ys);
      appended = f.appended;
    }

-- memory ran out within the words behind the first
pub stopped_second : (old mid new : List ℕ) (xs ys words : List Word) → xs ++ ys ≡ words → mid ≡ old ++ behind_spaces xs → AppendsFront mid new (behind_spaces ys) → AppendsFront old new (behind_spaces words)
stopped_second old mid new xs ys words all first f =
    record {
      front = behind_spaces xs ++ f.front;
      rest = f.rest;
      whole = ap behind_spaces (sym all) ∙ behind_spaces-append xs ys ∙ ap (λ t. behind_spaces xs ++ t) f.whole ∙ sym (append_assoc (behind_spaces xs) f.front f.rest);
      appended = joined old mid new (behind_spaces xs) f.front first f.appended;
    }

-- memory ran out within words that stand between others
pub stopped_between : (old mid new : List ℕ) (xs ys zs words : List Word) → xs ++ ys ++ zs ≡ words → mid ≡ old ++ behind_spaces xs → AppendsFront mid new (behind_spaces ys) → AppendsFront old new (behind_spaces words)
stopped_between old mid new xs ys zs words all first second =
    stopped_first old new (xs ++ ys) zs words all (stopped_second old mid new xs ys (xs ++ ys) refl first second)

-- words were written, and then others are, perhaps not to their end
pub spells_then : (r : Result (Unit {0}) AllocError) (old mid new : List ℕ) (xs ys words : List Word) → xs ++ ys ≡ words → mid ≡ old ++ behind_spaces xs → Spells r mid new ys → Spells r old new words
spells_then (Ok done) old mid new xs ys words all first second = words_then old mid new xs ys words all first second
spells_then (Err error) old mid new xs ys words all first second = stopped_second old mid new xs ys words all first second

-- the pieces of one more item
pub pieces_more : {X A : Type 0} (f : X → List A) (xs : List X) (i : ℕ) (x : X) → i < length xs → x ≡ get_or xs i x → flat_map f (take i xs) ++ f x ≡ flat_map f (take (i + 1) xs)
pieces_more f xs i x inside at =
    ap (λ p. flat_map f (take i xs) ++ p) (ap f at ∙ sym (append-nil (f (get_or xs i x)))) ∙ sym (flat_map-append f (take i xs) (get_or xs i x ∷ [])) ∙ ap (flat_map f) (sym (take_more xs i x inside))

-- the pieces up to a place and those behind it are all
pub pieces_split : {X A : Type 0} (f : X → List A) (xs : List X) (i : ℕ) → flat_map f (take i xs) ++ flat_map f (drop i xs) ≡ flat_map f xs
pieces_split f xs i = sym (flat_map-append f (take i xs) (drop i xs)) ∙ ap (flat_map f) (take-append-drop i xs)

-- behind the last place the pieces are all
pub pieces_all : {X A : Type 0} (f : X → List A) (xs : List X) (i : ℕ) → length xs ≤ i → flat_map f (take i xs) ≡ flat_map f xs
pieces_all f xs i past = ap (flat_map f) (take_all i xs past)

-- memory ran out within the words of one of several items
pub stopped_within : {X : Type 0} (old mid new : List ℕ) (f : X → List Word) (xs : List X) (i : ℕ) (x : X) (piece words : List Word) → i < length xs → x ≡ get_or xs i x → piece ≡ f x → flat_map f xs ≡ words → mid ≡ old ++ behind_spaces (flat_map f (take i xs)) → AppendsFront mid new (behind_spaces piece) → AppendsFront old new (behind_spaces words)
stopped_within old mid new f xs i x piece words inside at is all before stopped =
    let later = flat_map f (drop (i + 1) xs) in
    let whole = ap (λ p. flat_map f (take i xs) ++ p ++ later) is ∙ ap (λ p. p ++ later) (pieces_more f xs i x inside at) ∙ pieces_split f xs (i + 1) ∙ all in
    stopped_between old mid new (flat_map f (take i xs)) piece later words whole before stopped

-- the words of one more item were written
pub words_more : {X : Type 0} (old mid new : List ℕ) (f : X → List Word) (xs : List X) (i : ℕ) (x : X) (piece : List Word) → i < length xs → x ≡ get_or xs i x → piece ≡ f x → mid ≡ old ++ behind_spaces (flat_map f (take i xs)) → new ≡ mid ++ behind_spaces piece → new ≡ old ++ behind_spaces (flat_map f (take (i + 1) xs))
words_more old mid new f xs i x piece inside at is before written =
    words_then old mid new (flat_map f (take i xs)) piece (flat_map f (take (i + 1) xs)) (ap (λ p. flat_map f (take i xs) ++ p) is ∙ pieces_more f xs i x inside at) before written

-- the words of an expression, by its first word and its kind
pub node_words : (v : Version) (region node : Expr) (word : Word) → expression_words v (expression_of region) ≡ word ∷ drop 1 (expression_words v (expression_of region)) → region ≡ node → word ∷ drop 1 (expression_words v (expression_of node)) ≡ expression_words v (expression_of region)
node_words v region node word first is =
    ap (λ (e : Expr). word ∷ drop 1 (expression_words v (expression_of e))) (sym is) ∙ sym first

-- the first word stands behind no space
whole_text : (word : Word) (rest words : List Word) → words ≡ word ∷ rest → spaced words ≡ word ++ behind_spaces rest
whole_text word rest words first = ap spaced first ∙ spaced-cons word rest

-- the first word was written, and then the others: all of their spelling
pub spells_all : (r : Result (Unit {0}) AllocError) (old mid new : List ℕ) (word : Word) (rest words : List Word) → words ≡ word ∷ rest → mid ≡ old ++ word → Spells r mid new rest → OnOk r (new ≡ old ++ spaced words)
spells_all (Ok done) old mid new word rest words first before after =
    joined old mid new word (behind_spaces rest) before after ∙ ap (λ text. old ++ text) (sym (whole_text word rest words first))
spells_all (Err error) old mid new word rest words first before after = tt

-- the first word was written, and then a front of the others: a front of their spelling
pub spells_front : (r : Result (Unit {0}) AllocError) (old mid new : List ℕ) (word : Word) (rest words : List Word) → words ≡ word ∷ rest → mid ≡ old ++ word → Spells r mid new rest → OnErr r (AppendsFront old new (spaced words))
spells_front (Ok done) old mid new word rest words first before after = tt
spells_front (Err error) old mid new word rest words first before f =
    record {
      front = word ++ f.front;
      rest = f.rest;
      whole = whole_text word rest words first ∙ ap (λ t. word ++ t) f.whole ∙ sym (append_assoc word f.front f.rest);
      appended = joined old mid new word f.front before f.appended;
    }
