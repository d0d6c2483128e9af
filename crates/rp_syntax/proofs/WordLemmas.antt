-- The words of a line, one after the other from its front.
use Rattle.std.proofs.Common.{◌≡◌, ℕ, ◌+◌, ◌<◌, List, [], ◌∷◌, length, take, drop, Some, None, Err, refl, ap, ◌∙◌, arith}
use Rattle.std.specs.List.{position}
use Rattle.std.proofs.lemmas.List.Splits.{slice_split_none, slice_split_first, length-slice_split}
use Rattle.rp_language.specs.Grammar.{Place, words_of, end_of, bad_syntax}
use Rattle.rp_language.proofs.Places.{position_or_len-at_some, all_fail-at_none}
use Rattle.rp_syntax.specs.Places.{is_space}

-- the first word ends at the first space
pub words_of-at : (line : List ℕ) (i : ℕ) → position is_space line ≡ Some i → words_of line ≡ take i line ∷ words_of (drop (i + 1) line)
words_of-at line i e =
    let place = position_or_len-at_some is_space line i e in
    slice_split_first is_space line 0 (omega (arith, place.0, place.1)) ∙ ap (λ n. take n line ∷ words_of (drop (n + 1) line)) place.1

-- a line without a space is one word
pub words_of-none : (line : List ℕ) → position is_space line ≡ None → words_of line ≡ line ∷ []
words_of-none line e = slice_split_none is_space line (all_fail-at_none is_space line e).1

-- where some words are left, the line has not ended
not_ended : (words : List (List ℕ)) (place : Place) → 0 < length words → end_of words place ≡ Err bad_syntax
not_ended [] place h = absurd (omega arith)
not_ended (word ∷ words) place h = refl

-- a text, even an empty one, has a word
pub text_not_ended : (text : List ℕ) (place : Place) → end_of (words_of text) place ≡ Err bad_syntax
text_not_ended text place = let n = length-slice_split is_space text in not_ended (words_of text) place (omega (arith, n))
