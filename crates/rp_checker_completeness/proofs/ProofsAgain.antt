-- A proof line that keeps its bounds is read again from its text.
use Rattle.std.proofs.Common.{◌≡◌, ℕ, ◌^◌, ◌<◌, ◌≤◌, Bool, true, false, ◌&&◌, ℤ, pos, neg_ℤ, nat_abs, List, [], ◌∷◌, ◌++◌, map, Option, Some, None, refl, ap, ◌∙◌, sym, subst, arith}
use Rattle.std.specs.Prelude.{codes, int_le, option_and_then}
use Rattle.std.specs.List.{AllByRecursion, flat_map, list_all}
use Rattle.std.specs.Fmt.{signed_decimal}
use Rattle.std.proofs.lemmas.Int.{ints}
use Rattle.std.proofs.lemmas.Slice.Eq.{bytes_eq-Decides}
use Rattle.rp_geometry.specs.Geometry.{RationalPoint, HalfSpace, is_half_space_in_bounds, is_point_in_bounds, is_box_in_bounds, IntegerBox, weight_bound}
use Rattle.rp_geometry.specs.searches.Certificate.{Multiple, is_multiplier}
use Rattle.rp_geometry.specs.searches.ProofLine.{ProofLine, in_line, out_line, at_line, apart_line, drop_line, box_line}
use Rattle.rp_language.specs.Name.{label_eq}
use Rattle.rp_language.specs.Grammar.{Word, space, spaced, one, point_words, half_space_words, box_words}
use Rattle.rp_reports.specs.Text.{proof_text, point_text, half_space_text, term_text, items_text}
use Rattle.rp_reports.specs.ProofText.{is_written_half_space, is_written_point, is_written_multiple, is_written, cons_some, numbers_spelled, points_of_numbers, terms_of_numbers, map_some, read_kind, read_words, if_spelled, proof_read}
use Rattle.rp_language.proofs.Decimal.{number_of_spelling}
use Rattle.rp_geometry.proofs.InLowestTerms.{size_within}
use Rattle.rp_algebra.proofs.Tests.{and_first, and_second, and_true}
use Rattle.rp_algebra.proofs.Listed.{all_append, list_all_is}
use Rattle.rp_checker_completeness.proofs.LooseWords.{IsLooseWord, GivesWords, gives_sep, gives_none, gives_word, gives_both, words_given, gives_spaced, gives_in_parentheses, gives_items, items_apart, number_loose}

-- ---- numbers that a decimal writes

-- a number of at most 64 digits
abbrev pub IsShort : ℤ → Type 0
IsShort v = nat_abs v < 10 ^ 64

-- the words of numbers
abbrev pub number_words : List ℤ → List Word
number_words vs = map signed_decimal vs

-- the words of numbers have no separators
pub loose_numbers : (vs : List ℤ) → AllByRecursion IsShort vs → AllByRecursion IsLooseWord (number_words vs)
loose_numbers [] h = tt
loose_numbers (v ∷ vs) h = (number_loose v h.0, loose_numbers vs h.1)

-- numbers are read again from their words
pub numbers_again : (vs : List ℤ) → AllByRecursion IsShort vs → numbers_spelled (number_words vs) ≡ Some vs
numbers_again [] h = refl
numbers_again (v ∷ vs) h = (λ i. cons_some (number_of_spelling v h.0 i) (numbers_again vs h.1 i))

-- the numbers of a half-space, of a point, of a multiple and of a box
abbrev half_space_numbers : HalfSpace → List ℤ
half_space_numbers h = h.a ∷ h.b ∷ h.c ∷ h.d ∷ []

-- the numbers of a point
abbrev pub point_numbers : RationalPoint → List ℤ
point_numbers p = p.x ∷ p.y ∷ p.z ∷ p.w ∷ []

-- the numbers of a multiple
abbrev pub term_numbers : Multiple → List ℤ
term_numbers t = t.factor ∷ half_space_numbers t.of

-- the numbers of a box
abbrev box_numbers : IntegerBox → List ℤ
box_numbers b = b.x1 ∷ b.y1 ∷ b.z1 ∷ b.x2 ∷ b.y2 ∷ b.z2 ∷ []

-- ---- they are short where they keep their bounds

-- a number within a bound is short
pub short_within : (n : ℕ) → n < 10 ^ 64 → (v : ℤ) → (int_le (neg_ℤ (pos n)) v && int_le v (pos n)) ≡ true → IsShort v
short_within n small v e = let le = size_within n v e in omega arith

-- a number from 1 to a bound is short
short_between : (n : ℕ) → n < 10 ^ 64 → (v : ℤ) → (int_le (pos 1) v && int_le v (pos n)) ≡ true → IsShort v
short_between n small v e = let le = size v n e in omega arith
  where
    size : (v : ℤ) (n : ℕ) → (int_le (pos 1) v && int_le v (pos n)) ≡ true → nat_abs v ≤ n
    size v n e = grind (arith, ints)

-- a coefficient is short
pub short_coefficient : (v : ℤ) → (int_le (neg_ℤ (pos 16777216)) v && int_le v (pos 16777216)) ≡ true → IsShort v
short_coefficient v e = short_within 16777216 (omega arith) v e

-- the numbers of a half-space are short
short_half_space : (h : HalfSpace) → is_half_space_in_bounds h ≡ true → AllByRecursion IsShort (half_space_numbers h)
short_half_space h e =
    let abc = and_first _ _ e in
    let ab = and_first _ _ abc in
    (short_coefficient h.a (and_first _ _ ab), (short_coefficient h.b (and_second _ _ ab), (short_coefficient h.c (and_second _ _ abc), (short_within 844424930131968 (omega arith) h.d (and_second _ _ e), tt))))

-- so are those of one that may be written
pub short_written_half_space : (h : HalfSpace) → is_written_half_space h ≡ true → AllByRecursion IsShort (half_space_numbers h)
short_written_half_space h e = short_half_space h (and_first _ _ (and_first _ _ e))

-- the numbers of a point are short
pub short_point : (p : RationalPoint) → is_written_point p ≡ true → AllByRecursion IsShort (point_numbers p)
short_point p e =
    let both = and_first _ _ e in
    let bounds = and_first _ (int_le (pos 1) p.w) both in
    let above = and_second (is_point_in_bounds p) (int_le (pos 1) p.w) both in
    let below = and_second _ (int_le p.w weight_bound) bounds in
    let xyz = and_first _ _ bounds in
    let xy = and_first _ _ xyz in (
      short_within 2535301200456458802993406410751 (omega arith) p.x (and_first _ _ xy),
      (
        short_within 2535301200456458802993406410751 (omega arith) p.y (and_second _ _ xy),
        (
          short_within 2535301200456458802993406410751 (omega arith) p.z (and_second _ _ xyz),
          (short_between 37778931862957161709567 (omega arith) p.w (and_true (int_le (pos 1) p.w) (int_le p.w weight_bound) above below), tt),
        ),
      ),
    )

-- the numbers of a multiple are short
pub short_term : (t : Multiple) → is_written_multiple t ≡ true → AllByRecursion IsShort (term_numbers t)
short_term t e = (short_between 37778931862957161709567 (omega arith) t.factor (and_first (is_multiplier t.factor) _ e), short_written_half_space t.of (and_second (is_multiplier t.factor) _ e))

-- the numbers of a box are short
short_box : (b : IntegerBox) → is_box_in_bounds b ≡ true → AllByRecursion IsShort (box_numbers b)
short_box b e =
    let five = and_first _ _ e in
    let four = and_first _ _ five in
    let three = and_first _ _ four in
    let two = and_first _ _ three in (
      short_coefficient b.x1 (and_first _ _ two),
      (
        short_coefficient b.y1 (and_second _ _ two),
        (
          short_coefficient b.z1 (and_second _ _ three),
          (short_coefficient b.x2 (and_second _ _ four), (short_coefficient b.y2 (and_second _ _ five), (short_coefficient b.z2 (and_second _ _ e), tt))),
        ),
      ),
    )

-- the numbers of several points or terms are short
pub short_all : {A : Type 0} (numbers : A → List ℤ) (xs : List A) → AllByRecursion (λ x. AllByRecursion IsShort (numbers x)) xs → AllByRecursion IsShort (flat_map numbers xs)
short_all numbers [] h = tt
short_all numbers (x ∷ xs) h = all_append IsShort (numbers x) (flat_map numbers xs) h.0 (short_all numbers xs h.1)

-- the words of the numbers of several things
pub words_of_all : {A : Type 0} (numbers : A → List ℤ) (xs : List A) → flat_map (λ x. number_words (numbers x)) xs ≡ number_words (flat_map numbers xs)
words_of_all numbers [] = refl
words_of_all numbers (x ∷ xs) = ap (λ ws. number_words (numbers x) ++ ws) (words_of_all numbers xs) ∙ sym (map_both (numbers x) (flat_map numbers xs))
  where
    map_both : (us vs : List ℤ) → number_words (us ++ vs) ≡ number_words us ++ number_words vs
    map_both [] vs = refl
    map_both (u ∷ us) vs = ap (λ ws. signed_decimal u ∷ ws) (map_both us vs)

-- ---- the words of texts

-- the words of a half-space
gives_half_space : (h : HalfSpace) → AllByRecursion IsShort (half_space_numbers h) → GivesWords (half_space_text h) (number_words (half_space_numbers h))
gives_half_space h s = gives_in_parentheses (half_space_words h) (loose_numbers (half_space_numbers h) s)

-- the words of a point
pub gives_point : (p : RationalPoint) → AllByRecursion IsShort (point_numbers p) → GivesWords (point_text p) (number_words (point_numbers p))
gives_point p s = gives_in_parentheses (point_words one p) (loose_numbers (point_numbers p) s)

-- the words of a multiple
gives_term : (t : Multiple) → AllByRecursion IsShort (term_numbers t) → GivesWords (term_text t) (number_words (term_numbers t))
gives_term t s =
    gives_both (signed_decimal t.factor ++ codes "*") (half_space_text t.of) (signed_decimal t.factor ∷ []) (number_words (half_space_numbers t.of))
    (gives_both (signed_decimal t.factor) (codes "*") (signed_decimal t.factor ∷ []) [] (gives_word (signed_decimal t.factor) (number_loose t.factor s.0)) (gives_sep 42 [] [] refl gives_none) refl)
    (gives_half_space t.of s.1) refl

-- points, and terms, each behind a space
gives_points : (ps : List RationalPoint) → AllByRecursion (λ p. AllByRecursion IsShort (point_numbers p)) ps → GivesWords (items_text point_text ps) (number_words (flat_map point_numbers ps))
gives_points ps s = subst (GivesWords (items_text point_text ps)) (words_of_all point_numbers ps) (gives_items point_text (λ p. number_words (point_numbers p)) (λ p. AllByRecursion IsShort (point_numbers p)) gives_point ps s)

-- the words of multiples
pub gives_terms : (ts : List Multiple) → AllByRecursion (λ t. AllByRecursion IsShort (term_numbers t)) ts → GivesWords (items_text term_text ts) (number_words (flat_map term_numbers ts))
gives_terms ts s = subst (GivesWords (items_text term_text ts)) (words_of_all term_numbers ts) (gives_items term_text (λ t. number_words (term_numbers t)) (λ t. AllByRecursion IsShort (term_numbers t)) gives_term ts s)

-- ---- numbers back

-- points are made again of their numbers
points_again : (ps : List RationalPoint) → points_of_numbers (flat_map point_numbers ps) ≡ Some ps
points_again [] = refl
points_again (p ∷ ps) = ap (cons_some (Some p)) (points_again ps)

-- multiples are made again of their numbers
pub terms_again : (ts : List Multiple) → terms_of_numbers (flat_map term_numbers ts) ≡ Some ts
terms_again [] = refl
terms_again (t ∷ ts) = ap (cons_some (Some t)) (terms_again ts)

-- ---- lines

-- a line of a kind and of numbers
record LineOf (l : ProofLine) : Type 0 where
  kind : Word
  numbers : List ℤ
  gives : GivesWords (proof_text l) (kind ∷ number_words numbers)
  short : AllByRecursion IsShort numbers
  back : read_kind kind numbers ≡ Some l

-- an outer list of one to four items
pub written_all : {A : Type 0} (test : A → Bool) (P : A → Type 0) (count : Bool) → ((x : A) → test x ≡ true → P x) → (xs : List A) → (count && list_all test xs) ≡ true → AllByRecursion P xs
written_all test P count each xs e = list_all_is test P each xs (and_second count (list_all test xs) e)

-- each proof line that keeps its bounds is one
line_of : (l : ProofLine) → is_written l ≡ true → LineOf l
unfolding is_written
line_of (in_line ps) e =
    let s = written_all is_written_point (λ p. AllByRecursion IsShort (point_numbers p)) _ short_point ps e in
    record {
      kind = codes "in";
      numbers = flat_map point_numbers ps;
      gives = gives_both (codes "  in") (items_text point_text ps) (codes "in" ∷ []) (number_words (flat_map point_numbers ps)) (gives_sep 32 (codes " in") (codes "in" ∷ []) refl (gives_sep 32 (codes "in") (codes "in" ∷ []) refl (gives_word (codes "in") (refl, (refl, tt))))) (gives_points ps s) (items_apart point_text ps);
      short = short_all point_numbers ps s;
      back = ap (map_some in_line) (points_again ps);
    }
line_of (out_line ts) e =
    let s = written_all is_written_multiple (λ t. AllByRecursion IsShort (term_numbers t)) _ short_term ts e in
    record {
      kind = codes "out";
      numbers = flat_map term_numbers ts;
      gives = gives_both (codes "  out") (items_text term_text ts) (codes "out" ∷ []) (number_words (flat_map term_numbers ts)) (gives_sep 32 (codes " out") (codes "out" ∷ []) refl (gives_sep 32 (codes "out") (codes "out" ∷ []) refl (gives_word (codes "out") (refl, (refl, (refl, tt)))))) (gives_terms ts s) (items_apart term_text ts);
      short = short_all term_numbers ts s;
      back = ap (map_some out_line) (terms_again ts);
    }
line_of (at_line p) e =
    let s = short_point p e in
    record {
      kind = codes "at";
      numbers = point_numbers p;
      gives = gives_both (codes "  at ") (point_text p) (codes "at" ∷ []) (number_words (point_numbers p)) (gives_sep 32 (codes " at ") (codes "at" ∷ []) refl (gives_sep 32 (codes "at ") (codes "at" ∷ []) refl (gives_both (codes "at") (codes " ") (codes "at" ∷ []) [] (gives_word (codes "at") (refl, (refl, tt))) (gives_sep 32 [] [] refl gives_none) refl))) (gives_point p s) refl;
      short = s;
      back = refl;
    }
line_of (apart_line ts) e =
    let s = written_all is_written_multiple (λ t. AllByRecursion IsShort (term_numbers t)) _ short_term ts e in
    record {
      kind = codes "apart";
      numbers = flat_map term_numbers ts;
      gives = gives_both (codes "  apart") (items_text term_text ts) (codes "apart" ∷ []) (number_words (flat_map term_numbers ts)) (gives_sep 32 (codes " apart") (codes "apart" ∷ []) refl (gives_sep 32 (codes "apart") (codes "apart" ∷ []) refl (gives_word (codes "apart") (refl, (refl, (refl, (refl, (refl, tt)))))))) (gives_terms ts s) (items_apart term_text ts);
      short = short_all term_numbers ts s;
      back = ap (map_some apart_line) (terms_again ts);
    }
line_of (drop_line h ts) e =
    let s = written_all is_written_multiple (λ t. AllByRecursion IsShort (term_numbers t)) _ short_term ts (and_second (is_written_half_space h) _ e) in
    let k = short_written_half_space h (and_first (is_written_half_space h) _ e) in
    record {
      kind = codes "drop";
      numbers = half_space_numbers h ++ flat_map term_numbers ts;
      gives = gives_both (codes "  drop " ++ half_space_text h) (items_text term_text ts) (codes "drop" ∷ number_words (half_space_numbers h)) (number_words (flat_map term_numbers ts))
          (gives_both (codes "  drop ") (half_space_text h) (codes "drop" ∷ []) (number_words (half_space_numbers h)) (gives_sep 32 (codes " drop ") (codes "drop" ∷ []) refl (gives_sep 32 (codes "drop ") (codes "drop" ∷ []) refl (gives_both (codes "drop") (codes " ") (codes "drop" ∷ []) [] (gives_word (codes "drop") (refl, (refl, (refl, (refl, tt))))) (gives_sep 32 [] [] refl gives_none) refl))) (gives_half_space h k) refl)
          (gives_terms ts s) (items_apart term_text ts);
      short = all_append IsShort (half_space_numbers h) (flat_map term_numbers ts) k (short_all term_numbers ts s);
      back = ap (map_some (drop_line h)) (terms_again ts);
    }
line_of (box_line b) e =
    let s = short_box b e in
    record {
      kind = codes "box";
      numbers = box_numbers b;
      gives = gives_both (codes "  box") (space ∷ spaced (box_words one b)) (codes "box" ∷ []) (number_words (box_numbers b)) (gives_sep 32 (codes " box") (codes "box" ∷ []) refl (gives_sep 32 (codes "box") (codes "box" ∷ []) refl (gives_word (codes "box") (refl, (refl, (refl, tt)))))) (gives_sep space (spaced (box_words one b)) (number_words (box_numbers b)) refl (gives_spaced (box_words one b) (loose_numbers (box_numbers b) s))) refl;
      short = s;
      back = refl;
    }

-- a text is read as the line where all tests pass
if_spelled_itself : (l : ProofLine) → is_written l ≡ true → if_spelled (proof_text l) l ≡ Some l
if_spelled_itself l e = here (is_written l && label_eq (proof_text l) (proof_text l)) (and_true _ _ e ((bytes_eq-Decides (proof_text l) (proof_text l)).1 refl))
  where
    here : (b : Bool) → b ≡ true → elim b as (λ _. Option ProofLine) [ true ↦ Some l | false ↦ None ] ≡ Some l
    here true h = refl
    here false h = absurd (cc)

-- a proof line that keeps its bounds is read again from its text
pub proof_again : (l : ProofLine) → is_written l ≡ true → proof_read (proof_text l) ≡ Some l
unfolding proof_read
proof_again l e =
    let k = line_of l e in
    ap (λ ws. option_and_then (if_spelled (proof_text l)) (read_words ws)) (words_given (proof_text l) (k.kind ∷ number_words k.numbers) k.gives)
    ∙ ap (λ o. option_and_then (if_spelled (proof_text l)) (option_and_then (read_kind k.kind) o)) (numbers_again k.numbers k.short)
    ∙ ap (option_and_then (if_spelled (proof_text l))) k.back
    ∙ if_spelled_itself l e
