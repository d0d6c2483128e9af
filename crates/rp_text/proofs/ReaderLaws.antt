-- What the readers of proof lines read: exactly the spellings of what may be written.
use Rattle.std.proofs.Common.{◌≡◌, ℕ, zero, suc, ◌+◌, ◌^◌, ◌<◌, ◌≤◌, Bool, true, false, ◌&&◌, ◌==◌, cond, ℤ, pos, negsuc, nat_abs, List, [], ◌∷◌, ◌++◌, length, take, drop, get_or, Option, Some, None, refl, sym, ap, ◌∙◌, subst, arith, append_assoc}
use Rattle.std.specs.Prelude.{codes, unsigned_abs, nat_lt, int_le, option_map, option_and_then}
use Rattle.std.specs.List.{AllByRecursion, list_all, position, position_from}
use Rattle.std.specs.Fmt.{signed_decimal}
use Rattle.std.proofs.lemmas.Int.{ints}
use Rattle.std.proofs.lemmas.List.{take-append-drop, take_at, drop_at, drop-drop, drop_more}
use Rattle.std.proofs.lemmas.List.Quantifiers.{position-Some}
use Rattle.std.proofs.lemmas.Iterator.Adapters.{position_from-zero}
use Rattle.std.proofs.lemmas.Slice.Eq.{bytes_eq-Decides}
use Rattle.rp_algebra.proofs.Options.{none_not_some, same_some, some_if}
use Rattle.rp_algebra.proofs.Tests.{and_first, and_second, and_true}
use Rattle.rp_geometry.specs.Geometry.{RationalPoint, HalfSpace, point_of, half_space_of, is_within_bound, is_half_space_in_bounds, is_point_in_bounds, weight_bound}
use Rattle.rp_geometry.specs.searches.Certificate.{Multiple, is_multiplier, is_one_to_four}
use Rattle.rp_geometry.specs.searches.Elimination.{multiple_of}
use Rattle.rp_geometry.proofs.InLowestTerms.{size_within}
use Rattle.rp_language.specs.Name.{label_eq}
use Rattle.rp_language.specs.Grammar.{Word, space, number_spelled}
use Rattle.rp_language.proofs.Decimal.{number_of_spelling}
use Rattle.rp_reports.specs.Text.{in_parentheses, point_text, half_space_text, term_text, items_text}
use Rattle.rp_reports.specs.ProofText.{is_separator, is_written_point, is_written_half_space, is_written_multiple, cons_some}
use Rattle.rp_checker_completeness.proofs.LooseWords.{IsLooseWord, number_loose}
use Rattle.rp_command.specs.Held.{most_held}
use Rattle.rp_text.specs.Readers.{Taker, taken_on, ◌>>=◌, gives, gives_some, kept_if, if_short, behind, the_word, short_number, number_at, number_before, four_numbers, point, half_space, term, spaced_item, items, filled, few_items}
use Rattle.rp_text.proofs.NumberWords.{word_is_spelling}

-- a reader reads exactly the texts of the values that fit, whatever stands behind them
pub record ReadsExactly {A : Type 0} (text : A → List ℕ) (fits : A → Bool) (read : Taker A) : Type 0 where
  pub sound : (line : List ℕ) (x : A) (rest : List ℕ) → read line ≡ Some (x, rest) → (line ≡ text x ++ rest) × (fits x ≡ true)
  pub complete : (x : A) (rest : List ℕ) → fits x ≡ true → read (text x ++ rest) ≡ Some (x, rest)

-- ---- steps

-- what was read first, and what was read then
pub record Steps {A B : Type 0} (first : Taker A) (next : A → Taker B) (line : List ℕ) (y : B) (rest : List ℕ) : Type 0 where
  pub value : A
  pub between : List ℕ
  pub before : first line ≡ Some (value, between)
  pub after : next value between ≡ Some (y, rest)

-- the two steps of a reader
pub steps : {A B : Type 0} (first : Taker A) (next : A → Taker B) (line : List ℕ) (y : B) (rest : List ℕ) → (first >>= next) line ≡ Some (y, rest) → Steps first next line y rest
steps {A} {B} first next line y rest e = by (first line) refl e
  where
    by : (o : Option (A × List ℕ)) → first line ≡ o → taken_on next o ≡ Some (y, rest) → Steps first next line y rest
    by None is e = absurd (none_not_some (y, rest) e)
    by (Some r) is e = record { value = r.0; between = r.1; before = is; after = e }

-- the second step, where the first is known
pub onward : {A B : Type 0} (first : Taker A) (next : A → Taker B) (line : List ℕ) (x : A) (between : List ℕ) → first line ≡ Some (x, between) → (first >>= next) line ≡ next x between
onward first next line x between e = ap (taken_on next) e

-- a value that passes its test
pub kept_true : {A : Type 0} (test : Bool) (x : A) → test ≡ true → kept_if test x ≡ Some x
kept_true true x e = refl
kept_true false x e = absurd (cc)

-- what a value leads to
pub record Led {A B : Type 0} (f : A → Option B) (o : Option A) (y : B) : Type 0 where
  pub value : A
  pub found : o ≡ Some value
  pub leads : f value ≡ Some y

-- a value that was led to
pub led : {A B : Type 0} (f : A → Option B) (o : Option A) (y : B) → option_and_then f o ≡ Some y → Led f o y
led f None y e = absurd (none_not_some y e)
led f (Some x) y e = record { value = x; found = refl; leads = e }

-- a value that was made of another
pub made : {A B : Type 0} (f : A → B) (o : Option A) (y : B) → option_map f o ≡ Some y → (x : A) × (o ≡ Some x) × (f x ≡ y)
made f None y e = absurd (none_not_some y e)
made f (Some x) y e = (x, refl, same_some (f x) y e)

-- ---- words

-- what stands behind a word
pub behind_sound : (word line rest : List ℕ) → behind word line ≡ Some rest → line ≡ word ++ rest
behind_sound word line rest e =
    let h = some_if (label_eq (take (length word) line) word) (drop (length word) line) rest e in
    let front : take (length word) line ≡ word = (bytes_eq-Decides (take (length word) line) word).0 h.0 in
    sym (take-append-drop (length word) line) ∙ (λ i. front i ++ h.1 i)

-- a word that was read
pub word_sound : (word line : List ℕ) (x : Unit {0}) (rest : List ℕ) → the_word word line ≡ Some (x, rest) → line ≡ word ++ rest
word_sound word line x rest e =
    let h = made (λ (r : List ℕ). (tt, r)) (behind word line) (x, rest) e in
    behind_sound word line rest (h.1 ∙ ap (λ (r : Unit {0} × List ℕ). Some r.1) h.2)

-- ---- numbers

-- a number below the size at which numbers are held
abbrev pub IsShort : ℤ → Type 0
IsShort v = unsigned_abs v < most_held

-- such a number has at most 64 digits
short_is_small : (v : ℤ) → IsShort v → nat_abs v < 10 ^ 64
short_is_small (pos n) h = omega arith
short_is_small (negsuc n) h = omega arith

-- a short number that a word spells
pub short_sound : (word : Word) (v : ℤ) → short_number word ≡ Some v → (word ≡ signed_decimal v) × IsShort v
short_sound word v e =
    let l = led if_short (number_spelled word) v e in
    let h = some_if (nat_lt (unsigned_abs l.value) most_held) l.value v l.leads in
    let short : IsShort v = subst IsShort h.1 (below (unsigned_abs l.value) h.0) in
    (word_is_spelling word v (l.found ∙ ap Some h.1) (short_is_small v short), short)
  where
    below : (n : ℕ) → nat_lt n most_held ≡ true → n < most_held
    below n e = grind arith

-- the word of a short number
pub short_complete : (v : ℤ) → IsShort v → short_number (signed_decimal v) ≡ Some v
short_complete v h =
    ap (option_and_then if_short) (number_of_spelling v (short_is_small v h))
    ∙ kept_true _ v (passes (unsigned_abs v) h)
  where
    passes : (n : ℕ) → n < most_held → nat_lt n most_held ≡ true
    passes n h = grind arith

-- a number that was read, and the mark that ends it
pub number_sound : (mark : ℕ) (line : List ℕ) (v : ℤ) (rest : List ℕ) → number_before mark line ≡ Some (v, rest) → (line ≡ signed_decimal v ++ (mark ∷ rest)) × IsShort v
unfolding number_before
number_sound mark line v rest e =
    let l = led (number_at line) (position (λ b. b == mark) line) (v, rest) e in
    let m = made (λ (u : ℤ). (u, drop (l.value + 1) line)) (short_number (take l.value line)) (v, rest) l.leads in
    let place = position-Some (λ b. b == mark) line l.value 0 l.found in
    let h = short_sound (take l.value line) v (m.1 ∙ ap (λ (r : ℤ × List ℕ). Some r.0) m.2) in
    let byte : get_or line l.value 0 ≡ mark = same_byte (get_or line l.value 0) mark place.1 in
    let tail : drop (l.value + 1) line ≡ rest = ap (λ (r : ℤ × List ℕ). r.1) m.2 in (
      sym (take-append-drop l.value line)
          ∙ (λ i. h.0 i ++ (drop_more line l.value 0 place.0 ∙ (λ j. byte j ∷ tail j)) i),
      h.1,
    )
  where
    same_byte : (b c : ℕ) → (b == c) ≡ true → b ≡ c
    same_byte b c e = grind arith

-- a byte that is no separator is no mark
other_byte : (b mark : ℕ) → is_separator b ≡ false → is_separator mark ≡ true → (b == mark) ≡ false
other_byte b mark e h = by (b == mark) refl
  where
    same_byte : (b c : ℕ) → (b == c) ≡ true → b ≡ c
    same_byte b c e = grind arith

    by : (test : Bool) → (b == mark) ≡ test → (b == mark) ≡ false
    by false is = is
    by true is = absurd (let same : is_separator b ≡ true = ap is_separator (same_byte b mark is) ∙ h in cc)

-- the first mark stands behind a word without separators
position_behind : (mark : ℕ) → is_separator mark ≡ true → (word rest : List ℕ) (k : ℕ) → AllByRecursion (λ c. is_separator c ≡ false) word → position_from (λ b. b == mark) k (word ++ (mark ∷ rest)) ≡ Some (k + length word)
position_behind mark m [] rest k h = ap (λ (t : Bool). cond t (Some k) (position_from (λ b. b == mark) (k + 1) rest)) (itself mark) ∙ ap Some (omega arith)
  where
    itself : (b : ℕ) → (b == b) ≡ true
    itself b = grind arith
position_behind mark m (c ∷ word) rest k h =
    ap (λ (t : Bool). cond t (Some k) (position_from (λ b. b == mark) (k + 1) (word ++ (mark ∷ rest)))) (other_byte c mark h.0 m)
    ∙ position_behind mark m word rest (k + 1) h.1 ∙ ap Some (omega arith)

-- all bytes of a word without separators
all_loose : (word : Word) → IsLooseWord word → AllByRecursion (λ c. is_separator c ≡ false) word
all_loose [] h = absurd h
all_loose (c ∷ word) h = h

-- a short number before a mark is read
pub number_complete : (mark : ℕ) → is_separator mark ≡ true → (v : ℤ) (rest : List ℕ) → IsShort v → number_before mark (signed_decimal v ++ (mark ∷ rest)) ≡ Some (v, rest)
unfolding number_before
number_complete mark m v rest h =
    let word : List ℕ = signed_decimal v in
    let line : List ℕ = word ++ (mark ∷ rest) in
    let place : position (λ b. b == mark) line ≡ Some (length word) =
    position_from-zero (λ b. b == mark) line ∙ position_behind mark m word rest 0 (all_loose word (number_loose v (short_is_small v h))) ∙ ap Some (omega arith) in
    let front : take (length word) line ≡ word = take_at word (mark ∷ rest) (length word) refl in
    let tail : drop (length word + 1) line ≡ rest = sym (drop-drop 1 (length word) line) ∙ ap (drop 1) (drop_at word (mark ∷ rest) (length word) refl) in
    ap (option_and_then (number_at line)) place
    ∙ ap (option_map (λ (u : ℤ). (u, drop (length word + 1) line))) (ap short_number front ∙ short_complete v h)
    ∙ ap (λ (r : List ℕ). Some (v, r)) tail

-- ---- four numbers

-- the words of four numbers
abbrev pub four_words : ℤ × ℤ × ℤ × ℤ → List Word
four_words q = signed_decimal q.0 ∷ signed_decimal q.1 ∷ signed_decimal q.2 ∷ signed_decimal q.3 ∷ []

-- four short numbers
pub record AreShort (q : ℤ × ℤ × ℤ × ℤ) : Type 0 where
  pub first : IsShort q.0
  pub second : IsShort q.1
  pub third : IsShort q.2
  pub fourth : IsShort q.3

-- four words in parentheses, from the front
four_text : (a b c d rest : List ℕ) → in_parentheses (a ∷ b ∷ c ∷ d ∷ []) ++ rest ≡ 40 ∷ (a ++ (space ∷ (b ++ (space ∷ (c ++ (space ∷ (d ++ (41 ∷ rest))))))))
four_text a b c d rest = simp append_assoc refl

-- what is read behind three numbers
abbrev last_of : ℤ → ℤ → ℤ → Taker (ℤ × ℤ × ℤ × ℤ)
last_of x y z = number_before 41 >>= λ w. gives (x, y, z, w)

-- what is read behind two numbers
abbrev third_of : ℤ → ℤ → Taker (ℤ × ℤ × ℤ × ℤ)
third_of x y = number_before space >>= last_of x y

-- what is read behind one number
abbrev second_of : ℤ → Taker (ℤ × ℤ × ℤ × ℤ)
second_of x = number_before space >>= third_of x

-- what is read behind the bracket
abbrev first_of_four : Unit {0} → Taker (ℤ × ℤ × ℤ × ℤ)
first_of_four u = number_before space >>= second_of

-- four numbers that were read
pub four_sound : (line : List ℕ) (q : ℤ × ℤ × ℤ × ℤ) (rest : List ℕ) → four_numbers line ≡ Some (q, rest) → (line ≡ in_parentheses (four_words q) ++ rest) × AreShort q
unfolding four_numbers
four_sound line q rest e =
    let a = steps (the_word (codes "(")) first_of_four line q rest e in
    let x = steps (number_before space) second_of a.between q rest a.after in
    let y = steps (number_before space) (third_of x.value) x.between q rest x.after in
    let z = steps (number_before space) (last_of x.value y.value) y.between q rest y.after in
    let w = steps (number_before 41) (λ (w : ℤ). gives (x.value, y.value, z.value, w)) z.between q rest z.after in
    let same : ((x.value, y.value, z.value, w.value), w.between) ≡ (q, rest) = same_some ((x.value, y.value, z.value, w.value), w.between) (q, rest) w.after in
    let i = number_sound space a.between x.value x.between x.before in
    let j = number_sound space x.between y.value y.between y.before in
    let k = number_sound space y.between z.value z.between z.before in
    let l = number_sound 41 z.between w.value w.between w.before in (
      word_sound (codes "(") line a.value a.between a.before
          ∙ ap (λ (t : List ℕ). 40 ∷ t) (i.0 ∙ ap (λ (t : List ℕ). signed_decimal x.value ++ (space ∷ t)) (j.0 ∙ ap (λ (t : List ℕ). signed_decimal y.value ++ (space ∷ t)) (k.0 ∙ ap (λ (t : List ℕ). signed_decimal z.value ++ (space ∷ t)) l.0)))
          ∙ sym (four_text (signed_decimal x.value) (signed_decimal y.value) (signed_decimal z.value) (signed_decimal w.value) w.between)
          ∙ ap (λ (r : (ℤ × ℤ × ℤ × ℤ) × List ℕ). in_parentheses (four_words r.0) ++ r.1) same,
      subst AreShort (ap (λ (r : (ℤ × ℤ × ℤ × ℤ) × List ℕ). r.0) same) (record { first = i.1; second = j.1; third = k.1; fourth = l.1 }),
    )

-- four short numbers in parentheses are read
pub four_complete : (q : ℤ × ℤ × ℤ × ℤ) (rest : List ℕ) → AreShort q → four_numbers (in_parentheses (four_words q) ++ rest) ≡ Some (q, rest)
unfolding four_numbers
four_complete q rest h =
    let last : List ℕ = signed_decimal q.3 ++ (41 ∷ rest) in
    let third : List ℕ = signed_decimal q.2 ++ (space ∷ last) in
    let second : List ℕ = signed_decimal q.1 ++ (space ∷ third) in
    let first : List ℕ = signed_decimal q.0 ++ (space ∷ second) in
    ap four_numbers (four_text (signed_decimal q.0) (signed_decimal q.1) (signed_decimal q.2) (signed_decimal q.3) rest)
    ∙ onward (the_word (codes "(")) first_of_four (40 ∷ first) tt first refl
    ∙ onward (number_before space) second_of first q.0 second (number_complete space refl q.0 second h.first)
    ∙ onward (number_before space) (third_of q.0) second q.1 third (number_complete space refl q.1 third h.second)
    ∙ onward (number_before space) (last_of q.0 q.1) third q.2 last (number_complete space refl q.2 last h.third)
    ∙ onward (number_before 41) (λ (w : ℤ). gives (q.0, q.1, q.2, w)) last q.3 rest (number_complete 41 refl q.3 rest h.fourth)

-- ---- points and half-spaces

-- a number within a bound is short
pub within_short : (n : ℕ) → n < most_held → (v : ℤ) → is_within_bound (pos n) v ≡ true → IsShort v
within_short n small v e = short_from v (size_within n v e)
  where
    short_from : (v : ℤ) → nat_abs v ≤ n → IsShort v
    short_from (pos m) le = omega arith
    short_from (negsuc m) le = omega arith

-- a number from 1 to a bound is short
between_short : (n : ℕ) → n < most_held → (v : ℤ) → (int_le (pos 1) v && int_le v (pos n)) ≡ true → IsShort v
between_short n small v e = within_short n small v (within v e)
  where
    within : (v : ℤ) → (int_le (pos 1) v && int_le v (pos n)) ≡ true → is_within_bound (pos n) v ≡ true
    within v e = grind (arith, ints)

-- the numbers of a point that may be written are short
point_short : (p : RationalPoint) → is_written_point p ≡ true → AreShort (p.x, p.y, p.z, p.w)
point_short p e =
    let both = and_first _ _ e in
    let bounds = and_first _ (int_le (pos 1) p.w) both in
    let above = and_second (is_point_in_bounds p) (int_le (pos 1) p.w) both in
    let below = and_second _ (int_le p.w weight_bound) bounds in
    let xyz = and_first _ _ bounds in
    let xy = and_first _ _ xyz in
    record {
      first = within_short 2535301200456458802993406410751 (omega arith) p.x (and_first _ _ xy);
      second = within_short 2535301200456458802993406410751 (omega arith) p.y (and_second _ _ xy);
      third = within_short 2535301200456458802993406410751 (omega arith) p.z (and_second _ _ xyz);
      fourth = between_short 37778931862957161709567 (omega arith) p.w (and_true (int_le (pos 1) p.w) (int_le p.w weight_bound) above below);
    }

-- the numbers of a half-space that may be written are short
half_space_short : (h : HalfSpace) → is_written_half_space h ≡ true → AreShort (h.a, h.b, h.c, h.d)
half_space_short h e =
    let bounds = and_first (is_half_space_in_bounds h) _ (and_first _ _ e) in
    let abc = and_first _ _ bounds in
    let ab = and_first _ _ abc in
    record {
      first = within_short 16777216 (omega arith) h.a (and_first _ _ ab);
      second = within_short 16777216 (omega arith) h.b (and_second _ _ ab);
      third = within_short 16777216 (omega arith) h.c (and_second _ _ abc);
      fourth = within_short 844424930131968 (omega arith) h.d (and_second _ _ bounds);
    }

-- a reader of four numbers that make something that may be written
reads_four : {A : Type 0} (text : A → List ℕ) (fits : A → Bool) (of : ℤ × ℤ × ℤ × ℤ → A) (numbers : A → ℤ × ℤ × ℤ × ℤ)
    → ((q : ℤ × ℤ × ℤ × ℤ) → text (of q) ≡ in_parentheses (four_words q)) → ((x : A) → of (numbers x) ≡ x) → ((x : A) → fits x ≡ true → AreShort (numbers x))
    → ReadsExactly text fits (four_numbers >>= λ q. gives_some (kept_if (fits (of q)) (of q)))
reads_four {A} text fits of numbers text_is back short = record {
  sound = λ line x rest e.
      let s = steps four_numbers next line x rest e in
      let h = made (λ (y : A). (y, s.between)) (kept_if (fits (of s.value)) (of s.value)) (x, rest) s.after in
      let k = some_if (fits (of s.value)) (of s.value) h.0 h.1 in
      let is : of s.value ≡ x = k.1 ∙ ap (λ (r : A × List ℕ). r.0) h.2 in
      let behind_it : s.between ≡ rest = ap (λ (r : A × List ℕ). r.1) h.2 in (
        (four_sound line s.value s.between s.before).0 ∙ (λ i. (sym (text_is s.value) ∙ ap text is) i ++ behind_it i),
        subst (λ (y : A). fits y ≡ true) is k.0,
      );
  complete = λ x rest e.
      let q : ℤ × ℤ × ℤ × ℤ = numbers x in
      let same : in_parentheses (four_words q) ≡ text x = sym (text_is q) ∙ ap text (back x) in
      ap (λ (l : List ℕ). (four_numbers >>= next) (l ++ rest)) (sym same)
      ∙ onward four_numbers next (in_parentheses (four_words q) ++ rest) q rest (four_complete q rest (short x e))
      ∙ ap (λ (y : A). gives_some (kept_if (fits y) y) rest) (back x)
      ∙ ap (λ (o : Option A). gives_some o rest) (kept_true (fits x) x e);
}
  where
    next : ℤ × ℤ × ℤ × ℤ → Taker A
    next q = gives_some (kept_if (fits (of q)) (of q))

-- points are read
pub point_reads : ReadsExactly point_text is_written_point point
unfolding point
point_reads = reads_four point_text is_written_point (λ (q : ℤ × ℤ × ℤ × ℤ). point_of q.0 q.1 q.2 q.3) (λ (p : RationalPoint). (p.x, p.y, p.z, p.w)) (λ q. refl) (λ p. refl) point_short

-- half-spaces are read
pub half_space_reads : ReadsExactly half_space_text is_written_half_space half_space
unfolding half_space
half_space_reads = reads_four half_space_text is_written_half_space (λ (q : ℤ × ℤ × ℤ × ℤ). half_space_of q.0 q.1 q.2 q.3) (λ (h : HalfSpace). (h.a, h.b, h.c, h.d)) (λ q. refl) (λ h. refl) half_space_short

-- ---- multiples

-- what is read behind a multiplier
abbrev behind_factor : ℤ → Taker Multiple
behind_factor t = half_space >>= λ h. gives_some (kept_if (is_multiplier t) (multiple_of t h))

-- multiples are read
pub term_reads : ReadsExactly term_text is_written_multiple term
unfolding term
term_reads = record {
  sound = λ line x rest e.
      let s = steps (number_before 42) behind_factor line x rest e in
      let u = steps half_space (λ (h : HalfSpace). gives_some (kept_if (is_multiplier s.value) (multiple_of s.value h))) s.between x rest s.after in
      let h = made (λ (y : Multiple). (y, u.between)) (kept_if (is_multiplier s.value) (multiple_of s.value u.value)) (x, rest) u.after in
      let k = some_if (is_multiplier s.value) (multiple_of s.value u.value) h.0 h.1 in
      let is : multiple_of s.value u.value ≡ x = k.1 ∙ ap (λ (r : Multiple × List ℕ). r.0) h.2 in
      let behind_it : u.between ≡ rest = ap (λ (r : Multiple × List ℕ). r.1) h.2 in
      let half = half_space_reads.sound s.between u.value u.between u.before in
      let front = number_sound 42 line s.value s.between s.before in (
        front.0 ∙ ap (λ (t : List ℕ). signed_decimal s.value ++ (42 ∷ t)) half.0
            ∙ sym (term_front s.value u.value u.between) ∙ (λ i. term_text (is i) ++ behind_it i),
        subst (λ (y : Multiple). is_written_multiple y ≡ true) is (and_true (is_multiplier s.value) (is_written_half_space u.value) k.0 half.1),
      );
  complete = λ x rest e.
      let factor = and_first (is_multiplier x.factor) (is_written_half_space x.of) e in
      let half = and_second (is_multiplier x.factor) (is_written_half_space x.of) e in
      let tail : List ℕ = half_space_text x.of ++ rest in
      ap (number_before 42 >>= behind_factor) (term_front x.factor x.of rest)
      ∙ onward (number_before 42) behind_factor (signed_decimal x.factor ++ (42 ∷ tail)) x.factor tail (number_complete 42 refl x.factor tail (between_short 37778931862957161709567 (omega arith) x.factor factor))
      ∙ onward half_space (λ (h : HalfSpace). gives_some (kept_if (is_multiplier x.factor) (multiple_of x.factor h))) tail x.of rest (half_space_reads.complete x.of rest half)
      ∙ ap (λ (o : Option Multiple). gives_some o rest) (kept_true (is_multiplier x.factor) x factor);
}
  where
    term_front : (t : ℤ) (h : HalfSpace) (rest : List ℕ) → term_text (multiple_of t h) ++ rest ≡ signed_decimal t ++ (42 ∷ (half_space_text h ++ rest))
    term_front t h rest = append_assoc (signed_decimal t ++ codes "*") (half_space_text h) rest ∙ append_assoc (signed_decimal t) (codes "*") (half_space_text h ++ rest)

-- ---- several things

-- a thing behind a space
pub spaced_reads : {A : Type 0} (text : A → List ℕ) (fits : A → Bool) (item : Taker A) → ReadsExactly text fits item → ReadsExactly (λ x. space ∷ text x) fits (spaced_item item)
spaced_reads text fits item r = record {
  sound = λ line x rest e.
      let s = steps (the_word (codes " ")) (λ (u : Unit {0}). item) line x rest e in
      let h = r.sound s.between x rest s.after in
      (word_sound (codes " ") line s.value s.between s.before ∙ ap (λ (t : List ℕ). space ∷ t) h.0, h.1);
  complete = λ x rest e. onward (the_word (codes " ")) (λ (u : Unit {0}). item) (space ∷ (text x ++ rest)) tt (text x ++ rest) refl ∙ r.complete x rest e;
}

-- things that were read: the text is theirs, all fit, and there is room for them
pub record AreItems {A : Type 0} (text : A → List ℕ) (fits : A → Bool) (room : ℕ) (line : List ℕ) (xs : List A) : Type 0 where
  pub text_is : line ≡ items_text text xs
  pub all_fit : list_all fits xs ≡ true
  pub room_for : length xs ≤ room

-- one more thing
cons_sound : {A : Type 0} (x : A) (o : Option (List A)) (ys : List A) → cons_some (Some x) o ≡ Some ys → (xs : List A) × (o ≡ Some xs) × (x ∷ xs ≡ ys)
cons_sound x None ys e = absurd (none_not_some ys e)
cons_sound x (Some xs) ys e = (xs, refl, same_some (x ∷ xs) ys e)

-- things that were read
pub items_sound : {A : Type 0} (text : A → List ℕ) (fits : A → Bool) (item : Taker A) → ReadsExactly text fits item → (room : ℕ) (line : List ℕ) (xs : List A) → items item room line ≡ Some xs → AreItems text fits room line xs
unfolding items
items_sound text fits item r zero [] xs e = subst (AreItems text fits 0 []) (same_some [] xs e) (record { text_is = refl; all_fit = refl; room_for = omega arith })
items_sound text fits item r zero (b ∷ bs) xs e = absurd (none_not_some xs e)
items_sound text fits item r (suc room) [] xs e = subst (AreItems text fits (suc room) []) (same_some [] xs e) (record { text_is = refl; all_fit = refl; room_for = omega arith })
items_sound {A} text fits item r (suc room) (b ∷ bs) xs e =
    let l = led (λ (s : A × List ℕ). cons_some (Some s.0) (items item room s.1)) (spaced_item item (b ∷ bs)) xs e in
    let c = cons_sound l.value.0 (items item room l.value.1) xs l.leads in
    let first = (spaced_reads text fits item r).sound (b ∷ bs) l.value.0 l.value.1 l.found in
    let others = items_sound text fits item r room l.value.1 c.0 c.1 in
    let few = others.room_for in
    subst (AreItems text fits (suc room) (b ∷ bs)) c.2 (record {
      text_is = first.0 ∙ ap (λ (t : List ℕ). (space ∷ text l.value.0) ++ t) others.text_is;
      all_fit = and_true (fits l.value.0) (list_all fits c.0) first.1 others.all_fit;
      room_for = omega arith;
    })

-- things that fit, and for which there is room, are read
pub items_complete : {A : Type 0} (text : A → List ℕ) (fits : A → Bool) (item : Taker A) → ReadsExactly text fits item → (room : ℕ) (xs : List A) → list_all fits xs ≡ true → length xs ≤ room → items item room (items_text text xs) ≡ Some xs
unfolding items
items_complete text fits item r zero [] all few = refl
items_complete text fits item r zero (x ∷ xs) all few = absurd (omega arith)
items_complete text fits item r (suc room) [] all few = refl
items_complete {A} text fits item r (suc room) (x ∷ xs) all few =
    ap (option_and_then (λ (s : A × List ℕ). cons_some (Some s.0) (items item room s.1))) ((spaced_reads text fits item r).complete x (items_text text xs) (and_first (fits x) (list_all fits xs) all))
    ∙ ap (cons_some (Some x)) (items_complete text fits item r room xs (and_second (fits x) (list_all fits xs) all) (omega arith))

-- one to four things that were read
pub few_sound : {A : Type 0} (text : A → List ℕ) (fits : A → Bool) (item : Taker A) → ReadsExactly text fits item → (line : List ℕ) (xs : List A) → few_items item line ≡ Some xs → (line ≡ items_text text xs) × ((is_one_to_four (length xs) && list_all fits xs) ≡ true)
few_sound {A} text fits item r line xs e = by (items item 4 line) refl e
  where
    counted : (n : ℕ) → suc n ≤ 4 → is_one_to_four (suc n) ≡ true
    counted n h = grind arith

    by : (o : Option (List A)) → items item 4 line ≡ o → filled o ≡ Some xs → (line ≡ items_text text xs) × ((is_one_to_four (length xs) && list_all fits xs) ≡ true)
    by None is e = absurd (none_not_some xs e)
    by (Some []) is e = absurd (none_not_some xs e)
    by (Some (y ∷ ys)) is e =
        let same = same_some (y ∷ ys) xs e in
        let h = items_sound text fits item r 4 line xs (is ∙ ap Some same) in
        let few : suc (length ys) ≤ 4 = subst (λ (n : ℕ). n ≤ 4) (sym (ap length same)) h.room_for in
        (h.text_is, and_true (is_one_to_four (length xs)) (list_all fits xs) (ap (λ (l : List A). is_one_to_four (length l)) (sym same) ∙ counted (length ys) few) h.all_fit)

-- one to four things that fit are read
pub few_complete : {A : Type 0} (text : A → List ℕ) (fits : A → Bool) (item : Taker A) → ReadsExactly text fits item → (xs : List A) → (is_one_to_four (length xs) && list_all fits xs) ≡ true → few_items item (items_text text xs) ≡ Some xs
few_complete text fits item r [] e = absurd (cc)
few_complete text fits item r (x ∷ xs) e =
    ap filled (items_complete text fits item r 4 (x ∷ xs) (and_second (is_one_to_four (suc (length xs))) (list_all fits (x ∷ xs)) e) (counted (length xs) (and_first (is_one_to_four (suc (length xs))) (list_all fits (x ∷ xs)) e)))
  where
    counted : (n : ℕ) → is_one_to_four (suc n) ≡ true → suc n ≤ 4
    counted n e = grind arith
