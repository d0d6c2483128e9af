-- Readers of proof lines and echoes: the value at the front of a text, and the text after it.
use Rattle.std.specs.Prelude.{ℕ, zero, suc, ◌+◌, Bool, true, false, ◌==◌, nat_lt, ℤ, unsigned_abs, List, [], ◌∷◌, ◌++◌, length, take, drop, Option, Some, None, codes, option_map, option_and_then}
use Rattle.std.specs.List.{position}
use denote.Ref.{Bor}
use Rattle.rp_geometry.specs.Geometry.{RationalPoint, HalfSpace, IntegerBox, point_of, half_space_of, is_within_bound, cube_bound}
use Rattle.rp_geometry.specs.searches.Certificate.{Multiple, is_multiplier}
use Rattle.rp_geometry.specs.searches.Elimination.{multiple_of}
use Rattle.rp_geometry.specs.searches.ProofLine.{ProofLine, in_line, out_line, at_line, apart_line, drop_line, box_line}
use Rattle.rp_language.specs.Name.{label_eq}
use Rattle.rp_language.specs.Grammar.{Word, number_spelled, space}
use Rattle.rp_reports.specs.ProofText.{is_written_half_space, is_written_point, cons_some, Echo}
use Rattle.rp_command.specs.Held.{most_held}

-- reads a value from the front of a text; none if the text does not begin with a spelling of one
abbrev pub Taker : Type 0 → Type 0
Taker A = List ℕ → Option (A × List ℕ)

-- the result of the next reader after a first value
abbrev pub taken_on : {A B : Type 0} → (A → Taker B) → Option (A × List ℕ) → Option (B × List ℕ)
taken_on next None = None
taken_on next (Some r) = next r.0 r.1

infixl 10 ◌>>=◌
-- one reader and then the next, which depends on the first value
abbrev pub ◌>>=◌ : {A B : Type 0} → Taker A → (A → Taker B) → Taker B
(first >>= next) line = taken_on next (first line)

-- reads nothing and returns the value
abbrev pub gives : {A : Type 0} → A → Taker A
gives x line = Some (x, line)

-- reads nothing and returns the value, if there is one
abbrev pub gives_some : {A : Type 0} → Option A → Taker A
gives_some o line = option_map (λ x. (x, line)) o

-- the value, if the test is true
abbrev pub kept_if : {A : Type 0} → Bool → A → Option A
kept_if test x = elim test [ true ↦ Some x | false ↦ None ]

-- the value that was read, if no text follows it
abbrev pub ended : {A : Type 0} → Option (A × List ℕ) → Option A
ended None = None
ended (Some r) = elim r.1 [ [] ↦ Some r.0 | b ∷ bs ↦ None ]

-- a value that was read and the text after it, as the code has them
abbrev pub front : {A : Type 0} → A × Bor (List ℕ) → A × List ℕ
front r = (r.0, r.1.now)

-- ---- words and numbers

-- the text after a word; none if the text does not begin with the word
abbrev pub behind : Word → List ℕ → Option (List ℕ)
behind word line = kept_if (label_eq (take (length word) line) word) (drop (length word) line)

-- reads a word
abbrev pub the_word : Word → Taker (Unit {0})
the_word word line = option_map (λ rest. (tt, rest)) (behind word line)

-- the number, if its size is below 2 ^ 120
abbrev pub if_short : ℤ → Option ℤ
if_short v = kept_if (nat_lt (unsigned_abs v) most_held) v

-- the number that a word spells, if its size is below 2 ^ 120
abbrev pub short_number : Word → Option ℤ
short_number word = option_and_then if_short (number_spelled word)

-- the number before a place, and the text after the place
abbrev pub number_at : List ℕ → ℕ → Option (ℤ × List ℕ)
number_at line i = option_map (λ v. (v, drop (i + 1) line)) (short_number (take i line))

-- reads a number and the mark after it
unfoldable pub number_before : ℕ → Taker ℤ
number_before mark line = option_and_then (number_at line) (position (λ b. b == mark) line)

-- reads four numbers in parentheses, with one space between each two
unfoldable pub four_numbers : Taker (ℤ × ℤ × ℤ × ℤ)
four_numbers = the_word (codes "(") >>= λ _. number_before space >>= λ x. number_before space >>= λ y. number_before space >>= λ z. number_before 41 >>= λ w. gives (x, y, z, w)

-- ---- points, half-spaces and multiples

-- the point, if it is in lowest terms and within its bounds
abbrev pub written_point : RationalPoint → Option RationalPoint
written_point p = kept_if (is_written_point p) p

-- the half-space, if it is in lowest terms and within its bounds
abbrev pub written_half_space : HalfSpace → Option HalfSpace
written_half_space h = kept_if (is_written_half_space h) h

-- reads a point in lowest terms and within its bounds
unfoldable pub point : Taker RationalPoint
point = four_numbers >>= λ q. gives_some (written_point (point_of q.0 q.1 q.2 q.3))

-- reads a half-space in lowest terms and within its bounds
unfoldable pub half_space : Taker HalfSpace
half_space = four_numbers >>= λ q. gives_some (written_half_space (half_space_of q.0 q.1 q.2 q.3))

-- reads a multiple of a half-space within its bounds
unfoldable pub term : Taker Multiple
term = number_before 42 >>= λ t. half_space >>= λ h. gives_some (kept_if (is_multiplier t) (multiple_of t h))

-- ---- several items

-- reads a space and an item
abbrev pub spaced_item : {A : Type 0} → Taker A → Taker A
spaced_item item = the_word (codes " ") >>= λ _. item

-- the items so far with one more, and the text after it
abbrev pub with_one_more : {A : Type 0} → List A → A × List ℕ → List A × List ℕ
with_one_more xs r = (xs ++ r.0 ∷ [], r.1)

-- reads at most a number of items, each after a space, up to the end of the text
unfoldable pub items : {A : Type 0} → Taker A → ℕ → List ℕ → Option (List A)
items item zero [] = Some []
items item zero (b ∷ bs) = None
items item (suc room) [] = Some []
items item (suc room) (b ∷ bs) = option_and_then (λ r. cons_some (Some r.0) (items item room r.1)) (spaced_item item (b ∷ bs))

-- the list, if it has an item
abbrev pub filled : {A : Type 0} → Option (List A) → Option (List A)
filled None = None
filled (Some xs) = elim xs [ [] ↦ None | x ∷ xs ↦ Some (x ∷ xs) ]

-- reads one to four items, each after a space, up to the end of the text
abbrev pub few_items : {A : Type 0} → Taker A → List ℕ → Option (List A)
few_items item line = filled (items item 4 line)

-- reads a half-space and one to four multiples after it, up to the end of the text
unfoldable pub dropped : List ℕ → Option ProofLine
dropped line = option_and_then (λ r. option_map (drop_line r.0) (few_items term r.1)) (half_space line)

-- ---- boxes

-- the number of a box, if it is within its bounds
abbrev pub side_of : ℤ → Option ℤ
side_of v = kept_if (is_within_bound cube_bound v) v

-- reads a number of a box and the space after it
unfoldable pub side : Taker ℤ
side = number_before space >>= λ v. gives_some (side_of v)

-- reads the last number of a box, up to the end of the text
unfoldable pub last_side : List ℕ → Option ℤ
last_side line = option_and_then side_of (short_number line)

-- the box of six numbers
abbrev pub box_of : ℤ → ℤ → ℤ → ℤ → ℤ → ℤ → IntegerBox
box_of x1 y1 z1 x2 y2 z2 = record { x1 = x1; y1 = y1; z1 = z1; x2 = x2; y2 = y2; z2 = z2 }

-- reads the first five numbers of a box, each with the space after it
abbrev pub all_but_last : Taker (ℤ → IntegerBox)
all_but_last = side >>= λ x1. side >>= λ y1. side >>= λ z1. side >>= λ x2. side >>= λ y2. gives (box_of x1 y1 z1 x2 y2)

-- reads a box, up to the end of the text
unfoldable pub box_spelled : List ℕ → Option IntegerBox
box_spelled line = option_and_then (λ r. option_map r.0 (last_side r.1)) (all_but_last line)

-- ---- proof lines

-- the reading of the text after a word; if the text does not begin with the word, the other result
abbrev pub behind_or : {A : Type 0} → Word → List ℕ → (List ℕ → Option A) → Option A → Option A
behind_or word line read other = elim (behind word line) [ Some rest ↦ read rest | None ↦ other ]

-- reads a proof line, by the word that begins it
unfoldable pub proof : List ℕ → Option ProofLine
proof line =
    behind_or (codes "  in") line (λ rest. option_map in_line (few_items point rest))
    (behind_or (codes "  out") line (λ rest. option_map out_line (few_items term rest))
    (behind_or (codes "  at ") line (λ rest. option_map at_line (ended (point rest)))
    (behind_or (codes "  apart") line (λ rest. option_map apart_line (few_items term rest))
    (behind_or (codes "  drop ") line dropped
    (behind_or (codes "  box ") line (λ rest. option_map box_line (box_spelled rest)) None)))))

-- ---- echoes

-- an echo, from its number and the index in the line at which its text begins
abbrev pub echo_of : List ℕ → ℕ × Option ℕ → Echo
echo_of line r = record { number = r.0; text = option_map (λ place. drop place line) r.1 }
