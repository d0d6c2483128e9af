-- Reading a proof line and an echo: a line is read iff it has the one spelling.
use Rattle.std.specs.Prelude.{ℕ, Bool, true, false, ◌&&◌, ◌||◌, not, ◌==◌, nat_le, ℤ, pos, int_le, List, [], ◌∷◌, length, take, drop, Option, Some, None, codes, filter, option_and_then}
use Rattle.std.specs.List.{list_all, slice_split}
use Rattle.rp_geometry.specs.Geometry.{RationalPoint, HalfSpace, half_space_of, point_of, point_eq, half_space_eq, is_half_space_in_bounds, is_zero_half_space, is_point_in_bounds, is_box_in_bounds, reduced_half_space, reduced_point}
use Rattle.rp_geometry.specs.searches.Certificate.{Multiple, is_multiplier, is_one_to_four}
use Rattle.rp_geometry.specs.searches.Elimination.{multiple_of}
use Rattle.rp_geometry.specs.searches.ProofLine.{ProofLine, in_line, out_line, at_line, apart_line, drop_line, box_line}
use Rattle.rp_language.specs.Name.{label_eq}
use Rattle.rp_language.specs.Grammar.{Word, number_spelled, natural_spelled, space}
use Rattle.rp_reports.specs.Text.{proof_text}

-- ---- the values in a proof line

-- a half-space within its bounds and in lowest terms
abbrev pub is_written_half_space : HalfSpace → Bool
is_written_half_space h = is_half_space_in_bounds h && not (is_zero_half_space h) && half_space_eq (reduced_half_space h) h

-- a point within its bounds and in lowest terms
abbrev pub is_written_point : RationalPoint → Bool
is_written_point p = is_point_in_bounds p && int_le (pos 1) p.w && point_eq (reduced_point p) p

-- a multiple of a half-space within its bounds
abbrev pub is_written_multiple : Multiple → Bool
is_written_multiple t = is_multiplier t.factor && is_written_half_space t.of

-- one to four multiples within their bounds
abbrev pub are_written_terms : List Multiple → Bool
are_written_terms terms = is_one_to_four (length terms) && list_all is_written_multiple terms

-- a proof line whose values are within their bounds
unfoldable pub is_written : ProofLine → Bool
is_written (in_line points) = is_one_to_four (length points) && list_all is_written_point points
is_written (out_line terms) = are_written_terms terms
is_written (at_line p) = is_written_point p
is_written (apart_line terms) = are_written_terms terms
is_written (drop_line h terms) = is_written_half_space h && are_written_terms terms
is_written (box_line b) = is_box_in_bounds b

-- ---- reading

-- a byte that separates words in a first, loose reading: a space, a parenthesis or an asterisk; the exact spelling is compared afterwards
abbrev pub is_separator : ℕ → Bool
is_separator b = b == space || b == 40 || b == 41 || b == 42

-- the word has at least one byte
abbrev pub is_filled : Word → Bool
is_filled word = nat_le 1 (length word)

-- the words of a line, without separators
abbrev pub loose_words : List ℕ → List Word
loose_words line = filter is_filled (slice_split is_separator line)

-- the list with one more item, if both are there
abbrev pub cons_some : {A : Type 0} → Option A → Option (List A) → Option (List A)
cons_some None o = None
cons_some (Some x) None = None
cons_some (Some x) (Some xs) = Some (x ∷ xs)

-- the numbers that words spell; none if a word spells no number
abbrev pub numbers_spelled : List Word → Option (List ℤ)
numbers_spelled [] = Some []
numbers_spelled (word ∷ words) = cons_some (number_spelled word) (numbers_spelled words)

-- the points of groups of four numbers; none if the numbers do not divide
abbrev pub points_of_numbers : List ℤ → Option (List RationalPoint)
points_of_numbers [] = Some []
points_of_numbers (x ∷ y ∷ z ∷ w ∷ vs) = cons_some (Some (point_of x y z w)) (points_of_numbers vs)
points_of_numbers _ = None

-- the multiples of groups of five numbers; none if the numbers do not divide
abbrev pub terms_of_numbers : List ℤ → Option (List Multiple)
terms_of_numbers [] = Some []
terms_of_numbers (t ∷ a ∷ b ∷ c ∷ d ∷ vs) = cons_some (Some (multiple_of t (half_space_of a b c d))) (terms_of_numbers vs)
terms_of_numbers _ = None

-- the value of a function at x, if there is an x
abbrev pub map_some : {A B : Type 0} → (A → B) → Option A → Option B
map_some f None = None
map_some f (Some x) = Some (f x)

-- the proof line of one point, from four numbers
abbrev pub at_of_numbers : (RationalPoint → ProofLine) → List ℤ → Option ProofLine
at_of_numbers f (x ∷ y ∷ z ∷ w ∷ []) = Some (f (point_of x y z w))
at_of_numbers f _ = None

-- the proof line of a dropped half-space, from four numbers and five for each multiple
abbrev pub drop_of_numbers : List ℤ → Option ProofLine
drop_of_numbers (a ∷ b ∷ c ∷ d ∷ vs) = map_some (drop_line (half_space_of a b c d)) (terms_of_numbers vs)
drop_of_numbers _ = None

-- the proof line of a box, from six numbers
abbrev pub box_of_numbers : List ℤ → Option ProofLine
box_of_numbers (x1 ∷ y1 ∷ z1 ∷ x2 ∷ y2 ∷ z2 ∷ []) = Some (box_line (record { x1 = x1; y1 = y1; z1 = z1; x2 = x2; y2 = y2; z2 = z2 }))
box_of_numbers _ = None

-- the proof line of a word and the numbers after it
abbrev pub read_kind : Word → List ℤ → Option ProofLine
read_kind kind vs =
    elim (label_eq kind (codes "in")) [
      | true ↦ map_some in_line (points_of_numbers vs)
      | false ↦ elim (label_eq kind (codes "out")) [
        | true ↦ map_some out_line (terms_of_numbers vs)
        | false ↦ elim (label_eq kind (codes "at")) [
          | true ↦ at_of_numbers at_line vs
          | false ↦ elim (label_eq kind (codes "apart")) [
            | true ↦ map_some apart_line (terms_of_numbers vs)
            | false ↦ elim (label_eq kind (codes "drop")) [
              | true ↦ drop_of_numbers vs
              | false ↦ elim (label_eq kind (codes "box")) [ true ↦ box_of_numbers vs | false ↦ None ]
            ]
          ]
        ]
      ]
    ]

-- the proof line of loose words
abbrev pub read_words : List Word → Option ProofLine
read_words [] = None
read_words (kind ∷ words) = option_and_then (read_kind kind) (numbers_spelled words)

-- the proof line, if its values are within their bounds and its text is exactly the line
abbrev pub if_spelled : List ℕ → ProofLine → Option ProofLine
if_spelled line proof = elim (is_written proof && label_eq (proof_text proof) line) [ true ↦ Some proof | false ↦ None ]

-- the proof line that a report line spells; none if it spells none
unfoldable pub proof_read : List ℕ → Option ProofLine
proof_read line = option_and_then (if_spelled line) (read_words (loose_words line))

-- ---- echo lines

-- the number of a line, from 1 to 16777216, that a word spells
abbrev pub line_number : Word → Option ℕ
line_number word = option_and_then (λ n. elim (nat_le 1 n && nat_le n 16777216) [ true ↦ Some n | false ↦ None ]) (natural_spelled word)

-- the bytes before the first space, and those after it if there is a space
pub record Split : Type 0 where
  pub word : Word
  pub rest : Option (List ℕ)

-- splits bytes at the first space
abbrev pub split_at_space : List ℕ → Split
split_at_space [] = record { word = []; rest = None }
split_at_space (b ∷ bs) =
    let later = split_at_space bs in
    elim (b == space) [ true ↦ record { word = []; rest = Some bs } | false ↦ record { word = b ∷ later.word; rest = later.rest } ]

-- an echo: the number, and the text if there is one
pub record Echo : Type 0 where
  pub number : ℕ
  pub text : Option (List ℕ)

-- the echo of the text after its mark: a number, and a text if there is a space
abbrev pub echo_after_mark : Split → Option Echo
echo_after_mark s = option_and_then (λ n. Some (record { number = n; text = s.rest })) (line_number s.word)

-- the echo that a report line spells: '> ', a number, and then nothing or one space and a text
unfoldable pub echo_read : List ℕ → Option Echo
echo_read line = elim (label_eq (take 2 line) (codes "> ")) [ true ↦ echo_after_mark (split_at_space (drop 2 line)) | false ↦ None ]
