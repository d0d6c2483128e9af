-- A line that reads as a command has no byte before a space: none of its words has one.
use Rattle.std.proofs.Common.{◌≡◌, ℕ, zero, suc, ◌+◌, ◌-◌, Bool, true, false, ◌||◌, ◌&&◌, ◌==◌, nat_le, nat_lt, ℤ, List, [], ◌∷◌, length, take, drop, ⊎_elim, Option, Some, None, Result, Ok, Err, refl, ap, ◌∙◌, sym, subst, arith}
use Rattle.std.specs.Prelude.{codes, int_le}
use Rattle.std.specs.Char.{is_ascii_digit}
use Rattle.std.specs.List.{AllByRecursion, list_all}
use Rattle.std.proofs.lemmas.Bool.{and_parts, or_cases}
use Rattle.std.proofs.lemmas.List.{take-append-drop}
use Rattle.std.proofs.lemmas.List.Splits.{join_with_byte-slice_split}
use Rattle.std.proofs.lemmas.Slice.Eq.{bytes_eq-Decides}
use Rattle.rp_algebra.proofs.Listed.{all_append}
use Rattle.rp_geometry.specs.Geometry.{HalfSpace, half_space_of, is_zero_half_space, reduced_half_space}
use Rattle.rp_geometry.specs.sets.Prism.{corner_of}
use Rattle.rp_language.specs.Name.{is_letter, is_name_byte, is_name, label_eq}
use Rattle.rp_language.specs.Expression.{Expression, Kind, name_kind, expression_kind, point_kind, height_kind, line_kind, equals_kind, names_kind, children_kind, Operand, Operands, signature, Command, said}
use Rattle.rp_language.specs.Grammar.{Word, space, Version, one, two, Place, Reader, Fault, bad_syntax, out_of_range, zero_half_space, too_many_nodes, nonzero_half_space, gives, ◌>>=◌, next_word, or_fault, in_bounds, named_word, name, looked_up, keyword, minus_sign, value_of_digits, starts_above_zero, spells_zero, natural_spelled, as_whole, number_spelled, decimal_point, fraction_spelled, in_thousandths, thousandths_spelled, as_negative, signed, coordinate_spelled, spelled_so, number, coordinate, cube_coordinate, height, coefficient, count_between, counted, many, half_space_numbers, point, box_numbers, corner_numbers, prism_numbers, Node, half_node, box_node, prism_node, all_node, none_node, name_node, lot_node, not_node, node_table, count_node, node_words, expression_within, expression, child, equals_sign, equals_word, end_of, end_of_line, Verb, verb_table, operand_read, operands_read, verb_words, command_words, words_of, spaced, reading, command}
use Rattle.rp_language.proofs.ReadAgain.{given, steps, same_success, no_success}
use Rattle.rp_language.proofs.WordsAgain.{takes_word, checked_if, checked_some}
use Rattle.rp_language.proofs.ShapesAgain.{checked_unless}
use Rattle.rp_language.proofs.Spelling.{read_as}

-- no byte stands before a space
abbrev pub IsPrinted : List ℕ → Type 0
IsPrinted bytes = AllByRecursion (λ b. nat_le space b ≡ true) bytes

-- no word has such a byte
abbrev ArePrinted : List Word → Type 0
ArePrinted words = AllByRecursion IsPrinted words

-- the words that the reader takes are so: those that were left are, where those behind it are
record TakesPrinted {A : Type 0} (reader : Reader A) : Type 0 where
  taken : (p : Place) (value : A) (q : Place) → reader p ≡ Ok (value, q) → ArePrinted q.words → ArePrinted p.words

-- ---- how readers are put together

-- the words of a place
at_place : (p q : Place) → p ≡ q → ArePrinted q.words → ArePrinted p.words
at_place p q e h = subst (λ (o : Place). ArePrinted o.words) (sym e) h

-- no word is read
of_given : {A : Type 0} (x : A) → TakesPrinted (gives x)
of_given x = record { taken = λ p value q e h. at_place p q (given x value p q e).1 h }

-- one reader and then the next
of_both : {A B : Type 0} (first : Reader A) (next : A → Reader B) → TakesPrinted first → ((x : A) → TakesPrinted (next x)) → TakesPrinted (first >>= next)
of_both first next k l = record { taken = λ p value q e h. let s = steps first next p value q e in k.taken p s.part s.between s.before ((l s.part).taken s.between value q s.behind h) }

-- a value made of one that was read
of_one : {A B : Type 0} (first : Reader A) (make : A → B) → TakesPrinted first → TakesPrinted (first >>= λ x. gives (make x))
of_one first make k = of_both first (λ x. gives (make x)) k (λ x. of_given (make x))

-- a value made of two that were read
of_two : {A B C : Type 0} (first : Reader A) (second : Reader B) (make : A → B → C) → TakesPrinted first → TakesPrinted second → TakesPrinted (first >>= λ x. second >>= λ y. gives (make x y))
of_two first second make k l = of_both first (λ x. second >>= λ y. gives (make x y)) k (λ x. of_one second (make x) l)

-- one word, which a check lets pass
of_word : {A : Type 0} (check : Word → Reader A) → ((word : Word) (p : Place) (value : A) (q : Place) → check word p ≡ Ok (value, q) → IsPrinted word × (p ≡ q)) → TakesPrinted (next_word >>= check)
of_word check passes = record {
  taken = λ p value q e h.
      let s = steps next_word check p value q e in
      let t = takes_word p s.part s.between s.before in
      let c = passes s.part s.between value q s.behind in
      subst ArePrinted (sym t.words) (c.0, at_place s.between q c.1 h);
}

-- so many items
of_many : {A : Type 0} (n : ℕ) (item : Reader A) → TakesPrinted item → TakesPrinted (many n item)
of_many zero item k = of_given []
of_many (suc n) item k = of_two item (many n item) ◌∷◌ k (of_many n item k)

-- ---- words

-- digits
digits_printed : (ds : List ℕ) → list_all is_ascii_digit ds ≡ true → IsPrinted ds
digits_printed [] e = tt
digits_printed (d ∷ ds) e = let parts = and_parts _ _ e in (digit d parts.0, digits_printed ds parts.1)
  where
    digit : (d : ℕ) → is_ascii_digit d ≡ true → nat_le space d ≡ true
    digit d e = grind arith

-- digits of which the first is not zero
above_zero_printed : (ds : List ℕ) → starts_above_zero ds ≡ true → IsPrinted ds
above_zero_printed [] e = absurd (cc)
above_zero_printed (d ∷ ds) e = digits_printed (d ∷ ds) (and_parts _ _ e).1

-- a natural number
natural_printed : (word : Word) (n : ℕ) → natural_spelled word ≡ Some n → IsPrinted word
natural_printed word n e = by (spells_zero word || starts_above_zero word) refl e
  where
    by : (t : Bool) → (spells_zero word || starts_above_zero word) ≡ t → elim t as (λ _. Option ℕ) [ true ↦ Some (value_of_digits word) | false ↦ None ] ≡ Some n → IsPrinted word
    by true is e = ⊎_elim (λ zero_word. subst IsPrinted (sym ((bytes_eq-Decides word (48 ∷ [])).0 zero_word)) (refl, tt)) (above_zero_printed word) (or_cases (spells_zero word) (starts_above_zero word) is)
    by false is e = absurd (cc)

-- three digits behind a point
fraction_printed : (word : Word) (n : ℕ) → fraction_spelled word ≡ Some n → IsPrinted word
fraction_printed (p ∷ a ∷ b ∷ c ∷ []) n e = by (p == decimal_point && list_all is_ascii_digit (a ∷ b ∷ c ∷ [])) refl e
  where
    decimal : (p : ℕ) → (p == decimal_point) ≡ true → nat_le space p ≡ true
    decimal p e = grind arith

    by : (t : Bool) → (p == decimal_point && list_all is_ascii_digit (a ∷ b ∷ c ∷ [])) ≡ t → elim t as (λ _. Option ℕ) [ true ↦ Some (value_of_digits (a ∷ b ∷ c ∷ [])) | false ↦ None ] ≡ Some n → IsPrinted (p ∷ a ∷ b ∷ c ∷ [])
    by true is e = let parts = and_parts _ _ is in (decimal p parts.0, digits_printed (a ∷ b ∷ c ∷ []) parts.1)
    by false is e = absurd (cc)
fraction_printed _ n e = absurd (cc)

-- thousandths
thousandths_printed : (word : Word) (n : ℕ) → thousandths_spelled word ≡ Some n → IsPrinted word
thousandths_printed word n e = by (natural_spelled (take front word)) (fraction_spelled (drop front word)) refl refl e
  where
    front : ℕ
    front = length word - 4

    by : (o r : Option ℕ) → natural_spelled (take front word) ≡ o → fraction_spelled (drop front word) ≡ r → in_thousandths o r ≡ Some n → IsPrinted word
    by (Some k) (Some l) is was e = subst IsPrinted (take-append-drop front word) (all_append (λ b. nat_le space b ≡ true) (take front word) (drop front word) (natural_printed (take front word) k is) (fraction_printed (drop front word) l was))
    by _ _ is was e = absurd (cc)

-- a minus sign
minus_printed : (b : ℕ) → (b == minus_sign) ≡ true → nat_le space b ≡ true
minus_printed b e = grind arith

-- a natural number that is spelled so, behind an optional minus sign
signed_printed : (spelled : Word → Option ℕ) → ((word : Word) (n : ℕ) → spelled word ≡ Some n → IsPrinted word) → (word : Word) (v : ℤ) → signed spelled word ≡ Some v → IsPrinted word
signed_printed spelled printed [] v e = absurd (cc)
signed_printed spelled printed (b ∷ bs) v e = by (b == minus_sign) refl e
  where
    below : (o : Option ℕ) → spelled bs ≡ o → as_negative o ≡ Some v → IsPrinted bs
    below None is e = absurd (cc)
    below (Some n) is e = printed bs n is

    above : (o : Option ℕ) → spelled (b ∷ bs) ≡ o → as_whole o ≡ Some v → IsPrinted (b ∷ bs)
    above None is e = absurd (cc)
    above (Some n) is e = printed (b ∷ bs) n is

    by : (t : Bool) → (b == minus_sign) ≡ t → elim t as (λ _. Option ℤ) [ true ↦ as_negative (spelled bs) | false ↦ as_whole (spelled (b ∷ bs)) ] ≡ Some v → IsPrinted (b ∷ bs)
    by true is e = (minus_printed b is, below (spelled bs) refl e)
    by false is e = above (spelled (b ∷ bs)) refl e

-- a coordinate
coordinate_printed : (version : Version) (word : Word) (v : ℤ) → coordinate_spelled version word ≡ Some v → IsPrinted word
coordinate_printed one = signed_printed natural_spelled natural_printed
coordinate_printed two = signed_printed thousandths_spelled thousandths_printed

-- a name
name_printed : (word : Word) → is_name word ≡ true → IsPrinted word
name_printed [] e = absurd (cc)
name_printed (b ∷ bs) e = let parts = and_parts _ _ (and_parts _ _ e).0 in (letter b parts.0, name_bytes bs parts.1)
  where
    letter : (b : ℕ) → is_letter b ≡ true → nat_le space b ≡ true
    letter b e = grind arith

    byte : (b : ℕ) → is_name_byte b ≡ true → nat_le space b ≡ true
    byte b e = grind arith

    name_bytes : (bs : List ℕ) → list_all is_name_byte bs ≡ true → IsPrinted bs
    name_bytes [] e = tt
    name_bytes (b ∷ bs) e = let parts = and_parts _ _ e in (byte b parts.0, name_bytes bs parts.1)

-- no word of a table has a byte before a space
abbrev is_printed_table : {A : Type 0} → List (Word × A) → Bool
is_printed_table table = list_all (λ entry. list_all (λ b. nat_le space b) entry.0) table

-- a word that is tested byte by byte
tested_printed : (word : Word) → list_all (λ b. nat_le space b) word ≡ true → IsPrinted word
tested_printed [] e = tt
tested_printed (b ∷ bs) e = let parts = and_parts _ _ e in (parts.0, tested_printed bs parts.1)

-- a word that is found in a table
found_printed : {A : Type 0} (table : List (Word × A)) (word : Word) (value : A) → is_printed_table table ≡ true → looked_up word table ≡ Some value → IsPrinted word
found_printed [] word value t e = absurd (cc)
found_printed {A} (entry ∷ table) word value t e = by (label_eq word entry.0) refl (found_printed table word value (and_parts _ _ t).1) e
  where
    by : (test : Bool) → label_eq word entry.0 ≡ test → (looked_up word table ≡ Some value → IsPrinted word) → elim test as (λ _. Option A) [ true ↦ Some entry.1 | false ↦ looked_up word table ] ≡ Some value → IsPrinted word
    by true is later e = subst IsPrinted (sym ((bytes_eq-Decides word entry.0).0 is)) (tested_printed entry.0 (and_parts _ _ t).0)
    by false is later e = later e

-- ---- readers of words

-- a number that is spelled so
of_spelled : (spelled : Word → Option ℤ) (least greatest : ℤ) → ((word : Word) (v : ℤ) → spelled word ≡ Some v → IsPrinted word) → TakesPrinted (spelled_so spelled least greatest)
of_spelled spelled least greatest printed =
    of_word (λ word. or_fault bad_syntax (spelled word) >>= in_bounds least greatest) λ word p v q e.
    let s = steps (or_fault bad_syntax (spelled word)) (in_bounds least greatest) p v q e in
    let some = checked_some (spelled word) s.part bad_syntax p s.between s.before in
    let bounds = checked_if (int_le least s.part && int_le s.part greatest) s.part v out_of_range s.between q s.behind in
    (printed word s.part some.0, some.1 ∙ bounds.2)

-- a whole number
of_number : (least greatest : ℤ) → TakesPrinted (number least greatest)
unfolding number
of_number least greatest = of_spelled number_spelled least greatest (signed_printed natural_spelled natural_printed)

-- a coordinate
of_coordinate : (v : Version) (least greatest : ℤ) → TakesPrinted (coordinate v least greatest)
unfolding coordinate
of_coordinate v least greatest = of_spelled (coordinate_spelled v) least greatest (coordinate_printed v)

-- a number that counts
of_count : (least greatest : ℕ) → TakesPrinted (count_between least greatest)
of_count least greatest = of_one (number _ _) _ (of_number _ _)

-- a count and so many items
of_counted : {A : Type 0} (least greatest : ℕ) (item : Reader A) → TakesPrinted item → TakesPrinted (counted least greatest item)
of_counted least greatest item k = of_both (count_between least greatest) _ (of_count least greatest) λ n. of_many n item k

-- a name
of_name : TakesPrinted name
of_name = of_word named_word (λ word p value q e. let c = checked_if (is_name word) word value bad_syntax p q e in (name_printed word c.0, c.2))

-- a word of a table
of_keyword : {A : Type 0} (table : List (Word × A)) → is_printed_table table ≡ true → TakesPrinted (keyword table)
of_keyword table t = of_word (λ word. or_fault bad_syntax (looked_up word table)) (λ word p value q e. let c = checked_some (looked_up word table) value bad_syntax p q e in (found_printed table word value t c.0, c.1))

-- the word that stands between a name and what it is to name
of_equals : TakesPrinted equals_word
of_equals = of_word equals_sign (λ word p value q e. let c = checked_if (label_eq word (codes "=")) tt value bad_syntax p q e in (subst IsPrinted (sym ((bytes_eq-Decides word (codes "=")).0 c.0)) (refl, tt), c.2))

-- a node that is counted
of_node_count : TakesPrinted count_node
of_node_count = record { taken = λ p value q e h. by p value q (nat_lt p.nodes 1024) e h }
  where
    by : (p : Place) (value : Unit {0}) (q : Place) (t : Bool) → elim t as (λ _. Result (Unit {0} × Place) Fault) [ true ↦ Ok (tt, record { words = p.words; nodes = p.nodes + 1 }) | false ↦ Err too_many_nodes ] ≡ Ok (value, q) → ArePrinted q.words → ArePrinted p.words
    by p value q true e h = let same = same_success e in subst ArePrinted (sym (ap (λ (r : Unit {0} × Place). r.1.words) same)) h
    by p value q false e h = absurd (no_success e)

-- the end of the line: no word is left
end_printed : (p : Place) (value : Unit {0}) (q : Place) → end_of_line p ≡ Ok (value, q) → ArePrinted p.words
end_printed p value q e = by p.words refl e
  where
    by : (words : List Word) → p.words ≡ words → end_of words p ≡ Ok (value, q) → ArePrinted p.words
    by [] is e = subst ArePrinted (sym is) tt
    by (word ∷ words) is e = absurd (no_success e)

-- ---- shapes

-- four numbers of a half-space
of_half_space : TakesPrinted half_space_numbers
unfolding half_space_numbers
of_half_space =
    let c = of_number _ _ in
    of_both coefficient _ c λ x. of_both coefficient _ c λ y. of_both coefficient _ c λ z. of_both (number _ _) _ (of_number _ _) λ d. nonzero (half_space_of x y z d)
  where
    nonzero : (h : HalfSpace) → TakesPrinted (nonzero_half_space h)
    nonzero h = record { taken = λ p value q e k. at_place p q (checked_unless (is_zero_half_space h) (reduced_half_space h) value zero_half_space p q e).2 k }

module _ (v : Version) where
  -- a point
  of_point : TakesPrinted (point v)
  unfolding point
  of_point = let c = of_coordinate v _ _ in of_both (coordinate v _ _) _ c λ x. of_both (coordinate v _ _) _ c λ y. of_both (coordinate v _ _) _ c λ z. of_one (number _ _) _ (of_number _ _)

  -- a box
  of_box : TakesPrinted (box_numbers v)
  unfolding box_numbers
  of_box =
      let one = cube_coordinate v in
      let c = of_coordinate v _ _ in
      of_both one _ c λ x1. of_both one _ c λ y1. of_both one _ c λ z1. of_both one _ c λ x2. of_both one _ c λ y2. of_one one _ c

  -- a corner
  of_corner : TakesPrinted (corner_numbers v)
  unfolding corner_numbers
  of_corner = let c = of_coordinate v _ _ in of_two (coordinate v _ _) (coordinate v _ _) corner_of c c

  -- a prism
  of_prism : TakesPrinted (prism_numbers v)
  unfolding prism_numbers
  of_prism =
      let c = of_coordinate v _ _ in
      of_both (cube_coordinate v) _ c λ low. of_both (cube_coordinate v) _ c λ high. of_one (counted 3 256 (corner_numbers v)) _ (of_counted 3 256 (corner_numbers v) of_corner)

  -- ---- expressions

  -- what follows the word of a node
  of_node : (operand : Reader Expression) → TakesPrinted operand → (node : Node) → TakesPrinted (node_words v operand node)
  of_node operand k half_node = of_one half_space_numbers _ of_half_space
  of_node operand k box_node = of_one (box_numbers v) _ of_box
  of_node operand k prism_node = of_one (prism_numbers v) _ of_prism
  of_node operand k all_node = of_given _
  of_node operand k none_node = of_given _
  of_node operand k name_node = of_one name _ of_name
  of_node operand k lot_node = of_one name _ of_name
  of_node operand k not_node = of_one operand _ k
  of_node operand k _ = of_two operand operand _ k k

  -- expressions of less than so many levels
  of_within : (n : ℕ) → TakesPrinted (expression_within v n)
  of_within zero = record { taken = λ p e q h k. absurd (no_success h) }
  of_within (suc n) = of_both (keyword node_table) _ (of_keyword node_table refl) λ node. of_both count_node _ of_node_count λ _. of_node (expression_within v n) (of_within n) node

  -- an expression
  of_expression : TakesPrinted (expression v)
  unfolding expression
  of_expression = of_within 1025

  -- ---- commands

  -- an operand
  of_operand : (k : Kind) → TakesPrinted (operand_read v k)
  of_operand name_kind = of_name
  of_operand expression_kind = of_expression
  of_operand point_kind = of_point
  of_operand height_kind = of_coordinate v _ _
  of_operand line_kind = of_count 0 16777216
  of_operand equals_kind = of_equals
  of_operand names_kind = of_counted 0 65536 name of_name
  of_operand children_kind = of_counted 0 1024 (child v) (of_two name (expression v) _ of_name of_expression)

  -- several operands
  of_operands : {A : Type 0} (ks : List Kind) (make : Operands ks → A) → TakesPrinted (operands_read v ks make)
  of_operands [] make = of_given _
  of_operands (k ∷ ks) make = of_both (operand_read v k) _ (of_operand k) λ x. of_operands ks (λ xs. make (x, xs))

  -- what follows the word of a command
  of_verb : (verb : Verb) → TakesPrinted (verb_words v verb)
  of_verb verb = of_operands (signature verb) (said verb)

  -- a whole command
  command_printed : (p : Place) (c : Command) (q : Place) → command_words v p ≡ Ok (c, q) → ArePrinted p.words
  unfolding command_words
  command_printed p c q e =
      let verb = steps (keyword verb_table) _ p c q e in
      let whole = steps (verb_words v verb.part) _ verb.between c q verb.behind in
      let end = steps end_of_line _ whole.between c q whole.behind in
      (of_keyword verb_table refl).taken p verb.part verb.between verb.before ((of_verb verb.part).taken verb.between whole.part whole.between whole.before (end_printed whole.between end.part end.between end.before))

-- ---- lines

-- words with one space between each two have no byte before a space where none of them has one
spaced_printed : (words : List Word) → ArePrinted words → IsPrinted (spaced words)
spaced_printed [] h = tt
spaced_printed (word ∷ []) h = h.0
spaced_printed (word ∷ next ∷ words) h = all_append (λ b. nat_le space b ≡ true) word (space ∷ spaced (next ∷ words)) h.0 (refl, spaced_printed (next ∷ words) h.1)

-- a line that reads as a command has no byte before a space
pub read_is_printed_spec : (v : Version) (line : List ℕ) (c : Command) → reading v line ≡ command c → IsPrinted line
read_is_printed_spec v line c e =
    let r = read_as v line c e in
    let printed = command_printed v (record { words = words_of line; nodes = 0 }) c r.behind r.reads in
    subst IsPrinted (join_with_byte-slice_split space line) (spaced_printed (words_of line) printed)
