-- The labels of a command that was read are names.
use Rattle.std.proofs.Common.{◌≡◌, ℕ, zero, suc, Bool, true, false, List, [], ◌∷◌, map, Ok, refl}
use Rattle.std.specs.List.{AllByRecursion}
use Rattle.rp_geometry.specs.sets.Prism.{edges_of}
use Rattle.rp_language.specs.Name.{Label, is_name}
use Rattle.rp_language.specs.Expression.{Expression, half_space, box, prism, everything, nothing, named, lot, intersection, union, difference, complement, Child, Command, Kind, name_kind, expression_kind, point_kind, height_kind, line_kind, equals_kind, names_kind, children_kind, Operand, Operands, signature, said, expressions_in, expressions_among}
use Rattle.rp_language.specs.Grammar.{Place, Reader, Word, bad_syntax, command, reading, gives, fails, ◌>>=◌, ◌>>◌, next_word, named_word, name, keyword, count_between, height, Version, point, half_space_numbers, box_numbers, prism_numbers, Node, half_node, box_node, all_node, none_node, name_node, lot_node, and_node, or_node, minus_node, not_node, prism_node, node_table, count_node, node_words, expression_within, expression, child, many, equals_word, end_of_line, Verb, verb_table, operand_read, operands_read, verb_words, command_words, words_of}
use Rattle.rp_language.proofs.ReadAgain.{no_success}
use Rattle.rp_language.proofs.ReadBounds.{Keeps, Anything, keeps_anything, keeps_given, keeps_then, keeps_one, keeps_two}
use Rattle.rp_language.proofs.Spelling.{read_as}
use Rattle.rp_parametricity.proofs.Likeness.{ExpressionHas}
use Rattle.rp_parametricity.proofs.Kept.{labels_in, labels_among, CommandHas}
use Rattle.rp_algebra.proofs.Listed.{all_append}
use Rattle.rp_checker_completeness.proofs.Commands.{Any, any_edges}

-- a label that is a name
abbrev pub Named : Label → Type 0
Named x = is_name x ≡ true

-- the names and lots of an expression are names
abbrev HasNames : Expression → Type 0
HasNames e = ExpressionHas Any Named e

-- those of a command, and its other labels
abbrev CommandNames : Command → Type 0
CommandNames c = CommandHas Any Named c

-- ---- names

-- a word that passes the test
named_again : (word : Word) (b : Bool) → is_name word ≡ b → (x : Label) (p q : Place) → elim b as (λ _. Reader Label) [ true ↦ gives word | false ↦ fails bad_syntax ] p ≡ Ok (x, q) → Named x
named_again word true e x p q f = keeps_given Named word e p x q f
named_again word false e x p q f = absurd (no_success f)

-- a name that was read
keeps_name : Keeps Named name
keeps_name = keeps_then Anything Named next_word named_word (keeps_anything next_word) (λ word i p x q e. named_again word (is_name word) refl x p q e)

module _ (v : Version) where
  -- ---- expressions

  -- what follows the word of each node
  keeps_node : (operand : Reader Expression) → Keeps HasNames operand → (node : Node) → Keeps HasNames (node_words v operand node)
  keeps_node operand k half_node = keeps_one Anything HasNames half_space_numbers half_space (keeps_anything half_space_numbers) (λ h i. tt)
  keeps_node operand k box_node = keeps_one Anything HasNames (box_numbers v) box (keeps_anything (box_numbers v)) (λ b i. (tt, (tt, (tt, (tt, (tt, (tt, tt)))))))
  keeps_node operand k prism_node = keeps_one Anything HasNames (prism_numbers v) prism (keeps_anything (prism_numbers v)) (λ s i. any_edges s (edges_of s.corners))
  keeps_node operand k all_node = keeps_given HasNames everything tt
  keeps_node operand k none_node = keeps_given HasNames nothing tt
  keeps_node operand k name_node = keeps_one Named HasNames name named keeps_name (λ x i. i)
  keeps_node operand k lot_node = keeps_one Named HasNames name lot keeps_name (λ x i. i)
  keeps_node operand k and_node = keeps_two HasNames HasNames HasNames operand operand intersection k k (λ e f i j. (i, j))
  keeps_node operand k or_node = keeps_two HasNames HasNames HasNames operand operand union k k (λ e f i j. (i, j))
  keeps_node operand k minus_node = keeps_two HasNames HasNames HasNames operand operand difference k k (λ e f i j. (i, j))
  keeps_node operand k not_node = keeps_one HasNames HasNames operand complement k (λ e i. i)

  -- expressions of less than so many levels
  keeps_within : (n : ℕ) → Keeps HasNames (expression_within v n)
  keeps_within zero = λ p e q h. absurd (no_success h)
  keeps_within (suc n) =
      keeps_then Anything HasNames (keyword node_table) (λ node. count_node >> node_words v (expression_within v n) node) (keeps_anything (keyword node_table))
      (λ node i. keeps_then Anything HasNames count_node (λ _. node_words v (expression_within v n) node) (keeps_anything count_node) (λ _ j. keeps_node (expression_within v n) (keeps_within n) node))

  -- an expression that was read
  keeps_expression : Keeps HasNames (expression v)
  unfolding expression
  keeps_expression = keeps_within 1025

  -- ---- commands

  -- children whose ids and expressions have names
  record ChildrenNames (cs : List Child) : Type 0 where
    shapes : AllByRecursion HasNames (map (λ c. c.shape) cs)
    ids : AllByRecursion Named (map (λ c. c.id) cs)

  -- a child whose id and expression have names
  record ChildNames (c : Child) : Type 0 where
    shape : HasNames c.shape
    id : Named c.id

  -- so many children
  keeps_children : (n : ℕ) → Keeps ChildrenNames (many n (child v))
  keeps_children zero = keeps_given ChildrenNames [] (record { shapes = tt; ids = tt })
  keeps_children (suc n) =
      keeps_two ChildNames ChildrenNames ChildrenNames (child v) (many n (child v)) ◌∷◌
      (keeps_two Named HasNames ChildNames name (expression v) (λ x e. record { id = x; shape = e }) keeps_name keeps_expression (λ x e i j. record { shape = j; id = i }))
      (keeps_children n) (λ c cs i j. record { shapes = (i.shape, j.shapes); ids = (i.id, j.ids) })

  -- so many ids
  keeps_ids : (n : ℕ) → Keeps (AllByRecursion Named) (many n name)
  keeps_ids zero = keeps_given (AllByRecursion Named) [] tt
  keeps_ids (suc n) = keeps_two Named (AllByRecursion Named) (AllByRecursion Named) name (many n name) ◌∷◌ keeps_name (keeps_ids n) (λ x xs i j. (i, j))

  -- the names of an operand
  abbrev OperandNames : (k : Kind) → Operand k → Type 0
  OperandNames name_kind x = Named x
  OperandNames expression_kind e = HasNames e
  OperandNames names_kind ids = AllByRecursion Named ids
  OperandNames children_kind cs = ChildrenNames cs
  OperandNames _ x = Unit {0}

  -- those of several
  abbrev OperandsNames : (ks : List Kind) → Operands ks → Type 0
  OperandsNames [] os = Unit {0}
  OperandsNames (k ∷ ks) os = OperandNames k os.0 × OperandsNames ks os.1

  -- an operand that was read
  keeps_operand : (k : Kind) → Keeps (OperandNames k) (operand_read v k)
  keeps_operand name_kind = keeps_name
  keeps_operand expression_kind = keeps_expression
  keeps_operand point_kind = keeps_anything (point v)
  keeps_operand height_kind = keeps_anything (height v)
  keeps_operand line_kind = keeps_anything (count_between 0 16777216)
  keeps_operand equals_kind = keeps_anything equals_word
  keeps_operand names_kind = keeps_then Anything (AllByRecursion Named) (count_between 0 65536) (λ n. many n name) (keeps_anything (count_between 0 65536)) (λ n j. keeps_ids n)
  keeps_operand children_kind = keeps_then Anything ChildrenNames (count_between 0 1024) (λ n. many n (child v)) (keeps_anything (count_between 0 1024)) (λ n j. keeps_children n)

  -- what is made of several operands that were read
  keeps_operands : (Q : Command → Type 0) (ks : List Kind) (make : Operands ks → Command) → ((os : Operands ks) → OperandsNames ks os → Q (make os)) → Keeps Q (operands_read v ks make)
  keeps_operands Q [] make h = keeps_given Q (make tt) (h tt tt)
  keeps_operands Q (k ∷ ks) make h = keeps_then (OperandNames k) Q (operand_read v k) _ (keeps_operand k) (λ x i. keeps_operands Q ks (λ xs. make (x, xs)) (λ xs j. h (x, xs) (i, j)))

  -- the expressions of an operand, and its labels
  expressions_named : (k : Kind) (x : Operand k) → OperandNames k x → AllByRecursion HasNames (expressions_in k x)
  expressions_named expression_kind e h = (h, tt)
  expressions_named children_kind cs h = h.shapes
  expressions_named name_kind x h = tt
  expressions_named point_kind x h = tt
  expressions_named height_kind x h = tt
  expressions_named line_kind x h = tt
  expressions_named equals_kind x h = tt
  expressions_named names_kind x h = tt

  labels_named : (k : Kind) (x : Operand k) → OperandNames k x → AllByRecursion Named (labels_in k x)
  labels_named name_kind x h = (h, tt)
  labels_named names_kind ids h = h
  labels_named children_kind cs h = h.ids
  labels_named expression_kind x h = tt
  labels_named point_kind x h = tt
  labels_named height_kind x h = tt
  labels_named line_kind x h = tt
  labels_named equals_kind x h = tt

  -- those of several
  all_named : (ks : List Kind) (os : Operands ks) → OperandsNames ks os → AllByRecursion HasNames (expressions_among ks os) × AllByRecursion Named (labels_among ks os)
  all_named [] os h = (tt, tt)
  all_named (k ∷ []) os h = (expressions_named k os.0 h.0, labels_named k os.0 h.0)
  all_named (k ∷ l ∷ ks) os h =
      let rest = all_named (l ∷ ks) os.1 h.1 in
      (all_append HasNames (expressions_in k os.0) (expressions_among (l ∷ ks) os.1) (expressions_named k os.0 h.0) rest.0, all_append Named (labels_in k os.0) (labels_among (l ∷ ks) os.1) (labels_named k os.0 h.0) rest.1)

  -- what follows the word of each command
  keeps_verb : (verb : Verb) → Keeps CommandNames (verb_words v verb)
  keeps_verb verb = keeps_operands CommandNames (signature verb) (said verb) (λ os h. let both = all_named (signature verb) os h in record { shapes = both.0; labels = both.1 })

  -- a whole command that was read
  keeps_command : Keeps CommandNames (command_words v)
  unfolding command_words
  keeps_command =
      keeps_then Anything CommandNames (keyword verb_table) (λ verb. verb_words v verb >>= λ c. end_of_line >> gives c) (keeps_anything (keyword verb_table))
      (λ verb i. keeps_then CommandNames CommandNames (verb_words v verb) (λ c. end_of_line >> gives c) (keeps_verb verb)
      (λ c j. keeps_then Anything CommandNames end_of_line (λ _. gives c) (keeps_anything end_of_line) (λ _ k. keeps_given CommandNames c j)))

  -- the labels of a command that was read are names
  pub read_names : (line : List ℕ) (c : Command) → reading v line ≡ command c → CommandHas Any Named c
  read_names line c e = let r = read_as v line c e in keeps_command (record { words = words_of line; nodes = 0 }) c r.behind r.reads
