-- The contracts of calls that write words.
use Rattle.std.specs.Prelude.{ℕ, ℤ, pos, negsuc, List, [], ◌∷◌, length, map, Result, decimal, codes}
use Rattle.std.specs.List.{flat_map}
use Rattle.std.specs.declared.alloc.AllocError.{AllocError}
use Rattle.rp_language.specs.Expression.{Child}
use Rattle.rp_language.specs.Grammar.{Word, space, minus_sign, Version, expression_words, point_words, coordinate_text}
use Rattle.rp_command.specs.declared.command.Operand.{Operand}
use Rattle.rp_command.specs.declared.command.Operand.TheVariants as operands
use Rattle.rp_command.specs.Fronts.{Appends}
use Rattle.rp_command.specs.Views.{expression_of, child_of}

-- words, each after a space
abbrev pub behind_spaces : List Word → List ℕ
behind_spaces words = flat_map (λ word. space ∷ word) words

-- the words were appended, each after a space, or a prefix of them if memory ran out
abbrev pub Spells : Result (Unit {0}) AllocError → List ℕ → List ℕ → List Word → Type 0
Spells r old new words = Appends r old new (behind_spaces words)

-- the text before the size of a number: a space, and a minus sign if the number is below 0
abbrev pub before_size : ℤ → List ℕ
before_size (pos n) = space ∷ []
before_size (negsuc n) = space ∷ minus_sign ∷ []

-- the words of the children of a subdivision: an id and an expression for each
abbrev pub children_words : Version → List Child → List Word
children_words v children = flat_map (λ c. c.id ∷ expression_words v c.shape) children

-- the words of an operand
abbrev pub words_of_operand : Version → Operand → List Word
words_of_operand v (operands.Name x) = x.now ∷ []
words_of_operand v (operands.Region e) = expression_words v (expression_of e.now)
words_of_operand v (operands.Point p) = point_words v p.now
words_of_operand v (operands.Height z) = coordinate_text v z ∷ []
words_of_operand v (operands.Line n) = decimal n ∷ []
words_of_operand v operands.Equals = codes "=" ∷ []
words_of_operand v (operands.Names ids) = decimal (length ids.now.items) ∷ ids.now.items
words_of_operand v (operands.Children cs) = decimal (length (map child_of cs.now.items)) ∷ children_words v (map child_of cs.now.items)
words_of_operand v operands.Missing = []
