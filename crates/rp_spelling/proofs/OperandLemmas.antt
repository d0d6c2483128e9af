-- The words of a command are the word of its verb and the words of its operands.
use Rattle.std.proofs.Common.{◌≡◌, List, [], ◌∷◌, ◌++◌, refl, sym, ap, ◌∙◌}
use Rattle.std.specs.List.{flat_map}
use Rattle.std.proofs.lemmas.Grind.{flat_map-append}
use Rattle.std.proofs.lemmas.List.{append-nil}
use Rattle.rp_language.specs.Expression.{Kind, Operands, signature, Command, said}
use Rattle.rp_language.specs.Grammar.{Word, Version, word_of_verb, operand_words, operands_words, words_of_command}
use Rattle.rp_command.specs.declared.command.Operand.{Operand}
use Rattle.rp_command.specs.declared.command.Operand.TheVariants as operands
use Rattle.rp_command.specs.Operands.{Said, of_kind, operand_of, operands_among, operands_in, verb_in}
use Rattle.rp_spelling.specs.Spells.{words_of_operand}

-- the words of a value with its kind
abbrev said_words : Version → Said → List Word
said_words v (of_kind k x) = operand_words v k x

-- an operand of the code has the words of its value
words_said : (v : Version) (o : Operand) → words_of_operand v o ≡ flat_map (said_words v) (operand_of o)
words_said v (operands.Name x) = sym (append-nil _)
words_said v (operands.Region e) = sym (append-nil _)
words_said v (operands.Point p) = sym (append-nil _)
words_said v (operands.Height z) = sym (append-nil _)
words_said v (operands.Line n) = sym (append-nil _)
words_said v operands.Equals = sym (append-nil _)
words_said v (operands.Names ids) = sym (append-nil _)
words_said v (operands.Children cs) = sym (append-nil _)
words_said v operands.Missing = refl

-- operands of the code have the words of their values
words_among : (v : Version) (os : List Operand) → flat_map (words_of_operand v) os ≡ flat_map (said_words v) (flat_map operand_of os)
words_among v [] = refl
words_among v (o ∷ os) = (λ i. words_said v o i ++ words_among v os i) ∙ sym (flat_map-append (said_words v) (operand_of o) (flat_map operand_of os))

-- the words of operands are the words of each
words_each : (v : Version) (ks : List Kind) (os : Operands ks) → operands_words v ks os ≡ flat_map (said_words v) (operands_among ks os)
words_each v [] os = refl
words_each v (k ∷ []) os = sym (append-nil (operand_words v k os.0))
words_each v (k ∷ l ∷ ks) os = ap (λ words. operand_words v k os.0 ++ words) (words_each v (l ∷ ks) os.1)

-- the words of a command are the word of its verb and the words of its operands
words_whole : (v : Version) (c : Command) → words_of_command v c ≡ word_of_verb (verb_in c) ∷ flat_map (said_words v) (operands_in c)
words_whole v (said verb os) = ap (λ words. word_of_verb verb ∷ words) (words_each v (signature verb) os)

-- the words of a command, from the word of its verb and its operands in the code
pub command_words : (v : Version) (c : Command) (word : Word) (os : List Operand) → word ≡ word_of_verb (verb_in c) → flat_map operand_of os ≡ operands_in c → words_of_command v c ≡ word ∷ flat_map (words_of_operand v) os
command_words v c word os is all =
    words_whole v c ∙ (λ i. sym is i ∷ (ap (flat_map (said_words v)) (sym all) ∙ sym (words_among v os)) i)
