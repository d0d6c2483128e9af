use Rattle.std.proofs.Common.{◌∙◌, ap}
use Rattle.std.specs.List.{flat_map}
use Rattle.rp_language.specs.Grammar.{spelling, word_of_verb, words_of_command}
use Rattle.rp_command.specs.Versions.{version_of}
use Rattle.rp_command.specs.Views.{command_of}
use Rattle.rp_spelling.specs.Spells.{words_of_operand}
use Rattle.rp_spelling.proofs.OperandLemmas.{command_words}
use Rattle.rp_spelling.proofs.SpellLemmas.{spells_all, spells_front}
use Rattle.rp_spelling.proofs.spelling.write_command.Goals as goal

pub returns-clause-ok : goal.returns-clause-ok
unfolding spelling
returns-clause-ok c =
    let v = version_of c.args.version in
    let is = command_words v (command_of c.args.c.now) c.word.result.now c.operands.result (c.word.ensures ∙ ap word_of_verb c.verb.ensures) c.operands.ensures in
    spells_all c.write_operands.result c.args.out.now.items c.extend_from_slice.new.self.items c.write_operands.new.out.items c.word.result.now (flat_map (words_of_operand v) c.operands.result) (words_of_command v (command_of c.args.c.now)) is c.in_ok-extend_from_slice.ensures.items c.write_operands.ensures

pub returns-clause-err : goal.returns-clause-err
unfolding spelling
returns-clause-err c =
    let v = version_of c.args.version in
    let is = command_words v (command_of c.args.c.now) c.word.result.now c.operands.result (c.word.ensures ∙ ap word_of_verb c.verb.ensures) c.operands.ensures in
    spells_front c.write_operands.result c.args.out.now.items c.extend_from_slice.new.self.items c.write_operands.new.out.items c.word.result.now (flat_map (words_of_operand v) c.operands.result) (words_of_command v (command_of c.args.c.now)) is c.in_ok-extend_from_slice.ensures.items c.write_operands.ensures
