use Rattle.std.proofs.Common.{◌≡◌, ◌++◌, take}
use Rattle.std.specs.List.{flat_map}
use Rattle.rp_spelling.specs.Spells.{behind_spaces, words_of_operand}
use Rattle.rp_command.specs.Versions.{version_of}
use Rattle.rp_spelling.proofs.spelling.write_operands.Given as goal

-- the operands so far were written
abbrev pub invariant-loop-operand : goal.invariant-loop-operand
invariant-loop-operand l = l.out.items ≡ l.initial.out.items ++ behind_spaces (flat_map (words_of_operand (version_of l.version)) (take l.operand-index l.operands))
