use Rattle.std.proofs.Common.{◌≡◌, drop}
use Rattle.rp_language.specs.Grammar.{looked_up}
use Rattle.rp_command.specs.Tables.{words_in}
use Rattle.rp_command.proofs.table.looked_up.Given as goal

-- the entries still to come decide
abbrev pub invariant-loop-entry : goal.invariant-loop-entry
invariant-loop-entry g l = looked_up l.word (words_in (drop l.entry-index l.table)) ≡ looked_up l.word (words_in l.table)
