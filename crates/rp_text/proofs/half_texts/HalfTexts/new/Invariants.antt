use Rattle.std.proofs.Common.{◌≡◌, length}
use Rattle.rp_text.proofs.half_texts.HalfTexts.new.Given as goal

-- as many texts as rounds
abbrev pub invariant-loop : goal.invariant-loop
invariant-loop l = length l.texts.items ≡ l.counter
