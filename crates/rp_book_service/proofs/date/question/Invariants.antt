use Rattle.std.proofs.Common.{◌≡◌, ◌++◌, map, length, codes, decimal, string_bytes}
use Rattle.rp_book_service.specs.Acts.{spaced}
use Rattle.rp_book_service.proofs.date.question.Given as goal

-- the text so far and the words that are left are the line without its end
abbrev pub invariant-loop-word : goal.invariant-loop-word
invariant-loop-word l = l.text.items ++ spaced (map string_bytes l.rest) ≡ codes "asof " ++ decimal l.line ++ spaced (map string_bytes l.words)

abbrev pub decreases-loop-word : goal.decreases-loop-word
decreases-loop-word l = length l.rest
