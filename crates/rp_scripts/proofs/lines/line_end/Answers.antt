use Rattle.std.proofs.Common.{◌≡◌, ℕ, ◌<◌, List, length, Option, Some, None, arith, ltb, cond, get_or}
use Rattle.std.specs.List.{position, position_or_len}
use Rattle.std.proofs.lemmas.Bool.Decides.{nat_tests}
use Rattle.std.proofs.lemmas.List.Sums.{position_or_len_is}
use Rattle.memchr.specs.Find.{IsFirstByte, is_byte}
use Rattle.rp_algebra.proofs.Tests.{false_unless}
use Rattle.rp_scripts.specs.Lines.{is_line_end}
use Rattle.rp_scripts.proofs.lines.line_end.Goals as goal

-- a place that is not below the length is none
none_past : (a b : ℕ) → a ≡ b → None ≡ cond (ltb a b) (Some a) None
none_past a b e = grind (arith, nat_tests)

-- a place below the length is one
some_below : (a b k : ℕ) → a ≡ k → k < b → Some k ≡ cond (ltb a b) (Some a) None
some_below a b k e below = grind (arith, nat_tests)

-- the first byte that ends a line has the place of the first one that passes
first_is : (text : List ℕ) (r : Option ℕ) → IsFirstByte (is_byte 10) text r → r ≡ position is_line_end text
first_is text None nowhere =
    none_past (position_or_len is_line_end text) (length text)
    (position_or_len_is is_line_end text (length text) 0 (omega arith)
    (λ k below. false_unless (is_line_end (get_or text k 0)) (λ e. nowhere k (omega arith) below e))
    (λ below. absurd (omega (arith, below))))
first_is text (Some k) found =
    some_below (position_or_len is_line_end text) (length text) k
    (position_or_len_is is_line_end text k 0 (omega (arith, found.0.high))
    (λ j below. false_unless (is_line_end (get_or text j 0)) (λ e. found.0.before j (omega arith) below e))
    (λ _. found.1))
    found.0.high

pub returns : goal.returns
returns c = first_is c.args.text.now c.memchr.result c.memchr.ensures
