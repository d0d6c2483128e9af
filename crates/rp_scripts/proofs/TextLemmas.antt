-- Pieces that come to the end of a text one after the other.
use Rattle.std.proofs.Common.{◌≡◌, ℕ, List, [], ◌++◌, Result, Ok, Err, cond, ap, ◌∙◌, append_assoc}
use Rattle.std.specs.Result.{OnOk, is_ok}
use Rattle.std.proofs.lemmas.List.{append-nil}

-- the same text in other words
pub OnOk-text : {X E : Type 0} (r : Result X E) (new text other : List ℕ) → text ≡ other → OnOk r (new ≡ text) → OnOk r (new ≡ other)
OnOk-text (Ok x) new text other e h = h ∙ e
OnOk-text (Err x) new text other e h = tt

-- a last piece
pub OnOk-extended : {X E : Type 0} (r : Result X E) (old new piece text : List ℕ) → new ≡ cond (is_ok r) (old ++ piece) old → old ++ piece ≡ text → OnOk r (new ≡ text)
OnOk-extended (Ok x) old new piece text h e = h ∙ e
OnOk-extended (Err x) old new piece text h e = tt

-- three pieces, each with a number behind it
pub three-numbers : (old first second a i b j c k : List ℕ) → first ≡ old ++ a ++ i → second ≡ first ++ b ++ j → second ++ c ++ k ≡ old ++ (a ++ i ++ b ++ j ++ c ++ k)
three-numbers old first second a i b j c k h g =
    ap (λ xs. xs ++ c ++ k) (g ∙ ap (λ xs. xs ++ b ++ j) h) ∙ simp append_assoc

-- a piece with a number behind it, and a last piece
pub one-number : (old first a i b : List ℕ) → first ≡ old ++ a ++ i → first ++ b ≡ old ++ (a ++ i ++ b)
one-number old first a i b h = ap (λ xs. xs ++ b) h ∙ simp append_assoc

-- four lines, each a piece with a number and an ending behind it
pub four-lines : (old first second third a i b j c k d m end : List ℕ) → first ≡ old ++ a ++ i ++ end → second ≡ first ++ b ++ j ++ end → third ≡ second ++ c ++ k ++ end
    → third ++ d ++ m ++ end ≡ old ++ ((a ++ i ++ end) ++ ((b ++ j ++ end) ++ ((c ++ k ++ end) ++ ((d ++ m ++ end) ++ []))))
four-lines old first second third a i b j c k d m end h g f =
    ap (λ xs. xs ++ d ++ m ++ end) (f ∙ ap (λ xs. xs ++ c ++ k ++ end) (g ∙ ap (λ xs. xs ++ b ++ j ++ end) h)) ∙ simp (append_assoc, append-nil)
