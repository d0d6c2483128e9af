-- An act that comes to others.
use Rattle.std.proofs.Common.{ℕ, List, [], ◌∷◌, ◌++◌, sym, ap, subst, ◌∙◌, append_assoc}
use Rattle.std.specs.List.{flat_map}
use Rattle.std.proofs.lemmas.List.{append-nil}
use Rattle.std.proofs.lemmas.List.Concat.{flat_map-append}
use Rattle.rp_book.specs.Act.{Told, AreActs, HasActs, HasNumbers}

AreActs-push : (before : List ℕ) (acts : List Told) (lines : List (List ℕ)) (act : Told) (more : List ℕ) → AreActs before acts lines → HasNumbers (before ++ flat_map (λ ls. ls) lines) more act
    → AreActs before (acts ++ act ∷ []) (lines ++ more ∷ [])
AreActs-push before [] [] act more h e = (subst (λ b. HasNumbers b more act) (append-nil before) e, tt)
AreActs-push before [] (ls ∷ lines) act more h e = absurd h
AreActs-push before (a ∷ acts) [] act more h e = absurd h
AreActs-push before (a ∷ acts) (ls ∷ lines) act more h e =
    (h.0, AreActs-push (before ++ ls) acts lines act more h.1 (subst (λ b. HasNumbers b more act) (sym (append_assoc before ls (flat_map (λ l. l) lines))) e))

-- the lines of one more act come behind the script
pub HasActs-push : (script : List ℕ) (acts : List Told) (act : Told) (lines : List ℕ) → HasActs script acts → HasNumbers script lines act → HasActs (script ++ lines) (acts ++ act ∷ [])
HasActs-push script acts act lines h e =
    let before = flat_map (λ ls. ls) h.lines in
    record {
      lines = h.lines ++ lines ∷ [];
      whole = ap (λ s. s ++ lines) h.whole ∙ ap (λ l. before ++ l) (sym (append-nil lines)) ∙ sym (flat_map-append (λ ls. ls) h.lines (lines ∷ []));
      numbers = AreActs-push [] acts h.lines act lines h.numbers (subst (λ b. HasNumbers b lines act) h.whole e);
    }
