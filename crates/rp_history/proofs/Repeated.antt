-- Ids that stand twice are found with a set of those that stood before.
use Rattle.std.proofs.Common.{◌≡◌, Bool, true, false, ◌||◌, not, if◌then◌else◌, List, [], ◌∷◌, ◌++◌, Some, refl, sym, ap, ◌∙◌}
use Rattle.std.specs.List.{list_any}
use Rattle.indexmap.specs.IndexSet.{insert_key}
use Rattle.rp_language.specs.Name.{Label, label_eq, is_among}
use Rattle.rp_model.specs.commands.Verdict.{repeated}
use Rattle.rp_model.specs.commands.Checks.{refuse_if, and_then, check_repeated}
use Rattle.rp_history.proofs.Placed.{key_found}

-- the keys are the labels that stood before, in some order, and the check of the others is left
pub record AreSeen (keys rest whole : List Label) : Type 0 where
  pub before : List Label
  pub same : (y : Label) → is_among y keys ≡ is_among y before
  pub left : check_repeated before rest ≡ check_repeated [] whole

-- a label behind others
among_last : (y x : Label) (keys : List Label) → is_among y (keys ++ x ∷ []) ≡ (label_eq y x || is_among y keys)
among_last y x [] = refl
among_last y x (z ∷ keys) = ap (λ (b : Bool). label_eq y z || b) (among_last y x keys) ∙ turned (label_eq y z) (label_eq y x) (is_among y keys)
  where
    turned : (a b c : Bool) → (a || (b || c)) ≡ (b || (a || c))
    turned true true c = refl
    turned true false c = refl
    turned false true c = refl
    turned false false c = refl

-- a label that stood before is refused
pub seen_before : (keys rest whole : List Label) (x : Label) (xs : List Label) → AreSeen keys rest whole → rest ≡ x ∷ xs → is_among x keys ≡ true → Some (repeated x) ≡ check_repeated [] whole
seen_before keys rest whole x xs h e f =
    sym (ap (λ (b : Bool). and_then (refuse_if b (repeated x)) (check_repeated (x ∷ h.before) xs)) (sym (h.same x) ∙ f)) ∙ sym (ap (check_repeated h.before) e) ∙ h.left

-- a label that did not is kept
pub seen_more : (keys rest whole : List Label) (x : Label) (xs new : List Label) → AreSeen keys rest whole → rest ≡ x ∷ xs → is_among x keys ≡ false → new ≡ insert_key label_eq keys x → AreSeen new xs whole
seen_more keys rest whole x xs new h e f g = record {
  before = x ∷ h.before;
  same = λ y. ap (is_among y) (g ∙ ap (λ (b : Bool). if b then keys else keys ++ x ∷ []) (key_found x keys ∙ f)) ∙ among_last y x keys ∙ ap (λ (b : Bool). label_eq y x || b) (h.same y);
  left = sym (ap (λ (b : Bool). and_then (refuse_if b (repeated x)) (check_repeated (x ∷ h.before) xs)) (sym (h.same x) ∙ f)) ∙ sym (ap (check_repeated h.before) e) ∙ h.left;
}

-- whether it stood before, as the set says
pub was_seen : (keys : List Label) (x : Label) (b : Bool) → b ≡ not (list_any (label_eq x) keys) → is_among x keys ≡ not b
was_seen keys x b e = sym (key_found x keys) ∙ twice (list_any (label_eq x) keys) ∙ ap not (sym e)
  where
    twice : (c : Bool) → c ≡ not (not c)
    twice true = refl
    twice false = refl
