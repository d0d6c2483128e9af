-- In a sound state names and lots stand for parts that have the members of the sets that they stand for.
use Rattle.std.proofs.Common.{◌≡◌, Bool, true, false, List, [], ◌∷◌, refl}
use Rattle.std.specs.Prelude.{Option, Some, None, IfSome}
use Rattle.std.specs.List.{AllByRecursion}
use Rattle.rp_algebra.proofs.Lists.{all_filter}
use Rattle.rp_language.specs.Name.{Label, label_eq}
use Rattle.rp_geometry.specs.sets.Shape.{Shape, Part}
use Rattle.rp_language.specs.Expression.{Expression, half_space, box, prism, everything, nothing, named, lot, intersection, union, difference, complement, first_of_two, if_missing, first_unknown, first_unknown_among}
use Rattle.rp_model.specs.states.State.{Kept, Lot, StateOf, State, is_live, live_lots, live_lot, kept_named, lot_with_id, parts_of_kept, parts_of_lot, set_of_kept, set_of_lot, parts_in, sets_in}
use Rattle.rp_geometry.specs.parts.Parts.{AreOf}
use Rattle.rp_model.specs.states.Sound.{IsSoundWith}
use Rattle.rp_semantics.specs.FormLaws.{Agree, MeaningsAgree}

-- ---- what is found

-- one found before, or else what is found later
found_first : {A : Type 0} (Q : A → Type 0) (b : Bool) (x : A) (o : Option A) → Q x → IfSome o Q → IfSome (elim b as (λ _. Option A) [ true ↦ Some x | false ↦ o ]) Q
found_first Q true x o h k = h
found_first Q false x o h k = k

-- what is true of all names is true of the one found
pub kept_found : {S : Type 0} (Q : Kept S → Type 0) (x : Label) (ks : List (Kept S)) → AllByRecursion Q ks → IfSome (kept_named x ks) Q
kept_found Q x [] h = tt
kept_found Q x (k ∷ ks) h = found_first Q (label_eq x k.name) k (kept_named x ks) h.0 (kept_found Q x ks h.1)

-- what is true of all lots is true of the one found
pub lot_found : {S : Type 0} (Q : Lot S → Type 0) (x : Label) (ls : List (Lot S)) → AllByRecursion Q ls → IfSome (lot_with_id x ls) Q
lot_found Q x [] h = tt
lot_found Q x (l ∷ ls) h = found_first Q (label_eq x l.id) l (lot_with_id x ls) h.0 (lot_found Q x ls h.1)

-- ---- meanings

-- the parts and the set of a name agree
kept_agrees : (P : Part → Type 0) (o : Option (Kept Shape)) → IfSome o (λ k. AreOf P k.set k.parts) → Agree P (parts_of_kept o) (set_of_kept o)
kept_agrees P None h = tt
kept_agrees P (Some k) h = h

-- the parts and the set of a lot agree
lot_agrees : (P : Part → Type 0) (o : Option (Lot Shape)) → IfSome o (λ l. AreOf P l.set l.parts) → Agree P (parts_of_lot o) (set_of_lot o)
lot_agrees P None h = tt
lot_agrees P (Some l) h = h

-- what names and lots stand for in parts and in sets agrees
pub meanings_agree : (P : Part → Type 0) (s : State) → IsSoundWith P s → MeaningsAgree P (parts_in s) (sets_in s)
meanings_agree P s sound = record {
  names = λ x. kept_agrees P (kept_named x s.names) (kept_found (λ k. AreOf P k.set k.parts) x s.names sound.names_keep_parts);
  lots = λ x. lot_agrees P (live_lot x s.lots) (lot_found (λ l. AreOf P l.set l.parts) x (live_lots s.lots) (all_filter (λ l. AreOf P l.set l.parts) is_live s.lots sound.lots_keep_parts));
}

-- ---- what is missing

-- a name is missing in parts where it is missing in sets
name_missing : {S : Type 0} (x : Label) (o : Option (Kept S)) → if_missing x (parts_of_kept o) ≡ if_missing x (set_of_kept o)
name_missing x None = refl
name_missing x (Some k) = refl

-- a lot is missing in parts where it is missing in sets
lot_missing : {S : Type 0} (x : Label) (o : Option (Lot S)) → if_missing x (parts_of_lot o) ≡ if_missing x (set_of_lot o)
lot_missing x None = refl
lot_missing x (Some l) = refl

-- the first label of an expression that is missing in parts is the first that is missing in sets
pub unknown_same : {S : Type 0} (s : StateOf S) (e : Expression) → first_unknown (parts_in s) e ≡ first_unknown (sets_in s) e
unknown_same s (half_space h) = refl
unknown_same s (box b) = refl
unknown_same s (prism f) = refl
unknown_same s everything = refl
unknown_same s nothing = refl
unknown_same s (named x) = name_missing x (kept_named x s.names)
unknown_same s (lot x) = lot_missing x (live_lot x s.lots)
unknown_same s (intersection e f) = let h = unknown_same s e in let k = unknown_same s f in λ i. first_of_two (h i) (k i)
unknown_same s (union e f) = let h = unknown_same s e in let k = unknown_same s f in λ i. first_of_two (h i) (k i)
unknown_same s (difference e f) = let h = unknown_same s e in let k = unknown_same s f in λ i. first_of_two (h i) (k i)
unknown_same s (complement e) = unknown_same s e

-- the same of several expressions
pub unknown_among_same : {S : Type 0} (s : StateOf S) (es : List Expression) → first_unknown_among (parts_in s) es ≡ first_unknown_among (sets_in s) es
unknown_among_same s [] = refl
unknown_among_same s (e ∷ es) = let h = unknown_same s e in let k = unknown_among_same s es in λ i. first_of_two (h i) (k i)
