-- What names stand for: it is found by name, and what is kept under a new name stands last.
use Rattle.std.proofs.Common.{◌≡◌, ℕ, ◌+◌, ◌≤◌, Bool, true, false, ◌||◌, cond, if◌then◌else◌, List, [], ◌∷◌, ◌++◌, map, length, Option, Some, None, is_some, refl, sym, ap, ◌∙◌, subst}
use Rattle.std.specs.Prelude.{option_map, option_copied}
use denote.Ref.{Bor}
use Rattle.std.specs.Map.{lookup}
use Rattle.std.proofs.lemmas.List.{length_push}
use Rattle.std.proofs.lemmas.List.Sums.{sum_by_push}
use Rattle.indexmap.specs.IndexMap.{insert_entry}
use Rattle.rp_geometry.specs.sets.Shape.{Part}
use Rattle.rp_language.specs.Name.{Label, label_eq, is_among}
use Rattle.rp_model.specs.states.State.{Kept, kept_named, parts_of_kept, names_of, most_names, most_kept_parts, kept_under}
use Rattle.rp_states.proofs.Plain.{there_is_kept}
use Rattle.rp_store.specs.Kept.{AreNamed, IsNewName}

module _ {F : Type 0} (parts : F → List Part) where
  -- a name and what it stands for
  abbrev pub entry : Label × F → Kept (Unit {0})
  entry e = kept_under e.0 (parts e.1)

  -- what a map has for a name is what is kept under it
  pub found_is_kept : (x : Label) (es : List (Label × F)) → option_map parts (lookup (label_eq x) es) ≡ parts_of_kept (kept_named x (map entry es))
  found_is_kept x [] = refl
  found_is_kept x (e ∷ es) = by (label_eq x e.0) (found_is_kept x es)
    where
      by : (b : Bool) → option_map parts (lookup (label_eq x) es) ≡ parts_of_kept (kept_named x (map entry es)) → option_map parts (cond b (Some e.1) (lookup (label_eq x) es)) ≡ parts_of_kept (elim b as (λ _. Option (Kept (Unit {0}))) [ true ↦ Some (entry e) | false ↦ kept_named x (map entry es) ])
      by true later = refl
      by false later = later

  -- an entry under a new name comes last
  entry_last : (x : Label) (f : F) (es : List (Label × F)) → is_among x (names_of (map entry es)) ≡ false → map entry (insert_entry label_eq es x f) ≡ map entry es ++ kept_under x (parts f) ∷ []
  entry_last x f [] new = refl
  entry_last x f (e ∷ es) new = by (label_eq x e.0) (entry_last x f es) new
    where
      by : (b : Bool) → (is_among x (names_of (map entry es)) ≡ false → map entry (insert_entry label_eq es x f) ≡ map entry es ++ kept_under x (parts f) ∷ []) → (b || is_among x (names_of (map entry es))) ≡ false → map entry (if b then (e.0, f) ∷ es else e ∷ insert_entry label_eq es x f) ≡ entry e ∷ map entry es ++ kept_under x (parts f) ∷ []
      by true later h = absurd (cc)
      by false later h = ap (λ (ks : List (Kept (Unit {0}))). entry e ∷ ks) (later h)

  -- and so does what is kept under it
  pub kept_last : (es new : List (Label × F)) (ks : List (Kept (Unit {0}))) (x : Label) (f : F) → map entry es ≡ ks → is_among x (names_of ks) ≡ false → new ≡ insert_entry label_eq es x f → map entry new ≡ ks ++ kept_under x (parts f) ∷ []
  kept_last es new ks x f seen fresh made =
      ap (map entry) made ∙ entry_last x f es (ap (λ (js : List (Kept (Unit {0}))). is_among x (names_of js)) seen ∙ fresh) ∙ ap (λ (js : List (Kept (Unit {0}))). js ++ kept_under x (parts f) ∷ []) seen

-- the parts of all of them are counted
pub named_with : (n : ℕ) (ks : List (Kept (Unit {0}))) (x : Label) (ps : List Part) → AreNamed n ks → IsNewName ks x ps → AreNamed (n + length ps) (ks ++ kept_under x ps ∷ [])
named_with n ks x ps named new = record {
  few_names = subst (λ (m : ℕ). m ≤ most_names) (sym (length_push ks (kept_under x ps))) new.few_names;
  few_parts = subst (λ (m : ℕ). m ≤ most_kept_parts) (sym (sum_by_push (λ (k : Kept (Unit {0})). length k.parts) ks (kept_under x ps))) new.few_parts;
  count = ap (λ (m : ℕ). m + length ps) named.count ∙ sym (sum_by_push (λ (k : Kept (Unit {0})). length k.parts) ks (kept_under x ps));
}
