-- The four tests, number by number.
use Rattle.std.proofs.Common.{◌≡◌, ℕ, suc, ◌+◌, ◌<◌, ◌≤◌, ⊎_elim, Bool, true, false, List, length, take, refl, sym, ap, ◌∙◌, subst, arith}
use Rattle.std.specs.Prelude.{Option, Some, None, is_some, IsTrue, ◌↔◌, slice_index}
use Rattle.std.proofs.lemmas.List.{take_more}
use Rattle.std.proofs.lemmas.List.Elements.{Contains-push_cases}
use Rattle.std.proofs.lemmas.Bool.{eqb-true, eq-eqb}
use Rattle.std.proofs.Math.Dec.{eqb}
use Rattle.rp_algebra.proofs.Lists.{take_all}
use Rattle.rp_geometry.specs.sets.Chain.{level_of}
use Rattle.rp_access.specs.Chain.{linked_to, PassesTests}
use Rattle.rp_access.specs.Tests.{IsOfLevel, IsFirstAmong, AreClose, IsCloseToAll, IsRight}

-- ---- close to all

-- one number more
pub close_to_next : (levels : List (Option ℕ)) (own : Option ℕ) (js : List ℕ) (i : ℕ) → i < length js → AreClose own (level_of levels (slice_index js i)) → IsCloseToAll levels own (take i js) → IsCloseToAll levels own (take (i + 1) js)
close_to_next levels own js i h c a =
    subst (IsCloseToAll levels own) (sym (take_more js i 0 h))
    (λ m l. ⊎_elim (a m) (λ same. subst (λ v. AreClose own (level_of levels v)) same c) (Contains-push_cases (take i js) (slice_index js i) m l))

-- all of them
pub close_to_all : (levels : List (Option ℕ)) (own : Option ℕ) (js : List ℕ) (i : ℕ) → length js ≤ i → IsCloseToAll levels own (take i js) → IsTrue true ↔ IsCloseToAll levels own js
close_to_all levels own js i h a = (λ _. subst (IsCloseToAll levels own) (take_all js i h) a, λ _. refl)

-- ---- the own entry

-- the level 0
pub right_zero : (levels : List (Option ℕ)) (is_last : Bool) (js : List ℕ) → IsTrue is_last ↔ IsRight levels is_last (Some 0) js
right_zero levels is_last js = (λ t. record { zero_at_last = (λ _. t, λ _. refl); nearer = λ k e. absurd (let z : 0 ≡ suc k = cc in omega arith) }, λ r. r.zero_at_last.0 refl)

-- a level above 0 elsewhere
pub right_above : (levels : List (Option ℕ)) (level less : ℕ) (js : List ℕ) → level ≡ suc less → (first : Option ℕ) → IsFirstAmong levels less js first → IsTrue (is_some first) ↔ IsRight levels false (Some level) js
right_above levels level less js e None f = (λ t. absurd (cc), λ r. (let m = r.nearer less (ap Some e) in absurd (f m.0 m.1)))
right_above levels level less js e (Some j) f = (
  λ _. record {
    zero_at_last = (λ z. absurd (let zero' : level ≡ 0 = cc in omega arith), λ t. absurd (cc));
    nearer = λ k s. (let same : suc less ≡ suc k = (let u : Some level ≡ Some (suc k) = s in sym e ∙ (let v : level ≡ suc k = cc in v)) in let t : less ≡ k = omega arith in (j, subst (λ v. IsOfLevel levels v js j) t f.0));
  },
  λ _. refl,
)

-- the same, as the code has it
pub right_as : (levels : List (Option ℕ)) (is_last : Bool) (own : Option ℕ) (level : ℕ) (js : List ℕ) (first : Option ℕ) (told : Bool) → is_last ≡ false → own ≡ Some level → told ≡ is_some first
    → IsTrue (is_some first) ↔ IsRight levels false (Some level) js → IsTrue told ↔ IsRight levels is_last own js
right_as levels is_last own level js first told e f t h = (
  λ told_true. subst (λ v. IsRight levels v own js) (sym e) (subst (λ v. IsRight levels false v js) (sym f) (h.0 (sym t ∙ told_true))),
  λ r. t ∙ h.1 (subst (λ v. IsRight levels false v js) f (subst (λ v. IsRight levels v own js) e r)),
)

-- ---- all numbers

-- the tests at one number
abbrev pub PassesAt : List (List ℕ) → ℕ → List (Option ℕ) → ℕ → Type 0
PassesAt g last levels i = ((level_of levels i ≡ Some 0) ↔ (i ≡ last)) × IsCloseToAll levels (level_of levels i) (linked_to g i) × ((k : ℕ) → level_of levels i ≡ Some (suc k) → (j : ℕ) × IsOfLevel levels k (linked_to g i) j)

-- entries that are there together and differ by at most 1 are close
close_of : (o p : Option ℕ) → is_some o ≡ is_some p → ((k l : ℕ) → o ≡ Some k → p ≡ Some l → (k ≤ l + 1) × (l ≤ k + 1)) → AreClose o p
close_of None None t h = tt
close_of None (Some l) t h = absurd (cc)
close_of (Some k) None t h = absurd (cc)
close_of (Some k) (Some l) t h = h k l refl refl

-- where they pass, they pass at each number
pub each_of_passes : (g : List (List ℕ)) (last : ℕ) (levels : List (Option ℕ)) → PassesTests g last levels → (i : ℕ) → i < length g → PassesAt g last levels i
each_of_passes g last levels p i h = (
  p.zero_at_last i h,
  λ j l. close_of (level_of levels i) (level_of levels j) (p.together i j l) (λ k m e f. p.close i j k m l e f),
  λ k e. (let m = p.nearer i k e in (m.0, record { listed = m.1; level_is = m.2 })),
)

-- the tests at one number, as the code makes them
pub at_as_made : (g : List (List ℕ)) (last : ℕ) (levels : List (Option ℕ)) (i : ℕ) (is_last : Bool) (own : Option ℕ) (js : List ℕ) → own ≡ level_of levels i → js ≡ linked_to g i → IsTrue is_last ↔ (i ≡ last)
    → (IsRight levels is_last own js × IsCloseToAll levels own js) ↔ PassesAt g last levels i
at_as_made g last levels i is_last own js own_is js_is last_is = (
  λ h.
      let r = subst (λ v. IsRight levels is_last own v × IsCloseToAll levels own v) js_is h in
      let q = subst (λ v. IsRight levels is_last v (linked_to g i) × IsCloseToAll levels v (linked_to g i)) own_is r in
      ((λ e. last_is.0 (q.0.zero_at_last.0 e), λ e. q.0.zero_at_last.1 (last_is.1 e)), q.1, q.0.nearer),
  λ p.
      let q : IsRight levels is_last (level_of levels i) (linked_to g i) × IsCloseToAll levels (level_of levels i) (linked_to g i) = (record { zero_at_last = (λ e. last_is.1 (p.0.0 e), λ t. p.0.1 (last_is.0 t)); nearer = p.2 }, p.1) in
      subst (λ v. IsRight levels is_last own v × IsCloseToAll levels own v) (sym js_is) (subst (λ v. IsRight levels is_last v (linked_to g i) × IsCloseToAll levels v (linked_to g i)) (sym own_is) q),
)

-- a number where they do not pass
pub not_at : (g : List (List ℕ)) (last : ℕ) (levels : List (Option ℕ)) (i : ℕ) → i < length g → (PassesAt g last levels i → false ≡ true) → IsTrue false ↔ PassesTests g last levels
not_at g last levels i h bad = (λ t. absurd (cc), λ p. bad (each_of_passes g last levels p i h))

-- the test whether a number is the last
pub last_test : (i last : ℕ) → IsTrue (eqb i last) ↔ (i ≡ last)
last_test i last = (eqb-true i last, eq-eqb i last)
