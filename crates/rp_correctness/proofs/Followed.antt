-- The lines that the check wants are those that it takes.
use Rattle.std.proofs.Common.{◌≡◌, ℕ, Bool, true, false, List, [], ◌∷◌, ◌++◌, drop, refl, ap, ◌∙◌, sym}
use Rattle.rp_language.specs.Name.{label_eq}
use Rattle.rp_semantics.specs.Walk.{Outcome, done, stopped, after_first, Walk}
use Rattle.rp_reports.specs.Check.{Trail, taken_if, follow_line, follow_lines}
use Rattle.rp_states.proofs.Labels.{label_is}

-- a fact of the result of a walk and of where it ends, where it is not stopped
abbrev pub Reaches : {A : Type 0} → Outcome Trail A → (A → Trail → Type 0) → Type 0
Reaches (done x u) C = C x u
Reaches (stopped e u) C = Unit {0}

-- one walk and then the next
pub comes_then : {A B : Type 0} (C : A → Trail → Type 0) (D : B → Trail → Type 0) (next : A → Walk Trail B) (o : Outcome Trail A) → Reaches o C → ((x : A) (u : Trail) → C x u → Reaches (next x u) D) → Reaches (after_first next o) D
comes_then C D next (done x u) h g = g x u h
comes_then C D next (stopped e u) h g = tt

-- what follows from a fact
pub comes_map : {A : Type 0} (C D : A → Trail → Type 0) (o : Outcome Trail A) → Reaches o C → ((x : A) (u : Trail) → C x u → D x u) → Reaches o D
comes_map C D (done x u) h g = g x u h
comes_map C D (stopped e u) h g = tt

-- from the first trail to the second these lines were taken
abbrev pub Went : List (List ℕ) → Trail → Trail → Type 0
Went lines t u = t.lines ≡ lines ++ u.lines

-- the next line is the one that is wanted
line_goes : (want : List ℕ) (t : Trail) → Reaches (follow_line want t.lines t) (λ _ u. Went (want ∷ []) t u)
line_goes want t = by t.lines refl
  where
    by_test : (line : List ℕ) (lines : List (List ℕ)) → t.lines ≡ line ∷ lines → (b : Bool) → label_eq want line ≡ b → Reaches (taken_if {A = Unit {0}} b tt t) (λ _ u. Went (want ∷ []) t u)
    by_test line lines e false f = tt
    by_test line lines e true f = e ∙ ap (λ (l : List ℕ). l ∷ lines) (sym (label_is want line f)) ∙ ap (λ (ls : List (List ℕ)). want ∷ drop 1 ls) (sym e)

    by : (lines : List (List ℕ)) → t.lines ≡ lines → Reaches (follow_line want lines t) (λ _ u. Went (want ∷ []) t u)
    by [] e = tt
    by (line ∷ lines) e = by_test line lines e (label_eq want line) refl

-- the next lines are those that are wanted
pub lines_go : (wanted : List (List ℕ)) (t : Trail) → Reaches (follow_lines wanted t) (λ _ u. Went wanted t u)
lines_go [] t = refl
lines_go (want ∷ wanted) t =
    comes_then (λ _ u. Went (want ∷ []) t u) (λ _ u. Went (want ∷ wanted) t u) (λ _. follow_lines wanted) (follow_line want t.lines t) (line_goes want t)
    λ x u e. comes_map (λ _ v. Went wanted u v) (λ _ v. Went (want ∷ wanted) t v) (follow_lines wanted u) (lines_go wanted u) λ y v f. e ∙ ap (λ (ls : List (List ℕ)). want ∷ ls) f
