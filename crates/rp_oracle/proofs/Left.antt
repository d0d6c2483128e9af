-- What is left of a walk while it is made step by step, whatever answers its tests.
use Rattle.std.proofs.Common.{◌≡◌, Option, Some, None, IfSome, Result, refl, sym, ap, ◌∙◌, subst}
use Rattle.rp_semantics.specs.Walk.{Stop, Outcome, done, stopped, Walk, after_first, ◌>>=◌}
use Rattle.rp_oracle.specs.declared.stopped.Stopped.{Stopped}
use Rattle.rp_oracle.specs.Refines.{stop_of, StopsBy, Refines}

-- what is left, from now, comes to the same as the whole walk, from the start
pub record IsLeft {W A : Type 0} (start : W) (whole : Walk W A) (now : W) (left : Walk W A) : Type 0 where
  pub same : left now ≡ whole start

-- at the start the whole walk is left
pub all_left : {W A : Type 0} (start : W) (whole : Walk W A) → IsLeft start whole start whole
all_left start whole = record { same = refl }

-- the same walk in other words
pub left_as : {W A : Type 0} {start now : W} {whole left other : Walk W A} → left ≡ other → IsLeft start whole now left → IsLeft start whole now other
left_as {start = start} {now = now} {whole = whole} e h = subst (λ walk. IsLeft start whole now walk) e h

-- the whole walk in other words
pub whole_as : {W A : Type 0} {start now : W} {whole other left : Walk W A} → whole ≡ other → IsLeft start whole now left → IsLeft start other now left
whole_as {start = start} {now = now} {left = left} e h = subst (λ walk. IsLeft start walk now left) e h

-- after one step the next walk is left
pub next_left : {W A B : Type 0} {start now new : W} {whole : Walk W A} {x : B} (first : Walk W B) (next : B → Walk W A)
    → IsLeft start whole now (first >>= next) → first now ≡ done x new → IsLeft start whole new (next x)
next_left first next h m = record { same = sym (ap (after_first next) m) ∙ h.same }

-- where the first walk stops, so do both
pub stops_on : {W A B : Type 0} (next : B → Walk W A) (e : Stopped) (new : W) (o : Outcome W B) → StopsBy e new o → StopsBy e new (after_first next o)
stops_on {W = W} {A = A} {B = B} next e new o h = by_stop (stop_of e) h
  where
    by_stop : (s : Option Stop) → IfSome s (λ (why : Stop). o ≡ stopped why new) → IfSome s (λ (why : Stop). after_first next o ≡ stopped why new)
    by_stop None h = tt
    by_stop (Some why) h = ap (after_first next) h

-- where the first step stops, so does the whole walk
pub stop_left : {W A B : Type 0} {start now : W} {whole : Walk W A} (first : Walk W B) (next : B → Walk W A)
    → IsLeft start whole now (first >>= next) → (e : Stopped) (new : W) → StopsBy e new (first now) → StopsBy e new (whole start)
stop_left {now = now} first next h e new m = subst (λ o. StopsBy e new o) h.same (stops_on next e new (first now) m)

-- a last walk that is made is what was left
pub comes_left : {W A C : Type 0} (view : C → A) (r : Result C Stopped) {start now : W} {whole left : Walk W A} (new : W)
    → IsLeft start whole now left → Refines view r new (left now) → Refines view r new (whole start)
comes_left view r new h m = subst (λ o. Refines view r new o) h.same m

-- what is left comes to this, and so does the whole walk
pub end_left : {W A : Type 0} {start now : W} {whole left : Walk W A} (o : Outcome W A) → IsLeft start whole now left → left now ≡ o → whole start ≡ o
end_left o h e = sym h.same ∙ e
