-- What is left of a walk while it is made step by step.
use Rattle.std.proofs.Common.{◌≡◌, Result, Ok, Err, refl, sym, ap, ◌∙◌, subst}
use Rattle.rp_semantics.specs.Walk.{Outcome, done, Walk, after_first, ◌>>=◌, Work}
use Rattle.rp_region.specs.declared.fault.OpFault.{OpFault}
use Rattle.rp_region.specs.declared.fault.OpFault.TheVariants.{Limit, Memory}
use Rattle.rp_region.specs.Makes.{work_after, TellsMore, IsCutShort, IsFaultOf, Makes, OnlyTells}
use Rattle.rp_region.proofs.Grows.{no_more, more_still, after_tells}

-- what is left, from now, comes to the same as the whole walk, from the start; on the way lines were appended
pub record IsLeft {A : Type 0} (start : Work) (whole : Walk Work A) (now : Work) (left : Walk Work A) : Type 0 where
  pub same : left now ≡ whole start
  pub told : TellsMore start now

-- at the start the whole walk is left
pub all_left : {A : Type 0} (start : Work) (whole : Walk Work A) → IsLeft start whole start whole
all_left start whole = record { same = refl; told = no_more start }

-- the same walk in other words
pub left_as : {A : Type 0} {start now : Work} {whole left other : Walk Work A} → left ≡ other → IsLeft start whole now left → IsLeft start whole now other
left_as {start = start} {now = now} {whole = whole} e h = subst (λ walk. IsLeft start whole now walk) e h

-- the lines of a step that has come to its end
step_told : {A : Type 0} (first : Walk Work A) (o : Outcome Work A) (now : Work) → OnlyTells first → first now ≡ o → TellsMore now (work_after o)
step_told first o now f e = subst (λ r. TellsMore now (work_after r)) e (f.tells now)

-- the whole walk in other words
pub whole_as : {A : Type 0} {start now : Work} {whole other left : Walk Work A} → whole ≡ other → IsLeft start whole now left → IsLeft start other now left
whole_as {start = start} {now = now} {left = left} e h = subst (λ walk. IsLeft start walk now left) e h

-- after one step the next walk is left
pub next_left : {A B : Type 0} {start now new : Work} {whole : Walk Work A} {x : B} (first : Walk Work B) (next : B → Walk Work A)
    → OnlyTells first → IsLeft start whole now (first >>= next) → first now ≡ done x new → IsLeft start whole new (next x)
next_left {start = start} {now = now} {new = new} {x = x} first next f h m = record {
  same = sym (ap (after_first next) m) ∙ h.same;
  told = more_still start now new h.told (step_told first (done x new) now f m);
}

-- where the first step is given up, so is the whole walk
pub cut_left : {A B : Type 0} {start now : Work} {whole : Walk Work A} (first : Walk Work B) (next : B → Walk Work A)
    → ((y : B) → OnlyTells (next y)) → IsLeft start whole now (first >>= next) → (new : Work) → IsCutShort now new (first now) → IsCutShort start new (whole start)
cut_left {start = start} {now = now} first next each h new m = record {
  told = more_still start now new h.told m.told;
  untold = subst (λ r. TellsMore new (work_after r)) h.same
      (more_still new (work_after (first now)) (work_after (after_first next (first now))) m.untold (after_tells next each (first now)));
}

-- where the first step has a fault, the whole walk has it
pub fault_left : {A B : Type 0} {start now : Work} {whole : Walk Work A} (first : Walk Work B) (next : B → Walk Work A)
    → ((y : B) → OnlyTells (next y)) → IsLeft start whole now (first >>= next) → (e : OpFault) (new : Work) → IsFaultOf e now new first → IsFaultOf e start new whole
fault_left first next each h Limit new m = sym h.same ∙ ap (after_first next) m
fault_left first next each h (Memory e) new m = cut_left first next each h new m

-- where memory is wanting between two steps, the whole walk is given up
pub given_up : {A : Type 0} {start now : Work} {whole : Walk Work A} (left : Walk Work A) → OnlyTells left → IsLeft start whole now left → IsCutShort start now (whole start)
given_up {now = now} left f h = record { told = h.told; untold = subst (λ r. TellsMore now (work_after r)) h.same (f.tells now) }

-- what is left comes to this, and so does the whole walk
pub end_left : {A : Type 0} {start now : Work} {whole left : Walk Work A} (o : Outcome Work A) → IsLeft start whole now left → left now ≡ o → whole start ≡ o
end_left o h e = sym h.same ∙ e

-- a last walk that is made is what was left
pub makes_left : {A C : Type 0} (view : C → A) (r : Result C OpFault) {start now : Work} {whole left : Walk Work A} (new : Work) → IsLeft start whole now left → Makes view r now new left → Makes view r start new whole
makes_left view (Ok x) new h m = sym h.same ∙ m
makes_left view (Err Limit) new h m = sym h.same ∙ m
makes_left view (Err (Memory e)) {start = start} {now = now} new h m = record {
  told = more_still start now new h.told m.told;
  untold = subst (λ o. TellsMore new (work_after o)) h.same m.untold;
}

-- where memory is wanting before a walk has told anything, it is given up
pub not_begun : {A : Type 0} (walk : Walk Work A) (old new : Work) → OnlyTells walk → new ≡ old → IsCutShort old new (walk old)
not_begun walk old new f e = subst (λ w. IsCutShort old w (walk old)) (sym e) (record { told = no_more old; untold = f.tells old })
