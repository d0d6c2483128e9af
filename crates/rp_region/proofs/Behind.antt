-- What a row comes to on a work that was begun fresh is what it comes to behind the lines of another work.
use Rattle.std.proofs.Common.{◌≡◌, List, Option, Some, None, Result, Ok, Err, IfSome, refl, sym, ap, ◌∙◌, subst}
use Rattle.std.specs.Prelude.{IsErrAnd, IsSome}
use Rattle.std.proofs.lemmas.List.{append-nil}
use Rattle.rp_geometry.specs.searches.ProofLine.{ProofLine}
use Rattle.rp_semantics.specs.Walk.{Stop, Outcome, done, stopped, limit_met, Walk, Work}
use Rattle.rp_oracle.specs.declared.stopped.Stopped.{Stopped}
use Rattle.rp_oracle.specs.Refines.{stop_of as why_of, Refines}
use Rattle.rp_region.specs.declared.fault.OpFault.{OpFault}
use Rattle.rp_region.specs.declared.fault.OpFault.TheVariants.{Limit, Memory}
use Rattle.rp_region.specs.Makes.{work_after, TellsMore, OnlyTells, Makes}
use Rattle.rp_region.specs.Stops.{fresh, behind, TakesOver}
use Rattle.rp_region.proofs.Left.{not_begun}

-- a walk comes to the same behind any earlier lines, which it doesn't look at, and only limits stop it
pub record ComesBehind {A : Type 0} (walk : Walk Work A) : Type 0 where
  pub ends : (front : List ProofLine) (w v : Work) (x : A) → walk w ≡ done x v → walk (behind front w) ≡ done x (behind front v)
  pub stops : (front : List ProofLine) (w v : Work) (s : Stop) → walk w ≡ stopped s v → (walk (behind front w) ≡ stopped s (behind front v)) × (s ≡ limit_met)

-- the lines of a work stand in front of those of a work begun fresh
from_fresh : {A : Type 0} (walk : Walk Work A) (w : Work) → walk w ≡ walk (behind w.proofs (fresh w))
from_fresh walk w = ap walk (λ i. record { tests = w.tests; proofs = sym (append-nil w.proofs) i })

-- such a walk only appends lines
pub behind_tells : {A : Type 0} (walk : Walk Work A) → ComesBehind walk → OnlyTells walk
behind_tells {A = A} walk law = record { tells = λ w. by_outcome w (walk (fresh w)) refl }
  where
    lines_after : (w v : Work) (o : Outcome Work A) → work_after o ≡ behind w.proofs v → walk w ≡ o → TellsMore w (work_after (walk w))
    lines_after w v o is e = record { more = v.proofs; lines = ap (λ o. (work_after o).proofs) e ∙ ap (λ (u : Work). u.proofs) is }

    by_outcome : (w : Work) (o : Outcome Work A) → walk (fresh w) ≡ o → TellsMore w (work_after (walk w))
    by_outcome w (done x v) e = lines_after w v (done x (behind w.proofs v)) refl (from_fresh walk w ∙ law.ends w.proofs (fresh w) v x e)
    by_outcome w (stopped s v) e = lines_after w v (stopped s (behind w.proofs v)) refl (from_fresh walk w ∙ (law.stops w.proofs (fresh w) v s e).0)

-- what stops a walk is a limit, behind the lines of a work too
stops_at_limit : {A B : Type 0} (view : A → B) (came : Result A Stopped) (walk : Walk Work B) (w v : Work) → ComesBehind walk → IsErrAnd came (λ e. IsSome (why_of e)) → Refines view came v (walk (fresh w)) → walk w ≡ stopped limit_met (behind w.proofs v)
stops_at_limit view (Ok x) walk w v law n h = absurd n
stops_at_limit view (Err e) walk w v law n h = by_why (why_of e) n h
  where
    by_why : (why : Option Stop) → IsSome why → IfSome why (λ (s : Stop). walk (fresh w) ≡ stopped s v) → walk w ≡ stopped limit_met (behind w.proofs v)
    by_why None n h = absurd (cc)
    by_why (Some s) n h =
        let law = law.stops w.proofs (fresh w) v s h in
        from_fresh walk w ∙ law.0 ∙ ap (λ (t : Stop). stopped t (behind w.proofs v)) law.1

-- what a row has come to on a work begun fresh, taken over, is what it makes of the work
pub makes_behind : {A B : Type 0} (view : A → B) (came : Result A Stopped) (r : Result A OpFault) (walk : Walk Work B) (old walked new : Work)
    → ComesBehind walk → Refines view came walked (walk (fresh old)) → TakesOver came walked r old new → Makes view r old new walk
makes_behind view came (Ok x) walk old walked new law h t =
    let made : walk (fresh old) ≡ done (view x) walked = subst (λ c. Refines view c walked (walk (fresh old))) t.0 h in
    from_fresh walk old ∙ law.ends old.proofs (fresh old) walked (view x) made ∙ ap (done (view x)) (sym t.1)
makes_behind view came (Err Limit) walk old walked new law h t = stops_at_limit view came walk old walked law t.0 h ∙ ap (stopped limit_met) (sym t.1)
makes_behind view came (Err (Memory e)) walk old walked new law h t = not_begun walk old new (behind_tells walk law) t
