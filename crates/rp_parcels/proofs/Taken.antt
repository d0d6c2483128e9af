-- What a row has come to on a work that was begun fresh, taken over, is what it makes of the work.
use Rattle.std.proofs.Common.{◌≡◌, ℕ, List, [], ◌∷◌, map, ◌++◌, inl, inr, Result, Ok, Err, refl, sym, ap, ◌∙◌, subst, append_assoc}
use Rattle.std.specs.Prelude.{IsOk}
use Rattle.rp_geometry.specs.searches.ProofLine.{ProofLine, in_line}
use Rattle.rp_geometry.specs.sets.Shape.{Part}
use Rattle.rp_semantics.specs.Walk.{Outcome, done, Walk, Work}
use Rattle.rp_model.specs.states.State.{Lot}
use Rattle.rp_model.specs.commands.Verdict.{Refusal as ModelRefusal}
use Rattle.rp_model.specs.commands.Reply.{Reply, refusal, accepted}
use Rattle.rp_oracle.specs.Refines.{Refines}
use Rattle.rp_region.specs.declared.fault.OpFault.{OpFault}
use Rattle.rp_region.specs.declared.fault.OpFault.TheVariants.{Limit as OpLimit}
use Rattle.std.proofs.lemmas.List.{map-id}
use Rattle.rp_region.specs.Makes.{work_after, TellsMore, IsCutShort, Makes}
use Rattle.rp_region.specs.Stops.{fresh, behind, TakesOver}
use Rattle.rp_region.proofs.Behind.{ComesBehind, behind_tells, makes_behind}
use Rattle.rp_region.proofs.Grows.{no_more}
use Rattle.rp_region.proofs.Left.{not_begun}
use Rattle.rp_answer.specs.declared.reply.RowEnd.{RowEnd}
use Rattle.rp_answer.specs.declared.reply.RowEnd.TheVariants.{Refused, Stopped as StoppedEnd}
use Rattle.rp_contacts.specs.Asked.{Answers as RowAnswers}
use Rattle.rp_answer.specs.declared.answer.Refusal.{Refusal}
use Rattle.rp_answer.specs.Views.{refusal_of}
use Rattle.rp_history.specs.Parts.{new_lots}
use Rattle.rp_lots.specs.declared.change.Replaced.{Replaced}
use Rattle.rp_lots.specs.Changes.{Changes as RowChanges, replaced_of}
use Rattle.rp_parcels.specs.declared.fault.ParcelFault.{ParcelFault}
use Rattle.rp_parcels.specs.Register.{IsFitChange}
use Rattle.rp_parcels.specs.Rows.{Cause, refuses, limited, wanting, cause_of, EndsBy, Answers, Changes}
use Rattle.rp_parcels.specs.Shown.{EndIsShown, Kind, by_points, by_none, never, kind_of, IsShown, IsShownBy}
use Rattle.rp_parcels.specs.Taken.{settled, IsEndedBy, IsTaken, IsFitFor, IsMade}
use Rattle.rp_parcels.proofs.Ends.{Ends, RowShown}
use Rattle.rp_parcels.proofs.Fits.{Fits}

-- the reply, where a refusal is no stop
abbrev settled_view : {A : Type 0} → (A → Reply) → Result A Refusal → Reply
settled_view view (Ok x) = view x
settled_view view (Err r) = refusal (refusal_of r)

-- the row comes to what it has come to
settled_comes : {A : Type 0} (view : A → Reply) (came : Result A RowEnd) (w : Work) (o : Outcome Work Reply) → RowAnswers view came w o → Refines (settled_view view) (settled came) w o
settled_comes view (Ok x) w o h = h
settled_comes view (Err (Refused r)) w o h = h
settled_comes view (Err (StoppedEnd e)) w o h = h

-- the answer of a change is one of a question
pub change_answers : {A : Type 0} (view : A → _) (came : Result A RowEnd) (w : Work) (o : Outcome Work Reply) → RowChanges view came w o → RowAnswers (λ x. accepted (view x)) came w o
change_answers view (Ok x) w o h = h
change_answers view (Err e) w o h = h

-- what shows a refusal shows it behind other lines
behind_shown : (front lines : List ProofLine) (k : Kind) → IsShownBy lines k → IsShownBy (front ++ lines) k
behind_shown front lines by_points h = record { points = h.points; last = record { before = front ++ h.last.before; is = ap (λ (more : List ProofLine). front ++ more) h.last.is ∙ sym (append_assoc front h.last.before (in_line h.points ∷ [])) } }
behind_shown front lines by_none h = tt
behind_shown front lines never h = h

-- so it is shown once the work of its row is taken over
pub refusal_shown : {A : Type 0} (came : Result A RowEnd) (r : Refusal) (old walked new : Work) → EndIsShown walked.proofs came → TakesOver (settled came) walked (Ok (Err r)) old new → IsShown new.proofs (refusal_of r)
refusal_shown (Ok x) r old walked new h t = let e = t.0 in absurd (cc)
refusal_shown (Err (Refused q)) r old walked new h t =
    let e = t.0 in
    let same : q ≡ r = cc in
    subst (λ (s : Refusal). IsShown new.proofs (refusal_of s)) same (subst (λ (w : Work). IsShown w.proofs (refusal_of q)) (sym t.1) (behind_shown old.proofs walked.proofs (kind_of (refusal_of q)) h))
refusal_shown (Err (StoppedEnd s)) r old walked new h t = let e = t.0 in absurd (cc)

-- the lines show the refusal that a row ends with
pub end_shown : {A : Type 0} (view : A → Reply) (came : Result A RowEnd) (w : Work) (o : Outcome Work Reply) → Ends RowShown o → RowAnswers view came w o → EndIsShown w.proofs came
end_shown view (Ok x) w o h e = tt
end_shown view (Err (Refused r)) w o h e = subst (Ends RowShown) e h
end_shown view (Err (StoppedEnd s)) w o h e = tt

module _ {A : Type 0} (view : A → Reply) (row : Walk Work Reply) (law : ComesBehind row) (old begun walked new : Work) (is_fresh : begun ≡ fresh old) (came : Result A RowEnd) (comes : RowAnswers view came walked (row begun)) where
  -- it is made of the work that took it over
  row_made : (r : Result (Result A Refusal) OpFault) → TakesOver (settled came) walked r old new → Makes (settled_view view) r old new row
  row_made r t = makes_behind (settled_view view) (settled came) r row old walked new law (subst (λ w. Refines (settled_view view) (settled came) walked (row w)) is_fresh (settled_comes view came walked (row begun) comes)) t

  -- where memory was wanting behind it, it was given up at its end
  row_given_up : IsOk came → new ≡ behind old.proofs walked → IsCutShort old new (row old)
  row_given_up ok e = by_came came ok refl
    where
      by_came : (c : Result A RowEnd) → IsOk c → came ≡ c → IsCutShort old new (row old)
      by_came (Ok x) ok is =
          let made : row old ≡ done (view x) new = row_made (Ok (Ok x)) (ap settled is, e) in
          record {
            told = record { more = walked.proofs; lines = ap (λ (w : Work). w.proofs) e };
            untold = subst (λ (o : Outcome Work Reply). TellsMore new (work_after o)) (sym made) (no_more new);
          }
      by_came (Err s) ok is = absurd (cc)

  -- it ends by the cause of the fault
  row_ends : (c : Cause) → IsEndedBy came walked c old new → EndsBy c old new (row old)
  row_ends (refuses m) (r, is, t) = row_made (Ok (Err r)) t ∙ ap (λ (q : ModelRefusal). done (refusal q) new) is
  row_ends limited t = row_made (Err OpLimit) t
  row_ends wanting (inl e) = not_begun row old new (behind_tells row law) e
  row_ends wanting (inr (ok, e)) = row_given_up ok e

  -- the answer is that of the row
  pub row_answered : (result : Result A ParcelFault) → IsTaken came walked result old new → Answers view result old new row
  row_answered (Ok x) t = row_made (Ok (Ok x)) t
  row_answered (Err e) t = row_ends (cause_of e) t

-- ---- changes

-- the change that is answered is one that the lots may take
pub taken_fits : (n : ℕ) (lots : List (Lot (Unit {0}))) (came : Result (Replaced (List Part)) RowEnd) (r : Replaced (List Part)) → settled came ≡ Ok (Ok r) → IsFitFor n lots came → IsFitChange n lots r.ends.items (new_lots r.births.items r.forms.items)
taken_fits n lots (Ok q) r e h =
    let same : q ≡ r = cc in
    subst (λ (d : Replaced (List Part)). IsFitChange n lots d.ends.items (new_lots d.births.items d.forms.items)) same h
taken_fits n lots (Err (Refused q)) r e h = absurd (cc)
taken_fits n lots (Err (StoppedEnd s)) r e h = absurd (cc)

module _ (row : List (Lot (Unit {0})) → Walk Work Reply) (seen lots : List (Lot (Unit {0}))) (same : seen ≡ lots) (old begun walked new : Work) (is_fresh : begun ≡ fresh old) (came : Result (Replaced (List Part)) RowEnd) (comes : RowChanges (replaced_of (λ form. form)) came walked (row seen begun)) where
  -- the row of the lots
  change_comes : RowChanges (replaced_of (λ form. form)) came walked (row lots begun)
  change_comes = subst (λ (ls : List (Lot (Unit {0}))). RowChanges (replaced_of (λ form. form)) came walked (row ls begun)) same comes

  -- as the answer of a question
  change_answered : RowAnswers (λ r. accepted (replaced_of (λ form. form) r)) came walked (row lots begun)
  change_answered = change_answers (replaced_of (λ form. form)) came walked (row lots begun) change_comes

  -- the lots may take the change
  pub change_fits : (n : ℕ) → Fits lots n (row lots) → IsFitFor n lots came
  change_fits n law = by came change_comes
    where
      by : (c : Result (Replaced (List Part)) RowEnd) → RowChanges (replaced_of (λ form. form)) c walked (row lots begun) → IsFitFor n lots c
      by (Ok r) e = subst (λ (lists : List (List Part)). IsFitChange n lots r.ends.items (new_lots r.births.items lists)) (map-id r.forms.items) (law r.ends.items (new_lots r.births.items (map (λ form. form) r.forms.items)) begun walked e)
      by (Err e) h = tt

  -- its refusal is shown
  pub change_shown : ((w : Work) → Ends RowShown (row lots w)) → EndIsShown walked.proofs came
  change_shown law = end_shown (λ r. accepted (replaced_of (λ form. form) r)) came walked (row lots begun) (law begun) change_answered

  -- once it is made it is that of the row
  pub row_changed : ComesBehind (row lots) → (result : Result (Unit {0}) ParcelFault) (n : ℕ) (after : List (Lot (Unit {0}))) → IsMade came n walked result old new lots after → Changes result n old new lots after (row lots)
  row_changed law (Ok x) n after (r, t, e) = record {
    ids = r.ends.items;
    new = new_lots r.births.items (map (λ form. form) r.forms.items);
    says = row_made (λ r. accepted (replaced_of (λ form. form) r)) (row lots) law old begun walked new is_fresh came change_answered (Ok (Ok r)) t;
    lots = e;
  }
  row_changed law (Err f) n after (h, e) = (row_ends (λ r. accepted (replaced_of (λ form. form) r)) (row lots) law old begun walked new is_fresh came change_answered (cause_of f) h, e)
