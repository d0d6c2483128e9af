-- What the row of a command comes to before slices are shown: over two testers that answer alike it is the same, whatever slices they show.
use Rattle.std.proofs.Common.{◌≡◌, ℤ, true, false, ◌&&◌, List, [], ◌∷◌, Option, Some, None, refl, sym, ap, ◌∙◌, subst}
use Rattle.std.specs.Prelude.{option_map, is_none}
use Rattle.rp_geometry.specs.Geometry.{HalfSpace}
use Rattle.rp_geometry.specs.sets.Shape.{Part}
use Rattle.rp_language.specs.Name.{Label}
use Rattle.rp_language.specs.Expression.{Expression, Command, ask_audit, ask_section, first_unknown_among}
use Rattle.rp_semantics.specs.Walk.{Outcome, done, stopped, after_first, Walk, pass, ◌>>=◌, Tester}
use Rattle.rp_semantics.specs.Form.{form}
use Rattle.rp_model.specs.states.State.{PlainState, parts_in}
use Rattle.rp_model.specs.commands.Verdict.{Refusal, unknown}
use Rattle.rp_model.specs.commands.Reply.{Reply, refusal, check}
use Rattle.rp_model.specs.commands.Definition.{with_form}
use Rattle.rp_model.specs.commands.Section.{row_section}
use Rattle.rp_model.specs.commands.Row.{row}
use Rattle.rp_reports.specs.Check.{limit_allowed}
use Rattle.rp_parametricity.proofs.Likeness.{Likeness, PartsHave, ExpressionHas, Related, Audited}
use Rattle.rp_parametricity.proofs.Forms.{form_alike}
use Rattle.rp_parametricity.proofs.Kept.{MayRefuse, StateHas, CommandHas, ReplyHas, IsOther, may_map, unknown_among_has, meaning_has}
use Rattle.rp_checker_completeness.proofs.Commands.{Kind, an_audit, a_section, another, kind_of, checked, ready, row_is_ready}
use Rattle.rp_parametricity.proofs.Rows.{row_alike, audit_alike}

-- a reply, or the parts whose slices at a height are due
pub data Due : Type 0 where
  replied : Reply → Due
  sliced : ℤ → List Part → Due

-- what is true of a reply; nothing is asked of parts whose slices are due
abbrev pub DueHas : (HalfSpace → Type 0) → (Label → Type 0) → Due → Type 0
DueHas P N (replied r) = ReplyHas P N r
DueHas P N (sliced z ps) = Unit {0}

-- ---- the row before slices are shown

-- a check that comes before the rest
abbrev pub check_due : {W : Type 0} → Option Refusal → Walk W Due → Walk W Due
check_due None rest = rest
check_due (Some r) rest = pass (replied (refusal r))

-- the row of a section, up to its slices
abbrev pub section_row : {W : Type 0} → Tester W → PlainState → Expression → ℤ → Walk W Due
section_row t s e z = check_due (option_map unknown (first_unknown_among (parts_in s) (e ∷ []))) (form t (parts_in s) e >>= λ ps. pass (sliced z ps))

-- the row of another command
abbrev pub reply_row : {W : Type 0} → Tester W → PlainState → Command → Walk W Due
reply_row t s c = row t s c >>= λ r. pass (replied r)

-- the row of a command, up to its slices
abbrev pub due_row : {W : Type 0} → Tester W → PlainState → Command → Walk W Due
due_row t s (ask_section e z) = section_row t s e z
due_row t s c = reply_row t s c

-- that of a command other than a section
other_row : {W : Type 0} (t : Tester W) (s : PlainState) (c : Command) → IsOther c → due_row t s c ≡ reply_row t s c
other_row t s (ask_section e z) o = absurd o
other_row t s _ o = refl

-- ---- over two testers

module _ {V W : Type 0} (like : Likeness V W) (P : HalfSpace → Type 0) (N : Label → Type 0) (one : Tester V) (two : Tester W) (r : Related like P one two) (a : Audited like P one two) (s : PlainState) (h : StateHas P N s) where
  -- a reply
  replied_alike : (m : Walk V Reply) (k : Walk W Reply) → like.Alike (ReplyHas P N) m k → like.Alike (DueHas P N) (m >>= λ r. pass (replied r)) (k >>= λ r. pass (replied r))
  replied_alike m k g = like.binds (ReplyHas P N) (DueHas P N) _ _ _ _ g λ r i. like.passes (DueHas P N) (replied r) i

  -- a check that comes before the rest
  checked_alike : (o : Option Refusal) (m : Walk V Due) (k : Walk W Due) → MayRefuse N o → like.Alike (DueHas P N) m k → like.Alike (DueHas P N) (check_due o m) (check_due o k)
  checked_alike None m k i g = g
  checked_alike (Some f) m k i g = like.passes (DueHas P N) (replied (refusal f)) ((i, tt), tt)

  -- a section
  section_alike : (e : Expression) (z : ℤ) → ExpressionHas P N e → like.Alike (DueHas P N) (section_row one s e z) (section_row two s e z)
  section_alike e z g =
      checked_alike _ _ _ (may_map N unknown (λ _ n. n) (first_unknown_among (parts_in s) (e ∷ [])) (unknown_among_has P N (parts_in s) (e ∷ []) (g, tt)))
      (like.binds (PartsHave P) (DueHas P N) _ _ _ _ (form_alike like P one two r N (parts_in s) (meaning_has P N s h) e g) λ ps _. like.passes (DueHas P N) (sliced z ps) tt)

  -- each command
  pub due_alike : (c : Command) → CommandHas P N c → like.Alike (DueHas P N) (due_row one s c) (due_row two s c)
  due_alike c k = by_kind (kind_of c)
    where
      by_kind : Kind c → like.Alike (DueHas P N) (due_row one s c) (due_row two s c)
      by_kind (an_audit e) = subst (λ d. like.Alike (DueHas P N) (due_row one s d) (due_row two s d)) (sym e) (replied_alike _ _ (audit_alike like P N one two a s h))
      by_kind (a_section e z i) = subst (λ d. like.Alike (DueHas P N) (due_row one s d) (due_row two s d)) (sym i) (section_alike e z (subst (λ d. CommandHas P N d) i k).shapes.0)
      by_kind (another o) =
          subst (λ m. like.Alike (DueHas P N) m (due_row two s c)) (sym (other_row one s c o))
          (subst (λ m. like.Alike (DueHas P N) (reply_row one s c) m) (sym (other_row two s c o)) (replied_alike _ _ (row_alike like P N one two r s h c k o)))

-- ---- the row of a command again

-- the slices are shown, where some are due
abbrev pub finish : {W : Type 0} → Tester W → Due → Walk W Reply
finish t (replied r) = pass r
finish t (sliced z ps) = row_section t z ps

-- the row of a command is the one up to its slices, and then they are shown
pub row_is_due : {W : Type 0} (t : Tester W) (s : PlainState) (c : Command) (w : W) → row t s c w ≡ after_first (finish t) (due_row t s c w)
row_is_due {W} t s c w = by_kind (kind_of c)
  where
    replied_back : (o : Outcome W Reply) → o ≡ after_first (finish t) (after_first (λ r. pass (replied r)) o)
    replied_back (done r v) = refl
    replied_back (stopped e v) = refl

    sliced_back : (z : ℤ) (o : Outcome W (List Part)) → after_first (λ ps. row_section t z ps) o ≡ after_first (finish t) (after_first (λ ps. pass (sliced z ps)) o)
    sliced_back z (done ps v) = refl
    sliced_back z (stopped e v) = refl

    section_back : (e : Expression) (z : ℤ) (o : Option Label) → check (option_map unknown o) (with_form t (parts_in s) e λ ps. row_section t z ps) w ≡ after_first (finish t) (check_due (option_map unknown o) (form t (parts_in s) e >>= λ ps. pass (sliced z ps)) w)
    section_back e z None = sliced_back z (form t (parts_in s) e w)
    section_back e z (Some x) = refl

    by_kind : Kind c → row t s c w ≡ after_first (finish t) (due_row t s c w)
    by_kind (an_audit e) = subst (λ d. row t s d w ≡ after_first (finish t) (due_row t s d w)) (sym e) (replied_back (row t s ask_audit w))
    by_kind (a_section e z i) = subst (λ d. row t s d w ≡ after_first (finish t) (due_row t s d w)) (sym i) (section_back e z (first_unknown_among (parts_in s) (e ∷ [])))
    by_kind (another o) = replied_back (row t s c w) ∙ ap (λ (m : Walk W Due). after_first (finish t) (m w)) (sym (other_row t s c o))

-- where no limit may be told, no test is made, and no slice is due
pub due_is_ready : {W : Type 0} (t : Tester W) (s : PlainState) (c : Command) → limit_allowed s c ≡ false → (w : W) → due_row t s c w ≡ done (replied (ready s c)) w
due_is_ready {W} t s c l w = by_kind (kind_of c)
  where
    from_row : due_row t s c ≡ reply_row t s c → due_row t s c w ≡ done (replied (ready s c)) w
    from_row e = ap (λ (m : Walk W Due). m w) e ∙ ap (after_first (λ r. pass (replied r))) (row_is_ready t s c l w)

    by_unknown : (m : Walk W Due) (r : Reply) (o : Option Label) → (true && is_none o) ≡ false → check_due (option_map unknown o) m w ≡ done (replied (checked (option_map unknown o) r)) w
    by_unknown m r None f = absurd (cc)
    by_unknown m r (Some x) f = refl

    by_kind : Kind c → due_row t s c w ≡ done (replied (ready s c)) w
    by_kind (an_audit e) = from_row (subst (λ d. due_row t s d ≡ reply_row t s d) (sym e) refl)
    by_kind (another o) = from_row (other_row t s c o)
    by_kind (a_section e z i) =
        subst (λ d. due_row t s d w ≡ done (replied (ready s d)) w) (sym i)
        (by_unknown (form t (parts_in s) e >>= λ ps. pass (sliced z ps)) (refusal Refusal.limit) (first_unknown_among (parts_in s) (e ∷ [])) (subst (λ d. limit_allowed s d ≡ false) i l))
