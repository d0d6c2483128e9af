-- Acts that come to the end of the log of a book.
use Rattle.std.proofs.Common.{◌≡◌, ℕ, get_or, map, add-one, ◌+◌, ◌<◌, List, [], ◌∷◌, ◌++◌, length, take, drop, Option, None, Some, IfSome, refl, sym, ap, ap₂, ◌∙◌, subst, arith, append_assoc, length-append}
use Rattle.std.specs.Prelude.{Bool, IsTrue, flat_map, option_map}
use Rattle.std.specs.List.{slice_range}
use Rattle.std.proofs.Math.Seq.{drop-cons, take-append_seam}
use Rattle.std.proofs.lemmas.List.{append-nil}
use Rattle.std.proofs.lemmas.List.Concat.{flat_map-append}
use Rattle.rp_io.specs.Bytes.{Appends}
use Rattle.rp_scripts.proofs.SinkLemmas.{Appends-append, Appends-nothing}
use Rattle.rp_book.specs.Act.{AreActs, GainsAct, HasActs, HasNumbers, Told, added_act}
use Rattle.rp_book.specs.Kept.{Recoverable, IsCrashAtomic, Stays}
use Rattle.rp_book.specs.Lines.{last_number}
use Rattle.rp_book.specs.declared.act.Entry.{Entry}
use Rattle.rp_book.proofs.ActLemmas.{HasActs-push}
use Rattle.rp_book.proofs.SliceLemmas.{slice-middle}
use Rattle.rp_reports.specs.Report.{script_body, script_lines, script_version}
use Rattle.rp_seal.specs.Act.{ActEntry, entry_of}
use Rattle.rp_seal.specs.declared.act.SealedAct.{SealedAct}
use Rattle.rp_sealed_book.specs.Log.{entries_from, entry_at, log_of}
use Rattle.rp_book_service.specs.Joined.{MayTake}
use Rattle.rp_book_service.specs.Replayed.{Continue, RecoversBeginning, GainsEntries, IsNext, LogGrew, entry_lines}

-- no line of an empty script has a number
pub last_number-nothing : last_number [] ≡ 0
unfolding script_body script_version script_lines
last_number-nothing = refl

-- the entries of acts and of one more act, whose lines come after their script
entries-push : (script before : List ℕ) (number : ℕ) (acts : List Told) (ls : List (List ℕ)) (lines : List ℕ) (told : Told) → AreActs before acts ls → script ≡ before ++ flat_map (λ l. l) ls → told.end ≡ length (script ++ lines)
    → entries_from (script ++ lines) number (length before) (acts ++ told ∷ []) ≡ entries_from script number (length before) acts ++ entry_at (number + length acts) lines told ∷ []
entries-push script before number [] [] lines told h e end =
    let same : script ≡ before = e ∙ append-nil before in
    let whole : script ++ lines ≡ before ++ (lines ++ []) = ap (λ s. s ++ lines) same ∙ ap (λ l. before ++ l) (sym (append-nil lines)) in
    let long : told.end ≡ length (before ++ lines) = end ∙ ap (λ s. length (s ++ lines)) same in
    let slice : slice_range (script ++ lines) (length before) told.end ≡ lines = ap (slice_range (script ++ lines) (length before)) long ∙ slice-middle (script ++ lines) before lines [] whole in
    let count : number ≡ number + length {A = Told} [] = omega arith in
    ap₂ (λ (n : ℕ) (l : List ℕ). entry_at n l told ∷ []) count slice
entries-push script before number [] (l ∷ ls) lines told h e end = absurd h
entries-push script before number (a ∷ acts) [] lines told h e end = absurd h
entries-push script before number (a ∷ acts) (l ∷ ls) lines told h e end =
    let rest = flat_map (λ x. x) ls in
    let whole : script ≡ (before ++ l) ++ rest = e ∙ sym (append_assoc before l rest) in
    let longer : script ++ lines ≡ before ++ (l ++ (rest ++ lines)) = ap (λ s. s ++ lines) e ∙ append_assoc before (l ++ rest) lines ∙ ap (λ x. before ++ x) (append_assoc l rest lines) in
    let slice : slice_range script (length before) a.end ≡ l = ap (slice_range script (length before)) h.0.end ∙ slice-middle script before l rest e in
    let slice_now : slice_range (script ++ lines) (length before) a.end ≡ l = ap (slice_range (script ++ lines) (length before)) h.0.end ∙ slice-middle (script ++ lines) before l (rest ++ lines) longer in
    let count : number + 1 + length acts ≡ number + length (a ∷ acts) = omega arith in
    let later = entries-push script (before ++ l) (number + 1) acts ls lines told h.1 whole end in
    let others : entries_from (script ++ lines) (number + 1) a.end (acts ++ told ∷ []) ≡ entries_from script (number + 1) a.end acts ++ entry_at (number + length (a ∷ acts)) lines told ∷ [] =
    ap (λ n. entries_from (script ++ lines) (number + 1) n (acts ++ told ∷ [])) h.0.end ∙ later
    ∙ ap₂ (λ (n k : ℕ). entries_from script (number + 1) n acts ++ entry_at k lines told ∷ []) (sym h.0.end) count in
    ap₂ (λ (x : List ℕ) (xs : List ActEntry). entry_at number x a ∷ xs) (slice_now ∙ sym slice) others

-- the log of a script with the lines of one more act, of which an entry speaks, is the log before and the entry
pub log-push : (script : List ℕ) (acts : List Told) (act : SealedAct) (entry : Entry) → HasActs script acts → IsNext script (length acts) (entry_of act)
    → entry.added.now ≡ act.added.now → option_map (λ t. t.now) entry.who ≡ option_map (λ t. t.now) act.who → option_map (λ t. t.now) entry.deed ≡ option_map (λ t. t.now) act.deed
    → log_of (script ++ act.lines.now) (acts ++ added_act script act.lines.now entry ∷ []) ≡ log_of script acts ++ entry_of act ∷ []
log-push script acts act entry h next added who deed =
    let number : 1 + length acts ≡ act.number = omega (arith, next.number) in
    let same : entry_at (1 + length acts) act.lines.now (added_act script act.lines.now entry) ≡ entry_of act =
    λ i. record { number = number i; first = sym next.first i; last = sym next.last i; added = added i; who = who i; deed = deed i; lines = act.lines.now } in
    entries-push script [] 1 acts h.lines act.lines.now (added_act script act.lines.now entry) h.numbers h.whole refl ∙ ap (λ x. log_of script acts ++ x ∷ []) same

-- an act came to a script and acts: its entry came to the end of their log
pub record IsPushed (told : Option (List ℕ)) (listed : Option (List Told)) (script : List ℕ) (acts : List Told) (e : ActEntry) (count : ℕ) : Type 0 where
  pub script_before : List ℕ
  pub acts_before : List Told
  pub was_told : told ≡ Some script_before
  pub was_listed : listed ≡ Some acts_before
  pub log : log_of script acts ≡ log_of script_before acts_before ++ e ∷ []
  pub counted : count + 1 ≡ length acts
  pub has_acts : HasActs script acts

pushed : (script : List ℕ) (count : ℕ) (act : SealedAct) (entry : Entry) (told : Option (List ℕ)) (listed : Option (List Told)) (after : List ℕ) (acts : List Told)
    → IsNext script count (entry_of act) → entry.added.now ≡ act.added.now → option_map (λ t. t.now) entry.who ≡ option_map (λ t. t.now) act.who → option_map (λ t. t.now) entry.deed ≡ option_map (λ t. t.now) act.deed
    → IfSome told (λ kept. (script ≡ kept) × IfSome listed (λ found. (count ≡ length found) × HasActs kept found))
    → Appends told (Some after) act.lines.now → IfSome told (λ kept. GainsAct listed (Some acts) (added_act kept act.lines.now entry)) → IsPushed told listed after acts (entry_of act) count
pushed script count act entry None listed after acts next added who deed is app gains = let e = app.1 in absurd (cc)
pushed script count act entry (Some kept) None after acts next added who deed is app gains = let e = gains.1 in absurd (cc)
pushed script count act entry (Some kept) (Some found) after acts next added who deed is app gains =
    let e = app.1 in
    let f = gains.1 in
    let before : app.0 ≡ kept = (cc) in
    let before_acts : gains.0 ≡ found = (cc) in
    let whole : after ≡ kept ++ act.lines.now = app.2 ∙ ap (λ s. s ++ act.lines.now) before in
    let act_told : Told = added_act kept act.lines.now entry in
    let all : acts ≡ found ++ act_told ∷ [] = gains.2 ∙ ap (λ a. a ++ act_told ∷ []) before_acts in
    let here : IsNext kept (length found) (entry_of act) = subst (λ n. IsNext kept n (entry_of act)) is.1.0 (subst (λ s. IsNext s count (entry_of act)) is.0 next) in
    let log = log-push kept found act entry is.1.1 here added who deed in
    let numbers : HasNumbers kept act.lines.now act_told = record { ended = here.ended; first = refl; last = refl; end = refl } in
    let has : HasActs (kept ++ act.lines.now) (found ++ act_told ∷ []) = HasActs-push kept found act_told act.lines.now is.1.1 numbers in
    record {
      script_before = kept;
      acts_before = found;
      was_told = refl;
      was_listed = refl;
      log = ap₂ (λ (s : List ℕ) (a : List Told). log_of s a) whole all ∙ log;
      counted = omega (arith, is.1.0, ap length all, length-append found (act_told ∷ []));
      has_acts = subst (λ s. HasActs s acts) (sym whole) (subst (λ a. HasActs (kept ++ act.lines.now) a) (sym all) has);
    }

-- what a book keeps after an act was added to it
may-go : (script : List ℕ) (count : ℕ) (act : SealedAct) (entry : Entry) (told told_now : Option (List ℕ)) (listed listed_now : Option (List Told))
    → IsNext script count (entry_of act) → entry.added.now ≡ act.added.now → option_map (λ t. t.now) entry.who ≡ option_map (λ t. t.now) act.who → option_map (λ t. t.now) entry.deed ≡ option_map (λ t. t.now) act.deed
    → IfSome told (λ kept. (script ≡ kept) × IfSome listed (λ found. (count ≡ length found) × HasActs kept found))
    → Appends told told_now act.lines.now → IfSome told (λ kept. GainsAct listed listed_now (added_act kept act.lines.now entry))
    → IfSome told_now (λ kept. (script ++ act.lines.now ≡ kept) × IfSome listed_now (λ found. (count + 1 ≡ length found) × HasActs kept found))
may-go script count act entry told None listed listed_now next added who deed is app gains = tt
may-go script count act entry None (Some after) listed listed_now next added who deed is app gains = let e = app.1 in absurd (cc)
may-go script count act entry (Some kept) (Some after) listed None next added who deed is app gains =
    let e = app.1 in
    let before : app.0 ≡ kept = (cc) in
    (ap (λ s. s ++ act.lines.now) (is.0 ∙ sym before) ∙ sym app.2, tt)
may-go script count act entry (Some kept) (Some after) listed (Some acts) next added who deed is app gains =
    let e = app.1 in
    let before : app.0 ≡ kept = (cc) in
    let p = pushed script count act entry (Some kept) listed after acts next added who deed is app gains in
    (ap (λ s. s ++ act.lines.now) (is.0 ∙ sym before) ∙ sym app.2, (p.counted, p.has_acts))

-- after the next act is added, the others may be taken
pub may-take-more : (told told_now : Option (List ℕ)) (listed listed_now : Option (List Told)) (act : SealedAct) (entry : Entry) (more : List ActEntry) → MayTake told listed (entry_of act ∷ more)
    → entry.added.now ≡ act.added.now → option_map (λ t. t.now) entry.who ≡ option_map (λ t. t.now) act.who → option_map (λ t. t.now) entry.deed ≡ option_map (λ t. t.now) act.deed
    → Appends told told_now act.lines.now → IfSome told (λ kept. GainsAct listed listed_now (added_act kept act.lines.now entry)) → MayTake told_now listed_now more
may-take-more told told_now listed listed_now act entry more m added who deed app gains = record {
  script = m.script ++ act.lines.now;
  count = m.count + 1;
  is = may-go m.script m.count act entry told told_now listed listed_now m.continues.0 added who deed m.is app gains;
  continues = m.continues.1;
}

-- nothing was added
pub gains-nothing : (told : Option (List ℕ)) (listed : Option (List Told)) → GainsEntries told listed told listed []
gains-nothing None listed = tt
gains-nothing (Some script) None = tt
gains-nothing (Some script) (Some acts) = record { script_before = script; acts_before = acts; was_told = refl; was_listed = refl; log = sym (append-nil (log_of script acts)) }

-- entries came to the end of a log, and then one more
gains-more : (told middle new : Option (List ℕ)) (listed middle_acts new_acts : Option (List Told)) (script : List ℕ) (count : ℕ) (act : SealedAct) (entry : Entry) (done : List ActEntry)
    → GainsEntries told listed middle middle_acts done → IsNext script count (entry_of act)
    → entry.added.now ≡ act.added.now → option_map (λ t. t.now) entry.who ≡ option_map (λ t. t.now) act.who → option_map (λ t. t.now) entry.deed ≡ option_map (λ t. t.now) act.deed
    → IfSome middle (λ kept. (script ≡ kept) × IfSome middle_acts (λ found. (count ≡ length found) × HasActs kept found))
    → Appends middle new act.lines.now → IfSome middle (λ kept. GainsAct middle_acts new_acts (added_act kept act.lines.now entry))
    → GainsEntries told listed new new_acts (done ++ entry_of act ∷ [])
gains-more told middle None listed middle_acts new_acts script count act entry done before next added who deed is app gains = tt
gains-more told middle (Some after) listed middle_acts None script count act entry done before next added who deed is app gains = tt
gains-more told middle (Some after) listed middle_acts (Some acts) script count act entry done before next added who deed is app gains =
    let p = pushed script count act entry middle middle_acts after acts next added who deed is app gains in
    let grew : LogGrew told listed p.script_before p.acts_before done =
    subst (λ (a : Option (List Told)). GainsEntries told listed (Some p.script_before) a done) p.was_listed (subst (λ (s : Option (List ℕ)). GainsEntries told listed s middle_acts done) p.was_told before) in
    record {
      script_before = grew.script_before;
      acts_before = grew.acts_before;
      was_told = grew.was_told;
      was_listed = grew.was_listed;
      log = p.log ∙ ap (λ l. l ++ entry_of act ∷ []) grew.log ∙ append_assoc (log_of grew.script_before grew.acts_before) done (entry_of act ∷ []);
    }

-- a call that failed left the log
pub gains-stay : (told middle new : Option (List ℕ)) (listed middle_acts new_acts : Option (List Told)) (done : List ActEntry) → GainsEntries told listed middle middle_acts done
    → Stays middle new → Stays middle_acts new_acts → GainsEntries told listed new new_acts done
gains-stay told middle None listed middle_acts new_acts done before same same_acts = tt
gains-stay told middle (Some after) listed middle_acts None done before same same_acts = tt
gains-stay told middle (Some after) listed middle_acts (Some acts) done before same same_acts =
    subst (λ (a : Option (List Told)). GainsEntries told listed (Some after) a done) same_acts (subst (λ (s : Option (List ℕ)). GainsEntries told listed s middle_acts done) same before)

-- some of entries were added to a book, and the rest were not
pub record IsTaken (told now : Option (List ℕ)) (listed listed_now : Option (List Told)) (entries rest : List ActEntry) : Type 0 where
  pub done : List ActEntry
  pub all : entries ≡ done ++ rest
  pub script : Appends told now (entry_lines done)
  pub log : GainsEntries told listed now listed_now done

-- at the start none is added
pub taken-start : (told : Option (List ℕ)) (listed : Option (List Told)) (entries : List ActEntry) → IsTaken told told listed listed entries entries
taken-start told listed entries = record { done = []; all = refl; script = Appends-nothing told; log = gains-nothing told listed }

-- one more entry is added
pub taken-more : (told middle new : Option (List ℕ)) (listed middle_acts new_acts : Option (List Told)) (entries more : List ActEntry) (act : SealedAct) (entry : Entry)
    → IsTaken told middle listed middle_acts entries (entry_of act ∷ more) → MayTake middle middle_acts (entry_of act ∷ more)
    → entry.added.now ≡ act.added.now → option_map (λ t. t.now) entry.who ≡ option_map (λ t. t.now) act.who → option_map (λ t. t.now) entry.deed ≡ option_map (λ t. t.now) act.deed
    → Appends middle new act.lines.now → IfSome middle (λ kept. GainsAct middle_acts new_acts (added_act kept act.lines.now entry)) → IsTaken told new listed new_acts entries more
taken-more told middle new listed middle_acts new_acts entries more act entry t m added who deed app gains =
    let lines : entry_lines (t.done ++ entry_of act ∷ []) ≡ entry_lines t.done ++ act.lines.now =
    flat_map-append (λ (e : ActEntry). e.lines) t.done (entry_of act ∷ []) ∙ ap (λ l. entry_lines t.done ++ l) (append-nil act.lines.now) in
    record {
      done = t.done ++ entry_of act ∷ [];
      all = t.all ∙ sym (append_assoc t.done (entry_of act ∷ []) more);
      script = subst (Appends told new) (sym lines) (Appends-append told middle new (entry_lines t.done) act.lines.now t.script app);
      log = gains-more told middle new listed middle_acts new_acts m.script m.count act entry t.done t.log m.continues.0 added who deed m.is app gains;
    }

-- the script with the lines of one more entry is that with the lines of a beginning of all entries
next-passes : (told middle : Option (List ℕ)) (entries done more : List ActEntry) (e : ActEntry) (test : List ℕ → Bool) → entries ≡ done ++ e ∷ more → Appends told middle (entry_lines done)
    → IfSome told (λ script. (n : ℕ) → IsTrue (test (script ++ entry_lines (take n entries)))) → IfSome middle (λ before. IsTrue (test (before ++ e.lines)))
next-passes told None entries done more e test all app each = tt
next-passes None (Some after) entries done more e test all app each = let f = app.1 in absurd (cc)
next-passes (Some script) (Some after) entries done more e test all app each =
    let f = app.1 in
    let before : app.0 ≡ script = (cc) in
    let first : List ActEntry = done ++ e ∷ [] in
    let part : take (length first) entries ≡ first = ap (take (length first)) (all ∙ sym (append_assoc done (e ∷ []) more)) ∙ take-append_seam first more in
    let lines : entry_lines first ≡ entry_lines done ++ e.lines = flat_map-append (λ (x : ActEntry). x.lines) done (e ∷ []) ∙ ap (λ l. entry_lines done ++ l) (append-nil e.lines) in
    let start : script ++ entry_lines done ≡ after = ap (λ s. s ++ entry_lines done) (sym before) ∙ sym app.2 in
    let whole : script ++ entry_lines (take (length first) entries) ≡ after ++ e.lines =
    ap (λ es. script ++ entry_lines es) part ∙ ap (λ l. script ++ l) lines ∙ sym (append_assoc script (entry_lines done) e.lines) ∙ ap (λ s. s ++ e.lines) start in
    subst (λ s. IsTrue (test s)) whole (each (length first))

-- one more entry is found, or none
pub finds-more : (old between new : Recoverable) (told middle : Option (List ℕ)) (listed middle_acts : Option (List Told)) (entries more : List ActEntry) (e : ActEntry) → RecoversBeginning old between told entries
    → IsCrashAtomic between new middle e.lines → IsTaken told middle listed middle_acts entries (e ∷ more) → RecoversBeginning old new told entries
finds-more old between new told middle listed middle_acts entries more e before all t = λ test was each. all test (before test was each) (next-passes told middle entries t.done more e test t.all t.script each)

-- a beginning of entries was added
pub taken-part : (told now : Option (List ℕ)) (listed listed_now : Option (List Told)) (entries rest : List ActEntry) → IsTaken told now listed listed_now entries rest → (n : ℕ) × GainsEntries told listed now listed_now (take n entries)
taken-part told now listed listed_now entries rest t =
    let part : t.done ≡ take (length t.done) entries = sym (ap (take (length t.done)) t.all ∙ take-append_seam t.done rest) in
    (length t.done, subst (GainsEntries told listed now listed_now) part t.log)

-- all entries were added
pub taken-all : (told now : Option (List ℕ)) (listed listed_now : Option (List Told)) (entries : List ActEntry) (t : IsTaken told now listed listed_now entries []) → t.done ≡ entries
taken-all told now listed listed_now entries t = sym (t.all ∙ append-nil t.done)

-- the script and the acts of a book may take entries that continue a text, if they are the text and the acts
pub may-take : (told : Option (List ℕ)) (listed : Option (List Told)) (text : List ℕ) (acts : List Told) (count : ℕ) (entries : List ActEntry) → IfSome told (λ kept. text ≡ kept) → IfSome listed (λ kept. acts ≡ kept)
    → IfSome told (λ kept. HasActs kept acts) → count ≡ length acts → Continue text count entries → MayTake told listed entries
may-take told listed text acts count entries is_text is_acts has counted continues = record { script = text; count = count; is = go told listed is_text is_acts has; continues = continues }
  where
    go : (told : Option (List ℕ)) (listed : Option (List Told)) → IfSome told (λ kept. text ≡ kept) → IfSome listed (λ kept. acts ≡ kept) → IfSome told (λ kept. HasActs kept acts)
        → IfSome told (λ kept. (text ≡ kept) × IfSome listed (λ found. (count ≡ length found) × HasActs kept found))
    go None listed is_text is_acts has = tt
    go (Some kept) None is_text is_acts has = (is_text, tt)
    go (Some kept) (Some found) is_text is_acts has = (is_text, (counted ∙ ap length is_acts, subst (HasActs kept) is_acts has))

-- the entries of acts from an index on are the entry of the act there, and those after it
pub rest-next : (acts : List SealedAct) (i : ℕ) (other : SealedAct) → i < length acts → map entry_of (drop i acts) ≡ entry_of (get_or acts i other) ∷ map entry_of (drop (i + 1) acts)
rest-next acts i other below =
    ap (map entry_of) (drop-cons acts i other below) ∙ ap (λ n. entry_of (get_or acts i other) ∷ map entry_of (drop n acts)) (sym (add-one i))

-- no act, of which a fact is not claimed
abbrev pub no_act : SealedAct
no_act = record { number = 0; first = 0; last = 0; added = record { ref_ptr = (0, 0); now = [] }; who = None; deed = None; lines = record { ref_ptr = (0, 0); now = [] } }
