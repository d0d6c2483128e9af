-- The spellings of a script, and the script as one of the second version: the mark, and then the lines of the body.
use Rattle.std.proofs.Common.{◌≡◌, ℕ, Bool, false, List, [], ◌∷◌, ◌++◌, Option, refl, ap, ◌∙◌, subst}
use Rattle.std.specs.List.{flat_map}
use Rattle.std.proofs.lemmas.List.Concat.{flat_map_single}
use Rattle.rp_io.specs.Bytes.{Appends, AppendsPrefix}
use Rattle.rp_language.specs.Grammar.{Version, two, reading}
use Rattle.rp_reports.specs.Report.{script_lines, script_mark, marked, script_version, script_body}
use Rattle.rp_reports.specs.Output.{has_bad_line, spell_script, upgrade_script, spelled_lines, spelled_script}
use Rattle.rp_reports.specs.Text.{text_of_lines, line_end}
use Rattle.rp_reports.specs.Upgrade.{upgraded_line, upgraded_script}
use Rattle.rp_scripts.specs.Lines.{mark_text}
use Rattle.rp_scripts.specs.Output.{PutsFront, PutsOutput}
use Rattle.rp_scripts.proofs.BodyLemmas.{HasPutLines, HasPutLines-end, HasPutLines-front, has_bad_line-body}
use Rattle.rp_scripts.proofs.MarkLemmas.{marked-append, mark_text-lines}
use Rattle.rp_scripts.proofs.RunLemmas.{IsTrue-both}
use Rattle.rp_scripts.proofs.SinkLemmas.{Appends-nothing, AppendsPrefix-lines}

-- the lines that are put for a line by `script`
abbrev pub spelled_at : Version → List ℕ → List (List ℕ)
spelled_at v line = spelled_lines v (reading v line)

-- the line that is put for a line by `upgrade`
abbrev pub upgraded_at : Version → List ℕ → List (List ℕ)
upgraded_at v line = upgraded_line line (reading v line) ∷ []

-- ---- what the output of each is

-- the spellings are those of the body behind the mark
spelled_marked : (script body : List ℕ) (v : Version) → v ≡ script_version script → script_lines body ≡ script_body script → marked script_mark v [] ++ flat_map (spelled_at v) (script_lines body) ≡ spelled_script script
spelled_marked script body v version lines =
    marked-append script_mark v (flat_map (spelled_at v) (script_lines body)) ∙ ap (λ (ls : List (List ℕ)). marked script_mark v (flat_map (spelled_at v) ls)) lines
    ∙ ap (λ (u : Version). marked script_mark u (flat_map (spelled_at u) (script_body script))) version

-- the upgraded script is the mark and a line for each of the body
upgraded_marked : (script body : List ℕ) (v : Version) → v ≡ script_version script → script_lines body ≡ script_body script → marked script_mark two [] ++ flat_map (upgraded_at v) (script_lines body) ≡ upgraded_script script
unfolding upgraded_script
upgraded_marked script body v version lines =
    ap (λ (ls : List (List ℕ)). script_mark ∷ ls)
    (ap (flat_map (upgraded_at v)) lines ∙ ap (λ (u : Version). flat_map (upgraded_at u) (script_body script)) version
    ∙ flat_map_single (λ l. upgraded_line l (reading (script_version script) l)) (script_body script))

-- ---- from the start

-- the mark was put
marked_put : (text : List ℕ) (old now : Option (List ℕ)) (v : Version) → text ≡ script_mark ++ line_end ∷ [] → Appends old now (mark_text text v) → Appends old now (text_of_lines (marked script_mark v []))
marked_put text old now v is put = subst (Appends old now) (mark_text-lines script_mark text v is) put

-- where it was not put whole, a front of all was put
marked_front : (text : List ℕ) (old now : Option (List ℕ)) (v : Version) (more whole : List (List ℕ)) → text ≡ script_mark ++ line_end ∷ [] → AppendsPrefix old now (mark_text text v) → marked script_mark v [] ++ more ≡ whole
    → AppendsPrefix old now (text_of_lines whole)
marked_front text old now v more whole is put e =
    AppendsPrefix-lines old old now [] (marked script_mark v []) more whole (Appends-nothing old) (subst (AppendsPrefix old now) (mark_text-lines script_mark text v is) put) e

-- no spelling was put yet
pub HasPutLines-spell : (script body text : List ℕ) (old now : Option (List ℕ)) (v : Version) → v ≡ script_version script → script_lines body ≡ script_body script → text ≡ script_mark ++ line_end ∷ []
    → Appends old now (mark_text text v) → HasPutLines (spelled_at v) v (spelled_script script) (has_bad_line script) old now body false
HasPutLines-spell script body text old now v version lines is put =
    record { told = marked script_mark v []; text = marked_put text old now v is put; goes_on = spelled_marked script body v version lines; mark = has_bad_line-body script body v version lines }

-- no line of the body was put yet
pub HasPutLines-upgrade : (script body text : List ℕ) (old now : Option (List ℕ)) (v : Version) → v ≡ script_version script → script_lines body ≡ script_body script → text ≡ script_mark ++ line_end ∷ []
    → Appends old now (mark_text text two) → HasPutLines (upgraded_at v) v (upgraded_script script) (has_bad_line script) old now body false
HasPutLines-upgrade script body text old now v version lines is put =
    record { told = marked script_mark two []; text = marked_put text old now two is put; goes_on = upgraded_marked script body v version lines; mark = has_bad_line-body script body v version lines }

-- ---- the whole output

-- all spellings were put
pub PutsOutput-spell : (script : List ℕ) (v : Version) (old now : Option (List ℕ)) (rest : List ℕ) (bad_before : Bool) → HasPutLines (spelled_at v) v (spelled_script script) (has_bad_line script) old now rest bad_before
    → script_lines rest ≡ [] → PutsOutput spell_script script old now bad_before
PutsOutput-spell script v old now rest bad_before h e =
    let all = HasPutLines-end (spelled_at v) v (spelled_script script) (has_bad_line script) old now rest bad_before h e in
    record { lines = spelled_script script; output = refl; text = all.0; mark = IsTrue-both bad_before (has_bad_line script) all.1 }

-- all lines of the upgraded script were put
pub PutsOutput-upgrade : (script : List ℕ) (v : Version) (old now : Option (List ℕ)) (rest : List ℕ) (bad_before : Bool) → HasPutLines (upgraded_at v) v (upgraded_script script) (has_bad_line script) old now rest bad_before
    → script_lines rest ≡ [] → PutsOutput upgrade_script script old now bad_before
PutsOutput-upgrade script v old now rest bad_before h e =
    let all = HasPutLines-end (upgraded_at v) v (upgraded_script script) (has_bad_line script) old now rest bad_before h e in
    record { lines = upgraded_script script; output = refl; text = all.0; mark = IsTrue-both bad_before (has_bad_line script) all.1 }

-- ---- a front of it

-- a front of the spellings, where the mark was not put whole
pub PutsFront-spell_mark : (script body text : List ℕ) (old now : Option (List ℕ)) (v : Version) → v ≡ script_version script → script_lines body ≡ script_body script → text ≡ script_mark ++ line_end ∷ []
    → AppendsPrefix old now (mark_text text v) → PutsFront spell_script script old now
PutsFront-spell_mark script body text old now v version lines is put =
    record { lines = spelled_script script; output = refl; text = marked_front text old now v (flat_map (spelled_at v) (script_lines body)) (spelled_script script) is put (spelled_marked script body v version lines) }

-- a front of the upgraded script, where the mark was not put whole
pub PutsFront-upgrade_mark : (script body text : List ℕ) (old now : Option (List ℕ)) (v : Version) → v ≡ script_version script → script_lines body ≡ script_body script → text ≡ script_mark ++ line_end ∷ []
    → AppendsPrefix old now (mark_text text two) → PutsFront upgrade_script script old now
PutsFront-upgrade_mark script body text old now v version lines is put =
    record { lines = upgraded_script script; output = refl; text = marked_front text old now two (flat_map (upgraded_at v) (script_lines body)) (upgraded_script script) is put (upgraded_marked script body v version lines) }

-- a front of the spellings, where the command of a line was not put whole
pub PutsFront-spell : (script : List ℕ) (v : Version) (old now new : Option (List ℕ)) (rest line behind : List ℕ) (bad_before : Bool) → HasPutLines (spelled_at v) v (spelled_script script) (has_bad_line script) old now rest bad_before
    → script_lines rest ≡ line ∷ script_lines behind → AppendsPrefix now new (text_of_lines (spelled_at v line)) → PutsFront spell_script script old new
PutsFront-spell script v old now new rest line behind bad_before h e put =
    record { lines = spelled_script script; output = refl; text = HasPutLines-front (spelled_at v) v (spelled_script script) (has_bad_line script) old now new rest line behind bad_before h e put }

-- a front of the upgraded script, where the line for one was not put whole
pub PutsFront-upgrade : (script : List ℕ) (v : Version) (old now new : Option (List ℕ)) (rest line behind : List ℕ) (bad_before : Bool) → HasPutLines (upgraded_at v) v (upgraded_script script) (has_bad_line script) old now rest bad_before
    → script_lines rest ≡ line ∷ script_lines behind → AppendsPrefix now new (text_of_lines (upgraded_at v line)) → PutsFront upgrade_script script old new
PutsFront-upgrade script v old now new rest line behind bad_before h e put =
    record { lines = upgraded_script script; output = refl; text = HasPutLines-front (upgraded_at v) v (upgraded_script script) (has_bad_line script) old now new rest line behind bad_before h e put }
