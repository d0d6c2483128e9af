-- What is put for the lines of a body, one after the other, and what is left.
use Rattle.std.proofs.Common.{◌≡◌, ℕ, Bool, false, ◌||◌, List, [], ◌∷◌, ◌++◌, Option, sym, ap, ◌∙◌, subst, append_assoc}
use Rattle.std.proofs.Math.Bool.{or_assoc, or-false}
use Rattle.std.specs.List.{list_any, flat_map}
use Rattle.std.proofs.lemmas.List.{append-nil}
use Rattle.std.proofs.lemmas.List.Concat.{flat_map-append}
use Rattle.rp_io.specs.Bytes.{Appends, AppendsPrefix}
use Rattle.rp_language.specs.Grammar.{Version, reading}
use Rattle.rp_reports.specs.Report.{script_lines, script_version, script_body}
use Rattle.rp_reports.specs.Output.{has_bad_line, is_bad_reading}
use Rattle.rp_reports.specs.Text.{text_of_lines, line_end}
use Rattle.rp_scripts.specs.Output.{PutsLines}
use Rattle.rp_scripts.proofs.SinkLemmas.{Appends-append, AppendsPrefix-lines}

-- some line of a text is bad
abbrev pub has_bad : Version → List ℕ → Bool
has_bad v text = list_any (λ l. is_bad_reading (reading v l)) (script_lines text)

-- what was put of some lines, which are those of the lines of the body before the rest, and whether one of these is bad
pub record HasPutLines (lines_of : List ℕ → List (List ℕ)) (v : Version) (whole : List (List ℕ)) (some : Bool) (old now : Option (List ℕ)) (rest : List ℕ) (bad_before : Bool) : Type 0 where
  pub told : List (List ℕ)
  pub text : Appends old now (text_of_lines told)
  pub goes_on : told ++ flat_map lines_of (script_lines rest) ≡ whole
  pub mark : some ≡ (bad_before || has_bad v rest)

-- whether some line of the body of a script is bad
pub has_bad_line-body : (script body : List ℕ) (v : Version) → v ≡ script_version script → script_lines body ≡ script_body script → has_bad_line script ≡ has_bad v body
has_bad_line-body script body v version lines =
    ap (λ (u : Version). list_any (λ l. is_bad_reading (reading u l)) (script_body script)) (sym version) ∙ ap (list_any (λ l. is_bad_reading (reading v l))) (sym lines)

-- one more line
pub HasPutLines-more : (lines_of : List ℕ → List (List ℕ)) (v : Version) (whole : List (List ℕ)) (some : Bool) (old now new : Option (List ℕ)) (rest line behind : List ℕ) (bad_before also : Bool)
    → HasPutLines lines_of v whole some old now rest bad_before → script_lines rest ≡ line ∷ script_lines behind → PutsLines (lines_of line) (reading v line) now new also
    → HasPutLines lines_of v whole some old new behind (bad_before || also)
HasPutLines-more lines_of v whole some old now new rest line behind bad_before also h e p =
    let lines = lines_of line in
    let later = flat_map lines_of (script_lines behind) in
    let next : lines ++ later ≡ flat_map lines_of (script_lines rest) = sym (ap (flat_map lines_of) e) in
    let marks : has_bad v rest ≡ (is_bad_reading (reading v line) || has_bad v behind) = ap (list_any (λ l. is_bad_reading (reading v l))) e in
    record {
      told = h.told ++ lines;
      text = subst (Appends old new) (sym (flat_map-append (λ l. l ++ line_end ∷ []) h.told lines)) (Appends-append old now new (text_of_lines h.told) (text_of_lines lines) h.text p.text);
      goes_on = append_assoc h.told lines later ∙ ap (λ ls. h.told ++ ls) next ∙ h.goes_on;
      mark = h.mark ∙ ap (λ b. bad_before || b) (marks ∙ ap (λ b. b || has_bad v behind) (sym p.mark)) ∙ sym (or_assoc bad_before also (has_bad v behind));
    }

-- at the end all was put
pub HasPutLines-end : (lines_of : List ℕ → List (List ℕ)) (v : Version) (whole : List (List ℕ)) (some : Bool) (old now : Option (List ℕ)) (rest : List ℕ) (bad_before : Bool)
    → HasPutLines lines_of v whole some old now rest bad_before → script_lines rest ≡ [] → Appends old now (text_of_lines whole) × (bad_before ≡ some)
HasPutLines-end lines_of v whole some old now rest bad_before h e =
    let all : h.told ≡ whole = sym (append-nil h.told) ∙ ap (λ ls. h.told ++ flat_map lines_of ls) (sym e) ∙ h.goes_on in
    let good : has_bad v rest ≡ false = ap (list_any (λ l. is_bad_reading (reading v l))) e in
    (subst (λ ls. Appends old now (text_of_lines ls)) all h.text, sym (h.mark ∙ ap (λ b. bad_before || b) good ∙ or-false bad_before))

-- where the lines for one line were not put whole, a front of all was put
pub HasPutLines-front : (lines_of : List ℕ → List (List ℕ)) (v : Version) (whole : List (List ℕ)) (some : Bool) (old now new : Option (List ℕ)) (rest line behind : List ℕ) (bad_before : Bool)
    → HasPutLines lines_of v whole some old now rest bad_before → script_lines rest ≡ line ∷ script_lines behind → AppendsPrefix now new (text_of_lines (lines_of line)) → AppendsPrefix old new (text_of_lines whole)
HasPutLines-front lines_of v whole some old now new rest line behind bad_before h e put =
    let lines = lines_of line in
    let later = flat_map lines_of (script_lines behind) in
    let next : lines ++ later ≡ flat_map lines_of (script_lines rest) = sym (ap (flat_map lines_of) e) in
    AppendsPrefix-lines old now new h.told lines later whole h.text put (ap (λ ls. h.told ++ ls) next ∙ h.goes_on)
