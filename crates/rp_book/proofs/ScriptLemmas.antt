-- The lines of a script with lines behind it.
use Rattle.std.proofs.Common.{◌≡◌, ℕ, suc, ◌-◌, ◌+◌, ◌<◌, ◌==◌, Bool, true, false, cond, List, [], ◌∷◌, ◌++◌, length, map, refl, sym, ap, subst, ◌∙◌, arith, append_assoc, length-append}
use Rattle.std.specs.Prelude.{slice_index}
use Rattle.std.specs.List.{slice_split, onto_first}
use Rattle.std.proofs.lemmas.List.{append-nil, length-map}
use Rattle.std.proofs.lemmas.List.Splits.{length-slice_split}
use Rattle.rp_language.specs.Grammar.{Version, one, two}
use Rattle.rp_reports.specs.Text.{line_end}
use Rattle.rp_reports.specs.Report.{script_lines, lines_of_pieces, without_return, script_mark, version_by, body_of, script_version, script_body}
use Rattle.rp_scripts.proofs.LineLemmas.{lines_of_pieces-cons, script_lines-nil}
use Rattle.rp_book.specs.Lines.{HasEnd, last_number}

-- a text whose last byte ends a line is a front with that byte behind it
HasEnd-front : (text : List ℕ) → HasEnd text → (front : List ℕ) × (text ≡ front ++ line_end ∷ [])
HasEnd-front [] h = absurd (omega (arith, h.0))
HasEnd-front (b ∷ []) h = ([], ap (λ x. x ∷ []) h.1)
HasEnd-front (b ∷ d ∷ bs) h =
    let step : length (b ∷ d ∷ bs) - 1 ≡ suc (length (d ∷ bs) - 1) = omega arith in
    let more = HasEnd-front (d ∷ bs) (omega arith, subst (λ k. slice_index (b ∷ d ∷ bs) k ≡ line_end) step h.1) in
    (b ∷ more.0, ap (λ xs. b ∷ xs) more.1)

-- the pieces of a list are some
some-pieces : (p : ℕ → Bool) (xs : List ℕ) → 0 < length (slice_split p xs)
some-pieces p xs = omega (arith, length-slice_split p xs)

onto_first-append : (x : ℕ) (ps qs : List (List ℕ)) → 0 < length ps → onto_first x (ps ++ qs) ≡ onto_first x ps ++ qs
onto_first-append x [] qs h = absurd (omega arith)
onto_first-append x (p ∷ ps) qs h = refl

-- a list is cut at a separator within it
slice_split-append : (p : ℕ → Bool) (xs : List ℕ) (y : ℕ) (ys : List ℕ) → p y ≡ true → slice_split p (xs ++ y ∷ ys) ≡ slice_split p xs ++ slice_split p ys
slice_split-append p [] y ys e = rw e refl
slice_split-append p (x ∷ xs) y ys e =
    let more = slice_split-append p xs y ys e in
    let joined = ap (onto_first x) more ∙ onto_first-append x (slice_split p xs) (slice_split p ys) (some-pieces p xs) in
    go (p x) (slice_split p (xs ++ y ∷ ys)) (slice_split p xs) (slice_split p ys) more joined
  where
    go : (b : Bool) (all ps qs : List (List ℕ)) → all ≡ ps ++ qs → onto_first x all ≡ onto_first x ps ++ qs → cond b ([] ∷ all) (onto_first x all) ≡ cond b ([] ∷ ps) (onto_first x ps) ++ qs
    go true all ps qs more joined = ap (λ pieces. [] ∷ pieces) more
    go false all ps qs more joined = joined

-- each of the first pieces is a line
lines_of_pieces-append : (ps qs : List (List ℕ)) → 0 < length qs → lines_of_pieces (ps ++ qs) ≡ map without_return ps ++ lines_of_pieces qs
lines_of_pieces-append [] qs h = refl
lines_of_pieces-append (p ∷ ps) qs h =
    lines_of_pieces-cons p (ps ++ qs) (omega (arith, length-append ps qs)) ∙ ap (λ lines. without_return p ∷ lines) (lines_of_pieces-append ps qs h)

-- the lines of a front that ends a line, and of what stands behind it
front_lines : (front lines : List ℕ) → script_lines (front ++ line_end ∷ lines) ≡ map without_return (slice_split (λ b. b == line_end) front) ++ script_lines lines
unfolding script_lines
front_lines front lines =
    let split = λ (bytes : List ℕ). slice_split (λ b. b == line_end) bytes in
    ap lines_of_pieces (slice_split-append (λ b. b == line_end) front line_end lines refl)
    ∙ lines_of_pieces-append (split front) (split lines) (some-pieces (λ b. b == line_end) lines)

-- behind a script that ends a line stand further lines
pub script_lines-append : (script lines : List ℕ) → HasEnd script → (script_lines (script ++ lines) ≡ script_lines script ++ script_lines lines) × (0 < length (script_lines script))
script_lines-append script lines h =
    let split = HasEnd-front script h in
    let front = split.0 in
    let pieces = slice_split (λ b. b == line_end) front in
    let own : script_lines script ≡ map without_return pieces = ap script_lines split.1 ∙ front_lines front [] ∙ ap (λ ls. map without_return pieces ++ ls) script_lines-nil ∙ append-nil (map without_return pieces) in
    let all : script ++ lines ≡ front ++ line_end ∷ lines = ap (λ s. s ++ lines) split.1 ∙ append_assoc front (line_end ∷ []) lines in (
      ap script_lines all ∙ front_lines front lines ∙ ap (λ ls. ls ++ script_lines lines) (sym own),
      omega (arith, ap length own, length-map pieces without_return, some-pieces (λ b. b == line_end) front),
    )

version_by-append : (mark : List ℕ) (lines more : List (List ℕ)) → 0 < length lines → version_by mark (lines ++ more) ≡ version_by mark lines
version_by-append mark [] more h = absurd (omega arith)
version_by-append mark (line ∷ lines) more h = refl

body_of-append : (v : Version) (lines more : List (List ℕ)) → 0 < length lines → body_of v (lines ++ more) ≡ body_of v lines ++ more
body_of-append one lines more h = refl
body_of-append two [] more h = absurd (omega arith)
body_of-append two (line ∷ lines) more h = refl

-- the version of a script is that of its first line
pub script_version-append : (script lines : List ℕ) → HasEnd script → script_version (script ++ lines) ≡ script_version script
unfolding script_version
script_version-append script lines h =
    let split = script_lines-append script lines h in
    ap (version_by script_mark) split.0 ∙ version_by-append script_mark (script_lines script) (script_lines lines) split.1

-- lines behind a script are lines behind its body
pub script_body-append : (script lines : List ℕ) → HasEnd script → script_body (script ++ lines) ≡ script_body script ++ script_lines lines
unfolding script_body
script_body-append script lines h =
    let split = script_lines-append script lines h in
    ap (λ v. body_of v (script_lines (script ++ lines))) (script_version-append script lines h)
    ∙ ap (body_of (script_version script)) split.0 ∙ body_of-append (script_version script) (script_lines script) (script_lines lines) split.1

-- so many lines come behind a script
pub last_number-append : (script lines : List ℕ) → HasEnd script → last_number (script ++ lines) ≡ last_number script + length (script_lines lines)
last_number-append script lines h = ap length (script_body-append script lines h) ∙ length-append (script_body script) (script_lines lines)

-- what ends a line ends one behind other lines
pub HasEnd-behind : (script lines : List ℕ) → HasEnd lines → HasEnd (script ++ lines)
HasEnd-behind [] lines h = h
HasEnd-behind (b ∷ bs) lines h =
    let more = HasEnd-behind bs lines h in
    let step : length ((b ∷ bs) ++ lines) - 1 ≡ suc (length (bs ++ lines) - 1) = omega (arith, more.0) in
    (omega (arith, more.0), subst (λ k. slice_index ((b ∷ bs) ++ lines) k ≡ line_end) (sym step) more.1)
