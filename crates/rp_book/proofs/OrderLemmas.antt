-- The lines of an act have greater numbers than those of the acts before.
use Rattle.std.proofs.Common.{◌≡◌, ℕ, ◌+◌, ◌<◌, ◌≤◌, List, [], ◌∷◌, ◌++◌, length, refl, sym, ap, subst, ◌∙◌, arith}
use Rattle.rp_language.specs.Grammar.{Version, one, two}
use Rattle.rp_reports.specs.Report.{script_lines, script_version, script_body, body_of}
use Rattle.rp_book.specs.Act.{Told, AreActs, AreInOrder, HasActs}
use Rattle.rp_book.specs.Lines.{HasEnd, IsEnded, first_number, last_number, number_of_first}
use Rattle.rp_book.proofs.ScriptLemmas.{HasEnd-behind, last_number-append, script_lines-append}

-- lines with a line end have a line
some-lines : (lines : List ℕ) → HasEnd lines → 0 < length (script_lines lines)
some-lines lines h = (script_lines-append lines [] h).1

-- the number of the first line of a script is at most that of its last
first-of-script : (lines : List ℕ) → HasEnd lines → number_of_first (script_version lines) ≤ last_number lines
unfolding script_body
first-of-script lines h = go (script_version lines) (script_lines lines) (some-lines lines h)
  where
    go : (v : Version) (ls : List (List ℕ)) → 0 < length ls → number_of_first v ≤ length (body_of v ls)
    go one ls some = omega (arith, some)
    go two ls some = omega arith

-- the least number that a line after a script has
abbrev least_after : List ℕ → ℕ
least_after [] = 0
least_after (b ∷ bs) = last_number (b ∷ bs) + 1

least_after-some : (script : List ℕ) → 0 < length script → least_after script ≡ last_number script + 1
least_after-some [] some = absurd (omega (arith, some))
least_after-some (b ∷ bs) some = refl

-- the numbers of the lines that are added to a script
record IsAfter (before lines : List ℕ) : Type 0 where
  pub least : least_after before ≤ first_number before lines
  pub rises : first_number before lines ≤ last_number (before ++ lines)

is-after : (before lines : List ℕ) → IsEnded before → HasEnd lines → IsAfter before lines
is-after [] lines end ended = record { least = omega arith; rises = first-of-script lines ended }
is-after (b ∷ bs) lines end ended =
    let some : 0 < length (b ∷ bs) = omega arith in
    let last = last_number-append (b ∷ bs) lines (some, end some) in
    record { least = omega arith; rises = omega (arith, last, some-lines lines ended) }

in-order : (before : List ℕ) (acts : List Told) (lines : List (List ℕ)) → IsEnded before → AreActs before acts lines → AreInOrder (least_after before) acts
in-order before [] lines end h = tt
in-order before (a ∷ acts) [] end h = absurd h
in-order before (a ∷ acts) (ls ∷ more) end h =
    let is = is-after before ls end h.0.ended in
    let behind = HasEnd-behind before ls h.0.ended in
    let next : least_after (before ++ ls) ≡ a.last + 1 = least_after-some (before ++ ls) behind.0 ∙ ap (λ n. n + 1) (sym h.0.last) in (
      omega (arith, is.least, h.0.first),
      omega (arith, is.rises, h.0.first, h.0.last),
      subst (λ n. AreInOrder n acts) next (in-order (before ++ ls) acts more (λ _. behind.1) h.1),
    )

-- the acts of a script are in the order of their lines
pub HasActs-in_order : (script : List ℕ) (acts : List Told) → HasActs script acts → AreInOrder 0 acts
HasActs-in_order script acts h = in-order [] acts h.lines (λ some. absurd (omega (arith, some))) h.numbers
