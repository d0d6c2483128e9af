-- The word that a proof line begins with says how what stands behind it is read.
use Rattle.std.proofs.Common.{◌≡◌, List, Option, Some, None, ap, ◌∙◌}
use Rattle.std.specs.Prelude.{ℕ, codes, option_map}
use Rattle.rp_geometry.specs.searches.ProofLine.{ProofLine, in_line, out_line, at_line, apart_line, box_line}
use Rattle.rp_language.specs.Grammar.{Word}
use Rattle.rp_text.specs.Readers.{behind, ended, point, term, few_items, dropped, box_spelled, behind_or, proof}

-- a line that begins with the word
pub found : {A : Type 0} (word : Word) (line rest : List ℕ) (read : List ℕ → Option A) (other : Option A) → Some rest ≡ behind word line → read rest ≡ behind_or word line read other
found {A} word line rest read other e = ap (λ (o : Option (List ℕ)). elim o as (λ _. Option A) [ Some rest ↦ read rest | None ↦ other ]) e

-- a line that doesn't
pub missed : {A : Type 0} (word : Word) (line : List ℕ) (read : List ℕ → Option A) (other : Option A) → None ≡ behind word line → other ≡ behind_or word line read other
missed {A} word line read other e = ap (λ (o : Option (List ℕ)). elim o as (λ _. Option A) [ Some rest ↦ read rest | None ↦ other ]) e

-- ---- what is read behind each word, and by the words that are left

-- points that show a member
abbrev read_in : List ℕ → Option ProofLine
read_in rest = option_map in_line (few_items point rest)

-- multiples that show that there is none
abbrev read_out : List ℕ → Option ProofLine
read_out rest = option_map out_line (few_items term rest)

-- a point of a weak system
abbrev read_at : List ℕ → Option ProofLine
read_at rest = option_map at_line (ended (point rest))

-- multiples that show that a weak system has no point
abbrev read_apart : List ℕ → Option ProofLine
read_apart rest = option_map apart_line (few_items term rest)

-- a least box
abbrev read_box : List ℕ → Option ProofLine
read_box rest = option_map box_line (box_spelled rest)

-- the last word
abbrev from_box : List ℕ → Option ProofLine
from_box line = behind_or (codes "  box ") line read_box None

-- the last two words
abbrev from_drop : List ℕ → Option ProofLine
from_drop line = behind_or (codes "  drop ") line dropped (from_box line)

-- the last three words
abbrev from_apart : List ℕ → Option ProofLine
from_apart line = behind_or (codes "  apart") line read_apart (from_drop line)

-- the last four words
abbrev from_at : List ℕ → Option ProofLine
from_at line = behind_or (codes "  at ") line read_at (from_apart line)

-- all words but the first
abbrev from_out : List ℕ → Option ProofLine
from_out line = behind_or (codes "  out") line read_out (from_at line)

-- ---- which words the line doesn't begin with

-- not with the first
pub past_in : (line : List ℕ) → None ≡ behind (codes "  in") line → from_out line ≡ proof line
unfolding proof
past_in line e = missed (codes "  in") line read_in (from_out line) e

-- nor with the second
pub past_out : (line : List ℕ) → from_out line ≡ proof line → None ≡ behind (codes "  out") line → from_at line ≡ proof line
past_out line h e = missed (codes "  out") line read_out (from_at line) e ∙ h

-- nor with the third
pub past_at : (line : List ℕ) → from_at line ≡ proof line → None ≡ behind (codes "  at ") line → from_apart line ≡ proof line
past_at line h e = missed (codes "  at ") line read_at (from_apart line) e ∙ h

-- nor with the fourth
pub past_apart : (line : List ℕ) → from_apart line ≡ proof line → None ≡ behind (codes "  apart") line → from_drop line ≡ proof line
past_apart line h e = missed (codes "  apart") line read_apart (from_drop line) e ∙ h

-- nor with the fifth
pub past_drop : (line : List ℕ) → from_drop line ≡ proof line → None ≡ behind (codes "  drop ") line → from_box line ≡ proof line
past_drop line h e = missed (codes "  drop ") line dropped (from_box line) e ∙ h

-- with none
pub past_box : (line : List ℕ) → from_box line ≡ proof line → None ≡ behind (codes "  box ") line → None ≡ proof line
past_box line h e = missed (codes "  box ") line read_box None e ∙ h

-- ---- the word that the line begins with

-- with the first
pub with_in : (line rest : List ℕ) → Some rest ≡ behind (codes "  in") line → read_in rest ≡ proof line
unfolding proof
with_in line rest e = found (codes "  in") line rest read_in (from_out line) e

-- with the second
pub with_out : (line rest : List ℕ) → from_out line ≡ proof line → Some rest ≡ behind (codes "  out") line → read_out rest ≡ proof line
with_out line rest h e = found (codes "  out") line rest read_out (from_at line) e ∙ h

-- with the third
pub with_at : (line rest : List ℕ) → from_at line ≡ proof line → Some rest ≡ behind (codes "  at ") line → read_at rest ≡ proof line
with_at line rest h e = found (codes "  at ") line rest read_at (from_apart line) e ∙ h

-- with the fourth
pub with_apart : (line rest : List ℕ) → from_apart line ≡ proof line → Some rest ≡ behind (codes "  apart") line → read_apart rest ≡ proof line
with_apart line rest h e = found (codes "  apart") line rest read_apart (from_drop line) e ∙ h

-- with the fifth
pub with_drop : (line rest : List ℕ) → from_drop line ≡ proof line → Some rest ≡ behind (codes "  drop ") line → dropped rest ≡ proof line
with_drop line rest h e = found (codes "  drop ") line rest dropped (from_box line) e ∙ h

-- with the last
pub with_box : (line rest : List ℕ) → from_box line ≡ proof line → Some rest ≡ behind (codes "  box ") line → read_box rest ≡ proof line
with_box line rest h e = found (codes "  box ") line rest read_box None e ∙ h
