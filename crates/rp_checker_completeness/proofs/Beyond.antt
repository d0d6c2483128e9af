-- Trails past a number: no walk comes back from there, and no line is passed over.
use Rattle.std.proofs.Common.{◌≡◌, ℕ, suc, ◌+◌, ◌≤◌, Bool, true, false, List, [], ◌∷◌, length, drop, Option, Some, None, refl, sym, ap, ◌∙◌, subst, arith}
use Rattle.rp_geometry.specs.Geometry.{HalfSpace}
use Rattle.rp_geometry.specs.searches.ProofLine.{ProofLine}
use Rattle.rp_semantics.specs.Walk.{Stop, limit_told, line_wrong, taken_wrong, Outcome, done, stopped, Walk}
use Rattle.rp_reports.specs.ProofText.{proof_read}
use Rattle.rp_reports.specs.Check.{Trail, tells_limit, nothing_due, next_proof, taken, strict_by_line, without, dropped_by, follow_drops}
use Rattle.rp_parametricity.proofs.Likeness.{Anything}
use Rattle.rp_checker_completeness.proofs.Beside.{Reads, takes, due, IsReader, strict_reader, StaysLost, FoundStays, Knowledge}

-- the number is reached, and as many lines are left as there are behind it
pub record Past (number : ℕ) (ahead : List (List ℕ)) (t : Trail) : Type 0 where
  pub reached : number ≤ t.number
  pub left : t.number + length t.lines ≡ number + length ahead

-- a stop past the number; where the line taken last was wrong, the line before is past it too
abbrev pub StopPast : ℕ → List (List ℕ) → Stop → Trail → Type 0
StopPast number ahead taken_wrong t = (suc number ≤ t.number) × Past number ahead t
StopPast number ahead _ t = Past number ahead t

module _ (number : ℕ) (ahead : List (List ℕ)) where
  -- behind one line more
  past_one : (t : Trail) (line : List ℕ) (lines : List (List ℕ)) → t.lines ≡ line ∷ lines → Past number ahead t → Past number ahead (taken t)
  past_one t line lines e p = record { reached = omega (arith, p.reached); left = more t.number (length lines) (length (drop 1 t.lines)) (ap (λ ls. length (drop 1 ls)) e) (ap (λ ls. t.number + length ls) (sym e) ∙ p.left) }
    where
      more : (n k l : ℕ) → l ≡ k → n + suc k ≡ number + length ahead → (n + 1) + l ≡ number + length ahead
      more n k l f g = omega (arith, f, g)

  -- no line that is due
  past_due : {A : Type 0} (Q : A → Type 0) (t : Trail) → Past number ahead t → StaysLost (Past number ahead) (StopPast number ahead) Q (nothing_due {A = A} t)
  past_due {A} Q t p = here (tells_limit t.lines)
    where
      here : (b : Bool) → StaysLost (Past number ahead) (StopPast number ahead) Q (elim b as (λ _. Outcome Trail A) [ true ↦ stopped limit_told t | false ↦ stopped line_wrong t ])
      here true = p
      here false = p

  -- a walk that takes the next line if a test passes
  past_reads : {A : Type 0} (Q : A → Type 0) (m : Walk Trail A) → Reads Q m → (t : Trail) (line : List ℕ) (lines : List (List ℕ)) → t.lines ≡ line ∷ lines → Past number ahead t → StaysLost (Past number ahead) (StopPast number ahead) Q (m t)
  past_reads Q m (takes true x q) t line lines e p = (q, past_one t line lines e p)
  past_reads Q m (takes false x q) t line lines e p = p
  past_reads Q m due t line lines e p = past_due Q t p

  -- a walk that reads the next line
  pub past_reader : {A : Type 0} (Q : A → Type 0) (f : Option ProofLine → Walk Trail A) → IsReader Q f → (t : Trail) → Past number ahead t → StaysLost (Past number ahead) (StopPast number ahead) Q (f (next_proof t.lines) t)
  past_reader Q f r t p = here t.lines refl
    where
      here : (lines : List (List ℕ)) → t.lines ≡ lines → StaysLost (Past number ahead) (StopPast number ahead) Q (f (next_proof lines) t)
      here [] e = subst (StaysLost (Past number ahead) (StopPast number ahead) Q) (sym (r.none t)) (past_due Q t p)
      here (line ∷ lines) e = past_reads Q (f (proof_read line)) (r.each (proof_read line)) t line lines e p

  -- what is found takes one line more
  past_found_reads : (m : Walk Trail Bool) → Reads Anything m → (t : Trail) (line : List ℕ) (lines : List (List ℕ)) → t.lines ≡ line ∷ lines → Past number ahead t → FoundStays (Past number ahead) (StopPast number ahead) (m t)
  past_found_reads m (takes true x q) t line lines e p = let o = past_one t line lines e p in (o, λ _. (omega (arith, p.reached), o))
  past_found_reads m (takes false x q) t line lines e p = p
  past_found_reads m due t line lines e p = here (tells_limit t.lines)
    where
      here : (b : Bool) → FoundStays (Past number ahead) (StopPast number ahead) (elim b as (λ _. Outcome Trail Bool) [ true ↦ stopped limit_told t | false ↦ stopped line_wrong t ])
      here true = p
      here false = p

  -- a strict test of an audit
  pub past_found : (cell : List HalfSpace) (t : Trail) → Past number ahead t → FoundStays (Past number ahead) (StopPast number ahead) (strict_by_line cell (next_proof t.lines) t)
  past_found cell t p = here t.lines refl
    where
      here : (lines : List (List ℕ)) → t.lines ≡ lines → FoundStays (Past number ahead) (StopPast number ahead) (strict_by_line cell (next_proof lines) t)
      here [] e = end (tells_limit t.lines)
        where
          end : (b : Bool) → FoundStays (Past number ahead) (StopPast number ahead) (elim b as (λ _. Outcome Trail Bool) [ true ↦ stopped limit_told t | false ↦ stopped line_wrong t ])
          end true = p
          end false = p
      here (line ∷ lines) e = past_found_reads (strict_by_line cell (proof_read line)) ((strict_reader cell).each (proof_read line)) t line lines e p

  -- lines that drop
  pub past_drops : (lines : List (List ℕ)) (kept : List HalfSpace) (t : Trail) → t.lines ≡ lines → Past number ahead t → StaysLost (Past number ahead) (StopPast number ahead) Anything (follow_drops lines kept t)
  past_drops [] kept t e p = (tt, p)
  past_drops (line ∷ lines) kept t e p = here (dropped_by kept (proof_read line)) (λ h. past_drops lines (without h kept) (taken t) (ap (drop 1) e) (past_one t line lines e p))
    where
      here : (o : Option HalfSpace) → ((h : HalfSpace) → StaysLost (Past number ahead) (StopPast number ahead) Anything (follow_drops lines (without h kept) (taken t)))
          → StaysLost (Past number ahead) (StopPast number ahead) Anything (elim o as (λ _. Outcome Trail (List HalfSpace)) [ Some h ↦ follow_drops lines (without h kept) (taken t) | None ↦ done kept t ])
      here None rest = (tt, p)
      here (Some h) rest = rest h

  -- what is known past the number
  unfoldable pub past : Knowledge number ahead
  past = record {
    Lost = λ t. Past number ahead t;
    LostStop = λ s t. StopPast number ahead s t;
    enters = λ t m e. record { reached = omega (arith, m); left = ap (λ ls. t.number + length ls) e ∙ ap (λ k. k + length ahead) m };
    counted = λ t n p. record { reached = p.reached; left = p.left };
    met = λ t p. p;
    reads = λ Q f r t p. past_reader Q f r t p;
    found = λ cell t p. past_found cell t p;
    drops = λ kept t p. past_drops t.lines kept t refl p;
  }
