-- Verdict lines: none but that of a limit reads as the line that tells of a limit, and the check takes the lines that it wants.
use Rattle.std.proofs.Common.{◌≡◌, ℕ, ◌+◌, Bool, false, List, [], ◌∷◌, ◌++◌, map, refl, ap, ◌∙◌}
use Rattle.std.proofs.lemmas.Slice.Eq.{bytes_eq-Decides}
use Rattle.rp_language.specs.Name.{Label, label_eq}
use Rattle.rp_geometry.specs.sets.Relation.{Relation, DC, EC, PO, EQ, TPP, NTPP, TPPi, NTPPi}
use Rattle.rp_geometry.specs.sections.Slice.{Slice, ring, flat}
use Rattle.rp_language.specs.Grammar.{Fault, too_long, bad_syntax, out_of_range, zero_half_space, too_many_nodes}
use Rattle.rp_model.specs.commands.Verdict.{Refusal, Verdict, says_yes, says_no, says_ok, refused}
use Rattle.rp_reports.specs.Text.{verdict_text}
use Rattle.rp_semantics.specs.Walk.{done, after_first}
use Rattle.rp_reports.specs.Check.{Trail, tells_limit, taken, taken_if, follow_line, follow_lines}
use Rattle.rp_parametricity.proofs.Kept.{IsOtherRefusal, IsVerdictProper, IsTold}
use Rattle.rp_checker_completeness.proofs.TakenParts.{trail}
use Rattle.rp_checker_completeness.proofs.LimitAhead.{limit_line}

-- ---- no other line tells of a limit

-- the word of a fault
fault_line : (f : Fault) → label_eq (verdict_text (refused (Refusal.bad f))) limit_line ≡ false
fault_line too_long = refl
fault_line bad_syntax = refl
fault_line out_of_range = refl
fault_line zero_half_space = refl
fault_line too_many_nodes = refl

-- a refusal
refused_line : (N : Label → Type 0) (r : Refusal) → IsOtherRefusal N r → label_eq (verdict_text (refused r)) limit_line ≡ false
refused_line N (Refusal.bad f) h = fault_line f
refused_line N (Refusal.unknown x) h = refl
refused_line N (Refusal.known x) h = refl
refused_line N (Refusal.repeated x) h = refl
refused_line N (Refusal.layers x) h = refl
refused_line N Refusal.same_name h = refl
refused_line N Refusal.too_few h = refl
refused_line N Refusal.empty h = refl
refused_line N Refusal.limit h = absurd h
refused_line N (Refusal.overlaps x) h = refl
refused_line N (Refusal.empty_side k) h = refl
refused_line N (Refusal.empty_child k) h = refl
refused_line N (Refusal.outside_lot k) h = refl
refused_line N (Refusal.children_overlap m n) h = refl
refused_line N Refusal.gap h = refl
refused_line N (Refusal.empty_region k) h = refl

-- a relation
relation_line : (r : Relation) → label_eq (verdict_text (Verdict.relation r)) limit_line ≡ false
relation_line DC = refl
relation_line EC = refl
relation_line PO = refl
relation_line EQ = refl
relation_line TPP = refl
relation_line NTPP = refl
relation_line TPPi = refl
relation_line NTPPi = refl

-- a slice
slice_line : (s : Slice) → label_eq (verdict_text (Verdict.slice s)) limit_line ≡ false
slice_line (ring steps) = refl
slice_line (flat terms) = refl

-- a verdict
proper_line : (N : Label → Type 0) (v : Verdict) → IsVerdictProper N v → label_eq (verdict_text v) limit_line ≡ false
proper_line N says_yes h = refl
proper_line N says_no h = refl
proper_line N says_ok h = refl
proper_line N (Verdict.relation r) h = relation_line r
proper_line N (Verdict.pieces k) h = refl
proper_line N (Verdict.piece ks) h = refl
proper_line N (Verdict.parts k) h = refl
proper_line N (Verdict.part hs) h = refl
proper_line N (Verdict.parcel x) h = refl
proper_line N Verdict.nobody h = refl
proper_line N (Verdict.neighbours k) h = refl
proper_line N (Verdict.clear k) h = refl
proper_line N (Verdict.parcels k) h = refl
proper_line N (Verdict.lots k) h = refl
proper_line N (Verdict.lot l) h = refl
proper_line N (Verdict.sections k) h = refl
proper_line N (Verdict.slice s) h = slice_line s
proper_line N (Verdict.access k) h = refl
proper_line N Verdict.no_access h = refl
proper_line N (Verdict.level k x) h = refl
proper_line N (refused r) h = refused_line N r h

-- the verdict lines of a reply do not tell of a limit
pub told_no_limit : (N : Label → Type 0) (vs : List Verdict) → IsTold N vs → (rest : List (List ℕ)) → tells_limit (map verdict_text vs ++ rest) ≡ false
told_no_limit N [] h rest = absurd h
told_no_limit N (v ∷ vs) h rest = proper_line N v h.0

-- ---- lines that are wanted

-- the line that is wanted is taken
pub line_taken : (want : List ℕ) (rest : List (List ℕ)) (t : Trail) → follow_line want (want ∷ rest) t ≡ done tt (taken t)
line_taken want rest t = ap (λ (b : Bool). taken_if b tt t) ((bytes_eq-Decides want want).1 refl)

-- and so are several
pub lines_taken : (wanted rest : List (List ℕ)) (n tests : ℕ) → (k : ℕ) × (follow_lines wanted (trail (wanted ++ rest) n tests) ≡ done tt (trail rest k tests))
lines_taken [] rest n tests = (n, refl)
lines_taken (want ∷ wanted) rest n tests =
    let more = lines_taken wanted rest (n + 1) tests in
    (more.0, ap (after_first (λ _. follow_lines wanted)) (line_taken want (wanted ++ rest) (trail (want ∷ wanted ++ rest) n tests)) ∙ more.1)
