-- The verdict lines of each row are true by the sets alone: shown parts have the members of the set, and told pieces are those of parts that have them.
use Rattle.std.proofs.Common.{◌≡◌, ℕ, ℤ, List, [], ◌∷◌, length, map, refl, ap, sym, suc}
use Rattle.std.specs.Prelude.{option_map, ◌↔◌}
use Rattle.rp_algebra.proofs.Listed.{all_map}
use Rattle.rp_geometry.specs.sets.Shape.{Shape, Part, shape_of_cell, shape_of_cells, shape_of_parts}
use Rattle.rp_geometry.specs.sets.Sets.{SameMembers}
use Rattle.rp_geometry.specs.sets.Pieces.{ArePieces}
use Rattle.rp_semantics.specs.Walk.{Walk, Tester, pass}
use Rattle.rp_language.specs.Expression.{Expression, IsKeptExpression, first_unknown_among, ask_pieces, ask_show, ask_section}
use Rattle.rp_semantics.specs.Form.{form}
use Rattle.rp_model.specs.states.State.{State, parts_in, sets_in}
use Rattle.rp_model.specs.commands.Verdict.{Verdict, part_lines_of, piece_lines, section_lines, unknown}
use Rattle.rp_model.specs.commands.Reply.{Reply, reply_lines, check}
use Rattle.rp_model.specs.commands.Pieces.{row_pieces}
use Rattle.rp_model.specs.commands.Section.{row_section}
use Rattle.rp_model.specs.commands.Definition.{with_form}
use Rattle.rp_model.specs.commands.Rules.{Rule, answers, labels_then}
use Rattle.rp_model.specs.commands.Sets.{set_of}
use Rattle.rp_geometry.specs.parts.Parts.{IsCheckedPart, AreOf}
use Rattle.rp_model.specs.states.Sound.{IsSoundWith}
use Rattle.rp_reports.specs.TrueReport.{shows_set, tells_pieces, shows_section}
use Rattle.rp_semantics.specs.FormLaws.{IfDone, ArePassingSlices}
use Rattle.rp_geometry.specs.sections.Trace.{IsHeight}
use Rattle.rp_slice.proofs.Shown.{slices_show_the_members_spec}
use Rattle.rp_semantics.specs.FormLaws.{WalksAreRight}
use Rattle.rp_semantics.proofs.Outcomes.{then_done, weaker_done}
use Rattle.rp_reports.specs.laws.RowLaws.{VerdictsAreTrue}
use Rattle.rp_geometry.proofs.SameMembers.{same_itself, same_union, same_next}
use Rattle.rp_row_soundness.proofs.Meanings.{meanings_agree, unknown_among_same}
use Rattle.rp_row_soundness.proofs.Questions.{pieces_meet}
use Rattle.rp_row_soundness.proofs.EachRow.{labels_done, verdicts_meet_rule}

-- the cells of parts have together the members of the parts
cells_same : (ps : List Part) → SameMembers (shape_of_cells (map (λ p. p.cell) ps)) (shape_of_parts ps)
cells_same [] = same_itself Shape.nothing
cells_same (p ∷ ps) = same_union (shape_of_cell p.cell) (shape_of_cells (map (λ p. p.cell) ps)) (shape_of_cell p.cell) (shape_of_parts ps) (same_itself (shape_of_cell p.cell)) (cells_same ps)

-- as many cells as parts
cells_length : (ps : List Part) → length (map (λ p. p.cell) ps) ≡ length ps
cells_length [] = refl
cells_length (p ∷ ps) = ap (λ n. suc n) (cells_length ps)

-- the lines of the cells are those of the parts
cells_lines : (ps : List Part) → map Verdict.part (map (λ p. p.cell) ps) ≡ map (λ p. Verdict.part p.cell) ps
cells_lines [] = refl
cells_lines (p ∷ ps) = ap (λ vs. Verdict.part p.cell ∷ vs) (cells_lines ps)

-- shown parts that have the members of a set show the set
parts_show : (P : Part → Type 0) (a : Shape) (ps : List Part) → AreOf P a ps → shows_set a (part_lines_of ps)
parts_show P a ps h = (
  map (λ p. p.cell) ps,
  same_next (shape_of_cells (map (λ p. p.cell) ps)) (shape_of_parts ps) a (cells_same ps) h.members,
  let n = cells_length ps in let e = cells_lines ps in λ i. Verdict.parts (sym n i) ∷ sym e i,
)

-- parts that keep a stronger fact
weaker_parts : (P Q : Part → Type 0) → ((p : Part) → P p → Q p) → (a : Shape) (ps : List Part) → AreOf P a ps → AreOf Q a ps
weaker_parts P Q each a ps h = record { all = record { each = all_map P Q each ps h.all.each; few = h.all.few }; members = h.members }

module _ {W : Type 0} (P : Part → Type 0) (t : Tester W) (right : WalksAreRight P t) (s : State) (sound : IsSoundWith P s) where
  -- a row of one form whose labels stand for something
  one_form_true : (e : Expression) → IsKeptExpression e → (rule : Rule) (rest : List Part → Walk W Reply) (w : W)
      → ((ps : List Part) (v : W) → AreOf P (set_of s e) ps → IfDone (rest ps v) (λ r. rule r.verdicts)) → IfDone (with_form t (parts_in s) e rest w) (λ r. rule r.verdicts × Unit {0})
  one_form_true e kept rule rest w each =
      then_done (AreOf P (set_of s e)) (λ r. rule r.verdicts × Unit {0}) (form t (parts_in s) e w) rest (right.forms (parts_in s) (sets_in s) (meanings_agree P s sound) e kept w)
      (λ ps v h. weaker_done (λ r. rule r.verdicts) (λ r. rule r.verdicts × Unit {0}) (rest ps v) (each ps v h) (λ r k. (k, tt)))

  -- a row of one form
  one_row_true : (e : Expression) → IsKeptExpression e → (rule : Rule) (rest : List Part → Walk W Reply) (w : W)
      → ((ps : List Part) (v : W) → AreOf P (set_of s e) ps → IfDone (rest ps v) (λ r. rule r.verdicts))
      → IfDone (check (option_map unknown (first_unknown_among (parts_in s) (e ∷ []))) (with_form t (parts_in s) e rest) w) (λ r. labels_then (first_unknown_among (sets_in s) (e ∷ [])) rule r.verdicts)
  one_row_true e kept rule rest w each =
      weaker_done (λ r. labels_then (first_unknown_among (sets_in s) (e ∷ [])) rule r.verdicts × Unit {0}) (λ r. labels_then (first_unknown_among (sets_in s) (e ∷ [])) rule r.verdicts) _
      (labels_done (λ r. Unit {0}) (first_unknown_among (parts_in s) (e ∷ [])) (first_unknown_among (sets_in s) (e ∷ [])) (unknown_among_same s (e ∷ [])) rule (with_form t (parts_in s) e rest) w (λ r. tt) (one_form_true e kept rule rest w each))
      (λ r k. k.0)

  -- the pieces of a form
  pieces_told : (e : Expression) (ps : List Part) (v : W) → AreOf P (set_of s e) ps → IfDone (row_pieces t ps v) (λ r. tells_pieces (set_of s e) r.verdicts)
  pieces_told e ps v h =
      weaker_done (λ r. (gs : List (List ℕ)) × ArePieces ps gs × answers (piece_lines gs) r.verdicts) (λ r. tells_pieces (set_of s e) r.verdicts) (row_pieces t ps v) (pieces_meet P t right ps h.all v)
      (λ r k. (ps, k.0, weaker_parts P IsCheckedPart right.tests.checked (set_of s e) ps h, k.1, k.2))

  -- the slices of a form at a height
  section_shown : (e : Expression) (z : ℤ) → IsHeight z → (ps : List Part) (v : W) → AreOf P (set_of s e) ps → IfDone (row_section t z ps v) (λ r. shows_section z (set_of s e) r.verdicts)
  section_shown e z height ps v h =
      then_done (λ slices. ArePassingSlices z ps slices) (λ r. shows_section z (set_of s e) r.verdicts) (t.slices z ps v) (λ slices. pass (reply_lines (section_lines slices))) (right.tests.slices z height ps h.all v)
      (λ slices u passing. (slices, λ p w a c. both (slices_show_the_members_spec z ps slices height passing p w a c) (h.members.0 p) (h.members.1 p), refl))
    where
      both : {A B C : Type 0} → A ↔ B → (A → C) → (C → A) → C ↔ B
      both same to from = (λ c. same.0 (from c), λ b. to (same.1 b))

-- the verdict lines of each row are true
pub verdicts_are_true : {W : Type 0} (P : Part → Type 0) (t : Tester W) → WalksAreRight P t → VerdictsAreTrue P t
verdicts_are_true P t right s sound (ask_show e) kept heights w =
    one_row_true P t right s sound e kept.0 (shows_set (set_of s e)) (λ ps. pass (reply_lines (part_lines_of ps))) w (λ ps v h. parts_show P (set_of s e) ps h)
verdicts_are_true P t right s sound (ask_pieces e) kept heights w = one_row_true P t right s sound e kept.0 (tells_pieces (set_of s e)) (λ ps. row_pieces t ps) w (pieces_told P t right s sound e)
verdicts_are_true P t right s sound (ask_section e z) kept heights w = one_row_true P t right s sound e kept.0 (shows_section z (set_of s e)) (λ ps. row_section t z ps) w (section_shown P t right s sound e z heights.0)
verdicts_are_true P t right s sound c kept heights w = verdicts_meet_rule P t right s sound c kept w
