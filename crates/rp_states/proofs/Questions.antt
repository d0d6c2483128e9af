-- The laws over states of the questions about forms: the reply of each is an answer.
use Rattle.rp_language.specs.Expression.{ask_section, Verb, empty_verb, pieces_verb, show_verb, equal_verb, within_verb, overlap_verb, contact_verb, rcc_verb}
use Rattle.rp_model.specs.commands.Definition.{with_form}
use Rattle.rp_model.specs.commands.Equal.{equal_definition}
use Rattle.rp_model.specs.commands.Rcc.{rcc_definition}
use Rattle.rp_model.specs.commands.Reply.{yes_or_no}
use Rattle.rp_model.specs.commands.Section.{row_section, section_definition}
use Rattle.rp_model.specs.commands.Within.{row_within, within_definition}
use Rattle.rp_model.specs.states.State.{parts_in}
use Rattle.rp_states.proofs.Picked.{pick}
use Rattle.rp_states.proofs.Plain.{meaning_same}
use Rattle.rp_semantics.proofs.Outcomes.{after_done}
use Rattle.rp_semantics.specs.Compare.{is_covered, show_then_no, relation_of_parts}
use Rattle.rp_semantics.specs.Form.{common_in_full, touch_in_full, form}
use Rattle.rp_semantics.specs.FormLaws.{IfDone}
use Rattle.rp_semantics.specs.Pieces.{pieces_of_parts}
use Rattle.rp_semantics.specs.Walk.{pass}
use Rattle.std.proofs.Common.{Bool, true, false, [], ◌∷◌, refl}
use Rattle.rp_states.proofs.Fits.{IsAnswer, IsFitReply, yes_or_no_answers, lines_fit, Plain, Answers, AnswersForms}
use Rattle.rp_model.specs.commands.Table.{entry}

-- one region within the other
within_answers : AnswersForms within_definition
within_answers W t ps qs w = after_done IsAnswer (is_covered t ps qs w) _ λ b w. yes_or_no_answers b

-- the relation of two regions
relation_answers : AnswersForms rcc_definition
relation_answers W t [] qs w = record { nothing = refl; says = refl }
relation_answers W t (p ∷ ps) [] w = record { nothing = refl; says = refl }
relation_answers W t (p ∷ ps) (q ∷ qs) w = after_done IsAnswer (relation_of_parts t (p ∷ ps) (q ∷ qs) w) _ λ r w. record { nothing = refl; says = refl }

-- one region within the other, and the other within the one
equal_answers : AnswersForms equal_definition
equal_answers W t ps qs w = after_done IsAnswer (is_covered t ps qs w) _ λ b w. by b w
  where
    by : (b : Bool) (w : W) → IfDone (pick b (row_within t qs ps) (pass (yes_or_no false)) w) IsAnswer
    by true w = within_answers W t qs ps w
    by false w = yes_or_no_answers false

-- the reply of each question about forms is an answer
pub answers_of : (verb : Verb) → Answers (entry verb)
answers_of empty_verb = λ W t ps w. after_done IsAnswer (show_then_no t ps w) _ λ b w. yes_or_no_answers b
answers_of pieces_verb = λ W t ps w. after_done IsAnswer (pieces_of_parts t ps w) _ λ gs w. record { nothing = refl; says = refl }
answers_of show_verb = λ W t ps w. record { nothing = refl; says = refl }
answers_of equal_verb = λ W t ps qs w. equal_answers W t ps qs w
answers_of within_verb = λ W t ps qs w. within_answers W t ps qs w
answers_of overlap_verb = λ W t ps qs w. after_done IsAnswer (common_in_full t ps qs w) _ λ b w. yes_or_no_answers b
answers_of contact_verb = λ W t ps qs w. after_done IsAnswer (touch_in_full t ps qs w) _ λ b w. yes_or_no_answers b
answers_of rcc_verb = λ W t ps qs w. relation_answers W t ps qs w
answers_of _ = tt

-- section
pub section_plain : Plain section_definition
section_plain = record {
  same = λ t s (e, (z, end)). λ i. with_form t (meaning_same s i) e λ ps. row_section t z ps;
  rule = λ s formed os vs h. h;
  change = λ s os. refl;
  fits = λ t s few (e, (z, end)) w.
      after_done (IsFitReply s (ask_section e z)) (form t (parts_in s) e w) _ λ ps w.
      after_done (IsFitReply s (ask_section e z)) (t.slices z ps w) _ λ slices w. lines_fit s (ask_section e z) _ refl;
}
