use Rattle.std.proofs.Common.{◌≡◌, ℕ, ◌++◌, ◌∷◌, List, map, sym, ap, ◌∙◌, append_assoc}
use Rattle.std.specs.List.{flat_map}
use Rattle.rp_book.specs.Act.{Told, act_of}
use Rattle.rp_reports.specs.Report.{script_lines}
use Rattle.rp_book_service.specs.Events.{events_by, events_text}
use Rattle.rp_book_service.proofs.events.events_text.Goals as goal

-- what is written of an answer is what is written of its first line, and then of the others
events_text-line : (acts : List Told) (answer line behind old new : List ℕ) → script_lines answer ≡ line ∷ script_lines behind → new ≡ old ++ events_by acts line → new ++ events_text acts behind ≡ old ++ events_text acts answer
events_text-line acts answer line behind old new split e =
    ap (λ text. text ++ events_text acts behind) e ∙ append_assoc old (events_by acts line) (events_text acts behind) ∙ ap (λ (lines : List (List ℕ)). old ++ flat_map (events_by acts) lines) (sym split)

pub loop-told-preserved : goal.loop-told-preserved
loop-told-preserved c = λ order.
    events_text-line (map act_of c.args.acts.now) c.loop-told.rest.now c.in-Some.told.now c.in-Some.behind.now c.loop-told.text.items c.write_acts.new.text.items c.in-Some.ensures.next (c.in_ok-write_acts.ensures order)
    ∙ c.loop-told.invariant order
