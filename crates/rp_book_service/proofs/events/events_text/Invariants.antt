use Rattle.std.proofs.Common.{◌≡◌, ◌++◌, length, map}
use Rattle.rp_book.specs.Act.{AreInOrder, act_of}
use Rattle.rp_book_service.specs.Events.{events_text}
use Rattle.rp_book_service.proofs.events.events_text.Given as goal

-- the text so far and that of the rest are the text of the answer
abbrev pub invariant-loop-told : goal.invariant-loop-told
invariant-loop-told l = AreInOrder 0 (map act_of l.acts) → l.text.items ++ events_text (map act_of l.acts) l.rest ≡ events_text (map act_of l.acts) l.answer

abbrev pub decreases-loop-told : goal.decreases-loop-told
decreases-loop-told l = length l.rest
