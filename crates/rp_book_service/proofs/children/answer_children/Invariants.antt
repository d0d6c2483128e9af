use Rattle.std.proofs.Common.{◌≡◌, ◌++◌, length, map}
use Rattle.rp_command.specs.Versions.{version_of}
use Rattle.rp_book_service.specs.Children.{children_text}
use Rattle.rp_book_service.proofs.children.answer_children.Given as goal

-- the text so far and that of the rest are the text of the answer
abbrev pub invariant-loop-told : goal.invariant-loop-told
invariant-loop-told l = l.text.items ++ children_text (version_of l.version) (map (λ line. line.now) l.body) l.rest ≡ children_text (version_of l.version) (map (λ line. line.now) l.body) l.answer

abbrev pub decreases-loop-told : goal.decreases-loop-told
decreases-loop-told l = length l.rest
