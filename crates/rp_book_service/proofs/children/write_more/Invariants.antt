use Rattle.std.proofs.Common.{◌≡◌, ◌++◌, length}
use Rattle.rp_book_service.specs.Children.{after_commas}
use Rattle.rp_book_service.proofs.children.write_more.Given as goal

-- the text so far and the ids that are left are the text with all ids
abbrev pub invariant-loop-id : goal.invariant-loop-id
invariant-loop-id l = l.text.items ++ after_commas l.rest ≡ l.fn.text.items ++ after_commas l.ids

abbrev pub decreases-loop-id : goal.decreases-loop-id
decreases-loop-id l = length l.rest
