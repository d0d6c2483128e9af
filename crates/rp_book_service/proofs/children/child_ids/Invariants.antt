use Rattle.std.proofs.Common.{◌≡◌, map, take}
use Rattle.rp_command.specs.Views.{child_of}
use Rattle.rp_model.specs.commands.Checks.{child_ids}
use Rattle.rp_book_service.proofs.children.child_ids.Given as goal

-- the ids so far are those of the entries so far
abbrev pub invariant-loop-entry : goal.invariant-loop-entry
invariant-loop-entry l = l.ids.items ≡ child_ids (map child_of (take l.entry-index l.entries))
