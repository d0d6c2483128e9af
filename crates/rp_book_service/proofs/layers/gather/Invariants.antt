use Rattle.std.proofs.Common.{◌≡◌, length}
use Rattle.indexmap.specs.IndexSet.{insert_all}
use Rattle.rp_language.specs.Name.{label_eq}
use Rattle.rp_book_service.specs.Layers.{layers_of}
use Rattle.rp_book_service.proofs.layers.gather.Given as goal

abbrev pub invariant-loop-line : goal.invariant-loop-line
invariant-loop-line l = insert_all label_eq l.layers.keys (layers_of l.rest) ≡ insert_all label_eq l.fn.layers.keys (layers_of l.lines)

abbrev pub decreases-loop-line : goal.decreases-loop-line
decreases-loop-line l = length l.rest
