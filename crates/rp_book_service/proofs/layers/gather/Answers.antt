use Rattle.std.proofs.Common.{List, ℕ, ap, sym, ◌∙◌}
use Rattle.std.specs.List.{filter_map}
use Rattle.indexmap.specs.IndexSet.{insert_all}
use Rattle.rp_language.specs.Name.{Label, label_eq}
use Rattle.rp_book_service.specs.Layers.{layer_of_line, layers_of}
use Rattle.rp_book_service.proofs.LayerLemmas.{insert_all-line}
use Rattle.rp_book_service.proofs.layers.gather.Goals as goal

pub loop-line-preserved : goal.loop-line-preserved
loop-line-preserved c =
    ap (λ (keys : List Label). insert_all label_eq keys (layers_of c.in-Some.behind.now)) c.in_ok-gather_line.ensures
    ∙ insert_all-line c.loop-line.layers.keys c.in-Some.line.now c.loop-line.rest.now c.in-Some.behind.now c.in-Some.ensures.next
    ∙ c.loop-line.invariant

pub returns : goal.returns
returns c =
    sym (ap (λ (lines : List (List ℕ)). insert_all label_eq c.loop-line.layers.keys (filter_map layer_of_line lines)) c.in_default.ensures.end)
    ∙ c.loop-line.invariant
