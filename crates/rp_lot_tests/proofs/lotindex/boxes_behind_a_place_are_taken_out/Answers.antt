use Rattle.std.proofs.Common.{◌≡◌, ℕ, ◌+◌, ◌*◌, ◌/◌, ◌≤◌, [], ◌∷◌, length, slice_get, None, sym, ap, ◌∙◌, arith}
use Rattle.std.proofs.lemmas.Option.{slice_get_past}
use Rattle.rp_language.specs.Name.{Label}
use Rattle.rp_boxindex.specs.Boxes.{Boxes}
use Rattle.rp_lotindex.specs.Indexed.{index_of, is_layer, AreFree, AreRemoved}
use Rattle.rp_lot_tests.proofs.lotindex.boxes_behind_a_place_are_taken_out.Goals as goal

-- behind a lot that is taken out there are as few as before
behind_taken : (old new : Label → Boxes) (x : Label) → AreFree old 1 → AreRemoved old new 0 (x ∷ []) → AreFree new 1
behind_taken old new x none taken y id f =
    taken.kept y id (id / 16) (omega arith) (ap (λ o. is_layer o y) (slice_get_past (x ∷ []) (id / 16) (omega (arith, f)))) ∙ none y id f

pub count_near-near-requires : goal.count_near-near-requires
count_near-near-requires g c y k f =
    let one = c.with_plot-history.ensures.one in
    behind_taken (index_of c.boxes_of_plot-boxes.result) (index_of c.remove_all.new.self) _ c.boxes_of_plot-boxes.ensures c.remove_all.ensures y k (omega (arith, f, one))
