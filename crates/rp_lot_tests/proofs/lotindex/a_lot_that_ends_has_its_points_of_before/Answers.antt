use Rattle.std.proofs.Common.{◌≡◌, ℕ, ◌/◌, ◌*◌, ◌≤◌, Bool, true, false, List, [], ◌∷◌, map, length, None, refl, ap, ◌∙◌, subst, arith}
use Rattle.std.proofs.lemmas.List.{length-map}
use Rattle.rp_geometry.specs.Geometry.{IntegerBox}
use Rattle.rp_language.specs.Name.{Label, label_eq}
use Rattle.std.proofs.lemmas.Slice.Eq.{bytes_eq-Decides}
use Rattle.rp_model.specs.states.State.{Lot, ended_at}
use Rattle.rp_boxindex.specs.Boxes.{Boxes}
use Rattle.rp_lotindex.specs.Indexed.{box_at, index_of, AreFree, OthersStay, IsSettled}
use Rattle.rp_lot_tests.proofs.lotindex.a_lot_that_ends_has_its_points_of_before.Goals as goal

-- the ids behind those of one lot, ended or not
behind_one : (n : ℕ) (ids : List Label) (old new : List (Lot (Unit {0}))) (k : ℕ) → length old ≡ 1 → new ≡ map (ended_at n ids) old → length new * 16 ≤ k → 16 ≤ k
behind_one n ids old new k one is f = let many = ap length is ∙ length-map old (ended_at n ids) in omega (arith, one, many, f)

-- behind a lot whose boxes are moved there are as few as before
behind_settled : (old new : Label → Boxes) (x : Label) (bs : List IntegerBox) → AreFree old 1 → IsSettled (old x) (new x) 0 bs → OthersStay x old new → AreFree new 1
behind_settled old new x bs none settled others y id f = by (label_eq x y) refl
  where
    by : (b : Bool) → label_eq x y ≡ b → box_at (new y) id ≡ None
    by true e = subst (λ (z : Label). box_at (new z) id ≡ box_at (old z) id) ((bytes_eq-Decides x y).0 e) (settled.rest id (λ same. absurd (omega (arith, f, same)))) ∙ none y id f
    by false e = ap (λ (m : Boxes). box_at m id) (others y e) ∙ none y id f

pub count_near-near-requires : goal.count_near-near-requires
count_near-near-requires g c y k f =
    let behind = behind_one 2 (c.name.result ∷ []) c.with_plot-history.result c.end.new.self k c.with_plot-history.ensures.one c.end.ensures.lots f in
    behind_settled (index_of c.boxes_of_plot-boxes.result) (index_of c.settle.new.self) _ _ c.boxes_of_plot-boxes.ensures c.settle.ensures.settled c.settle.ensures.others y k behind
