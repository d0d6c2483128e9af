use Rattle.std.proofs.Common.{◌≡◌, Bool, true, false, List, [], ◌∷◌, refl, sym, ◌∙◌, subst, arith}
use Rattle.std.specs.Prelude.{Result, Ok, OnOk}
use Rattle.std.specs.FinMap.{empty}
use Rattle.rp_geometry.specs.Geometry.{IntegerBox}
use Rattle.rp_language.specs.Name.{Label, label_eq}
use Rattle.std.proofs.lemmas.Slice.Eq.{bytes_eq-Decides}
use Rattle.rp_boxindex.specs.Boxes.{Boxes}
use Rattle.rp_lotindex.specs.Indexed.{index_of, NoneBehind, ArePut, AreFree, OthersStay}
use Rattle.rp_lotindex.proofs.Boxed.{free_none, none_in_empty}
use Rattle.rp_lotindex.proofs.Put.{none_behind_put}
use Rattle.rp_lot_tests.proofs.lotindex.boxes_of_plot.Goals as goal

-- where the boxes of one lot were put in, there are none behind it
none_behind_one : {A E : Type 0} (old new : Boxes) (bs : List IntegerBox) (r : Result A E) (x : A) → r ≡ Ok x → OnOk r (ArePut old new 0 (bs ∷ [])) → NoneBehind new 1
none_behind_one old new bs r x is h = none_behind_put old new 0 1 (bs ∷ []) (subst (λ (s : Result _ _). OnOk s (ArePut old new 0 (bs ∷ []))) is h) (omega arith)

-- nor are there any in the other layers, if there were none at all
free_behind_one : (old new : Label → Boxes) (x : Label) → ((y : Label) → old y ≡ empty) → NoneBehind (new x) 1 → OthersStay x old new → AreFree new 1
free_behind_one old new x none one others y = by (label_eq x y) refl
  where
    by : (b : Bool) → label_eq x y ≡ b → NoneBehind (new y) 1
    by true e = subst (λ (z : Label). NoneBehind (new z) 1) ((bytes_eq-Decides x y).0 e) one
    by false e = subst (λ (m : Boxes). NoneBehind m 1) (sym (others y e ∙ none y)) (none_in_empty 1)

pub add-requires-clause-free : goal.add-requires-clause-free
add-requires-clause-free g c = free_none (index_of c.new-boxes.result) c.new-boxes.ensures 0 c.name.result

pub returns : goal.returns
returns g c =
    free_behind_one (index_of c.new-boxes.result) (index_of c.add.new.self) c.name.result c.new-boxes.ensures
    (none_behind_one (index_of c.new-boxes.result c.name.result) (index_of c.add.new.self c.name.result) _ c.add.result _ c.expect.ensures c.add.ensures.ok) c.add.ensures.others
