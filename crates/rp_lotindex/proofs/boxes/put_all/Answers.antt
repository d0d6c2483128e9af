use Rattle.std.proofs.Common.{◌≡◌, ℕ, ◌+◌, ◌*◌, ◌<◌, ◌≤◌, List, [], ◌∷◌, ◌++◌, Some, None, take, length, slice_get, refl, sym, ap, ◌∙◌, subst, arith}
use Rattle.std.specs.Prelude.{option_map}
use Rattle.std.proofs.lemmas.List.{length-map, length-take, take_all, take_more}
use Rattle.std.proofs.lemmas.Option.{get_or_from_slice_get, slice_get-map, slice_get_past, slice_get_within}
use Rattle.rp_geometry.specs.Geometry.{IntegerBox}
use Rattle.rp_space.specs.Boxes.{integer_box}
use Rattle.rp_boxindex.specs.Boxes.{Boxes}
use Rattle.rp_lotindex.specs.Indexed.{all_moved, box_at, ArePut, IsTakenOut}
use Rattle.rp_lotindex.specs.Cubes.{moved}
use Rattle.rp_lotindex.proofs.Put.{among_one, not_known, put_none, put_next, put_out}
use Rattle.rp_lotindex.proofs.boxes.put_all.Goals as goal

-- one box more
one_more : (bs : List IntegerBox) (i : ℕ) (b : IntegerBox) → slice_get bs i ≡ Some b → take (i + 1) bs ≡ take i bs ++ b ∷ []
one_more bs i b at = take_more bs i b (slice_get_within bs i b at) ∙ ap (λ (c : IntegerBox). take i bs ++ c ∷ []) (get_or_from_slice_get bs i b b at)

-- the next id is free
free_next : (old m : Boxes) (p i id : ℕ) (all : List IntegerBox) (bs : List IntegerBox) → all ≡ all_moved bs → {n : ℕ} → i < n → n ≡ length bs → n ≤ 16 → ArePut old m p (take i all ∷ []) → id ≡ p * 16 + i → box_at m id ≡ None
free_next old m p i id all bs e here count few h own =
    let many = ap length e ∙ length-map bs moved in
    let some = length-take i all in
    ap (box_at m) own ∙ h.here i ∙ among_one (take i all) i (omega (arith, here, few)) ∙ slice_get_past (take i all) i (omega (arith, here, count, many, some))

pub loop-number-init : goal.loop-number-init
loop-number-init g c = put_none c.args.index.now c.args.place c.requires.free

pub want_of_memory-requires : goal.want_of_memory-requires
want_of_memory-requires g c =
    let l = c.loop-number in
    let all = all_moved (g.B.Bounded.boxes c.args.boxes.now) in
    c.in-Err.ensures.known ∙ not_known l.index c.id_of.result (free_next c.args.index.now l.index c.args.place l.number c.id_of.result all (g.B.Bounded.boxes c.args.boxes.now) refl c.loop-number-test.true c.count-number-end.ensures.value c.count-number-end.ensures.few l.invariant c.id_of.ensures)

pub returns-in-Err-clause-err : goal.returns-in-Err-clause-err
returns-in-Err-clause-err g c =
    let all = all_moved (g.B.Bounded.boxes c.args.boxes.now) in
    put_out c.args.index.now c.loop-number.index c.take_out.new.index c.args.place (take c.loop-number.number all) c.requires.free c.loop-number.invariant
    (subst (λ (m : Boxes). IsTakenOut m c.take_out.new.index c.args.place) c.in-Err.ensures.err c.take_out.ensures)

pub loop-number-preserved : goal.loop-number-preserved
loop-number-preserved g c =
    let l = c.loop-number in
    let boxes = g.B.Bounded.boxes c.args.boxes.now in
    let all = all_moved boxes in
    let b = c.moved-bounds.result in
    let at : slice_get all l.number ≡ Some (integer_box b) = slice_get-map moved boxes l.number ∙ ap (option_map moved) c.bounds.ensures ∙ ap (λ (d : IntegerBox). Some d) (sym c.moved-bounds.ensures) in
    let here = c.loop-number-test.true in
    let count = c.count-number-end.ensures.value in
    let few = c.count-number-end.ensures.few in
    let many = length-map boxes moved in
    let some = length-take l.number all in
    let own = c.id_of.ensures in
    put_next c.args.index.now l.index c.insert.new.self c.args.place c.id_of.result (take l.number all) (take (l.number + 1) all) b l.invariant (omega (arith, own, here, count, many, some)) (omega (arith, here, count, few, many, some)) c.in_default.ensures.ok (one_more all l.number (integer_box b) at)

pub returns-clause-ok : goal.returns-clause-ok
returns-clause-ok g c =
    let l = c.loop-number in
    let boxes = g.B.Bounded.boxes c.args.boxes.now in
    let all = all_moved boxes in
    let behind = c.loop-number-test.false in
    let count = c.count-number-end.ensures.value in
    let many = length-map boxes moved in
    subst (λ (bs : List IntegerBox). ArePut c.args.index.now l.index c.args.place (bs ∷ [])) (take_all l.number all (omega (arith, behind, count, many))) l.invariant
