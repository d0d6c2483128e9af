use Rattle.std.proofs.Common.{ℕ, ◌+◌, ◌≤◌, map, length, refl, sym, ap, ◌∙◌, subst, arith}
use Rattle.std.proofs.lemmas.List.{length-map}
use Rattle.rp_model.specs.states.State.{most_kept_parts}
use Rattle.rp_history.specs.Parts.{new_lots}
use Rattle.rp_lotindex.specs.Indexed.{index_of, AreFree, AreBorn}
use Rattle.rp_store.proofs.Boxed.{new_layers, born_back}
use Rattle.rp_store.proofs.lots.take_in.Goals as goal

pub add_all-requires-clause-small : goal.add_all-requires-clause-small
add_all-requires-clause-small g c = subst (λ (n : ℕ). n + length c.args.forms.now ≤ most_kept_parts) (sym (ap length c.items-first.ensures)) c.requires.small

pub add_all-requires-clause-free : goal.add_all-requires-clause-free
add_all-requires-clause-free g c = subst (AreFree (index_of c.args.boxes.now)) (sym (ap length c.items-first.ensures)) c.requires.free

pub remove_all-requires : goal.remove_all-requires
remove_all-requires g c =
    let first = ap length c.items-first.ensures in
    let small = c.requires.small in
    let each = c.requires.each in
    omega (arith, first, small, each)

pub returns-in-Err-clause-same : goal.returns-in-Err-clause-same
returns-in-Err-clause-same g c =
    let first = length c.items-first.result.now in
    let parts = g.F.Forms.parts_of in
    let births = c.args.births.now in
    let lists = map parts c.args.forms.now in
    let each = c.requires.each ∙ sym (length-map c.args.forms.now parts) in
    born_back (index_of c.args.boxes.now) (index_of c.add_all.new.boxes) (index_of c.add_all.new.boxes) (index_of c.remove_all.new.self) first (new_lots births lists) (map (λ b. b.layer) births)
    (subst (AreFree (index_of c.args.boxes.now)) (sym (ap length c.items-first.ensures)) c.requires.free) c.in_ok-add_all.ensures.ok (λ y id. refl) (new_layers births lists each) c.remove_all.ensures

pub returns-clause-put : goal.returns-clause-put
returns-clause-put g c =
    subst (λ (n : ℕ). AreBorn (index_of c.args.boxes.now) (index_of c.add_all.new.boxes) n (new_lots c.args.births.now (map g.F.Forms.parts_of c.args.forms.now))) (ap length c.items-first.ensures) c.in_ok-add_all.ensures.ok
