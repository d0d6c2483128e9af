use Rattle.std.proofs.Common.{◌≡◌, true, false, Some, refl, sym, ap, ◌∙◌, subst}
use Rattle.rp_space.specs.Boxes.{integer_box}
use Rattle.rp_boxindex.specs.Boxes.{Entry}
use Rattle.rp_boxindex.specs.cells.Halves.{is_upper}
use Rattle.rp_boxindex.specs.cells.Nodes.{AreCells, AreSides, IsCell}
use Rattle.rp_boxindex.specs.declared.cells.CellNode.{CellNode}
use Rattle.rp_boxindex.specs.tree.Nodes.{is_within}
use Rattle.rp_boxindex.specs.tree.Order.{place_of}
use Rattle.rp_boxindex.proofs.Halves.{more_upper, more_lower, settled_wider, settled_upper, settled_lower, sides_of, wide_union, with_hull}
use Rattle.rp_boxindex.proofs.cells.Cells.+put.Goals as goal

pub invariant_of-self-then-is_upper : goal.invariant_of-self-then-is_upper
invariant_of-self-then-is_upper t c =
    let held = c.in-Some.node in
    let x : Entry = c.args.new.value.entry in
    let is : c.self.inside.root ≡ Some held = cc (c.take.ensures.value, c.in-Some.is) in
    let same : c.deref_mut-then-is_upper.result.now ≡ with_hull held.value c.union.result = c.deref_mut-then-is_upper.ensures.value ∙ ap (λ (m : CellNode). with_hull m c.union.result) c.deref_mut.ensures.value in
    let given = sym c.is_upper.ensures ∙ c.if-is_upper.true in
    let of_middle : is_upper c.deref-5.result.now.middle (place_of x) ≡ true = rw (c.of-place.ensures, c.deref.ensures) at given in
    let half : is_upper c.deref_mut-then-is_upper.result.now.middle (place_of x) ≡ true = subst (λ (m : CellNode). is_upper m.middle (place_of x) ≡ true) (c.deref-5.ensures ∙ sym c.deref_mut-then-is_upper.ensures.value) of_middle in
    let union = c.union.ensures in
    let wide = wide_union c.union.result held.value.hull x (rw (c.deref-3.ensures, c.deref-4.ensures) at union) in
    let grown : IsCell c.deref_mut-then-is_upper.result.now = subst IsCell (sym same) (settled_wider held.value c.union.result (subst AreCells is c.self.invariant) wide.0) in
    let own : is_within (integer_box c.deref_mut-then-is_upper.result.now.hull) (integer_box x.1) ≡ true = subst (λ (m : CellNode). is_within (integer_box m.hull) (integer_box x.1) ≡ true) (sym same) wide.1 in
    settled_upper c.deref_mut-then-is_upper.result.now x c.put.new.self grown own c.put.ensures half

pub returns-then-is_upper : goal.returns-then-is_upper
returns-then-is_upper t c =
    let held = c.in-Some.node in
    let x : Entry = c.args.new.value.entry in
    let is : c.self.inside.root ≡ Some held = cc (c.take.ensures.value, c.in-Some.is) in
    let same : c.deref_mut-then-is_upper.result.now ≡ with_hull held.value c.union.result = c.deref_mut-then-is_upper.ensures.value ∙ ap (λ (m : CellNode). with_hull m c.union.result) c.deref_mut.ensures.value in
    let sides : AreSides c.args.self.now c.deref_mut-then-is_upper.result.now.lower c.deref_mut-then-is_upper.result.now.middle c.deref_mut-then-is_upper.result.now.entry c.deref_mut-then-is_upper.result.now.upper = subst (λ (m : CellNode). AreSides c.args.self.now m.lower m.middle m.entry m.upper) (sym same) (sides_of c.args.self.now c.self.inside.root held c.self.view_is is c.self.invariant) in
    more_upper x c.put.new.self.entries _ sides c.put.ensures refl

pub invariant_of-self-2 : goal.invariant_of-self-2
invariant_of-self-2 t c =
    let held = c.in-Some.node in
    let x : Entry = c.args.new.value.entry in
    let is : c.self.inside.root ≡ Some held = cc (c.take.ensures.value, c.in-Some.is) in
    let same : c.deref_mut-2.result.now ≡ with_hull held.value c.union.result = c.deref_mut-2.ensures.value ∙ ap (λ (m : CellNode). with_hull m c.union.result) c.deref_mut.ensures.value in
    let given = sym c.is_upper.ensures ∙ c.if-is_upper.false in
    let of_middle : is_upper c.deref-5.result.now.middle (place_of x) ≡ false = rw (c.of-place.ensures, c.deref.ensures) at given in
    let half : is_upper c.deref_mut-2.result.now.middle (place_of x) ≡ false = subst (λ (m : CellNode). is_upper m.middle (place_of x) ≡ false) (c.deref-5.ensures ∙ sym c.deref_mut-2.ensures.value) of_middle in
    let union = c.union.ensures in
    let wide = wide_union c.union.result held.value.hull x (rw (c.deref-3.ensures, c.deref-4.ensures) at union) in
    let grown : IsCell c.deref_mut-2.result.now = subst IsCell (sym same) (settled_wider held.value c.union.result (subst AreCells is c.self.invariant) wide.0) in
    let own : is_within (integer_box c.deref_mut-2.result.now.hull) (integer_box x.1) ≡ true = subst (λ (m : CellNode). is_within (integer_box m.hull) (integer_box x.1) ≡ true) (sym same) wide.1 in
    settled_lower c.deref_mut-2.result.now x c.put-2.new.self grown own c.put-2.ensures half

pub returns : goal.returns
returns t c =
    let held = c.in-Some.node in
    let x : Entry = c.args.new.value.entry in
    let is : c.self.inside.root ≡ Some held = cc (c.take.ensures.value, c.in-Some.is) in
    let same : c.deref_mut-2.result.now ≡ with_hull held.value c.union.result = c.deref_mut-2.ensures.value ∙ ap (λ (m : CellNode). with_hull m c.union.result) c.deref_mut.ensures.value in
    let sides : AreSides c.args.self.now c.deref_mut-2.result.now.lower c.deref_mut-2.result.now.middle c.deref_mut-2.result.now.entry c.deref_mut-2.result.now.upper = subst (λ (m : CellNode). AreSides c.args.self.now m.lower m.middle m.entry m.upper) (sym same) (sides_of c.args.self.now c.self.inside.root held c.self.view_is is c.self.invariant) in
    more_lower x c.put-2.new.self.entries _ sides c.put-2.ensures refl
