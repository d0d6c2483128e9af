use Rattle.std.proofs.Common.{◌≡◌, true, false, List, sym, ap, ◌∙◌}
use Rattle.std.proofs.lemmas.Int.{to_z-of_z}
use mir.Syntax.{w32}
use Rattle.rp_geometry.specs.Geometry.{HalfSpace}
use Rattle.rp_geometry.specs.sections.Slice.{is_slice}
use Rattle.rp_semantics.specs.Walk.{done}
use Rattle.rp_cert.specs.Section.{slice_shown}
use Rattle.rp_trail.proofs.SliceLines.{none_shown, not_passing, line_taken, slice_is_told}
use Rattle.rp_trail.proofs.shown.follow_slice.Goals as goal

pub returns-in_default-clause-comes : goal.returns-in_default-clause-comes
returns-in_default-clause-comes c = none_shown c.args.z c.requires c.args.part.now c.keep_part.ensures c.args.trail.now c.in_default.ensures

pub returns-then-not-check_slice-clause-comes : goal.returns-then-not-check_slice-clause-comes
returns-then-not-check_slice-clause-comes c =
    let s = slice_shown c.in-Some.slice in
    let fails : is_slice c.args.z c.args.part.now.cell s ≡ false = ap (λ (cell : List HalfSpace). is_slice c.args.z cell s) (sym c.cell.ensures.value) ∙ ap (λ z. is_slice z c.cell.result.now s) (sym (to_z-of_z w32 c.args.z c.ranges.z)) ∙ sym c.if-not-check_slice.ensures.value in
    not_passing c.args.z c.requires c.args.part.now c.keep_part.ensures c.args.trail.now s c.in-Some.ensures fails

pub returns-clause-comes : goal.returns-clause-comes
returns-clause-comes c =
    let s = slice_shown c.in-Some.slice in
    let passes : is_slice c.args.z c.args.part.now.cell s ≡ true = ap (λ (cell : List HalfSpace). is_slice c.args.z cell s) (sym c.cell.ensures.value) ∙ ap (λ z. is_slice z c.cell.result.now s) (sym (to_z-of_z w32 c.args.z c.ranges.z)) ∙ sym c.if-not-check_slice.ensures.value in
    line_taken c.args.z c.requires c.args.part.now c.keep_part.ensures c.args.trail.now s c.in-Some.ensures passes ∙ ap (λ t. done tt t) (sym c.take.ensures)

pub returns-clause-told : goal.returns-clause-told
returns-clause-told c =
    let s = slice_shown c.in-Some.slice in
    let passes : is_slice c.args.z c.args.part.now.cell s ≡ true = ap (λ (cell : List HalfSpace). is_slice c.args.z cell s) (sym c.cell.ensures.value) ∙ ap (λ z. is_slice z c.cell.result.now s) (sym (to_z-of_z w32 c.args.z c.ranges.z)) ∙ sym c.if-not-check_slice.ensures.value in
    slice_is_told c.args.z c.args.part.now c.args.trail.now s c.in-Some.ensures passes
