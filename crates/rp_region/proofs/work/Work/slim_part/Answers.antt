use Rattle.std.proofs.Common.{◌≡◌, ◌<◌, ◌≤◌, List, ◌∷◌, length, refl, sym, ap, ◌∙◌, subst}
use Rattle.std.specs.Prelude.{Some}
use Rattle.std.proofs.lemmas.Result.{err_from_is_err_and}
use Rattle.rp_geometry.specs.Geometry.{HalfSpace, box_half_spaces}
use Rattle.rp_geometry.specs.sets.Shape.{Part, shape_of_cell}
use Rattle.rp_geometry.specs.sets.Sets.{SameMembers}
use Rattle.rp_geometry.specs.parts.LeastBox.{least_box}
use Rattle.rp_geometry.specs.parts.Parts.{most_half_spaces, IsPart}
use Rattle.rp_geometry.specs.parts.PartTest.{slimmed, part_of, side_lines}
use Rattle.rp_geometry.specs.searches.ProofLine.{in_line, box_line}
use Rattle.rp_semantics.specs.Walk.{done, part_test}
use Rattle.rp_region.specs.Makes.{IsCutShort, telling}
use Rattle.rp_region.proofs.Grows.{part_tells}
use Rattle.rp_region.proofs.Left.{not_begun}
use Rattle.rp_region.proofs.PartMade.{made_of_slim, part_too_long, part_told, found_cut, box_cut}
use Rattle.rp_region.proofs.work.Work.slim_part.Goals as goal

-- the slim cell is not too long, where its half-spaces are as many as were kept
few_kept : (kept items : List HalfSpace) (cell : List HalfSpace) → items ≡ kept → kept ≡ (slimmed cell).kept → length items ≤ most_half_spaces → length (slimmed cell).kept ≤ most_half_spaces
few_kept kept items cell e k h = subst (λ hs. length hs ≤ most_half_spaces) (e ∙ k) h

pub returns-in_err-kept-clause-makes : goal.returns-in_err-kept-clause-makes
returns-in_err-kept-clause-makes c =
    let p = err_from_is_err_and c.from_residual.result c.from_residual.ensures.1 in
    rw (p.1, p.2) (not_begun (part_test c.args.cell.now) c.args.self.now c.args.self.now (part_tells c.args.cell.now) refl)

pub returns-then-items-gt-MAX_HALVES-clause-makes : goal.returns-then-items-gt-MAX_HALVES-clause-makes
returns-then-items-gt-MAX_HALVES-clause-makes c =
    part_too_long c.args.cell.now c.args.points c.args.self.now c.requires.found
    (subst (λ (hs : List HalfSpace). most_half_spaces < length hs) (c.items.ensures ∙ c.in_ok-kept.ensures.kept) c.if-items-gt-MAX_HALVES.true)

pub returns-in_err-tell_found-clause-makes : goal.returns-in_err-tell_found-clause-makes
returns-in_err-tell_found-clause-makes c =
    let p = err_from_is_err_and c.from_residual-in_err-tell_found.result c.from_residual-in_err-tell_found.ensures.1 in
    let cell = c.args.cell.now in
    let points = c.args.points in
    let w = c.args.self.now in
    let v = c.tell_found.new.self in
    let few = few_kept c.in_ok-kept.field-0.kept.items c.items.result.now cell c.items.ensures c.in_ok-kept.ensures.kept c.if-items-gt-MAX_HALVES.false in
    rw (p.1, p.2)
    (found_cut cell points c.requires.found c.requires.line few w v
    (subst (λ lines. IsCutShort w v (telling (in_line points ∷ lines) w)) c.in_ok-kept.ensures.lines c.in_err-tell_found.ensures))

pub returns-in_err-tell_box-clause-makes : goal.returns-in_err-tell_box-clause-makes
returns-in_err-tell_box-clause-makes c =
    let p = err_from_is_err_and c.from_residual-in_err-tell_box.result c.from_residual-in_err-tell_box.ensures.1 in
    let cell = c.args.cell.now in
    let points = c.args.points in
    let w = c.args.self.now in
    let v = c.tell_found.new.self in
    let x = c.tell_box.new.self in
    let kept = c.items-2.ensures ∙ c.in_ok-kept.ensures.kept in
    let bounds = c.sides-proofs.ensures.value ∙ ap least_box kept in
    let sides = c.sides-proofs.ensures.lines ∙ ap (λ hs. side_lines hs (box_half_spaces (least_box hs))) kept in
    let few = few_kept c.in_ok-kept.field-0.kept.items c.items.result.now cell c.items.ensures c.in_ok-kept.ensures.kept c.if-items-gt-MAX_HALVES.false in
    rw (p.1, p.2)
    (box_cut cell points c.requires.found c.requires.line few w v x
    ((λ i. telling (in_line points ∷ sym c.in_ok-kept.ensures.lines i) w) ∙ c.in_ok-tell_found.ensures)
    (subst (λ lines. IsCutShort v x (telling lines v)) (λ i. box_line (bounds i) ∷ sides i) c.in_err-tell_box.ensures))

pub of_slim-requires : goal.of_slim-requires
unfolding part_of
of_slim-requires c =
    let kept = c.in_ok-kept.ensures.kept in
    let bounds = c.sides-proofs.ensures.value ∙ ap least_box (c.items-2.ensures ∙ kept) in
    subst (λ (p : Part). IsPart p) (λ i. record { cell = sym kept i; bounds = sym bounds i })
    (c.in_ok-kept.ensures.part c.requires.member (subst (λ (hs : List HalfSpace). length hs ≤ most_half_spaces) c.items.ensures c.if-items-gt-MAX_HALVES.false))

pub returns-clause-makes : goal.returns-clause-makes
unfolding part_of
returns-clause-makes c =
    let cell = c.args.cell.now in
    let points = c.args.points in
    let w = c.args.self.now in
    let v = c.tell_found.new.self in
    let x = c.tell_box.new.self in
    let slim = c.in_ok-kept.ensures.kept in
    let kept = c.items-2.ensures ∙ slim in
    let bounds = c.sides-proofs.ensures.value ∙ ap least_box kept in
    let sides = c.sides-proofs.ensures.lines ∙ ap (λ hs. side_lines hs (box_half_spaces (least_box hs))) kept in
    let few = few_kept c.in_ok-kept.field-0.kept.items c.items.result.now cell c.items.ensures slim c.if-items-gt-MAX_HALVES.false in
    part_told cell points c.requires.found c.requires.line few w v x
    ((λ i. telling (in_line points ∷ sym c.in_ok-kept.ensures.lines i) w) ∙ c.in_ok-tell_found.ensures)
    ((λ i. telling (box_line (sym bounds i) ∷ sym sides i) v) ∙ c.in_ok-tell_box.ensures)
    ∙ (λ i. done (Some (record { cell = sym slim i; bounds = sym bounds i })) x) ∙ ap (λ (p : Part). done (Some p) x) (sym c.of_slim.ensures)

pub returns-clause-made : goal.returns-clause-made
unfolding part_of
returns-clause-made c =
    let kept = c.in_ok-kept.ensures.kept in
    let bounds = c.sides-proofs.ensures.value ∙ ap least_box (c.items-2.ensures ∙ kept) in
    made_of_slim c.args.cell.now c.in_ok-kept.field-0.kept.items c.of_slim.result (ap (λ (p : Part). p.cell) c.of_slim.ensures) c.in_ok-kept.ensures.members
    (subst (λ (p : Part). IsPart p) ((λ i. record { cell = sym kept i; bounds = sym bounds i }) ∙ sym c.of_slim.ensures)
    (c.in_ok-kept.ensures.part c.requires.member (subst (λ (hs : List HalfSpace). length hs ≤ most_half_spaces) c.items.ensures c.if-items-gt-MAX_HALVES.false)))

pub sides-proofs-requires : goal.sides-proofs-requires
sides-proofs-requires c =
    let member = c.requires.member in
    let same = subst (λ (hs : List HalfSpace). SameMembers (shape_of_cell hs) (shape_of_cell c.args.cell.now)) (sym c.items-2.ensures) c.in_ok-kept.ensures.members in
    record {
      few = subst (λ (hs : List HalfSpace). length hs ≤ most_half_spaces) (c.items.ensures ∙ sym c.items-2.ensures) c.if-items-gt-MAX_HALVES.false;
      member = (member.0, same.1 member.0 member.1);
      same = same;
    }
