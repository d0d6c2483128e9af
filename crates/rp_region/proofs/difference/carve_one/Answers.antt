use Rattle.std.proofs.Common.{List, ◌∷◌, [], ◌++◌, sym, ap, ◌∙◌}
use Rattle.std.specs.Prelude.{Option}
use Rattle.std.proofs.lemmas.List.{append-nil}
use Rattle.std.proofs.lemmas.Result.{err_from_is_err_and}
use Rattle.rp_geometry.specs.sets.Shape.{Part}
use Rattle.rp_semantics.specs.Walk.{done, pass}
use Rattle.rp_semantics.specs.Form.{made_part}
use Rattle.rp_region.proofs.Grows.{pass_tells}
use Rattle.rp_region.proofs.Left.{end_left, given_up}
use Rattle.rp_region.proofs.Steps.{piece_uncounted, piece_untested, piece_made}
use Rattle.rp_region.proofs.difference.carve_one.Goals as goal

pub returns-in_err-count_test-clause-makes : goal.returns-in_err-count_test-clause-makes
returns-in_err-count_test-clause-makes c = λ cell before e.
    let p = err_from_is_err_and c.from_residual.result c.from_residual.ensures.1 in
    rw (p.1, p.2) (piece_uncounted c.args.left.now.items cell before c.args.half.now c.args.work.now c.count_test.new.work c.in_err-count_test.field-0.0 c.in_err-count_test.ensures)

pub returns-in_err-push-clause-makes : goal.returns-in_err-push-clause-makes
returns-in_err-push-clause-makes c = λ cell before e.
    let p = err_from_is_err_and c.from_residual-in_err-push.result c.from_residual-in_err-push.ensures.1 in
    let made = c.args.left.now.items in
    let longer = made ++ made_part c.in_ok-part.field-0 in
    rw (p.1, p.2)
    (given_up (pass longer) (pass_tells longer)
    (piece_made made cell before c.args.half.now (c.args.front.now ++ c.not.result ∷ [])
    (λ i. e i ++ c.not.ensures i ∷ []) c.in_ok-count_test.ensures c.in_ok-part.ensures.makes))

pub returns-in_err-part-clause-makes : goal.returns-in_err-part-clause-makes
returns-in_err-part-clause-makes c = λ cell before e.
    let p = err_from_is_err_and c.from_residual-in_err-part.result c.from_residual-in_err-part.ensures.1 in
    rw (p.1, p.2)
    (piece_untested c.args.left.now.items cell before c.args.half.now (c.args.front.now ++ c.not.result ∷ []) c.args.work.now c.count_test.new.work c.part_behind.new.work
    (λ i. e i ++ c.not.ensures i ∷ []) c.in_ok-count_test.ensures c.in_err-part.field-0.0 c.in_err-part.ensures.makes)

pub returns-in_ok-push-clause-makes : goal.returns-in_ok-push-clause-makes
returns-in_ok-push-clause-makes c = λ cell before e.
    let made = c.args.left.now.items in
    end_left (done c.push.new.self.items c.part_behind.new.work)
    (piece_made made cell before c.args.half.now (c.args.front.now ++ c.not.result ∷ [])
    (λ i. e i ++ c.not.ensures i ∷ []) c.in_ok-count_test.ensures c.in_ok-part.ensures.makes)
    (ap (λ (parts : List Part). done parts c.part_behind.new.work) (ap (λ (o : Option Part). made ++ made_part o) c.in-Some.is ∙ sym c.in_ok-push.ensures.ok))

pub returns-in_default-clause-makes : goal.returns-in_default-clause-makes
returns-in_default-clause-makes c = λ cell before e.
    let made = c.args.left.now.items in
    end_left (done made c.part_behind.new.work)
    (piece_made made cell before c.args.half.now (c.args.front.now ++ c.not.result ∷ [])
    (λ i. e i ++ c.not.ensures i ∷ []) c.in_ok-count_test.ensures c.in_ok-part.ensures.makes)
    (ap (λ (parts : List Part). done parts c.part_behind.new.work) (ap (λ (o : Option Part). made ++ made_part o) c.in_default.is ∙ append-nil made))
