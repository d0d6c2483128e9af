use Rattle.std.proofs.Common.{◌∷◌, [], ◌++◌, refl, sym, ap}
use Rattle.std.proofs.lemmas.Result.{err_from_is_err_and}
use Rattle.rp_geometry.specs.Geometry.{complement}
use Rattle.rp_semantics.specs.Walk.{done}
use Rattle.rp_oracle.proofs.Left.{end_left}
use Rattle.rp_trail.proofs.Steps.{piece_uncounted, piece_stops, piece_made}
use Rattle.rp_trail.proofs.difference.carve_one.Goals as goal

pub returns-in_err-count_test : goal.returns-in_err-count_test
returns-in_err-count_test c =
    let p = err_from_is_err_and c.from_residual.result c.from_residual.ensures.1 in
    rw (p.1, p.2) (piece_uncounted c.args.left.now.items c.args.cell.now c.args.before.now c.args.half.now c.args.trail.now c.count_test.new.trail c.in_err-count_test.field-0.0 c.in_err-count_test.ensures)

pub returns-in_err-part : goal.returns-in_err-part
returns-in_err-part c =
    let p = err_from_is_err_and c.from_residual-in_err-part.result c.from_residual-in_err-part.ensures.1 in
    rw (p.1, p.2)
    (piece_stops c.args.left.now.items c.args.cell.now c.args.before.now c.args.half.now ((c.args.cell.now ++ c.args.before.now) ++ complement c.args.half.now ∷ []) c.args.trail.now c.count_test.new.trail c.made_outside.new.trail c.in_err-part.field-0.0
    refl c.in_ok-count_test.ensures c.in_err-part.ensures)

pub returns : goal.returns
returns c =
    let new = c.made_outside.new.trail in
    end_left (done c.put.new.form.items new)
    (piece_made c.args.left.now.items c.args.cell.now c.args.before.now c.args.half.now ((c.args.cell.now ++ c.args.before.now) ++ complement c.args.half.now ∷ [])
    refl c.in_ok-count_test.ensures c.in_ok-part.ensures)
    (ap (λ parts. done parts new) (sym c.in_ok-put.ensures))
