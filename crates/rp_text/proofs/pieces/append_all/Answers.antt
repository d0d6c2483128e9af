use Rattle.std.proofs.Common.{ℕ, ◌≤◌, List, length, arith}
use Rattle.std.proofs.lemmas.Result.{err_from_is_err_and}
use denote.Ref.{Bor}
use Rattle.rp_text.proofs.FrontLemmas.{front_so_far, all_written}
use Rattle.rp_text.proofs.pieces.append_all.Goals as goal

pub returns-in_err-extend_from_slice : goal.returns-in_err-extend_from_slice
returns-in_err-extend_from_slice c =
    let p = err_from_is_err_and c.from_residual.result c.from_residual.ensures.1 in
    rw (p.1)
    (front_so_far (λ (piece : Bor (List ℕ)). piece.now) c.args.out.now.items c.loop-piece.out.items c.extend_from_slice.new.self.items c.args.pieces.now c.loop-piece.piece-index c.loop-piece.invariant c.in_err-extend_from_slice.ensures.items)

pub returns : goal.returns
returns c =
    let over : length c.args.pieces.now ≤ c.loop-piece.piece-index = omega arith in
    all_written (λ (piece : Bor (List ℕ)). piece.now) c.args.out.now.items c.loop-piece.out.items c.args.pieces.now c.loop-piece.piece-index over c.loop-piece.invariant
