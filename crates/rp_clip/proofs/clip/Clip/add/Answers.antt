use Rattle.std.proofs.Common.{sym, subst}
use Rattle.std.specs.Prelude.{not}
use Rattle.rp_clip.specs.Tables.{Rows, counting, AreVertices}
use Rattle.rp_clip.proofs.Added.{added_here, clip_vertices, full_never}
use Rattle.rp_clip.proofs.clip.Clip.add.Goals as goal

pub returns-then-not-refill-clause-vertices : goal.returns-then-not-refill-clause-vertices
returns-then-not-refill-clause-vertices g c =
    subst (λ (t : Rows). AreVertices c.self.inside.planes t.points) (sym c.refill.ensures.same)
    (clip_vertices c.self.inside.planes (counting c.self.inside.is_second c.self.inside.first c.self.inside.second) c.self.invariant)

pub invariant_of-self-2 : goal.invariant_of-self-2
invariant_of-self-2 g c =
    added_here g.row.MOST c.self.inside.planes c.push.new.self c.args.h (counting c.self.inside.is_second c.self.inside.first c.self.inside.second)
    (counting (not c.self.inside.is_second) c.refill.new.first c.refill.new.second) c.args.self.now c.refill.result
    c.self.invariant c.self.view_is c.requires c.numbers.ensures.kept.numbers c.refill.ensures.refilled c.if-not-refill.false c.push.ensures

pub returns-clause-full : goal.returns-clause-full
returns-clause-full g c =
    full_never g.row.MOST c.self.inside.planes c.push.new.self c.args.h (counting (not c.self.inside.is_second) c.refill.new.first c.refill.new.second) c.args.self.now
    (counting c.self.inside.is_second c.self.inside.first c.self.inside.second).points c.self.view_is c.push.ensures
    (added_here g.row.MOST c.self.inside.planes c.push.new.self c.args.h (counting c.self.inside.is_second c.self.inside.first c.self.inside.second)
    (counting (not c.self.inside.is_second) c.refill.new.first c.refill.new.second) c.args.self.now c.refill.result
    c.self.invariant c.self.view_is c.requires c.numbers.ensures.kept.numbers c.refill.ensures.refilled c.if-not-refill.false c.push.ensures)

pub returns-clause-vertices : goal.returns-clause-vertices
returns-clause-vertices g c =
    clip_vertices c.push.new.self (counting (not c.self.inside.is_second) c.refill.new.first c.refill.new.second)
    (added_here g.row.MOST c.self.inside.planes c.push.new.self c.args.h (counting c.self.inside.is_second c.self.inside.first c.self.inside.second)
    (counting (not c.self.inside.is_second) c.refill.new.first c.refill.new.second) c.args.self.now c.refill.result
    c.self.invariant c.self.view_is c.requires c.numbers.ensures.kept.numbers c.refill.ensures.refilled c.if-not-refill.false c.push.ensures)
