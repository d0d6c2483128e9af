use Rattle.std.proofs.Common.{◌≤◌, ◌+◌, List, length, map, sym, ap, ◌∙◌, subst}
use Rattle.rp_algebra.proofs.Listed.{all_map}
use Rattle.rp_geometry.specs.Geometry.{HalfSpace, IsHalfSpace, IsKeptHalfSpace}
use Rattle.rp_geometry.specs.sets.Shape.{shape_of_cell}
use Rattle.rp_geometry.specs.sets.Sets.{SameMembers}
use Rattle.rp_geometry.specs.parts.Parts.{most_half_spaces}
use Rattle.rp_geometry.specs.searches.Certificate.{Multiple}
use Rattle.rp_parts.proofs.Slim.{slim_keeps_members_spec, slim_part_is_part_spec}
use Rattle.rp_lists.specs.Listed.{Listed}
use Rattle.rp_cell.specs.Lines.{drop_line_of}
use Rattle.rp_cell.proofs.SlimSoFar.{IsSlim, slim_start, tested_here, at_here, tested_list, drop_proof_none, drop_proof_some, slim_is, slim_stays, slim_goes, slim_end}
use Rattle.rp_cell.proofs.held.Held.slim.Goals as goal
use Rattle.rp_cell.proofs.held.Held.slim.Goals.{in-None+in_ok-push-in-None, in-Some+in_ok-push-in-Some}

pub loop-i-init : goal.loop-i-init
loop-i-init c = slim_start c.args.self.now c.new-kept.result.items _ c.new-kept.ensures (ap (map drop_line_of) c.new-dropped.ensures)

pub drop_proof-requires : goal.drop_proof-requires
drop_proof-requires c =
    tested_here c.halves-cell.result.now c.args.self.now c.loop-i.i c.loop-i.kept.items c.items.result.now c.index-cell-i.result _ c.halves-cell.ensures.value c.items.ensures c.loop-i-test.true c.index-cell-i.is c.loop-i.invariant

pub loop-i-preserved : goal.loop-i-preserved
loop-i-preserved c =
    let cell = c.args.self.now in
    let i = c.loop-i.i in
    let h = c.index-cell-i.result in
    let kept = c.loop-i.kept.items in
    let drops = c.loop-i.dropped.items in
    let at = at_here c.halves-cell.result.now cell i h c.halves-cell.ensures.value c.loop-i-test.true c.index-cell-i.is c.drop_proof.ensures.lowest in
    let list = tested_list c.halves-cell.result.now cell i kept c.items.result.now h c.halves-cell.ensures.value c.items.ensures in
    elim c.match-drop_proof.branch [
      | in-None+in_ok-push-in-None w ↦
          slim_is cell (i + 1) (ap (λ (l : Listed HalfSpace). l.items) w.kept-is ∙ w.in_ok-push-in-None.ensures.ok)
          (ap (λ (l : Listed (HalfSpace × List Multiple)). map drop_line_of l.items) w.dropped-is)
          (slim_stays cell i kept h (map drop_line_of drops) at (drop_proof_none _ c.drop_proof.result list c.drop_proof.ensures.proof w.in-None.is) c.loop-i.invariant)
      | in-Some+in_ok-push-in-Some w ↦
          slim_is cell (i + 1) (ap (λ (l : Listed HalfSpace). l.items) w.kept-is)
          (ap (λ (l : Listed (HalfSpace × List Multiple)). map drop_line_of l.items) w.dropped-is ∙ ap (map drop_line_of) w.in_ok-push-in-Some.ensures.ok)
          (slim_goes cell i kept h drops w.in-Some.terms at (drop_proof_some _ c.drop_proof.result w.in-Some.terms list c.drop_proof.ensures.proof w.in-Some.is) c.loop-i.invariant)
    ]

-- what is known at the end
done : (c : goal.After-loop-i) → IsSlim c.args.self.now c.loop-i.kept.items (map drop_line_of c.loop-i.dropped.items)
done c = slim_end c.args.self.now c.loop-i.kept.items (map drop_line_of c.loop-i.dropped.items) c.loop-i.i (subst (λ (hs : List HalfSpace). length hs ≤ c.loop-i.i) c.halves-cell.ensures.value c.loop-i-test.false) c.loop-i.invariant

pub returns-clause-kept : goal.returns-clause-kept
returns-clause-kept c = (done c).kept_is

pub returns-clause-lines : goal.returns-clause-lines
returns-clause-lines c = (done c).told_is

pub returns-clause-members : goal.returns-clause-members
returns-clause-members c =
    let k = done c in
    subst (λ (hs : List HalfSpace). SameMembers (shape_of_cell hs) (shape_of_cell c.args.self.now)) (sym k.kept_is)
    (slim_keeps_members_spec c.args.self.now (all_map IsKeptHalfSpace IsHalfSpace (λ h n. n.numbers) c.args.self.now k.lowest))

pub returns-clause-part : goal.returns-clause-part
returns-clause-part c some few =
    let k = done c in
    slim_part_is_part_spec c.args.self.now k.lowest (subst (λ (hs : List HalfSpace). length hs ≤ most_half_spaces) k.kept_is few) some
