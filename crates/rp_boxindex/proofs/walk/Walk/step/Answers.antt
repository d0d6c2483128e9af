use Rattle.std.proofs.Common.{◌≡◌, false, Bool, List, [], ◌∷◌, ◌++◌, rules, sym, ap, ◌∙◌}
use Rattle.rp_geometry.specs.Geometry.{IntegerBox}
use Rattle.rp_space.specs.Boxes.{integer_box}
use Rattle.rp_boxindex.specs.Boxes.{Entry}
use Rattle.rp_boxindex.specs.cells.Nodes.{IsShown}
use Rattle.rp_boxindex.specs.cells.Walks.{pending_entries}
use Rattle.rp_boxindex.specs.Meeting.{do_meet, ids_that_meet}
use Rattle.rp_boxindex.specs.tree.Taking.{taken}
use Rattle.rp_boxindex.proofs.Walks.{further_step, outcome_pruned, outcome_visited}
use Rattle.rp_boxindex.proofs.walk.Walk.step.Goals as goal

pub returns-then-not-is_met_by-clause-further : goal.returns-then-not-is_met_by-clause-further
returns-then-not-is_met_by-clause-further g c =
    let closed : Bool = c.args.query.now.closed in
    let b : IntegerBox = integer_box c.args.query.now.bounds in
    let hull : IntegerBox = integer_box c.in-Some-visit.node.hull in
    let apart : do_meet closed b hull ≡ false = search rules in
    let shown : IsShown c.in-Some.cells.now c.in-Some-visit.node.entry hull c.in-Some-visit.node.lower.now c.in-Some-visit.node.upper.now = c.in-Some-visit.ensures.shown in
    further_step g.T.Take.after closed b c.args.self.now c.next.new.self c.in-Some.ensures.some
    (λ h. sym c.next.ensures.lost ∙ h)
    (λ _. outcome_pruned g.T.Take.after closed b hull c.args.self.now c.next.new.self c.in-Some.cells.now.entries c.in-Some.ensures.pending c.next.ensures.taker shown.around apart)

pub returns-clause-further : goal.returns-clause-further
returns-clause-further g c =
    let closed : Bool = c.args.query.now.closed in
    let b : IntegerBox = integer_box c.args.query.now.bounds in
    let e : Entry = c.in-Some-visit.node.entry in
    let lower : List Entry = c.in-Some-visit.node.lower.now.entries in
    let upper : List Entry = c.in-Some-visit.node.upper.now.entries in
    let shown : IsShown c.in-Some.cells.now e (integer_box c.in-Some-visit.node.hull) c.in-Some-visit.node.lower.now c.in-Some-visit.node.upper.now = c.in-Some-visit.ensures.shown in
    further_step g.T.Take.after closed b c.args.self.now c.hand.new.self c.in-Some.ensures.some
    (λ h. sym c.next.ensures.lost ∙ c.add.ensures.lost (c.add-2.ensures.lost (c.hand.ensures.lost h)))
    (λ h. outcome_visited g.T.Take.after closed b c.args.self.now.taker c.hand.new.self.taker c.in-Some.cells.now.entries e lower upper (pending_entries c.next.new.self.pending) (pending_entries c.args.self.now.pending) (pending_entries c.hand.new.self.pending) shown.entries c.in-Some.ensures.pending
    (ap pending_entries c.hand.ensures.pending ∙ (c.add-2.ensures.pending (c.hand.ensures.lost h) ∙ ap (λ (xs : List Entry). lower ++ xs) (c.add.ensures.pending (c.add-2.ensures.lost (c.hand.ensures.lost h)))))
    (c.hand.ensures.taken h ∙ ap (λ t. taken g.T.Take.after t (ids_that_meet closed b (e ∷ []))) (c.add-2.ensures.taker ∙ (c.add.ensures.taker ∙ c.next.ensures.taker))))
