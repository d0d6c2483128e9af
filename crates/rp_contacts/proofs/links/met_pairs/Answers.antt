use Rattle.std.proofs.Common.{◌≡◌, get_or, ap, ◌∙◌}
use Rattle.std.proofs.lemmas.List.{get_or_default}
use Rattle.rp_contacts.specs.Meets.{pair_of}
use Rattle.rp_contacts.proofs.Numbers.{meet_taken, meet_passed}
use Rattle.rp_contacts.proofs.links.met_pairs.Goals as goal
use Rattle.rp_contacts.proofs.links.met_pairs.Goals.{then-met-i+in_ok-push, else-met-i}

pub loop-i-preserved : goal.loop-i-preserved
loop-i-preserved c =
    let ps = c.args.pairs.now in
    let met = c.args.met.now in
    let i = c.loop-i.i in
    let here = c.loop-i-test.true in
    let p = get_or ps i (pair_of 0 0) in
    let is : p ≡ get_or ps i p = get_or_default ps i (pair_of 0 0) p here in
    elim c.if-met-i.branch [
      | then-met-i+in_ok-push w ↦ meet_taken ps met i p _ here c.requires.each is c.loop-i.links.items _ _ w.if-met-i.true (ap (λ v. v.items) w.links-is ∙ w.in_ok-push.ensures.items) c.loop-i.invariant
      | else-met-i w ↦ meet_passed ps met i p _ here c.requires.each is c.loop-i.links.items _ _ w.if-met-i.false (ap (λ v. v.items) w.links-is) c.loop-i.invariant
    ]
