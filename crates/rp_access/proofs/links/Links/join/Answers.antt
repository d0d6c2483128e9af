use Rattle.std.proofs.Common.{◌<◌, length, subst, sym, ◌∙◌}
use Rattle.rp_access.specs.Chain.{AreLinks}
use Rattle.rp_access.proofs.Joined.{joined_both, joined_as, taken_back, links_joined}
use Rattle.rp_access.proofs.links.Links.join.Goals as goal

pub invariant_of-self-in-Ok : goal.invariant_of-self-in-Ok
invariant_of-self-in-Ok c =
    let a_below : c.args.a < length c.self.inside.lists.items = subst (λ v. c.args.a < length v) (sym c.self.view_is) c.requires.a_below in
    let b_below : c.args.b < length c.self.inside.lists.items = subst (λ v. c.args.b < length v) (sym c.self.view_is) c.requires.b_below in
    links_joined c.self.inside.lists.items _ c.args.a c.args.b a_below b_below c.self.invariant
    (joined_both c.self.inside.lists.items c.args.a c.args.b c.index_mut.result.now c.push.new.self c.index_mut-2.result.now c.push-2.new.self
    a_below b_below c.index_mut.ensures.value c.in_ok-push.ensures.ok c.index_mut-2.ensures.value c.in-Ok.ensures.ok)

pub returns-in-Ok-clause-ok : goal.returns-in-Ok-clause-ok
returns-in-Ok-clause-ok c =
    let a_below : c.args.a < length c.self.inside.lists.items = subst (λ v. c.args.a < length v) (sym c.self.view_is) c.requires.a_below in
    let b_below : c.args.b < length c.self.inside.lists.items = subst (λ v. c.args.b < length v) (sym c.self.view_is) c.requires.b_below in
    joined_as c.self.inside.lists.items c.args.self.now _ c.args.a c.args.b c.self.view_is
    (joined_both c.self.inside.lists.items c.args.a c.args.b c.index_mut.result.now c.push.new.self c.index_mut-2.result.now c.push-2.new.self
    a_below b_below c.index_mut.ensures.value c.in_ok-push.ensures.ok c.index_mut-2.ensures.value c.in-Ok.ensures.ok)

pub invariant_of-self-in-Err : goal.invariant_of-self-in-Err
invariant_of-self-in-Err c =
    let a_below : c.args.a < length c.self.inside.lists.items = subst (λ v. c.args.a < length v) (sym c.self.view_is) c.requires.a_below in
    let b_below : c.args.b < length c.self.inside.lists.items = subst (λ v. c.args.b < length v) (sym c.self.view_is) c.requires.b_below in
    subst AreLinks (sym
    (taken_back c.self.inside.lists.items c.args.a c.args.b c.index_mut.result.now c.push.new.self c.index_mut-2.result.now c.push-2.new.self
    a_below b_below c.index_mut.ensures.value c.in_ok-push.ensures.ok c.index_mut-2.ensures.value
    c.index_mut-in-Err.result.now c.pop.new.self c.in-Err.ensures.err c.index_mut-in-Err.ensures.value c.pop.ensures))
    c.self.invariant

pub returns-in-Err-clause-err : goal.returns-in-Err-clause-err
returns-in-Err-clause-err c =
    let a_below : c.args.a < length c.self.inside.lists.items = subst (λ v. c.args.a < length v) (sym c.self.view_is) c.requires.a_below in
    let b_below : c.args.b < length c.self.inside.lists.items = subst (λ v. c.args.b < length v) (sym c.self.view_is) c.requires.b_below in
    taken_back c.self.inside.lists.items c.args.a c.args.b c.index_mut.result.now c.push.new.self c.index_mut-2.result.now c.push-2.new.self
    a_below b_below c.index_mut.ensures.value c.in_ok-push.ensures.ok c.index_mut-2.ensures.value
    c.index_mut-in-Err.result.now c.pop.new.self c.in-Err.ensures.err c.index_mut-in-Err.ensures.value c.pop.ensures
    ∙ c.self.view_is
