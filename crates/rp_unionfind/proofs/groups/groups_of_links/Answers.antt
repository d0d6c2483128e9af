use Rattle.std.proofs.Common.{◌≡◌, ℕ, ◌≤◌, inl, inr, length, get_or, sym, ap, ◌∙◌, subst, arith}
use Rattle.std.proofs.lemmas.List.{length-map}
use Rattle.rp_lists.specs.Listed.{Listed}
use Rattle.rp_geometry.specs.parts.Groups.{groups_of}
use Rattle.rp_unionfind.specs.Lists.{lists_of, numbers_of}
use Rattle.rp_unionfind.proofs.Few.{few_lists}
use Rattle.rp_unionfind.proofs.Grouped.{IsGrouped, next_grouped, groups_made}
use Rattle.std.proofs.lemmas.Result.{IfOk-weaker}
use Rattle.rp_unionfind.proofs.groups.groups_of_links.Goals as goal
use Rattle.rp_unionfind.proofs.groups.groups_of_links.Goals.{then-parent-number, else-parent-number}

pub put-requires : goal.put-requires
put-requires c =
    let groups = c.loop-before.groups in
    let parents = c.in_ok-parents.parents.items in
    let size : length (lists_of groups.items) ≡ length groups.items = length-map groups.items (λ (group : Listed ℕ). group.items) in
    elim c.if-parent-number.branch [
      | then-parent-number w ↦
          let new = w.place-is ∙ w.len-place.ensures ∙ groups.ok.0 ∙ sym size in
          let r = (next_grouped c.args.links.now c.args.count parents c.in_ok-parents.ensures c.loop-before.before (lists_of groups.items) c.loop-before.places.items c.index-parent.result.now c.if-parent-number.place c.loop-before.invariant c.loop-before-test.true c.index-parent.ensures (inl (w.if-parent-number.true, new))).0 in
          omega (arith, r, size)
      | else-parent-number w ↦
          let old = subst (λ x. x ≡ get_or c.loop-before.places.items c.index-parent.result.now x) (sym w.place-is) w.index.ensures in
          let r = (next_grouped c.args.links.now c.args.count parents c.in_ok-parents.ensures c.loop-before.before (lists_of groups.items) c.loop-before.places.items c.index-parent.result.now c.if-parent-number.place c.loop-before.invariant c.loop-before-test.true c.index-parent.ensures (inr (w.if-parent-number.false, old))).0 in
          omega (arith, r, size)
    ]

pub loop-before-preserved : goal.loop-before-preserved
loop-before-preserved c =
    let groups = c.loop-before.groups in
    let parents = c.in_ok-parents.parents.items in
    let size : length (lists_of groups.items) ≡ length groups.items = length-map groups.items (λ (group : Listed ℕ). group.items) in
    elim c.if-parent-number.branch [
      | then-parent-number w ↦
          let new = w.place-is ∙ w.len-place.ensures ∙ groups.ok.0 ∙ sym size in
          let r = (next_grouped c.args.links.now c.args.count parents c.in_ok-parents.ensures c.loop-before.before (lists_of groups.items) c.loop-before.places.items c.index-parent.result.now c.if-parent-number.place c.loop-before.invariant c.loop-before-test.true c.index-parent.ensures (inl (w.if-parent-number.true, new))).1 in
          rw (c.in_ok-put.ensures, c.in_ok-push-2.ensures.items) r
      | else-parent-number w ↦
          let old = subst (λ x. x ≡ get_or c.loop-before.places.items c.index-parent.result.now x) (sym w.place-is) w.index.ensures in
          let r = (next_grouped c.args.links.now c.args.count parents c.in_ok-parents.ensures c.loop-before.before (lists_of groups.items) c.loop-before.places.items c.index-parent.result.now c.if-parent-number.place c.loop-before.invariant c.loop-before-test.true c.index-parent.ensures (inr (w.if-parent-number.false, old))).1 in
          rw (c.in_ok-put.ensures, c.in_ok-push-2.ensures.items) r
    ]

pub returns : goal.returns
returns c =
    let all : c.loop-before.before ≡ c.args.count = omega arith in
    let made = groups_made c.args.links.now c.args.count c.in_ok-parents.parents.items c.in_ok-parents.ensures (lists_of c.loop-before.groups.items) c.loop-before.places.items
    (subst (λ m. IsGrouped c.args.links.now c.args.count c.in_ok-parents.parents.items m (lists_of c.loop-before.groups.items) c.loop-before.places.items) all c.loop-before.invariant) in
    let right = IfOk-weaker c.listed.result (λ (list : Listed (Listed ℕ)). list.items ≡ c.loop-before.groups.items) (λ list. numbers_of list ≡ groups_of c.args.links.now c.args.count) (λ list e. ap lists_of e ∙ made) c.listed.ensures in
    record {
      right = right;
      few = IfOk-weaker c.listed.result (λ list. numbers_of list ≡ groups_of c.args.links.now c.args.count) (λ (list : Listed (Listed ℕ)). length list.items ≤ c.args.count) (λ list. few_lists list c.args.links.now c.args.count) right;
    }
