use Rattle.std.proofs.Common.{◌<◌, ◌≤◌, ◌+◌, ◌^◌, length, ap, sym, subst, ◌∙◌, arith}
use Rattle.rp_access.specs.Searching.{Search, reach, AreBelow}
use Rattle.rp_access.proofs.Searching.{begins_as, i_below, i_listed, here, not_free, level_fits, linked_below, goes_on, less_left, found_levels, all_visited, GoesOn}
use Rattle.rp_access.proofs.search.levels.Goals as goal
use Rattle.rp_access.proofs.search.levels.Goals.{in-Some+in_ok-reach, in_default}

pub loop-next-init : goal.loop-next-init
loop-next-init c = begins_as c.args.g.now c.args.to c.count.result c.in_ok-search.search c.count.ensures.count c.requires c.in_ok-search.ensures

pub index-requires : goal.index-requires
index-requires c =
    let s : Search = record { levels = c.search.inside.levels.items; queue = c.search.inside.queue.items } in
    let a : GoesOn c.args.g.now c.args.to c.loop-next.next s = subst (GoesOn c.args.g.now c.args.to c.loop-next.next) (sym c.search.view_is) c.loop-next.invariant in
    let more : c.loop-next.next < length s.queue = omega (arith, c.len.ensures, c.loop-next-test.true) in
    let b : c.index-i.result.now < length c.search.inside.levels.items = i_below c.args.g.now c.args.to c.loop-next.next c.index-i.result.now s a more c.index-i.ensures in
    omega arith

pub linked_to-requires : goal.linked_to-requires
linked_to-requires c =
    let s : Search = record { levels = c.search.inside.levels.items; queue = c.search.inside.queue.items } in
    let a : GoesOn c.args.g.now c.args.to c.loop-next.next s = subst (GoesOn c.args.g.now c.args.to c.loop-next.next) (sym c.search.view_is) c.loop-next.invariant in
    let more : c.loop-next.next < length s.queue = omega (arith, c.len.ensures, c.loop-next-test.true) in
    i_listed c.args.g.now c.args.to c.loop-next.next c.index-i.result.now s a more c.index-i.ensures

pub overflow_add-level : goal.overflow_add-level
overflow_add-level c =
    let s : Search = record { levels = c.search.inside.levels.items; queue = c.search.inside.queue.items } in
    let a : GoesOn c.args.g.now c.args.to c.loop-next.next s = subst (GoesOn c.args.g.now c.args.to c.loop-next.next) (sym c.search.view_is) c.loop-next.invariant in
    let more : c.loop-next.next < length s.queue = omega (arith, c.len.ensures, c.loop-next-test.true) in
    let h : c.in-Some.level + 1 < 2 ^ 32 = level_fits c.args.g.now c.args.to c.loop-next.next c.index-i.result.now s a more c.index-i.ensures c.count.ensures.links c.in-Some.level (here c.args.g.now c.args.to c.loop-next.next c.index-i.result.now s a more c.index-i.ensures c.index.result.now c.in-Some.level c.index.ensures c.in-Some.is) in
    record { fits = h }

pub reach-requires : goal.reach-requires
reach-requires c =
    let s : Search = record { levels = c.search.inside.levels.items; queue = c.search.inside.queue.items } in
    let a : GoesOn c.args.g.now c.args.to c.loop-next.next s = subst (GoesOn c.args.g.now c.args.to c.loop-next.next) (sym c.search.view_is) c.loop-next.invariant in
    let more : c.loop-next.next < length s.queue = omega (arith, c.len.ensures, c.loop-next-test.true) in
    subst (λ v. AreBelow (length v.levels) c.linked_to.result.now) c.search.view_is (linked_below c.args.g.now c.args.to c.loop-next.next c.index-i.result.now s a more c.index-i.ensures c.count.ensures.links c.linked_to.result.now c.linked_to.ensures.value)

pub loop-next-preserved : goal.loop-next-preserved
loop-next-preserved c =
    let s : Search = record { levels = c.search.inside.levels.items; queue = c.search.inside.queue.items } in
    let a : GoesOn c.args.g.now c.args.to c.loop-next.next s = subst (GoesOn c.args.g.now c.args.to c.loop-next.next) (sym c.search.view_is) c.loop-next.invariant in
    let more : c.loop-next.next < length s.queue = omega (arith, c.len.ensures, c.loop-next-test.true) in
    elim c.match-index.branch [
      | in-Some+in_ok-reach w ↦
          let e = here c.args.g.now c.args.to c.loop-next.next c.index-i.result.now s a more c.index-i.ensures c.index.result.now w.in-Some.level c.index.ensures w.in-Some.is in
          goes_on c.args.g.now c.args.to c.loop-next.next c.index-i.result.now s a more c.index-i.ensures c.count.ensures.links w.in-Some.level e w.linked_to.result.now w.linked_to.ensures.value c.match-index.search
          (w.search-is ∙ w.in_ok-reach.ensures ∙ ap (reach (w.in-Some.level + 1) w.linked_to.result.now) (sym c.search.view_is))
      | in_default w ↦ absurd (not_free c.args.g.now c.args.to c.loop-next.next c.index-i.result.now s a more c.index-i.ensures c.index.result.now c.index.ensures w.in_default.is)
    ]

pub loop-next-smaller : goal.loop-next-smaller
loop-next-smaller c =
    let s : Search = record { levels = c.search.inside.levels.items; queue = c.search.inside.queue.items } in
    let a : GoesOn c.args.g.now c.args.to c.loop-next.next s = subst (GoesOn c.args.g.now c.args.to c.loop-next.next) (sym c.search.view_is) c.loop-next.invariant in
    let more : c.loop-next.next < length s.queue = omega (arith, c.len.ensures, c.loop-next-test.true) in
    let b : GoesOn c.args.g.now c.args.to (c.loop-next.next + 1) c.match-index.search = (elim c.match-index.branch [
      | in-Some+in_ok-reach w ↦
          let e = here c.args.g.now c.args.to c.loop-next.next c.index-i.result.now s a more c.index-i.ensures c.index.result.now w.in-Some.level c.index.ensures w.in-Some.is in
          goes_on c.args.g.now c.args.to c.loop-next.next c.index-i.result.now s a more c.index-i.ensures c.count.ensures.links w.in-Some.level e w.linked_to.result.now w.linked_to.ensures.value c.match-index.search
          (w.search-is ∙ w.in_ok-reach.ensures ∙ ap (reach (w.in-Some.level + 1) w.linked_to.result.now) (sym c.search.view_is))
      | in_default w ↦ absurd (not_free c.args.g.now c.args.to c.loop-next.next c.index-i.result.now s a more c.index-i.ensures c.index.result.now c.index.ensures w.in_default.is)
    ]) in
    less_left c.args.g.now c.args.to c.loop-next.next c.loop-next.search c.match-index.search c.loop-next.invariant b (subst (λ v. c.loop-next.next < length v.queue) c.search.view_is more)

pub returns : goal.returns
returns c =
    let s : Search = record { levels = c.search.inside.levels.items; queue = c.search.inside.queue.items } in
    let a : GoesOn c.args.g.now c.args.to c.loop-next.next s = subst (GoesOn c.args.g.now c.args.to c.loop-next.next) (sym c.search.view_is) c.loop-next.invariant in
    let end : length s.queue ≤ c.loop-next.next = omega (arith, c.len.ensures, c.loop-next-test.false) in
    record {
      found = found_levels c.args.g.now c.count.ensures.links c.args.to c.loop-next.next s c.requires a end;
      passes = all_visited c.args.g.now c.count.ensures.links c.args.to c.loop-next.next s a end;
    }
