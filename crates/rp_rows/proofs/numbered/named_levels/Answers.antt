use Rattle.std.proofs.Common.{◌+◌, ◌<◌, [], ◌∷◌, length, drop, get_or, None, ap, ◌∙◌, arith}
use Rattle.std.proofs.lemmas.List.{drop_more}
use Rattle.rp_algebra.proofs.Lists.{drop_item}
use Rattle.rp_rows.proofs.AccessLines.{level_told, level_passed}
use Rattle.rp_rows.proofs.numbered.named_levels.Goals as goal
use Rattle.rp_rows.proofs.numbered.named_levels.Goals.{in-Some+in_ok-push, in_default}

pub loop-number-preserved : goal.loop-number-preserved
loop-number-preserved c =
    let ids = c.args.ids.now in
    let levels = c.args.levels.now in
    let n = c.loop-number.number in
    let here = c.loop-number-test.true in
    let each = c.requires in
    let there : n < length levels = omega (arith, each, here) in
    let told = c.loop-number.told.items in
    let rest = drop (n + 1) levels in
    elim c.match-levels-number.branch [
      | in-Some+in_ok-push w ↦
          level_told told c.match-levels-number.told.items (drop (n + 1) ids) _ rest _ w.index-ids-number.result w.in-Some.level _ (drop_item ids n w.index-ids-number.result here w.index-ids-number.is) (drop_more levels n None there ∙ ap (λ o. o ∷ rest) w.in-Some.is)
          (ap (λ v. v.items) w.told-is ∙ w.in_ok-push.ensures.ok) c.loop-number.invariant
      | in_default w ↦
          level_passed told c.match-levels-number.told.items (drop (n + 1) ids) _ rest _ (get_or ids n []) _ (drop_more ids n [] here) (drop_more levels n None there ∙ ap (λ o. o ∷ rest) w.in_default.is) (ap (λ v. v.items) w.told-is) c.loop-number.invariant
    ]
