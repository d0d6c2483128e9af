use Rattle.std.proofs.Common.{subst}
use Rattle.rp_trail.proofs.Followed.{AreChecked, touch_right}
use Rattle.rp_trail.proofs.form.touching.Goals as goal

pub returns-clause-right : goal.returns-clause-right
returns-clause-right c =
    touch_right c.args.near c.meet.result c.args.a.now.items c.args.b.now.items c.args.trail.now c.meet.new.trail
    (subst (λ ps. AreChecked ps) c.items.ensures c.keep_parts.ensures) (subst (λ ps. AreChecked ps) c.items-2.ensures c.keep_parts-2.ensures) c.meet.ensures.comes
