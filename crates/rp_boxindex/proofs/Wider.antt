-- Wider boxes meet where boxes in them do.
use Rattle.std.proofs.Common.{◌≡◌, ℤ, ◌≤ℤ◌, Bool, true, false, arith}
use Rattle.std.specs.Prelude.{int_lt, int_le}
use Rattle.std.proofs.lemmas.Int.{ints}
use Rattle.rp_algebra.proofs.Tests.{both_follow}
use Rattle.rp_geometry.specs.Geometry.{IntegerBox}
use Rattle.rp_geometry.specs.parts.LeastBox.{IsBoxWithin}
use Rattle.rp_boxindex.specs.Meeting.{do_meet}

-- a number that is lower yet is below one that is higher yet
below_wider : (a b c d : ℤ) → c ≤ℤ a → b ≤ℤ d → int_lt a b ≡ true → int_lt c d ≡ true
below_wider a b c d h k e = grind (arith, ints)

-- the same where both may be equal
at_most_wider : (a b c d : ℤ) → c ≤ℤ a → b ≤ℤ d → int_le a b ≡ true → int_le c d ≡ true
at_most_wider a b c d h k e = grind (arith, ints)

-- boxes meet where boxes in them do
pub wider_meet : (closed : Bool) (b c d e : IntegerBox) → IsBoxWithin b d → IsBoxWithin c e → do_meet closed b c ≡ true → do_meet closed d e ≡ true
wider_meet false b c d e h k =
    both_follow _ _ _ _ (both_follow _ _ _ _ (both_follow _ _ _ _ (both_follow _ _ _ _ (both_follow _ _ _ _
    (below_wider b.x1 c.x2 d.x1 e.x2 h.x.0 k.x.1) (below_wider c.x1 b.x2 e.x1 d.x2 k.x.0 h.x.1))
    (below_wider b.y1 c.y2 d.y1 e.y2 h.y.0 k.y.1)) (below_wider c.y1 b.y2 e.y1 d.y2 k.y.0 h.y.1))
    (below_wider b.z1 c.z2 d.z1 e.z2 h.z.0 k.z.1)) (below_wider c.z1 b.z2 e.z1 d.z2 k.z.0 h.z.1)
wider_meet true b c d e h k =
    both_follow _ _ _ _ (both_follow _ _ _ _ (both_follow _ _ _ _ (both_follow _ _ _ _ (both_follow _ _ _ _
    (at_most_wider b.x1 c.x2 d.x1 e.x2 h.x.0 k.x.1) (at_most_wider c.x1 b.x2 e.x1 d.x2 k.x.0 h.x.1))
    (at_most_wider b.y1 c.y2 d.y1 e.y2 h.y.0 k.y.1)) (at_most_wider c.y1 b.y2 e.y1 d.y2 k.y.0 h.y.1))
    (at_most_wider b.z1 c.z2 d.z1 e.z2 h.z.0 k.z.1)) (at_most_wider c.z1 b.z2 e.z1 d.z2 k.z.0 h.z.1)
