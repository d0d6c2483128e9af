-- What meets before boxes are turned and moved into a cube meets after it.
use Rattle.std.proofs.Common.{◌≡◌, ℕ, ◌<◌, ◌≤◌, ◌/◌, ◌%◌, ℤ, pos, negsuc, ◌+ℤ◌, ◌+◌, unsigned_abs, Bool, true, false, ◌&&◌, cond, refl, arith}
use Rattle.std.specs.Prelude.{int_le, int_lt}
use Rattle.std.proofs.lemmas.Int.{ints}
use Rattle.rp_algebra.specs.Within.{IsWithin}
use Rattle.rp_algebra.proofs.Listed.{Listed, first, later}
use Rattle.rp_algebra.proofs.Tests.{both_follow, and_first, and_second}
use Rattle.rp_geometry.specs.Geometry.{IntegerBox}
use Rattle.rp_boxindex.specs.Meeting.{is_below, do_meet}
use Rattle.rp_lotindex.specs.declared.axis.Axis.{Axis}
use Rattle.rp_lotindex.specs.declared.axis.Axis.TheVariants.{X, Y, Z}
use Rattle.rp_lotindex.specs.Turns.{turned}
use Rattle.rp_lotindex.specs.Cubes.{step_of, is_near_domain, moved_low, moved_high, moved_by, moved_to, turn_number, moved_in, in_turns}

-- ---- one side below another

-- both are moved
both_moved : (c : Bool) (t a b : ℤ) → is_below c a b ≡ true → is_below c (t +ℤ a) (t +ℤ b) ≡ true
both_moved true t a b h = grind (arith, ints)
both_moved false t a b h = grind (arith, ints)

-- a moved side is above the least number and below the greatest
above_least : (c : Bool) (t v : ℤ) → unsigned_abs t ≤ 2113929216 → int_le (negsuc 16777216) v ≡ true → is_below c (negsuc 2147483647) (t +ℤ v) ≡ true
above_least true t v small low = grind (arith, ints)
above_least false t v small low = grind (arith, ints)

below_greatest : (c : Bool) (t v : ℤ) → unsigned_abs t ≤ 2113929216 → int_le v (pos 16777217) ≡ true → is_below c (t +ℤ v) (pos 2147483647) ≡ true
below_greatest true t v small high = grind (arith, ints)
below_greatest false t v small high = grind (arith, ints)

least_below : (c : Bool) → is_below c (negsuc 2147483647) (pos 2147483647) ≡ true
least_below true = refl
least_below false = refl

sides_by : (c : Bool) (t a b : ℤ) → unsigned_abs t ≤ 2113929216 → is_below c a b ≡ true → (p : Bool) → is_near_domain a ≡ p → (q : Bool) → is_near_domain b ≡ q → is_below c (cond p (t +ℤ a) (negsuc 2147483647)) (cond q (t +ℤ b) (pos 2147483647)) ≡ true
sides_by c t a b small h true e true f = both_moved c t a b h
sides_by c t a b small h true e false f = below_greatest c t a small (and_second (int_le (negsuc 16777216) a) (int_le a (pos 16777217)) e)
sides_by c t a b small h false e true f = above_least c t b small (and_first (int_le (negsuc 16777216) b) (int_le b (pos 16777217)) f)
sides_by c t a b small h false e false f = least_below c

-- a lower side below an upper one stays so
moved_below : (c : Bool) (t a b : ℤ) → IsWithin 2113929216 t → is_below c a b ≡ true → is_below c (moved_low t a) (moved_high t b) ≡ true
moved_below c t a b small h = sides_by c t a b small.abs_le h (is_near_domain a) refl (is_near_domain b) refl

-- ---- boxes

moved_by_meet : (closed : Bool) (x y z : ℤ) → IsWithin 2113929216 x → IsWithin 2113929216 y → IsWithin 2113929216 z → (b c : IntegerBox) → do_meet closed b c ≡ true → do_meet closed (moved_by x y z b) (moved_by x y z c) ≡ true
moved_by_meet false x y z sx sy sz b c =
    both_follow _ _ _ _ (both_follow _ _ _ _ (both_follow _ _ _ _ (both_follow _ _ _ _ (both_follow _ _ _ _
    (moved_below false x b.x1 c.x2 sx) (moved_below false x c.x1 b.x2 sx))
    (moved_below false y b.y1 c.y2 sy)) (moved_below false y c.y1 b.y2 sy))
    (moved_below false z b.z1 c.z2 sz)) (moved_below false z c.z1 b.z2 sz)
moved_by_meet true x y z sx sy sz b c =
    both_follow _ _ _ _ (both_follow _ _ _ _ (both_follow _ _ _ _ (both_follow _ _ _ _ (both_follow _ _ _ _
    (moved_below true x b.x1 c.x2 sx) (moved_below true x c.x1 b.x2 sx))
    (moved_below true y b.y1 c.y2 sy)) (moved_below true y c.y1 b.y2 sy))
    (moved_below true z b.z1 c.z2 sz)) (moved_below true z c.z1 b.z2 sz)

-- a cube is not moved too far
pub step_within : (n : ℕ) → n < 64 → IsWithin 2113929216 (step_of n)
step_within n h = record { abs_le = omega (arith, ints) }

-- what meets does so in the cube of a number
moved_to_meet : (closed : Bool) (n : ℕ) (b c : IntegerBox) → do_meet closed b c ≡ true → do_meet closed (moved_to n b) (moved_to n c) ≡ true
unfolding moved_to
moved_to_meet closed n b c h =
    moved_by_meet closed (step_of (n % 64)) (step_of (n / 64 % 64)) (step_of (n / 4096 % 64))
    (step_within (n % 64) (omega arith)) (step_within (n / 64 % 64) (omega arith)) (step_within (n / 4096 % 64) (omega arith)) b c h

-- ---- boxes that are turned

-- six tests pass in another order, as the second axis comes first
second_first : (a b c d e f : Bool) → (((((a && b) && c) && d) && e) && f) ≡ true → (((((c && d) && a) && b) && e) && f) ≡ true
second_first true true true true e f h = h
second_first true true true false e f h = h
second_first true true false d e f h = h
second_first true false c d e f h = absurd (cc)
second_first false b c d e f h = absurd (cc)

-- or the third one
third_first : (a b c d e f : Bool) → (((((a && b) && c) && d) && e) && f) ≡ true → (((((e && f) && c) && d) && a) && b) ≡ true
third_first true true true true true true h = refl
third_first true true true true true false h = h
third_first true true true true false f h = h
third_first true true true false e f h = absurd (cc)
third_first true true false d e f h = absurd (cc)
third_first true false c d e f h = absurd (cc)
third_first false b c d e f h = absurd (cc)

-- what meets does so in each turn
turned_meet : (closed : Bool) (a : Axis) (b c : IntegerBox) → do_meet closed b c ≡ true → do_meet closed (turned a b) (turned a c) ≡ true
turned_meet closed X b c h = h
turned_meet false Y b c h = second_first (int_lt b.x1 c.x2) (int_lt c.x1 b.x2) (int_lt b.y1 c.y2) (int_lt c.y1 b.y2) (int_lt b.z1 c.z2) (int_lt c.z1 b.z2) h
turned_meet true Y b c h = second_first (int_le b.x1 c.x2) (int_le c.x1 b.x2) (int_le b.y1 c.y2) (int_le c.y1 b.y2) (int_le b.z1 c.z2) (int_le c.z1 b.z2) h
turned_meet false Z b c h = third_first (int_lt b.x1 c.x2) (int_lt c.x1 b.x2) (int_lt b.y1 c.y2) (int_lt c.y1 b.y2) (int_lt b.z1 c.z2) (int_lt c.z1 b.z2) h
turned_meet true Z b c h = third_first (int_le b.x1 c.x2) (int_le c.x1 b.x2) (int_le b.y1 c.y2) (int_le c.y1 b.y2) (int_le b.z1 c.z2) (int_le c.z1 b.z2) h

-- and in the cube for it
pub moved_in_meet : (closed : Bool) (a : Axis) (n : ℕ) (b c : IntegerBox) → do_meet closed b c ≡ true → do_meet closed (moved_in a n b) (moved_in a n c) ≡ true
moved_in_meet closed a n b c h = moved_to_meet closed (n % 262144 + turn_number a) (turned a b) (turned a c) (turned_meet closed a b c h)

-- a box in one turn is one of those in each
pub turn_listed : (a : Axis) (n : ℕ) (b : IntegerBox) → Listed (moved_in a n b) (in_turns n b)
turn_listed X n b = first
turn_listed Y n b = later first
turn_listed Z n b = later (later first)
