use Rattle.rp_space.proofs.divisor.+greatest_common_divisor.Given as goal

abbrev pub decreases-greatest_common_divisor : goal.decreases-greatest_common_divisor
decreases-greatest_common_divisor l = l.b
