-- What the check finds of the report of a flat box with other certificates, numbers and spellings, by computation.
use Rattle.std.specs.Prelude.{◌≡◌, [], ◌∷◌, ◌++◌, codes, refl}
use Rattle.rp_worked.proofs.Opened.{opened}
use Rattle.rp_reports.specs.Check.{finding, all_accepted, wrong_at}
use Rattle.rp_reports.specs.Output.{spelled_script}
use Rattle.rp_reports.specs.Made.{made_script, trial_lines}
use Rattle.rp_reports.specs.Text.{text_of_lines}

whole : finding (codes "> 1 empty box 0 0 0 0 10 10" ∷ codes "  out 1*(1 0 0 0) 1*(-1 0 0 0)" ∷ codes "= yes" ∷ []) ≡ all_accepted
unfolding opened
whole = refl

doubled : finding (codes "> 1 empty box 0 0 0 0 10 10" ∷ codes "  out 2*(1 0 0 0) 1*(-1 0 0 0)" ∷ codes "= yes" ∷ []) ≡ wrong_at 2
unfolding opened
doubled = refl

other : finding (codes "> 1 empty box 0 0 0 0 10 10" ∷ codes "  out 2*(1 0 0 0) 2*(-1 0 0 0)" ∷ codes "= yes" ∷ []) ≡ all_accepted
unfolding opened
other = refl

no_verdict : finding (codes "> 1 empty box 0 0 0 0 10 10" ∷ codes "  out 1*(1 0 0 0) 1*(-1 0 0 0)" ∷ codes "= no" ∷ []) ≡ wrong_at 3
unfolding opened
no_verdict = refl

no_line : finding (codes "> 1 empty box 0 0 0 0 10 10" ∷ codes "= yes" ∷ []) ≡ wrong_at 2
unfolding opened
no_line = refl

cut_off : finding (codes "> 1 empty box 0 0 0 0 10 10" ∷ codes "  out 1*(1 0 0 0) 1*(-1 0 0 0)" ∷ []) ≡ wrong_at 3
unfolding opened
cut_off = refl

told : finding (codes "> 1 empty box 0 0 0 0 10 10" ∷ codes "  out 1*(1 0 0 0) 1*(-1 0 0 0)" ∷ codes "= refused limit" ∷ []) ≡ all_accepted
unfolding opened
told = refl

told_early : finding (codes "> 1 empty box 0 0 0 0 10 10" ∷ codes "= refused limit" ∷ []) ≡ all_accepted
unfolding opened
told_early = refl

empty : finding [] ≡ all_accepted
unfolding opened
empty = refl

greatest : finding (codes "> 1 empty box 0 0 0 0 10 10" ∷ codes "  out 37778931862957161709567*(1 0 0 0) 37778931862957161709567*(-1 0 0 0)" ∷ codes "= yes" ∷ []) ≡ all_accepted
unfolding opened
greatest = refl

above : finding (codes "> 1 empty box 0 0 0 0 10 10" ∷ codes "  out 37778931862957161709568*(1 0 0 0) 37778931862957161709568*(-1 0 0 0)" ∷ codes "= yes" ∷ []) ≡ wrong_at 2
unfolding opened
above = refl

multiplier_zero : finding (codes "> 1 empty box 0 0 0 0 10 10" ∷ codes "  out 0*(1 0 0 0) 1*(-1 0 0 0)" ∷ codes "= yes" ∷ []) ≡ wrong_at 2
unfolding opened
multiplier_zero = refl

zero_first : finding (codes "> 1 empty box 0 0 0 0 10 10" ∷ codes "  out 01*(1 0 0 0) 1*(-1 0 0 0)" ∷ codes "= yes" ∷ []) ≡ wrong_at 2
unfolding opened
zero_first = refl

exchanged : finding (codes "> 1 empty box 0 0 0 0 10 10" ∷ codes "  out 1*(-1 0 0 0) 1*(1 0 0 0)" ∷ codes "= yes" ∷ []) ≡ all_accepted
unfolding opened
exchanged = refl

three : finding (codes "> 1 empty box 0 0 0 0 10 10" ∷ codes "  out 1*(1 0 0 0) 1*(1 0 0 0) 2*(-1 0 0 0)" ∷ codes "= yes" ∷ []) ≡ all_accepted
unfolding opened
three = refl

five : finding (codes "> 1 empty box 0 0 0 0 10 10" ∷ codes "  out 1*(1 0 0 0) 1*(1 0 0 0) 1*(1 0 0 0) 1*(1 0 0 0) 4*(-1 0 0 0)" ∷ codes "= yes" ∷ []) ≡ wrong_at 2
unfolding opened
five = refl

not_lowest : finding (codes "> 1 empty box 0 0 0 0 10 10" ∷ codes "  out 1*(2 0 0 0) 2*(-1 0 0 0)" ∷ codes "= yes" ∷ []) ≡ wrong_at 2
unfolding opened
not_lowest = refl

not_listed : finding (codes "> 1 empty box 0 0 0 0 10 10" ∷ codes "  out 1*(0 0 0 -1)" ∷ codes "= yes" ∷ []) ≡ wrong_at 2
unfolding opened
not_listed = refl

large_point : finding (codes "> 1 empty box 0 0 0 0 10 10" ∷ codes "  in (2535301200456458802993406410751 0 0 1)" ∷ codes "= yes" ∷ []) ≡ wrong_at 2
unfolding opened
large_point = refl

too_large_point : finding (codes "> 1 empty box 0 0 0 0 10 10" ∷ codes "  in (2535301200456458802993406410752 0 0 1)" ∷ codes "= yes" ∷ []) ≡ wrong_at 2
unfolding opened
too_large_point = refl

seven : finding (codes "> 7 empty box 0 0 0 0 10 10" ∷ codes "  out 1*(1 0 0 0) 1*(-1 0 0 0)" ∷ codes "= yes" ∷ []) ≡ all_accepted
unfolding opened
seven = refl

zero : finding (codes "> 0 empty box 0 0 0 0 10 10" ∷ codes "  out 1*(1 0 0 0) 1*(-1 0 0 0)" ∷ codes "= yes" ∷ []) ≡ wrong_at 1
unfolding opened
zero = refl

one_zero : finding (codes "> 01 empty box 0 0 0 0 10 10" ∷ codes "  out 1*(1 0 0 0) 1*(-1 0 0 0)" ∷ codes "= yes" ∷ []) ≡ wrong_at 1
unfolding opened
one_zero = refl

note : finding (codes "> 1 # note" ∷ codes "  out 1*(1 0 0 0) 1*(-1 0 0 0)" ∷ codes "= yes" ∷ []) ≡ wrong_at 1
unfolding opened
note = refl

bare : finding (codes "> 1" ∷ codes "  out 1*(1 0 0 0) 1*(-1 0 0 0)" ∷ codes "= yes" ∷ []) ≡ wrong_at 2
unfolding opened
bare = refl

lines_exchanged : finding (codes "> 1 empty box 0 0 0 0 10 10" ∷ codes "= yes" ∷ codes "  out 1*(1 0 0 0) 1*(-1 0 0 0)" ∷ []) ≡ wrong_at 2
unfolding opened
lines_exchanged = refl

twice : finding (codes "> 1 empty box 0 0 0 0 10 10" ∷ codes "  out 1*(1 0 0 0) 1*(-1 0 0 0)" ∷ codes "= yes" ∷ codes "> 1 empty box 0 0 0 0 10 10" ∷ codes "  out 1*(1 0 0 0) 1*(-1 0 0 0)" ∷ codes "= yes" ∷ []) ≡ wrong_at 4
unfolding opened
twice = refl

difference : finding (codes "> 1 show minus box 0 0 0 10 10 10 box 0 0 0 4 10 10" ∷ codes "  in (0 0 0 1) (0 0 10 1) (0 10 0 1) (10 0 0 1)" ∷ codes "  box 0 0 0 10 10 10" ∷ codes "  in (0 0 0 1) (0 0 10 1) (0 10 0 1) (4 0 0 1)" ∷ codes "  box 0 0 0 4 10 10" ∷ codes "  in (0 0 0 1) (0 0 10 1) (0 10 0 1) (4 0 0 1)" ∷ codes "  out 1*(1 0 0 0) 1*(-1 0 0 0)" ∷ codes "  in (10 0 0 1) (10 0 10 1) (10 10 0 1) (4 0 0 1)" ∷ codes "  drop (1 0 0 0) 1*(1 0 0 0) 1*(-1 0 0 0)" ∷ codes "  drop (1 0 0 0) 1*(1 0 0 -4) 1*(-1 0 0 0)" ∷ codes "  box 4 0 0 10 10 10" ∷ codes "  out 1*(0 1 0 0) 1*(0 -1 0 0)" ∷ codes "  out 1*(0 -1 0 10) 1*(0 1 0 -10)" ∷ codes "  out 1*(0 0 1 0) 1*(0 0 -1 0)" ∷ codes "  out 1*(0 0 -1 10) 1*(0 0 1 -10)" ∷ codes "= parts 1" ∷ codes "= part (-1 0 0 10) (0 1 0 0) (0 -1 0 10) (0 0 1 0) (0 0 -1 10) (1 0 0 -4)" ∷ []) ≡ all_accepted
unfolding opened
difference = refl

carriage_return : finding (codes "> 1 empty box 0 0 0 0 10 10" ∷ codes "  out 1*(1 0 0 0) 1*(-1 0 0 0)" ∷ (codes "= yes" ++ 13 ∷ []) ∷ []) ≡ wrong_at 3
unfolding opened
carriage_return = refl

made : made_script 1 0 ≡ (codes "register s0 box 0 0 0 60000 40000 3000" ∷ codes "cut s0 half 1 6 0 -150000 s0a s0b" ∷ codes "neighbours s0a" ∷ codes "audit" ∷ codes "list" ∷ [])
unfolding opened
made = refl

script : spelled_script (text_of_lines (codes "member half 2 0 0 -4 2 4 6 2" ∷ codes "# note" ∷ codes "walk" ∷ [])) ≡ (codes "member half 1 0 0 -2 1 2 3 1" ∷ [])
unfolding opened
script = refl

trial : trial_lines 1 0 ≡ (codes "lines 5" ∷ codes "refused 0" ∷ codes "live 2" ∷ codes "proofs 16" ∷ [])
unfolding opened
trial = refl
