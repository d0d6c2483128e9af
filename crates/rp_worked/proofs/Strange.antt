-- What the check finds of strange reports, by computation.
use Rattle.std.specs.Prelude.{◌≡◌, [], ◌∷◌, codes, refl}
use Rattle.rp_worked.proofs.Opened.{opened}
use Rattle.rp_reports.specs.Check.{finding, all_accepted, wrong_at}

all_of_nonempty_box : finding (codes "> 1 empty box 0 0 0 10 10 10" ∷ codes "  in (0 0 0 1) (0 0 10 1) (0 10 0 1) (10 0 0 1)" ∷ codes "  box 0 0 0 10 10 10" ∷ codes "  in (0 0 0 1) (0 0 10 1) (0 10 0 1) (10 0 0 1)" ∷ codes "= no" ∷ []) ≡ all_accepted
unfolding opened
all_of_nonempty_box = refl

greater_box : finding (codes "> 1 empty box 0 0 0 10 10 10" ∷ codes "  in (0 0 0 1) (0 0 10 1) (0 10 0 1) (10 0 0 1)" ∷ codes "  box -1 0 0 10 10 10" ∷ codes "  out 1*(1 0 0 0) 1*(-1 0 0 -1)" ∷ codes "  in (0 0 0 1) (0 0 10 1) (0 10 0 1) (10 0 0 1)" ∷ codes "= no" ∷ []) ≡ all_accepted
unfolding opened
greater_box = refl

small_box : finding (codes "> 1 empty box 0 0 0 10 10 10" ∷ codes "  in (0 0 0 1) (0 0 10 1) (0 10 0 1) (10 0 0 1)" ∷ codes "  box 1 0 0 10 10 10" ∷ codes "  in (0 0 0 1) (0 0 10 1) (0 10 0 1) (10 0 0 1)" ∷ codes "= no" ∷ []) ≡ wrong_at 4
unfolding opened
small_box = refl

small_box_limit : finding (codes "> 1 empty box 0 0 0 10 10 10" ∷ codes "  in (0 0 0 1) (0 0 10 1) (0 10 0 1) (10 0 0 1)" ∷ codes "  box 1 0 0 10 10 10" ∷ codes "= refused limit" ∷ []) ≡ all_accepted
unfolding opened
small_box_limit = refl

flat_box : finding (codes "> 1 empty box 0 0 0 10 10 10" ∷ codes "  in (0 0 0 1) (0 0 10 1) (0 10 0 1) (10 0 0 1)" ∷ codes "  box 0 0 0 0 10 10" ∷ codes "  in (0 0 0 1) (0 0 10 1) (0 10 0 1) (10 0 0 1)" ∷ codes "= no" ∷ []) ≡ wrong_at 3
unfolding opened
flat_box = refl

limit_first : finding (codes "> 1 empty box 0 0 0 10 10 10" ∷ codes "= refused limit" ∷ []) ≡ all_accepted
unfolding opened
limit_first = refl

limit_inside : finding (codes "> 1 empty box 0 0 0 10 10 10" ∷ codes "  in (0 0 0 1) (0 0 10 1) (0 10 0 1) (10 0 0 1)" ∷ codes "= refused limit" ∷ []) ≡ all_accepted
unfolding opened
limit_inside = refl

limit_then_verdict : finding (codes "> 1 empty box 0 0 0 10 10 10" ∷ codes "= refused limit" ∷ codes "= no" ∷ []) ≡ wrong_at 3
unfolding opened
limit_then_verdict = refl

no_second_in : finding (codes "> 1 empty box 0 0 0 10 10 10" ∷ codes "  in (0 0 0 1) (0 0 10 1) (0 10 0 1) (10 0 0 1)" ∷ codes "  box 0 0 0 10 10 10" ∷ codes "= no" ∷ []) ≡ wrong_at 4
unfolding opened
no_second_in = refl

other_points : finding (codes "> 1 empty box 0 0 0 10 10 10" ∷ codes "  in (5 5 5 1)" ∷ codes "  box 0 0 0 10 10 10" ∷ codes "  in (1 1 1 1)" ∷ codes "= no" ∷ []) ≡ all_accepted
unfolding opened
other_points = refl

not_inside : finding (codes "> 1 empty box 0 0 0 10 10 10" ∷ codes "  in (0 0 0 1)" ∷ []) ≡ wrong_at 2
unfolding opened
not_inside = refl

unknown_label : finding (codes "> 1 empty name b" ∷ codes "= refused unknown b" ∷ []) ≡ all_accepted
unfolding opened
unknown_label = refl

unknown_limit : finding (codes "> 1 empty name b" ∷ codes "= refused limit" ∷ []) ≡ wrong_at 2
unfolding opened
unknown_limit = refl

few_limit : finding (codes "> 1 consolidate q 1 a" ∷ codes "= refused limit" ∷ []) ≡ all_accepted
unfolding opened
few_limit = refl

few : finding (codes "> 1 consolidate q 1 a" ∷ codes "= refused few" ∷ []) ≡ all_accepted
unfolding opened
few = refl

retire_limit : finding (codes "> 1 retire a" ∷ codes "= refused limit" ∷ []) ≡ wrong_at 2
unfolding opened
retire_limit = refl

retire_unknown : finding (codes "> 1 retire a" ∷ codes "= refused unknown a" ∷ []) ≡ all_accepted
unfolding opened
retire_unknown = refl

list_empty : finding (codes "> 1 list" ∷ codes "= parcels 0" ∷ []) ≡ all_accepted
unfolding opened
list_empty = refl

long : finding (codes "> 1" ∷ codes "= refused long" ∷ []) ≡ all_accepted
unfolding opened
long = refl

empty_text : finding (codes "> 1 " ∷ codes "= refused syntax" ∷ []) ≡ wrong_at 1
unfolding opened
empty_text = refl

blank_text : finding (codes "> 1 # x" ∷ codes "= refused syntax" ∷ []) ≡ wrong_at 1
unfolding opened
blank_text = refl

bad_text : finding (codes "> 1 walk" ∷ codes "= refused syntax" ∷ []) ≡ all_accepted
unfolding opened
bad_text = refl

bad_word : finding (codes "> 1 walk" ∷ codes "= refused range" ∷ []) ≡ wrong_at 2
unfolding opened
bad_word = refl

number_bound : finding (codes "> 16777216 walk" ∷ codes "= refused syntax" ∷ []) ≡ all_accepted
unfolding opened
number_bound = refl

number_above : finding (codes "> 16777217 walk" ∷ codes "= refused syntax" ∷ []) ≡ wrong_at 1
unfolding opened
number_above = refl

numbers_fall : finding (codes "> 2 walk" ∷ codes "= refused syntax" ∷ codes "> 1 walk" ∷ codes "= refused syntax" ∷ []) ≡ wrong_at 3
unfolding opened
numbers_fall = refl

audit_none : finding (codes "> 1 audit" ∷ codes "= clear 0" ∷ []) ≡ all_accepted
unfolding opened
audit_none = refl

show_all : finding (codes "> 1 show all" ∷ codes "= parts 1" ∷ codes "= part" ∷ []) ≡ all_accepted
unfolding opened
show_all = refl

show_none : finding (codes "> 1 show none" ∷ codes "= parts 0" ∷ []) ≡ all_accepted
unfolding opened
show_none = refl

show_cut : finding (codes "> 1 show all" ∷ codes "= parts 1" ∷ []) ≡ wrong_at 3
unfolding opened
show_cut = refl

pieces_all : finding (codes "> 1 pieces all" ∷ codes "= pieces 1" ∷ codes "= piece 1" ∷ []) ≡ all_accepted
unfolding opened
pieces_all = refl

pieces_none : finding (codes "> 1 pieces none" ∷ codes "= pieces 0" ∷ []) ≡ all_accepted
unfolding opened
pieces_none = refl

at_nobody : finding (codes "> 1 at 0 0 0 1" ∷ codes "= nobody" ∷ []) ≡ all_accepted
unfolding opened
at_nobody = refl

drop_not_kept : finding (codes "> 1 empty half 0 0 0 1" ∷ codes "  in (0 0 0 1)" ∷ codes "  drop (1 0 0 0) 1*(0 0 0 -1)" ∷ []) ≡ wrong_at 3
unfolding opened
drop_not_kept = refl

drop_once : finding (codes "> 1 empty half 0 0 0 1" ∷ codes "  in (0 0 0 1)" ∷ codes "  drop (0 0 0 1) 1*(0 0 0 -1)" ∷ codes "  box -16777216 -16777216 -16777216 16777216 16777216 16777216" ∷ codes "  in (0 0 0 1)" ∷ codes "= no" ∷ []) ≡ all_accepted
unfolding opened
drop_once = refl

no_drop : finding (codes "> 1 empty half 0 0 0 1" ∷ codes "  in (0 0 0 1)" ∷ codes "  box -16777216 -16777216 -16777216 16777216 16777216 16777216" ∷ codes "  in (0 0 0 1)" ∷ codes "= no" ∷ []) ≡ all_accepted
unfolding opened
no_drop = refl

box_past_cube : finding (codes "> 1 empty half 0 0 0 1" ∷ codes "  in (0 0 0 1)" ∷ codes "  box -16777217 -16777216 -16777216 16777216 16777216 16777216" ∷ []) ≡ wrong_at 3
unfolding opened
box_past_cube = refl

weight_zero : finding (codes "> 1 empty half 0 0 0 1" ∷ codes "  in (0 0 0 0)" ∷ []) ≡ wrong_at 2
unfolding opened
weight_zero = refl

spaces : finding (codes "> 1 empty half 0 0 0 1" ∷ codes "  in  (0 0 0 1)" ∷ []) ≡ wrong_at 2
unfolding opened
spaces = refl
