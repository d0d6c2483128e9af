use Rattle.std.proofs.Common.{◌^◌, ◌∙◌, to_z, of_z}
use mir.Syntax.{w64}
use Rattle.rp_algebra.specs.Within.{IsWithin}
use Rattle.rp_algebra.proofs.Machine.{code, written, at_most, is_by, within_by}
use Rattle.rp_geometry.specs.Geometry.{HalfSpace, IsHalfSpace}
use Rattle.rp_geometry.specs.searches.Vertex.{det2}
use Rattle.rp_space.proofs.meeting.Pair.new.Goals as goal

-- the four numbers of a half-space are short
a_short : {h : HalfSpace} → IsHalfSpace h → IsWithin (2 ^ 50) (to_z w64 (of_z w64 h.a))
a_short {h = h} k = within_by (written w64 h.a (at_most {x = h.a} k.a)) tt

b_short : {h : HalfSpace} → IsHalfSpace h → IsWithin (2 ^ 50) (to_z w64 (of_z w64 h.b))
b_short {h = h} k = within_by (written w64 h.b (at_most {x = h.b} k.b)) tt

c_short : {h : HalfSpace} → IsHalfSpace h → IsWithin (2 ^ 50) (to_z w64 (of_z w64 h.c))
c_short {h = h} k = within_by (written w64 h.c (at_most {x = h.c} k.c)) tt

d_short : {h : HalfSpace} → IsHalfSpace h → IsWithin (2 ^ 50) (to_z w64 (of_z w64 h.d))
d_short {h = h} k = within_by (written w64 h.d (at_most {x = h.d} k.d)) tt

pub minor-requires : goal.minor-requires
minor-requires c = let f = c.numbers-fa.ensures.small in let g = c.numbers-ga.ensures.small in record { a = a_short f; b = b_short f; c = a_short g; d = b_short g }

pub minor-requires-2 : goal.minor-requires-2
minor-requires-2 c = let f = c.numbers-fa.ensures.small in let g = c.numbers-ga.ensures.small in record { a = a_short f; b = c_short f; c = a_short g; d = c_short g }

pub minor-requires-3 : goal.minor-requires-3
minor-requires-3 c = let f = c.numbers-fa.ensures.small in let g = c.numbers-ga.ensures.small in record { a = b_short f; b = c_short f; c = b_short g; d = c_short g }

pub minor-requires-4 : goal.minor-requires-4
minor-requires-4 c = let f = c.numbers-fa.ensures.small in let g = c.numbers-ga.ensures.small in record { a = a_short f; b = d_short f; c = a_short g; d = d_short g }

pub minor-requires-5 : goal.minor-requires-5
minor-requires-5 c = let f = c.numbers-fa.ensures.small in let g = c.numbers-ga.ensures.small in record { a = b_short f; b = d_short f; c = b_short g; d = d_short g }

pub minor-requires-6 : goal.minor-requires-6
minor-requires-6 c = let f = c.numbers-fa.ensures.small in let g = c.numbers-ga.ensures.small in record { a = c_short f; b = d_short f; c = c_short g; d = d_short g }

pub invariant_of-result : goal.invariant_of-result
invariant_of-result c =
    let f = c.numbers-fa.ensures.numbers in
    let g = c.numbers-ga.ensures.numbers in
    record {
      ab = is_by (search code depth 30 fits 100000) tt ∙ (λ i. det2 (f i).a (f i).b (g i).a (g i).b);
      ac = is_by (search code depth 30 fits 100000) tt ∙ (λ i. det2 (f i).a (f i).c (g i).a (g i).c);
      bc = is_by (search code depth 30 fits 100000) tt ∙ (λ i. det2 (f i).b (f i).c (g i).b (g i).c);
      ad = is_by (search code depth 30 fits 100000) tt ∙ (λ i. det2 (f i).a (f i).d (g i).a (g i).d);
      bd = is_by (search code depth 30 fits 100000) tt ∙ (λ i. det2 (f i).b (f i).d (g i).b (g i).d);
      cd = is_by (search code depth 30 fits 100000) tt ∙ (λ i. det2 (f i).c (f i).d (g i).c (g i).d);
      small_ab = within_by (search code depth 30 fits 100000) tt;
      small_ac = within_by (search code depth 30 fits 100000) tt;
      small_bc = within_by (search code depth 30 fits 100000) tt;
      small_ad = within_by (search code depth 30 fits 100000) tt;
      small_bd = within_by (search code depth 30 fits 100000) tt;
      small_cd = within_by (search code depth 30 fits 100000) tt;
    }
