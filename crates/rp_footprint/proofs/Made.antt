-- The half-space below a line is made of its four numbers.
use Rattle.std.proofs.Common.{◌≡◌, ◌≤◌, Bool, true, false, ◌&&◌, ℤ, pos, neg_ℤ, ◌-ℤ◌, ◌*ℤ◌, nat_abs, List, [], ◌∷◌, ap, ◌∙◌, arith}
use Rattle.std.specs.Prelude.{Result, Ok, Err, Option, Some, slice_index_or}
use Rattle.std.proofs.lemmas.Int.{ints}
use Rattle.rp_geometry.specs.Geometry.{HalfSpace, IntegerBox, half_space_of, is_half_space_in_bounds, is_zero_half_space, reduced_half_space, is_within_bound, cube_bound, offset_bound, is_box_in_bounds, box_half_spaces}
use Rattle.rp_geometry.specs.sets.Prism.{Corner, below_line}
use Rattle.rp_space.specs.MadeHalfSpace.{made_half_space}
use Rattle.rp_space.specs.declared.half.HalfFault.{HalfFault}
use Rattle.rp_space.specs.declared.half.HalfFault.TheVariants.{Range, Zero}
use Rattle.rp_footprint.specs.Cells.{AreInOrder, AreHeights, box_under, cell_under}
use Rattle.rp_parts.proofs.Ends.{IsNearby, nearby, AreEnds, IsSmallLine, line_is_small, line_not_zero}

-- a left and a right corner within their bounds are ends
pub ends_in_order : (l r : Corner) → AreInOrder l r → AreEnds IsNearby l r
ends_in_order l r o = record { left = nearby l o.near.first; right = nearby r o.near.second; order = o.order }

-- the sizes of the coordinates of two corners
pub record AreSmall (l r : Corner) : Type 0 where
  pub lx : nat_abs l.x ≤ 8388608
  pub ly : nat_abs l.y ≤ 8388608
  pub rx : nat_abs r.x ≤ 8388608
  pub ry : nat_abs r.y ≤ 8388608

-- corners within their bounds are small
pub small_corners : (l r : Corner) → AreInOrder l r → AreSmall l r
small_corners l r o = let n = ends_in_order l r o in record { lx = n.left.x; ly = n.left.y; rx = n.right.x; ry = n.right.y }

-- what is made of a half-space, by the tests of its bounds and of zeros
abbrev made_by : HalfSpace → Bool → Bool → Result HalfSpace HalfFault
made_by h b z = elim b [ false ↦ Err Range | true ↦ elim z [ true ↦ Err Zero | false ↦ Ok (reduced_half_space h) ] ]

-- a half-space within its bounds is made
made_in_bounds : (h : HalfSpace) → is_half_space_in_bounds h ≡ true → is_zero_half_space h ≡ false → made_half_space h ≡ Ok (reduced_half_space h)
made_in_bounds h b z = λ i. made_by h (b i) (z i)

-- sizes within the bounds
in_bounds : (a b d : ℤ) → nat_abs a ≤ 16777216 → nat_abs b ≤ 16777216 → nat_abs d ≤ 844424930131968 → is_half_space_in_bounds (half_space_of a b (pos 0) d) ≡ true
in_bounds a b d ha hb hd = λ i. ((within_cube a ha i && within_cube b hb i) && true) && within_offset d hd i
  where
    within_cube : (v : ℤ) → nat_abs v ≤ 16777216 → is_within_bound cube_bound v ≡ true
    within_cube v h = grind (arith, ints)

    within_offset : (v : ℤ) → nat_abs v ≤ 844424930131968 → is_within_bound offset_bound v ≡ true
    within_offset v h = grind (arith, ints)

-- its numbers are small
small : (l r : Corner) → AreInOrder l r → IsSmallLine l r
small l r k = line_is_small l r (ends_in_order l r k)

-- the half-space of a line is made
pub line_made : (l r : Corner) → AreInOrder l r → (dx dy p q m o : ℤ) → dx ≡ r.x -ℤ l.x → dy ≡ r.y -ℤ l.y → p ≡ dx *ℤ l.y → q ≡ dy *ℤ l.x → m ≡ neg_ℤ dx → o ≡ p -ℤ q
    → made_half_space (half_space_of dy m (pos 0) o) ≡ Ok (reduced_half_space (below_line l r))
line_made l r k dx dy p q m o dx_is dy_is p_is q_is m_is o_is =
    ap made_half_space (λ i. half_space_of (dy_is i) (opposite i) (pos 0) (offset i))
    ∙ made_in_bounds (below_line l r) (in_bounds (r.y -ℤ l.y) (neg_ℤ (r.x -ℤ l.x)) ((r.x -ℤ l.x) *ℤ l.y -ℤ (r.y -ℤ l.y) *ℤ l.x) (small l r k).a (small l r k).b (small l r k).d) (line_not_zero l r k.order)
  where
    opposite : m ≡ neg_ℤ (r.x -ℤ l.x)
    opposite = m_is ∙ ap neg_ℤ dx_is

    offset : o ≡ (r.x -ℤ l.x) *ℤ l.y -ℤ (r.y -ℤ l.y) *ℤ l.x
    offset = o_is ∙ (λ i. p_is i -ℤ q_is i) ∙ (λ i. dx_is i *ℤ l.y -ℤ dy_is i *ℤ l.x)

-- the sides of the cell are within their bounds
pub box_is_near : (low high least : ℤ) (l r : Corner) → AreHeights low high least → AreInOrder l r → is_box_in_bounds (box_under low high least l r) ≡ true
box_is_near low high least l r h k =
    let m = small_corners l r k in
    λ i. ((((within l.x m.lx i && h.least i) && h.low i) && within r.x m.rx i) && true) && h.high i
  where
    within : (v : ℤ) → nat_abs v ≤ 8388608 → is_within_bound cube_bound v ≡ true
    within v b = grind (arith, ints)

-- the six half-spaces of a cell, read one by one, with another one in the fourth place
pub read_cell : (low high least : ℤ) (l r : Corner) (hs : List HalfSpace) (d0 d1 d2 d4 d5 half : HalfSpace) → hs ≡ box_half_spaces (box_under low high least l r) → half ≡ reduced_half_space (below_line l r)
    → slice_index_or hs 0 d0 ∷ slice_index_or hs 1 d1 ∷ slice_index_or hs 2 d2 ∷ half ∷ slice_index_or hs 4 d4 ∷ slice_index_or hs 5 d5 ∷ [] ≡ cell_under low high least l r
read_cell low high least l r hs d0 d1 d2 d4 d5 half e f =
    λ i. slice_index_or (e i) 0 d0 ∷ slice_index_or (e i) 1 d1 ∷ slice_index_or (e i) 2 d2 ∷ f i ∷ slice_index_or (e i) 4 d4 ∷ slice_index_or (e i) 5 d5 ∷ []

-- the box of five numbers, each of which is another
pub same_box : {a b y l r z1 z2 least lx rx : ℤ} → a ≡ z1 → b ≡ z2 → y ≡ least → l ≡ lx → r ≡ rx
    → ◌≡◌ {A = IntegerBox} (record { x1 = l; y1 = y; z1 = a; x2 = r; y2 = pos 0; z2 = b }) (record { x1 = lx; y1 = least; z1 = z1; x2 = rx; y2 = pos 0; z2 = z2 })
same_box ea eb ey el er = λ i. record { x1 = el i; y1 = ey i; z1 = ea i; x2 = er i; y2 = pos 0; z2 = eb i }

-- what is there is one
pub some_inside : (h k : HalfSpace) → ◌≡◌ {A = Option HalfSpace} (Some h) (Some k) → h ≡ k
some_inside h k e = cc
