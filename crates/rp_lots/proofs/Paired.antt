-- Pairs of parts of two lists, block by block, and those that the box around a block rules out.
use Rattle.std.proofs.Common.{◌≡◌, ℕ, ◌+◌, ◌*◌, ◌≤◌, Bool, true, false, cond, List, [], ◌∷◌, ◌++◌, map, take, drop, length, refl, sym, ap, ◌∙◌, subst, arith}
use Rattle.std.specs.Prelude.{sum_by, count_by}
use Rattle.std.proofs.lemmas.List.{length-map, map-append, take-append-drop}
use Rattle.std.proofs.lemmas.List.Sums.{sum_by-cons, sum_by-append, count_by-le-length}
use Rattle.rp_geometry.specs.Geometry.{IntegerBox}
use Rattle.rp_geometry.specs.sets.Shape.{Part}
use Rattle.rp_geometry.specs.parts.Parts.{most_parts}
use Rattle.rp_geometry.specs.parts.LeastBox.{IsBoxWithin, box_union}
use Rattle.rp_geometry.proofs.LeastBoxes.{box_itself, union_left, union_right, box_further}
use Rattle.rp_model.specs.commands.Parts.{count_pairs}
use Rattle.rp_proximity.specs.declared.reach.Reach.{Reach}
use Rattle.rp_proximity.specs.declared.reach.Reach.TheVariants.{Overlap, Touch}
use Rattle.rp_proximity.specs.Hulls.{bounds_of, joined}
use Rattle.rp_proximity.specs.Near.{may_meet}
use Rattle.rp_boxindex.proofs.Wider.{wider_meet}
use Rattle.rp_lots.specs.Boxes.{boxes_let, IsAround}

-- ---- counts

module _ (chosen : Part → Part → Bool) where
  -- the pairs with no part
  none_right : (ps : List Part) → count_pairs chosen ps [] ≡ 0
  none_right [] = refl
  none_right (p ∷ ps) = let all = sum_by-cons (λ (a : Part). count_by (λ (c : Part). chosen a c) []) p ps in let rest = none_right ps in omega (arith, all, rest)

  -- the pairs with one part more
  one_right : (ps : List Part) (q : Part) (qs : List Part) → count_pairs chosen ps (q ∷ qs) ≡ count_by (λ p. chosen p q) ps + count_pairs chosen ps qs
  one_right [] q qs = refl
  one_right (p ∷ ps) q qs =
      let all = sum_by-cons (λ (a : Part). count_by (λ (c : Part). chosen a c) (q ∷ qs)) p ps in
      let first = sum_by-cons (λ (c : Part). cond (chosen p c) 1 0) q qs in
      let column = sum_by-cons (λ (a : Part). cond (chosen a q) 1 0) p ps in
      let rest = sum_by-cons (λ (a : Part). count_by (λ (c : Part). chosen a c) qs) p ps in
      let by = one_right ps q qs in
      omega (arith, all, first, column, rest, by)

  -- pairs are as many where the lists change places
  pub pairs_turned : (ps qs : List Part) → count_pairs (λ q p. chosen p q) qs ps ≡ count_pairs chosen ps qs
  pairs_turned ps [] = sym (none_right ps)
  pairs_turned ps (q ∷ qs) =
      let all = sum_by-cons (λ (c : Part). count_by (λ (a : Part). chosen a c) ps) q qs in
      let more = one_right ps q qs in
      let by = pairs_turned ps qs in
      omega (arith, all, more, by)

  -- there are no more than the product
  pub pairs_few : (ps qs : List Part) → count_pairs chosen ps qs ≤ length ps * length qs
  pairs_few [] qs = omega arith
  pairs_few (p ∷ ps) qs =
      let all = sum_by-cons (λ (a : Part). count_by (λ (c : Part). chosen a c) qs) p ps in
      let first = count_by-le-length (λ (c : Part). chosen p c) qs in
      let by = pairs_few ps qs in
      omega (arith, all, first, by)

  -- the pairs of a block and of what is behind it
  pub pairs_split : {F : Type 0} (seen : F → Part) (n : ℕ) (fs : List F) (qs : List Part) → count_pairs chosen (map seen (take n fs)) qs + count_pairs chosen (map seen (drop n fs)) qs ≡ count_pairs chosen (map seen fs) qs
  pairs_split seen n fs qs =
      sym (sum_by-append (λ (a : Part). count_by (λ (c : Part). chosen a c) qs) (map seen (take n fs)) (map seen (drop n fs)))
      ∙ ap (λ (ps : List Part). count_pairs chosen ps qs) (sym (map-append seen (take n fs) (drop n fs)) ∙ ap (map seen) (take-append-drop n fs))

  -- a block more is counted
  pub block_counted : {F : Type 0} (seen : F → Part) (n : ℕ) (fs block behind : List F) (qs : List Part) (count own all : ℕ) → block ≡ take n fs → behind ≡ drop n fs → own ≡ count_pairs chosen (map seen block) qs → count + count_pairs chosen (map seen fs) qs ≡ all
      → (count + own) + count_pairs chosen (map seen behind) qs ≡ all
  block_counted {F = F} seen n fs block behind qs count own all first next is h =
      let pairs = λ (gs : List F). count_pairs chosen (map seen gs) qs in
      more count own all (pairs block) (pairs behind) (pairs (take n fs)) (pairs (drop n fs)) (pairs fs) is (ap pairs first) (ap pairs next) (pairs_split seen n fs qs) h
    where
      more : (count own all block behind front back whole : ℕ) → own ≡ block → block ≡ front → behind ≡ back → front + back ≡ whole → count + whole ≡ all → (count + own) + behind ≡ all
      more count own all block behind front back whole e f g k h = omega arith

-- a part of the pairs of two short lists
pub few_counted : (count left all m n : ℕ) → count + left ≡ all → all ≤ m * n → m ≤ most_parts → n ≤ most_parts → count ≤ most_parts * most_parts
few_counted count left all m n h few first second = grind arith

-- so is one of the pairs of two lists that are not long
pub few_so_far : {F : Type 0} (chosen : Part → Part → Bool) (seen : F → Part) (fs gs : List F) (count left : ℕ) → length fs ≤ most_parts → length gs ≤ most_parts → count + left ≡ count_pairs chosen (map seen fs) (map seen gs) → count ≤ most_parts * most_parts
few_so_far chosen seen fs gs count left first second h =
    let few : count_pairs chosen (map seen fs) (map seen gs) ≤ length fs * length gs = subst (λ (m : ℕ). count_pairs chosen (map seen fs) (map seen gs) ≤ m) (λ i. length-map fs seen i * length-map gs seen i) (pairs_few chosen (map seen fs) (map seen gs)) in
    few_counted count left (count_pairs chosen (map seen fs) (map seen gs)) (length fs) (length gs) h few first second

-- with the last block nothing is left
pub none_more : (count own left all : ℕ) → own ≡ left → count + left ≡ all → (count + own) + 0 ≡ all
none_more count own left all e h = omega (arith, e, h)

-- ---- boxes

-- a box lies in the least one around it and further ones
start_within : (b c : IntegerBox) (cs : List IntegerBox) → IsBoxWithin b c → IsBoxWithin b (joined c cs)
start_within b c [] h = h
start_within b c (d ∷ cs) h = start_within b (box_union c d) cs (box_further b c (box_union c d) h (union_left c d))

-- the boxes of parts lie in the least one around them and a further one
pub all_within : (b : IntegerBox) (ps : List Part) → IsAround (joined b (bounds_of ps)) ps
all_within b [] = tt
all_within b (p ∷ ps) = (start_within p.bounds (box_union b p.bounds) (bounds_of ps) (union_right b p.bounds), all_within (box_union b p.bounds) ps)

-- what may meet a part in a box lets the box meet too
wide : (r : Reach) (b : IntegerBox) (p q : Part) → IsBoxWithin p.bounds b → may_meet r p q ≡ true → boxes_let r b q.bounds ≡ true
wide Overlap b p q h f = wider_meet false p.bounds q.bounds b q.bounds h (box_itself q.bounds) f
wide Touch b p q h f = wider_meet true p.bounds q.bounds b q.bounds h (box_itself q.bounds) f

-- a part whose box does not meet a box meets no part with a box in it
apart : (r : Reach) (b : IntegerBox) (p q : Part) → IsBoxWithin p.bounds b → boxes_let r b q.bounds ≡ false → may_meet r p q ≡ false
apart r b p q h e = by (may_meet r p q) refl
  where
    by : (meets : Bool) → may_meet r p q ≡ meets → meets ≡ false
    by false f = refl
    by true f = let met = wide r b p q h f in absurd (cc)

-- so it may meet none of a block
pub none_apart : (r : Reach) (b : IntegerBox) (ps : List Part) (q : Part) → IsAround b ps → boxes_let r b q.bounds ≡ false → count_by (λ p. may_meet r p q) ps ≡ 0
none_apart r b [] q h e = refl
none_apart r b (p ∷ ps) q h e =
    let all = sum_by-cons (λ (a : Part). cond (may_meet r a q) 1 0) p ps in
    let first : cond (may_meet r p q) 1 0 ≡ 0 = ap {B = ℕ} (λ (m : Bool). cond m 1 0) (apart r b p q h.0 e) in
    let rest = none_apart r b ps q h.1 e in
    omega (arith, all, first, rest)
