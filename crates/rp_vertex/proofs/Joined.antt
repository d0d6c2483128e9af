-- The least box of a list of vertices, joined one after the other.
use Rattle.std.proofs.Common.{◌≡◌, ℕ, ◌+◌, ◌-◌, ◌<◌, ℤ, List, [], ◌∷◌, ◌++◌, ◌≤◌, length, map, get_or, take, drop, refl, sym, ap, ◌∙◌, subst, arith, Contains}
use Rattle.std.specs.Prelude.{Option, Some, None, filter_map, option_map, unwrap_or}
use Rattle.std.specs.Int.{int_min, int_max}
use Rattle.std.specs.List.{cons_option}
use Rattle.std.specs.Option.{option_to_list}
use Rattle.std.proofs.lemmas.List.{drop_all, get_or-map, length-map}
use Rattle.std.proofs.lemmas.List.Elements.{Contains-get_or}
use Rattle.std.proofs.lemmas.Grind.{common_steps}
use Rattle.std.proofs.lemmas.Int.{ints, clamps}
use Rattle.rp_algebra.proofs.Lists.{drop_item}
use Rattle.rp_geometry.specs.Geometry.{RationalPoint, HalfSpace, IntegerBox, cube_box, reduced_point, with_cube}
use Rattle.rp_geometry.specs.parts.LeastBox.{box_of_vertex, box_of_vertices, box_union}
use Rattle.rp_geometry.specs.searches.Search.{all_of_pairs, all_of_triples}
use Rattle.rp_geometry.specs.searches.Vertex.{any_point, vertex_at, vertices}
use Rattle.rp_space.specs.Boxes.{integer_box}
use Rattle.rp_space.specs.declared.bounds.IntBox.{IntBox}
use Rattle.rp_vertex.specs.Joined.{join_vertex, joined}

-- ---- what is joined

-- the lesser of three numbers
min_assoc : (a b c : ℤ) → int_min (int_min a b) c ≡ int_min a (int_min b c)
min_assoc a b c = omega (arith, ints, clamps)

-- the greater of three numbers
max_assoc : (a b c : ℤ) → int_max (int_max a b) c ≡ int_max a (int_max b c)
max_assoc a b c = omega (arith, ints, clamps)

-- the least box that holds three boxes
union_assoc : (b e c : IntegerBox) → box_union (box_union b e) c ≡ box_union b (box_union e c)
union_assoc b e c = λ i. record {
  x1 = min_assoc b.x1 e.x1 c.x1 i;
  y1 = min_assoc b.y1 e.y1 c.y1 i;
  z1 = min_assoc b.z1 e.z1 c.z1 i;
  x2 = max_assoc b.x2 e.x2 c.x2 i;
  y2 = max_assoc b.y2 e.y2 c.y2 i;
  z2 = max_assoc b.z2 e.z2 c.z2 i;
}

-- a box joined with vertices
joined_some : (ps : List RationalPoint) (b : IntegerBox) (p : RationalPoint) → joined (Some b) (p ∷ ps) ≡ Some (box_union b (box_of_vertices (p ∷ ps)))
joined_some [] b p = refl
joined_some (q ∷ ps) b p = joined_some ps (box_union b (box_of_vertex p)) q ∙ ap Some (union_assoc b (box_of_vertex p) (box_of_vertices (q ∷ ps)))

-- vertices joined from the start
joined_none : (ps : List RationalPoint) (p : RationalPoint) → joined None (p ∷ ps) ≡ Some (box_of_vertices (p ∷ ps))
joined_none [] p = refl
joined_none (q ∷ ps) p = joined_some ps (box_of_vertex p) q

-- what all vertices are joined to is their box, and the cube's where there is none
pub joined_all : (ps : List RationalPoint) → unwrap_or (joined None ps) cube_box ≡ box_of_vertices ps
joined_all [] = refl
joined_all (p ∷ ps) = ap (λ (o : Option IntegerBox). unwrap_or o cube_box) (joined_none ps p)

-- two lists of vertices one after the other
joined_append : (ps qs : List RationalPoint) (o : Option IntegerBox) → joined o (ps ++ qs) ≡ joined (joined o ps) qs
joined_append [] qs o = refl
joined_append (p ∷ ps) qs o = joined_append ps qs (Some (join_vertex o p))

-- ---- a round of a loop

-- one vertex, if there is one, and the others
joined_option : (v : Option RationalPoint) (ps : List RationalPoint) (o : Option IntegerBox) → joined o (cons_option v ps) ≡ joined (joined o (option_to_list v)) ps
joined_option None ps o = refl
joined_option (Some p) ps o = refl

-- the slice behind a place is the rest of the list
slice_is : {A : Type 0} (xs : List A) (k : ℕ) → take (length xs - k) (drop k xs) ≡ drop k xs
slice_is xs k = grind (arith, common_steps)

-- what is joined so far, with the vertices that a function gives of the items from one place on
pub third_more : {A : Type 0} (F : A → Option RationalPoint) (xs : List A) (i : ℕ) (x : A) (o later all : Option IntegerBox) → i < length xs → x ≡ get_or xs i x
    → later ≡ joined o (option_to_list (F x)) → joined o (filter_map F (drop i xs)) ≡ all → joined later (filter_map F (drop (i + 1) xs)) ≡ all
third_more F xs i x o later all h e f k =
    ap (λ (l : Option IntegerBox). joined l (filter_map F (drop (i + 1) xs))) f ∙ sym (joined_option (F x) (filter_map F (drop (i + 1) xs)) o)
    ∙ ap (λ ys. joined o (filter_map F ys)) (sym (drop_item xs i x h e)) ∙ k

-- the same of each two items
pub second_more : {A : Type 0} (F : A → A → Option RationalPoint) (xs : List A) (i : ℕ) (x : A) (o later all : Option IntegerBox) → i < length xs → x ≡ get_or xs i x
    → later ≡ joined o (filter_map (F x) (take (length xs - (i + 1)) (drop (i + 1) xs))) → joined o (all_of_pairs F (drop i xs)) ≡ all → joined later (all_of_pairs F (drop (i + 1) xs)) ≡ all
second_more F xs i x o later all h e f k =
    ap (λ (l : Option IntegerBox). joined l (all_of_pairs F (drop (i + 1) xs))) (f ∙ ap (λ ys. joined o (filter_map (F x) ys)) (slice_is xs (i + 1))) ∙ sym (joined_append (filter_map (F x) (drop (i + 1) xs)) (all_of_pairs F (drop (i + 1) xs)) o)
    ∙ ap (λ ys. joined o (all_of_pairs F ys)) (sym (drop_item xs i x h e)) ∙ k

-- the same of each three items
pub first_more : {A : Type 0} (F : A → A → A → Option RationalPoint) (xs : List A) (i : ℕ) (x : A) (o later all : Option IntegerBox) → i < length xs → x ≡ get_or xs i x
    → later ≡ joined o (all_of_pairs (F x) (take (length xs - (i + 1)) (drop (i + 1) xs))) → joined o (all_of_triples F (drop i xs)) ≡ all → joined later (all_of_triples F (drop (i + 1) xs)) ≡ all
first_more F xs i x o later all h e f k =
    ap (λ (l : Option IntegerBox). joined l (all_of_triples F (drop (i + 1) xs))) (f ∙ ap (λ ys. joined o (all_of_pairs (F x) ys)) (slice_is xs (i + 1))) ∙ sym (joined_append (all_of_pairs (F x) (drop (i + 1) xs)) (all_of_triples F (drop (i + 1) xs)) o)
    ∙ ap (λ ys. joined o (all_of_triples F ys)) (sym (drop_item xs i x h e)) ∙ k

-- a point of a list stands in it in lowest terms
pub reduced_stands : (ps : List RationalPoint) (i : ℕ) (p : RationalPoint) → i < length ps → p ≡ get_or ps i p → Contains (map reduced_point ps) (reduced_point p)
reduced_stands ps i p h e = subst (λ (q : RationalPoint). Contains (map reduced_point ps) q) (get_or-map reduced_point ps i p (reduced_point p) h ∙ ap reduced_point (sym e)) (Contains-get_or (map reduced_point ps) i (reduced_point p) (subst (λ (n : ℕ). i < n) (sym (length-map ps reduced_point)) h))

-- what is joined so far, with the points of a list from one place on in lowest terms
pub point_more : (ps : List RationalPoint) (i : ℕ) (p : RationalPoint) (o later all : Option IntegerBox) → i < length ps → p ≡ get_or ps i p
    → later ≡ Some (join_vertex o (reduced_point p)) → joined o (map reduced_point (drop i ps)) ≡ all → joined later (map reduced_point (drop (i + 1) ps)) ≡ all
point_more ps i p o later all h e f k =
    ap (λ (l : Option IntegerBox). joined l (map reduced_point (drop (i + 1) ps))) f ∙ ap (λ qs. joined o (map reduced_point qs)) (sym (drop_item ps i p h e)) ∙ k

-- ---- the result

-- the box of what is there, or of what stands for it
box_or : (o : Option IntBox) (d : IntBox) → integer_box (unwrap_or o d) ≡ unwrap_or (option_map integer_box o) (integer_box d)
box_or None d = refl
box_or (Some b) d = refl

-- what all vertices of the list of a cell are joined to is the box of the cell's vertices
pub joined_box : (cell hs : List HalfSpace) (o : Option IntBox) (d r : IntBox) → hs ≡ with_cube cell → option_map integer_box o ≡ joined None (all_of_triples (vertex_at any_point hs) hs)
    → integer_box d ≡ cube_box → r ≡ unwrap_or o d → integer_box r ≡ box_of_vertices (vertices cell)
unfolding vertices
joined_box cell hs o d r e f g h =
    ap integer_box h ∙ box_or o d ∙ (λ i. unwrap_or (f i) (g i)) ∙ joined_all (all_of_triples (vertex_at any_point hs) hs)
    ∙ ap (λ (ks : List HalfSpace). box_of_vertices (all_of_triples (vertex_at any_point ks) ks)) e

-- what all points of a list are joined to is their box
pub joined_points : (ps : List RationalPoint) (i : ℕ) (o : Option IntBox) (d r : IntBox) → length ps ≤ i → joined (option_map integer_box o) (map reduced_point (drop i ps)) ≡ joined None (map reduced_point ps)
    → integer_box d ≡ cube_box → r ≡ unwrap_or o d → integer_box r ≡ box_of_vertices (map reduced_point ps)
joined_points ps i o d r over f g h =
    ap integer_box h ∙ box_or o d
    ∙ (λ j. unwrap_or ((ap (λ qs. joined (option_map integer_box o) (map reduced_point qs)) (sym (drop_all i ps over)) ∙ f) j) (g j)) ∙ joined_all (map reduced_point ps)
