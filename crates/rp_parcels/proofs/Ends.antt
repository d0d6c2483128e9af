-- The row of a change or of a question about lots shows its refusal: by the points of the last line, or it wants no points.
use Rattle.std.proofs.Common.{◌≡◌, ℕ, ◌+◌, ◌==◌, Bool, true, false, not, List, [], ◌∷◌, ◌++◌, map, length, Option, Some, None, refl, sym, subst}
use Rattle.std.specs.Prelude.{IfSome, nat_lt, option_map, is_some}
use Rattle.std.specs.List.{AllByRecursion}
use Rattle.rp_algebra.proofs.Listed.{all_append}
use Rattle.rp_geometry.specs.Geometry.{HalfSpace, RationalPoint}
use Rattle.rp_geometry.specs.sets.Shape.{Shape, Part, shape_of_parts}
use Rattle.rp_geometry.specs.parts.PartTest.{has_member}
use Rattle.rp_geometry.specs.parts.Parts.{IsPart, IsRegion, AreOf, most_parts}
use Rattle.rp_geometry.specs.searches.ProofLine.{ProofLine, in_line, out_line, strict_line, outside_terms}
use Rattle.rp_geometry.specs.searches.Vertex.{first_inside}
use Rattle.rp_language.specs.Name.{Label, is_among, label_eq}
use Rattle.rp_semantics.specs.Walk.{Outcome, done, stopped, Walk, Work, pass, after_first, strict_test, first_tester}
use Rattle.rp_semantics.specs.Form.{near_pair, test_pair_if, first_with_part, common_nearby, join, subtract}
use Rattle.rp_semantics.specs.Compare.{show_then_no, is_covered}
use Rattle.rp_semantics.specs.FormLaws.{IfDone}
use Rattle.rp_model.specs.states.State.{Lot, StateOf, present_lots, live_lots, layer_of_first, layer_lots, other_live_lots_of_layer, ids_of, place_among, most_kept_parts, parts_under_lots}
use Rattle.rp_geometry.specs.parts.Levels.{levels_along, chain_along}
use Rattle.rp_model.specs.commands.Verdict.{Refusal, Verdict, access_lines, neighbour_lines, clear, refused, known, unknown, repeated, layers, same_name, too_few, empty, overlaps, empty_side, empty_child, outside_lot, children_overlap, gap}
use Rattle.rp_model.specs.commands.Checks.{refuse_if, and_then, check_new, check_live, check_each, check_repeated, check_layer, check_cut, check_subdivide, check_consolidate, check_access}
use Rattle.rp_model.specs.commands.Reply.{Reply, reply, reply_lines, check, check_size}
use Rattle.rp_model.specs.commands.Access.{access_by_links, links_among_lists, row_access}
use Rattle.rp_model.specs.commands.Parts.{lot_parts, numbered_lists, parts_with_id, joined_parts}
use Rattle.rp_model.specs.commands.Neighbours.{touched_lots, row_neighbours}
use Rattle.rp_model.specs.commands.Audit.{all_apart, row_audit}
use Rattle.rp_model.specs.commands.Subdivide.{FormedChild, child_parts, first_empty_child, first_outside_child, first_overlapping_child, first_overlapping_children, row_subdivide}
use Rattle.rp_model.specs.commands.Register.{first_overlapped, row_register}
use Rattle.rp_model.specs.commands.Cut.{row_cut}
use Rattle.rp_model.specs.commands.Consolidate.{row_consolidate}
use Rattle.rp_row_soundness.proofs.Parts.{difference_done}
use Rattle.rp_row_soundness.proofs.Right.{first_walks_are_right}
use Rattle.rp_parcels.specs.Shown.{EndsInside, by_none, kind_of, IsShownBy, IsShown}

-- ---- what a walk comes to, beside its lines

-- where it comes to its end, this is so of its result and its lines
abbrev pub Ends : {A : Type 0} → (A → List ProofLine → Type 0) → Outcome Work A → Type 0
Ends Q (done x w) = Q x w.proofs
Ends Q (stopped s w) = Unit {0}

-- one walk and then the next
then_ends : {A B : Type 0} (R : A → List ProofLine → Type 0) (Q : B → List ProofLine → Type 0) (o : Outcome Work A) (next : A → Walk Work B) → Ends R o → ((x : A) (w : Work) → R x w.proofs → Ends Q (next x w)) → Ends Q (after_first next o)
then_ends R Q (done x w) next h each = each x w h
then_ends R Q (stopped s w) next h each = tt

-- the next walk alone
after_ends : {A B : Type 0} (Q : B → List ProofLine → Type 0) (o : Outcome Work A) (next : A → Walk Work B) → ((x : A) (w : Work) → Ends Q (next x w)) → Ends Q (after_first next o)
after_ends Q (done x w) next each = each x w
after_ends Q (stopped s w) next each = tt

-- one of two walks, by a test
if_ends : {A : Type 0} (Q : A → List ProofLine → Type 0) (b : Bool) (one other : Walk Work A) (w : Work) → (b ≡ true → Ends Q (one w)) → (b ≡ false → Ends Q (other w)) → Ends Q ((elim b as (λ _. Walk Work A) [ true ↦ one | false ↦ other ]) w)
if_ends Q true one other w f g = f refl
if_ends Q false one other w f g = g refl

-- of a result alone
done_ends : {A : Type 0} (P : A → Type 0) (o : Outcome Work A) → IfDone o P → Ends (λ x lines. P x) o
done_ends P (done x w) h = h
done_ends P (stopped s w) h = tt

-- ---- tests

-- what is found is told by points
abbrev FoundShown : Bool → List ProofLine → Type 0
FoundShown true lines = EndsInside lines
FoundShown false lines = Unit {0}

-- by a strict test
strict_ends : (cell : List HalfSpace) (w : Work) → Ends FoundShown (strict_test cell w)
unfolding strict_test strict_line has_member
strict_ends cell w = by (first_inside cell)
  where
    by : (o : Option (List RationalPoint)) → FoundShown (is_some o) (w.proofs ++ (elim o as (λ _. ProofLine) [ Some points ↦ in_line points | None ↦ out_line (outside_terms true cell) ]) ∷ [])
    by None = tt
    by (Some points) = record { points = points; last = record { before = w.proofs; is = refl } }

-- by the test of a pair, where it is made
pair_ends : (b : Bool) (p q : Part) (w : Work) → Ends FoundShown (test_pair_if b strict_test p q w)
pair_ends true p q w = strict_ends (p.cell ++ q.cell) w
pair_ends false p q w = tt

-- by those of a part with each of a list
part_ends : (p : Part) (qs : List Part) (w : Work) → Ends FoundShown (first_with_part near_pair strict_test p qs w)
part_ends p [] w = tt
part_ends p (q ∷ qs) w =
    then_ends FoundShown FoundShown (test_pair_if (near_pair p q) strict_test p q w) (λ found. elim found [ true ↦ pass true | false ↦ first_with_part near_pair strict_test p qs ]) (pair_ends (near_pair p q) p q w)
    λ found v h. if_ends FoundShown found (pass true) (first_with_part near_pair strict_test p qs) v (λ e. subst (λ (b : Bool). FoundShown b v.proofs) e h) (λ e. part_ends p qs v)

-- by those of two lists
common_ends : (ps qs : List Part) (w : Work) → Ends FoundShown (common_nearby first_tester ps qs w)
common_ends [] qs w = tt
common_ends (p ∷ ps) qs w =
    then_ends FoundShown FoundShown (first_with_part near_pair strict_test p qs w) (λ found. elim found [ true ↦ pass true | false ↦ common_nearby first_tester ps qs ]) (part_ends p qs w)
    λ found v h. if_ends FoundShown found (pass true) (common_nearby first_tester ps qs) v (λ e. subst (λ (b : Bool). FoundShown b v.proofs) e h) (λ e. common_ends ps qs v)

-- what is not covered is told by points
abbrev CoverShown : Bool → List ProofLine → Type 0
CoverShown true lines = Unit {0}
CoverShown false lines = EndsInside lines

-- by the test of a first part, which has a point
show_ends : (ps : List Part) → AllByRecursion IsPart ps → (w : Work) → Ends CoverShown (show_then_no first_tester ps w)
unfolding strict_test
show_ends [] h w = tt
show_ends (p ∷ ps) h w = subst (λ (b : Bool). FoundShown b (w.proofs ++ strict_line p.cell ∷ [])) ((first_walks_are_right.tests.strict p.cell h.0.half_spaces w).1 h.0.nonempty) (strict_ends p.cell w)

-- by what is left of a list outside another
cover_ends : (ps qs : List Part) → IsRegion ps → AllByRecursion IsPart qs → (w : Work) → Ends CoverShown (is_covered first_tester ps qs w)
cover_ends ps qs h k w =
    then_ends (λ (left : List Part) lines. AreOf IsPart (Shape.difference (shape_of_parts ps) (shape_of_parts qs)) left) CoverShown (subtract first_tester ps qs w) (show_then_no first_tester)
    (done_ends (λ (left : List Part). AreOf IsPart (Shape.difference (shape_of_parts ps) (shape_of_parts qs)) left) (subtract first_tester ps qs w) (difference_done IsPart first_tester first_walks_are_right.differences ps qs h k w))
    (λ left v made. show_ends left made.all.each v)

-- the parts of all children are parts
joined_each : (cs : List FormedChild) → AllByRecursion (λ c. IsRegion c.parts) cs → AllByRecursion IsPart (joined_parts (child_parts cs))
joined_each [] h = tt
joined_each (c ∷ cs) h = all_append IsPart c.parts (joined_parts (child_parts cs)) h.0.each (joined_each cs h.1)

-- ---- searches for a refusal

-- the refusal that is found is shown
abbrev pub MayShow : Option Refusal → List ProofLine → Type 0
MayShow o lines = IfSome o (λ r. IsShown lines r)

-- the lot that is found is told by points
abbrev LotShown : Option Label → List ProofLine → Type 0
LotShown o lines = IfSome o (λ _. EndsInside lines)

-- the search for a lot that overlaps
overlapped_ends : {S : Type 0} (ps : List Part) (ls : List (Lot S)) (w : Work) → Ends LotShown (first_overlapped first_tester ps ls w)
overlapped_ends ps [] w = tt
overlapped_ends ps (l ∷ ls) w =
    then_ends FoundShown LotShown (common_nearby first_tester ps l.parts w) (λ found. elim found [ true ↦ pass (Some l.id) | false ↦ first_overlapped first_tester ps ls ]) (common_ends ps l.parts w)
    λ found v h. if_ends LotShown found (pass (Some l.id)) (first_overlapped first_tester ps ls) v (λ e. subst (λ (b : Bool). FoundShown b v.proofs) e h) (λ e. overlapped_ends ps ls v)

-- the search for a child that is outside
outside_ends : (qs : List Part) (k : ℕ) (cs : List FormedChild) → AllByRecursion IsPart qs → AllByRecursion (λ c. IsRegion c.parts) cs → (w : Work) → Ends MayShow (first_outside_child first_tester qs k cs w)
outside_ends qs k [] g h w = tt
outside_ends qs k (c ∷ cs) g h w =
    then_ends CoverShown MayShow (is_covered first_tester c.parts qs w) (λ inside. elim inside [ false ↦ pass (Some (outside_lot k)) | true ↦ first_outside_child first_tester qs (k + 1) cs ]) (cover_ends c.parts qs h.0 g w)
    λ inside v f. if_ends MayShow inside (first_outside_child first_tester qs (k + 1) cs) (pass (Some (outside_lot k))) v (λ e. outside_ends qs (k + 1) cs g h.1 v) (λ e. subst (λ (b : Bool). CoverShown b v.proofs) e f)

-- the search for a child that overlaps one
overlap_ends : (m : ℕ) (ps : List Part) (n : ℕ) (cs : List FormedChild) (w : Work) → Ends MayShow (first_overlapping_child first_tester m ps n cs w)
overlap_ends m ps n [] w = tt
overlap_ends m ps n (c ∷ cs) w =
    then_ends FoundShown MayShow (common_nearby first_tester ps c.parts w) (λ found. elim found [ true ↦ pass (Some (children_overlap m n)) | false ↦ first_overlapping_child first_tester m ps (n + 1) cs ]) (common_ends ps c.parts w)
    λ found v h. if_ends MayShow found (pass (Some (children_overlap m n))) (first_overlapping_child first_tester m ps (n + 1) cs) v (λ e. subst (λ (b : Bool). FoundShown b v.proofs) e h) (λ e. overlap_ends m ps (n + 1) cs v)

-- the search for two children that overlap
double_ends : (m : ℕ) (cs : List FormedChild) (w : Work) → Ends MayShow (first_overlapping_children first_tester m cs w)
double_ends m [] w = tt
double_ends m (c ∷ cs) w =
    then_ends MayShow MayShow (first_overlapping_child first_tester m c.parts (m + 1) cs w) (λ found. elim found [ Some r ↦ pass (Some r) | None ↦ first_overlapping_children first_tester (m + 1) cs ]) (overlap_ends m c.parts (m + 1) cs w)
    λ found v h. by found v h (double_ends (m + 1) cs v)
  where
    by : (found : Option Refusal) (v : Work) → MayShow found v.proofs → Ends MayShow (first_overlapping_children first_tester (m + 1) cs v)
        → Ends MayShow ((elim found as (λ _. Walk Work (Option Refusal)) [ Some r ↦ pass (Some r) | None ↦ first_overlapping_children first_tester (m + 1) cs ]) v)
    by (Some r) v h later = h
    by None v h later = later

-- ---- checks

-- a check refuses without points, if it does
abbrev pub NeedsNone : Option Refusal → Type 0
NeedsNone o = IfSome o (λ r. kind_of r ≡ by_none)

-- so its refusal is shown by any lines
none_shown : (o : Option Refusal) (lines : List ProofLine) → NeedsNone o → MayShow o lines
none_shown None lines h = tt
none_shown (Some r) lines h = subst (IsShownBy lines) (sym h) tt

-- one check and then another
then_none : (o p : Option Refusal) → NeedsNone o → NeedsNone p → NeedsNone (and_then o p)
then_none None p h k = k
then_none (Some r) p h k = h

-- a refusal by a test
if_none : (b : Bool) (r : Refusal) → kind_of r ≡ by_none → NeedsNone (refuse_if b r)
if_none true r h = h
if_none false r h = tt

-- the same check of each label
each_none : (test : Label → Option Refusal) → ((x : Label) → NeedsNone (test x)) → (xs : List Label) → NeedsNone (check_each test xs)
each_none test h [] = tt
each_none test h (x ∷ xs) = then_none (test x) (check_each test xs) (h x) (each_none test h xs)

-- a label that is repeated
repeated_none : (before xs : List Label) → NeedsNone (check_repeated before xs)
repeated_none before [] = tt
repeated_none before (x ∷ xs) = then_none _ _ (if_none (is_among x before) (repeated x) refl) (repeated_none (x ∷ before) xs)

-- a child without a part
empty_none : (k : ℕ) (cs : List FormedChild) → NeedsNone (first_empty_child k cs)
empty_none k [] = tt
empty_none k (c ∷ cs) = then_none _ _ (if_none (length c.parts == 0) (empty_child k) refl) (empty_none (k + 1) cs)

-- those of each row
module _ {S : Type 0} (s : StateOf S) where
  new_none : (x : Label) → NeedsNone (check_new s x)
  new_none x = if_none _ (known x) refl

  live_none : (x : Label) → NeedsNone (check_live s x)
  live_none x = if_none _ (unknown x) refl

  cut_none : (x first second : Label) → NeedsNone (check_cut s x first second)
  cut_none x first second = then_none _ _ (live_none x) (then_none _ _ (new_none first) (then_none _ _ (new_none second) (if_none (label_eq first second) same_name refl)))

  subdivide_none : (x : Label) (ids : List Label) → NeedsNone (check_subdivide s x ids)
  subdivide_none x ids = then_none _ _ (if_none (nat_lt (length ids) 2) too_few refl) (then_none _ _ (live_none x) (then_none _ _ (each_none (check_new s) new_none ids) (repeated_none [] ids)))

  consolidate_none : (x : Label) (ids : List Label) → NeedsNone (check_consolidate s x ids)
  consolidate_none x ids =
      then_none _ _ (if_none (nat_lt (length ids) 2) too_few refl)
      (then_none _ _ (each_none (check_live s) live_none ids)
      (then_none _ _ (repeated_none [] ids)
      (then_none _ _ (each_none (check_layer s (layer_of_first s ids)) (λ y. if_none _ (layers y) refl) ids) (new_none x))))

  access_none : (x y : Label) → NeedsNone (check_access s x y)
  access_none x y = then_none _ _ (live_none x) (then_none _ _ (live_none y) (if_none _ (layers y) refl))

-- ---- rows

-- the lines show the refusal of a reply, if it is one
abbrev pub ReplyShown : List Verdict → List ProofLine → Type 0
ReplyShown (refused r ∷ vs) lines = IsShown lines r
ReplyShown _ lines = Unit {0}

-- those of a row
abbrev pub RowShown : Reply → List ProofLine → Type 0
RowShown r lines = ReplyShown r.verdicts lines

-- a check before the rest of a row
check_ends : (o : Option Refusal) (rest : Walk Work Reply) (w : Work) → MayShow o w.proofs → Ends RowShown (rest w) → Ends RowShown (check o rest w)
check_ends None rest w h k = k
check_ends (Some r) rest w h k = h

-- a check on names
names_ends : (o : Option Refusal) (rest : Walk Work Reply) (w : Work) → NeedsNone o → Ends RowShown (rest w) → Ends RowShown (check o rest w)
names_ends o rest w h k = check_ends o rest w (none_shown o w.proofs h) k

-- a refusal of a lot that was found
found_shown : (o : Option Label) (lines : List ProofLine) → LotShown o lines → MayShow (option_map overlaps o) lines
found_shown None lines h = tt
found_shown (Some x) lines h = h

-- a gap
gap_shown : (b : Bool) (lines : List ProofLine) → CoverShown b lines → MayShow (refuse_if (not b) gap) lines
gap_shown true lines h = tt
gap_shown false lines h = h

-- the lines of access
chain_shown : (ids : List Label) (chosen : Option (List ℕ)) (levels : List (Option ℕ)) (lines : List ProofLine) → ReplyShown (access_lines ids chosen levels) lines
chain_shown ids None levels lines = tt
chain_shown ids (Some places) levels lines = tt

module _ {S : Type 0} (s : StateOf S) where
  -- a registration
  pub register_ends : (x : Label) (ps : List Part) (w : Work) → Ends RowShown (row_register first_tester s x ps w)
  register_ends x ps w =
      names_ends _ _ w (then_none _ _ (new_none s x) (if_none (length ps == 0) empty refl))
      (after_ends RowShown (check_size (parts_under_lots s.lots + length ps) most_kept_parts w) _ λ _ v.
      after_ends RowShown (first_tester.count _ v) _ λ _ u.
      then_ends LotShown RowShown (first_overlapped first_tester ps (present_lots s) u) _ (overlapped_ends ps (present_lots s) u) λ found z h. check_ends (option_map overlaps found) _ z (found_shown found z.proofs h) tt)

  -- a cut
  pub cut_ends : (x : Label) (ps : List Part) (first second : Label) (w : Work) → Ends RowShown (row_cut first_tester s x ps first second w)
  cut_ends x ps first second w =
      names_ends _ _ w (cut_none s x first second)
      (after_ends RowShown (join first_tester (parts_with_id s x) ps w) _ λ inner v.
      names_ends _ _ v (if_none (length inner == 0) (empty_side 1) refl)
      (after_ends RowShown (subtract first_tester (parts_with_id s x) ps v) _ λ outer u.
      names_ends _ _ u (if_none (length outer == 0) (empty_side 2) refl)
      (after_ends RowShown (check_size (parts_under_lots s.lots + length inner + length outer) most_kept_parts u) _ λ _ z. tt)))

  -- a consolidation
  pub consolidate_ends : (x : Label) (ids : List Label) (w : Work) → Ends RowShown (row_consolidate s x ids w)
  consolidate_ends x ids w =
      let parts = joined_parts (map (λ y. parts_with_id s y) ids) in
      names_ends _ _ w (consolidate_none s x ids)
      (after_ends RowShown (check_size (length parts) most_parts w) _ λ _ v. after_ends RowShown (check_size (parts_under_lots s.lots + length parts) most_kept_parts v) _ λ _ u. tt)

  -- a subdivision
  pub subdivide_ends : (x : Label) (cs : List FormedChild) → IsRegion (parts_with_id s x) → AllByRecursion (λ c. IsRegion c.parts) cs → (w : Work) → Ends RowShown (row_subdivide first_tester s x cs w)
  subdivide_ends x cs whole each w =
      names_ends _ _ w (then_none _ _ (subdivide_none s x (map (λ c. c.id) cs)) (empty_none 1 cs))
      (after_ends RowShown (check_size (parts_under_lots s.lots + length (joined_parts (child_parts cs))) most_kept_parts w) _ λ _ v.
      then_ends MayShow RowShown (first_outside_child first_tester (parts_with_id s x) 1 cs v) _ (outside_ends (parts_with_id s x) 1 cs whole.each each v) λ out u g. check_ends out _ u g
      (after_ends RowShown (first_tester.count _ u) _ λ _ z.
      then_ends MayShow RowShown (first_overlapping_children first_tester 1 cs z) _ (double_ends 1 cs z) λ double y h. check_ends double _ y h
      (then_ends CoverShown RowShown (is_covered first_tester (parts_with_id s x) (joined_parts (child_parts cs)) y) _ (cover_ends (parts_with_id s x) (joined_parts (child_parts cs)) whole (joined_each cs each) y)
      λ covered t k. check_ends (refuse_if (not covered) gap) _ t (gap_shown covered t.proofs k) tt)))

  -- neighbours
  pub neighbours_ends : (x : Label) (w : Work) → Ends RowShown (row_neighbours first_tester s x w)
  neighbours_ends x w =
      names_ends _ _ w (live_none s x) (after_ends RowShown (first_tester.count _ w) _ λ _ v.
      after_ends RowShown (touched_lots first_tester [] (parts_with_id s x) (other_live_lots_of_layer s x) v) (λ found. pass (reply_lines (neighbour_lines found))) λ found u. tt)

  -- access
  pub access_ends : (x y : Label) (w : Work) → Ends RowShown (row_access first_tester s x y w)
  access_ends x y w =
      names_ends _ _ w (access_none s x y) (after_ends RowShown (first_tester.count _ w) _ λ _ v.
      after_ends RowShown (links_among_lists first_tester [] (numbered_lists 0 (lot_parts (layer_lots s x))) v) (λ links. pass (reply_lines (access_by_links (ids_of (layer_lots s x)) links x y))) λ links u.
      chain_shown (ids_of (layer_lots s x)) (chain_along links (length (ids_of (layer_lots s x))) (place_among x (ids_of (layer_lots s x))) (place_among y (ids_of (layer_lots s x)))) (levels_along links (length (ids_of (layer_lots s x))) (place_among y (ids_of (layer_lots s x)))) u.proofs)

  -- an audit
  pub audit_ends : (w : Work) → Ends RowShown (row_audit first_tester s w)
  audit_ends w = after_ends RowShown (first_tester.count _ w) _ λ _ v. after_ends RowShown (all_apart first_tester (live_lots s.lots) v) (λ _. pass (reply (clear (length (live_lots s.lots))))) λ _ u. tt
