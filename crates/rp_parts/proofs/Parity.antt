-- Odd and even: a number of edges is odd where a test differs from edge to edge an odd number of times, and round a polygon it differs an even number of times.
use Rattle.std.proofs.Common.{◌≡◌, Bool, true, false, cond, not, ◌&&◌, ℤ, pos, ◌*ℤ◌, ◌<ℤ◌, ◌≤ℤ◌, List, [], ◌∷◌, length, refl, sym, ap, ◌∙◌, subst, arith}
use Rattle.std.specs.Prelude.{int_lt, int_le}
use Rattle.std.specs.List.{count_by, filter}
use Rattle.std.proofs.lemmas.List.Sums.{length-filter}
use Rattle.std.proofs.lemmas.Int.{ints}
use Rattle.rp_algebra.proofs.IntLaws.{mul_le_mul_left_ℤ, mul_comm_ℤ, nonneg_of_pos_ℤ}
use Rattle.rp_algebra.proofs.Tests.{false_not_true}
use Rattle.rp_geometry.specs.sets.Prism.{Corner, Edge, edges_along, edges_of, spans, is_odd}
use Rattle.rp_geometry.specs.laws.PrismLaws.{CrossingsAreEven}

-- ---- tests that differ

-- one of both passes, and the other does not
abbrev pub differ : Bool → Bool → Bool
differ true b = not b
differ false b = b

-- whether an odd number of edges pass the test
abbrev pub parity : (Edge → Bool) → List Edge → Bool
parity f [] = false
parity f (e ∷ es) = differ (f e) (parity f es)

-- one edge more
one_more : (b : Bool) (e : Edge) (es : List Edge) → is_odd (length (cond b (e ∷ es) es)) ≡ differ b (is_odd (length es))
one_more true e es = refl
one_more false e es = refl

-- the number of edges that are kept is odd
odd_kept : (f : Edge → Bool) (es : List Edge) → is_odd (length (filter f es)) ≡ parity f es
odd_kept f [] = refl
odd_kept f (e ∷ es) = one_more (f e) e (filter f es) ∙ ap (differ (f e)) (odd_kept f es)

-- the number of edges that pass is odd
pub odd_count : (f : Edge → Bool) (es : List Edge) → is_odd (count_by f es) ≡ parity f es
odd_count f es = ap is_odd (sym (length-filter f es)) ∙ odd_kept f es

-- tests that answer alike
pub same_parity : (f g : Edge → Bool) → ((e : Edge) → f e ≡ g e) → (es : List Edge) → parity f es ≡ parity g es
same_parity f g h [] = refl
same_parity f g h (e ∷ es) = λ i. differ (h e i) (same_parity f g h es i)

-- ---- round a polygon

-- nothing differs from itself
pub differ_itself : (a : Bool) → differ a a ≡ false
differ_itself true = refl
differ_itself false = refl

-- the order does not matter
differ_turned : (a b : Bool) → differ a b ≡ differ b a
differ_turned true true = refl
differ_turned true false = refl
differ_turned false true = refl
differ_turned false false = refl

-- from one to the next, and on
differ_on : (a b c : Bool) → differ (differ a b) (differ b c) ≡ differ a c
differ_on true true c = refl
differ_on true false c = refl
differ_on false true true = refl
differ_on false true false = refl
differ_on false false c = refl

-- nothing more
pub differ_false : (a : Bool) → differ a false ≡ a
differ_false true = refl
differ_false false = refl

-- the ends of an edge answer a test differently
abbrev ends_differ : (Corner → Bool) → Edge → Bool
ends_differ f e = differ (f e.start) (f e.end)

-- along corners a test changes as often as from the first to the last
changes_along : (f : Corner → Bool) (first c : Corner) (ds : List Corner) → parity (ends_differ f) (edges_along first c ds) ≡ differ (f c) (f first)
changes_along f first c [] = differ_false (differ (f c) (f first))
changes_along f first c (d ∷ ds) = ap (differ (differ (f c) (f d))) (changes_along f first d ds) ∙ differ_on (f c) (f d) (f first)

-- round a polygon it changes an even number of times
changes_round : (f : Corner → Bool) (cs : List Corner) → parity (ends_differ f) (edges_of cs) ≡ false
changes_round f [] = refl
changes_round f (c ∷ cs) = changes_along f c c cs ∙ differ_itself (f c)

-- ---- edges that span an x

-- of two bounds in order, one passes and the other does not exactly between them
between_differ : (u v x : ℤ) → u ≤ℤ v → (int_le u x && int_lt x v) ≡ differ (int_lt x u) (int_lt x v)
between_differ u v x h = by_tests (int_lt x u) (int_lt x v) refl refl
  where
    turned : int_le u x ≡ not (int_lt x u)
    turned = grind (arith, ints)

    implied : int_lt x u ≡ true → int_lt x v ≡ true
    implied e = grind (arith, ints)

    by_tests : (a b : Bool) → int_lt x u ≡ a → int_lt x v ≡ b → (int_le u x && int_lt x v) ≡ differ (int_lt x u) (int_lt x v)
    by_tests true true e f = (λ i. turned i && int_lt x v) ∙ (λ i. not (e i) && f i) ∙ (λ i. differ (sym e i) (sym f i))
    by_tests true false e f = absurd (false_not_true (int_lt x v) (implied e) f)
    by_tests false b e f = (λ i. turned i && int_lt x v) ∙ (λ i. not (e i) && int_lt x v) ∙ (λ i. differ (sym e i) (int_lt x v))

-- in order after multiplication
times_above : (a b w : ℤ) → pos 0 <ℤ w → a ≤ℤ b → (a *ℤ w) ≤ℤ (b *ℤ w)
times_above a b w h k =
    let m : (w *ℤ a) ≤ℤ (w *ℤ b) = mul_le_mul_left_ℤ w a b (nonneg_of_pos_ℤ w h) k in
    subst (λ v. v ≤ℤ (b *ℤ w)) (mul_comm_ℤ w a) (subst (λ v. (w *ℤ a) ≤ℤ v) (mul_comm_ℤ w b) m)

-- a corner is right of x/w
abbrev right_of : ℤ → ℤ → Corner → Bool
right_of x w c = int_lt x (c.x *ℤ w)

-- the span of an edge, by the test whether its start is left of its end
abbrev spans_by : Corner → Corner → ℤ → ℤ → Bool → Bool
spans_by c d x w b = int_le ((cond b c d).x *ℤ w) x && int_lt x ((cond b d c).x *ℤ w)

-- an edge spans an x exactly where one of its ends is right of it
pub spans_differ : (e : Edge) (x w : ℤ) → pos 0 <ℤ w → spans e x w ≡ ends_differ (right_of x w) e
spans_differ e x w h = by_order (int_lt e.start.x e.end.x) refl
  where
    by_order : (b : Bool) → int_lt e.start.x e.end.x ≡ b → spans_by e.start e.end x w b ≡ ends_differ (right_of x w) e
    by_order true t = between_differ (e.start.x *ℤ w) (e.end.x *ℤ w) x (times_above e.start.x e.end.x w h (let k : e.start.x <ℤ e.end.x = grind (arith, ints) in omega (arith, ints)))
    by_order false t =
        between_differ (e.end.x *ℤ w) (e.start.x *ℤ w) x (times_above e.end.x e.start.x w h (grind (arith, ints)))
        ∙ differ_turned (right_of x w e.end) (right_of x w e.start)

-- an even number of edges span an x
pub even_spans : (cs : List Corner) (x w : ℤ) → pos 0 <ℤ w → parity (λ e. spans e x w) (edges_of cs) ≡ false
even_spans cs x w h = same_parity (λ e. spans e x w) (ends_differ (right_of x w)) (λ e. spans_differ e x w h) (edges_of cs) ∙ changes_round (right_of x w) cs

-- the law
pub crossings_are_even_spec : CrossingsAreEven
crossings_are_even_spec cs x w h = odd_count (λ e. spans e x w) (edges_of cs) ∙ even_spans cs x w h
