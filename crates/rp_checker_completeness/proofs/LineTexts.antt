-- Proof lines and verdict lines are lines of bytes without a line end, where labels are names.
use Rattle.std.proofs.Common.{◌≡◌, ℕ, zero, suc, ◌+◌, ◌%◌, ◌/◌, ◌<◌, Bool, true, false, ◌&&◌, ◌==◌, nat_lt, ℤ, pos, negsuc, List, [], ◌∷◌, ◌++◌, map, Option, Some, None, cond, refl, arith}
use Rattle.std.specs.Prelude.{codes}
use Rattle.std.specs.List.{AllByRecursion, list_all}
use Rattle.std.specs.Fmt.{digits, digits_onto, digit_glyph, decimal, signed_decimal}
use Rattle.rp_language.specs.Name.{Label, label_eq, is_letter, is_name_byte}
use Rattle.rp_geometry.specs.Geometry.{RationalPoint, HalfSpace, IntegerBox}
use Rattle.rp_geometry.specs.sets.Relation.{Relation, DC, EC, PO, EQ, TPP, NTPP, TPPi, NTPPi}
use Rattle.rp_geometry.specs.searches.Certificate.{Multiple}
use Rattle.rp_geometry.specs.searches.ProofLine.{ProofLine, in_line, out_line, at_line, apart_line, drop_line, box_line}
use Rattle.rp_geometry.specs.sections.Trace.{Trace}
use Rattle.rp_geometry.specs.sections.Ring.{RingStep}
use Rattle.rp_geometry.specs.sections.Slice.{Slice, ring, flat}
use Rattle.rp_language.specs.Grammar.{Word, space, spaced, half_space_words, one, point_words, box_words, Fault, too_long, bad_syntax, out_of_range, zero_half_space, too_many_nodes}
use Rattle.rp_model.specs.states.State.{base_layer}
use Rattle.rp_model.specs.commands.Verdict.{Refusal, LotEntry, Verdict, says_yes, says_no, says_ok, refused}
use Rattle.rp_reports.specs.Text.{in_parentheses, half_space_text, point_text, term_text, items_text, trace_text, step_text, slice_text, proof_text, verdict_text, relation_word, fault_word, refusal_text, end_text, layer_text, origins_text, lot_text}
use Rattle.rp_reports.specs.Check.{is_line_byte, AreLines}
use Rattle.rp_algebra.proofs.Tests.{and_first, and_second, and_true}
use Rattle.rp_algebra.proofs.Listed.{all_append}
use Rattle.rp_parametricity.proofs.Kept.{IsOtherRefusal, IsVerdictProper}
use Rattle.rp_checker_completeness.proofs.ReadNames.{Named}

-- all bytes are bytes of a line
abbrev pub IsText : List ℕ → Type 0
IsText bytes = AllByRecursion (λ b. is_line_byte b ≡ true) bytes

-- two texts one behind the other
text_both : (a b : List ℕ) → IsText a → IsText b → IsText (a ++ b)
text_both a b h k = all_append _ a b h k

-- ---- numbers

-- a digit
digit_byte : (n : ℕ) → is_line_byte (digit_glyph false (n % 10)) ≡ true
digit_byte n = of_digit (n % 10) (omega arith)
  where
    of_digit : (d : ℕ) → d < 10 → is_line_byte (cond (nat_lt d 10) (48 + d) (87 + d)) ≡ true
    of_digit d h = grind arith

-- digits in front of a text
onto_text : (k n : ℕ) (acc : List ℕ) → IsText acc → IsText (digits_onto k 10 false n acc)
onto_text zero n acc h = h
onto_text (suc k) n acc h = here (n / 10 == 0) (digit_byte n, h) (onto_text k (n / 10) (digit_glyph false (n % 10) ∷ acc) (digit_byte n, h))
  where
    here : (b : Bool) → IsText (digit_glyph false (n % 10) ∷ acc) → IsText (digits_onto k 10 false (n / 10) (digit_glyph false (n % 10) ∷ acc)) → IsText (cond b (digit_glyph false (n % 10) ∷ acc) (digits_onto k 10 false (n / 10) (digit_glyph false (n % 10) ∷ acc)))
    here true f g = f
    here false f g = g

-- a decimal
pub decimal_text : (n : ℕ) → IsText (decimal n)
unfolding digits
decimal_text n = onto_text 64 n [] tt

-- a whole number
number_text : (v : ℤ) → IsText (signed_decimal v)
number_text (pos n) = decimal_text n
number_text (negsuc n) = (refl, decimal_text (suc n))

-- ---- words

-- words with a space between each two
spaced_text : (words : List Word) → AllByRecursion IsText words → IsText (spaced words)
spaced_text [] h = tt
spaced_text (word ∷ []) h = h.0
spaced_text (word ∷ next ∷ words) h = text_both word (space ∷ spaced (next ∷ words)) h.0 (refl, spaced_text (next ∷ words) h.1)

-- words in parentheses
parentheses_text : (words : List Word) → AllByRecursion IsText words → IsText (in_parentheses words)
parentheses_text words h = text_both (codes "(" ++ spaced words) (codes ")") (text_both (codes "(") (spaced words) (refl, tt) (spaced_text words h)) (refl, tt)

-- items, each behind a space
items_are_text : {A : Type 0} (text : A → List ℕ) → ((x : A) → IsText (text x)) → (xs : List A) → IsText (items_text text xs)
items_are_text text each [] = tt
items_are_text text each (x ∷ xs) = text_both (space ∷ text x) (items_text text xs) (refl, each x) (items_are_text text each xs)

-- a half-space
half_space_is_text : (h : HalfSpace) → IsText (half_space_text h)
half_space_is_text h = parentheses_text (half_space_words h) (number_text h.a, (number_text h.b, (number_text h.c, (number_text h.d, tt))))

-- a point
point_is_text : (p : RationalPoint) → IsText (point_text p)
point_is_text p = parentheses_text (point_words one p) (number_text p.x, (number_text p.y, (number_text p.z, (number_text p.w, tt))))

-- a multiple
term_is_text : (t : Multiple) → IsText (term_text t)
term_is_text t = text_both (signed_decimal t.factor ++ codes "*") (half_space_text t.of) (text_both (signed_decimal t.factor) (codes "*") (number_text t.factor) (refl, tt)) (half_space_is_text t.of)

-- a box
box_is_text : (b : IntegerBox) → IsText (spaced (box_words one b))
box_is_text b = spaced_text (box_words one b) (number_text b.x1, (number_text b.y1, (number_text b.z1, (number_text b.x2, (number_text b.y2, (number_text b.z2, tt))))))

-- ---- proof lines

-- a text that is known, in front
pub known_text : (front bytes : List ℕ) → list_all is_line_byte front ≡ true → IsText bytes → IsText (front ++ bytes)
known_text [] bytes e h = h
known_text (b ∷ front) bytes e h = (and_first (is_line_byte b) (list_all is_line_byte front) e, known_text front bytes (and_second (is_line_byte b) (list_all is_line_byte front) e) h)

-- a proof line
pub proof_is_text : (l : ProofLine) → IsText (proof_text l)
proof_is_text (in_line points) = known_text (codes "  in") (items_text point_text points) refl (items_are_text point_text point_is_text points)
proof_is_text (out_line terms) = known_text (codes "  out") (items_text term_text terms) refl (items_are_text term_text term_is_text terms)
proof_is_text (at_line p) = known_text (codes "  at ") (point_text p) refl (point_is_text p)
proof_is_text (apart_line terms) = known_text (codes "  apart") (items_text term_text terms) refl (items_are_text term_text term_is_text terms)
proof_is_text (drop_line h terms) = text_both (codes "  drop " ++ half_space_text h) (items_text term_text terms) (known_text (codes "  drop ") (half_space_text h) refl (half_space_is_text h)) (items_are_text term_text term_is_text terms)
proof_is_text (box_line b) = known_text (codes "  box ") (spaced (box_words one b)) refl (box_is_text b)

-- ---- labels

-- a letter
letter_byte : (b : ℕ) → is_letter b ≡ true → is_line_byte b ≡ true
letter_byte b e = grind arith

-- a byte of a name
name_byte : (b : ℕ) → is_name_byte b ≡ true → is_line_byte b ≡ true
name_byte b e = grind arith

-- several bytes of a name
names_bytes : (bs : List ℕ) → list_all is_name_byte bs ≡ true → IsText bs
names_bytes [] e = tt
names_bytes (b ∷ bs) e = (name_byte b (and_first (is_name_byte b) (list_all is_name_byte bs) e), names_bytes bs (and_second (is_name_byte b) (list_all is_name_byte bs) e))

-- a name
label_text : (x : Label) → Named x → IsText x
label_text [] e = tt
label_text (b ∷ bs) e =
    let two = and_first (is_letter b && list_all is_name_byte bs) _ e in
    (letter_byte b (and_first (is_letter b) _ two), names_bytes bs (and_second (is_letter b) _ two))

-- several names, each behind a space
labels_text : (xs : List Label) → AllByRecursion Named xs → IsText (items_text (λ y. y) xs)
labels_text [] h = tt
labels_text (x ∷ xs) h = text_both (space ∷ x) (items_text (λ y. y) xs) (refl, label_text x h.0) (labels_text xs h.1)

-- ---- verdict lines

-- the word of a fault
fault_is_text : (f : Fault) → IsText (fault_word f)
fault_is_text too_long = (refl, (refl, (refl, (refl, tt))))
fault_is_text bad_syntax = known_text (codes "syntax") [] refl tt
fault_is_text out_of_range = known_text (codes "range") [] refl tt
fault_is_text zero_half_space = known_text (codes "zero") [] refl tt
fault_is_text too_many_nodes = known_text (codes "nodes") [] refl tt

-- the words of a refusal
refusal_is_text : (r : Refusal) → IsOtherRefusal Named r → IsText (refusal_text r)
refusal_is_text (Refusal.bad f) h = fault_is_text f
refusal_is_text (Refusal.unknown x) h = known_text (codes "unknown ") x refl (label_text x h)
refusal_is_text (Refusal.known x) h = known_text (codes "known ") x refl (label_text x h)
refusal_is_text (Refusal.repeated x) h = known_text (codes "repeated ") x refl (label_text x h)
refusal_is_text (Refusal.layers x) h = known_text (codes "layers ") x refl (label_text x h)
refusal_is_text Refusal.same_name h = known_text (codes "same") [] refl tt
refusal_is_text Refusal.too_few h = known_text (codes "few") [] refl tt
refusal_is_text Refusal.empty h = known_text (codes "empty") [] refl tt
refusal_is_text Refusal.limit h = known_text (codes "limit") [] refl tt
refusal_is_text (Refusal.overlaps x) h = known_text (codes "overlaps ") x refl (label_text x h)
refusal_is_text (Refusal.empty_side k) h = known_text (codes "emptyside ") (decimal k) refl (decimal_text k)
refusal_is_text (Refusal.empty_child k) h = known_text (codes "emptychild ") (decimal k) refl (decimal_text k)
refusal_is_text (Refusal.outside_lot k) h = known_text (codes "outside ") (decimal k) refl (decimal_text k)
refusal_is_text (Refusal.children_overlap m n) h = text_both ((codes "childrenoverlap " ++ decimal m) ++ codes " ") (decimal n) (text_both (codes "childrenoverlap " ++ decimal m) (codes " ") (known_text (codes "childrenoverlap ") (decimal m) refl (decimal_text m)) (refl, tt)) (decimal_text n)
refusal_is_text Refusal.gap h = known_text (codes "gap") [] refl tt
refusal_is_text (Refusal.empty_region k) h = known_text (codes "emptyregion ") (decimal k) refl (decimal_text k)

-- the word of a relation
relation_is_text : (r : Relation) → IsText (relation_word r)
relation_is_text DC = known_text (codes "DC") [] refl tt
relation_is_text EC = known_text (codes "EC") [] refl tt
relation_is_text PO = known_text (codes "PO") [] refl tt
relation_is_text EQ = known_text (codes "EQ") [] refl tt
relation_is_text TPP = known_text (codes "TPP") [] refl tt
relation_is_text NTPP = known_text (codes "NTPP") [] refl tt
relation_is_text TPPi = known_text (codes "TPPi") [] refl tt
relation_is_text NTPPi = known_text (codes "NTPPi") [] refl tt

-- the end of a lot
end_is_text : (o : Option ℕ) → IsText (end_text o)
end_is_text None = known_text (codes " live") [] refl tt
end_is_text (Some m) = known_text (codes " ended ") (decimal m) refl (decimal_text m)

-- the origins of a lot
origins_is_text : (xs : List Label) → AllByRecursion Named xs → IsText (origins_text xs)
origins_is_text [] h = tt
origins_is_text (x ∷ xs) h = known_text (codes " from") (items_text (λ y. y) (x ∷ xs)) refl (labels_text (x ∷ xs) h)

-- a lot line
layer_is_text : (y : Label) → Named y → IsText (layer_text y)
layer_is_text y n = here (label_eq y base_layer)
  where
    here : (b : Bool) → IsText (elim b as (λ _. List ℕ) [ true ↦ [] | false ↦ codes " layer " ++ y ])
    here true = tt
    here false = known_text (codes " layer ") y refl (label_text y n)

lot_is_text : (l : LotEntry) → Named l.id → Named l.layer → AllByRecursion Named l.origins → IsText (lot_text l)
lot_is_text l n m o =
    text_both ((((codes "lot " ++ l.id) ++ codes " born ") ++ decimal l.born ++ end_text l.ended) ++ layer_text l.layer) (origins_text l.origins)
    (text_both (((codes "lot " ++ l.id) ++ codes " born ") ++ decimal l.born ++ end_text l.ended) (layer_text l.layer)
    (text_both (((codes "lot " ++ l.id) ++ codes " born ") ++ decimal l.born) (end_text l.ended)
    (text_both ((codes "lot " ++ l.id) ++ codes " born ") (decimal l.born) (text_both (codes "lot " ++ l.id) (codes " born ") (known_text (codes "lot ") l.id refl (label_text l.id n)) (known_text (codes " born ") [] refl tt)) (decimal_text l.born))
    (end_is_text l.ended)) (layer_is_text l.layer m)) (origins_is_text l.origins o)

-- a trace
trace_is_text : (t : Trace) → IsText (trace_text t)
trace_is_text t = parentheses_text (signed_decimal t.a ∷ signed_decimal t.b ∷ signed_decimal t.d ∷ []) (number_text t.a, (number_text t.b, (number_text t.d, tt)))

-- a step of a ring
step_is_text : (s : RingStep) → IsText (step_text s)
step_is_text s = text_both (trace_text s.edge ++ codes " ") (point_text s.end) (text_both (trace_text s.edge) (codes " ") (trace_is_text s.edge) (refl, tt)) (point_is_text s.end)

-- a slice
slice_is_text : (s : Slice) → IsText (slice_text s)
slice_is_text (ring steps) = known_text (codes "ring") (items_text step_text steps) refl (items_are_text step_text step_is_text steps)
slice_is_text (flat terms) = known_text (codes "flat") (items_text term_text terms) refl (items_are_text term_text term_is_text terms)

-- a verdict line
pub verdict_is_text : (v : Verdict) → IsVerdictProper Named v → IsText (verdict_text v)
verdict_is_text says_yes h = known_text (codes "= yes") [] refl tt
verdict_is_text says_no h = known_text (codes "= no") [] refl tt
verdict_is_text says_ok h = known_text (codes "= ok") [] refl tt
verdict_is_text (Verdict.relation r) h = known_text (codes "= ") (relation_word r) refl (relation_is_text r)
verdict_is_text (Verdict.pieces k) h = known_text (codes "= pieces ") (decimal k) refl (decimal_text k)
verdict_is_text (Verdict.piece ks) h = known_text (codes "= piece") (items_text decimal ks) refl (items_are_text decimal decimal_text ks)
verdict_is_text (Verdict.parts k) h = known_text (codes "= parts ") (decimal k) refl (decimal_text k)
verdict_is_text (Verdict.part hs) h = known_text (codes "= part") (items_text half_space_text hs) refl (items_are_text half_space_text half_space_is_text hs)
verdict_is_text (Verdict.parcel x) h = known_text (codes "= parcel ") x refl (label_text x h)
verdict_is_text Verdict.nobody h = known_text (codes "= nobody") [] refl tt
verdict_is_text (Verdict.neighbours k) h = known_text (codes "= neighbours ") (decimal k) refl (decimal_text k)
verdict_is_text (Verdict.clear k) h = known_text (codes "= clear ") (decimal k) refl (decimal_text k)
verdict_is_text (Verdict.parcels k) h = known_text (codes "= parcels ") (decimal k) refl (decimal_text k)
verdict_is_text (Verdict.lots k) h = known_text (codes "= lots ") (decimal k) refl (decimal_text k)
verdict_is_text (Verdict.lot l) h = known_text (codes "= ") (lot_text l) refl (lot_is_text l h.0 h.2 h.1)
verdict_is_text (Verdict.sections k) h = known_text (codes "= sections ") (decimal k) refl (decimal_text k)
verdict_is_text (Verdict.slice s) h = known_text (codes "= ") (slice_text s) refl (slice_is_text s)
verdict_is_text (Verdict.access k) h = known_text (codes "= access ") (decimal k) refl (decimal_text k)
verdict_is_text Verdict.no_access h = known_text (codes "= noaccess") [] refl tt
verdict_is_text (Verdict.level k x) h = text_both ((codes "= level " ++ decimal k) ++ codes " ") x (text_both (codes "= level " ++ decimal k) (codes " ") (known_text (codes "= level ") (decimal k) refl (decimal_text k)) (refl, tt)) (label_text x h)
verdict_is_text (refused r) h = known_text (codes "= refused ") (refusal_text r) refl (refusal_is_text r h)

-- ---- lines

-- a text as the test of a line
pub line_of_text : (bytes : List ℕ) → IsText bytes → list_all is_line_byte bytes ≡ true
line_of_text [] h = refl
line_of_text (b ∷ bytes) h = and_true (is_line_byte b) (list_all is_line_byte bytes) h.0 (line_of_text bytes h.1)

-- the verdict lines of a reply are lines
pub verdicts_are_lines : (vs : List Verdict) → AllByRecursion (IsVerdictProper Named) vs → AreLines (map verdict_text vs)
verdicts_are_lines [] h = tt
verdicts_are_lines (v ∷ vs) h = (line_of_text (verdict_text v) (verdict_is_text v h.0), verdicts_are_lines vs h.1)
