-- A line is read as a proof line exactly where it is the text of one that keeps its bounds.
use Rattle.std.proofs.Common.{◌≡◌, ℕ, Bool, true, ◌&&◌, ℤ, List, [], ◌∷◌, ◌++◌, Option, Some, None, refl, sym, ap, ◌∙◌, subst, arith, append_assoc, append-nil}
use Rattle.std.specs.Prelude.{codes, option_map, option_and_then}
use Rattle.std.specs.Fmt.{signed_decimal}
use Rattle.std.proofs.lemmas.Slice.Eq.{bytes_eq-Decides}
use Rattle.rp_algebra.proofs.Options.{none_not_some, same_some, some_if}
use Rattle.rp_algebra.proofs.Tests.{and_first, and_second, and_true}
use Rattle.rp_geometry.specs.Geometry.{RationalPoint, HalfSpace, IntegerBox, is_within_bound, cube_bound, is_box_in_bounds}
use Rattle.rp_geometry.specs.searches.ProofLine.{ProofLine, in_line, out_line, at_line, apart_line, drop_line, box_line}
use Rattle.rp_language.specs.Name.{label_eq}
use Rattle.rp_language.specs.Grammar.{space, spaced, Version, box_words}
use Rattle.rp_reports.specs.Text.{point_text, half_space_text, term_text, items_text, proof_text}
use Rattle.rp_reports.specs.ProofText.{is_written_point, is_written_half_space, is_written_multiple, are_written_terms, is_written, read_words, loose_words, if_spelled, proof_read}
use Rattle.rp_checker_completeness.proofs.ProofsAgain.{proof_again}
use Rattle.rp_text.specs.Readers.{Taker, ◌>>=◌, gives, gives_some, ended, behind, short_number, number_before, point, half_space, term, few_items, dropped, side_of, side, last_side, box_of, all_but_last, box_spelled, behind_or, proof}
use Rattle.rp_text.proofs.ReaderLaws.{ReadsExactly, steps, onward, kept_true, led, made, behind_sound, short_sound, short_complete, number_sound, number_complete, within_short, point_reads, half_space_reads, term_reads, few_sound, few_complete}

-- ---- boxes

-- a number of a box with a space behind it
abbrev side_text : ℤ → List ℕ
side_text v = signed_decimal v ++ codes " "

-- whether a number keeps the bounds of a box
abbrev is_side : ℤ → Bool
is_side v = is_within_bound cube_bound v

-- numbers of boxes are read
side_reads : ReadsExactly side_text is_side side
unfolding side
side_reads = record {
  sound = λ line x rest e.
      let s = steps (number_before space) (λ (v : ℤ). gives_some (side_of v)) line x rest e in
      let h = made (λ (y : ℤ). (y, s.between)) (side_of s.value) (x, rest) s.after in
      let k = some_if (is_side s.value) s.value h.0 h.1 in
      let is : s.value ≡ x = k.1 ∙ ap (λ (r : ℤ × List ℕ). r.0) h.2 in
      let behind_it : s.between ≡ rest = ap (λ (r : ℤ × List ℕ). r.1) h.2 in (
        (number_sound space line s.value s.between s.before).0 ∙ sym (append_assoc (signed_decimal s.value) (codes " ") s.between) ∙ (λ i. side_text (is i) ++ behind_it i),
        subst (λ (y : ℤ). is_side y ≡ true) is k.0,
      );
  complete = λ x rest e.
      ap (number_before space >>= next) (append_assoc (signed_decimal x) (codes " ") rest)
      ∙ onward (number_before space) next (signed_decimal x ++ (space ∷ rest)) x rest (number_complete space refl x rest (within_short 16777216 (omega arith) x e))
      ∙ ap (λ (o : Option ℤ). gives_some o rest) (kept_true (is_side x) x e);
}
  where
    next : ℤ → Taker ℤ
    next v = gives_some (side_of v)

-- the last number of a box
last_sound : (line : List ℕ) (v : ℤ) → last_side line ≡ Some v → (line ≡ signed_decimal v) × (is_side v ≡ true)
unfolding last_side
last_sound line v e =
    let l = led side_of (short_number line) v e in
    let k = some_if (is_side l.value) l.value v l.leads in
    ((short_sound line l.value l.found).0 ∙ ap signed_decimal k.1, subst (λ (y : ℤ). is_side y ≡ true) k.1 k.0)

-- it is read
last_complete : (v : ℤ) → is_side v ≡ true → last_side (signed_decimal v) ≡ Some v
unfolding last_side
last_complete v e = ap (option_and_then side_of) (short_complete v (within_short 16777216 (omega arith) v e)) ∙ kept_true (is_side v) v e

-- six words with spaces between them, from the front
six_text : (a b c d e f : List ℕ) → spaced (a ∷ b ∷ c ∷ d ∷ e ∷ f ∷ []) ≡ (a ++ codes " ") ++ ((b ++ codes " ") ++ ((c ++ codes " ") ++ ((d ++ codes " ") ++ ((e ++ codes " ") ++ f))))
six_text a b c d e f = simp append_assoc refl

-- behind four
abbrev fifth : ℤ → ℤ → ℤ → ℤ → Taker (ℤ → IntegerBox)
fifth x1 y1 z1 x2 = side >>= λ y2. gives (box_of x1 y1 z1 x2 y2)

-- behind three
abbrev fourth : ℤ → ℤ → ℤ → Taker (ℤ → IntegerBox)
fourth x1 y1 z1 = side >>= fifth x1 y1 z1

-- behind two
abbrev third : ℤ → ℤ → Taker (ℤ → IntegerBox)
third x1 y1 = side >>= fourth x1 y1

-- behind one
abbrev second : ℤ → Taker (ℤ → IntegerBox)
second x1 = side >>= third x1

-- a box that was read
box_sound : (line : List ℕ) (b : IntegerBox) → box_spelled line ≡ Some b → (line ≡ spaced (box_words Version.one b)) × (is_box_in_bounds b ≡ true)
unfolding box_spelled
box_sound line b e =
    let l = led (λ (r : (ℤ → IntegerBox) × List ℕ). option_map r.0 (last_side r.1)) (all_but_last line) b e in
    let m = made l.value.0 (last_side l.value.1) b l.leads in
    let s = steps side second line l.value.0 l.value.1 l.found in
    let t = steps side (third s.value) s.between l.value.0 l.value.1 s.after in
    let u = steps side (fourth s.value t.value) t.between l.value.0 l.value.1 t.after in
    let v = steps side (fifth s.value t.value u.value) u.between l.value.0 l.value.1 u.after in
    let w = steps side (λ (y2 : ℤ). gives (box_of s.value t.value u.value v.value y2)) v.between l.value.0 l.value.1 v.after in
    let same = same_some (box_of s.value t.value u.value v.value w.value, w.between) (l.value.0, l.value.1) w.after in
    let one = side_reads.sound line s.value s.between s.before in
    let two = side_reads.sound s.between t.value t.between t.before in
    let three = side_reads.sound t.between u.value u.between u.before in
    let four = side_reads.sound u.between v.value v.between v.before in
    let five = side_reads.sound v.between w.value w.between w.before in
    let six = last_sound l.value.1 m.0 m.1 in
    let is : box_of s.value t.value u.value v.value w.value m.0 ≡ b = ap (λ (r : (ℤ → IntegerBox) × List ℕ). r.0 m.0) same ∙ m.2 in
    let end : w.between ≡ signed_decimal m.0 = ap (λ (r : (ℤ → IntegerBox) × List ℕ). r.1) same ∙ six.0 in (
      one.0 ∙ ap (λ (r : List ℕ). side_text s.value ++ r) (two.0 ∙ ap (λ (r : List ℕ). side_text t.value ++ r) (three.0 ∙ ap (λ (r : List ℕ). side_text u.value ++ r) (four.0 ∙ ap (λ (r : List ℕ). side_text v.value ++ r) (five.0 ∙ ap (λ (r : List ℕ). side_text w.value ++ r) end))))
          ∙ sym (six_text (signed_decimal s.value) (signed_decimal t.value) (signed_decimal u.value) (signed_decimal v.value) (signed_decimal w.value) (signed_decimal m.0))
          ∙ ap (λ (c : IntegerBox). spaced (box_words Version.one c)) is,
      subst (λ (c : IntegerBox). is_box_in_bounds c ≡ true) is
          (and_true _ (is_side m.0) (and_true _ (is_side w.value) (and_true _ (is_side v.value) (and_true _ (is_side u.value) (and_true (is_side s.value) (is_side t.value) one.1 two.1) three.1) four.1) five.1) six.1),
    )

-- a box within its bounds is read
box_complete : (b : IntegerBox) → is_box_in_bounds b ≡ true → box_spelled (spaced (box_words Version.one b)) ≡ Some b
unfolding box_spelled
box_complete b e =
    let five = and_first _ (is_side b.z2) e in
    let four = and_first _ (is_side b.y2) five in
    let three = and_first _ (is_side b.x2) four in
    let two = and_first _ (is_side b.z1) three in
    let t5 : List ℕ = signed_decimal b.z2 in
    let t4 : List ℕ = side_text b.y2 ++ t5 in
    let t3 : List ℕ = side_text b.x2 ++ t4 in
    let t2 : List ℕ = side_text b.z1 ++ t3 in
    let t1 : List ℕ = side_text b.y1 ++ t2 in
    ap box_spelled (six_text (signed_decimal b.x1) (signed_decimal b.y1) (signed_decimal b.z1) (signed_decimal b.x2) (signed_decimal b.y2) (signed_decimal b.z2))
    ∙ ap (option_and_then (λ (r : (ℤ → IntegerBox) × List ℕ). option_map r.0 (last_side r.1)))
    (onward side second (side_text b.x1 ++ t1) b.x1 t1 (side_reads.complete b.x1 t1 (and_first (is_side b.x1) (is_side b.y1) two))
    ∙ onward side (third b.x1) t1 b.y1 t2 (side_reads.complete b.y1 t2 (and_second (is_side b.x1) (is_side b.y1) two))
    ∙ onward side (fourth b.x1 b.y1) t2 b.z1 t3 (side_reads.complete b.z1 t3 (and_second _ (is_side b.z1) three))
    ∙ onward side (fifth b.x1 b.y1 b.z1) t3 b.x2 t4 (side_reads.complete b.x2 t4 (and_second _ (is_side b.x2) four))
    ∙ onward side (λ (y2 : ℤ). gives (box_of b.x1 b.y1 b.z1 b.x2 y2)) t4 b.y2 t5 (side_reads.complete b.y2 t5 (and_second _ (is_side b.y2) five)))
    ∙ ap (option_map (box_of b.x1 b.y1 b.z1 b.x2 b.y2)) (last_complete b.z2 (and_second _ (is_side b.z2) e))

-- ---- what is read whole

-- a value that was read to the end of the text
ended_is : {A : Type 0} (o : Option (A × List ℕ)) (x : A) → ended o ≡ Some x → o ≡ Some (x, [])
ended_is {A} None x e = absurd (none_not_some x e)
ended_is {A} (Some r) x e = by r.1 refl e
  where
    by : (t : List ℕ) → r.1 ≡ t → elim t as (λ _. Option A) [ [] ↦ Some r.0 | b ∷ bs ↦ None ] ≡ Some x → Some r ≡ Some (x, [])
    by [] is e = let same = same_some r.0 x e in λ i. Some (same i, is i)
    by (b ∷ bs) is e = absurd (none_not_some x e)

-- a half-space and multiples that were read
dropped_sound : (line : List ℕ) (p : ProofLine) → dropped line ≡ Some p → (codes "  drop " ++ line ≡ proof_text p) × (is_written p ≡ true)
unfolding dropped is_written
dropped_sound line p e =
    let l = led (λ (r : HalfSpace × List ℕ). option_map (drop_line r.0) (few_items term r.1)) (half_space line) p e in
    let m = made (drop_line l.value.0) (few_items term l.value.1) p l.leads in
    let half = half_space_reads.sound line l.value.0 l.value.1 l.found in
    let terms = few_sound term_text is_written_multiple term term_reads l.value.1 m.0 m.1 in (
      ap (λ (t : List ℕ). codes "  drop " ++ t) (half.0 ∙ ap (λ (t : List ℕ). half_space_text l.value.0 ++ t) terms.0) ∙ ap proof_text m.2,
      subst (λ (q : ProofLine). is_written q ≡ true) m.2 (and_true (is_written_half_space l.value.0) (are_written_terms m.0) half.1 terms.1),
    )

-- ---- proof lines

-- the line is the text of a proof line that keeps its bounds
abbrev Spells : List ℕ → ProofLine → Type 0
Spells line p = (line ≡ proof_text p) × (is_written p ≡ true)

-- what was read behind a word, or else another way
pub word_or : {A : Type 0} (word line : List ℕ) (read : List ℕ → Option A) (other : Option A) (x : A) (P : Type 0) → behind_or word line read other ≡ Some x → ((rest : List ℕ) → line ≡ word ++ rest → read rest ≡ Some x → P) → (other ≡ Some x → P) → P
word_or {A} word line read other x P e found missed = by (behind word line) refl e
  where
    by : (o : Option (List ℕ)) → behind word line ≡ o → elim o as (λ _. Option A) [ Some rest ↦ read rest | None ↦ other ] ≡ Some x → P
    by (Some rest) is e = found rest (behind_sound word line rest is) e
    by None is e = missed e

-- one to four points that were read
in_sound : (line rest : List ℕ) (p : ProofLine) → line ≡ codes "  in" ++ rest → option_map in_line (few_items point rest) ≡ Some p → Spells line p
unfolding is_written
in_sound line rest p e f =
    let m = made in_line (few_items point rest) p f in
    let h = few_sound point_text is_written_point point point_reads rest m.0 m.1 in
    (e ∙ ap (λ (t : List ℕ). codes "  in" ++ t) h.0 ∙ ap proof_text m.2, subst (λ (q : ProofLine). is_written q ≡ true) m.2 h.1)

-- one to four multiples that were read
out_sound : (line rest : List ℕ) (p : ProofLine) → line ≡ codes "  out" ++ rest → option_map out_line (few_items term rest) ≡ Some p → Spells line p
unfolding is_written
out_sound line rest p e f =
    let m = made out_line (few_items term rest) p f in
    let h = few_sound term_text is_written_multiple term term_reads rest m.0 m.1 in
    (e ∙ ap (λ (t : List ℕ). codes "  out" ++ t) h.0 ∙ ap proof_text m.2, subst (λ (q : ProofLine). is_written q ≡ true) m.2 h.1)

-- the same of a weak system
apart_sound : (line rest : List ℕ) (p : ProofLine) → line ≡ codes "  apart" ++ rest → option_map apart_line (few_items term rest) ≡ Some p → Spells line p
unfolding is_written
apart_sound line rest p e f =
    let m = made apart_line (few_items term rest) p f in
    let h = few_sound term_text is_written_multiple term term_reads rest m.0 m.1 in
    (e ∙ ap (λ (t : List ℕ). codes "  apart" ++ t) h.0 ∙ ap proof_text m.2, subst (λ (q : ProofLine). is_written q ≡ true) m.2 h.1)

-- a point that was read
at_sound : (line rest : List ℕ) (p : ProofLine) → line ≡ codes "  at " ++ rest → option_map at_line (ended (point rest)) ≡ Some p → Spells line p
unfolding is_written
at_sound line rest p e f =
    let m = made at_line (ended (point rest)) p f in
    let h = point_reads.sound rest m.0 [] (ended_is (point rest) m.0 m.1) in
    (e ∙ ap (λ (t : List ℕ). codes "  at " ++ t) (h.0 ∙ append-nil (point_text m.0)) ∙ ap proof_text m.2, subst (λ (q : ProofLine). is_written q ≡ true) m.2 h.1)

-- a box that was read
box_line_sound : (line rest : List ℕ) (p : ProofLine) → line ≡ codes "  box " ++ rest → option_map box_line (box_spelled rest) ≡ Some p → Spells line p
unfolding is_written
box_line_sound line rest p e f =
    let m = made box_line (box_spelled rest) p f in
    let h = box_sound rest m.0 m.1 in
    (e ∙ ap (λ (t : List ℕ). codes "  box " ++ t) h.0 ∙ ap proof_text m.2, subst (λ (q : ProofLine). is_written q ≡ true) m.2 h.1)

-- a proof line that was read
proof_sound : (line : List ℕ) (p : ProofLine) → proof line ≡ Some p → Spells line p
unfolding proof
proof_sound line p e =
    word_or (codes "  in") line (λ (rest : List ℕ). option_map in_line (few_items point rest)) _ p (Spells line p) e (λ rest. in_sound line rest p) (λ e.
    word_or (codes "  out") line (λ (rest : List ℕ). option_map out_line (few_items term rest)) _ p (Spells line p) e (λ rest. out_sound line rest p) (λ e.
    word_or (codes "  at ") line (λ (rest : List ℕ). option_map at_line (ended (point rest))) _ p (Spells line p) e (λ rest. at_sound line rest p) (λ e.
    word_or (codes "  apart") line (λ (rest : List ℕ). option_map apart_line (few_items term rest)) _ p (Spells line p) e (λ rest. apart_sound line rest p) (λ e.
    word_or (codes "  drop ") line dropped _ p (Spells line p) e (λ rest is f. let h = dropped_sound rest p f in (is ∙ h.0, h.1)) (λ e.
    word_or (codes "  box ") line (λ (rest : List ℕ). option_map box_line (box_spelled rest)) None p (Spells line p) e (λ rest. box_line_sound line rest p) (λ e. absurd (none_not_some p e)))))))

-- the text of a proof line that keeps its bounds is read
proof_complete : (p : ProofLine) → is_written p ≡ true → proof (proof_text p) ≡ Some p
unfolding proof dropped is_written
proof_complete (in_line ps) e = ap (option_map in_line) (few_complete point_text is_written_point point point_reads ps e)
proof_complete (out_line ts) e = ap (option_map out_line) (few_complete term_text is_written_multiple term term_reads ts e)
proof_complete (at_line p) e = ap (λ (t : List ℕ). option_map at_line (ended (point t))) (sym (append-nil (point_text p))) ∙ ap (λ (o : Option (RationalPoint × List ℕ)). option_map at_line (ended o)) (point_reads.complete p [] e)
proof_complete (apart_line ts) e = ap (option_map apart_line) (few_complete term_text is_written_multiple term term_reads ts e)
proof_complete (drop_line h ts) e =
    ap (option_and_then (λ (r : HalfSpace × List ℕ). option_map (drop_line r.0) (few_items term r.1))) (half_space_reads.complete h (items_text term_text ts) (and_first (is_written_half_space h) (are_written_terms ts) e))
    ∙ ap (option_map (drop_line h)) (few_complete term_text is_written_multiple term term_reads ts (and_second (is_written_half_space h) (are_written_terms ts) e))
proof_complete (box_line b) e = ap (option_map box_line) (box_complete b e)

-- what the loose reader takes is a text that keeps its bounds
read_spells : (line : List ℕ) (p : ProofLine) → proof_read line ≡ Some p → Spells line p
unfolding proof_read
read_spells line p e = by (read_words (loose_words line)) e
  where
    by : (o : Option ProofLine) → option_and_then (if_spelled line) o ≡ Some p → Spells line p
    by None e = absurd (none_not_some p e)
    by (Some q) e =
        let h = some_if (is_written q && label_eq (proof_text q) line) q p e in
        let same : proof_text q ≡ line = (bytes_eq-Decides (proof_text q) line).0 (and_second (is_written q) (label_eq (proof_text q) line) h.0) in
        (sym same ∙ ap proof_text h.1, subst (λ (r : ProofLine). is_written r ≡ true) h.1 (and_first (is_written q) (label_eq (proof_text q) line) h.0))

-- the two readers read the same
pub proof_is_read : (line : List ℕ) → proof line ≡ proof_read line
proof_is_read line = by (proof line) (proof_read line) refl refl
  where
    by : (o r : Option ProofLine) → proof line ≡ o → proof_read line ≡ r → o ≡ r
    by None None f g = refl
    by (Some p) r f g = let h = proof_sound line p f in sym (proof_again p h.1) ∙ ap proof_read (sym h.0) ∙ g
    by None (Some p) f g = let h = read_spells line p g in sym f ∙ ap proof h.0 ∙ proof_complete p h.1
