-- The check over two lists of lines that begin alike: it comes to the same, as long as it reads what they share.
use Rattle.std.proofs.Common.{◌≡◌, ℕ, suc, ◌+◌, Bool, true, false, ◌||◌, ◌⊎◌, inl, inr, ⊎_elim, List, [], ◌∷◌, ◌++◌, length, drop, nat_le, Option, Some, None, refl, sym, ap, ◌∙◌, subst, arith}
use Rattle.std.specs.List.{AllByRecursion}
use Rattle.rp_geometry.specs.Geometry.{HalfSpace, complement, is_listed, box_half_spaces, cube_half_spaces}
use Rattle.rp_geometry.specs.sets.Shape.{Part}
use Rattle.rp_geometry.specs.searches.Certificate.{is_inside_certificate, is_weak_point, is_outside_certificate}
use Rattle.rp_geometry.specs.searches.ProofLine.{ProofLine, in_line, out_line, at_line, apart_line, drop_line, box_line}
use Rattle.rp_semantics.specs.Walk.{Stop, limit_met, limit_told, line_wrong, taken_wrong, Outcome, done, stopped, after_first, Walk, pass, stop, ◌>>=◌, most_tests}
use Rattle.rp_geometry.specs.parts.Parts.{most_half_spaces}
use Rattle.rp_reports.specs.ProofText.{proof_read}
use Rattle.rp_reports.specs.Check.{Trail, tells_limit, nothing_due, next_proof, taken, taken_if, follow_count, strict_by_line, follow_strict, weak_by_line, follow_weak, without, dropped_by, follow_drops, if_few, is_proper_box, box_by_line, side_by_line, follow_side, follow_sides, follow_made, part_if, follow_part, line_tester}
use Rattle.rp_parametricity.proofs.Likeness.{Anything, Likeness, MadeHas, Related, Audited}

-- ---- walks that read the next line as a proof line

-- the walk takes the next line if a test passes, or finds no line that is due
pub data Reads {A : Type 0} (Q : A → Type 0) : Walk Trail A → Type 0 where
  takes : (b : Bool) (x : A) → Q x → Reads Q (taken_if b x)
  due : Reads Q nothing_due

-- and so it does whatever stands next; where nothing stands there, none is due
pub record IsReader {A : Type 0} (Q : A → Type 0) (f : Option ProofLine → Walk Trail A) : Type 0 where
  pub each : (o : Option ProofLine) → Reads Q (f o)
  pub none : (t : Trail) → f None t ≡ nothing_due t

-- ---- the readers

-- what a strict test does with the next line
strict_reads : (cell : List HalfSpace) (o : Option ProofLine) → Reads Anything (strict_by_line cell o)
strict_reads cell None = due
strict_reads cell (Some (in_line points)) = takes (is_inside_certificate cell points) true tt
strict_reads cell (Some (out_line terms)) = takes (is_outside_certificate true cell terms) false tt
strict_reads cell (Some (at_line p)) = due
strict_reads cell (Some (apart_line terms)) = due
strict_reads cell (Some (drop_line h terms)) = due
strict_reads cell (Some (box_line b)) = due

-- a strict test reads the next line
pub strict_reader : (cell : List HalfSpace) → IsReader Anything (strict_by_line cell)
strict_reader cell = record { each = strict_reads cell; none = λ t. refl }

-- what a weak test does with it
weak_reads : (cell : List HalfSpace) (o : Option ProofLine) → Reads Anything (weak_by_line cell o)
weak_reads cell None = due
weak_reads cell (Some (in_line points)) = due
weak_reads cell (Some (out_line terms)) = due
weak_reads cell (Some (at_line p)) = takes (is_weak_point cell p) true tt
weak_reads cell (Some (apart_line terms)) = takes (is_outside_certificate false cell terms) false tt
weak_reads cell (Some (drop_line h terms)) = due
weak_reads cell (Some (box_line b)) = due

-- a weak test reads the next line
pub weak_reader : (cell : List HalfSpace) → IsReader Anything (weak_by_line cell)
weak_reader cell = record { each = weak_reads cell; none = λ t. refl }

-- what is done with a box line
box_reads : (o : Option ProofLine) → Reads Anything (box_by_line o)
box_reads None = due
box_reads (Some (in_line points)) = due
box_reads (Some (out_line terms)) = due
box_reads (Some (at_line p)) = due
box_reads (Some (apart_line terms)) = due
box_reads (Some (drop_line h terms)) = due
box_reads (Some (box_line b)) = takes (is_proper_box b) b tt

-- a box line is read
pub box_reader : IsReader Anything box_by_line
box_reader = record { each = box_reads; none = λ t. refl }

-- what is done with the line of a side
side_reads : (kept : List HalfSpace) (side : HalfSpace) (o : Option ProofLine) → Reads Anything (side_by_line kept side o)
side_reads kept side None = due
side_reads kept side (Some (in_line points)) = due
side_reads kept side (Some (out_line terms)) = takes (is_outside_certificate true (kept ++ complement side ∷ []) terms) tt tt
side_reads kept side (Some (at_line p)) = due
side_reads kept side (Some (apart_line terms)) = due
side_reads kept side (Some (drop_line h terms)) = due
side_reads kept side (Some (box_line b)) = due

-- the line of a side is read
pub side_reader : (kept : List HalfSpace) (side : HalfSpace) → IsReader Anything (side_by_line kept side)
side_reader kept side = record { each = side_reads kept side; none = λ t. refl }

-- ---- trails of which something is known for good

-- what a walk comes to keeps what is known
abbrev pub StaysLost : {A : Type 0} → (Trail → Type 0) → (Stop → Trail → Type 0) → (A → Type 0) → Outcome Trail A → Type 0
StaysLost Lost LostStop Q (done x t) = Q x × Lost t
StaysLost Lost LostStop Q (stopped s t) = LostStop s t

-- what a test of an audit comes to keeps it, also where something is found
abbrev pub FoundStays : (Trail → Type 0) → (Stop → Trail → Type 0) → Outcome Trail Bool → Type 0
FoundStays Lost LostStop (done b t) = Lost t × (b ≡ true → LostStop taken_wrong t)
FoundStays Lost LostStop (stopped s t) = LostStop s t

-- what is known of a trail, and of one where a walk is stopped: known where the number is reached with these lines ahead, and kept by each test
pub record Knowledge (number : ℕ) (ahead : List (List ℕ)) : Type 1 where
  pub Lost : Trail → Type 0
  pub LostStop : Stop → Trail → Type 0
  pub enters : (t : Trail) → t.number ≡ number → t.lines ≡ ahead → Lost t
  pub counted : (t : Trail) (n : ℕ) → Lost t → Lost (record { lines = t.lines; number = t.number; tests = n })
  pub met : (t : Trail) → Lost t → LostStop limit_met t
  pub reads : {A : Type 0} (Q : A → Type 0) (f : Option ProofLine → Walk Trail A) → IsReader Q f → (t : Trail) → Lost t → StaysLost Lost LostStop Q (f (next_proof t.lines) t)
  pub found : (cell : List HalfSpace) (t : Trail) → Lost t → FoundStays Lost LostStop (strict_by_line cell (next_proof t.lines) t)
  pub drops : (kept : List HalfSpace) (t : Trail) → Lost t → StaysLost Lost LostStop Anything (follow_drops t.lines kept t)

-- ---- the relation

module _ (number : ℕ) (one two : List (List ℕ)) (known : Knowledge number two) where
  -- some lines are shared, and then come the two lists
  pub record Near (t u : Trail) : Type 0 where
    pub line : List ℕ
    pub shared : List (List ℕ)
    pub first : t.lines ≡ line ∷ shared ++ one
    pub second : u.lines ≡ line ∷ shared ++ two
    pub numbers : t.number ≡ u.number
    pub tests : t.tests ≡ u.tests
    pub place : u.number + suc (length shared) ≡ number

  -- the shared lines are all taken
  pub record Ended (t u : Trail) : Type 0 where
    pub numbers : t.number ≡ u.number
    pub place : u.number ≡ number
    pub lines : u.lines ≡ two

  -- a stop near each other, or at a line that was the last one shared
  abbrev pub StopNear : Stop → Trail → Trail → Type 0
  StopNear taken_wrong t u = Near t u ⊎ Ended t u
  StopNear _ t u = Near t u

  -- what the second walk comes to keeps what is known
  abbrev pub IsLost : {A : Type 0} → (A → Type 0) → Outcome Trail A → Type 0
  IsLost Q o = StaysLost known.Lost known.LostStop Q o

  -- the same result or the same stop, near each other
  abbrev pub SameOutcome : {A : Type 0} → (A → Type 0) → Outcome Trail A → Outcome Trail A → Type 0
  SameOutcome Q (done x t) (done y u) = (x ≡ y) × Q x × Near t u
  SameOutcome Q (stopped s t) (stopped z u) = (s ≡ z) × StopNear s t u
  SameOutcome Q (done x t) (stopped z u) = ⊥
  SameOutcome Q (stopped s t) (done y u) = ⊥

  -- or the second one is where something is known for good
  abbrev pub Pair : {A : Type 0} → (A → Type 0) → Outcome Trail A → Outcome Trail A → Type 0
  Pair Q o p = IsLost Q p ⊎ SameOutcome Q o p

  -- two walks come to the same near each other, and the second one keeps what is known
  pub record Beside {A : Type 0} (Q : A → Type 0) (m k : Walk Trail A) : Type 0 where
    pub near : (t u : Trail) → Near t u → Pair Q (m t) (k u)
    pub lost : (u : Trail) → known.Lost u → IsLost Q (k u)

  -- one after the other
  lost_then : {A B : Type 0} (P : A → Type 0) (Q : B → Type 0) (next other : A → Walk Trail B) → ((x : A) → P x → Beside Q (next x) (other x)) → (p : Outcome Trail A) → IsLost P p → IsLost Q (after_first other p)
  lost_then P Q next other g (done y u) l = (g y l.0).lost u l.1
  lost_then P Q next other g (stopped z u) l = l

  -- near each other, one walk after the other
  near_then : {A B : Type 0} (P : A → Type 0) (Q : B → Type 0) (next other : A → Walk Trail B) → ((x : A) → P x → Beside Q (next x) (other x)) → (o p : Outcome Trail A) → SameOutcome P o p → Pair Q (after_first next o) (after_first other p)
  near_then P Q next other g (done x t) (done y u) s = subst (λ z. Pair Q (next x t) (other z u)) s.0 ((g x s.1).near t u s.2)
  near_then P Q next other g (stopped e t) (stopped z u) s = inr s
  near_then P Q next other g (done x t) (stopped z u) s = absurd s
  near_then P Q next other g (stopped e t) (done y u) s = absurd s

  -- one walk after the other
  pub beside_then : {A B : Type 0} (P : A → Type 0) (Q : B → Type 0) (first second : Walk Trail A) (next other : A → Walk Trail B) → Beside P first second → ((x : A) → P x → Beside Q (next x) (other x)) → Beside Q (first >>= next) (second >>= other)
  beside_then P Q first second next other h g = record {
    near = λ t u n. ⊎_elim (λ l. inl (lost_then P Q next other g (second u) l)) (near_then P Q next other g (first t) (second u)) (h.near t u n);
    lost = λ u l. lost_then P Q next other g (second u) (h.lost u l);
  }

  -- a walk that makes no test
  pub beside_pass : {A : Type 0} (Q : A → Type 0) (x : A) → Q x → Beside Q (pass x) (pass x)
  beside_pass Q x q = record { near = λ t u n. inr (refl, q, n); lost = λ u l. (q, l) }

  -- a limit that is met
  pub beside_limit : {A : Type 0} (Q : A → Type 0) → Beside Q (stop limit_met) (stop limit_met)
  beside_limit Q = record { near = λ t u n. inr (refl, n); lost = λ u l. known.met u l }

  -- walks that are the same by computation
  unfoldable pub besides : Likeness Trail Trail
  besides = record {
    Alike = λ Q m k. Beside Q m k;
    passes = λ Q x q. beside_pass Q x q;
    limits = λ Q. beside_limit Q;
    binds = λ P Q first second next other h g. beside_then P Q first second next other h g;
  }

  -- ---- lines

  -- the next line is taken on both sides
  pub step : (t u : Trail) → Near t u → Near (taken t) (taken u) ⊎ Ended (taken t) (taken u)
  step t u n = here n.shared n.first n.second n.place
    where
      here : (shared : List (List ℕ)) → t.lines ≡ n.line ∷ shared ++ one → u.lines ≡ n.line ∷ shared ++ two → u.number + suc (length shared) ≡ number → Near (taken t) (taken u) ⊎ Ended (taken t) (taken u)
      here [] e f p = inr (record { numbers = ap (λ k. k + 1) n.numbers; place = p; lines = ap (drop 1) f })
      here (l ∷ ls) e f p = inl (record { line = l; shared = ls; first = ap (drop 1) e; second = ap (drop 1) f; numbers = ap (λ k. k + 1) n.numbers; tests = n.tests; place = omega (arith, p) })

  -- something is known where the shared lines are all taken
  pub ended_lost : (t u : Trail) → Ended t u → known.Lost u
  ended_lost t u e = known.enters u e.place e.lines

  -- the next line is taken on both sides: near each other still, or something is known
  pub advance : (t u : Trail) → Near t u → Near (taken t) (taken u) ⊎ known.Lost (taken u)
  advance t u n = ⊎_elim inl (λ e. inr (ended_lost (taken t) (taken u) e)) (step t u n)

  -- both tell of a limit, or neither
  pub tell_alike : (t u : Trail) → Near t u → tells_limit t.lines ≡ tells_limit u.lines
  tell_alike t u n = ap tells_limit n.first ∙ sym (ap tells_limit n.second)

  -- the next line is taken if a test passes
  pub taken_near : {A : Type 0} (Q : A → Type 0) (b : Bool) (x : A) → Q x → (t u : Trail) → Near t u → Pair Q (taken_if b x t) (taken_if b x u)
  taken_near Q true x q t u n = ⊎_elim (λ m. inr (refl, q, m)) (λ l. inl (q, l)) (advance t u n)
  taken_near Q false x q t u n = inr (refl, n)

  -- no line that is due
  pub due_near : {A : Type 0} (Q : A → Type 0) (t u : Trail) → Near t u → Pair Q (nothing_due {A = A} t) (nothing_due {A = A} u)
  due_near {A} Q t u n = subst (λ b. Pair Q (elim b as (λ _. Outcome Trail A) [ true ↦ stopped limit_told t | false ↦ stopped line_wrong t ]) (nothing_due {A = A} u)) (sym (tell_alike t u n)) (here (tells_limit u.lines))
    where
      here : (b : Bool) → Pair Q (elim b as (λ _. Outcome Trail A) [ true ↦ stopped limit_told t | false ↦ stopped line_wrong t ]) (elim b as (λ _. Outcome Trail A) [ true ↦ stopped limit_told u | false ↦ stopped line_wrong u ])
      here true = inr (refl, n)
      here false = inr (refl, n)

  -- a walk that does one of the two
  reads_near : {A : Type 0} (Q : A → Type 0) (m : Walk Trail A) → Reads Q m → (t u : Trail) → Near t u → Pair Q (m t) (m u)
  reads_near Q m (takes b x q) t u n = taken_near Q b x q t u n
  reads_near Q m due t u n = due_near Q t u n

  -- a walk that reads the next line
  pub beside_reader : {A : Type 0} (Q : A → Type 0) (f : Option ProofLine → Walk Trail A) → IsReader Q f → Beside Q (λ t. f (next_proof t.lines) t) (λ t. f (next_proof t.lines) t)
  beside_reader Q f r = record {
    near = λ t u n. subst (λ o. Pair Q (f o t) (f (next_proof u.lines) u)) (sym (ap next_proof n.first ∙ sym (ap next_proof n.second))) (reads_near Q (f (next_proof u.lines)) (r.each (next_proof u.lines)) t u n);
    lost = λ u l. known.reads Q f r u l;
  }

  -- ---- tests

  -- a test decides between two walks
  beside_either : {A : Type 0} (Q : A → Type 0) (b : Bool) (m n k l : Walk Trail A) → Beside Q m k → Beside Q n l → Beside Q (elim b [ true ↦ m | false ↦ n ]) (elim b [ true ↦ k | false ↦ l ])
  beside_either Q true m n k l h g = h
  beside_either Q false m n k l h g = g

  -- tests are counted
  pub beside_count : (n : ℕ) → Beside Anything (follow_count n) (follow_count n)
  beside_count n = record {
    near = λ t u m. subst (λ k. Pair Anything (elim (nat_le (k + n) most_tests) as (λ _. Outcome Trail (Unit {0})) [ true ↦ done tt (record { lines = t.lines; number = t.number; tests = k + n }) | false ↦ stopped limit_met t ]) (follow_count n u)) (sym m.tests) (here t u m (nat_le (u.tests + n) most_tests));
    lost = λ u l. known_here u l (nat_le (u.tests + n) most_tests);
  }
    where
      here : (t u : Trail) → Near t u → (b : Bool) → Pair Anything (elim b as (λ _. Outcome Trail (Unit {0})) [ true ↦ done tt (record { lines = t.lines; number = t.number; tests = u.tests + n }) | false ↦ stopped limit_met t ]) (elim b as (λ _. Outcome Trail (Unit {0})) [ true ↦ done tt (record { lines = u.lines; number = u.number; tests = u.tests + n }) | false ↦ stopped limit_met u ])
      here t u m true = inr (refl, tt, record { line = m.line; shared = m.shared; first = m.first; second = m.second; numbers = m.numbers; tests = refl; place = m.place })
      here t u m false = inr (refl, m)

      known_here : (u : Trail) → known.Lost u → (b : Bool) → IsLost Anything (elim b as (λ _. Outcome Trail (Unit {0})) [ true ↦ done tt (record { lines = u.lines; number = u.number; tests = u.tests + n }) | false ↦ stopped limit_met u ])
      known_here u l true = (tt, known.counted u (u.tests + n) l)
      known_here u l false = known.met u l

  -- a strict test
  pub beside_strict : (cell : List HalfSpace) → Beside Anything (follow_strict cell) (follow_strict cell)
  unfolding follow_strict
  beside_strict cell = beside_reader Anything (strict_by_line cell) (strict_reader cell)

  -- a weak test
  pub beside_weak : (cell : List HalfSpace) → Beside Anything (follow_weak cell) (follow_weak cell)
  unfolding follow_weak
  beside_weak cell = beside_reader Anything (weak_by_line cell) (weak_reader cell)

  -- what drops is dropped on both sides
  abbrev DropsAlike : List (List ℕ) → List (List ℕ) → List HalfSpace → Trail → Trail → Type 0
  DropsAlike ls ks kept t u = Pair Anything (follow_drops ls kept t) (follow_drops ks kept u)

  -- the next line drops on both sides or on neither
  drop_near : (line : List ℕ) (ls ks : List (List ℕ)) (kept : List HalfSpace) (t u : Trail) → Near t u → ((h : HalfSpace) → DropsAlike ls ks (without h kept) (taken t) (taken u)) → DropsAlike (line ∷ ls) (line ∷ ks) kept t u
  drop_near line ls ks kept t u n rest = here (dropped_by kept (proof_read line))
    where
      here : (o : Option HalfSpace) → Pair Anything (elim o as (λ _. Outcome Trail (List HalfSpace)) [ Some h ↦ follow_drops ls (without h kept) (taken t) | None ↦ done kept t ]) (elim o as (λ _. Outcome Trail (List HalfSpace)) [ Some h ↦ follow_drops ks (without h kept) (taken u) | None ↦ done kept u ])
      here None = inr (refl, tt, n)
      here (Some h) = rest h

  -- lines that drop, as far as they are shared
  drops_near : (shared : List (List ℕ)) (line : List ℕ) (kept : List HalfSpace) (t u : Trail) → t.lines ≡ line ∷ shared ++ one → u.lines ≡ line ∷ shared ++ two → t.number ≡ u.number → t.tests ≡ u.tests → u.number + suc (length shared) ≡ number → DropsAlike (line ∷ shared ++ one) (line ∷ shared ++ two) kept t u
  drops_near [] line kept t u e f m k p =
      drop_near line one two kept t u (record { line = line; shared = []; first = e; second = f; numbers = m; tests = k; place = p })
      (λ h. inl (subst (λ ls. IsLost Anything (follow_drops ls (without h kept) (taken u))) (ap (drop 1) f) (known.drops (without h kept) (taken u) (known.enters (taken u) p (ap (drop 1) f)))))
  drops_near (l ∷ shared) line kept t u e f m k p =
      drop_near line (l ∷ shared ++ one) (l ∷ shared ++ two) kept t u (record { line = line; shared = l ∷ shared; first = e; second = f; numbers = m; tests = k; place = p })
      (λ h. drops_near shared l (without h kept) (taken t) (taken u) (ap (drop 1) e) (ap (drop 1) f) (ap (λ i. i + 1) m) k (omega (arith, p)))

  -- lines that drop
  pub beside_drops : (kept : List HalfSpace) → Beside Anything (λ t. follow_drops t.lines kept t) (λ t. follow_drops t.lines kept t)
  beside_drops kept = record {
    near = λ t u n. subst (λ ls. Pair Anything (follow_drops ls kept t) (follow_drops u.lines kept u)) (sym n.first)
        (subst (λ ks. DropsAlike (n.line ∷ n.shared ++ one) ks kept t u) (sym n.second) (drops_near n.shared n.line kept t u n.first n.second n.numbers n.tests n.place));
    lost = λ u l. known.drops kept u l;
  }

  -- what is kept must be few
  few_beside : (kept : List HalfSpace) → Beside Anything (if_few kept) (if_few kept)
  few_beside kept = beside_either Anything (nat_le (length kept) most_half_spaces) _ _ _ _ (beside_pass Anything tt tt) (beside_limit Anything)

  -- the line of a side
  side_beside : (kept : List HalfSpace) (side : HalfSpace) → Beside Anything (follow_side kept side) (follow_side kept side)
  side_beside kept side = record {
    near = λ t u n. (here (is_listed side kept || is_listed side cube_half_spaces)).near t u n;
    lost = λ u l. (here (is_listed side kept || is_listed side cube_half_spaces)).lost u l;
  }
    where
      here : (b : Bool) → Beside Anything (λ t. elim b as (λ _. Outcome Trail (Unit {0})) [ true ↦ done tt t | false ↦ side_by_line kept side (next_proof t.lines) t ]) (λ t. elim b as (λ _. Outcome Trail (Unit {0})) [ true ↦ done tt t | false ↦ side_by_line kept side (next_proof t.lines) t ])
      here true = beside_pass Anything tt tt
      here false = beside_reader Anything (side_by_line kept side) (side_reader kept side)

  -- the lines of the sides
  sides_beside : (kept sides : List HalfSpace) → Beside Anything (follow_sides kept sides) (follow_sides kept sides)
  sides_beside kept [] = beside_pass Anything tt tt
  sides_beside kept (side ∷ sides) = beside_then Anything Anything _ _ _ _ (side_beside kept side) λ _ _. sides_beside kept sides

  -- nothing is asked of the half-spaces of a part
  abbrev SomePart : Option Part → Type 0
  SomePart o = MadeHas (λ _. Unit {0}) o

  -- nothing is asked of half-spaces
  pub nothing_asked : (cell : List HalfSpace) → AllByRecursion (λ (_ : HalfSpace). Unit {0}) cell
  nothing_asked [] = tt
  nothing_asked (h ∷ cell) = (tt, nothing_asked cell)

  -- the part of a cell that has a member
  made_beside : (cell : List HalfSpace) → Beside SomePart (follow_made cell) (follow_made cell)
  made_beside cell =
      beside_then Anything SomePart _ _ _ _ (beside_drops cell) λ kept _.
      beside_then Anything SomePart _ _ _ _ (few_beside kept) λ _ _.
      beside_then Anything SomePart _ _ _ _ (beside_reader Anything box_by_line box_reader) λ b _.
      beside_then Anything SomePart _ _ _ _ (sides_beside kept (box_half_spaces b)) λ _ _.
      beside_pass SomePart (Some (record { cell = kept; bounds = b })) (nothing_asked kept, tt)

  -- a part test
  pub beside_part : (cell : List HalfSpace) → Beside SomePart (follow_part cell) (follow_part cell)
  unfolding follow_part
  beside_part cell = beside_then Anything SomePart _ _ _ _ (beside_strict cell) λ inside _. here inside
    where
      here : (b : Bool) → Beside SomePart (part_if b cell) (part_if b cell)
      here true = made_beside cell
      here false = beside_pass SomePart None tt

  -- ---- the check's testers

  -- the check answers alike on both sides
  pub related_beside : Related besides (λ _. Unit {0}) line_tester line_tester
  unfolding besides
  related_beside = record {
    outside = λ h _. tt;
    count = beside_count;
    strict = λ cell _. beside_strict cell;
    weak = λ cell _. beside_weak cell;
    part = λ cell _. beside_part cell;
  }

  -- ---- audits

  -- the same answer near each other or where the shared lines end, or the same stop
  abbrev pub SameFound : Outcome Trail Bool → Outcome Trail Bool → Type 0
  SameFound (done b t) (done c u) = (b ≡ c) × (Near t u ⊎ Ended t u)
  SameFound (stopped s t) (stopped z u) = (s ≡ z) × StopNear s t u
  SameFound (done b t) (stopped z u) = ⊥
  SameFound (stopped s t) (done c u) = ⊥

  -- what a test of an audit comes to keeps what is known
  abbrev pub FoundLost : Outcome Trail Bool → Type 0
  FoundLost o = FoundStays known.Lost known.LostStop o

  -- two tests of an audit find the same, or something is known
  pub record BesideFound (m k : Walk Trail Bool) : Type 0 where
    pub near : (t u : Trail) → Near t u → FoundLost (k u) ⊎ SameFound (m t) (k u)
    pub lost : (u : Trail) → known.Lost u → FoundLost (k u)

  -- a pair that is not tested
  found_none : BesideFound (pass false) (pass false)
  found_none = record { near = λ t u n. inr (refl, inl n); lost = λ u l. (l, λ e. absurd (cc)) }

  -- the next pair, where nothing was found
  lost_next : (n l : Walk Trail Bool) → BesideFound n l → (p : Outcome Trail Bool) → FoundLost p → FoundLost (after_first (λ found. elim found as (λ _. Walk Trail Bool) [ true ↦ pass true | false ↦ l ]) p)
  lost_next n l g (done true u) h = h
  lost_next n l g (done false u) h = g.lost u h.0
  lost_next n l g (stopped z u) h = h

  -- near each other, the next pair where nothing was found
  near_next : (n l : Walk Trail Bool) → BesideFound n l → (o p : Outcome Trail Bool) → SameFound o p → FoundLost (after_first (λ found. elim found as (λ _. Walk Trail Bool) [ true ↦ pass true | false ↦ l ]) p)
      ⊎ SameFound (after_first (λ found. elim found as (λ _. Walk Trail Bool) [ true ↦ pass true | false ↦ n ]) o) (after_first (λ found. elim found as (λ _. Walk Trail Bool) [ true ↦ pass true | false ↦ l ]) p)
  near_next n l g (done true t) (done true u) h = inr (refl, h.1)
  near_next n l g (done false t) (done false u) h = ⊎_elim (λ m. g.near t u m) (λ e. inl (g.lost u (ended_lost t u e))) h.1
  near_next n l g (done true t) (done false u) h = absurd (not_both h.0)
    where
      not_both : true ≡ false → ⊥
      not_both e = cc
  near_next n l g (done false t) (done true u) h = absurd (not_both h.0)
    where
      not_both : false ≡ true → ⊥
      not_both e = cc
  near_next n l g (stopped s t) (stopped z u) h = inr h
  near_next n l g (done b t) (stopped z u) h = absurd h
  near_next n l g (stopped s t) (done c u) h = absurd h

  -- the end of an audit where something was found
  lost_ends : {A : Type 0} (Q : A → Type 0) (n l : Walk Trail A) → Beside Q n l → (p : Outcome Trail Bool) → FoundLost p → IsLost Q (after_first (λ found. elim found as (λ _. Walk Trail A) [ true ↦ stop taken_wrong | false ↦ l ]) p)
  lost_ends Q n l g (done true u) h = h.1 refl
  lost_ends Q n l g (done false u) h = g.lost u h.0
  lost_ends Q n l g (stopped z u) h = h

  -- near each other, the end where something was found
  near_ends : {A : Type 0} (Q : A → Type 0) (n l : Walk Trail A) → Beside Q n l → (o p : Outcome Trail Bool) → SameFound o p
      → Pair Q (after_first (λ found. elim found as (λ _. Walk Trail A) [ true ↦ stop taken_wrong | false ↦ n ]) o) (after_first (λ found. elim found as (λ _. Walk Trail A) [ true ↦ stop taken_wrong | false ↦ l ]) p)
  near_ends Q n l g (done true t) (done true u) h = inr (refl, h.1)
  near_ends Q n l g (done false t) (done false u) h = ⊎_elim (λ m. g.near t u m) (λ e. inl (g.lost u (ended_lost t u e))) h.1
  near_ends Q n l g (done true t) (done false u) h = absurd (not_both h.0)
    where
      not_both : true ≡ false → ⊥
      not_both e = cc
  near_ends Q n l g (done false t) (done true u) h = absurd (not_both h.0)
    where
      not_both : false ≡ true → ⊥
      not_both e = cc
  near_ends Q n l g (stopped s t) (stopped z u) h = inr h
  near_ends Q n l g (done b t) (stopped z u) h = absurd h
  near_ends Q n l g (stopped s t) (done c u) h = absurd h

  -- a strict test finds the same
  strict_near : (m : Walk Trail Bool) → Reads Anything m → (t u : Trail) → Near t u → FoundLost (m u) ⊎ SameFound (m t) (m u)
  strict_near m (takes true x q) t u n = inr (refl, step t u n)
  strict_near m (takes false x q) t u n = inr (refl, n)
  strict_near m due t u n = here (tells_limit t.lines) (tells_limit u.lines) (tell_alike t u n)
    where
      here : (b c : Bool) → b ≡ c → FoundLost (elim c as (λ _. Outcome Trail Bool) [ true ↦ stopped limit_told u | false ↦ stopped line_wrong u ]) ⊎ SameFound (elim b as (λ _. Outcome Trail Bool) [ true ↦ stopped limit_told t | false ↦ stopped line_wrong t ]) (elim c as (λ _. Outcome Trail Bool) [ true ↦ stopped limit_told u | false ↦ stopped line_wrong u ])
      here true true e = inr (refl, n)
      here false false e = inr (refl, n)
      here true false e = absurd (cc)
      here false true e = absurd (cc)

  -- a strict test of an audit
  found_strict : (cell : List HalfSpace) → BesideFound (follow_strict cell) (follow_strict cell)
  unfolding follow_strict
  found_strict cell = record {
    near = λ t u n. subst (λ o. FoundLost (strict_by_line cell (next_proof u.lines) u) ⊎ SameFound (strict_by_line cell o t) (strict_by_line cell (next_proof u.lines) u)) (sym (ap next_proof n.first ∙ sym (ap next_proof n.second))) (strict_near (strict_by_line cell (next_proof u.lines)) ((strict_reader cell).each (next_proof u.lines)) t u n);
    lost = λ u l. known.found cell u l;
  }

  -- the check answers alike on both sides in an audit
  pub audited_beside : Audited besides (λ _. Unit {0}) line_tester line_tester
  unfolding besides
  audited_beside = record {
    Found = λ m k. BesideFound m k;
    none = found_none;
    next = λ m n k l h g. record {
      near = λ t u e. ⊎_elim (λ p. inl (lost_next n l g (k u) p)) (λ p. near_next n l g (m t) (k u) p) (h.near t u e);
      lost = λ u e. lost_next n l g (k u) (h.lost u e);
    };
    ends = λ Q m k n l h g. record {
      near = λ t u e. ⊎_elim (λ p. inl (lost_ends Q n l g (k u) p)) (λ p. near_ends Q n l g (m t) (k u) p) (h.near t u e);
      lost = λ u e. lost_ends Q n l g (k u) (h.lost u e);
    };
    count = beside_count;
    strict = λ cell _. found_strict cell;
  }
