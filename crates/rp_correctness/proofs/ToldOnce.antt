-- Report lines can be told as answers in one way only: each line shows by its first byte what it is, and an echo is split at its first space.
use Rattle.std.proofs.Common.{◌≡◌, ℕ, ◌≤◌, true, ◌⊎◌, inl, inr, ⊎_elim, List, [], ◌∷◌, ◌++◌, map, Option, Some, None, refl, sym, ap, ◌∙◌, subst, arith, append_assoc}
use Rattle.std.specs.Prelude.{codes}
use Rattle.std.specs.List.{flat_map, AllByRecursion}
use Rattle.std.specs.Char.{is_ascii_digit}
use Rattle.std.specs.Fmt.{decimal}
use Rattle.std.proofs.lemmas.Fmt.{decimal_injective}
use Rattle.rp_algebra.proofs.Listed.{all_append, list_all_is}
use Rattle.rp_geometry.specs.sections.Slice.{ring, flat}
use Rattle.rp_language.specs.Grammar.{space}
use Rattle.rp_geometry.specs.searches.ProofLine.{ProofLine, in_line, out_line, at_line, apart_line, drop_line, box_line}
use Rattle.rp_model.specs.commands.Verdict.{Verdict, says_yes, says_no, says_ok, refused}
use Rattle.rp_reports.specs.Text.{proof_text, verdict_text, echo_text}
use Rattle.rp_reports.specs.TrueReport.{ToldAnswer, told_echo, told_lines}
use Rattle.rp_reports.specs.laws.CheckLaws.{bytes_told, ReportsAreToldOnce}
use Rattle.rp_correctness.proofs.Echoed.{decimal_is_digits}

-- ---- a list is split at the first item of another kind

-- the first item, if there is one
abbrev Heads : {A : Type 0} → (A → Type 0) → List A → Type 0
Heads Q [] = Unit {0}
Heads Q (x ∷ xs) = Q x

-- equal lists have equal first items and equal rests
same_parts : {A : Type 0} (x y : A) (xs ys : List A) → x ∷ xs ≡ y ∷ ys → (x ≡ y) × (xs ≡ ys)
same_parts x y xs ys e = (cc, cc)

-- items of one kind, and then none or one of another kind first
split_once : {A : Type 0} (P Q : A → Type 0) → ((x : A) → P x → Q x → ⊥) → (xs ys us vs : List A) → AllByRecursion P xs → AllByRecursion P ys → Heads Q us → Heads Q vs → xs ++ us ≡ ys ++ vs → (xs ≡ ys) × (us ≡ vs)
split_once P Q apart [] [] us vs p q h g e = (refl, e)
split_once P Q apart [] (y ∷ ys) [] vs p q h g e = absurd (cc)
split_once P Q apart [] (y ∷ ys) (u ∷ us) vs p q h g e = absurd (apart y q.0 (subst Q (same_parts u y us (ys ++ vs) e).0 h))
split_once P Q apart (x ∷ xs) [] us [] p q h g e = absurd (cc)
split_once P Q apart (x ∷ xs) [] us (v ∷ vs) p q h g e = absurd (apart x p.0 (subst Q (sym (same_parts x v (xs ++ us) vs e).0) g))
split_once {A = A} P Q apart (x ∷ xs) (y ∷ ys) us vs p q h g e =
    let both = same_parts x y (xs ++ us) (ys ++ vs) e in
    let rest = split_once P Q apart xs ys us vs p.1 q.1 h g both.1 in
    ((λ i. both.0 i ∷ rest.0 i), rest.1)

-- ---- lines

-- the line begins with the byte
abbrev Begins : ℕ → List ℕ → Type 0
Begins b [] = ⊥
Begins b (c ∷ cs) = c ≡ b

-- a line does not begin with two bytes
not_both : (b c : ℕ) → (b ≡ c → ⊥) → (line : List ℕ) → Begins b line → Begins c line → ⊥
not_both b c other [] h g = h
not_both b c other (d ∷ ds) h g = other (sym h ∙ g)

-- a proof line begins with a space
proof_begins : (p : ProofLine) → Begins 32 (proof_text p)
proof_begins (in_line points) = refl
proof_begins (out_line terms) = refl
proof_begins (at_line p) = refl
proof_begins (apart_line terms) = refl
proof_begins (drop_line h terms) = refl
proof_begins (box_line b) = refl

-- a verdict line begins with an equals sign
verdict_begins : (v : Verdict) → Begins 61 (verdict_text v)
verdict_begins says_yes = refl
verdict_begins says_no = refl
verdict_begins says_ok = refl
verdict_begins (Verdict.relation r) = refl
verdict_begins (Verdict.pieces k) = refl
verdict_begins (Verdict.piece ks) = refl
verdict_begins (Verdict.parts k) = refl
verdict_begins (Verdict.part hs) = refl
verdict_begins (Verdict.parcel x) = refl
verdict_begins Verdict.nobody = refl
verdict_begins (Verdict.neighbours k) = refl
verdict_begins (Verdict.clear k) = refl
verdict_begins (Verdict.parcels k) = refl
verdict_begins (Verdict.lots k) = refl
verdict_begins (Verdict.lot l) = refl
verdict_begins (Verdict.sections k) = refl
verdict_begins (Verdict.slice (ring steps)) = refl
verdict_begins (Verdict.slice (flat terms)) = refl
verdict_begins (Verdict.access k) = refl
verdict_begins Verdict.no_access = refl
verdict_begins (Verdict.level k x) = refl
verdict_begins (refused r) = refl

-- an echo begins with its mark
echo_begins : (n : ℕ) (text : List ℕ) → Begins 62 (echo_text n text)
echo_begins n [] = refl
echo_begins n (b ∷ bs) = refl

-- what is true of all images
all_images : {A B : Type 0} (P : B → Type 0) (f : A → B) → ((x : A) → P (f x)) → (xs : List A) → AllByRecursion P (map f xs)
all_images P f each [] = tt
all_images P f each (x ∷ xs) = (each x, all_images P f each xs)

-- and of the first one
head_image : {A B : Type 0} (Q : B → Type 0) (f : A → B) → ((x : A) → Q (f x)) → (xs : List A) → Heads Q (map f xs)
head_image Q f each [] = tt
head_image Q f each (x ∷ xs) = each x

-- proof lines and verdict lines are told apart
body_once : (ps qs : List ProofLine) (vs ws : List Verdict) → map proof_text ps ++ map verdict_text vs ≡ map proof_text qs ++ map verdict_text ws → (map proof_text ps ≡ map proof_text qs) × (map verdict_text vs ≡ map verdict_text ws)
body_once ps qs vs ws e =
    split_once (Begins 32) (Begins 61) (not_both 32 61 (λ f. omega arith)) (map proof_text ps) (map proof_text qs) (map verdict_text vs) (map verdict_text ws)
    (all_images (Begins 32) proof_text proof_begins ps) (all_images (Begins 32) proof_text proof_begins qs) (head_image (Begins 61) verdict_text verdict_begins vs) (head_image (Begins 61) verdict_text verdict_begins ws) e

-- ---- an echo

-- what stands behind the number
abbrev behind : List ℕ → List ℕ
behind [] = []
behind (b ∷ bs) = space ∷ b ∷ bs

-- an echo is its mark, its number and what stands behind
echo_form : (n : ℕ) (text : List ℕ) → echo_text n text ≡ codes "> " ++ (decimal n ++ behind text)
echo_form n [] = ap (λ (ls : List ℕ). codes "> " ++ ls) (sym (append_nothing (decimal n)))
  where
    append_nothing : (xs : List ℕ) → xs ++ [] ≡ xs
    append_nothing [] = refl
    append_nothing (x ∷ xs) = ap (λ (ys : List ℕ). x ∷ ys) (append_nothing xs)
echo_form n (b ∷ bs) = ap (λ (ls : List ℕ). codes "> " ++ ls) (append_assoc (decimal n) (space ∷ []) (b ∷ bs))

-- what stands behind the number begins with a space
behind_begins : (text : List ℕ) → Heads (λ b. b ≡ space) (behind text)
behind_begins [] = tt
behind_begins (b ∷ bs) = refl

-- and tells the text
behind_once : (text other : List ℕ) → behind text ≡ behind other → text ≡ other
behind_once [] [] e = refl
behind_once [] (c ∷ cs) e = absurd (cc)
behind_once (b ∷ bs) [] e = absurd (cc)
behind_once (b ∷ bs) (c ∷ cs) e = (same_parts space space (b ∷ bs) (c ∷ cs) e).1

-- a digit is no space
digit_no_space : (d : ℕ) → is_ascii_digit d ≡ true → d ≡ space → ⊥
digit_no_space d e f = grind arith

-- the digits of a number
digits_of : (n : ℕ) → n ≤ 16777216 → AllByRecursion (λ d. is_ascii_digit d ≡ true) (decimal n)
digits_of n le = list_all_is is_ascii_digit (λ d. is_ascii_digit d ≡ true) (λ d e. e) (decimal n) (decimal_is_digits n (omega arith))

-- an echo tells its number and its text
pub echo_once : (n m : ℕ) (text other : List ℕ) → n ≤ 16777216 → m ≤ 16777216 → echo_text n text ≡ echo_text m other → (n ≡ m) × (text ≡ other)
echo_once n m text other small little e =
    let whole = sym (echo_form n text) ∙ e ∙ echo_form m other in
    let rest : decimal n ++ behind text ≡ decimal m ++ behind other = (same_parts 32 32 _ _ (same_parts 62 62 _ _ whole).1).1 in
    let both = split_once (λ d. is_ascii_digit d ≡ true) (λ d. d ≡ space) digit_no_space (decimal n) (decimal m) (behind text) (behind other) (digits_of n small) (digits_of m little) (behind_begins text) (behind_begins other) rest in
    (decimal_injective n m (omega arith) (omega arith) both.0, behind_once text other both.1)

-- an answer's echo is that of its bytes
told_bytes : (n : ℕ) (text : Option (List ℕ)) → told_echo n text ≡ echo_text n (bytes_told text)
told_bytes n None = refl
told_bytes n (Some text) = refl

-- ---- answers

-- a line of an answer behind its echo
abbrev IsBody : List ℕ → Type 0
IsBody line = Begins 32 line ⊎ Begins 61 line

-- a line of a body is no echo
body_no_echo : (line : List ℕ) → IsBody line → Begins 62 line → ⊥
body_no_echo line h g = ⊎_elim (λ k. not_both 32 62 (λ f. omega arith) line k g) (λ k. not_both 61 62 (λ f. omega arith) line k g) h

-- the lines of an answer behind its echo
abbrev body : ToldAnswer → List (List ℕ)
body a = map proof_text a.proofs ++ map verdict_text a.verdicts

-- the lines behind an echo are a body
body_is : (a : ToldAnswer) → AllByRecursion IsBody (body a)
body_is a = all_append IsBody (map proof_text a.proofs) (map verdict_text a.verdicts) (all_images IsBody proof_text (λ p. inl (proof_begins p)) a.proofs) (all_images IsBody verdict_text (λ v. inr (verdict_begins v)) a.verdicts)

-- further answers begin with an echo
further_begin : (told : List ToldAnswer) → Heads (Begins 62) (flat_map told_lines told)
further_begin [] = tt
further_begin (a ∷ told) = subst (Begins 62) (sym (told_bytes a.number a.text)) (echo_begins a.number (bytes_told a.text))

-- lines are told in one way
pub reports_are_told_once_spec : ReportsAreToldOnce
reports_are_told_once_spec [] [] small little e = tt
reports_are_told_once_spec [] (b ∷ other) small little e = absurd (cc)
reports_are_told_once_spec (a ∷ told) [] small little e = absurd (cc)
reports_are_told_once_spec (a ∷ told) (b ∷ other) small little e =
    let first = same_parts (told_echo a.number a.text) (told_echo b.number b.text) (body a ++ flat_map told_lines told) (body b ++ flat_map told_lines other) e in
    let echo = echo_once a.number b.number (bytes_told a.text) (bytes_told b.text) small.0 little.0 (sym (told_bytes a.number a.text) ∙ first.0 ∙ told_bytes b.number b.text) in
    let rest = split_once IsBody (Begins 62) body_no_echo (body a) (body b) (flat_map told_lines told) (flat_map told_lines other) (body_is a) (body_is b) (further_begin told) (further_begin other) first.1 in
    let lines = body_once a.proofs b.proofs a.verdicts b.verdicts rest.0 in
    (record { number = echo.0; text = echo.1; proofs = lines.0; verdicts = lines.1 }, reports_are_told_once_spec told other small.1 little.1 rest.1)
