-- What an index has under each id, while boxes are put in, put in the place of others and taken out.
use Rattle.std.proofs.Common.{◌≡◌, ◌≢◌, ℕ, zero, suc, ◌+◌, ◌-◌, ◌*◌, ◌/◌, ◌%◌, ◌<◌, ◌≤◌, Bool, true, false, cond, List, [], ◌∷◌, ◌++◌, ◌⊎◌, ⊎_elim, length, Option, Some, None, is_some, slice_get, refl, sym, ap, ap₂, ◌∙◌, subst, arith}
use Rattle.std.specs.Prelude.{option_map}
use Rattle.std.specs.FinMap.{get, contains_key, insert, remove, get-insert, get-remove}
use Rattle.std.specs.Ordering.{nat_cmp, eq_by_cmp}
use Rattle.std.specs.Cmp.{nat_cmp_total}
use Rattle.std.proofs.lemmas.Bool.{cases_lt}
use Rattle.std.proofs.lemmas.Bool.Decides.{nat_tests}
use Rattle.std.proofs.lemmas.Option.{slice_get_past}
use Rattle.rp_algebra.proofs.Lists.{get_left, get_some}
use Rattle.rp_algebra.proofs.Numbers.{same_or_not}
use Rattle.rp_geometry.specs.Geometry.{IntegerBox}
use Rattle.rp_space.specs.declared.bounds.IntBox.{IntBox}
use Rattle.rp_space.specs.Boxes.{integer_box}
use Rattle.rp_boxindex.specs.Boxes.{Boxes}
use Rattle.rp_boxindex.proofs.Known.{none_of}
use Rattle.rp_lotindex.specs.Indexed.{box_at, box_in, box_among, NoneBehind, ArePut, StaySame, IsTakenOut, IsSettled}

-- ---- one box put in or taken out

-- a number is the key of itself
same_key : (n : ℕ) → eq_by_cmp nat_cmp n n ≡ true
same_key n = grind (arith, nat_tests)

-- and of no other
other_key : (q n : ℕ) → q ≢ n → eq_by_cmp nat_cmp q n ≡ false
other_key q n h = grind (arith, nat_tests)

module _ (m : Boxes) (n : ℕ) where
  -- the box that is put in is under its id
  put_here : (b : IntBox) → box_at (insert m n b) n ≡ Some (integer_box b)
  put_here b = ap (option_map integer_box) (get-insert nat_cmp_total m n b n ∙ ap (λ t. cond t (Some b) (get m n)) (same_key n))

  -- other ids stay
  put_apart : (b : IntBox) (q : ℕ) → q ≢ n → box_at (insert m n b) q ≡ box_at m q
  put_apart b q h = ap (option_map integer_box) (get-insert nat_cmp_total m n b q ∙ ap (λ t. cond t (Some b) (get m q)) (other_key q n h))

  -- no box is under an id from which it is taken out
  pub taken_here : box_at (remove m n) n ≡ None
  taken_here = ap (option_map integer_box) (get-remove nat_cmp_total m n n ∙ ap (λ t. cond t None (get m n)) (same_key n))

  -- other ids stay
  pub taken_apart : (q : ℕ) → q ≢ n → box_at (remove m n) q ≡ box_at m q
  taken_apart q h = ap (option_map integer_box) (get-remove nat_cmp_total m n q ∙ ap (λ t. cond t None (get m q)) (other_key q n h))

-- an id without a box isn't known
pub not_known : (m : Boxes) (n : ℕ) → box_at m n ≡ None → contains_key m n ≡ false
not_known m n h = none (get m n) h
  where
    none : (o : Option IntBox) → option_map integer_box o ≡ None → is_some o ≡ false
    none None f = refl
    none (Some b) f = absurd (cc)

-- an id with a box is known
known : (m : Boxes) (n : ℕ) → is_some (box_at m n) ≡ true → contains_key m n ≡ true
known m n h = some (get m n) h
  where
    some : (o : Option IntBox) → is_some (option_map integer_box o) ≡ true → is_some o ≡ true
    some None f = absurd (cc)
    some (Some b) f = refl

-- ---- boxes put in the place of others

-- an id, where it has a box, has another one, and every other id has what it had
record IsChanged (old new : Boxes) (n : ℕ) (b : IntegerBox) : Type 0 where
  here : is_some (box_at old n) ≡ true → box_at new n ≡ Some b
  rest : (id : ℕ) → id ≢ n → box_at new id ≡ box_at old id

-- a box put in the place of another, where there is one
put_instead : (old new : Boxes) (n : ℕ) (b : IntBox) (there : Bool) → there ≡ contains_key old n → (there ≡ true → new ≡ insert old n b) → (there ≡ false → new ≡ old) → IsChanged old new n (integer_box b)
put_instead old new n b true e changed stays = record {
  here = λ h. ap (λ (m : Boxes). box_at m n) (changed refl) ∙ put_here old n b;
  rest = λ k f. ap (λ (m : Boxes). box_at m k) (changed refl) ∙ put_apart old n b k f;
}
put_instead old new n b false e changed stays = record {
  here = λ h. absurd (let f : false ≡ true = e ∙ known old n h in cc (f));
  rest = λ k f. ap (λ (m : Boxes). box_at m k) (stays refl);
}

-- so many boxes of a place are put in the place of others
pub record AreChanged (old new : Boxes) (p n : ℕ) (bs : List IntegerBox) : Type 0 where
  pub here : (d : ℕ) → d < n → is_some (box_at old (p * 16 + d)) ≡ true → box_at new (p * 16 + d) ≡ slice_get bs d
  pub rest : (id : ℕ) → ((d : ℕ) → d < n → id ≢ p * 16 + d) → box_at new id ≡ box_at old id

-- at first none
pub changed_first : (m : Boxes) (p : ℕ) (bs : List IntegerBox) → AreChanged m m p 0 bs
changed_first m p bs = record { here = λ d f. absurd (omega (arith, f)); rest = λ id f. refl }

-- one more
pub changed_next : (old m new : Boxes) (p n k : ℕ) (bs : List IntegerBox) (b : IntBox) (there : Bool) → AreChanged old m p n bs → k ≡ p * 16 + n → there ≡ contains_key m k → (there ≡ true → new ≡ insert m k b) → (there ≡ false → new ≡ m) → slice_get bs n ≡ Some (integer_box b) → AreChanged old new p (n + 1) bs
changed_next old m new p n k bs b there h at e changed stays own =
    let one = put_instead m new k b there e changed stays in
    record {
      here = λ d f has. ⊎_elim
          (λ (same : d ≡ n).
          let own_id : p * 16 + d ≡ k = omega (arith, same, at) in
          let before = h.rest (p * 16 + d) (λ j g q. absurd (omega (arith, same, g, q))) in
          ap (box_at new) own_id ∙ one.here (ap (λ (i : ℕ). is_some (box_at m i)) (sym own_id) ∙ ap is_some before ∙ has) ∙ sym own ∙ sym (ap (slice_get bs) same))
          (λ (other : d ≢ n). one.rest (p * 16 + d) (λ q. other (omega (arith, q, at))) ∙ h.here d (omega (arith, f, other)) has)
          (same_or_not d n);
      rest = λ id f. one.rest id (λ q. f n (omega arith) (q ∙ at)) ∙ h.rest id (λ d g. f d (omega (arith, g)));
    }

-- all of them
pub changed_all : (old new : Boxes) (p n : ℕ) (bs : List IntegerBox) → AreChanged old new p n bs → n ≡ length bs → n ≤ 16 → IsSettled old new p bs
changed_all old new p n bs h all few = record {
  here = λ id own same.
      let at : p * 16 + id % 16 ≡ id = omega (arith, own) in
      ⊎_elim
      (λ (f : id % 16 < n).
      let item = get_some bs (id % 16) (omega (arith, f, all)) in
      ap (box_at new) (sym at) ∙ h.here (id % 16) f (ap (λ (i : ℕ). is_some (box_at old i)) at ∙ same ∙ ap is_some item.1))
      (λ (f : n ≤ id % 16).
      let past = slice_get_past bs (id % 16) (omega (arith, f, all)) in
      h.rest id (λ d g q. absurd (omega (arith, f, g, q, own))) ∙ none_of (box_at old id) (same ∙ ap is_some past) ∙ sym past)
      (cases_lt (id % 16) n);
  rest = λ id f. h.rest id (λ d g q. f (omega (arith, g, q, few)));
}

-- ---- the boxes of places

-- an item of the second list
get_right : {A : Type 0} (xs ys : List A) (k d : ℕ) → k ≡ length xs + d → slice_get (xs ++ ys) k ≡ slice_get ys d
get_right [] ys k d e = let f : k ≡ d = omega (arith, e) in ap (slice_get ys) f
get_right (x ∷ xs) ys zero d e = absurd (omega (arith, e))
get_right (x ∷ xs) ys (suc k) d e = get_right xs ys k d (omega (arith, e))

-- behind the last place there are none
pub among_past : (lists : List (List IntegerBox)) (id : ℕ) → length lists * 16 ≤ id → box_among lists id ≡ None
among_past lists id f = ap (λ (o : Option (List IntegerBox)). box_in o (id % 16)) (slice_get_past lists (id / 16) (omega (arith, f)))

-- the box of an id of the first places
among_left : (xs ys : List (List IntegerBox)) (id : ℕ) → id < length xs * 16 → box_among (xs ++ ys) id ≡ box_among xs id
among_left xs ys id f = ap (λ (o : Option (List IntegerBox)). box_in o (id % 16)) (get_left xs ys (id / 16) (omega (arith, f)))

-- and of one behind them
pub among_right : (xs ys : List (List IntegerBox)) (id d : ℕ) → id ≡ length xs * 16 + d → box_among (xs ++ ys) id ≡ box_among ys d
among_right xs ys id d e =
    let same : id % 16 ≡ d % 16 = omega (arith, e) in
    ap₂ box_in (get_right xs ys (id / 16) (d / 16) (omega (arith, e))) same

-- the boxes of one place
pub among_one : (bs : List IntegerBox) (d : ℕ) → d < 16 → box_among (bs ∷ []) d ≡ slice_get bs d
among_one bs d f =
    let first : d / 16 ≡ 0 = omega (arith, f) in
    let own : d % 16 ≡ d = omega (arith, f) in
    ap₂ (λ (i j : ℕ). box_in (slice_get (bs ∷ []) i) j) first own

-- a place without boxes
among_none : (d : ℕ) → box_among ([] ∷ []) d ≡ None
among_none d = by (d / 16)
  where
    by : (n : ℕ) → box_in (slice_get ([] ∷ []) n) (d % 16) ≡ None
    by zero = refl
    by (suc n) = refl

-- ---- boxes put in, one behind the other

-- the last item of a longer list
pub last_at : {A : Type 0} (xs : List A) (x : A) (d : ℕ) → d ≡ length xs → slice_get (xs ++ x ∷ []) d ≡ Some x
last_at [] x zero e = refl
last_at [] x (suc d) e = absurd (omega (arith, e))
last_at (y ∷ xs) x zero e = absurd (omega (arith, e))
last_at (y ∷ xs) x (suc d) e = last_at xs x d (omega (arith, e))

-- and its others
pub last_apart : {A : Type 0} (xs : List A) (x : A) (d : ℕ) → d ≢ length xs → slice_get (xs ++ x ∷ []) d ≡ slice_get xs d
last_apart [] x zero n = absurd (n (omega arith))
last_apart [] x (suc d) n = refl
last_apart (y ∷ xs) x zero n = refl
last_apart (y ∷ xs) x (suc d) n = last_apart xs x d (λ e. n (omega (arith, e)))

-- the boxes of a place with one more are the same under every other id
one_more_among : (bs : List IntegerBox) (b : IntegerBox) (d : ℕ) → length bs < 16 → d ≢ length bs → box_among ((bs ++ b ∷ []) ∷ []) d ≡ box_among (bs ∷ []) d
one_more_among bs b d few other = by (d / 16) refl
  where
    by : (n : ℕ) → d / 16 ≡ n → box_in (slice_get ((bs ++ b ∷ []) ∷ []) n) (d % 16) ≡ box_in (slice_get (bs ∷ []) n) (d % 16)
    by zero e = last_apart bs b (d % 16) (λ f. other (omega (arith, e, f, few)))
    by (suc n) e = refl

-- at first no places
pub put_first : (m : Boxes) (k : ℕ) → NoneBehind m k → ArePut m m k []
put_first m k h = record { here = λ d. h (k * 16 + d) (omega arith); rest = λ g f. refl }

-- a place at first without boxes
pub put_none : (m : Boxes) (k : ℕ) → NoneBehind m k → ArePut m m k ([] ∷ [])
put_none m k h = record { here = λ d. h (k * 16 + d) (omega arith) ∙ sym (among_none d); rest = λ g f. refl }

-- one more
pub put_next : (old m new : Boxes) (p n : ℕ) (bs cs : List IntegerBox) (b : IntBox) → ArePut old m p (bs ∷ []) → n ≡ p * 16 + length bs → length bs < 16 → new ≡ insert m n b → cs ≡ bs ++ integer_box b ∷ [] → ArePut old new p (cs ∷ [])
put_next old m new p n bs cs b h at few is all = record {
  here = λ d. by d (same_or_not d (length bs)) ∙ sym (ap (λ (ds : List IntegerBox). box_among (ds ∷ []) d) all);
  rest = λ g f. apart g (λ e. absurd (omega (arith, e, at, f))) ∙ h.rest g f;
}
  where
    apart : (g : ℕ) → g ≢ n → box_at new g ≡ box_at m g
    apart g f = ap (λ (x : Boxes). box_at x g) is ∙ put_apart m n b g f

    by : (d : ℕ) → (d ≡ length bs) ⊎ (d ≢ length bs) → box_at new (p * 16 + d) ≡ box_among ((bs ++ integer_box b ∷ []) ∷ []) d
    by d c = ⊎_elim
        (λ e.
        let own : p * 16 + d ≡ n = omega (arith, e, at) in
        ap (box_at new) own ∙ ap (λ (x : Boxes). box_at x n) is ∙ put_here m n b ∙ sym (among_one (bs ++ integer_box b ∷ []) d (omega (arith, e, few)) ∙ last_at bs (integer_box b) d e))
        (λ f. apart (p * 16 + d) (λ e. f (omega (arith, e, at))) ∙ h.here d ∙ sym (one_more_among bs (integer_box b) d few f))
        c

-- places behind places
pub put_both : (old m new : Boxes) (k n : ℕ) (xs ys : List (List IntegerBox)) → ArePut old m k xs → n ≡ k + length xs → ArePut m new n ys → ArePut old new k (xs ++ ys)
put_both old m new k n xs ys h at more = record {
  here = λ d. ⊎_elim
      (λ (f : d < length xs * 16). more.rest (k * 16 + d) (omega (arith, f, at)) ∙ h.here d ∙ sym (among_left xs ys d f))
      (λ (f : length xs * 16 ≤ d).
      let e : ℕ = d - length xs * 16 in
      let own : n * 16 + e ≡ k * 16 + d = omega (arith, f, at) in
      ap (box_at new) (sym own) ∙ more.here e ∙ sym (among_right xs ys d e (omega (arith, f))))
      (cases_lt d (length xs * 16));
  rest = λ g f. more.rest g (omega (arith, f, at)) ∙ h.rest g f;
}

-- behind the last there are none
pub none_behind_put : (old m : Boxes) (k n : ℕ) (lists : List (List IntegerBox)) → ArePut old m k lists → n ≡ k + length lists → NoneBehind m n
none_behind_put old m k n lists h e g f =
    let at : k * 16 + (g - k * 16) ≡ g = omega (arith, e, f) in
    subst (λ (i : ℕ). box_at m i ≡ None) at (h.here (g - k * 16) ∙ among_past lists (g - k * 16) (omega (arith, e, f)))

-- ---- boxes taken out

-- the boxes from an id on are taken out, up to another one
pub record AreTaken (old new : Boxes) (k p : ℕ) : Type 0 where
  pub gone : (g : ℕ) → k ≤ g → g < p → box_at new g ≡ None
  pub left : (g : ℕ) → p ≤ g → box_at new g ≡ box_at old g
  pub rest : (g : ℕ) → g < k → box_at new g ≡ box_at old g

-- one more
pub taken_next : (old m new : Boxes) (k p : ℕ) → AreTaken old m k p → k ≤ p → new ≡ remove m p → AreTaken old new k (p + 1)
taken_next old m new k p h up is = record {
  gone = λ g e f. ⊎_elim
      (λ same. ap (box_at new) same ∙ ap (λ (x : Boxes). box_at x p) is ∙ taken_here m p)
      (λ n. apart g n ∙ h.gone g e (omega (arith, f, n)))
      (same_or_not g p);
  left = λ g f. apart g (λ e. absurd (omega (arith, e, f))) ∙ h.left g (omega (arith, f));
  rest = λ g f. apart g (λ e. absurd (omega (arith, e, f, up))) ∙ h.rest g f;
}
  where
    apart : (g : ℕ) → g ≢ p → box_at new g ≡ box_at m g
    apart g n = ap (λ (x : Boxes). box_at x g) is ∙ taken_apart m p g n

-- all of a place
pub taken_out : (old new : Boxes) (k p : ℕ) → AreTaken old new (k * 16) p → p ≡ (k + 1) * 16 → IsTakenOut old new k
taken_out old new k p h far = record {
  gone = λ g own. h.gone g (omega (arith, own)) (omega (arith, own, far));
  rest = λ g other. ⊎_elim (λ f. h.rest g f) (λ f. h.left g (omega (arith, f, far, other))) (cases_lt g (k * 16));
}

-- ---- boxes put in and taken out again

-- the boxes of one place were put in and taken out again
pub put_out : (old m new : Boxes) (k : ℕ) (bs : List IntegerBox) → NoneBehind old k → ArePut old m k (bs ∷ []) → IsTakenOut m new k → StaySame old new
put_out old m new k bs none put taken g = ⊎_elim
    (λ (f : g < k * 16). taken.rest g (λ e. absurd (omega (arith, e, f))) ∙ put.rest g f)
    (λ (f : k * 16 ≤ g). ⊎_elim
    (λ (e : g / 16 ≡ k). taken.gone g e ∙ sym (none g f))
    (λ (e : g / 16 ≢ k). taken.rest g e ∙ none_behind_put old m k (k + 1) (bs ∷ []) put (omega arith) g (omega (arith, e, f)) ∙ sym (none g f))
    (same_or_not (g / 16) k))
    (cases_lt g (k * 16))
