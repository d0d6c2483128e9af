-- Two numbers are linked to each other by appending each to the list of the other.
use Rattle.std.proofs.Common.{◌≡◌, ℕ, zero, suc, ◌<◌, ◌^◌, ◌⊎◌, inl, inr, ⊎_elim, List, [], ◌∷◌, ◌++◌, length, replicate, get_or-set_same, get_or-set_other, refl, sym, ap, ◌∙◌, subst, arith}
use Rattle.std.specs.Prelude.{slice_index_or, slice_set}
use Rattle.std.specs.List.{Contains}
use Rattle.std.proofs.Math.ListN.{length-set}
use Rattle.std.proofs.lemmas.List.{get_or_default, set-get_or, get_or-replicate, length-replicate}
use Rattle.std.proofs.lemmas.List.Elements.{Contains-push, Contains-push_cases, Contains-append_left}
use Rattle.rp_algebra.proofs.Numbers.{same_or_not}
use Rattle.rp_access.specs.Chain.{linked_to, IsLinked, AreLinks, AreJoined}

-- what is not below the count has no link
pub link_below : (g : List (List ℕ)) (i j : ℕ) → IsLinked g i j → i < length g
link_below [] i j (k, h, e) = absurd (omega arith)
link_below (x ∷ g) zero j l = omega arith
link_below (x ∷ g) (suc i) j l = let h : i < length g = link_below g i j l in omega arith

module _ (g : List (List ℕ)) (a b : ℕ) (x : List ℕ) (below : a < length g) (is : x ≡ linked_to g a ++ b ∷ []) where
  -- the lists with one number more for a
  abbrev more : List (List ℕ)
  more = slice_set g a x

  -- the list of a
  at_a : linked_to more a ≡ linked_to g a ++ b ∷ []
  at_a = get_or-set_same g a x [] below ∙ is

  -- a new link is an old one, or that of a and b
  new_link : (i j : ℕ) → IsLinked more i j → IsLinked g i j ⊎ ((i ≡ a) × (j ≡ b))
  new_link i j link =
      ⊎_elim
      (λ same. ⊎_elim
      (λ c. inl (subst (λ v. IsLinked g v j) (sym same) c))
      (λ e. inr (same, sym e))
      (Contains-push_cases (linked_to g a) b j (subst (λ v. Contains v j) (ap (linked_to more) same ∙ at_a) link)))
      (λ other. inl (subst (λ v. Contains v j) (get_or-set_other g a i x [] other) link))
      (same_or_not i a)

  -- an old link stays
  old_link : (i j : ℕ) → IsLinked g i j → IsLinked more i j
  old_link i j link =
      ⊎_elim
      (λ same. subst (λ v. Contains v j) (sym (ap (linked_to more) same ∙ at_a)) (Contains-append_left (linked_to g a) (b ∷ []) j (subst (λ v. IsLinked g v j) same link)))
      (λ other. subst (λ v. Contains v j) (sym (get_or-set_other g a i x [] other)) link)
      (same_or_not i a)

  -- a is linked to b
  this_link : IsLinked more a b
  this_link = subst (λ v. Contains v b) (sym at_a) (Contains-push (linked_to g a) b)

module _ (g : List (List ℕ)) (a b : ℕ) (xs x ys y : List ℕ) (a_below : a < length g) (b_below : b < length g)
    (xs_is : xs ≡ slice_index_or g a xs) (x_is : x ≡ xs ++ b ∷ []) (ys_is : ys ≡ slice_index_or (slice_set g a x) b ys) where
  -- the list that was read, for any value where there is none
  read_a : x ≡ linked_to g a ++ b ∷ []
  read_a = x_is ∙ ap (λ v. v ++ b ∷ []) (xs_is ∙ get_or_default g a xs [] a_below)

  -- as many lists
  as_many : length (slice_set g a x) ≡ length g
  as_many = length-set g a x

  -- the second number has a list
  b_there : b < length (slice_set g a x)
  b_there = omega (arith, as_many)

  -- the second list that was read
  read_b : ys ≡ linked_to (slice_set g a x) b
  read_b = ys_is ∙ get_or_default (slice_set g a x) b ys [] b_there

  -- each is appended to the list of the other
  pub joined_both : y ≡ ys ++ a ∷ [] → AreJoined g (slice_set (slice_set g a x) b y) a b
  joined_both y_is = record {
    as_many = length-set (slice_set g a x) b y ∙ as_many;
    links = λ i j. (
      λ link. ⊎_elim
          (λ old. ⊎_elim inl (λ e. inr (inl e)) (new_link g a b x a_below read_a i j old))
          (λ e. inr (inr e))
          (new_link (slice_set g a x) b a y b_there second i j link),
      λ c. ⊎_elim
          (λ old. old_link (slice_set g a x) b a y b_there second i j (old_link g a b x a_below read_a i j old))
          (λ new. ⊎_elim
          (λ e. old_link (slice_set g a x) b a y b_there second i j (subst (λ v. IsLinked (slice_set g a x) i v) (sym e.1) (subst (λ v. IsLinked (slice_set g a x) v b) (sym e.0) (this_link g a b x a_below read_a))))
          (λ e. subst (λ v. IsLinked (slice_set (slice_set g a x) b y) i v) (sym e.1) (subst (λ v. IsLinked (slice_set (slice_set g a x) b y) v a) (sym e.0) (this_link (slice_set g a x) b a y b_there second)))
          new)
          c,
    );
  }
    where
      second : y ≡ linked_to (slice_set g a x) b ++ a ∷ []
      second = y_is ∙ ap (λ v. v ++ a ∷ []) read_b

  -- the first append is taken back
  pub taken_back : (zs z : List ℕ) → y ≡ ys → zs ≡ slice_index_or (slice_set (slice_set g a x) b y) a zs → ((ns : List ℕ) (n : ℕ) → zs ≡ ns ++ n ∷ [] → z ≡ ns) → slice_set (slice_set (slice_set g a x) b y) a z ≡ g
  taken_back zs z y_is zs_is popped =
      (λ t. slice_set (unchanged t) a z)
      ∙ set_again g a x z
      ∙ ap (slice_set g a) old
      ∙ set-get_or g a []
    where
      unchanged : slice_set (slice_set g a x) b y ≡ slice_set g a x
      unchanged = ap (slice_set (slice_set g a x) b) (y_is ∙ read_b) ∙ set-get_or (slice_set g a x) b []

      there : a < length (slice_set (slice_set g a x) b y)
      there = let n : length (slice_set (slice_set g a x) b y) ≡ length (slice_set g a x) = length-set (slice_set g a x) b y in omega (arith, n, as_many)

      pushed : zs ≡ linked_to g a ++ b ∷ []
      pushed = zs_is ∙ get_or_default (slice_set (slice_set g a x) b y) a zs [] there ∙ ap (λ v. slice_index_or v a []) unchanged ∙ get_or-set_same g a x [] a_below ∙ read_a

      old : z ≡ linked_to g a
      old = popped (linked_to g a) b pushed

      set_again : (l : List (List ℕ)) (i : ℕ) (u v : List ℕ) → slice_set (slice_set l i u) i v ≡ slice_set l i v
      set_again [] i u v = refl
      set_again (w ∷ l) zero u v = refl
      set_again (w ∷ l) (suc i) u v = ap (λ t. w ∷ t) (set_again l i u v)

-- the same of lists that are equal
pub joined_as : (g old new : List (List ℕ)) (a b : ℕ) → g ≡ old → AreJoined g new a b → AreJoined old new a b
joined_as g old new a b e j = subst (λ v. AreJoined v new a b) e j

-- links that go both ways still do
pub links_joined : (old new : List (List ℕ)) (a b : ℕ) → a < length old → b < length old → AreLinks old → AreJoined old new a b → AreLinks new
links_joined old new a b a_below b_below links joined = record {
  below = λ i j link. subst (λ v. j < v) (sym joined.as_many) (⊎_elim (links.below i j) (λ c. ⊎_elim (λ e. subst (λ v. v < length old) (sym e.1) b_below) (λ e. subst (λ v. v < length old) (sym e.1) a_below) c) ((joined.links i j).0 link));
  both_ways = λ i j link. (joined.links j i).1 (⊎_elim (λ l. inl (links.both_ways i j l)) (λ c. inr (⊎_elim (λ e. inr (e.1, e.0)) (λ e. inl (e.1, e.0)) c)) ((joined.links i j).0 link));
  few = subst (λ v. v < 2 ^ 32) (sym joined.as_many) links.few;
}

-- numbers without a link
pub no_links : (n : ℕ) → n < 2 ^ 32 → (g : List (List ℕ)) → g ≡ replicate n [] → AreLinks g
no_links n few g e = record {
  below = λ i j l. absurd (none i j l);
  both_ways = λ i j l. absurd (none i j l);
  few = subst (λ v. length v < 2 ^ 32) (sym e) (omega (arith, length-replicate n empty));
}
  where
    empty : List ℕ
    empty = []

    at : (i : ℕ) → i < length g → linked_to g i ≡ []
    at i h = ap (λ v. slice_index_or v i []) e ∙ get_or-replicate n i [] [] (let k : length g ≡ length (replicate n empty) = ap length e in omega (arith, length-replicate n empty, k, h))

    none : (i j : ℕ) → IsLinked g i j → ⊥
    none i j l =
        let c : Contains [] j = subst (λ v. Contains v j) (at i (link_below g i j l)) l in
        let h : c.0 < 0 = c.1 in
        omega arith
