-- If SHA-256 is injective on the strings that are hashed, a root hash determines its list of leaf hashes, and these determine the entries.
use Rattle.std.proofs.Common.{◌≡◌, ℕ, zero, suc, ◌<◌, ◌≤◌, ◌⊎◌, inl, inr, List, [], ◌∷◌, ◌++◌, length, take, drop, map, arith, refl, ap, ap₂, subst, sym, ◌∙◌, length-take, length-drop, take-append-drop}
use Rattle.std.proofs.lemmas.List.{append_cancel_left, take_at}
use Rattle.sha2.specs.Sha256.{sha256}
use Rattle.sha2.proofs.Facts256.{length-sha256}
use Rattle.rp_seal.specs.Merkle.{split_point, root_of, inputs_of, node_hash, node_input, leaf_hash, leaf_input}
use Rattle.rp_seal.proofs.Splits.{split-pos, split-below}
use Rattle.rp_seal.proofs.Trees.{root-one, root-none, root-many, inputs-many}

-- x is a member of the list, by cases
abbrev pub Has : List (List ℕ) → List ℕ → Type 0
Has [] x = ⊥
Has (y ∷ ys) x = (x ≡ y) ⊎ Has ys x

-- SHA-256 is injective on the strings of S
abbrev pub Separates : (List ℕ → Type 0) → Type 0
Separates S = (x y : List ℕ) → S x → S y → sha256 x ≡ sha256 y → x ≡ y

-- each hash has 32 bytes
abbrev pub AreSized : List (List ℕ) → Type 0
AreSized [] = Unit {0}
AreSized (h ∷ hs) = (length h ≡ 32) × AreSized hs

-- the first k hashes of a list of hashes of 32 bytes have 32 bytes
pub sized-take : (k : ℕ) (hs : List (List ℕ)) → AreSized hs → AreSized (take k hs)
sized-take zero hs s = tt
sized-take (suc k) [] s = tt
sized-take (suc k) (h ∷ hs) s = (s.0, sized-take k hs s.1)

-- the hashes after the first k of a list of hashes of 32 bytes have 32 bytes
pub sized-drop : (k : ℕ) (hs : List (List ℕ)) → AreSized hs → AreSized (drop k hs)
sized-drop zero hs s = s
sized-drop (suc k) [] s = tt
sized-drop (suc k) (h ∷ hs) s = sized-drop k hs s.1

-- the root hash over leaf hashes of 32 bytes has 32 bytes
pub sized-root : (hs : List (List ℕ)) → AreSized hs → length (root_of hs) ≡ 32
sized-root [] s = ap length root-none ∙ length-sha256 []
sized-root (h ∷ []) s = ap length (root-one h) ∙ s.0
sized-root (h ∷ g ∷ hs) s = ap length (root-many (h ∷ g ∷ hs) (omega arith)) ∙ length-sha256 _

-- a member of xs is a member of xs ++ ys
pub has_left : (xs ys : List (List ℕ)) (x : List ℕ) → Has xs x → Has (xs ++ ys) x
has_left [] ys x h = absurd h
has_left (y ∷ xs) ys x (inl e) = inl e
has_left (y ∷ xs) ys x (inr h) = inr (has_left xs ys x h)

-- a member of ys is a member of xs ++ ys
pub has_right : (xs ys : List (List ℕ)) (x : List ℕ) → Has ys x → Has (xs ++ ys) x
has_right [] ys x h = h
has_right (y ∷ xs) ys x h = inr (has_right xs ys x h)

-- S has all strings of the list
abbrev pub Within : List (List ℕ) → (List ℕ → Type 0) → Type 0
Within xs S = (x : List ℕ) → Has xs x → S x

-- two inner nodes with one hash have the same children, if the left children have one length
pub node_parts : (S : List ℕ → Type 0) → Separates S → (l r m s : List ℕ) → length l ≡ length m
    → S (node_input l r) → S (node_input m s) → node_hash l r ≡ node_hash m s → (l ≡ m) × (r ≡ s)
node_parts S sep l r m s sizes one other same =
    let whole : 1 ∷ l ++ r ≡ 1 ∷ m ++ s = sep (node_input l r) (node_input m s) one other same in
    let rest : l ++ r ≡ m ++ s = ap (drop 1) whole in
    let left : l ≡ m = sym (take_at l r (length l) refl) ∙ ap (take (length l)) rest ∙ take_at m s (length l) (sym sizes) in
    (left, append_cancel_left m r s (subst (λ v. v ++ r ≡ m ++ s) left rest))

-- S has the string of the top node, and the strings of both subtrees, if it has all strings of the tree
pub inputs_top : (S : List ℕ → Type 0) (hs : List (List ℕ)) → 1 < length hs → Within (inputs_of hs) S
    → S (node_input (root_of (take (split_point (length hs)) hs)) (root_of (drop (split_point (length hs)) hs)))
    × Within (inputs_of (take (split_point (length hs)) hs)) S × Within (inputs_of (drop (split_point (length hs)) hs)) S
inputs_top S hs many all =
    let e = inputs-many hs many in
    let among : (x : List ℕ) → Has (node_input (root_of (take (split_point (length hs)) hs)) (root_of (drop (split_point (length hs)) hs))
    ∷ inputs_of (take (split_point (length hs)) hs) ++ inputs_of (drop (split_point (length hs)) hs)) x → S x =
    λ x h. all x (subst (λ v. Has v x) (sym e) h) in
    (among _ (inl refl), (λ x h. among x (inr (has_left _ _ x h))), (λ x h. among x (inr (has_right (inputs_of (take (split_point (length hs)) hs)) _ x h))))

-- two lists of one length with one root hash are equal; f bounds the length
same_within : (f : ℕ) (S : List ℕ → Type 0) → Separates S → (ds es : List (List ℕ)) → length ds ≤ f → length ds ≡ length es → AreSized ds → AreSized es
    → root_of ds ≡ root_of es → Within (inputs_of ds) S → Within (inputs_of es) S → ds ≡ es
same_within f S sep [] [] few sizes sd se same id ie = refl
same_within f S sep [] (e ∷ es) few sizes sd se same id ie = absurd (omega arith)
same_within f S sep (d ∷ ds) [] few sizes sd se same id ie = absurd (omega arith)
same_within f S sep (d ∷ []) (e ∷ []) few sizes sd se same id ie = ap (λ h. h ∷ []) (sym (root-one d) ∙ same ∙ root-one e)
same_within f S sep (d ∷ []) (e ∷ g ∷ es) few sizes sd se same id ie = absurd (omega arith)
same_within f S sep (d ∷ c ∷ ds) (e ∷ []) few sizes sd se same id ie = absurd (omega arith)
same_within zero S sep (d ∷ c ∷ ds) (e ∷ g ∷ es) few sizes sd se same id ie = absurd (omega arith)
same_within (suc f) S sep (d ∷ c ∷ ds) (e ∷ g ∷ es) few sizes sd se same id ie =
    let xs : List (List ℕ) = d ∷ c ∷ ds in
    let ys : List (List ℕ) = e ∷ g ∷ es in
    let many : 1 < length xs = omega arith in
    let many' : 1 < length ys = omega arith in
    let k : ℕ = split_point (length xs) in
    let at : split_point (length ys) ≡ k = ap split_point (sym sizes) in
    let below = split-below (length xs) many in
    let pos = split-pos (length xs) many in
    let tx = length-take k xs in
    let dx = length-drop k xs in
    let ty = length-take k ys in
    let dy = length-drop k ys in
    let top_x = inputs_top S xs many id in
    let top_y : S (node_input (root_of (take k ys)) (root_of (drop k ys))) × Within (inputs_of (take k ys)) S × Within (inputs_of (drop k ys)) S =
    subst (λ j. S (node_input (root_of (take j ys)) (root_of (drop j ys))) × Within (inputs_of (take j ys)) S × Within (inputs_of (drop j ys)) S) at (inputs_top S ys many' ie) in
    let roots : node_hash (root_of (take k xs)) (root_of (drop k xs)) ≡ node_hash (root_of (take k ys)) (root_of (drop k ys)) =
    sym (root-many xs many) ∙ same ∙ root-many ys many' ∙ ap (λ j. node_hash (root_of (take j ys)) (root_of (drop j ys))) at in
    let halves = node_parts S sep (root_of (take k xs)) (root_of (drop k xs)) (root_of (take k ys)) (root_of (drop k ys))
    (sized-root (take k xs) (sized-take k xs sd) ∙ sym (sized-root (take k ys) (sized-take k ys se))) top_x.0 top_y.0 roots in
    let left : take k xs ≡ take k ys = same_within f S sep (take k xs) (take k ys) (omega (arith, tx, below)) (tx ∙ ap (λ n. Prim.Native.Nat.min k n) sizes ∙ sym ty)
    (sized-take k xs sd) (sized-take k ys se) halves.0 top_x.1 top_y.1 in
    let right : drop k xs ≡ drop k ys = same_within f S sep (drop k xs) (drop k ys) (omega (arith, dx, pos)) (omega (arith, dx, dy, sizes))
    (sized-drop k xs sd) (sized-drop k ys se) halves.1 top_x.2 top_y.2 in
    sym (take-append-drop k xs) ∙ ap₂ (λ (a b : List (List ℕ)). a ++ b) left right ∙ take-append-drop k ys

-- two lists of leaf hashes of one length with one root hash are equal
pub same_leaves : (S : List ℕ → Type 0) → Separates S → (ds es : List (List ℕ)) → length ds ≡ length es → AreSized ds → AreSized es
    → root_of ds ≡ root_of es → Within (inputs_of ds) S → Within (inputs_of es) S → ds ≡ es
same_leaves S sep ds es sizes sd se same id ie = same_within (length ds) S sep ds es (omega arith) sizes sd se same id ie

-- two lists of entries with the same leaf hashes are equal
pub same_entries : (S : List ℕ → Type 0) → Separates S → (ds es : List (List ℕ)) → map leaf_hash ds ≡ map leaf_hash es
    → Within (map leaf_input ds) S → Within (map leaf_input es) S → ds ≡ es
same_entries S sep [] [] same id ie = refl
same_entries S sep [] (e ∷ es) same id ie = absurd (let l = ap length same in omega (arith, l))
same_entries S sep (d ∷ ds) [] same id ie = absurd (let l = ap length same in omega (arith, l))
same_entries S sep (d ∷ ds) (e ∷ es) same id ie =
    let head : leaf_hash d ≡ leaf_hash e = (cc) in
    let tail : map leaf_hash ds ≡ map leaf_hash es = (cc) in
    let first : leaf_input d ≡ leaf_input e = sep (leaf_input d) (leaf_input e) (id _ (inl refl)) (ie _ (inl refl)) head in
    ap₂ (λ (x : List ℕ) (xs : List (List ℕ)). x ∷ xs) (ap (drop 1) first)
    (same_entries S sep ds es tail (λ x h. id x (inr h)) (λ x h. ie x (inr h)))

-- the leaf hashes of entries have 32 bytes
pub sized-leaves : (ds : List (List ℕ)) → AreSized (map leaf_hash ds)
sized-leaves [] = tt
sized-leaves (d ∷ ds) = (length-sha256 (leaf_input d), sized-leaves ds)
