-- The bound on the steps of a whole search, in the words of the map.
use Rattle.std.proofs.Common.{◌≡◌, ℕ, ◌+◌, ◌*◌, ◌^◌, ◌<◌, ◌≤◌, Bool, List, length, sym, ◌∙◌, arith, subst}
use Rattle.std.proofs.lemmas.List.{length-map}
use Rattle.std.specs.FinMap.{from_entries, entries, len, len-entries}
use Rattle.rp_geometry.specs.Geometry.{IntegerBox}
use Rattle.rp_boxindex.specs.Bound.{meets_on_x, count_on_x, IsGreatestExponent}
use Rattle.rp_boxindex.specs.Boxes.{Boxes, Entry}
use Rattle.rp_boxindex.specs.declared.place.Corner.{Corner}
use Rattle.rp_boxindex.specs.tree.Cost.{most_steps}
use Rattle.rp_boxindex.specs.tree.Nodes.{IsSlender}
use Rattle.rp_boxindex.specs.tree.Order.{corner_of, lows_of}
use Rattle.rp_boxindex.specs.Counts.{count, SameCounts}
use Rattle.rp_boxindex.specs.tree.Views.{TreeView}
use Rattle.rp_boxindex.proofs.Bounds.{within_bound}
use Rattle.rp_boxindex.proofs.Maps.{same_entries, same_length}
use Rattle.rp_boxindex.proofs.Places.{IsUnique}
use Rattle.rp_boxindex.proofs.Slender.{height_at_most, height_below}

-- the entries of a map are those of the tree that it is made of
pub entries_of_map : (t : List Entry) (m : Boxes) → IsUnique t → from_entries t ≡ m → SameCounts (entries m) t
entries_of_map t m unique is = subst (λ n. SameCounts (entries n) t) is (same_entries t unique)

-- a bound by the height of the tree is one by the greatest exponent
pub few_steps : (c : Bool) (b : IntegerBox) (t : TreeView) (m : Boxes) (s u : ℕ) → SameCounts (entries m) t.entries → IsSlender (length t.entries) t.height → u ≤ s + most_steps (count (meets_on_x c b) t.entries) t.height → (h : ℕ) → IsGreatestExponent (len m) h → u ≤ s + (count_on_x c b m + 1) * (2 * h + 2)
few_steps c b t m s u same slender most h greatest =
    let k : count_on_x c b m ≡ count (meets_on_x c b) t.entries = same (meets_on_x c b) in
    let n : len m ≡ length t.entries = len-entries m ∙ same_length (entries m) t.entries same in
    let thin : IsSlender (len m) t.height = subst (λ i. IsSlender i t.height) (sym n) slender in
    let low : t.height ≤ h = height_at_most (len m) t.height h thin greatest.1 in
    let reflexive : most_steps (count (meets_on_x c b) t.entries) t.height ≤ most_steps (count (meets_on_x c b) t.entries) t.height = omega arith in
    let bound = within_bound (most_steps (count (meets_on_x c b) t.entries) t.height) (count (meets_on_x c b) t.entries) t.height h reflexive low in
    rw k (omega arith)

-- the tree of fewer than 2^63 boxes is not too high
pub not_too_high : (t : TreeView) (pl : List (ℕ × Corner)) → SameCounts (lows_of t.entries) pl → IsSlender (length t.entries) t.height → length pl < 2 ^ 63 → t.height ≤ 198
not_too_high t pl same slender few =
    let n : length (lows_of t.entries) ≡ length pl = same_length (lows_of t.entries) pl same in
    let m : length (lows_of t.entries) ≡ length t.entries = length-map t.entries (λ (e : Entry). (e.0, corner_of e)) in
    let small : length t.entries < 2 ^ 64 = omega arith in
    let low = height_below (length t.entries) t.height slender small in
    omega arith
