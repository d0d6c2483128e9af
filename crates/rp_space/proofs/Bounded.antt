-- Half-spaces within their bounds, one after the other.
use Rattle.std.proofs.Common.{◌≡◌, ℕ, ◌+◌, ◌<◌, List, [], ◌∷◌, length, get_or, take, sym, subst}
use Rattle.std.proofs.lemmas.List.{take_more}
use Rattle.rp_geometry.specs.Geometry.{HalfSpace, IsHalfSpace}
use Rattle.rp_geometry.specs.laws.CellLaws.{AreHalfSpaces}
use Rattle.rp_algebra.proofs.Listed.{all_append}

-- one more half-space within its bounds
pub bounds_more : (hs : List HalfSpace) (i : ℕ) (h : HalfSpace) → i < length hs → AreHalfSpaces (take i hs) → h ≡ get_or hs i h → IsHalfSpace h → AreHalfSpaces (take (i + 1) hs)
bounds_more hs i h l b e k =
    subst (λ (xs : List HalfSpace). AreHalfSpaces xs) (sym (take_more hs i h l))
    (all_append IsHalfSpace (take i hs) (get_or hs i h ∷ []) b (subst (λ (x : HalfSpace). IsHalfSpace x) e k, tt))
