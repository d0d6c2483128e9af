-- How far a table is filled with the points at which edges cross a plane.
use Rattle.std.proofs.Common.{◌≡◌, ℕ, ◌+◌, ◌<◌, ◌≤◌, pos, ◌<ℤ◌, ⊎_elim, Bool, true, false, List, length, sym, ap, ◌∙◌, subst, arith}
use Rattle.std.specs.Prelude.{Some, slice_index_or, bit_and}
use Rattle.std.specs.List.{Contains, slice_get}
use Rattle.std.proofs.lemmas.Bool.{cases_order}
use Rattle.rp_algebra.proofs.Listed.{place_of}
use Rattle.rp_algebra.proofs.Options.{same_some}
use Rattle.rp_algebra.proofs.Lists.{get_some}
use Rattle.rp_geometry.specs.Geometry.{RationalPoint, HalfSpace, side_value}
use Rattle.rp_convex.proofs.Standing.{contains_listed}
use Rattle.rp_clip.specs.Masks.{mask_of}
use Rattle.rp_clip.specs.Crossings.{HasSides, IsAbove, IsBelow, AreAllBelow, IsBetween, HasMeetings, HasMeetingsOf, IsGrown, IsCrossed, IsCrossedFrom, IsCrossedAbove, IsCrossedAll}
use Rattle.rp_clip.specs.Sides.{side_of}
use Rattle.rp_clip.specs.Tables.{Rows}
use Rattle.rp_clip.specs.declared.cross.Side.{Side}
use Rattle.rp_clip.specs.declared.cross.Side.TheVariants.{Above}
use Rattle.rp_clip.proofs.HalfAt.{get_below, get_index}
use Rattle.rp_clip.proofs.Kept.{read_planes}
use Rattle.rp_clip.proofs.Lists.{get_contains}
use Rattle.rp_clip.proofs.Sides.{Row, row, map_length, known_side, above_side}

-- a table that has grown twice has grown
grown_on : {most : ℕ} (cell : List HalfSpace) (h : HalfSpace) (a b c : Rows) → IsGrown most cell h a b → IsGrown most cell h b c → IsGrown most cell h a c
grown_on cell h a b c k l = record { table = l.table; all = λ v m. l.all v (k.all v m) }

-- meetings that a table has stay in it
meetings_stay : {most : ℕ} (cell : List HalfSpace) (h : HalfSpace) (set : ℕ) (a b : Rows) → IsGrown most cell h a b → HasMeetings cell h set a → HasMeetings cell h set b
meetings_stay cell h set a b g k i j f d v c e = g.all v (k i j f d v c e)

-- an item of a list has a place
pub place_in : {A : Type 0} (xs : List A) (x : A) → Contains xs x → (i : ℕ) × (slice_get xs i ≡ Some x)
place_in xs x c = place_of x xs (contains_listed x xs c)

-- what is read at a place stands there
pub stands : (xs : List ℕ) (i : ℕ) → i < length xs → slice_get xs i ≡ Some (slice_index_or xs i 0)
stands xs i l = let g = get_some xs i l in g.1 ∙ ap Some (sym (get_index xs i g.0 0 g.1))

-- ---- from one vertex

-- the crossings with the first j vertices below are in the table
pub record IsFilledFrom (most : ℕ) (cell : List HalfSpace) (h : HalfSpace) (below : List ℕ) (set : ℕ) (old : Rows) (j : ℕ) (new : Rows) : Type 0 where
  pub grown : IsGrown most cell h old new
  pub has : (k low : ℕ) → slice_get below k ≡ Some low → k < j → HasMeetings cell h (bit_and set low) new

-- the planes that a vertex above and one below share
pub shared : (cell : List HalfSpace) (h : HalfSpace) (set low : ℕ) → length cell < 64 → IsAbove cell h set → IsBelow cell h low → IsBetween cell h (bit_and set low)
shared cell h set low room a b = record {
  room = room;
  above = a.0;
  below = b.0;
  above_vertex = a.1;
  below_vertex = b.1;
  positive = a.2;
  negative = b.2;
  common = λ i. bit_and (a.3 i) (b.3 i);
}

-- one vertex further
pub from_next : {most : ℕ} (cell : List HalfSpace) (h : HalfSpace) (below : List ℕ) (set low j : ℕ) (old mid new : Rows) (b : Bool) → slice_get below j ≡ Some low
    → IsFilledFrom most cell h below set old j mid → b ≡ true → IsCrossed most cell h (bit_and set low) mid new b → IsFilledFrom most cell h below set old (j + 1) new
from_next cell h below set low j old mid new false at f e c = absurd (cc)
from_next cell h below set low j old mid new true at f e c = record { grown = grown_on cell h old mid new f.grown c.0; has = has }
  where
    has : (k m : ℕ) → slice_get below k ≡ Some m → k < j + 1 → HasMeetings cell h (bit_and set m) new
    has k m here l =
        ⊎_elim
        (λ (s : k ≡ j). subst (λ (n : ℕ). HasMeetings cell h (bit_and set n) new) (same_some low m (sym at ∙ ap (slice_get below) (sym s) ∙ here)) c.1)
        (⊎_elim
        (λ (s : k < j). meetings_stay cell h (bit_and set m) mid new c.0 (f.has k m here s))
        (λ (s : j < k). absurd (omega (arith, s, l))))
        (cases_order k j)

-- all vertices
pub from_all : {most : ℕ} (cell : List HalfSpace) (h : HalfSpace) (below : List ℕ) (set j : ℕ) (old new : Rows) → IsFilledFrom most cell h below set old j new → length below ≤ j → IsCrossedFrom most cell h below set old new true
from_all cell h below set j old new f l = (
  f.grown,
  λ low c.
      let p = place_in below low c in
      let m = get_below below p.0 low p.1 in
      f.has p.0 low p.1 (omega (arith, l, m)),
)

-- ---- from all vertices

-- the crossings from the first i vertices are in the table
pub record IsFilledAll (most : ℕ) (cell : List HalfSpace) (h : HalfSpace) (points : List RationalPoint) (old : Rows) (i : ℕ) (new : Rows) : Type 0 where
  pub grown : IsGrown most cell h old new
  pub has : (k : ℕ) (u : RationalPoint) → slice_get points k ≡ Some u → k < i → HasMeetingsOf cell h u points new

-- what a step from one vertex owes
pub owes_above : {most : ℕ} (cell : List HalfSpace) (h : HalfSpace) (t : Rows) (sides : List Side) (i : ℕ) (planes : List ℕ) → HasSides most cell h t sides → i < length sides → planes ≡ t.planes
    → slice_index_or sides i Above ≡ Above → IsAbove cell h (slice_index_or planes i 0)
owes_above cell h t sides i planes k l el e =
    let r = row cell h t sides i k l in (
      r.point,
      k.table.different.vertices r.point (get_contains t.points i r.point r.at),
      known_side h r.point Above (sym (r.side Above) ∙ e),
      read_planes cell t.planes planes i 0 r.point el r.planes,
    )

-- one vertex further
pub all_next : {most : ℕ} (cell : List HalfSpace) (h : HalfSpace) (t : Rows) (sides : List Side) (below : List ℕ) (i : ℕ) (planes : List ℕ) (old mid new : Rows) (b : Bool) → HasSides most cell h t sides → AreAllBelow cell h t below
    → i < length sides → planes ≡ t.planes → IsFilledAll most cell h t.points old i mid → b ≡ true
    → IsCrossedAbove most cell h below (slice_index_or sides i Above) (slice_index_or planes i 0) mid new b → IsFilledAll most cell h t.points old (i + 1) new
all_next cell h t sides below i planes old mid new false k lows l el f e c = absurd (cc)
all_next cell h t sides below i planes old mid new true k lows l el f e c = record { grown = grown_on cell h old mid new f.grown c.0; has = has }
  where
    r : Row cell h t sides i
    r = row cell h t sides i k l

    here : (u : RationalPoint) → slice_get t.points i ≡ Some u → HasMeetingsOf cell h u t.points new
    here u at up w m down =
        let same : r.point ≡ u = same_some r.point u (sym r.at ∙ at) in
        subst (λ (n : ℕ). HasMeetings cell h (bit_and n (mask_of cell w)) new)
        (read_planes cell t.planes planes i 0 r.point el r.planes ∙ ap (mask_of cell) same)
        (c.1 (r.side Above ∙ ap (side_of h) same ∙ above_side h u up) (mask_of cell w) (lows.all w m down))

    has : (k : ℕ) (u : RationalPoint) → slice_get t.points k ≡ Some u → k < i + 1 → HasMeetingsOf cell h u t.points new
    has n u at m =
        ⊎_elim
        (λ (s : n ≡ i). here u (subst (λ (q : ℕ). slice_get t.points q ≡ Some u) s at))
        (⊎_elim
        (λ (s : n < i) (up : pos 0 <ℤ side_value h u) (w : RationalPoint) (q : Contains t.points w) (down : side_value h w <ℤ pos 0).
        meetings_stay cell h (bit_and (mask_of cell u) (mask_of cell w)) mid new c.0 (f.has n u at s up w q down))
        (λ (s : i < n). absurd (omega (arith, s, m))))
        (cases_order n i)

-- all vertices
pub all_all : {most : ℕ} (cell : List HalfSpace) (h : HalfSpace) (t : Rows) (sides : List Side) (i : ℕ) (old new : Rows) → HasSides most cell h t sides → IsFilledAll most cell h t.points old i new → length sides ≤ i
    → IsCrossedAll most cell h t.points old new true
all_all cell h t sides i old new k f l = (
  f.grown,
  λ u c.
      let p = place_in t.points u c in
      let e : length sides ≡ length t.points = ap length k.each ∙ map_length (side_of h) t.points in
      let m = get_below t.points p.0 u p.1 in
      f.has p.0 u p.1 (omega (arith, l, e, m)),
)
