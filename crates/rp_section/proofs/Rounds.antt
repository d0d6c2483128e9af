-- The steps along the sides that bound a section are its ring, where the cell has one.
use Rattle.std.proofs.Common.{◌≡◌, ℤ, pos, ◌<ℤ◌, List, [], ◌∷◌, Some, None, refl, sym, ap, ◌∙◌, subst, arith}
use Rattle.rp_algebra.proofs.IntLaws.{linear}
use Rattle.rp_algebra.proofs.Listed.{Listed, first, later}
use Rattle.rp_geometry.specs.Geometry.{RationalPoint, HalfSpace}
use Rattle.rp_geometry.specs.sections.Trace.{Trace, with_sides, traces}
use Rattle.rp_geometry.specs.sections.Ring.{RingStep, Turn, turn_of, turns_to, turns_of, cross, trace_meeting, corners, edges_among}
use Rattle.rp_geometry.specs.laws.SectionLaws.{IsRing, level_plane}
use Rattle.rp_slice.proofs.Rings.{IsRingOf, ring_to}
use Rattle.rp_slice.proofs.Unique.{SameEdges, same_edges, EndsAt, ends_at, have_directions}
use Rattle.rp_slice.proofs.RingFound.{meeting_is, as_steps, as_edge, edge_as, as_rising, edge_direction, edges_found}
use Rattle.rp_section.specs.declared.side.Side.{Side}
use Rattle.rp_section.specs.Sides.{bounds_of, side_step, side_steps_to, side_steps, sides_of}
use Rattle.rp_section.proofs.Bounding.{edges_on, meeting_same, bounds_are_edges, bounds_listed}

-- the edges of sides are those of steps
abbrev AlongSides : List Side → List RingStep → Type 0
AlongSides sides steps = SameEdges (as_steps (edges_on sides)) steps

module _ (z : ℤ) (cell : List HalfSpace) (steps : List RingStep) (ring : IsRingOf z (traces z (with_sides cell)) steps) (other : RationalPoint) where
  -- the sides of the cell
  abbrev all : List Side
  all = sides_of z (with_sides cell)

  -- a step along a side to the next one is the step of the ring
  same_step : (f g : Side) (s h : RingStep) → Listed f all → Listed g all → f.edge ≡ s.edge → g.edge ≡ h.edge → EndsAt z (turn_of s h) → side_step (level_plane z) other f g ≡ s
  same_step f g s h lf lg es gh k =
      let m = meeting_is z s.edge h.edge s.end k.end k.height k.turn.on_edge k.turn.on_next (λ c. not_zero (cross s.edge h.edge) k.turn.left c) in
      let n = meeting_same z cell steps ring f g lf lg ∙ (λ i. trace_meeting z (es i) (gh i)) ∙ m in
      λ i. record { edge = es i; end = elim (n i) [ Some p ↦ p | None ↦ other ] }
    where
      not_zero : (c : ℤ) → pos 0 <ℤ c → c ≡ pos 0 → ⊥
      not_zero c h e = omega (arith, linear, h, e)

  -- so the steps are those of the ring
  same_steps_to : (g : Side) (h : RingStep) (sides : List Side) (rest : List RingStep) → Listed g all → ((s : Side) → Listed s sides → Listed s all) → g.edge ≡ h.edge → AlongSides sides rest
      → ((u : Turn) → Listed u (turns_to h rest) → EndsAt z u) → side_steps_to (level_plane z) other g sides ≡ rest
  same_steps_to g h [] [] lg sub gh k t = refl
  same_steps_to g h [] (s ∷ rest) lg sub gh k t = absurd k
  same_steps_to g h (e ∷ es) [] lg sub gh k t = absurd k
  same_steps_to g h (e ∷ []) (s ∷ []) lg sub gh k t = ap (λ r. r ∷ []) (same_step e g s h (sub e first) lg k.0 gh (t _ first))
  same_steps_to g h (e ∷ []) (s ∷ r ∷ rest) lg sub gh k t = absurd k.1
  same_steps_to g h (e ∷ f ∷ es) (s ∷ []) lg sub gh k t = absurd k.1
  same_steps_to g h (e ∷ f ∷ es) (s ∷ r ∷ rest) lg sub gh k t =
      λ i. same_step e f s r (sub e first) (sub f (later first)) k.0 k.1.0 (t _ first) i ∷ same_steps_to g h (f ∷ es) (r ∷ rest) lg (λ u l. sub u (later l)) gh k.1 (λ u l. t u (later l)) i

  -- all of them
  same_steps : (sides : List Side) (rest : List RingStep) → ((s : Side) → Listed s sides → Listed s all) → AlongSides sides rest → ((u : Turn) → Listed u (turns_of rest) → EndsAt z u) → side_steps (level_plane z) other sides ≡ rest
  same_steps [] [] sub k t = refl
  same_steps [] (s ∷ rest) sub k t = absurd k
  same_steps (e ∷ es) [] sub k t = absurd k
  same_steps (e ∷ es) (s ∷ rest) sub k t = same_steps_to e s (e ∷ es) (s ∷ rest) (sub e first) sub k.0 k t

  -- the edges of the sides that bound the section are those of the ring
  along : AlongSides (bounds_of (level_plane z) all all) steps
  along =
      let es = edges_among (corners z (traces z (with_sides cell))) (traces z (with_sides cell)) in
      let f = edges_found z cell steps ring (traces z (with_sides cell)) (λ t l. l) in
      subst (λ (ts : List Trace). SameEdges (as_steps ts) steps) (sym (bounds_are_edges z cell steps ring))
      (same_edges (as_steps es) steps
      (λ s l. edge_direction z cell steps ring s.edge (f.edges s.edge (as_edge es s l)))
      (have_directions z (with_sides cell) steps ring)
      (as_rising es f.sorted) ring.rising
      (λ s l. f.edges s.edge (as_edge es s l))
      (λ s l. edge_as es s.edge (f.all s.edge (ring.each s l).edge (record { step = s; listed = l; same = refl }))))

  -- the steps along them are the ring
  pub is_the_ring : side_steps (level_plane z) other (bounds_of (level_plane z) all all) ≡ steps
  is_the_ring = same_steps (bounds_of (level_plane z) all all) steps (bounds_listed z cell steps ring all (λ s l. l)) along (ends_at z (traces z (with_sides cell)) steps ring)

-- the same of a ring that passes the test
pub steps_are_ring : (z : ℤ) (cell : List HalfSpace) (other : RationalPoint) (steps : List RingStep) → IsRing z cell steps → side_steps (level_plane z) other (bounds_of (level_plane z) (sides_of z (with_sides cell)) (sides_of z (with_sides cell))) ≡ steps
steps_are_ring z cell other steps e = is_the_ring z cell steps (ring_to z cell steps e) other
