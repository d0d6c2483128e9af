-- The turns of a ring: each step has one that begins with it and one that leads to it.
use Rattle.std.proofs.Common.{List, [], ◌∷◌}
use Rattle.rp_algebra.proofs.Listed.{Listed, first, later}
use Rattle.rp_geometry.specs.sections.Ring.{RingStep, Turn, turn_of, turns_to, turns_of}

-- a turn that begins with the step
pub record Onward (turns : List Turn) (s : RingStep) : Type 0 where
  pub to : RingStep
  pub listed : Listed (turn_of s to) turns

-- a turn that leads to the step
pub record Backward (turns : List Turn) (s : RingStep) : Type 0 where
  pub from : RingStep
  pub listed : Listed (turn_of from s) turns

-- a turn that begins with the step, among turns with one more
onward_later : (u : Turn) (us : List Turn) (s : RingStep) → Onward us s → Onward (u ∷ us) s
onward_later u us s o = record { to = o.to; listed = later o.listed }

-- a turn that leads to the step, among turns with one more
backward_later : (u : Turn) (us : List Turn) (s : RingStep) → Backward us s → Backward (u ∷ us) s
backward_later u us s o = record { from = o.from; listed = later o.listed }

-- each step of the list has a turn that begins with it
onward_to : (head : RingStep) (steps : List RingStep) (s : RingStep) → Listed s steps → Onward (turns_to head steps) s
onward_to head [] s l = elim l [ ]
onward_to head (a ∷ []) s first = record { to = head; listed = first }
onward_to head (a ∷ []) s (later l) = elim l [ ]
onward_to head (a ∷ b ∷ steps) s first = record { to = b; listed = first }
onward_to head (a ∷ b ∷ steps) s (later l) = onward_later (turn_of a b) (turns_to head (b ∷ steps)) s (onward_to head (b ∷ steps) s l)

-- each step of the list but the first has a turn that leads to it
backward_to : (head a : RingStep) (steps : List RingStep) (s : RingStep) → Listed s steps → Backward (turns_to head (a ∷ steps)) s
backward_to head a [] s l = elim l [ ]
backward_to head a (b ∷ steps) s first = record { from = a; listed = first }
backward_to head a (b ∷ steps) s (later l) = backward_later (turn_of a b) (turns_to head (b ∷ steps)) s (backward_to head b steps s l)

-- the last turn leads to the step that comes after the list
backward_last : (head a : RingStep) (steps : List RingStep) → Backward (turns_to head (a ∷ steps)) head
backward_last head a [] = record { from = a; listed = first }
backward_last head a (b ∷ steps) = backward_later (turn_of a b) (turns_to head (b ∷ steps)) head (backward_last head b steps)

-- each step of a ring has a turn that begins with it
pub onward : (steps : List RingStep) (s : RingStep) → Listed s steps → Onward (turns_of steps) s
onward [] s l = elim l [ ]
onward (a ∷ steps) s l = onward_to a (a ∷ steps) s l

-- each step of a ring has a turn that leads to it
pub backward : (steps : List RingStep) (s : RingStep) → Listed s steps → Backward (turns_of steps) s
backward [] s l = elim l [ ]
backward (a ∷ steps) s first = backward_last a a steps
backward (a ∷ steps) s (later l) = backward_to a a steps s l

-- the two steps of a turn
pub record Joins (steps : List RingStep) (u : Turn) : Type 0 where
  pub step : Listed u.step steps
  pub next : Listed u.next steps

-- the steps of a turn of the list
joins_to : (head : RingStep) (steps : List RingStep) (u : Turn) → Listed u (turns_to head steps) → Listed u.step steps × (Listed u.next (head ∷ steps))
joins_to head [] u l = elim l [ ]
joins_to head (a ∷ []) u first = (first, first)
joins_to head (a ∷ []) u (later l) = elim l [ ]
joins_to head (a ∷ b ∷ steps) u first = (first, later (later first))
joins_to head (a ∷ b ∷ steps) u (later l) = let r = joins_to head (b ∷ steps) u l in (later r.0, widened u.next r.1)
  where
    widened : (s : RingStep) → Listed s (head ∷ b ∷ steps) → Listed s (head ∷ a ∷ b ∷ steps)
    widened s first = first
    widened s (later l) = later (later l)

-- both stand in the ring
pub joins : (steps : List RingStep) (u : Turn) → Listed u (turns_of steps) → Joins steps u
joins [] u l = elim l [ ]
joins (a ∷ steps) u l = let r = joins_to a (a ∷ steps) u l in record { step = r.0; next = narrowed u.next r.1 }
  where
    narrowed : (s : RingStep) → Listed s (a ∷ a ∷ steps) → Listed s (a ∷ steps)
    narrowed s first = first
    narrowed s (later l) = l
