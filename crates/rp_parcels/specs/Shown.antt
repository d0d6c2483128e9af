-- The proof lines that show the refusal of a row.
use Rattle.std.specs.Prelude.{List, Result, Ok, Err}
use Rattle.rp_geometry.specs.Geometry.{RationalPoint}
use Rattle.rp_geometry.specs.searches.ProofLine.{ProofLine, in_line}
use Rattle.rp_model.specs.commands.Verdict.{Refusal, overlaps, outside_lot, children_overlap, gap, bad, limit, empty_region}
use Rattle.rp_region.specs.Pairs.{IsLast}
use Rattle.rp_answer.specs.declared.reply.RowEnd.{RowEnd}
use Rattle.rp_answer.specs.declared.reply.RowEnd.TheVariants.{Refused, Stopped}
use Rattle.rp_answer.specs.Views.{refusal_of}

-- the last line has points
pub record EndsInside (lines : List ProofLine) : Type 0 where
  pub points : List RationalPoint
  pub last : IsLast (in_line points) lines

-- how a refusal is shown: by the points of the last line, or by no line; or no row about lots has it
pub data Kind : Type 0 where
  by_points by_none never : Kind

-- how each refusal is shown
abbrev pub kind_of : Refusal → Kind
kind_of (overlaps x) = by_points
kind_of (outside_lot k) = by_points
kind_of (children_overlap m n) = by_points
kind_of gap = by_points
kind_of (bad f) = never
kind_of limit = never
kind_of (empty_region k) = never
kind_of _ = by_none

-- the proof lines show a refusal in the given way
abbrev pub IsShownBy : List ProofLine → Kind → Type 0
IsShownBy lines by_points = EndsInside lines
IsShownBy lines by_none = Unit {0}
IsShownBy lines never = ⊥

-- the proof lines show the refusal
abbrev pub IsShown : List ProofLine → Refusal → Type 0
IsShown lines r = IsShownBy lines (kind_of r)

-- the proof lines show the refusal with which a row ends, if it ends with one
abbrev pub EndIsShown : {A : Type 0} → List ProofLine → Result A RowEnd → Type 0
EndIsShown lines (Ok x) = Unit {0}
EndIsShown lines (Err (Refused r)) = IsShown lines (refusal_of r)
EndIsShown lines (Err (Stopped e)) = Unit {0}
