-- The stops that a call on the lines of a report may return.
use Rattle.std.specs.Prelude.{◌≡◌, true, false, List}
use Rattle.rp_geometry.specs.Geometry.{HalfSpace}
use Rattle.rp_semantics.specs.Walk.{done}
use Rattle.rp_reports.specs.Check.{Trail, tells_limit, follow_strict}
use Rattle.rp_oracle.specs.declared.stopped.Stopped.{Stopped}
use Rattle.rp_oracle.specs.declared.stopped.Stopped.TheVariants.{Wrong, LimitReported, Memory}

-- the next line is wrong or reports a limit: no limit was met, and memory did not run out
abbrev pub IsOfLine : Stopped → Type 0
IsOfLine Wrong = Unit {0}
IsOfLine LimitReported = Unit {0}
IsOfLine _ = ⊥

-- memory did not run out
abbrev pub IsNotMemory : Stopped → Type 0
IsNotMemory (Memory e) = ⊥
IsNotMemory _ = Unit {0}

-- the next line is wrong, or memory ran out
abbrev pub IsWrongOrMemory : Stopped → Type 0
IsWrongOrMemory Wrong = Unit {0}
IsWrongOrMemory (Memory e) = Unit {0}
IsWrongOrMemory _ = ⊥

-- the line that is due does not come: the next line reports a limit, or it is wrong
abbrev pub IsNotDue : Stopped → Trail → Type 0
IsNotDue Wrong t = tells_limit t.lines ≡ false
IsNotDue LimitReported t = tells_limit t.lines ≡ true
IsNotDue _ t = ⊥

-- a strict test has just shown that the cell has a member
pub record IsShown (cell : List HalfSpace) (now : Trail) : Type 0 where
  pub start : Trail
  pub shown : follow_strict cell start ≡ done true now
