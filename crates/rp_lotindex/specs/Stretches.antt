-- Stretches of lines: the lines whose numbers become equal when halved a number of times.
use Rattle.std.specs.Prelude.{ℕ, zero, suc, ◌+◌, ◌/◌, ◌==◌, cond, List, [], ◌∷◌}
use Rattle.rp_lotindex.specs.declared.stretch.Stretch.{Stretch}

-- the first stretch with both lines, among at most f + 1; each next one halves the numbers once more
unfoldable pub stretch_from : ℕ → ℕ → ℕ → ℕ → Stretch
stretch_from zero level a b = record { level = level; mark = a }
stretch_from (suc f) level a b = cond (a == b) (record { level = level; mark = a }) (stretch_from f (level + 1) (a / 2) (b / 2))

-- the least stretch with two lines; every stretch has at least two lines
abbrev pub stretch_of : ℕ → ℕ → Stretch
stretch_of a b = stretch_from 31 0 (a / 2) (b / 2)

-- a number of stretches with a line, one after another
unfoldable pub stretches_from : ℕ → ℕ → ℕ → List Stretch
stretches_from zero level n = []
stretches_from (suc f) level n = record { level = level; mark = n } ∷ stretches_from f (level + 1) (n / 2)

-- all 32 stretches with a line
abbrev pub stretches_with : ℕ → List Stretch
stretches_with n = stretches_from 32 0 (n / 2)
