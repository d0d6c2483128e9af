-- What a sink has of two pieces that are put one after the other.
use Rattle.std.proofs.Common.{ℕ, ◌+◌, List, ◌++◌, length, take, Option, Some, None, sym, ap, ◌∙◌, subst, arith, append_assoc, length-append}
use Rattle.std.proofs.Math.Seq.{take-append-add}
use Rattle.rp_io.specs.Bytes.{Appends, AppendsPrefix}

-- One piece was put, and then a front of another: together they are a front of both.
pub AppendsPrefix-after : (old middle new : Option (List ℕ)) (first second : List ℕ) → Appends old middle first → AppendsPrefix middle new second → AppendsPrefix old new (first ++ second)
AppendsPrefix-after old middle None first second put front = tt
AppendsPrefix-after old middle (Some all) first second put front =
    let (before, n, within, was, is) = front in
    let done : Appends old (Some before) first = subst (λ o. Appends old o first) was put in
    let (start, told, whole) = done in (
      start,
      length first + n,
      omega (arith, length-append first second, within),
      told,
      is ∙ ap (λ bytes. bytes ++ take n second) whole ∙ append_assoc start first (take n second) ∙ ap (λ bytes. start ++ bytes) (sym (take-append-add first second n)),
    )
