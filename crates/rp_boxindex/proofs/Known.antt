-- An id that has no box.
use Rattle.std.proofs.Common.{◌≡◌, Bool, false, Option, Some, None, is_some, Result, Ok, Err, IfErr, refl, sym, ap, ◌∙◌}
use Rattle.std.specs.Result.{IsErrAnd}
use Rattle.std.specs.declared.alloc.AllocError.{AllocError}
use Rattle.rp_boxindex.specs.Fault.{is_known}
use Rattle.rp_boxindex.specs.declared.fault.IndexFault.{IndexFault}
use Rattle.rp_boxindex.specs.declared.fault.IndexFault.TheVariants.{Memory}
use Rattle.rp_boxindex.proofs.Counts.{false_not_true}

-- nothing is there
pub none_of : {X : Type 0} (o : Option X) → is_some o ≡ false → o ≡ None
none_of (Some x) h = absurd (false_not_true (sym h))
none_of None h = refl

-- a fault of memory is not that the id has a box
pub memory_is_not_known : {A : Type 0} (r : Result A IndexFault) (e : AllocError) (b : Bool) → b ≡ false → IsErrAnd r (λ fault. fault ≡ Memory e) → IfErr r (λ fault. is_known fault ≡ b)
memory_is_not_known (Ok x) e b h given = tt
memory_is_not_known (Err fault) e b h given = ap is_known given ∙ sym h
