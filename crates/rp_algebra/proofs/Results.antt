-- Answers that may be errors.
use Rattle.std.proofs.Common.{Result, Ok, Err, OnOk}

-- what is true is true where there is no error
pub on_ok : {T E P : Type 0} (r : Result T E) → P → OnOk r P
on_ok (Ok v) p = p
on_ok (Err e) p = tt
