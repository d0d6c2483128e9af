-- What checks that refuse nothing say.
use Rattle.std.proofs.Common.{◌≡◌, Bool, true, false, refl}
use Rattle.std.specs.Prelude.{None, Option, Some}
use Rattle.rp_model.specs.commands.Verdict.{Refusal}
use Rattle.rp_model.specs.commands.Checks.{refuse_if, and_then}

-- a test that did not refuse
pub not_refused_if : (b : Bool) (r : Refusal) → refuse_if b r ≡ None → b ≡ false
not_refused_if true r e = absurd (cc)
not_refused_if false r e = refl

-- two checks that refused nothing
pub neither : (o p : Option Refusal) → and_then o p ≡ None → (o ≡ None) × (p ≡ None)
neither None p e = (refl, e)
neither (Some r) p e = absurd (cc)
