-- What is made of a value that was read.
use Rattle.std.proofs.Common.{◌≡◌, Result, Ok, Err, sym, ap, ◌∙◌, subst}
use Rattle.std.specs.Result.{IsOkAnd, MatchResult}
use Rattle.rp_language.specs.Expression.{Expression}
use Rattle.rp_language.specs.Grammar.{Fault, Place, Version, gives, read_on, expression}
use Rattle.rp_syntax.specs.declared.fault.ReadFault.{ReadFault}
use Rattle.rp_syntax.specs.declared.fault.ReadFault.TheVariants.{Bad, Memory}
use Rattle.rp_syntax.specs.Reads.{FaultIs, Reads, both_read}

-- the fault of a value is the fault of what is made of it
fault_made : {A B : Type 0} (of : A → B) (fault : ReadFault) (read : Result (A × Place) Fault) → FaultIs fault read → FaultIs fault (read_on (λ a. gives (of a)) read)
fault_made of (Bad why) read h = ap (read_on (λ a. gives (of a))) h
fault_made of (Memory error) read h = tt

-- what is made of a value that was read, is read
pub read_made_of : {X Y A B : Type 0} (view : X → A) (seen : Y → B) (of : A → B) (make : X → Y) (r : Result X ReadFault) (made : Result Y ReadFault) (place : Place) (read : Result (A × Place) Fault)
    → MatchResult r (λ x. IsOkAnd made (λ y. y ≡ make x)) (λ e. made ≡ Err e) → ((x : X) → seen (make x) ≡ of (view x)) → Reads view r place read → Reads seen made place (read_on (λ a. gives (of a)) read)
read_made_of view seen of make (Ok x) (Ok y) place read m same h = ap (read_on (λ a. gives (of a))) h ∙ ap (λ b. Ok (b, place)) (sym (same x) ∙ ap seen (sym m))
read_made_of view seen of make (Ok x) (Err e) place read m same h = absurd m
read_made_of view seen of make (Err e) made place read m same h = subst (λ s. Reads seen s place (read_on (λ a. gives (of a)) read)) (sym m) (fault_made of e read h)

-- two expressions were read, and a value is made of both
pub read_both : {A : Type 0} (v : Version) (of : Expression → Expression → A) (x y : Expression) (made : A) (old mid new : Place) → expression v old ≡ Ok (x, mid) → expression v mid ≡ Ok (y, new) → made ≡ of x y → both_read v of old ≡ Ok (made, new)
read_both v of x y made old mid new first second is =
    ap (read_on (λ e place. read_on (λ f. gives (of e f)) (expression v place))) first ∙ ap (read_on (λ f. gives (of x f))) second ∙ ap (λ m. Ok (m, new)) (sym is)
