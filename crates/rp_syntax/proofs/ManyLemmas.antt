-- Items that are read one after the other.
use Rattle.std.proofs.Common.{◌≡◌, ℕ, suc, List, [], ◌∷◌, ◌++◌, Result, Ok, Err, refl, sym, ap, ◌∙◌, append_assoc}
use Rattle.rp_syntax.specs.declared.fault.ReadFault.{ReadFault}
use Rattle.rp_syntax.specs.declared.fault.ReadFault.TheVariants.{Bad, Memory}
use Rattle.rp_syntax.specs.Reads.{FaultIs}
use Rattle.rp_command.specs.Views.{fault_of}
use Rattle.rp_language.specs.Grammar.{Place, Fault, Reader, read_on, gives, many}

-- items that were read before
abbrev pub with_front : {A : Type 0} → List A → Result (List A × Place) Fault → Result (List A × Place) Fault
with_front front (Ok r) = Ok (front ++ r.0, r.1)
with_front front (Err f) = Err f

-- at the start none were
pub with_none : {A : Type 0} (read : Result (List A × Place) Fault) → with_front [] read ≡ read
with_none (Ok r) = refl
with_none (Err f) = refl

-- an item before others
front_of : {A : Type 0} (x : A) (front : List A) (read : Result (List A × Place) Fault) → with_front front (read_on (λ rest place. gives (x ∷ rest) place) read) ≡ with_front (front ++ x ∷ []) read
front_of x front (Ok r) = ap (λ xs. Ok (xs, r.1)) (sym (append_assoc front (x ∷ []) r.0))
front_of x front (Err f) = refl

-- one more item was read
pub many-more : {A : Type 0} (n m : ℕ) (item : Reader A) (x : A) (front : List A) (place after : Place) → m ≡ suc n → item place ≡ Ok (x, after) → with_front front (many m item place) ≡ with_front (front ++ x ∷ []) (many n item after)
many-more n m item x front place after e h =
    ap (λ k. with_front front (many k item place)) e ∙ ap (λ r. with_front front (read_on (λ first p. read_on (λ rest q. gives (first ∷ rest) q) (many n item p)) r)) h ∙ front_of x front (many n item after)

-- an item that is a fault
pub many-fault : {A : Type 0} (n m : ℕ) (item : Reader A) (f : Fault) (front : List A) (place : Place) → m ≡ suc n → item place ≡ Err f → with_front front (many m item place) ≡ Err f
many-fault n m item f front place e h =
    ap (λ k. with_front front (many k item place)) e ∙ ap (λ r. with_front front (read_on (λ first p. read_on (λ rest q. gives (first ∷ rest) q) (many n item p)) r)) h

-- a fault of an item is the fault of all
pub many-stopped : {A : Type 0} (n m : ℕ) (item : Reader A) (fault : ReadFault) (front : List A) (place : Place) → m ≡ suc n → FaultIs fault (item place) → FaultIs fault (with_front front (many m item place))
many-stopped n m item (Bad why) front place e h = many-fault n m item (fault_of why) front place e h
many-stopped n m item (Memory error) front place e h = tt
