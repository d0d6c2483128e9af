-- What one more read says of the bytes of a source that were read so far.
use Rattle.std.proofs.Common.{◌≡◌, ℕ, ◌+◌, ◌<◌, ◌≤◌, List, [], ◌++◌, length, take, drop, Option, Some, None, IfSome, refl, sym, ap, ◌∙◌, subst, arith, append_assoc, length-append}
use Rattle.std.proofs.lemmas.List.{take-append-drop, append-nil, take-take, take-append-le, length-take-le}
use Rattle.rp_io.specs.Bytes.{Takes, IsAtEnd}
use Rattle.rp_io.specs.Intake.{IsWhole, IsPastLimit}

-- what was left at the start is what was read so far, and what is left now
abbrev pub ReadsOn : Option (List ℕ) → Option (List ℕ) → List ℕ → Type 0
ReadsOn before now read = IfSome before (λ left. (rest : List ℕ) × (now ≡ Some rest) × (left ≡ read ++ rest))

-- at the start nothing was read
pub ReadsOn-start : (before : Option (List ℕ)) → ReadsOn before before []
ReadsOn-start None = _
ReadsOn-start (Some left) = (left, refl, refl)

-- what a read took, where the source tells what is left
taken_at : (now after : Option (List ℕ)) (n : ℕ) (buffer rest : List ℕ) → now ≡ Some rest → Takes now after n buffer → (n ≤ length rest) × (take n buffer ≡ take n rest) × (after ≡ Some (drop n rest))
taken_at now after n buffer rest e t = subst (λ o. Takes o after n buffer) e t

-- a read adds what it took
ReadsOn-more : (before now after : Option (List ℕ)) (read buffer : List ℕ) (n : ℕ) → ReadsOn before now read → Takes now after n buffer → ReadsOn before after (read ++ take n buffer)
ReadsOn-more None now after read buffer n h t = _
ReadsOn-more (Some left) now after read buffer n h t =
    let taken = taken_at now after n buffer h.0 h.1 t in
    let parts : left ≡ (read ++ take n buffer) ++ drop n h.0 =
    h.2 ∙ ap (λ xs. read ++ xs) (sym (take-append-drop n h.0)) ∙ sym (append_assoc read (take n h.0) (drop n h.0)) ∙ ap (λ xs. (read ++ xs) ++ drop n h.0) (sym taken.1) in
    (drop n h.0, taken.2, parts)

-- where nothing was left, all was read
pub IsWhole-at_end : (before now after : Option (List ℕ)) (read buffer : List ℕ) (n : ℕ) → n ≡ 0 → ReadsOn before now read → Takes now after n buffer → IsAtEnd now → IsWhole before after read
IsWhole-at_end None now after read buffer n zero h t end = _
IsWhole-at_end (Some left) now after read buffer n zero h t end =
    let none : h.0 ≡ [] = subst IsAtEnd h.1 end in
    let taken = taken_at now after n buffer h.0 h.1 t in
    (sym (h.2 ∙ ap (λ xs. read ++ xs) none ∙ append-nil read), taken.2 ∙ ap (λ k. Some (drop k h.0)) zero ∙ ap Some none)

-- a read past the limit shows that there were more bytes than that
pub IsPastLimit-from_read : (before now after : Option (List ℕ)) (read buffer : List ℕ) (n limit : ℕ) → ReadsOn before now read → Takes now after n buffer → limit < length read + n → IsPastLimit before limit
IsPastLimit-from_read None now after read buffer n limit h t past = _
IsPastLimit-from_read (Some left) now after read buffer n limit h t past =
    let taken = taken_at now after n buffer h.0 h.1 t in
    omega (arith, ap length h.2, length-append read h.0, taken.0)

-- the buffer is what was written over it as a whole, and its front came behind what was read so far
pub record IsAppended (read buffer items piece new : List ℕ) (n len : ℕ) : Type 0 where
  pub filled : length buffer ≡ len
  pub within : n ≤ length buffer
  pub piece_is : piece ≡ take len (buffer ++ drop (length buffer) items)
  pub new_is : new ≡ read ++ take n piece

-- the front of the buffer is that of what was written over it
take-piece : (read buffer items piece new : List ℕ) (n len : ℕ) → IsAppended read buffer items piece new n len → take n piece ≡ take n buffer
take-piece read buffer items piece new n len h =
    let all = buffer ++ drop (length buffer) items in
    let low : n ≤ len = omega (arith, h.filled, h.within) in
    ap (take n) h.piece_is ∙ take-take n len all low ∙ take-append-le n buffer (drop (length buffer) items) h.within

-- it is as long as the read says
pub length-piece : (read buffer items piece new : List ℕ) (n len : ℕ) → IsAppended read buffer items piece new n len → length (take n piece) ≡ n
length-piece read buffer items piece new n len h = ap length (take-piece read buffer items piece new n len h) ∙ length-take-le n buffer h.within

-- a read adds what stands at the front of the buffer
pub ReadsOn-appended : (before now after : Option (List ℕ)) (read buffer items piece new : List ℕ) (n len : ℕ) → ReadsOn before now read → Takes now after n buffer
    → IsAppended read buffer items piece new n len → ReadsOn before after new
ReadsOn-appended before now after read buffer items piece new n len h t a =
    subst (ReadsOn before after) (sym (a.new_is ∙ ap (λ xs. read ++ xs) (take-piece read buffer items piece new n len a))) (ReadsOn-more before now after read buffer n h t)
