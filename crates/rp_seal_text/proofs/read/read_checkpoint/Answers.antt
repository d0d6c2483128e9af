use Rattle.std.proofs.Common.{◌≡◌, ℕ, List, Option, Some, None, IsSome, IfSome, IsSomeAnd, IsTrue, IsUtf8, decimal, subst, sym, ◌∙◌, string_bytes}
use Rattle.base64.specs.Engines.{standard}
use Rattle.base64.specs.GeneralPurpose.{encode_of}
use Rattle.rp_seal_text.specs.declared.checkpoint.Checkpoint.{Checkpoint}
use Rattle.rp_seal_text.specs.Checkpoint.{Fields, fields_of}
use Rattle.rp_seal_text.specs.Origin.{is_origin}
use Rattle.rp_seal_text.proofs.SpelledLines.{origin_line, size_line, root_line}
use Rattle.rp_seal_text.proofs.read.read_checkpoint.Goals as goal

-- a checkpoint whose fields are g has the fields f, if f is g
some_fields : (r : Option Checkpoint) (g f : Fields) → IsSome r → IfSome r (λ c. fields_of c ≡ g) → g ≡ f → IsSomeAnd r (λ c. fields_of c ≡ f)
some_fields None g f there is same = absurd (cc)
some_fields (Some c) g f there is same = is ∙ same

pub returns-in_default-clause-each : goal.returns-in_default-clause-each
returns-in_default-clause-each c = λ f text.
    let is = text.checkpoint in
    c.in_default.ensures.each f.origin (decimal f.size) (encode_of standard f.root) text.rest (origin_line f.origin is.origin) (size_line f.size is.size) (root_line f.root) text.begins

pub returns-in_default-read_text-clause-each : goal.returns-in_default-read_text-clause-each
returns-in_default-read_text-clause-each c = λ f text.
    let is = text.checkpoint in
    let lines = c.in-Some.ensures.each f.origin (decimal f.size) (encode_of standard f.root) text.rest (origin_line f.origin is.origin) (size_line f.size is.size) (root_line f.root) text.begins in
    c.in_default-read_text.ensures (subst IsUtf8 (sym lines.0) is.utf8)

pub returns-in_default-read_size-clause-each : goal.returns-in_default-read_size-clause-each
returns-in_default-read_size-clause-each c = λ f text.
    let is = text.checkpoint in
    let lines = c.in-Some.ensures.each f.origin (decimal f.size) (encode_of standard f.root) text.rest (origin_line f.origin is.origin) (size_line f.size is.size) (root_line f.root) text.begins in
    let no : None ≡ Some f.size = c.in_default-read_size.ensures.each f.size is.size lines.1 in (cc)

pub returns-in_default-2-clause-each : goal.returns-in_default-2-clause-each
returns-in_default-2-clause-each c = λ f text.
    let is = text.checkpoint in
    let lines = c.in-Some.ensures.each f.origin (decimal f.size) (encode_of standard f.root) text.rest (origin_line f.origin is.origin) (size_line f.size is.size) (root_line f.root) text.begins in
    let root = c.in_ok-root.ensures.each f.root is.root is.bytes lines.2 in
    rw c.in_default-2.is at root

pub returns-clause-each : goal.returns-clause-each
returns-clause-each c = λ f text.
    let is = text.checkpoint in
    let lines = c.in-Some.ensures.each f.origin (decimal f.size) (encode_of standard f.root) text.rest (origin_line f.origin is.origin) (size_line f.size is.size) (root_line f.root) text.begins in
    let origin : string_bytes c.in_ok-origin.origin ≡ f.origin = c.in_ok-origin.ensures.ok ∙ c.in-Some-read_text.ensures.0 ∙ lines.0 in
    let found : Some c.in-Some-read_size.size ≡ Some f.size = c.in-Some-read_size.ensures.each f.size is.size lines.1 in
    let size : c.in-Some-read_size.size ≡ f.size = (cc) in
    let hash = c.in_ok-root.ensures.each f.root is.root is.bytes lines.2 in
    let root : c.in-Some-2.root.bytes ≡ f.root = rw c.in-Some-2.is at hash in
    let same : record { origin = string_bytes c.in_ok-origin.origin; size = c.in-Some-read_size.size; root = c.in-Some-2.root.bytes } ≡ f =
    λ i. record { origin = origin i; size = size i; root = root i } in
    some_fields c.new.result _ f (c.new.ensures.found.1 (subst (λ (v : List ℕ). IsTrue (is_origin v)) (sym origin) is.origin)) c.new.ensures.value same
