-- The layers that lines choose, and the set in which they are looked up.
use Rattle.std.proofs.Common.{◌≡◌, ◌≤◌, ℕ, Bool, true, false, ◌||◌, if◌then◌else◌, List, [], ◌∷◌, ◌++◌, drop, length, Option, None, Some, IfSome, refl, sym, ap, subst, ◌∙◌, true≢false, append_assoc, length-append, arith}
use Rattle.std.specs.List.{cons_option, filter_map, list_any}
use Rattle.std.proofs.lemmas.List.{append-nil, drop_at}
use Rattle.indexmap.specs.IndexSet.{insert_all}
use Rattle.rp_language.specs.Name.{Label, label_eq, is_among}
use Rattle.rp_model.specs.states.State.{base_layer}
use Rattle.rp_states.proofs.Labels.{label_is}
use Rattle.rp_history.proofs.Placed.{key_found}
use Rattle.rp_reports.specs.Report.{script_lines}
use Rattle.rp_scripts.proofs.RefusalLemmas.{list_any-append}
use Rattle.rp_book_service.specs.Layers.{HasAddition, IsAdded, IsAddition, first_layers, layer_of_line, layers_of, lines_in, unknown_of}
use Rattle.rp_book_service.specs.Added.{ended}
use Rattle.rp_book_service.specs.declared.add.Outcome.{Outcome}
use Rattle.rp_book_service.specs.declared.add.Outcome.TheVariants.{Added, Empty, Refused}
use Rattle.rp_book_service.specs.declared.layers.Addition.{Addition}

-- the layers of lines are inserted one line after the other
pub insert_all-line : (keys : List Label) (line : List ℕ) (text rest : List ℕ) → script_lines text ≡ line ∷ script_lines rest
    → insert_all label_eq (insert_all label_eq keys (cons_option (layer_of_line line) [])) (layers_of rest) ≡ insert_all label_eq keys (layers_of text)
insert_all-line keys line text rest e = go (layer_of_line line) ∙ sym (ap (λ (lines : List (List ℕ)). insert_all label_eq keys (filter_map layer_of_line lines)) e)
  where
    go : (o : Option Label) → insert_all label_eq (insert_all label_eq keys (cons_option o [])) (layers_of rest) ≡ insert_all label_eq keys (cons_option o (layers_of rest))
    go None = refl
    go (Some x) = refl

-- labels that are inserted come behind the known ones, each that is not known, in order
pub insert_all-unknown : (known xs : List Label) → insert_all label_eq known xs ≡ known ++ unknown_of known xs
insert_all-unknown known [] = sym (append-nil known)
insert_all-unknown known (x ∷ xs) =
    ap (λ (b : Bool). insert_all label_eq (if b then known else known ++ x ∷ []) xs) (key_found x known)
    ∙ go (is_among x known) (insert_all-unknown known xs) (insert_all-unknown (known ++ x ∷ []) xs)
  where
    go : (b : Bool) → insert_all label_eq known xs ≡ known ++ unknown_of known xs → insert_all label_eq (known ++ x ∷ []) xs ≡ (known ++ x ∷ []) ++ unknown_of (known ++ x ∷ []) xs
        → insert_all label_eq (if b then known else known ++ x ∷ []) xs ≡ known ++ (if b then unknown_of known xs else x ∷ unknown_of (known ++ x ∷ []) xs)
    go true same more = same
    go false same more = more ∙ append_assoc known (x ∷ []) (unknown_of (known ++ x ∷ []) xs)

-- if a label is in one list iff it is in another, that stays so with the same labels behind both
among_front : (y : Label) (xs also zs : List Label) → is_among y xs ≡ is_among y also → is_among y (xs ++ zs) ≡ is_among y (also ++ zs)
among_front y xs also zs h =
    sym (key_found y (xs ++ zs)) ∙ list_any-append (label_eq y) xs zs ∙ ap (λ (b : Bool). b || list_any (label_eq y) zs) (key_found y xs ∙ h ∙ sym (key_found y also))
    ∙ sym (list_any-append (label_eq y) also zs) ∙ key_found y (also ++ zs)

-- a known label may be named again
among_again : (y x : Label) (known xs : List Label) → is_among x known ≡ true → is_among y (known ++ xs) ≡ is_among y (known ++ x ∷ xs)
among_again y x known xs h =
    sym (key_found y (known ++ xs)) ∙ list_any-append (label_eq y) known xs
    ∙ absorbed (list_any (label_eq y) known) (label_eq y x) (list_any (label_eq y) xs) (λ e. key_found y known ∙ ap (λ (z : Label). is_among z known) (label_is y x e) ∙ h)
    ∙ sym (list_any-append (label_eq y) known (x ∷ xs)) ∙ key_found y (known ++ x ∷ xs)
  where
    absorbed : (k e r : Bool) → (e ≡ true → k ≡ true) → (k || r) ≡ (k || (e || r))
    absorbed true e r h = refl
    absorbed false false r h = refl
    absorbed false true r h = absurd (true≢false (sym (h refl)))

-- the set has the labels that were inserted and no others
is_among-inserted : (y : Label) (known xs : List Label) → is_among y (insert_all label_eq known xs) ≡ is_among y (known ++ xs)
is_among-inserted y known [] = ap (is_among y) (sym (append-nil known))
is_among-inserted y known (x ∷ xs) =
    ap (λ (b : Bool). is_among y (insert_all label_eq (if b then known else known ++ x ∷ []) xs)) (key_found x known)
    ∙ go (is_among x known) refl (is_among-inserted y known xs) (is_among-inserted y (known ++ x ∷ []) xs)
  where
    go : (b : Bool) → is_among x known ≡ b → is_among y (insert_all label_eq known xs) ≡ is_among y (known ++ xs) → is_among y (insert_all label_eq (known ++ x ∷ []) xs) ≡ is_among y ((known ++ x ∷ []) ++ xs)
        → is_among y (insert_all label_eq (if b then known else known ++ x ∷ []) xs) ≡ is_among y (known ++ x ∷ xs)
    go true e same more = same ∙ among_again y x known xs e
    go false e same more = more ∙ ap (is_among y) (append_assoc known (x ∷ []) xs)

-- which labels are new depends on which are known, and not on their order
unknown_of-same : (known also xs : List Label) → ((y : Label) → is_among y known ≡ is_among y also) → unknown_of known xs ≡ unknown_of also xs
unknown_of-same known also [] h = refl
unknown_of-same known also (x ∷ xs) h =
    ap (λ (b : Bool). if b then unknown_of known xs else x ∷ unknown_of (known ++ x ∷ []) xs) (h x)
    ∙ go (is_among x also) (unknown_of-same known also xs h) (unknown_of-same (known ++ x ∷ []) (also ++ x ∷ []) xs (λ y. among_front y known also (x ∷ []) (h y)))
  where
    go : (b : Bool) → unknown_of known xs ≡ unknown_of also xs → unknown_of (known ++ x ∷ []) xs ≡ unknown_of (also ++ x ∷ []) xs
        → (if b then unknown_of known xs else x ∷ unknown_of (known ++ x ∷ []) xs) ≡ (if b then unknown_of also xs else x ∷ unknown_of (also ++ x ∷ []) xs)
    go true same more = same
    go false same more = ap (λ (zs : List Label). x ∷ zs) more

-- inserted labels do not make the set smaller
pub length-inserted : (known all xs : List Label) → all ≡ insert_all label_eq known xs → length known ≤ length all
length-inserted known all xs e = omega (arith, ap length (e ∙ insert_all-unknown known xs), length-append known (unknown_of known xs))

-- behind the layers of the script the set has those that the lines choose for the first time
pub first_layers-inserted : (script lines : List ℕ) (base known all : List Label) → base ≡ base_layer ∷ [] → known ≡ insert_all label_eq base (layers_of script) → all ≡ insert_all label_eq known (layers_of lines)
    → drop (length known) all ≡ first_layers script lines
first_layers-inserted script lines base known all first second third =
    let names : (y : Label) → is_among y known ≡ is_among y (base_layer ∷ layers_of script) =
    λ y. ap (is_among y) second ∙ is_among-inserted y base (layers_of script) ∙ ap (λ (ls : List Label). is_among y (ls ++ layers_of script)) first in
    ap (λ (ls : List Label). drop (length known) ls) (third ∙ insert_all-unknown known (layers_of lines))
    ∙ drop_at known (unknown_of known (layers_of lines)) (length known) refl
    ∙ unknown_of-same known (base_layer ∷ layers_of script) (layers_of lines) names

-- the outcome of lines that were added says of the script that a book tells what they do with layers
pub HasAddition-added : (told : Option (List ℕ)) (text lines : List ℕ) (addition : Addition) (done : Outcome) → IfSome told (λ kept. text ≡ kept) → IsAddition text lines addition → IsAdded lines addition done → HasAddition told lines done
HasAddition-added None text lines addition (Added also) same h is = tt
HasAddition-added (Some kept) text lines addition (Added also) same h is = subst (λ (a : Addition). IsAddition kept lines a) (sym is) (subst (λ (s : List ℕ). IsAddition s lines addition) same h)
HasAddition-added told text lines addition Empty same h is = is
HasAddition-added told text lines addition Refused same h is = absurd is

-- the outcome says it of the lines that a source gave
pub HasAddition-read : (told left : Option (List ℕ)) (layer : Option Label) (text lines : List ℕ) (addition : Addition) (done : Outcome) → IfSome told (λ kept. text ≡ kept) → IfSome left (λ input. lines ≡ lines_in layer (ended input))
    → IsAddition text lines addition → IsAdded lines addition done → IfSome left (λ input. HasAddition told (lines_in layer (ended input)) done)
HasAddition-read told None layer text lines addition done same is h added = tt
HasAddition-read told (Some input) layer text lines addition done same is h added = subst (λ (ls : List ℕ). HasAddition told ls done) is (HasAddition-added told text lines addition done same h added)
