-- Lots without parts: what is told of them is what is told of the lots.
use Rattle.std.proofs.Common.{◌≡◌, Bool, true, false, not, List, [], ◌∷◌, ◌++◌, map, length, Result, Ok, Err, refl, ap, ◌∙◌, subst}
use Rattle.std.proofs.lemmas.List.{length-map}
use Rattle.rp_algebra.proofs.Lists.{images_twice}
use Rattle.rp_language.specs.Name.{Label, is_among}
use Rattle.rp_semantics.specs.Walk.{Outcome, done, stopped, Walk, pass}
use Rattle.rp_model.specs.states.State.{Lot, PlainState, Traced, trace, lineage, bare_lot, live_lots, ids_of}
use Rattle.rp_model.specs.commands.Verdict.{Verdict, unknown, entry_of, lot_lines}
use Rattle.rp_model.specs.commands.Checks.{refuse_if}
use Rattle.rp_model.specs.commands.Reply.{Reply, reply_lines, check}
use Rattle.rp_model.specs.commands.History.{row_history}
use Rattle.rp_history.specs.Lots.{lots_in}
use Rattle.rp_lists.specs.Listed.{Listed}
use Rattle.rp_answer.specs.declared.answer.Verdict.{Verdict as CodeVerdict}
use Rattle.rp_oracle.specs.declared.stopped.Stopped.TheVariants.{Wrong, TakenWrong, LimitReported, Limit, Memory}
use Rattle.rp_history.proofs.Bare.{bare_ids, bare_live}
use Rattle.rp_answer.specs.declared.reply.RowEnd.{RowEnd}
use Rattle.rp_answer.specs.declared.reply.RowEnd.TheVariants.{Refused, Stopped as StoppedEnd}
use Rattle.rp_rows.specs.Lots.{list_lines, TellsHistory}
use Rattle.rp_answer.specs.Replies.{Tells}

-- and their lines
pub bare_lines : (lots : List (Lot (Unit {0}))) → lot_lines (map bare_lot lots) ≡ lot_lines lots
bare_lines lots = images_twice bare_lot (λ (l : Lot (Unit {0})). Verdict.lot (entry_of l)) lots

-- one step of a trace
abbrev traced_on : Lot (Unit {0}) → Traced (Unit {0}) → Traced (Unit {0})
traced_on l later = elim (is_among l.id later.wanted) [ true ↦ record { lots = l ∷ later.lots; wanted = l.origins ++ later.wanted } | false ↦ later ]

-- a trace without parts
abbrev bare_traced : Traced (Unit {0}) → Traced (Unit {0})
bare_traced t = record { lots = map bare_lot t.lots; wanted = t.wanted }

-- it goes the same way
traced_bare : (x : Label) (lots : List (Lot (Unit {0}))) → trace x (map bare_lot lots) ≡ bare_traced (trace x lots)
traced_bare x [] = refl
traced_bare x (l ∷ lots) = ap (traced_on (bare_lot l)) (traced_bare x lots) ∙ by (is_among l.id (trace x lots).wanted)
  where
    by : (b : Bool) → elim b as (λ _. Traced (Unit {0})) [ true ↦ record { lots = bare_lot l ∷ map bare_lot (trace x lots).lots; wanted = l.origins ++ (trace x lots).wanted } | false ↦ bare_traced (trace x lots) ]
        ≡ bare_traced (elim b as (λ _. Traced (Unit {0})) [ true ↦ record { lots = l ∷ (trace x lots).lots; wanted = l.origins ++ (trace x lots).wanted } | false ↦ trace x lots ])
    by true = refl
    by false = refl

-- so the lots that a lot was made from are the same
pub bare_lineage : (x : Label) (lots : List (Lot (Unit {0}))) → lineage x (map bare_lot lots) ≡ map bare_lot (lineage x lots)
unfolding lineage
bare_lineage x lots = ap (λ (t : Traced (Unit {0})). t.lots) (traced_bare x lots)

-- ---- `list`

-- the lines of the live lots are the same
pub bare_list : (lots kept : List (Lot (Unit {0}))) → kept ≡ map bare_lot lots → list_lines kept ≡ list_lines lots
bare_list lots kept bare =
    let live : live_lots kept ≡ map bare_lot (live_lots lots) = ap live_lots bare ∙ bare_live lots in
    ap (λ (ls : List (Lot (Unit {0}))). Verdict.parcels (length ls) ∷ lot_lines ls) live ∙ (λ i. Verdict.parcels (length-map (live_lots lots) bare_lot i) ∷ bare_lines (live_lots lots) i)

-- ---- `history`

-- the row of a lineage, by whether the id was ever registered, and its lines
abbrev told_by : {W : Type 0} → Label → Bool → List Verdict → Walk W Reply
told_by x there lines = check (refuse_if (not there) (unknown x)) (pass (reply_lines lines))

-- the same outcome, beside other work
abbrev beside : {V W A : Type 0} → W → Outcome V A → Outcome W A
beside w (done x v) = done x w
beside w (stopped e v) = stopped e w

-- it tells the same
tells_beside : {V W : Type 0} (r : Result (Listed CodeVerdict) RowEnd) (v : V) (w : W) (o : Outcome V Reply) → Tells r v o → Tells r w (beside w o)
tells_beside (Ok lines) v w o h = ap (beside w) h
tells_beside (Err (Refused r)) v w o h = ap (beside w) h
tells_beside (Err (StoppedEnd Wrong)) v w o h = ap (beside w) h
tells_beside (Err (StoppedEnd TakenWrong)) v w o h = ap (beside w) h
tells_beside (Err (StoppedEnd LimitReported)) v w o h = ap (beside w) h
tells_beside (Err (StoppedEnd Limit)) v w o h = ap (beside w) h
tells_beside (Err (StoppedEnd (Memory e))) v w o h = tt

-- the row is that of the lots
bare_row : {W : Type 0} (s : PlainState) (x : Label) (kept : List (Lot (Unit {0}))) (w : W) → kept ≡ map bare_lot s.lots → beside w (row_history (lots_in [] kept) x (tt {0})) ≡ row_history s x w
bare_row {W} s x kept w bare =
    let there : is_among x (ids_of kept) ≡ is_among x (ids_of s.lots) = ap (λ (ls : List (Lot (Unit {0}))). is_among x (ids_of ls)) bare ∙ ap (is_among x) (bare_ids s.lots) in
    let same : lineage x kept ≡ map bare_lot (lineage x s.lots) = ap (lineage x) bare ∙ bare_lineage x s.lots in
    let lines : (Verdict.lots (length (lineage x kept)) ∷ lot_lines (lineage x kept)) ≡ (Verdict.lots (length (lineage x s.lots)) ∷ lot_lines (lineage x s.lots))
    = ap (λ (ls : List (Lot (Unit {0}))). Verdict.lots (length ls) ∷ lot_lines ls) same ∙ (λ i. Verdict.lots (length-map (lineage x s.lots) bare_lot i) ∷ bare_lines (lineage x s.lots) i) in
    by (is_among x (ids_of kept)) (Verdict.lots (length (lineage x kept)) ∷ lot_lines (lineage x kept)) ∙ (λ i. told_by x (there i) (lines i) w)
  where
    by : (b : Bool) (lines : List Verdict) → beside w (told_by x b lines (tt {0})) ≡ told_by x b lines w
    by true lines = refl
    by false lines = refl

-- so what was told of lots without parts is told of the lots
pub bare_told : {W : Type 0} (r : Result (Listed CodeVerdict) RowEnd) (s : PlainState) (x : Label) (kept : List (Lot (Unit {0}))) (w : W) → kept ≡ map bare_lot s.lots → TellsHistory r x kept → Tells r w (row_history s x w)
bare_told r s x kept w bare h = subst (λ (o : Outcome _ Reply). Tells r w o) (bare_row s x kept w bare) (tells_beside r (tt {0}) w (row_history (lots_in [] kept) x (tt {0})) h)
