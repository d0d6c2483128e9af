-- What the statements on entries do.
use Rattle.std.proofs.Common.{◌≡◌, ◌⊎◌, inl, inr, ℕ, ℤ, pos, negsuc, List, [], ◌∷◌, map, codes, Bool, true, false, not, ◌&&◌, cond, Option, option_map, Some, None, Ok, Err, Result, IfOk, OnOk, OnErr, refl, sym, ap, subst, subst₂, ◌∙◌}
use Rattle.std.specs.List.{flat_map}
use Rattle.sqlite.specs.declared.types.Value.{Value}
use Rattle.sqlite.specs.declared.types.Value.TheVariants.{Null, Int, Text}
use Rattle.sqlite.specs.Order.{Row}
use Rattle.sqlite.specs.Term.{Term, Env, lit, col}
use Rattle.sqlite.specs.Ops.{unary}
use Rattle.sqlite.specs.Values.{bound_value, or_null}
use Rattle.sqlite.specs.Query.{Query, inner, end, IsAnswer, output, page, Output}
use Rattle.sqlite.specs.Program.{overlay}
use Rattle.sqlite.specs.Kind.TheVariants.{Integer, Text as Wording}
use Rattle.sqlite.specs.Source.TheVariants.{Values}
use Rattle.sqlite.specs.Command.TheVariants.{Insert, Select, CreateTable}
use Rattle.sqlite.specs.Compile.{table_defined_by}
use Rattle.sqlite.specs.Edit.{Edit, Applies, edit_of, with_rowid}
use Rattle.sqlite.specs.Cast.{cast, cast_row}
use Rattle.sqlite.specs.Rowids.TheVariants.{Chosen}
use Rattle.sqlite.specs.Does.{Tally, Does, lacks_sequence}
use Rattle.sqlite.specs.Change.{created, next_tree}
use Rattle.std.proofs.lemmas.Bool.{cases_Bool}
use Rattle.std.proofs.lemmas.List.{append-nil}
use Rattle.sqlite.specs.Rows.{Written}
use Rattle.sqlite.specs.Tree.{Trees, rowid}
use Rattle.sqlite_tied.specs.Compute.{everything}
use Rattle.sqlite.specs.declared.error.Error.{Error}
use Rattle.sqlite.specs.Listing.{understood, reads_listing}
use Rattle.sqlite.specs.Effect.{Database}
use Rattle.sqlite.specs.State.{State, mode_of, Executes, ExecutesIn, Shown, ShowsRows, IsUnchanged, IsRolledBack, IsNotRun, Fails, CommitsBy, MayCommit, shows_rows, Writes}
use Rattle.sqlite.proofs.Callers.{IsPlain, command_of, statement_of, runs_as, reads_as, one_step}
use Rattle.sqlite_schema.specs.declared.schema.Keys.TheVariants.{Enforced}
use Rattle.sqlite_value.specs.declared.keys.Key.{Key}
use Rattle.sqlite.specs.Collation.TheVariants.{Binary}
use Rattle.sqlite_trees.proofs.ListLemmas.{map-map, pull_back}
use Rattle.rp_book_schema.specs.Entry.{entry_table, book_schema, no_schema, entries_in, shown_entry, entry_values, fields_of, told, Fields, GainsEntry, AddsEntry, LeavesCommit, ListsEntries, MakesTable}

abbrev pub create_text : List ℕ
create_text = codes "CREATE TABLE entry (number INTEGER PRIMARY KEY, first INTEGER NOT NULL, last INTEGER NOT NULL, added TEXT NOT NULL, who TEXT, deed TEXT, lines TEXT NOT NULL) STRICT"

abbrev pub insert_text : List ℕ
insert_text = codes "INSERT INTO entry (number, first, last, added, who, deed, lines) VALUES (?1, ?2, ?3, ?4, ?5, ?6, ?7)"

abbrev pub select_text : List ℕ
select_text = codes "SELECT number, first, last, added, who, deed, lines FROM entry ORDER BY number"

abbrev terms : List Term
terms = col 0 0 ∷ lit Null ∷ col 0 1 ∷ col 0 2 ∷ col 0 3 ∷ col 0 4 ∷ col 0 5 ∷ col 0 6 ∷ []

abbrev by_number : Key
by_number = record { collation = Binary; descending = false }

abbrev query : Query
query = record {
  from = inner 0 end;
  filter = [];
  group = None;
  project = col 1 0 ∷ col 1 2 ∷ col 1 3 ∷ col 1 4 ∷ col 1 5 ∷ col 1 6 ∷ col 1 7 ∷ [];
  distinct = false;
  collations = [];
  order = (col 1 0, by_number) ∷ [];
  limit = lit (Int (negsuc 0));
  offset = lit (Int (pos 0));
}

create_is : (command_of (understood no_schema create_text) ≡ CreateTable) × (statement_of create_text (understood no_schema create_text) ≡ create_text) × (table_defined_by create_text ≡ Ok entry_table)
unfolding understood everything
create_is = (refl, refl, refl)

insert_is : command_of (understood book_schema insert_text) ≡ Insert 0 (Values terms 8)
unfolding understood everything
insert_is = refl

select_is : (command_of (understood book_schema select_text) ≡ Select (record { lets = []; body = query }) (codes "number" ∷ codes "first" ∷ codes "last" ∷ codes "added" ∷ codes "who" ∷ codes "deed" ∷ codes "lines" ∷ [])) × (reads_listing book_schema select_text ≡ false)
unfolding understood everything
select_is = (refl, refl)

insert_plain : IsPlain (understood book_schema insert_text)
unfolding understood everything
insert_plain = (refl, refl)

select_plain : IsPlain (understood book_schema select_text)
unfolding understood everything
select_plain = (refl, refl)

either : (b : Bool) (x : Value) → cond b x x ≡ x
either true x = refl
either false x = refl

-- an integer stays one in a column of integers
cast_int : (n : ℤ) → cast Integer (Int n) ≡ Int n
unfolding unary
cast_int n = either _ (Int n)

-- a part that gave a value did not stop on the way
went : {B E R : Type 0} {b : B} {Stops : E → Type 0} → ((stop : E) × Stops stop × (Ok b ≡ Err stop)) ⊎ R → R
went (inl stopped) = absurd (let e = stopped.2 in cc)
went (inr on) = on

same_value : {B E : Type 0} {a b : B} → ◌≡◌ {A = Result B E} (Ok a) (Ok b) → a ≡ b
same_value e = cc

-- a rowid that is given stays
rowid_given : (rows : List Row) (row : Row) (n : ℤ) → rowid row ≡ Int n → with_rowid Chosen rows row ≡ row
rowid_given rows row n e = rw e

-- one row that is fresh is not taken
untaken : (b : Bool) → (not b && true) ≡ true → b ≡ false
untaken true h = absurd (cc)
untaken false h = refl

-- so does a text
cast_told : (text : Option (List ℕ)) → cast Wording (told text) ≡ told text
cast_told None = refl
cast_told (Some text) = refl

-- a text that is bound
bound_told : {X : Type 0} (f : X → List ℕ) (text : Option X) → bound_value (or_null (λ t. Text (f t)) text) ≡ told (option_map f text)
bound_told f None = refl
bound_told f (Some text) = refl

-- the values that are bound are those of the entry
pub values_are : {X : Type 0} (t : X → List ℕ) (number first last : ℕ) (added : List ℕ) (who deed : Option X) (lines : List ℕ) (a b c d e f : Value)
    → a ≡ Int (pos number) → b ≡ Int (pos first) → c ≡ Int (pos last) → d ≡ Text added → e ≡ or_null (λ x. Text (t x)) who → f ≡ or_null (λ x. Text (t x)) deed
    → bound_value a ∷ bound_value b ∷ bound_value c ∷ bound_value d ∷ bound_value e ∷ bound_value f ∷ Text lines ∷ []
    ≡ entry_values (fields_of number first last added (option_map t who) (option_map t deed) lines)
values_are t number first last added who deed lines a b c d e f ha hb hc hd he hf = rw (ha, hb, hc, hd, he, hf, bound_told t who, bound_told t deed) refl

module _ (e : Fields) where
  abbrev source : Row
  source = Int e.number ∷ Null ∷ Int e.first ∷ Int e.last ∷ Text e.added ∷ told e.who ∷ told e.deed ∷ Text e.lines ∷ []

  source_shown : shown_entry (cast_row entry_table source) ≡ entry_values e
  source_shown = rw (cast_int e.number, cast_int e.first, cast_int e.last, cast_told e.who, cast_told e.deed) refl

  -- what the statement makes of the rows
  gained : (s : State) (text : List ℕ) (tally : Tally) (after : Database) → s.now.schema ≡ book_schema
      → Does s.step_limit (mode_of s) (entry_values e) s.now text None (Insert 0 (Values terms 8)) (Ok (tally, after))
      → GainsEntry (entries_in s.now.trees) (entries_in after.trees) e × (after.schema ≡ book_schema)
  gained s text tally after has does =
      let db = s.now.trees in
      let done = went (subst (λ it. Does s.step_limit (mode_of s) (entry_values e) (record s.now { schema = it }) text None (Insert 0 (Values terms 8)) (Ok (tally, after))) has does) in
      let now = ap (λ (p : Tally × Database). p.1) (same_value (went (went done.2).2).2) in
      let given = went done.1 in
      let written = went (went given.2).2 in
      let counted = went written.2 in
      let trees : done.0.trees ≡ written.0 = ap (λ (it : Written). it.trees) (same_value counted.2) ∙ same_value counted.1 in
      let row = cast_row entry_table source in
      let edit : edit_of db entry_table [] Chosen 0 given.0 ≡ record { table = entry_table; gone = []; news = row ∷ [] } =
      ap (edit_of db entry_table [] Chosen 0) given.1.1 ∙ ap (λ (r : Row). record { table = entry_table; gone = []; news = r ∷ [] }) (rowid_given (db 0) row e.number (cast_int e.number)) in
      let applied = subst (λ (e : Edit). Applies book_schema Enforced db e written.0) edit (one_step book_schema Enforced db written.0 (edit_of db entry_table [] Chosen 0 given.0) refl written.1) in (
        record {
          row = row;
          shown = source_shown;
          free = untaken _ applied.fresh;
          put = ap (λ (d : Database). d.trees 0) now ∙ ap (λ (t : Trees). t 0) trees ∙ applied.rows;
        },
        ap (λ (d : Database). d.schema) now,
      )

  pub adds : (old new : State) (r : Result ℕ Error) → old.now.schema ≡ book_schema → Executes insert_text (entry_values e) old new r → OnOk r (AddsEntry old new e)
  adds old new (Err e) has h = tt
  adds old new (Ok count) has h =
      let w = runs_as insert_text (entry_values e) old new book_schema has (Insert 0 (Values terms 8)) insert_is insert_plain count h in
      let g = gained old (statement_of insert_text (understood book_schema insert_text)) w.tally new.now has w.changed in
      record {
        gains = g.0;
        schema = g.1;
        committed = λ auto. subst (λ b. new.committed ≡ cond b old.committed new.now) auto w.shown.committed_is;
        mode = w.shown.mode;
        is_open = w.shown.is_open;
      }

-- the ways to fill the one slot of a query of one table
one_slot : (g : Row → Env) (rows : List Row) → flat_map (λ r. g r ∷ []) rows ≡ map g rows
one_slot g [] = refl
one_slot g (r ∷ rows) = ap (λ l. g r ∷ l) (one_slot g rows)

pub lists : (old new : State) (rows : List Row) → old.now.schema ≡ book_schema → Shown select_text [] old new rows → ListsEntries (entries_in old.now.trees) rows
lists old new rows has h =
    let got = reads_as select_text [] old new book_schema has _ select_is.0 select_plain select_is.1 rows h in
    let a : IsAnswer query (overlay old.now.trees []) [] rows = got.answer Null in
    let f = λ (r : Row). output query ([] ∷ r ∷ []) in
    let staged : a.staged ≡ map (λ (r : Row). [] ∷ r ∷ []) (old.now.trees 0) = a.grouped ∙ one_slot (λ (r : Row). [] ∷ r ∷ []) (old.now.trees 0) in
    let kept : a.kept ≡ map f (old.now.trees 0) = a.distinct ∙ ap (map (output query)) staged ∙ map-map (output query) (λ (r : Row). [] ∷ r ∷ []) (old.now.trees 0) in
    let back = pull_back f a.kept a.ordered a.same (old.now.trees 0) kept in
    record {
      ordered = back.0;
      same = back.1;
      are = a.shown ∙ ap (λ xs. page query [] (map (λ (p : Output). p.1) xs)) back.2 ∙ map-map (λ (p : Output). p.1) f back.0;
    }

-- a failed statement
fails_alone : (old new : State) (U : Type 0) (e : Error) → Fails old new U e → IsRolledBack old new
fails_alone old new U e h = h.3

not_run : (old new : State) (sql : List ℕ) (params : Row) (e : Error) → IsNotRun old new sql params e → LeavesCommit old new
unfolding IsNotRun
not_run old new sql params e (inl h) = inl h.1
not_run old new sql params e (inr h) = inr (fails_alone old new _ e h)

-- a statement that fails leaves the last commit
pub leaves : (old new : State) (sql : List ℕ) (params : Row) (e : Error) → Executes sql params old new (Err e) → LeavesCommit old new
unfolding ExecutesIn
leaves old new sql params e (inl h) = not_run old new sql params e h
leaves old new sql params e (inr h) =
    elim (cases_Bool (shows_rows false h.0)) [
      | inl shows ↦ inl (rw shows at h.2).1
      | inr runs ↦ elim (rw runs at h.2) [ inl refused ↦ inl refused.1 | inr failed ↦ inr (fails_alone old new _ e failed) ]
    ]

pub leaves_on : (old new : State) (sql : List ℕ) (params : Row) (r : Result ℕ Error) → Executes sql params old new r → OnErr r (LeavesCommit old new)
leaves_on old new sql params (Ok count) h = tt
leaves_on old new sql params (Err e) h = leaves old new sql params e h

-- what the statement commits
pub commits : (e : Fields) (s : State) (db : Trees) → s.now.schema ≡ book_schema
    → CommitsBy insert_text (entry_values e) s db → GainsEntry (entries_in s.now.trees) (entries_in db) e
unfolding CommitsBy
commits e s db has h =
    let params = entry_values e in
    let known = sym h.1.is ∙ ap (λ t. understood t insert_text) has in
    let bare = subst IsPlain (sym known) insert_plain in
    let may = subst₂ (λ k t. MayCommit s None k t params db) (ap command_of known ∙ insert_is) (ap (statement_of insert_text) known) (rw (bare.0, bare.1, append-nil params) at h.2) in
    elim may [
      | inl ends ↦ elim ends.0 [ inl commit ↦ absurd (cc) | inr release ↦ absurd (let e = release.2 in cc) ]
      | inr writes ↦ subst (λ (t : Trees). GainsEntry (entries_in s.now.trees) (entries_in t) e) (sym writes.5)
          (gained e s (statement_of insert_text (understood book_schema insert_text)) writes.1 writes.2 has writes.3).0
    ]

pub lists_on : {V E : Type 0} (items : V → List Row) (old new : State) (r : Result V E) → old.now.schema ≡ book_schema → IfOk r (λ v. Shown select_text [] old new (items v))
    → IfOk r (λ v. ListsEntries (entries_in old.now.trees) (items v))
lists_on items old new (Err e) has h = tt
lists_on items old new (Ok v) has h = lists old new (items v) has h

-- a query changes nothing
rests : (old new : State) (rows : List Row) → old.now.schema ≡ book_schema → Shown select_text [] old new rows → IsUnchanged old new
unfolding Shown
rests old new rows has h =
    let known = sym h.1.is ∙ ap (λ t. understood t select_text) has in
    let bare = subst IsPlain (sym known) select_plain in
    (subst (ShowsRows old new select_text h.0 _ rows) bare.0 h.2).3

pub rests_on : {V E : Type 0} (items : V → List Row) (old new : State) (r : Result V E) → old.now.schema ≡ book_schema → IfOk r (λ v. Shown select_text [] old new (items v)) → OnOk r (IsUnchanged old new)
rests_on items old new (Err e) has h = tt
rests_on items old new (Ok v) has h = rests old new (items v) has h

create_plain : IsPlain (understood no_schema create_text)
unfolding understood everything
create_plain = (refl, refl)

pub makes : (old new : State) (r : Result ℕ Error) → old.now.schema ≡ no_schema → Executes create_text [] old new r → OnOk r (MakesTable old new)
makes old new (Err e) has h = tt
makes old new (Ok count) has h =
    let w = subst (λ t. Writes old new None CreateTable t [] count) create_is.1 (runs_as create_text [] old new no_schema has CreateTable create_is.0 create_plain count h) in
    let all = went w.changed in
    let first = went all.1 in
    let made = first.1 in
    let both : Ok made.table ≡ Ok entry_table = sym made.defined ∙ create_is.2 in
    let same : made.table ≡ entry_table = cc in
    let schema : first.0.schema ≡ book_schema = made.is ∙ ap (λ s. created s made.table) has ∙ ap (created no_schema) same in
    let plain : lacks_sequence first.0.schema ≡ false = ap lacks_sequence schema in
    let now : new.now ≡ first.0 = ap (λ (p : Tally × Database). p.1) (same_value all.2) ∙ same_value (rw plain at first.2) in
    record {
      schema = ap (λ (d : Database). d.schema) now ∙ schema;
      empty = ap (λ (d : Database). d.trees 0) now ∙ subst (λ s. first.0.trees (next_tree s) ≡ []) has made.empty;
      committed = λ auto. subst (λ b. new.committed ≡ cond b old.committed new.now) auto w.shown.committed_is;
      mode = w.shown.mode;
      is_open = w.shown.is_open;
    }

pub adds_by : (old new : State) (r : Result ℕ Error) (params : Row) (e : Fields) → params ≡ entry_values e → old.now.schema ≡ book_schema → Executes insert_text params old new r → OnOk r (AddsEntry old new e)
adds_by old new r params e v has h = adds e old new r has (subst (λ p. Executes insert_text p old new r) v h)

pub commits_by : (s : State) (db : Trees) (params : Row) (e : Fields) → params ≡ entry_values e → s.now.schema ≡ book_schema → CommitsBy insert_text params s db
    → GainsEntry (entries_in s.now.trees) (entries_in db) e
commits_by s db params e v has h = commits e s db has (subst (λ p. CommitsBy insert_text p s db) v h)
