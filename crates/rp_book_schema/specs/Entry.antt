-- The table of entries, and the effect of statements on it.
use Rattle.std.specs.Prelude.{◌≡◌, ◌⊎◌, ℕ, ℤ, pos, Bool, true, false, IsTrue, List, [], ◌∷◌, map, Option, None, Some, codes}
use Rattle.std.specs.List.Sorted.{IsPermutation}
use Rattle.sqlite.specs.Collation.TheVariants.{Binary}
use Rattle.sqlite.specs.declared.types.Value.{Value}
use Rattle.sqlite.specs.declared.types.Value.TheVariants.{Null, Int, Text as Words}
use Rattle.sqlite.specs.Order.{Row, column}
use Rattle.sqlite.specs.Table.{Table}
use Rattle.sqlite.specs.Schema.{Schema}
use Rattle.sqlite.specs.Kind.{Kind}
use Rattle.sqlite.specs.Kind.TheVariants.{Integer, Text}
use Rattle.sqlite.specs.Tree.{Trees, put_row}
use Rattle.sqlite.specs.Edit.{is_taken}
use Rattle.sqlite.specs.State.{State, IsUnchanged, IsRolledBack}
use Rattle.sqlite_schema.specs.declared.schema.Column.{Column}

-- a column of a strict table
abbrev pub entry_column : List ℕ → Kind → Bool → Column
entry_column name kind needed = record { name = name; kind = kind; is_strict = true; not_null = needed; default = Null; collation = Binary }

-- the columns of the table of entries
abbrev pub entry_columns : List Column
entry_columns =
    entry_column (codes "number") Integer false ∷ entry_column (codes "first") Integer true ∷ entry_column (codes "last") Integer true
    ∷ entry_column (codes "added") Text true ∷ entry_column (codes "who") Text false ∷ entry_column (codes "deed") Text false
    ∷ entry_column (codes "lines") Text true ∷ []

-- the table of entries
abbrev pub entry_table : Table
entry_table = record {
  name = codes "entry";
  tree = 0;
  columns = entry_columns;
  key = Some 0;
  primary = 0 ∷ [];
  uniques = [];
  orders = [];
  checks = [];
  references = [];
  computed = [];
  stamps = record { places = []; terms = []; formats = [] };
  is_counted = false;
}

-- the schema of a book
abbrev pub book_schema : Schema
book_schema = record { tables = entry_table ∷ []; indexes = []; views = [] }

-- the schema of an empty database
abbrev pub no_schema : Schema
no_schema = record { tables = []; indexes = []; views = [] }

-- the rows of the table `entry`
abbrev pub entries_in : Trees → List Row
entries_in db = db 0

-- what an entry says: its number, the numbers of its first and its last line, when it was added, by whom and under which deed, and its lines
pub record Fields : Type 0 where
  pub number : ℤ
  pub first : ℤ
  pub last : ℤ
  pub added : List ℕ
  pub who : Option (List ℕ)
  pub deed : Option (List ℕ)
  pub lines : List ℕ

-- the values of an entry to be added
abbrev pub fields_of : ℕ → ℕ → ℕ → List ℕ → Option (List ℕ) → Option (List ℕ) → List ℕ → Fields
fields_of number first last added who deed lines = record {
  number = pos number;
  first = pos first;
  last = pos last;
  added = added;
  who = who;
  deed = deed;
  lines = lines;
}

-- a text as a value; null if there is none
abbrev pub told : Option (List ℕ) → Value
told None = Null
told (Some text) = Words text

-- the values of an entry, as its statement takes them and a query of all columns shows them
abbrev pub entry_values : Fields → Row
entry_values e = Int e.number ∷ Int e.first ∷ Int e.last ∷ Words e.added ∷ told e.who ∷ told e.deed ∷ Words e.lines ∷ []

-- the columns of an entry that a query of all columns shows
abbrev pub shown_entry : Row → Row
shown_entry row = column row 0 ∷ column row 2 ∷ column row 3 ∷ column row 4 ∷ column row 5 ∷ column row 6 ∷ column row 7 ∷ []

-- an entry with these values was added to the rows, none of which had its number
pub record GainsEntry (rows after : List Row) (entry : Fields) : Type 0 where
  pub row : Row
  pub shown : shown_entry row ≡ entry_values entry
  pub free : is_taken rows row ≡ false
  pub put : after ≡ put_row row rows

-- an entry was added to the table, and committed
pub record AddsEntry (old new : State) (entry : Fields) : Type 0 where
  pub gains : GainsEntry (entries_in old.now.trees) (entries_in new.now.trees) entry
  pub schema : new.now.schema ≡ book_schema
  pub committed : old.in_transaction ≡ false → new.committed ≡ new.now
  pub mode : new.in_transaction ≡ old.in_transaction
  pub is_open : IsTrue new.is_open

-- nothing was committed, and what was begun is undone
abbrev pub LeavesCommit : State → State → Type 0
LeavesCommit old new = IsUnchanged old new ⊎ IsRolledBack old new

-- the table was created, and has no row
pub record MakesTable (old new : State) : Type 0 where
  pub schema : new.now.schema ≡ book_schema
  pub empty : entries_in new.now.trees ≡ []
  pub committed : old.in_transaction ≡ false → new.committed ≡ new.now
  pub mode : new.in_transaction ≡ old.in_transaction
  pub is_open : IsTrue new.is_open

-- the answer shows the entries, each once
pub record ListsEntries (rows shown : List Row) : Type 0 where
  pub ordered : List Row
  pub same : IsPermutation rows ordered
  pub are : shown ≡ map shown_entry ordered
