-- The text of a checkpoint (C2SP tlog-checkpoint): the origin of a log, its size and its root hash, in three lines.
use Rattle.std.specs.Prelude.{◌≡◌, ℕ, ◌<◌, ◌^◌, List, ◌++◌, length, IsTrue, IsUtf8, decimal, string_bytes}
use Rattle.base64.specs.Engines.{standard}
use Rattle.base64.specs.GeneralPurpose.{IsBytes, encode_of}
use Rattle.rp_seal_text.specs.Lines.{three_lines}
use Rattle.rp_seal_text.specs.Origin.{is_origin}
use Rattle.rp_seal_text.specs.declared.checkpoint.Checkpoint.{Checkpoint}

-- what a checkpoint says: the origin of the log, how many entries the log has, and the root hash of its tree
pub record Fields : Type 0 where
  pub origin : List ℕ
  pub size : ℕ
  pub root : List ℕ

-- the fields of a checkpoint in memory
abbrev pub fields_of : Checkpoint → Fields
fields_of c = record { origin = string_bytes c.origin; size = c.size; root = c.root.bytes }

-- the fields are those of a checkpoint
pub record IsCheckpoint (f : Fields) : Type 0 where
  pub origin : IsTrue (is_origin f.origin)
  pub utf8 : IsUtf8 f.origin
  pub size : f.size < 2 ^ 64
  pub root : length f.root ≡ 32
  pub bytes : IsBytes f.root

-- the lines of a checkpoint: the origin, the size in decimal digits, the root hash in base64, each with a line end
abbrev pub lines_of : Fields → List ℕ
lines_of f = three_lines f.origin (decimal f.size) (encode_of standard f.root)

-- a text begins with the lines of a checkpoint; extension lines and signatures may follow
pub record BeginsWith (text : List ℕ) (f : Fields) : Type 0 where
  pub checkpoint : IsCheckpoint f
  pub rest : List ℕ
  pub begins : text ≡ lines_of f ++ rest
