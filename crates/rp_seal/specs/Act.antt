-- The bytes of an act: the entry that the tree of a seal has for it.
use Rattle.std.specs.Prelude.{ℕ, ◌<◌, ◌^◌, List, [], ◌∷◌, ◌++◌, length, Option, Some, None, option_map, IfSome}
use Rattle.std.specs.Int.{w32, w64, to_be_bytes}
use Rattle.rp_seal.specs.declared.act.SealedAct.{SealedAct}

-- an act: its number, the numbers of its first and last line, when it was added, by whom and under which deed, and its lines
pub record ActEntry : Type 0 where
  pub number : ℕ
  pub first : ℕ
  pub last : ℕ
  pub added : List ℕ
  pub who : Option (List ℕ)
  pub deed : Option (List ℕ)
  pub lines : List ℕ

-- an act in memory, by its values
abbrev pub entry_of : SealedAct → ActEntry
entry_of a = record {
  number = a.number;
  first = a.first;
  last = a.last;
  added = a.added.now;
  who = option_map (λ t. t.now) a.who;
  deed = option_map (λ t. t.now) a.deed;
  lines = a.lines.now;
}

-- the length of a text as eight bytes, high byte first, and the text
abbrev pub text_bytes : List ℕ → List ℕ
text_bytes text = to_be_bytes w64 (length text) ++ text

-- a byte 0 if there is no text; otherwise a byte 1 and the bytes of the text
abbrev pub option_bytes : Option (List ℕ) → List ℕ
option_bytes None = 0 ∷ []
option_bytes (Some text) = 1 ∷ text_bytes text

-- the three numbers as four bytes each, high byte first, and then the texts
abbrev pub act_bytes : ActEntry → List ℕ
act_bytes a = to_be_bytes w32 a.number ++ (to_be_bytes w32 a.first ++ (to_be_bytes w32 a.last
    ++ (text_bytes a.added ++ (option_bytes a.who ++ (option_bytes a.deed ++ text_bytes a.lines)))))

-- the numbers fit four bytes and the lengths eight, as those of every act in memory do
pub record IsEncodable (a : ActEntry) : Type 0 where
  pub number : a.number < 2 ^ 32
  pub first : a.first < 2 ^ 32
  pub last : a.last < 2 ^ 32
  pub added : length a.added < 2 ^ 64
  pub who : IfSome a.who (λ t. length t < 2 ^ 64)
  pub deed : IfSome a.deed (λ t. length t < 2 ^ 64)
  pub lines : length a.lines < 2 ^ 64
