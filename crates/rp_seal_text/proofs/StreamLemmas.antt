-- The acts of a stream, one after the other.
use Rattle.std.proofs.Common.{◌≡◌, ℕ, ◌<◌, List, [], ◌∷◌, ◌++◌, length, get_or, ap, sym, ◌∙◌, arith, append-nil, append_assoc, length-append}
use Rattle.std.proofs.lemmas.Grind.{flat_map-append}
use Rattle.std.proofs.lemmas.List.Elements.{All-head, All-tail}
use Rattle.rp_seal.specs.Act.{ActEntry}
use Rattle.rp_seal_text.specs.ActText.{IsActText, act_text, end_line}
use Rattle.std.specs.Prelude.{All, flat_map}

-- the texts of acts and of one more act are their texts and its text
pub act_texts-push : (acts : List ActEntry) (act : ActEntry) → flat_map act_text (acts ++ act ∷ []) ≡ flat_map act_text acts ++ act_text act
act_texts-push acts act =
    flat_map-append act_text acts (act ∷ []) ∙ ap (λ v. flat_map act_text acts ++ v) (append-nil (act_text act))

-- no text begins both with an act and with the last line of a stream
pub act-no-end : (act : ActEntry) (count : ℕ) (rest : List ℕ) → act_text act ++ rest ≡ end_line count → ⊥
act-no-end act count rest same =
    let first : 97 ≡ 101 = ap (λ (v : List ℕ). get_or v 0 0) same in
    absurd (omega (arith, first))

-- what follows the text of an act is shorter than the text and what follows it
pub shorter-after : (text : List ℕ) (act : ActEntry) (rest : List ℕ) → text ≡ act_text act ++ rest → length rest < length text
shorter-after text act rest is =
    let some : 0 < length (act_text act) = omega arith in
    omega (arith, ap length is, length-append (act_text act) rest, some)

-- of the acts of a stream some are read, and a text has the others and the stream's last line
pub record IsLeft (acts read : List ActEntry) (text : List ℕ) : Type 0 where
  pub left : List ActEntry
  pub all : acts ≡ read ++ left
  pub are : All IsActText left
  pub begins : text ≡ flat_map act_text left ++ end_line (length acts)

-- of the acts of a stream some are read, and a text has the next one, the others, and the stream's last line
pub record IsNext (acts read : List ActEntry) (text : List ℕ) : Type 0 where
  pub act : ActEntry
  pub left : List ActEntry
  pub all : acts ≡ read ++ act ∷ left
  pub act_is : IsActText act
  pub are : All IsActText left
  pub begins : text ≡ act_text act ++ (flat_map act_text left ++ end_line (length acts))

next_of : (acts read : List ActEntry) (text : List ℕ) (found : ActEntry) (rest : List ℕ) (left : List ActEntry) → acts ≡ read ++ left → All IsActText left
    → text ≡ flat_map act_text left ++ end_line (length acts) → text ≡ act_text found ++ rest → IsNext acts read text
next_of acts read text found rest [] all are is begins = absurd (act-no-end found (length acts) rest (sym begins ∙ is))
next_of acts read text found rest (act ∷ left) all are is begins = record {
  act = act;
  left = left;
  all = all;
  act_is = All-head IsActText act left are;
  are = All-tail IsActText act left are;
  begins = is ∙ append_assoc (act_text act) (flat_map act_text left) (end_line (length acts));
}

-- if a text begins with an act, an act is left
pub next_left : (acts read : List ActEntry) (text : List ℕ) (found : ActEntry) (rest : List ℕ) → IsLeft acts read text → text ≡ act_text found ++ rest
    → IsNext acts read text
next_left acts read text found rest l begins = next_of acts read text found rest l.left l.all l.are l.begins begins

-- after the next act is read, the others are left
pub left_after : (acts read read_now : List ActEntry) (text text_now : List ℕ) (n : IsNext acts read text) → read_now ≡ read ++ n.act ∷ []
    → text_now ≡ flat_map act_text n.left ++ end_line (length acts) → IsLeft acts read_now text_now
left_after acts read read_now text text_now n more is = record {
  left = n.left;
  all = n.all ∙ sym (append_assoc read (n.act ∷ []) n.left) ∙ ap (λ v. v ++ n.left) (sym more);
  are = n.are;
  begins = is;
}

all_read : (acts read : List ActEntry) (text : List ℕ) (left : List ActEntry) → acts ≡ read ++ left → All IsActText left
    → text ≡ flat_map act_text left ++ end_line (length acts)
    → ((act : ActEntry) (rest : List ℕ) → IsActText act → text ≡ act_text act ++ rest → ⊥) → (read ≡ acts) × (text ≡ end_line (length acts))
all_read acts read text [] all are is none = (sym (all ∙ append-nil read), is)
all_read acts read text (act ∷ left) all are is none =
    absurd (none act (flat_map act_text left ++ end_line (length acts)) (All-head IsActText act left are)
    (is ∙ append_assoc (act_text act) (flat_map act_text left) (end_line (length acts))))

-- if a text begins with no act, all acts are read, and the text is the stream's last line
pub none_left : (acts read : List ActEntry) (text : List ℕ) → IsLeft acts read text
    → ((act : ActEntry) (rest : List ℕ) → IsActText act → text ≡ act_text act ++ rest → ⊥) → (read ≡ acts) × (text ≡ end_line (length acts))
none_left acts read text l none = all_read acts read text l.left l.all l.are l.begins none
