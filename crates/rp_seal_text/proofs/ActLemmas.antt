-- The text of an act, field by field.
use Rattle.std.proofs.Common.{◌≡◌, ℕ, List, ◌++◌, append_assoc, refl, codes}
use Rattle.rp_seal.specs.Act.{ActEntry}
use Rattle.rp_seal_text.specs.Fields.{number_line, text_field, option_field}
use Rattle.rp_seal_text.specs.ActText.{act_text}

-- what follows each field of an act: the fields after it, and more text
abbrev pub after_deed : ActEntry → List ℕ → List ℕ
after_deed a rest = text_field (codes "lines") a.lines ++ rest

abbrev pub after_who : ActEntry → List ℕ → List ℕ
after_who a rest = option_field (codes "deed") a.deed ++ after_deed a rest

abbrev pub after_added : ActEntry → List ℕ → List ℕ
after_added a rest = option_field (codes "who") a.who ++ after_who a rest

abbrev pub after_last : ActEntry → List ℕ → List ℕ
after_last a rest = text_field (codes "added") a.added ++ after_added a rest

abbrev pub after_first : ActEntry → List ℕ → List ℕ
after_first a rest = number_line (codes "last") a.last ++ after_last a rest

abbrev pub after_number : ActEntry → List ℕ → List ℕ
after_number a rest = number_line (codes "first") a.first ++ after_first a rest

-- seven texts in a row and an eighth one are the first text and what follows it
seven_texts : (t u v w x y z rest : List ℕ)
    → (t ++ (u ++ (v ++ (w ++ (x ++ (y ++ z)))))) ++ rest ≡ t ++ (u ++ (v ++ (w ++ (x ++ (y ++ (z ++ rest))))))
seven_texts t u v w x y z rest = simp append_assoc refl

-- the text of an act and more text are the act's first line and what follows it
pub act_text-then : (a : ActEntry) (rest : List ℕ) → act_text a ++ rest ≡ number_line (codes "act") a.number ++ after_number a rest
act_text-then a rest =
    seven_texts (number_line (codes "act") a.number) (number_line (codes "first") a.first) (number_line (codes "last") a.last) (text_field (codes "added") a.added) (option_field (codes "who") a.who) (option_field (codes "deed") a.deed) (text_field (codes "lines") a.lines) rest
