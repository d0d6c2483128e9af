-- The operands of verdict lines.
use Rattle.std.specs.Prelude.{ℕ, List, [], ◌∷◌, ◌++◌}
use Rattle.std.specs.Fmt.{decimal}
use Rattle.rp_language.specs.Grammar.{space}
use Rattle.rp_model.specs.commands.Verdict.{Verdict, refused}
use Rattle.rp_reports.specs.Text.{half_space_text, items_text, lot_text, refusal_text, slice_text}

-- the operands of a verdict, each after a space
abbrev pub operands_text : Verdict → List ℕ
operands_text (Verdict.pieces k) = space ∷ decimal k
operands_text (Verdict.piece ks) = items_text decimal ks
operands_text (Verdict.parts k) = space ∷ decimal k
operands_text (Verdict.part hs) = items_text half_space_text hs
operands_text (Verdict.parcel x) = space ∷ x
operands_text (Verdict.neighbours k) = space ∷ decimal k
operands_text (Verdict.clear k) = space ∷ decimal k
operands_text (Verdict.parcels k) = space ∷ decimal k
operands_text (Verdict.lots k) = space ∷ decimal k
operands_text (Verdict.lot l) = space ∷ lot_text l
operands_text (Verdict.sections k) = space ∷ decimal k
operands_text (Verdict.slice s) = space ∷ slice_text s
operands_text (Verdict.access k) = space ∷ decimal k
operands_text (Verdict.level k x) = (space ∷ decimal k) ++ space ∷ x
operands_text (refused r) = space ∷ refusal_text r
operands_text _ = []
