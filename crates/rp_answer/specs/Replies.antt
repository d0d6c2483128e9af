-- The result of the row of a question, for any tester.
use Rattle.std.specs.Prelude.{◌≡◌, List, [], ◌∷◌, map, Result, Ok, Err, option_map}
use Rattle.rp_geometry.specs.sets.Shape.{Part}
use Rattle.rp_language.specs.Expression.{Expression, Meaning, first_unknown_among}
use Rattle.rp_semantics.specs.Walk.{Outcome, done, Walk, Tester, ◌>>=◌}
use Rattle.rp_semantics.specs.Form.{form}
use Rattle.rp_model.specs.commands.Verdict.{unknown}
use Rattle.rp_model.specs.commands.Reply.{Reply, reply_lines, refusal, check}
use Rattle.rp_model.specs.commands.Definition.{with_forms}
use Rattle.rp_lists.specs.Listed.{Listed}
use Rattle.rp_history.specs.declared.fault.NameFault.{NameFault}
use Rattle.rp_history.specs.declared.fault.NameFault.TheVariants.{Known as NameKnown, Unknown as NameUnknown, Repeated as NameRepeated, Layers as NameLayers, Same as NameSame, Few as NameFew, Memory as NameMemory}
use Rattle.rp_answer.specs.declared.answer.Refusal.TheVariants.{Known, Unknown, Repeated, Layers, Same, Few}
use Rattle.rp_answer.specs.declared.answer.Verdict.{Verdict as CodeVerdict}
use Rattle.rp_answer.specs.Views.{refusal_of, verdict_of}
use Rattle.rp_oracle.specs.declared.stopped.Stopped.TheVariants.{Memory}
use Rattle.rp_oracle.specs.Refines.{StopsBy}
use Rattle.rp_answer.specs.declared.reply.RowEnd.{RowEnd}
use Rattle.rp_answer.specs.declared.reply.RowEnd.TheVariants.{Refused, Stopped as StoppedEnd}

-- the row has the given end, with the given work
abbrev pub EndsBy : {W : Type 0} → RowEnd → W → Outcome W Reply → Type 0
EndsBy (Refused r) w o = o ≡ done (refusal (refusal_of r)) w
EndsBy (StoppedEnd e) w o = StopsBy e w o

-- the row of a question has the verdict lines, or the end, with the given work
abbrev pub Tells : {W : Type 0} → Result (Listed CodeVerdict) RowEnd → W → Outcome W Reply → Type 0
Tells (Ok lines) w o = o ≡ done (reply_lines (map verdict_of lines.items)) w
Tells (Err e) w o = EndsBy e w o

-- the row continues from the result of its first walk, or has its end, with the given work
abbrev pub GoesOn : {W A B : Type 0} → (A → B) → Result A RowEnd → W → (B → Walk W Reply) → Outcome W Reply → Type 0
GoesOn view (Ok x) w next o = o ≡ next (view x) w
GoesOn view (Err e) w next o = EndsBy e w o

-- the row of one expression, from the rest after its form
abbrev pub row_of_form : {W : Type 0} → Tester W → Meaning (List Part) → Expression → (List Part → Walk W Reply) → Walk W Reply
row_of_form tester m e next = check (option_map unknown (first_unknown_among m (e ∷ []))) (form tester m e >>= next)

-- the row of two expressions, from the rest after their forms
abbrev pub row_of_forms : {W : Type 0} → Tester W → Meaning (List Part) → Expression → Expression → (List Part → List Part → Walk W Reply) → Walk W Reply
row_of_forms tester m e f next = check (option_map unknown (first_unknown_among m (e ∷ f ∷ []))) (with_forms tester m e f next)

-- the end of a row whose check on names failed
abbrev pub end_of_names : NameFault → RowEnd
end_of_names (NameKnown x) = Refused (Known x)
end_of_names (NameUnknown x) = Refused (Unknown x)
end_of_names (NameRepeated x) = Refused (Repeated x)
end_of_names (NameLayers x) = Refused (Layers x)
end_of_names NameSame = Refused Same
end_of_names NameFew = Refused Few
end_of_names (NameMemory e) = StoppedEnd (Memory e)
