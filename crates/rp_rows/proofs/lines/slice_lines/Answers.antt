use Rattle.std.proofs.Common.{◌≡◌, ℕ, ◌∷◌, ◌++◌, ◌≤◌, List, length, map, sym, ap, ◌∙◌, subst}
use Rattle.std.proofs.lemmas.List.{length-map}
use Rattle.std.specs.Vec.Iter.{into_iter_items}
use Rattle.rp_geometry.specs.parts.Parts.{most_parts}
use Rattle.rp_model.specs.commands.Verdict.{Verdict}
use Rattle.rp_cert.specs.declared.slice.Slice.{Slice as CodeSlice}
use Rattle.rp_cert.specs.Section.{slice_shown}
use Rattle.rp_answer.specs.declared.answer.Verdict.{Verdict as CodeVerdict}
use Rattle.rp_answer.specs.declared.answer.Verdict.TheVariants.{Slice}
use Rattle.rp_answer.specs.Views.{verdict_of}
use Rattle.rp_rows.proofs.ToldLines.{few_fit, line_told}
use Rattle.rp_rows.proofs.lines.slice_lines.Goals as goal

-- the first line was told, and those of all slices are to come
pub loop-slice-init : goal.loop-slice-init
loop-slice-init c =
    let slices = c.args.slices.items in
    let left : into_iter_items c.into_iter-slice-iterator.result ≡ slices = c.into_iter-slice-iterator.ensures.into_iter_gives.0 ∙ c.into_items-slice-items.ensures in
    (λ i. c.in_ok-lines.ensures i ++ map Verdict.slice (map slice_shown (left i)))
    ∙ ap (λ (n : ℕ). Verdict.sections n ∷ map Verdict.slice (map slice_shown slices)) (ap length c.items.ensures ∙ sym (length-map slices slice_shown))

-- the line of a slice was pushed
pub loop-slice-preserved : goal.loop-slice-preserved
loop-slice-preserved c =
    let before = c.loop-slice.lines.items in
    let rest = map Verdict.slice (map slice_shown (into_iter_items c.next.new.self)) in
    ap (λ (vs : List CodeVerdict). map verdict_of vs ++ rest) c.in_ok-push.ensures.ok
    ∙ line_told before (Slice c.in_ok-new.field-0) rest
    ∙ (λ i. map verdict_of before ++ Verdict.slice (slice_shown (c.in_ok-new.ensures.ok i)) ∷ rest)
    ∙ ap (λ slices. map verdict_of before ++ map Verdict.slice (map slice_shown slices)) (sym c.in-Some.ensures.steps.0)
    ∙ c.loop-slice.invariant

-- as many slices as there may be fit
pub overflow_cast-items : goal.overflow_cast-items
overflow_cast-items c = few_fit (length c.items.result.now) (subst (λ (slices : List CodeSlice). length slices ≤ most_parts) (sym c.items.ensures) c.requires)
