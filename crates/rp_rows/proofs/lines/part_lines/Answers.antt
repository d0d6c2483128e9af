use Rattle.std.proofs.Common.{◌≡◌, ◌≤◌, ◌∷◌, [], ◌++◌, ℕ, List, length, map, ap, ◌∙◌, sym, subst}
use Rattle.std.proofs.lemmas.List.{length-map}
use Rattle.std.specs.Vec.Iter.{into_iter_items}
use Rattle.rp_geometry.specs.parts.Parts.{most_parts}
use Rattle.rp_model.specs.commands.Verdict.{Verdict, part_lines_of}
use Rattle.rp_answer.specs.declared.answer.Verdict.{Verdict as CodeVerdict}
use Rattle.rp_answer.specs.declared.answer.Verdict.TheVariants.{Parts, Part}
use Rattle.rp_answer.specs.Views.{verdict_of}
use Rattle.rp_rows.proofs.ToldLines.{few_fit, line_told, lines_of_parts}
use Rattle.rp_rows.proofs.lines.part_lines.Goals as goal

-- the first line was pushed, and those of all parts are to come
pub loop-part-init : goal.loop-part-init
loop-part-init g c =
    let seen = g.T.Oracle.seen in
    let parts = c.into_parts-part-items.result.items in
    let shown = c.parts.result.now in
    let pushed : c.push.new.self.items ≡ Parts (length shown) ∷ [] = c.in_ok-push.ensures.ok ∙ ap (λ (vs : List CodeVerdict). vs ++ Parts (length shown) ∷ []) c.new-lines.ensures in
    let left : into_iter_items c.into_iter-part-iterator.result ≡ parts = c.into_iter-part-iterator.ensures.into_iter_gives.0 in
    let same_count : length shown ≡ length parts = sym (length-map shown seen) ∙ ap length (c.parts.ensures ∙ sym c.into_parts-part-items.ensures) ∙ length-map parts seen in
    (λ i. map verdict_of (pushed i) ++ map (λ p. Verdict.part (seen p).cell) (left i))
    ∙ ap (λ (n : ℕ). Verdict.parts n ∷ map (λ p. Verdict.part (seen p).cell) parts) same_count
    ∙ lines_of_parts seen parts
    ∙ ap part_lines_of c.into_parts-part-items.ensures

-- the line of a part was pushed
pub loop-part-preserved : goal.loop-part-preserved
loop-part-preserved g c =
    let seen = g.T.Oracle.seen in
    let before = c.loop-part.lines.items in
    let rest = map (λ p. Verdict.part (seen p).cell) (into_iter_items c.next.new.self) in
    ap (λ (vs : List CodeVerdict). map verdict_of vs ++ rest) c.in_ok-push-2.ensures.ok
    ∙ line_told before (Part c.into_halves.result) rest
    ∙ (λ i. map verdict_of before ++ Verdict.part (c.into_halves.ensures i) ∷ rest)
    ∙ ap (λ ps. map verdict_of before ++ map (λ p. Verdict.part (seen p).cell) ps) (sym c.in-Some.ensures.steps.0)
    ∙ c.loop-part.invariant

-- as many parts as the form has fit
pub overflow_cast-parts : goal.overflow_cast-parts
overflow_cast-parts g c =
    let shown = c.parts.result.now in
    let many : length shown ≡ length (g.T.Oracle.parts_of c.args.form) = sym (length-map shown g.T.Oracle.seen) ∙ ap length c.parts.ensures in
    few_fit (length shown) (subst (λ (n : ℕ). n ≤ most_parts) (sym many) c.requires)
