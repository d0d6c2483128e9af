use Rattle.std.proofs.Common.{◌≡◌, ◌∷◌, [], ◌++◌, ℕ, List, length, map, sym, ap, ◌∙◌, ◌≤◌, subst}
use Rattle.std.specs.Vec.Iter.{into_iter_items}
use Rattle.rp_geometry.specs.parts.Parts.{most_parts}
use Rattle.rp_model.specs.commands.Verdict.{Verdict}
use Rattle.rp_answer.specs.declared.answer.Verdict.{Verdict as CodeVerdict}
use Rattle.rp_answer.specs.declared.answer.Verdict.TheVariants.{Pieces, Piece}
use Rattle.rp_answer.specs.Views.{verdict_of}
use Rattle.rp_lists.specs.Listed.{Listed}
use Rattle.rp_rows.proofs.ToldLines.{few_fit, line_told, lines_of_pieces}
use Rattle.rp_rows.proofs.lines.piece_lines.Goals as goal

-- the first line was pushed, and those of all pieces are to come
pub loop-numbers-init : goal.loop-numbers-init
loop-numbers-init c =
    let lists = c.args.pieces.items in
    let pushed : c.push.new.self.items ≡ Pieces (length c.items.result.now) ∷ [] = c.in_ok-push.ensures.ok ∙ ap (λ (vs : List CodeVerdict). vs ++ Pieces (length c.items.result.now) ∷ []) c.new-lines.ensures in
    let left : into_iter_items c.into_iter-numbers-iterator.result ≡ lists = c.into_iter-numbers-iterator.ensures.into_iter_gives.0 ∙ c.into_items-numbers-items.ensures in
    (λ i. map verdict_of (pushed i) ++ map (λ (ns : Listed ℕ). Verdict.piece ns.items) (left i))
    ∙ ap (λ (all : List (Listed ℕ)). Verdict.pieces (length all) ∷ map (λ (ns : Listed ℕ). Verdict.piece ns.items) lists) c.items.ensures
    ∙ lines_of_pieces lists

-- the line of a piece was pushed
pub loop-numbers-preserved : goal.loop-numbers-preserved
loop-numbers-preserved c =
    let before = c.loop-numbers.lines.items in
    let rest = map (λ (ns : Listed ℕ). Verdict.piece ns.items) (into_iter_items c.next.new.self) in
    ap (λ (vs : List CodeVerdict). map verdict_of vs ++ rest) c.in_ok-push-2.ensures.ok
    ∙ line_told before (Piece c.in-Some.numbers) rest
    ∙ ap (λ (lists : List (Listed ℕ)). map verdict_of before ++ map (λ (ns : Listed ℕ). Verdict.piece ns.items) lists) (sym c.in-Some.ensures.steps.0)
    ∙ c.loop-numbers.invariant

-- as many pieces as there may be fit
pub overflow_cast-items : goal.overflow_cast-items
overflow_cast-items c = few_fit (length c.items.result.now) (subst (λ (lists : List (Listed ℕ)). length lists ≤ most_parts) (sym c.items.ensures) c.requires)
