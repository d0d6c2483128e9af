use Rattle.std.proofs.Common.{◌≡◌, ℕ, ◌++◌, ◌∷◌, List, map, sym, ap, ◌∙◌, append_assoc}
use Rattle.std.specs.List.{flat_map}
use Rattle.rp_command.specs.Versions.{version_of}
use Rattle.rp_language.specs.Grammar.{Version}
use Rattle.rp_reports.specs.Report.{script_lines}
use Rattle.rp_book_service.specs.Children.{became_by, children_text}
use Rattle.rp_book_service.proofs.children.answer_children.Goals as goal

-- what is written of an answer is what is written of its first line, and then of the others
children_text-line : (v : Version) (body : List (List ℕ)) (answer line behind old new : List ℕ) → script_lines answer ≡ line ∷ script_lines behind → new ≡ old ++ became_by v body line → new ++ children_text v body behind ≡ old ++ children_text v body answer
children_text-line v body answer line behind old new split e =
    ap (λ text. text ++ children_text v body behind) e ∙ append_assoc old (became_by v body line) (children_text v body behind)
    ∙ ap (λ (lines : List (List ℕ)). old ++ flat_map (became_by v body) lines) (sym split)

pub loop-told-preserved : goal.loop-told-preserved
loop-told-preserved c =
    children_text-line (version_of c.args.version) (map (λ line. line.now) c.args.body.now) c.loop-told.rest.now c.in-Some.told.now c.in-Some.behind.now c.loop-told.text.items c.write_children.new.text.items
    c.in-Some.ensures.next c.in_ok-write_children.ensures
    ∙ c.loop-told.invariant
