use Rattle.std.proofs.Common.{◌≡◌, ℕ, List, [], ◌∷◌, ◌++◌, ap, ◌∙◌, subst}
use Rattle.rp_io.specs.Bytes.{AppendsPrefix}
use Rattle.rp_reports.specs.Text.{line_end}
use Rattle.rp_tool.specs.Check.{found_line}
use Rattle.rp_scripts.proofs.SinkLemmas.{AppendsPrefix-nothing, OnErr-holds}
use Rattle.rp_tool.proofs.check.put_found.Goals as goal

pub returns-in_err-write_found-clause-front : goal.returns-in_err-write_found-clause-front
returns-in_err-write_found-clause-front g c = OnErr-holds c.from_residual.result (AppendsPrefix-nothing (g.K.Sink.said c.args.sink.now) (found_line c.args.found ++ line_end ∷ []))

pub returns-in_err-put-clause-front : goal.returns-in_err-put-clause-front
returns-in_err-put-clause-front g c =
    let line = found_line c.args.found ++ line_end ∷ [] in
    let piece : c.deref.result.now ≡ line = c.deref.ensures.value ∙ c.in_ok-write_found.ensures ∙ ap (λ (text : List ℕ). text ++ line) c.new-text.ensures.items in
    OnErr-holds c.from_residual-in_err-put.result
    (subst (AppendsPrefix (g.K.Sink.said c.args.sink.now) (g.K.Sink.said c.put.new.self)) piece c.in_err-put.ensures.err)
