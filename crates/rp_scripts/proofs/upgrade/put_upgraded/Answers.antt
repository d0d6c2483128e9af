use Rattle.std.proofs.Common.{◌≡◌, ℕ, List, [], ◌∷◌, ◌++◌, sym, ap, ◌∙◌, subst}
use Rattle.std.proofs.Math.Bool.{not, not-not}
use Rattle.std.proofs.lemmas.List.{append-nil}
use Rattle.rp_io.specs.Bytes.{Appends, AppendsPrefix}
use Rattle.rp_language.specs.Grammar.{reading}
use Rattle.rp_reports.specs.Output.{is_bad_reading}
use Rattle.rp_reports.specs.Text.{text_of_lines}
use Rattle.rp_reports.specs.Upgrade.{upgraded_line}
use Rattle.rp_command.specs.Versions.{version_of}
use Rattle.rp_scripts.specs.Upgraded.{upgraded_text}
use Rattle.rp_scripts.proofs.SinkLemmas.{AppendsPrefix-nothing, OnErr-holds}
use Rattle.rp_scripts.proofs.upgrade.put_upgraded.Goals as goal

pub returns-clause-text : goal.returns-clause-text
returns-clause-text g c =
    let r = reading (version_of c.args.version) c.args.line.now in
    let text = upgraded_text c.args.line.now r in
    let piece : c.deref.result.now ≡ text_of_lines (upgraded_line c.args.line.now r ∷ []) =
    c.deref.ensures.value ∙ c.in_ok-is_good.ensures.line ∙ ap (λ (xs : List ℕ). xs ++ text) c.clear.ensures.items ∙ sym (append-nil text) in
    record {
      text = subst (Appends (g.K.Sink.said c.args.sink.now) (g.K.Sink.said c.put.new.self)) piece c.in_ok-put.ensures.ok;
      mark = ap not c.in_ok-is_good.ensures.good ∙ not-not (is_bad_reading r);
    }

pub returns-in_err-is_good-clause-front : goal.returns-in_err-is_good-clause-front
returns-in_err-is_good-clause-front g c =
    OnErr-holds c.from_residual.result
    (AppendsPrefix-nothing (g.K.Sink.said c.args.sink.now) (text_of_lines (upgraded_line c.args.line.now (reading (version_of c.args.version) c.args.line.now) ∷ [])))

pub returns-in_err-put-clause-front : goal.returns-in_err-put-clause-front
returns-in_err-put-clause-front g c =
    let r = reading (version_of c.args.version) c.args.line.now in
    let text = upgraded_text c.args.line.now r in
    let piece : c.deref.result.now ≡ text_of_lines (upgraded_line c.args.line.now r ∷ []) =
    c.deref.ensures.value ∙ c.in_ok-is_good.ensures.line ∙ ap (λ (xs : List ℕ). xs ++ text) c.clear.ensures.items ∙ sym (append-nil text) in
    OnErr-holds c.from_residual-in_err-put.result
    (subst (AppendsPrefix (g.K.Sink.said c.args.sink.now) (g.K.Sink.said c.put.new.self)) piece c.in_err-put.ensures.err)
