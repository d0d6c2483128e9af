use Rattle.std.proofs.Common.{◌≡◌, ℕ, List, [], ◌∷◌, ◌++◌, ap, ◌∙◌, subst}
use Rattle.rp_io.specs.Bytes.{AppendsPrefix}
use Rattle.rp_language.specs.Grammar.{spelling}
use Rattle.rp_reports.specs.Text.{line_end}
use Rattle.rp_command.specs.Versions.{version_of}
use Rattle.rp_command.specs.Views.{command_of}
use Rattle.rp_scripts.proofs.SinkLemmas.{AppendsPrefix-nothing, OnErr-holds}
use Rattle.rp_scripts.proofs.spell.put_command.Goals as goal

pub returns-in_err-write_command-clause-front : goal.returns-in_err-write_command-clause-front
returns-in_err-write_command-clause-front g c = OnErr-holds c.from_residual.result (AppendsPrefix-nothing (g.K.Sink.said c.args.sink.now) (spelling (version_of c.args.version) (command_of c.args.command.now) ++ line_end ∷ []))

pub returns-in_err-extend_from_slice-clause-front : goal.returns-in_err-extend_from_slice-clause-front
returns-in_err-extend_from_slice-clause-front g c = OnErr-holds c.from_residual-in_err-extend_from_slice.result (AppendsPrefix-nothing (g.K.Sink.said c.args.sink.now) (spelling (version_of c.args.version) (command_of c.args.command.now) ++ line_end ∷ []))

pub returns-in_err-put-clause-front : goal.returns-in_err-put-clause-front
returns-in_err-put-clause-front g c =
    let line = spelling (version_of c.args.version) (command_of c.args.command.now) in
    let piece : c.deref.result.now ≡ line ++ line_end ∷ [] =
    c.deref.ensures.value ∙ c.in_ok-extend_from_slice.ensures.items
    ∙ ap (λ (text : List ℕ). text ++ line_end ∷ []) (c.in_ok-write_command.ensures.ok ∙ ap (λ (text : List ℕ). text ++ line) c.new-text.ensures.items) in
    OnErr-holds c.from_residual-in_err-put.result
    (subst (AppendsPrefix (g.K.Sink.said c.args.sink.now) (g.K.Sink.said c.put.new.self)) piece c.in_err-put.ensures.err)
