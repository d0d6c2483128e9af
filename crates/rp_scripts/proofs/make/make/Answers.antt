use Rattle.std.proofs.Common.{◌≡◌, ℕ, List, [], ◌∷◌, ◌++◌, ap, ◌∙◌, subst, arith}
use Rattle.rp_io.specs.Bytes.{Appends, AppendsPrefix}
use Rattle.rp_reports.specs.Made.{made_script}
use Rattle.rp_reports.specs.Text.{line_end}
use Rattle.rp_scripts.specs.Made.{made_line}
use Rattle.rp_scripts.proofs.MadeLemmas.{HasMade-start, HasMade-more, HasMade-end, HasMade-front}
use Rattle.rp_scripts.proofs.SinkLemmas.{AppendsPrefix-nothing, OnErr-holds}
use Rattle.rp_scripts.proofs.make.make.Goals as goal

pub loop-line-init : goal.loop-line-init
loop-line-init g c =
    let all = made_script c.args.building.storeys c.args.building.seed in
    record { counts = omega arith; made = HasMade-start all (g.K.Sink.said c.args.sink.now) c.new-script.result c.new-script.ensures }

pub loop-line-preserved : goal.loop-line-preserved
loop-line-preserved g c =
    let all = made_script c.args.building.storeys c.args.building.seed in
    let line = made_line c.in-Some.line in
    let now = g.K.Sink.said c.loop-line.sink in
    let new = g.K.Sink.said c.put.new.self in
    let piece : c.deref.result.now ≡ line ++ line_end ∷ [] =
    c.deref.ensures.value ∙ c.in_ok-extend_from_slice.ensures.items
    ∙ ap (λ (text : List ℕ). text ++ line_end ∷ []) (c.in_ok-write.ensures ∙ ap (λ (text : List ℕ). text ++ line) c.clear.ensures.items) in
    record {
      counts = omega (arith, c.loop-line.invariant.counts, c.in_ok-put.ensures.counts);
      made =
          HasMade-more all (g.K.Sink.said c.args.sink.now) now new c.loop-line.script c.next_line.new.self line c.loop-line.invariant.made c.in-Some.ensures.next
          (subst (Appends now new) piece c.in_ok-put.ensures.ok);
    }

pub returns-clause-script : goal.returns-clause-script
returns-clause-script g c =
    HasMade-end (made_script c.args.building.storeys c.args.building.seed) (g.K.Sink.said c.args.sink.now) (g.K.Sink.said c.loop-line.sink) c.loop-line.script
    c.loop-line.invariant.made c.in_default.ensures.end

pub returns-in_err-write-clause-front : goal.returns-in_err-write-clause-front
returns-in_err-write-clause-front g c =
    let all = made_script c.args.building.storeys c.args.building.seed in
    let line = made_line c.in-Some.line in
    let now = g.K.Sink.said c.loop-line.sink in
    OnErr-holds c.from_residual.result
    (HasMade-front all (g.K.Sink.said c.args.sink.now) now now c.loop-line.script c.next_line.new.self line c.loop-line.invariant.made c.in-Some.ensures.next
    (AppendsPrefix-nothing now (line ++ line_end ∷ [])))

pub returns-in_err-extend_from_slice-clause-front : goal.returns-in_err-extend_from_slice-clause-front
returns-in_err-extend_from_slice-clause-front g c =
    let all = made_script c.args.building.storeys c.args.building.seed in
    let line = made_line c.in-Some.line in
    let now = g.K.Sink.said c.loop-line.sink in
    OnErr-holds c.from_residual-in_err-extend_from_slice.result
    (HasMade-front all (g.K.Sink.said c.args.sink.now) now now c.loop-line.script c.next_line.new.self line c.loop-line.invariant.made c.in-Some.ensures.next
    (AppendsPrefix-nothing now (line ++ line_end ∷ [])))

pub returns-in_err-put-clause-front : goal.returns-in_err-put-clause-front
returns-in_err-put-clause-front g c =
    let all = made_script c.args.building.storeys c.args.building.seed in
    let line = made_line c.in-Some.line in
    let now = g.K.Sink.said c.loop-line.sink in
    let new = g.K.Sink.said c.put.new.self in
    let piece : c.deref.result.now ≡ line ++ line_end ∷ [] =
    c.deref.ensures.value ∙ c.in_ok-extend_from_slice.ensures.items
    ∙ ap (λ (text : List ℕ). text ++ line_end ∷ []) (c.in_ok-write.ensures ∙ ap (λ (text : List ℕ). text ++ line) c.clear.ensures.items) in
    OnErr-holds c.from_residual-in_err-put.result
    (HasMade-front all (g.K.Sink.said c.args.sink.now) now new c.loop-line.script c.next_line.new.self line c.loop-line.invariant.made c.in-Some.ensures.next
    (subst (AppendsPrefix now new) piece c.in_err-put.ensures.err))
