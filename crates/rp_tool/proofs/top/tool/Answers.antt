use Rattle.std.proofs.Common.{◌≡◌, ◌⊎◌, ℕ, ◌≤◌, List, [], Option, Some, None, IfSome, map, string_bytes, inl, inr, sym, ap, ◌∙◌, arith}
use Rattle.rp_io.specs.Bytes.{Appends}
use Rattle.std.specs.Option.{option_map}
use Rattle.rp_reports.specs.Output.{check_report, task_of}
use Rattle.rp_scripts.specs.declared.task.Task.{Task}
use Rattle.rp_scripts.specs.declared.task.Task.TheVariants.{Check, Given, Made}
use Rattle.rp_scripts.specs.Task.{meaning_of, meaning_of_given, meaning_of_made}
use Rattle.rp_tool.specs.Status.{IsFrontOf}
use Rattle.rp_scripts.proofs.SinkLemmas.{Appends-nothing}
use Rattle.rp_tool.proofs.TaskLemmas.{IsFrontOf-made, IsFrontOf-read, IsFrontOf-whole, IsOutputOf-made, IsOutputOf-read, IsOutputOf-whole, OnErr-front}
use Rattle.rp_tool.proofs.TrialWordLemmas.{PutsTrial-output, check_no_trial, given_no_trial}
use Rattle.rp_tool.specs.declared.status.TheConstants.{REFUSED}
use Rattle.rp_tool.proofs.top.tool.Goals as goal

-- what the words name
listed : (words : List (List ℕ)) (found : Option Task) (task made : Task) → option_map meaning_of found ≡ task_of words → found ≡ Some task → task ≡ made → task_of words ≡ Some (meaning_of made)
listed words found task made e is made_is = sym e ∙ ap (option_map meaning_of) is ∙ ap (λ (t : Task). Some (meaning_of t)) made_is

-- what holds of every list holds of one that may be there
for_some : (P : List ℕ → Type 0) (left : Option (List ℕ)) → ((input : List ℕ) → P input) → IfSome left P
for_some P None all = tt
for_some P (Some input) all = all input

pub returns-in-Made-clause-whole : goal.returns-in-Made-clause-whole
returns-in-Made-clause-whole g c = λ low.
    let words = map string_bytes c.args.words.now in
    let task = meaning_of_made c.in-Made.task c.in-Made.building.storeys c.in-Made.building.seed in
    let old = g.K.Sink.said c.args.sink.now in
    let now = g.K.Sink.said c.put_made.new.sink in
    for_some _ (g.S.Source.left c.args.source.now)
    (λ input. IsOutputOf-made c.put_made.result words task c.made_status.result input old now c.made_status.ensures low
    (listed words c.listed_task.result c.in-Some.task (Made c.in-Made.task c.in-Made.building) c.listed_task.ensures c.in-Some.is c.in-Made.is) c.put_made.ensures.output)

pub returns-in-Made-clause-made : goal.returns-in-Made-clause-made
returns-in-Made-clause-made g c = λ low unread.
    let words = map string_bytes c.args.words.now in
    let task = meaning_of_made c.in-Made.task c.in-Made.building.storeys c.in-Made.building.seed in
    IsOutputOf-made c.put_made.result words task c.made_status.result [] (g.K.Sink.said c.args.sink.now) (g.K.Sink.said c.put_made.new.sink) c.made_status.ensures low
    (listed words c.listed_task.result c.in-Some.task (Made c.in-Made.task c.in-Made.building) c.listed_task.ensures c.in-Some.is c.in-Made.is) c.put_made.ensures.output

pub returns-in-Ok-read_whole-clause-whole : goal.returns-in-Ok-read_whole-clause-whole
returns-in-Ok-read_whole-clause-whole g c = λ low.
    let words = map string_bytes c.args.words.now in
    let status = c.output_status-in-Ok-read_whole.result in
    let bytes = c.deref-in-Ok-read_whole.result.now in
    let old = g.K.Sink.said c.args.sink.now in
    let now = g.K.Sink.said c.check.new.sink in
    IsOutputOf-whole (g.S.Source.left c.args.source.now) (g.S.Source.left c.read_whole-in-Check.new.source) words status bytes c.in-Ok-read_whole.report.items old now
    c.in-Ok-read_whole.ensures.whole c.deref-in-Ok-read_whole.ensures.value
    (IsOutputOf-read c.check.result words check_report status bytes old now c.output_status-in-Ok-read_whole.ensures low
    (listed words c.listed_task.result c.in-Some.task Check c.listed_task.ensures c.in-Some.is c.in-Check.is) c.check.ensures.finding)

pub returns-in-Made-clause-front : goal.returns-in-Made-clause-front
returns-in-Made-clause-front g c = λ stop.
    let words = map string_bytes c.args.words.now in
    let task = meaning_of_made c.in-Made.task c.in-Made.building.storeys c.in-Made.building.seed in
    let old = g.K.Sink.said c.args.sink.now in
    let now = g.K.Sink.said c.put_made.new.sink in
    for_some (λ input. Appends old now [] ⊎ IsFrontOf words input old now) (g.S.Source.left c.args.source.now)
    (λ input. inr (IsFrontOf-made c.put_made.result words task c.made_status.result input old now c.made_status.ensures stop
    (listed words c.listed_task.result c.in-Some.task (Made c.in-Made.task c.in-Made.building) c.listed_task.ensures c.in-Some.is c.in-Made.is) c.put_made.ensures.front))

pub returns-in-Made-clause-made_front : goal.returns-in-Made-clause-made_front
returns-in-Made-clause-made_front g c = λ stop unread.
    let words = map string_bytes c.args.words.now in
    let task = meaning_of_made c.in-Made.task c.in-Made.building.storeys c.in-Made.building.seed in
    IsFrontOf-made c.put_made.result words task c.made_status.result [] (g.K.Sink.said c.args.sink.now) (g.K.Sink.said c.put_made.new.sink) c.made_status.ensures stop
    (listed words c.listed_task.result c.in-Some.task (Made c.in-Made.task c.in-Made.building) c.listed_task.ensures c.in-Some.is c.in-Made.is) c.put_made.ensures.front

pub returns-in-Ok-clause-front : goal.returns-in-Ok-clause-front
returns-in-Ok-clause-front g c = λ stop.
    let words = map string_bytes c.args.words.now in
    let task = meaning_of_given c.in-Given.task in
    let bytes = c.deref.result.now in
    let old = g.K.Sink.said c.args.sink.now in
    let now = g.K.Sink.said c.put_given.new.sink in
    IsFrontOf-whole (g.S.Source.left c.args.source.now) (g.S.Source.left c.read_whole.new.source) words bytes c.in-Ok.script.items old now c.in-Ok.ensures.whole c.deref.ensures.value
    (IsFrontOf-read c.put_given.result words task c.output_status.result bytes old now c.output_status.ensures stop
    (listed words c.listed_task.result c.in-Some.task (Given c.in-Given.task) c.listed_task.ensures c.in-Some.is c.in-Given.is)
    (OnErr-front c.put_given.result task bytes old now c.put_given.ensures.front))

pub returns-in-Ok-read_whole-clause-front : goal.returns-in-Ok-read_whole-clause-front
returns-in-Ok-read_whole-clause-front g c = λ stop.
    let words = map string_bytes c.args.words.now in
    let bytes = c.deref-in-Ok-read_whole.result.now in
    let old = g.K.Sink.said c.args.sink.now in
    let now = g.K.Sink.said c.check.new.sink in
    IsFrontOf-whole (g.S.Source.left c.args.source.now) (g.S.Source.left c.read_whole-in-Check.new.source) words bytes c.in-Ok-read_whole.report.items old now
    c.in-Ok-read_whole.ensures.whole c.deref-in-Ok-read_whole.ensures.value
    (IsFrontOf-read c.check.result words check_report c.output_status-in-Ok-read_whole.result bytes old now c.output_status-in-Ok-read_whole.ensures stop
    (listed words c.listed_task.result c.in-Some.task Check c.listed_task.ensures c.in-Some.is c.in-Check.is) c.check.ensures.front)

pub returns-in-Err-clause-front : goal.returns-in-Err-clause-front
returns-in-Err-clause-front g c = λ stop.
    let said = g.K.Sink.said c.args.sink.now in
    for_some (λ input. Appends said said [] ⊎ IsFrontOf (map string_bytes c.args.words.now) input said said) (g.S.Source.left c.args.source.now) (λ input. inl (Appends-nothing said))

pub returns-in-Err-read_whole-clause-front : goal.returns-in-Err-read_whole-clause-front
returns-in-Err-read_whole-clause-front g c = λ stop.
    let said = g.K.Sink.said c.args.sink.now in
    for_some (λ input. Appends said said [] ⊎ IsFrontOf (map string_bytes c.args.words.now) input said said) (g.S.Source.left c.args.source.now) (λ input. inl (Appends-nothing said))

pub returns-in-Made-clause-trial : goal.returns-in-Made-clause-trial
returns-in-Made-clause-trial g c = λ n seed named done.
    let words = map string_bytes c.args.words.now in
    let task = meaning_of_made c.in-Made.task c.in-Made.building.storeys c.in-Made.building.seed in
    let old = g.K.Sink.said c.args.sink.now in
    let now = g.K.Sink.said c.put_made.new.sink in
    let low : c.made_status.result ≤ REFUSED = omega (arith, done) in
    PutsTrial-output n seed words [] old now c.made_status.result named
    (IsOutputOf-made c.put_made.result words task c.made_status.result [] old now c.made_status.ensures low
    (listed words c.listed_task.result c.in-Some.task (Made c.in-Made.task c.in-Made.building) c.listed_task.ensures c.in-Some.is c.in-Made.is) c.put_made.ensures.output)

pub returns-in-Ok-clause-trial : goal.returns-in-Ok-clause-trial
returns-in-Ok-clause-trial g c = λ n seed named done.
    let words = map string_bytes c.args.words.now in
    absurd (given_no_trial c.in-Given.task n seed words (listed words c.listed_task.result c.in-Some.task (Given c.in-Given.task) c.listed_task.ensures c.in-Some.is c.in-Given.is) named)

pub returns-in-Ok-read_whole-clause-trial : goal.returns-in-Ok-read_whole-clause-trial
returns-in-Ok-read_whole-clause-trial g c = λ n seed named done.
    let words = map string_bytes c.args.words.now in
    absurd (check_no_trial n seed words (listed words c.listed_task.result c.in-Some.task Check c.listed_task.ensures c.in-Some.is c.in-Check.is) named)

pub returns-in-Err-clause-trial : goal.returns-in-Err-clause-trial
returns-in-Err-clause-trial g c = λ n seed named done.
    let words = map string_bytes c.args.words.now in
    absurd (given_no_trial c.in-Given.task n seed words (listed words c.listed_task.result c.in-Some.task (Given c.in-Given.task) c.listed_task.ensures c.in-Some.is c.in-Given.is) named)

pub returns-in-Err-read_whole-clause-trial : goal.returns-in-Err-read_whole-clause-trial
returns-in-Err-read_whole-clause-trial g c = λ n seed named done.
    let words = map string_bytes c.args.words.now in
    absurd (check_no_trial n seed words (listed words c.listed_task.result c.in-Some.task Check c.listed_task.ensures c.in-Some.is c.in-Check.is) named)
