use Rattle.std.proofs.Common.{◌≡◌, ◌-◌, ◌++◌, List, length, map, drop, take, ap, subst, sym, ◌∙◌, append_assoc}
use Rattle.std.specs.Prelude.{All, flat_map}
use Rattle.std.proofs.lemmas.List.{length-map}
use Rattle.rp_book.specs.Act.{act_of}
use Rattle.rp_book.specs.declared.act.Act.{Act}
use Rattle.rp_seal.specs.Act.{ActEntry}
use Rattle.rp_seal_text.specs.ActStream.{acts_text}
use Rattle.rp_seal_text.specs.ActText.{IsActText, act_text, acts_mark, end_line}
use Rattle.rp_sealed_book.specs.Log.{entries_from, log_of}
use Rattle.rp_sealed_book.proofs.StreamLemmas.{entries-since, length-entries}
use Rattle.rp_sealed_book.proofs.stream.stream_of.Goals as goal

pub returns-clause-text : goal.returns-clause-text
returns-clause-text c =
    let acts : List Act = take (length c.args.acts.now - c.min-place.result) (drop c.min-place.result c.args.acts.now) in
    let log : List ActEntry = entries_from c.args.script.now c.max-number.result c.start_of.result (map act_of acts) in
    let since : log ≡ drop (c.args.from - 1) (log_of c.args.script.now (map act_of c.args.acts.now)) =
    entries-since c.args.script.now c.args.acts.now c.args.from c.max-number.result c.min-place.result c.start_of.result c.max-number.ensures c.min-place.ensures c.start_of.ensures in
    let count : length acts ≡ length log = sym (length-map acts act_of) ∙ sym (length-entries c.args.script.now c.max-number.result c.start_of.result (map act_of acts)) in
    c.in_ok-write_end.ensures
    ∙ ap (λ v. v ++ end_line (length acts)) (c.in_ok-write_acts.ensures.text ∙ ap (λ v. v ++ flat_map act_text log) c.in_ok-text.ensures.items)
    ∙ append_assoc acts_mark (flat_map act_text log) (end_line (length acts))
    ∙ ap (λ n. acts_mark ++ (flat_map act_text log ++ end_line n)) count
    ∙ ap acts_text since

pub returns-clause-valid : goal.returns-clause-valid
returns-clause-valid c =
    subst (All IsActText)
    (entries-since c.args.script.now c.args.acts.now c.args.from c.max-number.result c.min-place.result c.start_of.result c.max-number.ensures c.min-place.ensures c.start_of.ensures)
    c.in_ok-write_acts.ensures.valid
