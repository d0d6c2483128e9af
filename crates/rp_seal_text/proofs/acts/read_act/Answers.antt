use Rattle.std.proofs.Common.{ℕ, List, ◌++◌, option_map, codes, ap, sym, ◌∙◌}
use Rattle.rp_seal.specs.Act.{ActEntry}
use Rattle.rp_seal_text.specs.Fields.{number_line, text_field, option_field}
use Rattle.rp_seal_text.proofs.ActLemmas.{after_number, after_first, after_last, after_added, after_who, after_deed, act_text-then}
use Rattle.rp_seal_text.proofs.acts.read_act.Goals as goal

pub returns-in_err-first-clause-each : goal.returns-in_err-first-clause-each
returns-in_err-first-clause-each c = λ a rest valid is.
    let number = c.in_ok-number.ensures.each a.number (after_number a rest) valid.encodable.number (is ∙ act_text-then a rest) in
    absurd (c.in_err-first.ensures.each a.first (after_first a rest) valid.encodable.first number.1)

pub returns-in_err-last-clause-each : goal.returns-in_err-last-clause-each
returns-in_err-last-clause-each c = λ a rest valid is.
    let number = c.in_ok-number.ensures.each a.number (after_number a rest) valid.encodable.number (is ∙ act_text-then a rest) in
    let first = c.in_ok-first.ensures.each a.first (after_first a rest) valid.encodable.first number.1 in
    absurd (c.in_err-last.ensures.each a.last (after_last a rest) valid.encodable.last first.1)

pub returns-in_err-added-clause-each : goal.returns-in_err-added-clause-each
returns-in_err-added-clause-each c = λ a rest valid is.
    let number = c.in_ok-number.ensures.each a.number (after_number a rest) valid.encodable.number (is ∙ act_text-then a rest) in
    let first = c.in_ok-first.ensures.each a.first (after_first a rest) valid.encodable.first number.1 in
    let last = c.in_ok-last.ensures.each a.last (after_last a rest) valid.encodable.last first.1 in
    absurd (c.in_err-added.ensures.each a.added (after_added a rest) valid.encodable.added valid.added last.1)

pub returns-in_err-who-clause-each : goal.returns-in_err-who-clause-each
returns-in_err-who-clause-each c = λ a rest valid is.
    let number = c.in_ok-number.ensures.each a.number (after_number a rest) valid.encodable.number (is ∙ act_text-then a rest) in
    let first = c.in_ok-first.ensures.each a.first (after_first a rest) valid.encodable.first number.1 in
    let last = c.in_ok-last.ensures.each a.last (after_last a rest) valid.encodable.last first.1 in
    let added = c.in_ok-added.ensures.each a.added (after_added a rest) valid.encodable.added valid.added last.1 in
    absurd (c.in_err-who.ensures.each a.who (after_who a rest) valid.encodable.who valid.who added.1)

pub returns-in_err-deed-clause-each : goal.returns-in_err-deed-clause-each
returns-in_err-deed-clause-each c = λ a rest valid is.
    let number = c.in_ok-number.ensures.each a.number (after_number a rest) valid.encodable.number (is ∙ act_text-then a rest) in
    let first = c.in_ok-first.ensures.each a.first (after_first a rest) valid.encodable.first number.1 in
    let last = c.in_ok-last.ensures.each a.last (after_last a rest) valid.encodable.last first.1 in
    let added = c.in_ok-added.ensures.each a.added (after_added a rest) valid.encodable.added valid.added last.1 in
    let who = c.in_ok-who.ensures.each a.who (after_who a rest) valid.encodable.who valid.who added.1 in
    absurd (c.in_err-deed.ensures.each a.deed (after_deed a rest) valid.encodable.deed valid.deed who.1)

pub returns-in_err-lines-clause-each : goal.returns-in_err-lines-clause-each
returns-in_err-lines-clause-each c = λ a rest valid is.
    let number = c.in_ok-number.ensures.each a.number (after_number a rest) valid.encodable.number (is ∙ act_text-then a rest) in
    let first = c.in_ok-first.ensures.each a.first (after_first a rest) valid.encodable.first number.1 in
    let last = c.in_ok-last.ensures.each a.last (after_last a rest) valid.encodable.last first.1 in
    let added = c.in_ok-added.ensures.each a.added (after_added a rest) valid.encodable.added valid.added last.1 in
    let who = c.in_ok-who.ensures.each a.who (after_who a rest) valid.encodable.who valid.who added.1 in
    let deed = c.in_ok-deed.ensures.each a.deed (after_deed a rest) valid.encodable.deed valid.deed who.1 in
    absurd (c.in_err-lines.ensures.each a.lines rest valid.encodable.lines deed.1)

pub returns-clause-found : goal.returns-clause-found
returns-clause-found c =
    let a : ActEntry = record {
      number = c.in_ok-number.number;
      first = c.in_ok-first.first;
      last = c.in_ok-last.last;
      added = c.in_ok-added.added.now;
      who = option_map (λ t. t.now) c.in_ok-who.who;
      deed = option_map (λ t. t.now) c.in_ok-deed.deed;
      lines = c.in_ok-lines.lines.now;
    } in
    let from_deed = c.in_ok-deed.ensures.found ∙ ap (λ (v : List ℕ). option_field (codes "deed") a.deed ++ v) c.in_ok-lines.ensures.found in
    let from_who = c.in_ok-who.ensures.found ∙ ap (λ (v : List ℕ). option_field (codes "who") a.who ++ v) from_deed in
    let from_added = c.in_ok-added.ensures.found ∙ ap (λ (v : List ℕ). text_field (codes "added") a.added ++ v) from_who in
    let from_last = c.in_ok-last.ensures.found ∙ ap (λ (v : List ℕ). number_line (codes "last") a.last ++ v) from_added in
    let from_first = c.in_ok-first.ensures.found ∙ ap (λ (v : List ℕ). number_line (codes "first") a.first ++ v) from_last in
    let from_number = c.in_ok-number.ensures.found ∙ ap (λ (v : List ℕ). number_line (codes "act") a.number ++ v) from_first in
    from_number ∙ sym (act_text-then a c.in_ok-lines.rest.now)

pub returns-clause-each : goal.returns-clause-each
returns-clause-each c = λ a rest valid is.
    let number = c.in_ok-number.ensures.each a.number (after_number a rest) valid.encodable.number (is ∙ act_text-then a rest) in
    let first = c.in_ok-first.ensures.each a.first (after_first a rest) valid.encodable.first number.1 in
    let last = c.in_ok-last.ensures.each a.last (after_last a rest) valid.encodable.last first.1 in
    let added = c.in_ok-added.ensures.each a.added (after_added a rest) valid.encodable.added valid.added last.1 in
    let who = c.in_ok-who.ensures.each a.who (after_who a rest) valid.encodable.who valid.who added.1 in
    let deed = c.in_ok-deed.ensures.each a.deed (after_deed a rest) valid.encodable.deed valid.deed who.1 in
    let lines = c.in_ok-lines.ensures.each a.lines rest valid.encodable.lines deed.1 in
    (λ i. record { number = number.0 i; first = first.0 i; last = last.0 i; added = added.0 i; who = who.0 i; deed = deed.0 i; lines = lines.0 i }, lines.1)
