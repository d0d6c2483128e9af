use Rattle.std.proofs.Common.{◌≡◌, ◌++◌, ◌∷◌, [], List, length, map, ap, sym, ◌∙◌, subst, append_assoc, arith}
use Rattle.std.specs.Prelude.{All, flat_map}
use Rattle.std.proofs.lemmas.List.{length-map, map-append}
use Rattle.std.proofs.lemmas.List.Elements.{All-push}
use Rattle.rp_seal.specs.Act.{ActEntry, entry_of}
use Rattle.rp_seal_text.specs.ActText.{IsActText, act_text, end_line}
use Rattle.rp_seal_text.proofs.StreamLemmas.{act_texts-push, left_after, next_left, none_left}
use Rattle.rp_seal_text.proofs.act_stream.take_acts.Goals as goal

pub loop-act-preserved : goal.loop-act-preserved
loop-act-preserved c =
    let read : List ActEntry = map entry_of c.loop-act.acts.items in
    let act : ActEntry = entry_of c.in-Some.act in
    let items : map entry_of c.push.new.self.items ≡ read ++ act ∷ [] =
    ap (map entry_of) c.in_ok-push.ensures.items ∙ map-append entry_of c.loop-act.acts.items (c.in-Some.act ∷ []) in
    record {
      found = c.loop-act.invariant.found ∙ ap (λ v. flat_map act_text read ++ v) c.in-Some.ensures.found
          ∙ sym (append_assoc (flat_map act_text read) (act_text act) c.in-Some.more.now)
          ∙ ap (λ v. v ++ c.in-Some.more.now) (sym (act_texts-push read act) ∙ ap (flat_map act_text) (sym items));
      valid = subst (All IsActText) (sym items) (All-push IsActText read act c.loop-act.invariant.valid c.in-Some.ensures.valid);
      each = λ log are few is.
          let next = next_left log read c.loop-act.rest.now act c.in-Some.more.now (c.loop-act.invariant.each log are few is) c.in-Some.ensures.found in
          let got = c.in-Some.ensures.each next.act (flat_map act_text next.left ++ end_line (length log)) next.act_is next.begins in
          left_after log read _ c.loop-act.rest.now _ next (items ∙ ap (λ v. read ++ v ∷ []) got.0) got.1;
    }

pub returns-in_default-read_end-clause-each : goal.returns-in_default-read_end-clause-each
returns-in_default-read_end-clause-each c = λ log are few is.
    let done = none_left log (map entry_of c.loop-act.acts.items) c.loop-act.rest.now (c.loop-act.invariant.each log are few is) c.in_default.ensures.each in
    let found = c.read_end.ensures.each (length log) few done.1 in
    absurd (cc (found, c.in_default-read_end.is))

pub returns-then-count-len-clause-each : goal.returns-then-count-len-clause-each
returns-then-count-len-clause-each c = λ log are few is.
    (none_left log (map entry_of c.loop-act.acts.items) c.loop-act.rest.now (c.loop-act.invariant.each log are few is) c.in_default.ensures.each).0

pub returns-clause-each : goal.returns-clause-each
returns-clause-each c = λ log are few is.
    let done = none_left log (map entry_of c.loop-act.acts.items) c.loop-act.rest.now (c.loop-act.invariant.each log are few is) c.in_default.ensures.each in
    let found = c.read_end.ensures.each (length log) few done.1 in
    let count : c.in-Some-read_end.count ≡ length log = cc (found, c.in-Some-read_end.is) in
    let same : c.len.result ≡ length log = omega (arith, length-map c.loop-act.acts.items entry_of, ap length done.0) in
    absurd (c.if-count-len.false (count ∙ sym same))
