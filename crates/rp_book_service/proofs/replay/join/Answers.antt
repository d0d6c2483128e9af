use Rattle.std.proofs.Common.{rules, inl, inr, refl, ◌≡◌, ◌+◌, ◌-◌, IsTrue, ℕ, List, ◌++◌, ◌∷◌, append_assoc, drop, get_or, length, length-append, map, ap, sym, ◌∙◌, subst, arith}
use Rattle.std.specs.Prelude.{slice_index}
use Rattle.rp_book.specs.Lines.{last_number}
use Rattle.rp_book.proofs.ScriptLemmas.{HasEnd-behind}
use Rattle.rp_reports.specs.Text.{line_end}
use Rattle.rp_seal.specs.Act.{ActEntry, entry_of}
use Rattle.rp_seal.specs.declared.act.SealedAct.{SealedAct}
use Rattle.rp_book_service.specs.Replayed.{Continue, IsFirstUnlike, IsNext, entry_lines}
use Rattle.rp_book_service.proofs.ReplayLemmas.{no_act, rest-next}
use Rattle.rp_book_service.proofs.replay.join.Goals as goal

pub loop-act-preserved : goal.loop-act-preserved
loop-act-preserved c =
    let acts : List SealedAct = c.args.acts.now in
    let i : ℕ = c.loop-act.act-index in
    let act : SealedAct = get_or acts i no_act in
    let more : List ActEntry = map entry_of (drop (i + 1) acts) in
    let whole : List ℕ = c.loop-act.whole.items in
    let lines : List ℕ = act.lines.now in
    let new : List ℕ = c.extend_from_slice.new.self.items in
    let rest : map entry_of (drop i acts) ≡ entry_of act ∷ more = rest-next acts i no_act c.loop-act-test.true in
    let yes : IsTrue c.is_next.result = search rules in
    let next : IsNext whole c.loop-act.count (entry_of act) = subst (λ s. IsNext s c.loop-act.count (entry_of act)) c.deref.ensures.value (c.is_next.ensures.next.0 yes) in
    let items : new ≡ whole ++ lines = c.in_ok-extend_from_slice.ensures.items in
    let long : length new ≡ length whole + length lines = ap length items ∙ length-append whole lines in
    record {
      whole = ap (λ w. w ++ entry_lines more) items ∙ append_assoc whole lines (entry_lines more) ∙ ap (λ es. whole ++ entry_lines es) (sym rest) ∙ c.loop-act.invariant.whole;
      ended = λ some. subst (λ (w : List ℕ). slice_index w (length w - 1) ≡ line_end) (sym items) (HasEnd-behind whole lines next.ended).1;
      short = omega (arith, long, next.short);
      before = next.last ∙ ap last_number (sym items);
      fits = omega (arith, long, c.is_next.ensures.fits yes, c.deref.ensures.len);
      count = omega (arith, c.is_next.ensures.small yes);
      continues = λ others.
          c.loop-act.invariant.continues (subst (Continue whole c.loop-act.count) (sym rest) (next, subst (λ w. Continue w (c.loop-act.count + 1) more) items others));
      unlike = λ number others.
          c.loop-act.invariant.unlike number
          (subst (λ (es : List ActEntry). IsFirstUnlike whole c.loop-act.count es number) (sym rest) (inr (next, subst (λ w. IsFirstUnlike w (c.loop-act.count + 1) more number) items others)));
    }

pub returns-then-not-is_next : goal.returns-then-not-is_next
returns-then-not-is_next c =
    let acts : List SealedAct = c.args.acts.now in
    let i : ℕ = c.loop-act.act-index in
    let act : SealedAct = get_or acts i no_act in
    let more : List ActEntry = map entry_of (drop (i + 1) acts) in
    let whole : List ℕ = c.loop-act.whole.items in
    let rest : map entry_of (drop i acts) ≡ entry_of act ∷ more = rest-next acts i no_act c.loop-act-test.true in
    let other : ¬ IsNext c.deref.result.now c.loop-act.count (entry_of act) = λ n. let yes = c.is_next.ensures.next.1 n in absurd (cc (yes, c.if-not-is_next.true)) in
    let here : ¬ IsNext whole c.loop-act.count (entry_of act) = subst (λ s. ¬ IsNext s c.loop-act.count (entry_of act)) c.deref.ensures.value other in
    c.loop-act.invariant.unlike act.number (subst (λ (es : List ActEntry). IsFirstUnlike whole c.loop-act.count es act.number) (sym rest) (inl (here, refl)))
