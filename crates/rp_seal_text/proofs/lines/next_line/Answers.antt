use Rattle.std.proofs.Common.{◌≡◌, ◌+◌, ◌∷◌, ◌++◌, length, take, drop, Some, None, refl, ap, sym, ◌∙◌, arith, length-drop, take_all, take_at}
use Rattle.std.proofs.Math.Seq.{drop-append-add}
use Rattle.rp_seal_text.proofs.LineLemmas.{position-line, position-found}
use Rattle.rp_seal_text.proofs.lines.next_line.Goals as goal

pub returns-in_err-end-clause-each : goal.returns-in_err-end-clause-each
returns-in_err-end-clause-each c = λ line rest free is.
    let no : None ≡ Some (length line) = c.in_err-end.ensures ∙ position-line c.args.text.now line rest free is in (cc)

pub returns-clause-found : goal.returns-clause-found
returns-clause-found c =
    position-found c.args.text.now c.in_ok-end.end c.in_ok-end.ensures
    ∙ ap (λ v. take c.in_ok-end.end c.args.text.now ++ 10 ∷ v) (sym (take_all _ _ (omega (arith, length-drop (c.in_ok-end.end + 1) c.args.text.now))))

pub returns-clause-each : goal.returns-clause-each
returns-clause-each c = λ line rest free is.
    let same : Some c.in_ok-end.end ≡ Some (length line) = c.in_ok-end.ensures ∙ position-line c.args.text.now line rest free is in
    let end : c.in_ok-end.end ≡ length line = (cc) in (
      ap (λ n. take n c.args.text.now) end ∙ ap (take (length line)) is ∙ take_at line (10 ∷ rest) (length line) refl,
      take_all _ _ (omega (arith, length-drop (c.in_ok-end.end + 1) c.args.text.now))
          ∙ ap (λ n. drop (n + 1) c.args.text.now) end ∙ ap (drop (length line + 1)) is ∙ drop-append-add line (10 ∷ rest) 1,
    )
