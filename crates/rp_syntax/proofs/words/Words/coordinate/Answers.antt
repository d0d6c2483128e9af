use Rattle.std.proofs.Common.{◌≡◌, ℤ, Ok, subst, sym, ◌∙◌, rules, to_z, of_z}
use Rattle.std.specs.Prelude.{int_le}
use Rattle.std.specs.Int.RustNames.{FitsSigned}
use Rattle.std.proofs.lemmas.Bool.{and_from, and_left, and_right}
use Rattle.std.proofs.lemmas.Int.{to_z-of_z}
use mir.Syntax.{w128}
use Rattle.rp_language.specs.Grammar.{coordinate}
use Rattle.rp_command.specs.Versions.{version_of}
use Rattle.rp_syntax.proofs.NumberLemmas.{read_within, read_outside}
use Rattle.rp_syntax.proofs.words.Words.coordinate.Goals as goal
use Rattle.rp_syntax.proofs.words.Words.coordinate.Goals.{else-least-v-via-then-least-v+else-v-greatest, else-least-v-via-else-least-v}

-- a test of the machine's numbers is one of the numbers
same_test : (a b : ℤ) → FitsSigned w128 a → FitsSigned w128 b → int_le a b ≡ int_le (to_z w128 (of_z w128 a)) (to_z w128 (of_z w128 b))
same_test a b fa fb = λ i. int_le (sym (to_z-of_z w128 a fa) i) (sym (to_z-of_z w128 b fb) i)

pub returns-then-v-greatest-clause-read : goal.returns-then-v-greatest-clause-read
returns-then-v-greatest-clause-read c =
    let x = c.in-Some.v in
    let fits : FitsSigned w128 x = search rules in
    let low = same_test c.args.least x c.ranges.least fits ∙ c.if-least-v.true in
    let high = same_test x c.args.greatest fits c.ranges.greatest ∙ c.if-v-greatest.true in
    subst (λ (y : ℤ). coordinate (version_of c.args.version) c.args.least c.args.greatest c.args.self.now ≡ Ok (y, c.next.new.self)) (sym (to_z-of_z w128 x fits))
    (read_within (version_of c.args.version) c.args.least c.args.greatest x c.args.self.now c.next.new.self c.in_ok-word.word.now c.requires.least c.requires.greatest c.in_ok-word.ensures (sym c.coordinate.ensures ∙ c.in-Some.is) (and_from _ _ low high))

pub returns-else-least-v-clause-read : goal.returns-else-least-v-clause-read
returns-else-least-v-clause-read c =
    let x = c.in-Some.v in
    let fits : FitsSigned w128 x = search rules in
    read_outside (version_of c.args.version) c.args.least c.args.greatest x c.args.self.now c.next.new.self c.in_ok-word.word.now c.requires.least c.requires.greatest c.in_ok-word.ensures (sym c.coordinate.ensures ∙ c.in-Some.is)
    (elim c.else-least-v.branch [
      | else-least-v-via-then-least-v+else-v-greatest w ↦ and_right _ _ (same_test x c.args.greatest fits c.ranges.greatest ∙ w.if-v-greatest.false)
      | else-least-v-via-else-least-v w ↦ and_left _ _ (same_test c.args.least x c.ranges.least fits ∙ w.if-least-v.false)
    ])
