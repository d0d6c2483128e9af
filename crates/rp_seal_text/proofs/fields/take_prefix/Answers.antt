use Rattle.std.proofs.Common.{◌≡◌, ◌≢◌, ℕ, List, ◌++◌, Option, Some, None, MatchOption, IfSome, IsSomeAnd, sym, ◌∙◌}
use Rattle.std.proofs.lemmas.Bool.Decides.{Decides-eqb}
use Rattle.std.proofs.lemmas.List.{append_cancel_left}
use Rattle.std.proofs.lemmas.Slice.Eq.{strip_prefix_is}
use denote.Ref.{Bor}
use Rattle.rp_seal_text.proofs.fields.take_prefix.Goals as goal

-- what is found after a prefix follows the prefix
found_after : (s p : List ℕ) (r : Option (Bor (List ℕ))) → MatchOption r ((rest : List ℕ) → s ≢ p ++ rest) (λ x. s ≡ p ++ x.now)
    → IfSome r (λ x. s ≡ p ++ x.now)
found_after s p None is = tt
found_after s p (Some x) is = is

-- what follows a prefix is found
each_after : (s p : List ℕ) (r : Option (Bor (List ℕ))) → MatchOption r ((rest : List ℕ) → s ≢ p ++ rest) (λ x. s ≡ p ++ x.now)
    → (rest : List ℕ) → s ≡ p ++ rest → IsSomeAnd r (λ x. x.now ≡ rest)
each_after s p None is rest begins = is rest begins
each_after s p (Some x) is rest begins = append_cancel_left p x.now rest (sym is ∙ begins)

pub returns-clause-found : goal.returns-clause-found
returns-clause-found c =
    found_after c.args.text.now c.args.prefix.now _ (strip_prefix_is Decides-eqb c.args.text.now c.args.prefix.now _ c.strip_prefix.ensures.cases)

pub returns-clause-each : goal.returns-clause-each
returns-clause-each c =
    each_after c.args.text.now c.args.prefix.now _ (strip_prefix_is Decides-eqb c.args.text.now c.args.prefix.now _ c.strip_prefix.ensures.cases)
