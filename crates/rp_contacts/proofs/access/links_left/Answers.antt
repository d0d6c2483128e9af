use Rattle.std.proofs.Common.{◌≡◌, ℕ, ◌<◌, List, map, length, sym, ap, ◌∙◌, subst, arith}
use Rattle.std.specs.List.{AllByRecursion}
use Rattle.std.proofs.lemmas.List.{length-map}
use Rattle.rp_language.specs.Name.{Label}
use Rattle.rp_model.specs.states.State.{place_among}
use Rattle.rp_history.specs.Lots.{lot_of}
use Rattle.rp_contacts.specs.Numbers.{IsPairOf, AreBelow, placed}
use Rattle.rp_contacts.proofs.Linked.{ids_counted}
use Rattle.rp_contacts.proofs.access.links_left.Goals as goal

pub numbered_pairs-requires-clause-there : goal.numbered_pairs-requires-clause-there
numbered_pairs-requires-clause-there c = subst (AllByRecursion (IsPairOf c.args.places.now)) (sym c.deref.ensures.value) c.requires.pairs

pub returns-clause-ready : goal.returns-clause-ready
returns-clause-ready c =
    let lots = map lot_of c.args.lots.now in
    let places = c.args.places.now in
    let ids = c.in_ok-ids.ensures in
    let within = subst (λ (n : ℕ). AllByRecursion (λ k. k < n) places) (sym (length-map c.args.lots.now lot_of)) c.requires.places in
    let many : length c.in_ok-ids.ids.items ≡ length places = ap length ids ∙ ids_counted lots places within in
    let few = c.requires.few in
    record {
      few = omega (arith, many, few);
      below = subst (λ (n : ℕ). AllByRecursion (AreBelow n) c.in_ok-numbers.numbers.items) (sym many) c.in_ok-numbers.ensures.below;
      each = sym (length-map c.in_ok-numbers.numbers.items (placed places)) ∙ ap length (c.in_ok-numbers.ensures.placed ∙ c.deref.ensures.value);
      from_there = subst (λ (xs : List Label). place_among c.args.from xs < length xs) (sym ids) c.requires.from_there;
      to_there = subst (λ (xs : List Label). place_among c.args.to xs < length xs) (sym ids) c.requires.to_there;
    }
