use Rattle.std.proofs.Common.{◌<◌, List, length, sym, ap, ◌∙◌, subst, arith}
use Rattle.std.specs.List.{AllByRecursion}
use Rattle.rp_algebra.proofs.Listed.{all_map}
use Rattle.rp_language.specs.Name.{Label}
use Rattle.rp_model.specs.states.State.{place_among, most_kept_parts}
use Rattle.rp_access.specs.Chain.{IsBelow}
use Rattle.rp_contacts.specs.Numbers.{AreBelow}
use Rattle.rp_contacts.proofs.Numbers.{meeting_below}
use Rattle.rp_contacts.proofs.access.access_told.Goals as goal

pub met_pairs-requires-clause-below : goal.met_pairs-requires-clause-below
met_pairs-requires-clause-below c =
    let few = c.requires.ready.few in
    subst (AllByRecursion (AreBelow most_kept_parts)) (sym c.deref.ensures.value)
    (all_map (AreBelow (length c.args.left.now.ids.items)) (AreBelow most_kept_parts) (λ q h. (omega (arith, h.0, few), omega (arith, h.1, few))) c.args.left.now.numbers.items c.requires.ready.below)

pub met_pairs-requires-clause-each : goal.met_pairs-requires-clause-each
met_pairs-requires-clause-each c = ap length c.deref.ensures.value ∙ c.requires.ready.each ∙ sym c.requires.each

pub along-requires-clause-few : goal.along-requires-clause-few
along-requires-clause-few c = let few = c.requires.ready.few in let same = ap length c.items.ensures in omega (arith, few, same)

pub along-requires-clause-below : goal.along-requires-clause-below
along-requires-clause-below c =
    let left = c.args.left.now in
    let n = length left.ids.items in
    subst (λ k. AllByRecursion (IsBelow k) c.deref-2.result.now) (sym (ap length c.items.ensures))
    (subst (AllByRecursion (IsBelow n)) (sym (c.deref-2.ensures.value ∙ c.in_ok-links.ensures))
    (meeting_below n c.deref.result.now c.args.met.now (subst (AllByRecursion (AreBelow n)) (sym c.deref.ensures.value) c.requires.ready.below)))

pub along-requires-clause-from_there : goal.along-requires-clause-from_there
along-requires-clause-from_there c = subst (λ (xs : List Label). place_among c.args.left.now.from xs < length xs) (sym c.items.ensures) c.requires.ready.from_there

pub along-requires-clause-to_there : goal.along-requires-clause-to_there
along-requires-clause-to_there c = subst (λ (xs : List Label). place_among c.args.left.now.to xs < length xs) (sym c.items.ensures) c.requires.ready.to_there
