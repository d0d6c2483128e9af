use Rattle.std.proofs.Common.{ℕ, ap, ◌∙◌, sym, slice_get}
use Rattle.std.specs.Option.{option_and_then}
use Rattle.rp_history.proofs.Descended.{place_added, no_place_added}
use Rattle.rp_history.proofs.lineage.add_place.Goals as goal

pub returns-in_ok-insert : goal.returns-in_ok-insert
returns-in_ok-insert c =
    place_added c.args.id.now c.args.history.now c.place_of.ensures.distinct c.in-Some.place c.in-Some.ensures.within c.in-Some.ensures.lot c.args.places.now.keys c.insert.new.self.keys c.in_ok-insert.ensures.updates.0

pub returns-in_default : goal.returns-in_default
returns-in_default c =
    no_place_added c.args.id.now c.args.history.now c.args.places.now.keys (sym c.place_of.ensures.lot ∙ ap (option_and_then (λ (k : ℕ). slice_get c.args.history.now k)) c.in_default.is)
