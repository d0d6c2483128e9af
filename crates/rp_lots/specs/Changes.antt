-- The result of the row of a command that changes something.
use Rattle.std.specs.Prelude.{◌≡◌, List, map, Result, Ok, Err}
use Rattle.rp_geometry.specs.sets.Shape.{Part}
use Rattle.rp_semantics.specs.Walk.{Outcome, done}
use Rattle.rp_model.specs.states.State.{Change as ModelChange, name_added, lots_replaced, layer_changed}
use Rattle.rp_model.specs.commands.Reply.{Reply, accepted}
use Rattle.rp_history.specs.Parts.{new_lots}
use Rattle.rp_answer.specs.declared.reply.RowEnd.{RowEnd}
use Rattle.rp_answer.specs.Replies.{EndsBy}
use Rattle.rp_lots.specs.declared.change.Replaced.{Replaced}
use Rattle.rp_lots.specs.declared.change.Change.{Change}
use Rattle.rp_lots.specs.declared.change.Change.TheVariants.{Named, Replaced as ReplacedLots, Layer}

-- lots that end and others that are born, as the change of the model
abbrev pub replaced_of : {F : Type 0} → (F → List Part) → Replaced F → ModelChange (Unit {0})
replaced_of view r = lots_replaced r.ends.items (new_lots r.births.items (map view r.forms.items))

-- the change of the model for a change of the code
abbrev pub change_of : {F : Type 0} → (F → List Part) → Change F → ModelChange (Unit {0})
change_of view (Named x f) = name_added (record { name = x; set = tt; parts = view f })
change_of view (ReplacedLots r) = replaced_of view r
change_of view (Layer y) = layer_changed y

-- the row accepts the change of the result, as the model sees it, or has its end, with the given work
abbrev pub Changes : {W A : Type 0} → (A → ModelChange (Unit {0})) → Result A RowEnd → W → Outcome W Reply → Type 0
Changes view (Ok x) w o = o ≡ done (accepted (view x)) w
Changes view (Err e) w o = EndsBy e w o

-- the result of a row in which lots end and others are born, as a change
abbrev pub replacing : {F : Type 0} → Result (Replaced F) RowEnd → Result (Change F) RowEnd
replacing (Ok r) = Ok (ReplacedLots r)
replacing (Err e) = Err e
