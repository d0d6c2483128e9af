-- What the command of each verb must meet.
use Rattle.rp_language.specs.Expression.{Verb, said, let_verb, member_verb, register_verb, cut_verb, subdivide_verb, consolidate_verb, retire_verb, neighbours_verb, history_verb, at_verb, asof_verb, audit_verb, list_verb, layer_verb, section_verb, access_verb, rcc_verb}
use Rattle.rp_model.specs.commands.Row.{row_of}
use Rattle.rp_row_soundness.proofs.Questions.{rcc_laws, section_laws, meets_of}
use Rattle.rp_row_soundness.proofs.Neighbours.{member_laws, neighbours_laws, history_laws, at_laws, asof_laws, audit_laws, list_laws}
use Rattle.rp_row_soundness.proofs.Access.{access_laws}
use Rattle.rp_row_soundness.proofs.Register.{let_laws, register_laws, layer_laws}
use Rattle.rp_row_soundness.proofs.Reshape.{cut_laws, consolidate_laws, retire_laws}
use Rattle.rp_row_soundness.proofs.Subdivide.{subdivide_laws}
use Rattle.rp_model.specs.commands.Table.{entry}
use Rattle.rp_row_soundness.proofs.Stopped.{stopped_told}
use Rattle.rp_row_soundness.proofs.Laws.{Meets, entry_replies, entry_one, entry_speaks}

-- the laws of the command of each verb
pub meets : (verb : Verb) → Meets verb
meets let_verb = let_laws
meets member_verb = member_laws
meets register_verb = register_laws
meets cut_verb = cut_laws
meets subdivide_verb = subdivide_laws
meets consolidate_verb = consolidate_laws
meets retire_verb = retire_laws
meets neighbours_verb = neighbours_laws
meets history_verb = history_laws
meets at_verb = at_laws
meets asof_verb = asof_laws
meets audit_verb = audit_laws
meets list_verb = list_laws
meets layer_verb = layer_laws
meets section_verb = section_laws
meets access_verb = access_laws
meets rcc_verb = rcc_laws
meets verb = record {
  replies = λ P t right s sound os kept w. entry_replies P t right s sound (entry verb) tt (meets_of verb) os kept w;
  passed = λ P t right s sound os kept w. stopped_told (row_of t s (said verb os) w) (Unit {0}) tt;
  speaks = λ s formed os. entry_speaks (entry verb) tt (meets_of verb) s formed os;
  one = λ exclude pieces s formed h os. entry_one (entry verb) tt (meets_of verb) exclude pieces s formed h os;
}
