-- The table of commands.
use Rattle.rp_language.specs.Expression.{Verb, signature, let_verb, member_verb, empty_verb, pieces_verb, show_verb, equal_verb, within_verb, overlap_verb, contact_verb, rcc_verb, register_verb, cut_verb, subdivide_verb, consolidate_verb, retire_verb, neighbours_verb, history_verb, at_verb, asof_verb, audit_verb, list_verb, layer_verb, section_verb, access_verb}
use Rattle.rp_model.specs.commands.Access.{access_definition}
use Rattle.rp_model.specs.commands.Asof.{asof_definition}
use Rattle.rp_model.specs.commands.At.{at_definition}
use Rattle.rp_model.specs.commands.Audit.{audit_definition}
use Rattle.rp_model.specs.commands.Consolidate.{consolidate_definition}
use Rattle.rp_model.specs.commands.Contact.{contact_definition}
use Rattle.rp_model.specs.commands.Cut.{cut_definition}
use Rattle.rp_model.specs.commands.Definition.{Definition, Entry, about_form, about_forms, own, definition_of}
use Rattle.rp_model.specs.commands.Empty.{empty_definition}
use Rattle.rp_model.specs.commands.Equal.{equal_definition}
use Rattle.rp_model.specs.commands.History.{history_definition}
use Rattle.rp_model.specs.commands.Layer.{layer_definition}
use Rattle.rp_model.specs.commands.Let.{let_definition}
use Rattle.rp_model.specs.commands.List.{list_definition}
use Rattle.rp_model.specs.commands.Member.{member_definition}
use Rattle.rp_model.specs.commands.Neighbours.{neighbours_definition}
use Rattle.rp_model.specs.commands.Overlap.{overlap_definition}
use Rattle.rp_model.specs.commands.Pieces.{pieces_definition}
use Rattle.rp_model.specs.commands.Rcc.{rcc_definition}
use Rattle.rp_model.specs.commands.Register.{register_definition}
use Rattle.rp_model.specs.commands.Retire.{retire_definition}
use Rattle.rp_model.specs.commands.Section.{section_definition}
use Rattle.rp_model.specs.commands.Show.{show_definition}
use Rattle.rp_model.specs.commands.Subdivide.{subdivide_definition}
use Rattle.rp_model.specs.commands.Within.{within_definition}

-- what the command of each verb is
abbrev pub entry : (verb : Verb) → Entry (signature verb)
entry let_verb = own let_definition
entry member_verb = own member_definition
entry empty_verb = about_form empty_definition
entry pieces_verb = about_form pieces_definition
entry show_verb = about_form show_definition
entry equal_verb = about_forms equal_definition
entry within_verb = about_forms within_definition
entry overlap_verb = about_forms overlap_definition
entry contact_verb = about_forms contact_definition
entry rcc_verb = about_forms rcc_definition
entry register_verb = own register_definition
entry cut_verb = own cut_definition
entry subdivide_verb = own subdivide_definition
entry consolidate_verb = own consolidate_definition
entry retire_verb = own retire_definition
entry neighbours_verb = own neighbours_definition
entry history_verb = own history_definition
entry at_verb = own at_definition
entry asof_verb = own asof_definition
entry audit_verb = own audit_definition
entry list_verb = own list_definition
entry layer_verb = own layer_definition
entry section_verb = own section_definition
entry access_verb = own access_definition

-- the definition of each verb
abbrev pub definition : (verb : Verb) → Definition (signature verb)
definition verb = definition_of (entry verb)
