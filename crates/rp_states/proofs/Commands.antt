-- The laws over states of each command.
use Rattle.rp_geometry.specs.sets.Shape.{Shape}
use Rattle.rp_language.specs.Expression.{Command, Meaning, expressions_of, first_unknown_among, Verb, let_verb, member_verb, register_verb, cut_verb, subdivide_verb, consolidate_verb, retire_verb, neighbours_verb, history_verb, at_verb, asof_verb, audit_verb, list_verb, layer_verb, section_verb, access_verb, said}
use Rattle.rp_language.specs.Name.{Label}
use Rattle.rp_model.specs.commands.Definition.{Formed}
use Rattle.rp_model.specs.commands.Rule.{change_of, rule_after_labels, rule_without_limits}
use Rattle.rp_model.specs.commands.Rules.{labels_then}
use Rattle.rp_model.specs.commands.Verdict.{Verdict}
use Rattle.rp_model.specs.states.State.{State, sets_in, sets_only}
use Rattle.rp_states.proofs.Bare.{by_labels, meaning_bare}
use Rattle.std.proofs.Common.{◌≡◌, List, sym, ap, subst, Option}
use Rattle.rp_states.proofs.Fits.{Plain, forms_plain}
use Rattle.rp_model.specs.commands.Table.{definition, entry}
use Rattle.rp_states.proofs.Changes.{let_plain, register_plain, cut_plain, subdivide_plain, consolidate_plain, retire_plain, layer_plain}
use Rattle.rp_states.proofs.Lots.{member_plain, neighbours_plain, history_plain, at_plain, asof_plain, audit_plain, list_plain, access_plain}
use Rattle.rp_states.proofs.Questions.{answers_of, section_plain}

-- the laws of the command of each verb
pub plain : (verb : Verb) → Plain (definition verb)
plain let_verb = let_plain
plain member_verb = member_plain
plain register_verb = register_plain
plain cut_verb = cut_plain
plain subdivide_verb = subdivide_plain
plain consolidate_verb = consolidate_plain
plain retire_verb = retire_plain
plain neighbours_verb = neighbours_plain
plain history_verb = history_plain
plain at_verb = at_plain
plain asof_verb = asof_plain
plain audit_verb = audit_plain
plain list_verb = list_plain
plain layer_verb = layer_plain
plain section_verb = section_plain
plain access_verb = access_plain
plain verb = forms_plain (entry verb) tt (answers_of verb)

-- the rule of a command reads the sets alone
pub rule_bare : (s : State) (formed : Formed) (c : Command) (vs : List Verdict) → rule_without_limits s formed c vs → rule_without_limits (sets_only s) formed c vs
rule_bare s formed c vs h =
    subst (λ (o : Option Label). labels_then o (rule_after_labels (sets_only s) formed c) vs) (sym (ap (λ (m : Meaning Shape). first_unknown_among m (expressions_of c)) (meaning_bare s)))
    (by_labels (first_unknown_among (sets_in s) (expressions_of c)) (rule_after_labels s formed c) (rule_after_labels (sets_only s) formed c) vs (after c) h)
  where
    after : (c : Command) → rule_after_labels s formed c vs → rule_after_labels (sets_only s) formed c vs
    after (said verb os) = (plain verb).rule s formed os vs

-- the change of a command reads the sets alone
pub change_bare : (s : State) (c : Command) → change_of (sets_only s) c ≡ change_of s c
change_bare s (said verb os) = (plain verb).change s os
