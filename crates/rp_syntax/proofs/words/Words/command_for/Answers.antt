use Rattle.std.proofs.Common.{◌≡◌, Result, Ok, refl, sym, ap, subst}
use Rattle.rp_command.specs.declared.command.Command.{Command}
use Rattle.rp_command.specs.declared.command.Command.TheVariants as commands
use Rattle.rp_command.specs.Versions.{version_of}
use Rattle.rp_command.specs.Views.{command_of, expression_of, verb_of}
use Rattle.rp_language.specs.Expression.{ask_empty, ask_equal, ask_within, ask_overlap, ask_contact, ask_relation, ask_pieces, ask_show, retire, ask_neighbours, ask_history, ask_at, set_layer}
use Rattle.rp_language.specs.Grammar.{Place, Version, verb_words}
use Rattle.rp_syntax.specs.declared.fault.ReadFault.{ReadFault}
use Rattle.rp_command.specs.declared.command.Verb.{Verb}
use Rattle.rp_syntax.specs.Reads.{Reads}
use Rattle.rp_syntax.proofs.ReadLemmas.{read_made_of}
use Rattle.rp_syntax.proofs.words.Words.command_for.Goals as goal

-- what is read after the word of a command
by_verb : (version : Version) (verb is : Verb) (r : Result Command ReadFault) (old new : Place) → verb ≡ is → Reads command_of r new (verb_words version (verb_of is) old) → Reads command_of r new (verb_words version (verb_of verb) old)
by_verb version verb is r old new e h = subst (λ (v : Verb). Reads command_of r new (verb_words version (verb_of v) old)) (sym e) h

pub returns-in-Let : goal.returns-in-Let
returns-in-Let c = by_verb _ _ _ _ _ _ c.in-Let.is c.definition.ensures

pub returns-in-Member : goal.returns-in-Member
returns-in-Member c = by_verb _ _ _ _ _ _ c.in-Member.is c.member.ensures

pub returns-in-Empty : goal.returns-in-Empty
returns-in-Empty c = by_verb _ _ _ _ _ _ c.in-Empty.is (read_made_of expression_of command_of ask_empty commands.Empty _ _ _ _ c.map.ensures.cases (λ _. refl) c.expression.ensures)

pub returns-in-Pieces : goal.returns-in-Pieces
returns-in-Pieces c = by_verb _ _ _ _ _ _ c.in-Pieces.is (read_made_of expression_of command_of ask_pieces commands.Pieces _ _ _ _ c.map-in-Pieces.ensures.cases (λ _. refl) c.expression-in-Pieces.ensures)

pub returns-in-Show : goal.returns-in-Show
returns-in-Show c = by_verb _ _ _ _ _ _ c.in-Show.is (read_made_of expression_of command_of ask_show commands.Show _ _ _ _ c.map-in-Show.ensures.cases (λ _. refl) c.expression-in-Show.ensures)

pub returns-in-Equal : goal.returns-in-Equal
returns-in-Equal c = by_verb _ _ _ _ _ _ c.in-Equal.is (c.comparison.ensures ask_equal (λ a b made is. ap command_of is.2))

pub returns-in-Within : goal.returns-in-Within
returns-in-Within c = by_verb _ _ _ _ _ _ c.in-Within.is (c.comparison-in-Within.ensures ask_within (λ a b made is. ap command_of is.2))

pub returns-in-Overlap : goal.returns-in-Overlap
returns-in-Overlap c = by_verb _ _ _ _ _ _ c.in-Overlap.is (c.comparison-in-Overlap.ensures ask_overlap (λ a b made is. ap command_of is.2))

pub returns-in-Contact : goal.returns-in-Contact
returns-in-Contact c = by_verb _ _ _ _ _ _ c.in-Contact.is (c.comparison-in-Contact.ensures ask_contact (λ a b made is. ap command_of is.2))

pub returns-in-Rcc : goal.returns-in-Rcc
returns-in-Rcc c = by_verb _ _ _ _ _ _ c.in-Rcc.is (c.comparison-in-Rcc.ensures ask_relation (λ a b made is. ap command_of is.2))

pub returns-in-Register : goal.returns-in-Register
returns-in-Register c = by_verb _ _ _ _ _ _ c.in-Register.is c.registration.ensures

pub returns-in-Cut : goal.returns-in-Cut
returns-in-Cut c = by_verb _ _ _ _ _ _ c.in-Cut.is c.cut.ensures

pub returns-in-Subdivide : goal.returns-in-Subdivide
returns-in-Subdivide c = by_verb _ _ _ _ _ _ c.in-Subdivide.is c.subdivision.ensures

pub returns-in-Consolidate : goal.returns-in-Consolidate
returns-in-Consolidate c = by_verb _ _ _ _ _ _ c.in-Consolidate.is (c.consolidation.ensures (version_of c.args.version))

pub returns-in-Retire : goal.returns-in-Retire
returns-in-Retire c = by_verb _ _ _ _ _ _ c.in-Retire.is (read_made_of (λ x. x) command_of retire commands.Retire _ _ _ _ c.map-in-Retire.ensures.cases (λ _. refl) c.name.ensures)

pub returns-in-Neighbours : goal.returns-in-Neighbours
returns-in-Neighbours c = by_verb _ _ _ _ _ _ c.in-Neighbours.is (read_made_of (λ x. x) command_of ask_neighbours commands.Neighbours _ _ _ _ c.map-in-Neighbours.ensures.cases (λ _. refl) c.name-in-Neighbours.ensures)

pub returns-in-History : goal.returns-in-History
returns-in-History c = by_verb _ _ _ _ _ _ c.in-History.is (read_made_of (λ x. x) command_of ask_history commands.History _ _ _ _ c.map-in-History.ensures.cases (λ _. refl) c.name-in-History.ensures)

pub returns-in-At : goal.returns-in-At
returns-in-At c = by_verb _ _ _ _ _ _ c.in-At.is (read_made_of (λ x. x) command_of ask_at commands.At _ _ _ _ c.map-in-At.ensures.cases (λ _. refl) c.point.ensures)

pub returns-in-Asof : goal.returns-in-Asof
returns-in-Asof c = by_verb _ _ _ _ _ _ c.in-Asof.is c.as_of.ensures

pub returns-in-Layer : goal.returns-in-Layer
returns-in-Layer c = by_verb _ _ _ _ _ _ c.in-Layer.is (read_made_of (λ x. x) command_of set_layer commands.Layer _ _ _ _ c.map-in-Layer.ensures.cases (λ _. refl) c.name-in-Layer.ensures)

pub returns-in-Section : goal.returns-in-Section
returns-in-Section c = by_verb _ _ _ _ _ _ c.in-Section.is c.section.ensures

pub returns-in-Access : goal.returns-in-Access
returns-in-Access c = by_verb _ _ _ _ _ _ c.in-Access.is (c.access.ensures (version_of c.args.version))

pub returns-in-Audit : goal.returns-in-Audit
returns-in-Audit c = by_verb _ _ _ (Ok commands.Audit) _ _ c.in-Audit.is refl

pub returns-in-List : goal.returns-in-List
returns-in-List c = by_verb _ _ _ (Ok commands.List) _ _ c.in-List.is refl
