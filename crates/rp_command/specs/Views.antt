-- The commands of the code as those of the model.
use Rattle.std.specs.Prelude.{List, ℕ, map}
use Rattle.rp_language.specs.Name.{Label}
use Rattle.rp_language.specs.Expression.{Expression, Child, Command as ModelCommand, define, ask_member, ask_empty, ask_pieces, ask_show, ask_equal, ask_within, ask_overlap, ask_contact, ask_relation, register, cut, subdivide, consolidate, retire, ask_neighbours, ask_history, ask_at, ask_as_of, ask_audit, ask_list, set_layer, ask_section, ask_access}
use Rattle.rp_language.specs.Expression.{Verb as ModelVerb, let_verb, member_verb, empty_verb, pieces_verb, show_verb, equal_verb, within_verb, overlap_verb, contact_verb, rcc_verb, register_verb, cut_verb, subdivide_verb, consolidate_verb, retire_verb, neighbours_verb, history_verb, at_verb, asof_verb, audit_verb, list_verb, layer_verb, section_verb, access_verb}
use Rattle.rp_language.specs.Grammar.{Fault, too_long, bad_syntax, out_of_range, zero_half_space, too_many_nodes, Reading, blank, command, bad}
use Rattle.rp_space.specs.Boxes.{integer_box}
use Rattle.rp_space.specs.Corners.{prism_of}
use Rattle.rp_command.specs.declared.command.Expr.{Expr}
use Rattle.rp_command.specs.declared.command.Expr.TheVariants.{Half, Block, Prism, All, Nothing, Name, Lot, And', Or', Minus', Not'}
use Rattle.rp_command.specs.declared.command.Command.{Command}
use Rattle.rp_command.specs.declared.command.Command.TheVariants as commands
use Rattle.rp_command.specs.declared.command.Verb.{Verb}
use Rattle.rp_command.specs.declared.command.Verb.TheVariants as verbs
use Rattle.rp_command.specs.declared.command.Why.{Why}
use Rattle.rp_command.specs.declared.command.Why.TheVariants.{Syntax, Range, Zero, Nodes, Long}
use Rattle.rp_command.specs.declared.command.Line.{Line}
use Rattle.rp_command.specs.declared.command.Line.TheVariants.{Blank, Cmd, Bad}

-- the expression of the model for an expression of the code
abbrev pub expression_of : Expr → Expression
expression_of (Half h) = Expression.half_space h
expression_of (Block b) = Expression.box (integer_box b)
expression_of (Prism low high corners) = Expression.prism (prism_of low high corners.items)
expression_of All = Expression.everything
expression_of Nothing = Expression.nothing
expression_of (Name x) = Expression.named x
expression_of (Lot x) = Expression.lot x
expression_of (And' p e q f) = Expression.intersection (expression_of e) (expression_of f)
expression_of (Or' p e q f) = Expression.union (expression_of e) (expression_of f)
expression_of (Minus' p e q f) = Expression.difference (expression_of e) (expression_of f)
expression_of (Not' p e) = Expression.complement (expression_of e)

-- the child of the model for an entry of the code
abbrev pub child_of : List ℕ × Expr → Child
child_of entry = record { id = entry.0; shape = expression_of entry.1 }

-- the expressions of the model for some entries of the code
abbrev pub shapes_of : List (Label × Expr) → List Expression
shapes_of entries = map (λ e. expression_of e.1) entries

-- the command of the model for a command of the code
abbrev pub command_of : Command → ModelCommand
command_of (commands.Let x e) = define x (expression_of e)
command_of (commands.Member e p) = ask_member (expression_of e) p
command_of (commands.Empty e) = ask_empty (expression_of e)
command_of (commands.Pieces e) = ask_pieces (expression_of e)
command_of (commands.Show e) = ask_show (expression_of e)
command_of (commands.Equal e f) = ask_equal (expression_of e) (expression_of f)
command_of (commands.Within e f) = ask_within (expression_of e) (expression_of f)
command_of (commands.Overlap e f) = ask_overlap (expression_of e) (expression_of f)
command_of (commands.Contact e f) = ask_contact (expression_of e) (expression_of f)
command_of (commands.Rcc e f) = ask_relation (expression_of e) (expression_of f)
command_of (commands.Register x e) = register x (expression_of e)
command_of (commands.Cut x e first second) = cut x (expression_of e) first second
command_of (commands.Subdivide x entries) = subdivide x (map child_of entries.items)
command_of (commands.Consolidate x ids) = consolidate x ids.items
command_of (commands.Retire x) = retire x
command_of (commands.Neighbours x) = ask_neighbours x
command_of (commands.History x) = ask_history x
command_of (commands.At p) = ask_at p
command_of (commands.Asof n p) = ask_as_of n p
command_of commands.Audit = ask_audit
command_of commands.List = ask_list
command_of (commands.Layer x) = set_layer x
command_of (commands.Section e z) = ask_section (expression_of e) z
command_of (commands.Access x y) = ask_access x y

-- the verb of the model for a verb of the code
abbrev pub verb_of : Verb → ModelVerb
verb_of verbs.Let = let_verb
verb_of verbs.Member = member_verb
verb_of verbs.Empty = empty_verb
verb_of verbs.Pieces = pieces_verb
verb_of verbs.Show = show_verb
verb_of verbs.Equal = equal_verb
verb_of verbs.Within = within_verb
verb_of verbs.Overlap = overlap_verb
verb_of verbs.Contact = contact_verb
verb_of verbs.Rcc = rcc_verb
verb_of verbs.Register = register_verb
verb_of verbs.Cut = cut_verb
verb_of verbs.Subdivide = subdivide_verb
verb_of verbs.Consolidate = consolidate_verb
verb_of verbs.Retire = retire_verb
verb_of verbs.Neighbours = neighbours_verb
verb_of verbs.History = history_verb
verb_of verbs.At = at_verb
verb_of verbs.Asof = asof_verb
verb_of verbs.Audit = audit_verb
verb_of verbs.List = list_verb
verb_of verbs.Layer = layer_verb
verb_of verbs.Section = section_verb
verb_of verbs.Access = access_verb

-- the fault of the grammar for a fault of the code
abbrev pub fault_of : Why → Fault
fault_of Syntax = bad_syntax
fault_of Range = out_of_range
fault_of Zero = zero_half_space
fault_of Nodes = too_many_nodes
fault_of Long = too_long

-- the reading of the model for a line of the code
abbrev pub line_of : Line → Reading
line_of Blank = blank
line_of (Cmd c) = command (command_of c)
line_of (Bad why) = bad (fault_of why)
