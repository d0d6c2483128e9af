-- Where nothing is asked of half-spaces and labels.
use Rattle.std.proofs.Common.{List, [], ◌∷◌}
use Rattle.std.specs.List.{AllByRecursion}
use Rattle.rp_geometry.specs.Geometry.{HalfSpace}
use Rattle.rp_geometry.specs.sets.Prism.{Prism, Edge, edges_of}
use Rattle.rp_geometry.specs.sets.Shape.{Part}
use Rattle.rp_geometry.specs.parts.Trapezoid.{trapezoid}
use Rattle.rp_language.specs.Name.{Label}
use Rattle.rp_language.specs.Expression.{Expression, half_space, box, prism, everything, nothing, named, lot, intersection, union, difference, complement, Command, expressions_of}
use Rattle.rp_model.specs.states.State.{Kept, Lot, StateOf}
use Rattle.rp_parametricity.proofs.Likeness.{PartsHave, EdgesHave, ExpressionHas}
use Rattle.rp_parametricity.proofs.Kept.{EntryHas, LotHas, StateHas, CommandHas, labels_of}

-- nothing is asked of half-spaces, of labels
abbrev pub Any : HalfSpace → Type 0
Any h = Unit {0}

-- nothing is asked of labels
abbrev pub AnyLabel : Label → Type 0
AnyLabel x = Unit {0}

-- ---- where nothing is asked

-- nothing is asked of a cell
pub any_cell : (cell : List HalfSpace) → AllByRecursion Any cell
any_cell [] = tt
any_cell (h ∷ cell) = (tt, any_cell cell)

-- nothing is asked of parts
pub any_parts : (ps : List Part) → PartsHave Any ps
any_parts [] = tt
any_parts (p ∷ ps) = (any_cell p.cell, any_parts ps)

-- nothing is asked of several labels
pub any_labels : (xs : List Label) → AllByRecursion AnyLabel xs
any_labels [] = tt
any_labels (x ∷ xs) = (tt, any_labels xs)

-- nothing is asked of the trapezoids of edges
pub any_edges : (s : Prism) (es : List Edge) → EdgesHave Any s es
any_edges s [] = tt
any_edges s (e ∷ es) = (λ _. any_cell (trapezoid s e), any_edges s es)

-- nothing is asked of an expression
pub any_expression : (e : Expression) → ExpressionHas Any AnyLabel e
any_expression (half_space h) = tt
any_expression (box b) = (tt, (tt, (tt, (tt, (tt, (tt, tt))))))
any_expression (prism s) = any_edges s (edges_of s.corners)
any_expression everything = tt
any_expression nothing = tt
any_expression (named x) = tt
any_expression (lot x) = tt
any_expression (intersection e f) = (any_expression e, any_expression f)
any_expression (union e f) = (any_expression e, any_expression f)
any_expression (difference e f) = (any_expression e, any_expression f)
any_expression (complement e) = any_expression e

-- nothing is asked of several expressions
pub any_expressions : (es : List Expression) → AllByRecursion (ExpressionHas Any AnyLabel) es
any_expressions [] = tt
any_expressions (e ∷ es) = (any_expression e, any_expressions es)

-- nothing is asked of entries
any_names : {S : Type 0} (ks : List (Kept S)) → AllByRecursion (EntryHas Any AnyLabel) ks
any_names [] = tt
any_names (k ∷ ks) = ((tt, any_parts k.parts), any_names ks)

-- nothing is asked of lots
any_lots : {S : Type 0} (ls : List (Lot S)) → AllByRecursion (LotHas Any AnyLabel) ls
any_lots [] = tt
any_lots (l ∷ ls) = ((tt, any_parts l.parts, any_labels l.origins, tt), any_lots ls)

-- nothing is asked of a state
pub any_state : {S : Type 0} (s : StateOf S) → StateHas Any AnyLabel s
any_state s = record { layer = tt; names = any_names s.names; lots = any_lots s.lots }

-- nothing is asked of a command
pub any_command : (c : Command) → CommandHas Any AnyLabel c
any_command c = record { shapes = any_expressions (expressions_of c); labels = any_labels (labels_of c) }
