-- The keywords of the code as those of the grammar.
use Rattle.rp_language.specs.Grammar.{Node as ModelNode, half_node, box_node, all_node, none_node, and_node, or_node, minus_node, not_node, name_node, lot_node, prism_node}
use Rattle.rp_syntax.specs.declared.keywords.Node.{Node}
use Rattle.rp_syntax.specs.declared.keywords.Node.TheVariants as nodes

-- the node of the grammar for a node of the code
abbrev pub node_of : Node → ModelNode
node_of nodes.Half = half_node
node_of nodes.Block = box_node
node_of nodes.All = all_node
node_of nodes.Nothing = none_node
node_of nodes.And = and_node
node_of nodes.Or = or_node
node_of nodes.Minus = minus_node
node_of nodes.Not = not_node
node_of nodes.Name = name_node
node_of nodes.Lot = lot_node
node_of nodes.Prism = prism_node
