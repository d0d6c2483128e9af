use Rattle.std.proofs.Common.{◌≡◌, ℕ, Result, refl, sym, subst}
use Rattle.rp_command.specs.declared.command.Expr.{Expr}
use Rattle.rp_command.specs.declared.command.Expr.TheVariants as nodes
use Rattle.rp_command.specs.declared.version.Version.{Version}
use Rattle.rp_command.specs.Versions.{version_of}
use Rattle.rp_command.specs.Views.{expression_of}
use Rattle.rp_language.specs.Expression.{half_space, box, named, lot}
use Rattle.rp_language.specs.Grammar.{Place, expression_within, node_words}
use Rattle.rp_space.specs.Boxes.{integer_box}
use Rattle.rp_syntax.specs.declared.fault.ReadFault.{ReadFault}
use Rattle.rp_syntax.specs.declared.keywords.Node.{Node}
use Rattle.rp_syntax.specs.Keywords.{node_of}
use Rattle.rp_syntax.specs.Reads.{Reads}
use Rattle.rp_syntax.proofs.ReadLemmas.{read_made_of}
use Rattle.rp_syntax.proofs.words.Words.+expression.Goals as goal

-- what is read after the word of a node
by_node : (version : Version) (room : ℕ) (node is : Node) (r : Result Expr ReadFault) (old new : Place) → node ≡ is
    → Reads expression_of r new (node_words (version_of version) (expression_within (version_of version) room) (node_of is) old) → Reads expression_of r new (node_words (version_of version) (expression_within (version_of version) room) (node_of node) old)
by_node version room node is r old new e h = subst (λ (n : Node). Reads expression_of r new (node_words (version_of version) (expression_within (version_of version) room) (node_of n) old)) (sym e) h

pub behind-returns-in-Half : goal.behind-returns-in-Half
behind-returns-in-Half t c = by_node c.args.version c.args.room _ _ _ c.args.self.now c.half.new.self c.in-Half.is (read_made_of (λ x. x) expression_of half_space nodes.Half _ _ _ _ c.map.ensures.cases (λ _. refl) c.half.ensures)

pub behind-returns-in-Block : goal.behind-returns-in-Block
behind-returns-in-Block t c = by_node c.args.version c.args.room _ _ _ c.args.self.now c.block.new.self c.in-Block.is (read_made_of integer_box expression_of box nodes.Block _ _ _ _ c.map-in-Block.ensures.cases (λ _. refl) c.block.ensures)

pub behind-returns-in-Name : goal.behind-returns-in-Name
behind-returns-in-Name t c = by_node c.args.version c.args.room _ _ _ c.args.self.now c.name.new.self c.in-Name.is (read_made_of (λ x. x) expression_of named nodes.Name _ _ _ _ c.map-in-Name.ensures.cases (λ _. refl) c.name.ensures)

pub behind-returns-in-Lot : goal.behind-returns-in-Lot
behind-returns-in-Lot t c = by_node c.args.version c.args.room _ _ _ c.args.self.now c.name-in-Lot.new.self c.in-Lot.is (read_made_of (λ x. x) expression_of lot nodes.Lot _ _ _ _ c.map-in-Lot.ensures.cases (λ _. refl) c.name-in-Lot.ensures)

pub behind-returns-in-Prism : goal.behind-returns-in-Prism
behind-returns-in-Prism t c = by_node c.args.version c.args.room _ _ _ c.args.self.now c.prism.new.self c.in-Prism.is c.prism.ensures

pub behind-returns-in-And : goal.behind-returns-in-And
behind-returns-in-And t c = by_node c.args.version c.args.room _ _ _ c.args.self.now c.intersection.new.self c.in-And.is c.intersection.ensures

pub behind-returns-in-Or : goal.behind-returns-in-Or
behind-returns-in-Or t c = by_node c.args.version c.args.room _ _ _ c.args.self.now c.union.new.self c.in-Or.is c.union.ensures

pub behind-returns-in-Minus : goal.behind-returns-in-Minus
behind-returns-in-Minus t c = by_node c.args.version c.args.room _ _ _ c.args.self.now c.difference.new.self c.in-Minus.is c.difference.ensures
