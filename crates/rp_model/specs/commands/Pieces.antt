-- pieces EXPRESSION: the connected pieces of a region.
use Rattle.std.specs.Prelude.{ℕ, List}
use Rattle.rp_geometry.specs.sets.Pieces.{ArePieces}
use Rattle.rp_geometry.specs.sets.Shape.{Part}
use Rattle.rp_semantics.specs.Pieces.{pieces_of_parts}
use Rattle.rp_semantics.specs.Walk.{Walk, pass, ◌>>=◌, Tester}
use Rattle.rp_model.specs.commands.Definition.{AsksForm}
use Rattle.rp_model.specs.commands.Reply.{Reply, reply_lines}
use Rattle.rp_model.specs.commands.Rules.{answers}
use Rattle.rp_model.specs.commands.Verdict.{piece_lines}

module _ {W : Type 0} (tester : Tester W) where
  -- the pieces of a form
  abbrev pub row_pieces : List Part → Walk W Reply
  row_pieces ps = do
    gs ← pieces_of_parts tester ps
    pass (reply_lines (piece_lines gs))

-- the definition of pieces
abbrev pub pieces_definition : AsksForm
pieces_definition = record { row = row_pieces; rule = λ formed a given. (gs : List (List ℕ)) × ArePieces formed.parts gs × answers (piece_lines gs) given }
