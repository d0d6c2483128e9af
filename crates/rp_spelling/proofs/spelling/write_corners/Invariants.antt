use Rattle.std.proofs.Common.{◌≡◌, ◌++◌, take}
use Rattle.std.specs.List.{flat_map}
use Rattle.rp_language.specs.Grammar.{corner_words}
use Rattle.rp_space.specs.Corners.{polygon_corner}
use Rattle.rp_space.specs.declared.corner.Corner.{Corner}
use Rattle.rp_spelling.specs.Spells.{behind_spaces}
use Rattle.rp_command.specs.Versions.{version_of}
use Rattle.rp_spelling.proofs.spelling.write_corners.Given as goal

-- the corners so far were written
abbrev pub invariant-loop-corner : goal.invariant-loop-corner
invariant-loop-corner l = l.out.items ≡ l.initial.out.items ++ behind_spaces (flat_map (λ (c : Corner). corner_words (version_of l.fn.version) (polygon_corner c)) (take l.corner-index l.fn.corners.items))
