use Rattle.std.proofs.Common.{◌≡◌, ℕ, ◌<◌, ◌≤◌, List, ◌++◌, length, get_or, pos, refl, sym, ap, ◌∙◌, arith}
use Rattle.std.specs.List.{flat_map}
use Rattle.std.proofs.lemmas.Result.{err_from_is_err_and}
use Rattle.std.proofs.lemmas.List.{get_or_default}
use Rattle.std.proofs.lemmas.List.Folds.{flat_map-map}
use Rattle.rp_language.specs.Grammar.{Version, corner_words}
use Rattle.rp_space.specs.Corners.{polygon_corner, polygon_corners}
use Rattle.rp_space.specs.declared.corner.Corner.{Corner}
use Rattle.rp_spelling.specs.Spells.{behind_spaces}
use Rattle.rp_command.specs.Versions.{version_of}
use Rattle.rp_spelling.proofs.SpellLemmas.{stopped_within, words_more, pieces_all}
use Rattle.rp_spelling.proofs.spelling.write_corners.Goals as goal

-- each corner is two numbers
all_words : (v : Version) (corners : List Corner) → flat_map (λ (c : Corner). corner_words v (polygon_corner c)) corners ≡ flat_map (corner_words v) (polygon_corners corners)
all_words v corners = sym (flat_map-map (corner_words v) polygon_corner corners)

pub returns-in_err-write_corner : goal.returns-in_err-write_corner
returns-in_err-write_corner c =
    let p = err_from_is_err_and c.from_residual.result c.from_residual.ensures.1 in
    let v = version_of c.args.version in
    let i = c.loop-corner.corner-index in
    let items = c.items-corner-items.result.now in
    let corners = c.args.corners.now.items in
    let item : Corner = get_or items i (record { x = pos 0; y = pos 0 }) in
    let inside : i < length corners = omega (arith, ap length c.items-corner-items.ensures) in
    let at = get_or_default items i _ item (omega arith) ∙ ap (λ (xs : List Corner). get_or xs i item) c.items-corner-items.ensures in
    rw p.1 (stopped_within c.args.out.now.items c.loop-corner.out.items c.write_corner.new.out.items (λ (d : Corner). corner_words v (polygon_corner d)) corners i item (corner_words v (polygon_corner item)) (flat_map (corner_words v) (polygon_corners corners)) inside at refl (all_words v corners) c.loop-corner.invariant c.in_err-write_corner.ensures)

pub loop-corner-preserved : goal.loop-corner-preserved
loop-corner-preserved c =
    let v = version_of c.args.version in
    let i = c.loop-corner.corner-index in
    let items = c.items-corner-items.result.now in
    let corners = c.args.corners.now.items in
    let item : Corner = get_or items i (record { x = pos 0; y = pos 0 }) in
    let inside : i < length corners = omega (arith, ap length c.items-corner-items.ensures) in
    let at = get_or_default items i _ item (omega arith) ∙ ap (λ (xs : List Corner). get_or xs i item) c.items-corner-items.ensures in
    words_more c.args.out.now.items c.loop-corner.out.items c.write_corner.new.out.items (λ (d : Corner). corner_words v (polygon_corner d)) corners i item (corner_words v (polygon_corner item)) inside at refl c.loop-corner.invariant c.in_ok-write_corner.ensures

pub returns : goal.returns
returns c =
    let v = version_of c.args.version in
    let corners = c.args.corners.now.items in
    let past : length corners ≤ c.loop-corner.corner-index = omega (arith, ap length c.items-corner-items.ensures) in
    c.loop-corner.invariant ∙ ap (λ (ws : List (List ℕ)). c.args.out.now.items ++ behind_spaces ws) (pieces_all (λ (d : Corner). corner_words v (polygon_corner d)) corners c.loop-corner.corner-index past ∙ all_words v corners)
