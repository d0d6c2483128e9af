use Rattle.std.proofs.Common.{◌≡◌, inl, inr, ℕ, ℤ, List, [], ◌∷◌, ◌++◌, length, drop, refl, sym, ap, ◌∙◌, decimal, rules, to_z, of_z}
use Rattle.std.specs.List.{flat_map}
use Rattle.std.specs.Int.RustNames.{FitsSigned}
use Rattle.std.proofs.lemmas.Int.{to_z-of_z}
use mir.Syntax.{w32}
use Rattle.std.proofs.lemmas.Result.{err_from_is_err_and}
use Rattle.rp_language.specs.Grammar.{Version, coordinate_text, corner_words, expression_words, box_words, half_space_words}
use Rattle.rp_space.specs.Boxes.{integer_box}
use Rattle.rp_space.specs.Corners.{polygon_corners}
use Rattle.rp_lists.specs.Listed.{Listed}
use Rattle.rp_space.specs.declared.corner.Corner.{Corner}
use Rattle.rp_command.specs.declared.command.Expr.{Expr}
use Rattle.rp_command.specs.declared.command.Expr.TheVariants.{Prism}
use Rattle.rp_command.specs.Versions.{version_of}
use Rattle.rp_command.specs.Views.{expression_of}
use Rattle.rp_spelling.proofs.SpellLemmas.{words_then, stopped_first, stopped_between, spells_then, node_words}
use Rattle.rp_spelling.proofs.spelling.+write_expression.Goals as goal

pub returns-in_err-write_word : goal.returns-in_err-write_word
returns-in_err-write_word t c =
    let p = err_from_is_err_and c.from_residual.result c.from_residual.ensures.1 in
    let words = expression_words (version_of c.args.version) (expression_of c.args.region.now) in
    rw p.1 (stopped_first c.args.out.now.items c.write_word.new.out.items (c.node_word.result.now ∷ []) (drop 1 words) words (sym (c.node_word.ensures (version_of c.args.version))) c.in_err-write_word.ensures)

pub returns-in-Block : goal.returns-in-Block
returns-in-Block t c =
    spells_then c.write_block.result c.args.out.now.items c.write_word.new.out.items c.write_block.new.out.items (c.node_word.result.now ∷ []) (box_words (version_of c.args.version) (integer_box c.in-Block.block)) _
    (node_words (version_of c.args.version) c.args.region.now _ c.node_word.result.now (c.node_word.ensures (version_of c.args.version)) c.in-Block.is) c.in_ok-write_word.ensures c.write_block.ensures

pub returns-in-Half : goal.returns-in-Half
returns-in-Half t c =
    spells_then c.write_half.result c.args.out.now.items c.write_word.new.out.items c.write_half.new.out.items (c.node_word.result.now ∷ []) (half_space_words c.in-Half.half) _
    (node_words (version_of c.args.version) c.args.region.now _ c.node_word.result.now (c.node_word.ensures (version_of c.args.version)) c.in-Half.is) c.in_ok-write_word.ensures c.write_half.ensures

pub returns-in-Not : goal.returns-in-Not
returns-in-Not t c =
    let word = c.node_word.result.now in
    let operand = ap (λ (e : Expr). word ∷ expression_words (version_of c.args.version) (expression_of e)) c.deref.ensures in
    spells_then c.write_expression.result c.args.out.now.items c.write_word.new.out.items c.write_expression.new.out.items (word ∷ []) (expression_words (version_of c.args.version) (expression_of c.deref.result.now)) _
    (operand ∙ node_words (version_of c.args.version) c.args.region.now _ c.node_word.result.now (c.node_word.ensures (version_of c.args.version)) c.in-Not.is) c.in_ok-write_word.ensures c.write_expression.ensures

pub returns-in-Name : goal.returns-in-Name
returns-in-Name t c =
    let word = c.node_word.result.now in
    let words = expression_words (version_of c.args.version) (expression_of c.args.region.now) in
    let all : word ∷ c.in-Name.name ∷ [] ≡ words = elim c.in-Name.is [ inl e ↦ node_words (version_of c.args.version) c.args.region.now _ c.node_word.result.now (c.node_word.ensures (version_of c.args.version)) e | inr e ↦ node_words (version_of c.args.version) c.args.region.now _ c.node_word.result.now (c.node_word.ensures (version_of c.args.version)) e ] in
    spells_then c.write_word-in-Name.result c.args.out.now.items c.write_word.new.out.items c.write_word-in-Name.new.out.items (word ∷ []) (c.bytes.result.now ∷ []) words
    (ap (λ (w : List ℕ). word ∷ w ∷ []) c.bytes.ensures.value ∙ all) c.in_ok-write_word.ensures c.write_word-in-Name.ensures

pub returns-in_err-write_expression-in-And : goal.returns-in_err-write_expression-in-And
returns-in_err-write_expression-in-And t c =
    let p = err_from_is_err_and c.from_residual-in_err-write_expression-in-And.result c.from_residual-in_err-write_expression-in-And.ensures.1 in
    let word = c.node_word.result.now in
    let words = expression_words (version_of c.args.version) (expression_of c.args.region.now) in
    let first = expression_words (version_of c.args.version) (expression_of c.deref-in-And.result.now) in
    let second = expression_words (version_of c.args.version) (expression_of c.in-And.second.value) in
    let operands = ap (λ (e : Expr). word ∷ expression_words (version_of c.args.version) (expression_of e) ++ second) c.deref-in-And.ensures in
    let all : word ∷ expression_words (version_of c.args.version) (expression_of c.in-And.first.value) ++ second ≡ words =
    elim c.in-And.is [ inl e ↦ node_words (version_of c.args.version) c.args.region.now _ c.node_word.result.now (c.node_word.ensures (version_of c.args.version)) e | inr other ↦ elim other [ inl e ↦ node_words (version_of c.args.version) c.args.region.now _ c.node_word.result.now (c.node_word.ensures (version_of c.args.version)) e | inr e ↦ node_words (version_of c.args.version) c.args.region.now _ c.node_word.result.now (c.node_word.ensures (version_of c.args.version)) e ] ]
    in
    rw p.1 (stopped_between c.args.out.now.items c.write_word.new.out.items c.write_expression-in-And.new.out.items (word ∷ []) first second words (operands ∙ all) c.in_ok-write_word.ensures c.in_err-write_expression-in-And.ensures)

pub returns-in_ok-write_expression-in-And : goal.returns-in_ok-write_expression-in-And
returns-in_ok-write_expression-in-And t c =
    let word = c.node_word.result.now in
    let words = expression_words (version_of c.args.version) (expression_of c.args.region.now) in
    let first = expression_words (version_of c.args.version) (expression_of c.deref-in-And.result.now) in
    let second = expression_words (version_of c.args.version) (expression_of c.deref-in-And-2.result.now) in
    let operands : word ∷ first ++ second ≡ word ∷ expression_words (version_of c.args.version) (expression_of c.in-And.first.value) ++ expression_words (version_of c.args.version) (expression_of c.in-And.second.value) =
    λ i. word ∷ expression_words (version_of c.args.version) (expression_of (c.deref-in-And.ensures i)) ++ expression_words (version_of c.args.version) (expression_of (c.deref-in-And-2.ensures i))
    in
    let all : word ∷ expression_words (version_of c.args.version) (expression_of c.in-And.first.value) ++ expression_words (version_of c.args.version) (expression_of c.in-And.second.value) ≡ words =
    elim c.in-And.is [ inl e ↦ node_words (version_of c.args.version) c.args.region.now _ c.node_word.result.now (c.node_word.ensures (version_of c.args.version)) e | inr other ↦ elim other [ inl e ↦ node_words (version_of c.args.version) c.args.region.now _ c.node_word.result.now (c.node_word.ensures (version_of c.args.version)) e | inr e ↦ node_words (version_of c.args.version) c.args.region.now _ c.node_word.result.now (c.node_word.ensures (version_of c.args.version)) e ] ]
    in
    let old = c.args.out.now.items in
    let mid = c.write_expression-in-And.new.out.items in
    let begun = words_then old c.write_word.new.out.items mid (word ∷ []) first (word ∷ first) refl c.in_ok-write_word.ensures c.in_ok-write_expression-in-And.ensures in
    spells_then c.write_expression-in-And-2.result old mid c.write_expression-in-And-2.new.out.items (word ∷ first) second words (operands ∙ all) begun c.write_expression-in-And-2.ensures

-- the words of a polygon
abbrev polygon_words : Version → List Corner → List (List ℕ)
polygon_words v corners = decimal (length (polygon_corners corners)) ∷ flat_map (corner_words v) (polygon_corners corners)

-- the words of a prism, whose heights the machine has as they are
prism_all : (v : Version) (region : Expr) (word : List ℕ) (low high : ℤ) (corners : Listed Corner) → FitsSigned w32 low → FitsSigned w32 high → expression_words v (expression_of region) ≡ word ∷ drop 1 (expression_words v (expression_of region)) → region ≡ Prism low high corners
    → word ∷ coordinate_text v (to_z w32 (of_z w32 low)) ∷ coordinate_text v (to_z w32 (of_z w32 high)) ∷ polygon_words v corners.items ≡ expression_words v (expression_of region)
prism_all v region word low high corners fl fh first is =
    (λ i. word ∷ coordinate_text v (to_z-of_z w32 low fl i) ∷ coordinate_text v (to_z-of_z w32 high fh i) ∷ polygon_words v corners.items) ∙ node_words v region _ word first is

pub returns-in_err-write_heights-in-Prism : goal.returns-in_err-write_heights-in-Prism
returns-in_err-write_heights-in-Prism t c =
    let p = err_from_is_err_and c.from_residual-in_err-write_heights-in-Prism.result c.from_residual-in_err-write_heights-in-Prism.ensures.1 in
    let v = version_of c.args.version in
    let word = c.node_word.result.now in
    let low = c.in-Prism.low in
    let high = c.in-Prism.high in
    let fl : FitsSigned w32 low = search rules in
    let fh : FitsSigned w32 high = search rules in
    let heights = coordinate_text v (to_z w32 (of_z w32 low)) ∷ coordinate_text v (to_z w32 (of_z w32 high)) ∷ [] in
    let all = prism_all v c.args.region.now word low high c.in-Prism.corners fl fh (c.node_word.ensures v) c.in-Prism.is in
    rw p.1 (stopped_between c.args.out.now.items c.write_word.new.out.items c.write_heights.new.out.items (word ∷ []) heights (polygon_words v c.in-Prism.corners.items) _ all c.in_ok-write_word.ensures c.in_err-write_heights-in-Prism.ensures)

pub returns-in_ok-write_heights-in-Prism : goal.returns-in_ok-write_heights-in-Prism
returns-in_ok-write_heights-in-Prism t c =
    let v = version_of c.args.version in
    let word = c.node_word.result.now in
    let low = c.in-Prism.low in
    let high = c.in-Prism.high in
    let fl : FitsSigned w32 low = search rules in
    let fh : FitsSigned w32 high = search rules in
    let heights = coordinate_text v (to_z w32 (of_z w32 low)) ∷ coordinate_text v (to_z w32 (of_z w32 high)) ∷ [] in
    let all = prism_all v c.args.region.now word low high c.in-Prism.corners fl fh (c.node_word.ensures v) c.in-Prism.is in
    let old = c.args.out.now.items in
    let mid = c.write_heights.new.out.items in
    let begun = words_then old c.write_word.new.out.items mid (word ∷ []) heights (word ∷ heights) refl c.in_ok-write_word.ensures c.in_ok-write_heights-in-Prism.ensures in
    spells_then c.write_polygon.result old mid c.write_polygon.new.out.items (word ∷ heights) (polygon_words v c.in-Prism.corners.items) _ all begun c.write_polygon.ensures
