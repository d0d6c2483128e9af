use Rattle.std.proofs.Common.{◌≡◌, ℕ, ◌<◌, ◌≤◌, List, ◌∷◌, ◌++◌, length, get_or, refl, sym, ap, ◌∙◌, arith, map}
use Rattle.std.specs.List.{flat_map}
use Rattle.std.proofs.lemmas.Result.{err_from_is_err_and}
use Rattle.std.proofs.lemmas.List.Folds.{flat_map-map}
use Rattle.rp_language.specs.Expression.{Child}
use Rattle.rp_language.specs.Grammar.{Version, expression_words}
use Rattle.rp_command.specs.declared.command.Expr.{Expr}
use Rattle.rp_spelling.specs.Spells.{behind_spaces, children_words}
use Rattle.rp_command.specs.Versions.{version_of}
use Rattle.rp_command.specs.Views.{expression_of, child_of}
use Rattle.rp_spelling.proofs.SpellLemmas.{stopped_within, words_more, pieces_all}
use Rattle.rp_spelling.proofs.spelling.write_children.Goals as goal

-- each child is a name and an expression
all_words : (v : Version) (entries : List (List ℕ × Expr)) → flat_map (λ (e : List ℕ × Expr). e.0 ∷ expression_words v (expression_of e.1)) entries ≡ children_words v (map child_of entries)
all_words v entries = sym (flat_map-map (λ (c : Child). c.id ∷ expression_words v c.shape) child_of entries)

pub returns-in_err-write_named : goal.returns-in_err-write_named
returns-in_err-write_named c =
    let p = err_from_is_err_and c.from_residual.result c.from_residual.ensures.1 in
    let i = c.loop-child.child-index in
    let entries = c.args.children.now.items in
    let inside : i < length entries = omega (arith, ap length c.items-child-items.ensures) in
    let at = c.child-item.is ∙ ap (λ (xs : List (List ℕ × Expr)). get_or xs i c.child-item.result) c.items-child-items.ensures in
    rw p.1 (stopped_within c.args.out.now.items c.loop-child.out.items c.write_named.new.out.items (λ (e : List ℕ × Expr). e.0 ∷ expression_words (version_of c.args.version) (expression_of e.1)) entries i c.child-item.result (c.child-item.result.0 ∷ expression_words (version_of c.args.version) (expression_of c.child-item.result.1)) (children_words (version_of c.args.version) (map child_of entries)) inside at refl (all_words (version_of c.args.version) entries) c.loop-child.invariant c.in_err-write_named.ensures)

pub loop-child-preserved : goal.loop-child-preserved
loop-child-preserved c =
    let i = c.loop-child.child-index in
    let entries = c.args.children.now.items in
    let inside : i < length entries = omega (arith, ap length c.items-child-items.ensures) in
    let at = c.child-item.is ∙ ap (λ (xs : List (List ℕ × Expr)). get_or xs i c.child-item.result) c.items-child-items.ensures in
    words_more c.args.out.now.items c.loop-child.out.items c.write_named.new.out.items (λ (e : List ℕ × Expr). e.0 ∷ expression_words (version_of c.args.version) (expression_of e.1)) entries i c.child-item.result (c.child-item.result.0 ∷ expression_words (version_of c.args.version) (expression_of c.child-item.result.1)) inside at refl c.loop-child.invariant c.in_ok-write_named.ensures

pub returns : goal.returns
returns c =
    let entries = c.args.children.now.items in
    let past : length entries ≤ c.loop-child.child-index = omega (arith, ap length c.items-child-items.ensures) in
    c.loop-child.invariant ∙ ap (λ (ws : List (List ℕ)). c.args.out.now.items ++ behind_spaces ws) (pieces_all (λ (e : List ℕ × Expr). e.0 ∷ expression_words (version_of c.args.version) (expression_of e.1)) entries c.loop-child.child-index past ∙ all_words (version_of c.args.version) entries)
