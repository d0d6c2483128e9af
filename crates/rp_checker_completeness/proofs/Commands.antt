-- Commands: an audit or none, those that never meet a limit, and expressions as the program keeps them.
use Rattle.std.proofs.Common.{◌≡◌, ℤ, Bool, true, false, ◌&&◌, List, [], ◌∷◌, length, Option, Some, None, refl, sym, ap, ◌∙◌}
use Rattle.std.specs.Prelude.{option_map, is_none, IsTrue}
use Rattle.std.specs.List.{AllByRecursion, list_all}
use Rattle.rp_geometry.specs.Geometry.{IsKeptHalfSpace}
use Rattle.rp_language.specs.Name.{Label}
use Rattle.rp_geometry.specs.sets.Prism.{Corner, Edge, edges_along, edges_of, is_corner_in_bounds, Prism, IsPrism}
use Rattle.rp_geometry.specs.sets.Shape.{is_member}
use Rattle.rp_geometry.specs.laws.PrismLaws.{TrapezoidIsKept}
use Rattle.rp_semantics.specs.Walk.{done, pass, Tester}
use Rattle.rp_language.specs.Expression.{Expression, half_space, box, prism, everything, nothing, named, lot, intersection, union, difference, complement, IsKeptExpression, Command, expressions_of, first_unknown_among, resolve_names}
use Rattle.rp_language.specs.Expression.{ask_member, retire, ask_history, ask_at, ask_as_of, ask_audit, ask_list, set_layer, ask_section}
use Rattle.rp_model.specs.states.State.{PlainState, parts_in, live_lots, lots_of_layer, present_lots, alive_after, lineage, lots_replaced, layer_changed}
use Rattle.rp_model.specs.commands.Verdict.{Refusal, Verdict, unknown, lot_lines}
use Rattle.rp_model.specs.commands.Checks.{check_live, check_registered}
use Rattle.rp_model.specs.commands.Reply.{Reply, reply, reply_lines, refusal, yes_or_no, accepted, check}
use Rattle.rp_model.specs.commands.Parts.{shapes_of_parts}
use Rattle.rp_model.specs.commands.At.{owner_line}
use Rattle.rp_model.specs.commands.Row.{row_of, row}
use Rattle.rp_reports.specs.Check.{may_meet_limit, limit_allowed}
use Rattle.rp_parametricity.proofs.Likeness.{EdgesHave, ExpressionHas}
use Rattle.rp_parametricity.proofs.Kept.{IsOther}
use Rattle.rp_algebra.proofs.Tests.{and_first, and_second}
use Rattle.rp_geometry.proofs.Kept.{kept_box}
pub use Rattle.rp_parametricity.proofs.Trivial.{Any, AnyLabel, any_cell, any_parts, any_labels, any_edges, any_expression, any_expressions, any_state, any_command}

-- ---- an audit, a section, or another

-- a command is an audit, a section, or neither
pub data Kind (c : Command) : Type 0 where
  an_audit : c ≡ ask_audit → Kind c
  a_section : (e : Expression) (z : ℤ) → c ≡ ask_section e z → Kind c
  another : IsOther c → Kind c

-- so each is one of the three
pub kind_of : (c : Command) → Kind c
kind_of ask_audit = an_audit refl
kind_of (ask_section e z) = a_section e z refl
kind_of _ = another tt

-- ---- expressions as the program keeps them

-- the edges of corners within bounds have their ends there
edges_within : (s : Prism) (first c : Corner) (cs : List Corner) → is_corner_in_bounds first ≡ true → is_corner_in_bounds c ≡ true → list_all is_corner_in_bounds cs ≡ true
    → AllByRecursion (λ (e : Edge). IsTrue (is_corner_in_bounds e.start) × IsTrue (is_corner_in_bounds e.end)) (edges_along first c cs)
edges_within s first c [] f g h = ((g, f), tt)
edges_within s first c (d ∷ cs) f g h =
    let k = and_first (is_corner_in_bounds d) (list_all is_corner_in_bounds cs) h in
    ((g, k), edges_within s first d cs f k (and_second (is_corner_in_bounds d) (list_all is_corner_in_bounds cs) h))

-- the trapezoids of such edges have kept half-spaces
edges_kept : TrapezoidIsKept → (s : Prism) → IsPrism s → (es : List Edge) → AllByRecursion (λ (e : Edge). IsTrue (is_corner_in_bounds e.start) × IsTrue (is_corner_in_bounds e.end)) es → EdgesHave IsKeptHalfSpace s es
edges_kept law s k [] h = tt
edges_kept law s k (e ∷ es) h = (λ u. law s e k (record { start = h.0.0; end = h.0.1; slanted = u }), edges_kept law s k es h.1)

-- so have those of a prism
prism_kept : TrapezoidIsKept → (s : Prism) → IsPrism s → EdgesHave IsKeptHalfSpace s (edges_of s.corners)
prism_kept law s k = edges_kept law s k (edges_of s.corners) (within s.corners k.corners)
  where
    within : (cs : List Corner) → list_all is_corner_in_bounds cs ≡ true → AllByRecursion (λ (e : Edge). IsTrue (is_corner_in_bounds e.start) × IsTrue (is_corner_in_bounds e.end)) (edges_of cs)
    within [] h = tt
    within (c ∷ cs) h =
        let f = and_first (is_corner_in_bounds c) (list_all is_corner_in_bounds cs) h in
        edges_within s c c cs f f (and_second (is_corner_in_bounds c) (list_all is_corner_in_bounds cs) h)

-- an expression as the program keeps it has kept half-spaces
pub expression_kept : TrapezoidIsKept → (N : Label → Type 0) → (e : Expression) → IsKeptExpression e → ExpressionHas Any N e → ExpressionHas IsKeptHalfSpace N e
expression_kept law N (half_space h) k n = k
expression_kept law N (box b) k n = kept_box b k
expression_kept law N (prism s) k n = prism_kept law s k
expression_kept law N everything k n = tt
expression_kept law N nothing k n = tt
expression_kept law N (named x) k n = n
expression_kept law N (lot x) k n = n
expression_kept law N (intersection e f) k n = (expression_kept law N e k.0 n.0, expression_kept law N f k.1 n.1)
expression_kept law N (union e f) k n = (expression_kept law N e k.0 n.0, expression_kept law N f k.1 n.1)
expression_kept law N (difference e f) k n = (expression_kept law N e k.0 n.0, expression_kept law N f k.1 n.1)
expression_kept law N (complement e) k n = expression_kept law N e k n

-- so have several
pub expressions_kept : TrapezoidIsKept → (N : Label → Type 0) → (es : List Expression) → AllByRecursion IsKeptExpression es → AllByRecursion (ExpressionHas Any N) es → AllByRecursion (ExpressionHas IsKeptHalfSpace N) es
expressions_kept law N [] k n = tt
expressions_kept law N (e ∷ es) k n = (expression_kept law N e k.0 n.0, expressions_kept law N es k.1 n.1)

-- ---- commands that never meet a limit

-- the reply of a check that comes before another reply
abbrev pub checked : Option Refusal → Reply → Reply
checked None r = r
checked (Some f) r = refusal f

-- the reply where no test is made
abbrev ready_of : PlainState → Command → Reply
ready_of s (ask_member e p) = yes_or_no (is_member (resolve_names (shapes_of_parts (parts_in s)) e) p)
ready_of s (retire x) = checked (check_live s x) (accepted (lots_replaced (x ∷ []) []))
ready_of s (ask_history x) = checked (check_registered s x) (reply_lines (Verdict.lots (length (lineage x s.lots)) ∷ lot_lines (lineage x s.lots)))
ready_of s (ask_at p) = reply (owner_line (present_lots s) p)
ready_of s (ask_as_of n p) = reply (owner_line (lots_of_layer s.layer (alive_after n s.lots)) p)
ready_of s ask_list = reply_lines (Verdict.parcels (length (live_lots s.lots)) ∷ lot_lines (live_lots s.lots))
ready_of s (set_layer y) = accepted (layer_changed y)
ready_of s _ = refusal Refusal.limit

-- the reply of a command that makes no test
abbrev pub ready : PlainState → Command → Reply
ready s c = checked (option_map unknown (first_unknown_among (parts_in s) (expressions_of c))) (ready_of s c)

-- a check before a reply
check_passes : {W : Type 0} (o : Option Refusal) (r : Reply) (w : W) → check o (pass r) w ≡ done (checked o r) w
check_passes None r w = refl
check_passes (Some f) r w = refl

-- the row of a command that never meets a limit
row_ready : {W : Type 0} (tester : Tester W) (s : PlainState) (c : Command) → may_meet_limit c ≡ false → (o : Option Label) (w : W) → check (option_map unknown o) (row_of tester s c) w ≡ done (checked (option_map unknown o) (ready_of s c)) w
row_ready tester s c m (Some x) w = refl
row_ready tester s (ask_member e p) m None w = refl
row_ready tester s (retire x) m None w = check_passes (check_live s x) _ w
row_ready tester s (ask_history x) m None w = check_passes (check_registered s x) _ w
row_ready tester s (ask_at p) m None w = refl
row_ready tester s (ask_as_of n p) m None w = refl
row_ready tester s ask_list m None w = refl
row_ready tester s (set_layer y) m None w = refl
row_ready tester s c m None w = absurd (cc)

-- where no limit may be told, no test is made
pub row_is_ready : {W : Type 0} (tester : Tester W) (s : PlainState) (c : Command) → limit_allowed s c ≡ false → (w : W) → row tester s c w ≡ done (ready s c) w
row_is_ready tester s c e w = by_limit (may_meet_limit c) refl
  where
    by_unknown : (o : Option Label) → (true && is_none o) ≡ false → check (option_map unknown o) (row_of tester s c) w ≡ done (checked (option_map unknown o) (ready_of s c)) w
    by_unknown None f = absurd (cc)
    by_unknown (Some x) f = refl

    by_limit : (b : Bool) → may_meet_limit c ≡ b → row tester s c w ≡ done (ready s c) w
    by_limit false f = row_ready tester s c f (first_unknown_among (parts_in s) (expressions_of c)) w
    by_limit true f = by_unknown (first_unknown_among (parts_in s) (expressions_of c)) (ap (λ (b : Bool). b && is_none (first_unknown_among (parts_in s) (expressions_of c))) (sym f) ∙ e)
