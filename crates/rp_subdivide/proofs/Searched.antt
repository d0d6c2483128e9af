-- A search among children, one after the other.
use Rattle.std.proofs.Common.{◌≡◌, ℕ, ◌+◌, ◌-◌, ◌<◌, Bool, true, false, List, [], ◌∷◌, ◌++◌, map, length, take, drop, get_or, Option, Some, None, sym, ap, ◌∙◌}
use Rattle.std.proofs.lemmas.List.{take_rest}
use Rattle.rp_algebra.proofs.Lists.{drop_item}
use Rattle.rp_geometry.specs.sets.Shape.{Part}
use Rattle.rp_language.specs.Name.{Label}
use Rattle.rp_language.specs.Expression.{Meaning}
use Rattle.rp_command.specs.declared.command.Expr.{Expr}
use Rattle.rp_command.specs.Views.{child_of, expression_of}
use Rattle.rp_semantics.specs.Walk.{Walk, Tester, pass, after_first}
use Rattle.rp_semantics.specs.Compare.{is_covered}
use Rattle.rp_semantics.specs.Form.{common_nearby, form}
use Rattle.rp_model.specs.commands.Verdict.{Refusal, outside_lot, children_overlap}
use Rattle.rp_model.specs.commands.Subdivide.{FormedChild, form_children, first_outside_child, first_overlapping_child, first_overlapping_children}
use Rattle.rp_subdivide.specs.declared.child.Child.{Child}
use Rattle.rp_subdivide.specs.Children.{formed_child}

module _ {F W : Type 0} (view : F → List Part) (tester : Tester W) (children : List (Child F)) (i : ℕ) where
  -- what comes behind the test whether the next child lies in a form
  abbrev pub outside_on : List Part → ℕ → Bool → Walk W (Option Refusal)
  outside_on qs k inside = elim inside [ false ↦ pass (Some (outside_lot k)) | true ↦ first_outside_child tester qs (k + 1) (map (formed_child view) (drop (i + 1) children)) ]

  -- and behind that whether it shares a point with child m
  abbrev pub overlapping_on : ℕ → List Part → ℕ → Bool → Walk W (Option Refusal)
  overlapping_on m ps n found = elim found [ true ↦ pass (Some (children_overlap m n)) | false ↦ first_overlapping_child tester m ps (n + 1) (map (formed_child view) (drop (i + 1) children)) ]

  -- and behind those whether it shares one with a later child
  abbrev pub overlapping_with_on : ℕ → Option Refusal → Walk W (Option Refusal)
  overlapping_with_on m found = elim found [ Some r ↦ pass (Some r) | None ↦ first_overlapping_children tester (m + 1) (map (formed_child view) (drop (i + 1) children)) ]

  module _ (c : Child F) (within : i < length children) (is : c ≡ get_or children i c) where
    -- the next child is tested first
    pub outside_left : (qs : List Part) (k : ℕ) (w : W) → first_outside_child tester qs k (map (formed_child view) (drop i children)) w ≡ after_first (outside_on qs k) (is_covered tester (view c.form) qs w)
    outside_left qs k w = ap (λ (cs : List (Child F)). first_outside_child tester qs k (map (formed_child view) cs) w) (drop_item children i c within is)

    pub overlapping_left : (m : ℕ) (ps : List Part) (n : ℕ) (w : W) → first_overlapping_child tester m ps n (map (formed_child view) (drop i children)) w ≡ after_first (overlapping_on m ps n) (common_nearby tester ps (view c.form) w)
    overlapping_left m ps n w = ap (λ (cs : List (Child F)). first_overlapping_child tester m ps n (map (formed_child view) cs) w) (drop_item children i c within is)

    pub overlapping_with_left : (m : ℕ) (w : W) → first_overlapping_children tester m (map (formed_child view) (drop i children)) w ≡ after_first (overlapping_with_on m) (first_overlapping_child tester m (view c.form) (m + 1) (map (formed_child view) (take (length children - (i + 1)) (drop (i + 1) children))) w)
    overlapping_with_left m w =
        ap (λ (cs : List (Child F)). first_overlapping_children tester m (map (formed_child view) cs) w) (drop_item children i c within is)
        ∙ ap (λ (cs : List (Child F)). after_first (overlapping_with_on m) (first_overlapping_child tester m (view c.form) (m + 1) (map (formed_child view) cs) w)) (sym (take_rest children (i + 1)))

module _ {W : Type 0} (tester : Tester W) (m : Meaning (List Part)) (made : List FormedChild) (entries : List (Label × Expr)) (i : ℕ) (e : Label × Expr) where
  -- what comes behind the form of the next child
  abbrev pub formed_on : List Part → Walk W (List FormedChild)
  formed_on ps = form_children tester m (made ++ record { id = e.0; parts = ps } ∷ []) (map child_of (drop (i + 1) entries))

  -- it is made first
  pub formed_left : i < length entries → e ≡ get_or entries i e → (w : W) → form_children tester m made (map child_of (drop i entries)) w ≡ after_first formed_on (form tester m (expression_of e.1) w)
  formed_left within is w = ap (λ (es : List (Label × Expr)). form_children tester m made (map child_of es) w) (drop_item entries i e within is)
