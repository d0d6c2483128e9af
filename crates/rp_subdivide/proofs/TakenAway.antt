-- Children are taken away one after the other.
use Rattle.std.proofs.Common.{◌≡◌, ℕ, ◌+◌, ◌<◌, List, [], ◌∷◌, ◌++◌, map, length, drop, get_or, refl, sym, ap, ◌∙◌}
use Rattle.rp_algebra.proofs.Lists.{drop_item}
use Rattle.rp_geometry.specs.sets.Shape.{Part}
use Rattle.rp_geometry.specs.parts.Parts.{most_parts}
use Rattle.rp_semantics.specs.Walk.{Outcome, done, stopped, Walk, Tester, after_first, ◌>>=◌}
use Rattle.rp_semantics.specs.Form.{subtract, subtract_part, if_at_most}
use Rattle.rp_model.specs.commands.Subdivide.{child_parts}
use Rattle.rp_model.specs.commands.Parts.{joined_parts}
use Rattle.rp_oracle.proofs.Left.{IsLeft}
use Rattle.rp_subdivide.specs.declared.child.Child.{Child}
use Rattle.rp_subdivide.specs.Children.{formed_child}

-- a walk is two, whatever it begins with
then_split : {W A B C : Type 0} (o : Outcome W A) (f : A → Walk W C) (g : A → Walk W B) (h : B → Walk W C) → ((x : A) (w : W) → f x w ≡ after_first h (g x w)) → after_first f o ≡ after_first h (after_first g o)
then_split (done x w) f g h each = each x w
then_split (stopped s w) f g h each = refl

-- two lists are taken away
subtract_both : {W : Type 0} (tester : Tester W) (ps qs current : List Part) (w : W) → subtract tester current (ps ++ qs) w ≡ after_first (λ left. subtract tester left qs) (subtract tester current ps w)
subtract_both tester [] qs current w = refl
subtract_both tester (p ∷ ps) qs current w =
    then_split (subtract_part tester [] current p w) (λ left. if_at_most most_parts left >>= (λ next. subtract tester next (ps ++ qs))) (λ left. if_at_most most_parts left >>= (λ next. subtract tester next ps)) (λ left. subtract tester left qs)
    (λ left v. then_split (if_at_most most_parts left v) (λ next. subtract tester next (ps ++ qs)) (λ next. subtract tester next ps) (λ rest. subtract tester rest qs) (λ next u. subtract_both tester ps qs next u))

-- the parts of children
abbrev pub parts_of_all : {F : Type 0} → (F → List Part) → List (Child F) → List Part
parts_of_all view children = joined_parts (child_parts (map (formed_child view) children))

-- the next child is taken away first
pub child_left : {F W : Type 0} (view : F → List Part) (tester : Tester W) (children : List (Child F)) (i : ℕ) (c : Child F) (left : List Part) {start now : W} {whole : Walk W (List Part)} → i < length children → c ≡ get_or children i c
    → IsLeft start whole now (subtract tester left (parts_of_all view (drop i children))) → IsLeft start whole now (subtract tester left (view c.form) >>= (λ next. subtract tester next (parts_of_all view (drop (i + 1) children))))
child_left {F} view tester children i c left {now = now} h e k = record {
  same = sym (subtract_both tester (view c.form) (parts_of_all view (drop (i + 1) children)) left now) ∙ sym (ap (λ (cs : List (Child F)). subtract tester left (parts_of_all view cs) now) (drop_item children i c h e)) ∙ k.same;
}
