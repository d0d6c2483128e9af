-- Operations on two forms, and on the forms of two expressions.
use Rattle.std.specs.Prelude.{List, ◌++◌}
use Rattle.rp_geometry.specs.sets.Shape.{Part}
use Rattle.rp_geometry.specs.parts.Parts.{most_parts}
use Rattle.rp_language.specs.Expression.{Expression, Meaning}
use Rattle.rp_semantics.specs.Walk.{Walk, Tester, ◌>>=◌}
use Rattle.rp_semantics.specs.Form.{form, if_at_most, join, subtract}
use Rattle.rp_eval.specs.declared.form.Pairing.{Pairing}
use Rattle.rp_eval.specs.declared.form.Pairing.TheVariants.{Both, Either, Minus}

module _ {W : Type 0} (tester : Tester W) where
  -- the operation on two lists of parts
  abbrev pub paired : Pairing → List Part → List Part → Walk W (List Part)
  paired Both ps qs = join tester ps qs
  paired Either ps qs = if_at_most most_parts (ps ++ qs)
  paired Minus ps qs = subtract tester ps qs

  -- the operation on the forms of two expressions
  abbrev pub pair_form : Meaning (List Part) → Pairing → Expression → Expression → Walk W (List Part)
  pair_form m how e f = do
    ps ← form tester m e
    qs ← form tester m f
    paired how ps qs
