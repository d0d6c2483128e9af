-- The children of a subdivision, as they are written.
use Rattle.std.proofs.Common.{◌≡◌, List, map, subst}
use Rattle.std.specs.List.{AllByRecursion}
use Rattle.rp_algebra.proofs.Lists.{images_twice}
use Rattle.rp_language.specs.Name.{Label}
use Rattle.rp_language.specs.Expression.{Child, Expression, IsKeptExpression}
use Rattle.rp_command.specs.declared.command.Expr.{Expr}
use Rattle.rp_command.specs.Views.{child_of, shapes_of}

-- the expressions of entries are those of their children
pub same_shapes : (entries : List (Label × Expr)) → map (λ (c : Child). c.shape) (map child_of entries) ≡ shapes_of entries
same_shapes entries = images_twice child_of (λ (c : Child). c.shape) entries

-- they are kept
pub kept_shapes : (entries : List (Label × Expr)) → AllByRecursion IsKeptExpression (map (λ (c : Child). c.shape) (map child_of entries)) → AllByRecursion IsKeptExpression (shapes_of entries)
kept_shapes entries h = subst (λ (es : List Expression). AllByRecursion IsKeptExpression es) (same_shapes entries) h
