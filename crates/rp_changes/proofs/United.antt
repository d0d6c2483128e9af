-- The parts of several lots one after the other, and the row of a consolidation.
use Rattle.std.proofs.Common.{◌≡◌, ℕ, ◌+◌, ◌<◌, ◌≤◌, Bool, true, false, List, [], ◌∷◌, ◌++◌, map, length, Option, Some, None, IfSome, refl, sym, ap, ◌∙◌, subst, append_assoc, append-nil, drop, get_or, arith}
use Rattle.std.specs.Prelude.{nat_le}
use Rattle.rp_algebra.proofs.Lists.{drop_item}
use Rattle.rp_geometry.specs.sets.Shape.{Part}
use Rattle.rp_geometry.specs.parts.Parts.{most_parts}
use Rattle.rp_language.specs.Name.{Label}
use Rattle.rp_semantics.specs.Walk.{Stop, Outcome, done, stopped, limit_met, Walk, pass, stop, ◌>>◌}
use Rattle.rp_semantics.specs.Form.{if_at_most}
use Rattle.rp_model.specs.states.State.{PlainState, parts_under_lots, layer_of_first, lots_replaced, most_kept_parts}
use Rattle.rp_model.specs.commands.Checks.{check_consolidate}
use Rattle.rp_model.specs.commands.Reply.{Reply, accepted, check, check_size}
use Rattle.rp_model.specs.commands.Parts.{new_lot, parts_with_id, joined_parts}
use Rattle.rp_model.specs.commands.Consolidate.{row_consolidate}
use Rattle.rp_oracle.specs.declared.stopped.Stopped.{Stopped}
use Rattle.rp_oracle.specs.Refines.{stop_of, StopsBy}
use Rattle.rp_oracle.proofs.Left.{IsLeft, all_left, left_as, next_left, stops_on, stop_left}

-- ---- a list that is not too long

-- by its test
abbrev at_most_by : {W : Type 0} → List Part → Bool → Walk W (List Part)
at_most_by {W} xs b = elim b as (λ _. Walk W (List Part)) [ true ↦ pass xs | false ↦ stop limit_met ]

-- a size by its test
abbrev size_by : {W : Type 0} → Bool → Walk W (Unit {0})
size_by {W} b = elim b as (λ _. Walk W (Unit {0})) [ true ↦ pass tt | false ↦ stop limit_met ]

-- a short list passes
pub short_passes : {W : Type 0} (xs zs : List Part) → xs ≡ zs → length xs ≤ most_parts → (t : W) → if_at_most most_parts xs t ≡ done zs t
short_passes xs zs e h t = by (nat_le (length xs) most_parts) refl
  where
    by : (b : Bool) → nat_le (length xs) most_parts ≡ b → at_most_by xs b t ≡ done zs t
    by true f = ap (λ (ys : List Part). done ys t) e
    by false f = absurd (grind arith)

-- a list that passes is short, what it comes to, and nothing is done
pub at_most_made : {W : Type 0} (xs ys : List Part) (t u : W) → if_at_most most_parts xs t ≡ done ys u → (length xs ≤ most_parts) × (xs ≡ ys) × (t ≡ u)
at_most_made xs ys t u e = by (nat_le (length xs) most_parts) refl e
  where
    by : (b : Bool) → nat_le (length xs) most_parts ≡ b → at_most_by xs b t ≡ done ys u → (length xs ≤ most_parts) × (xs ≡ ys) × (t ≡ u)
    by true f g = (grind arith, cc, cc)
    by false f g = absurd (cc)

-- nothing stops where a list passes
passes_on : {W A : Type 0} (e : Stopped) (xs : List Part) (t u : W) (o : Outcome W A) → StopsBy e u (at_most_by xs true t) → StopsBy e u o
passes_on e xs t u o h = by (stop_of e) h
  where
    by : (s : Option Stop) → IfSome s (λ (why : Stop). at_most_by xs true t ≡ stopped why u) → IfSome s (λ (why : Stop). o ≡ stopped why u)
    by None k = tt
    by (Some why) k = absurd (cc)

-- a list that does not pass stops at a limit, as its size does
size_of_stopped : {W : Type 0} (e : Stopped) (xs : List Part) (t u : W) → StopsBy e u (at_most_by xs false t) → StopsBy e u (size_by false t)
size_of_stopped e xs t u h = stops_on (λ _. pass tt) e u (at_most_by xs false t) h

-- where a list is too long, its size stops
pub size_stops : {W : Type 0} (e : Stopped) (xs : List Part) (t u : W) → StopsBy e u (if_at_most most_parts xs t) → StopsBy e u (check_size (length xs) most_parts t)
size_stops e xs t u h = by (nat_le (length xs) most_parts) h
  where
    by : (b : Bool) → StopsBy e u (at_most_by xs b t) → StopsBy e u (size_by b t)
    by true k = passes_on e xs t u (size_by true t) k
    by false k = size_of_stopped e xs t u k

-- a size that is short passes
pub size_passes : {W : Type 0} (xs ys : List Part) (t u : W) → if_at_most most_parts xs t ≡ done ys u → check_size (length xs) most_parts t ≡ done tt u
size_passes xs ys t u h = by (nat_le (length xs) most_parts) h
  where
    by : (b : Bool) → at_most_by xs b t ≡ done ys u → size_by b t ≡ done tt u
    by true k = cc
    by false k = absurd (cc)

-- ---- the lots

-- the parts of some ids one after the other
abbrev pub joined_of : PlainState → List Label → List Part
joined_of s ids = joined_parts (map (λ x. parts_with_id s x) ids)

-- what is joined and the parts of the ids still to come are all
pub record IsUniting (s : PlainState) (made : List Part) (rest whole : List Label) : Type 0 where
  pub all : made ++ joined_of s rest ≡ joined_of s whole
  pub few : length made ≤ most_parts

-- the parts of one more id are joined
pub united_next : (s : PlainState) (made new own : List Part) (ids : List Label) (i : ℕ) (x : Label) → i < length ids → x ≡ get_or ids i x → parts_with_id s x ≡ own → new ≡ made ++ own → length new ≤ most_parts → IsUniting s made (drop i ids) ids → IsUniting s new (drop (i + 1) ids) ids
united_next s made new own ids i x here is parts grown few h =
    let rest = joined_of s (drop (i + 1) ids) in
    record {
      all =
          ap (λ (qs : List Part). qs ++ rest) (grown ∙ ap (λ (qs : List Part). made ++ qs) (sym parts))
          ∙ append_assoc made (parts_with_id s x) rest
          ∙ ap (λ (xs : List Label). made ++ joined_of s xs) (sym (drop_item ids i x here is))
          ∙ h.all;
      few = few;
    }

-- all are joined
pub united : {W : Type 0} (s : PlainState) (made : List Part) (rest whole : List Label) → IsUniting s made rest whole → rest ≡ [] → (t : W) → if_at_most most_parts (joined_of s whole) t ≡ done made t
united s made rest whole h e t =
    let all : made ≡ joined_of s whole = sym (append-nil made) ∙ ap (λ (ids : List Label). made ++ joined_of s ids) (sym e) ∙ h.all in
    short_passes (joined_of s whole) made (sym all) (subst (λ (qs : List Part). length qs ≤ most_parts) all h.few) t

-- ---- the row

-- the lot that a consolidation makes
abbrev pub united_lot : PlainState → Label → List Label → List Part → Reply
united_lot s x ids ps = accepted (lots_replaced ids (new_lot (layer_of_first s ids) x ps ids ∷ []))

-- what is left of a consolidation behind its checks
abbrev pub behind_checks : {W : Type 0} → PlainState → Label → List Label → Walk W Reply
behind_checks s x ids = check_size (length (joined_of s ids)) most_parts >> (check_size (parts_under_lots s.lots + length (joined_of s ids)) most_kept_parts >> pass (united_lot s x ids (joined_of s ids)))

-- the checks passed
pub checks_passed : {W : Type 0} (s : PlainState) (x : Label) (ids : List Label) (t : W) → check_consolidate s x ids ≡ None → IsLeft t (row_consolidate s x ids) t (behind_checks s x ids)
checks_passed s x ids t e = left_as (ap (λ o. check o (behind_checks s x ids)) e) (all_left t (row_consolidate s x ids))

-- there are few parts
pub parts_are_few : {W : Type 0} (s : PlainState) (x : Label) (ids : List Label) (ps : List Part) (t u : W) → check_consolidate s x ids ≡ None → if_at_most most_parts (joined_of s ids) t ≡ done ps u → IsLeft t (row_consolidate s x ids) u (check_size (parts_under_lots s.lots + length ps) most_kept_parts >> pass (united_lot s x ids ps))
parts_are_few s x ids ps t u e f =
    left_as (ap (λ (qs : List Part). check_size (parts_under_lots s.lots + length qs) most_kept_parts >> pass (united_lot s x ids qs)) (at_most_made (joined_of s ids) ps t u f).1)
    (next_left (check_size (length (joined_of s ids)) most_parts) (λ _. check_size (parts_under_lots s.lots + length (joined_of s ids)) most_kept_parts >> pass (united_lot s x ids (joined_of s ids))) (checks_passed s x ids t e) (size_passes (joined_of s ids) ps t u f))

-- there are too many
pub parts_are_many : {W : Type 0} (s : PlainState) (x : Label) (ids : List Label) (t u : W) (l : Stopped) → check_consolidate s x ids ≡ None → StopsBy l u (if_at_most most_parts (joined_of s ids) t) → StopsBy l u (row_consolidate s x ids t)
parts_are_many s x ids t u l e f = stop_left (check_size (length (joined_of s ids)) most_parts) (λ _. check_size (parts_under_lots s.lots + length (joined_of s ids)) most_kept_parts >> pass (united_lot s x ids (joined_of s ids))) (checks_passed s x ids t e) l u (size_stops l (joined_of s ids) t u f)
