-- Pairs that are judged by themselves show what they show one after the other.
use Rattle.std.proofs.Common.{◌≡◌, Bool, List, [], ◌∷◌, ◌++◌, map, get_or, refl, sym, ap, ◌∙◌, append_assoc, append-nil}
use Rattle.std.specs.List.{AllByRecursion}
use Rattle.rp_geometry.specs.sets.Shape.{Part}
use Rattle.rp_semantics.specs.Walk.{Outcome, done, Work, no_work, with_lines, pass, after_first, first_tester}
use Rattle.rp_region.specs.Makes.{work_after}
use Rattle.rp_proximity.specs.declared.reach.Reach.{Reach}
use Rattle.rp_contacts.specs.declared.pair.Pair.{Pair}
use Rattle.rp_contacts.specs.Meets.{meet_each}
use Rattle.rp_regionlots.specs.declared.halves.Shown.{Shown}
use Rattle.rp_regionlots.specs.Shown.{pair_test, is_passed, shown_of, shown, with_all_shown, ShowsNothingCounted}
use Rattle.rp_regionlots.proofs.Framed.{shown_behind, none_counted}

-- the answers of pairs that are judged
abbrev pub answers : List Shown → List Bool
answers all = map (λ s. s.meets) all

-- what the tests of a pair have shown
pub shown_is : (r : Reach) (ps qs : List Part) (w v : Work) (b : Bool) → w ≡ no_work → pair_test r ps qs w ≡ done b v → record { meets = b; work = v } ≡ shown_of r ps qs
shown_is r ps qs w v b none made = ap (λ (o : Outcome Work Bool). record { meets = is_passed o; work = work_after o }) (sym made ∙ ap (pair_test r ps qs) none)

-- they count nothing
pub shows_nothing : (r : Reach) (lists : List (List Part)) (ps : List Pair) → AllByRecursion ShowsNothingCounted (map (shown r lists) ps)
shows_nothing r lists [] = tt
shows_nothing r lists (p ∷ ps) = (none_counted r (get_or lists p.first []) (get_or lists p.second []), shows_nothing r lists ps)

-- one after the other they come to the same answers, with all lines
pub all_shown : (r : Reach) (lists : List (List Part)) (ps : List Pair) (found : List Bool) (w : Work) → meet_each first_tester r lists found ps w ≡ done (found ++ answers (map (shown r lists) ps)) (with_all_shown w (map (shown r lists) ps))
all_shown r lists [] found w = ap (λ (bs : List Bool). done bs w) (sym (append-nil found))
all_shown r lists (p ∷ ps) found w =
    let one = shown r lists p in
    let behind = with_lines w one.work.proofs in
    ap (λ (o : Outcome Work Bool). after_first (λ more. meet_each first_tester r lists more ps) (after_first (λ b. pass (found ++ b ∷ [])) o)) (shown_behind r (get_or lists p.first []) (get_or lists p.second []) w)
    ∙ all_shown r lists ps (found ++ one.meets ∷ []) behind
    ∙ ap (λ (bs : List Bool). done bs (with_all_shown behind (map (shown r lists) ps))) (append_assoc found (one.meets ∷ []) (answers (map (shown r lists) ps)))

-- a list, item by item
pub own_map : (xs : List (List Part)) → xs ≡ map (λ x. x) xs
own_map [] = refl
own_map (x ∷ xs) = ap (λ (ys : List (List Part)). x ∷ ys) (own_map xs)

-- from none
pub all_shown_at_once : (r : Reach) (lists : List (List Part)) (ps : List Pair) (all : List Shown) (met : List Bool) (w v : Work) → all ≡ map (shown r lists) ps → met ≡ answers all → v ≡ with_all_shown w all → meet_each first_tester r lists [] ps w ≡ done met v
all_shown_at_once r lists ps all met w v e f g =
    all_shown r lists ps [] w
    ∙ ap (λ (js : List Shown). done (answers js) (with_all_shown w js)) (sym e)
    ∙ (λ i. done (sym f i) (sym g i))
