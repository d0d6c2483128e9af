-- Tests that are made by themselves show what they show behind other work.
use Rattle.std.proofs.Common.{◌≡◌, Bool, true, false, List, [], ◌∷◌, ◌++◌, refl, sym, ap, ◌∙◌, append_assoc, append-nil}
use Rattle.rp_geometry.specs.Geometry.{HalfSpace}
use Rattle.rp_geometry.specs.sets.Shape.{Part}
use Rattle.rp_geometry.specs.searches.ProofLine.{ProofLine, strict_line, weak_line}
use Rattle.rp_geometry.specs.parts.PartTest.{has_member, has_weak_point}
use Rattle.rp_semantics.specs.Walk.{Outcome, done, Walk, Work, no_work, with_lines, pass, after_first, ◌>>=◌, strict_test, weak_test}
use Rattle.rp_semantics.specs.Form.{near_pair, touching_pair, test_pair_if, first_with_part, first_pair}
use Rattle.rp_region.specs.declared.fault.OpFault.TheVariants.{Limit}
use Rattle.rp_region.specs.Makes.{work_after, IsFaultOf}
use Rattle.rp_proximity.specs.declared.reach.Reach.{Reach}
use Rattle.rp_proximity.specs.declared.reach.Reach.TheVariants.{Overlap, Touch}
use Rattle.rp_regionlots.specs.Shown.{pair_test, is_passed}

-- a walk counts nothing and is never stopped: whatever the work, it comes to the same and appends the same lines
pub record IsFramed {A : Type 0} (walk : Walk Work A) : Type 0 where
  pub value : A
  pub lines : List ProofLine
  pub says : (w : Work) → walk w ≡ done value (with_lines w lines)

-- no lines
no_lines : (w : Work) → w ≡ with_lines w []
no_lines w = ap (λ (ls : List ProofLine). record { tests = w.tests; proofs = ls }) (sym (append-nil w.proofs))

-- lines behind lines
lines_twice : (w : Work) (first second : List ProofLine) → with_lines (with_lines w first) second ≡ with_lines w (first ++ second)
lines_twice w first second = ap (λ (ls : List ProofLine). record { tests = w.tests; proofs = ls }) (append_assoc w.proofs first second)

-- a walk without a test
pub pass_framed : {A : Type 0} (x : A) → IsFramed (pass {W = Work} x)
pass_framed x = record { value = x; lines = []; says = λ w. ap (done x) (no_lines w) }

-- one walk and then the next
pub then_framed : {A B : Type 0} (first : Walk Work A) (next : A → Walk Work B) → IsFramed first → ((x : A) → IsFramed (next x)) → IsFramed (first >>= next)
then_framed first next f each = record {
  value = (each f.value).value;
  lines = f.lines ++ (each f.value).lines;
  says = λ w. ap (after_first next) (f.says w) ∙ (each f.value).says (with_lines w f.lines) ∙ ap (done (each f.value).value) (lines_twice w f.lines (each f.value).lines);
}

-- a strict test
strict_framed : (cell : List HalfSpace) → IsFramed (strict_test cell)
unfolding strict_test
strict_framed cell = record { value = has_member cell; lines = strict_line cell ∷ []; says = λ w. refl }

-- a weak test
weak_framed : (cell : List HalfSpace) → IsFramed (weak_test cell)
unfolding weak_test
weak_framed cell = record { value = has_weak_point cell; lines = weak_line cell ∷ []; says = λ w. refl }

module _ (chosen : Part → Part → Bool) (test : List HalfSpace → Walk Work Bool) (each : (cell : List HalfSpace) → IsFramed (test cell)) where
  -- a pair
  pair_framed : (b : Bool) (p q : Part) → IsFramed (test_pair_if b test p q)
  pair_framed true p q = each (p.cell ++ q.cell)
  pair_framed false p q = pass_framed false

  -- one part with each part of a list
  with_part_framed : (p : Part) (qs : List Part) → IsFramed (first_with_part chosen test p qs)
  with_part_framed p [] = pass_framed false
  with_part_framed p (q ∷ qs) = then_framed (test_pair_if (chosen p q) test p q) (λ found. elim found [ true ↦ pass true | false ↦ first_with_part chosen test p qs ]) (pair_framed (chosen p q) p q) (by (with_part_framed p qs))
    where
      by : IsFramed (first_with_part chosen test p qs) → (found : Bool) → IsFramed (elim found as (λ _. Walk Work Bool) [ true ↦ pass true | false ↦ first_with_part chosen test p qs ])
      by later true = pass_framed true
      by later false = later

  -- the parts of two lists
  pairs_framed : (ps qs : List Part) → IsFramed (first_pair chosen test ps qs)
  pairs_framed [] qs = pass_framed false
  pairs_framed (p ∷ ps) qs = then_framed (first_with_part chosen test p qs) (λ found. elim found [ true ↦ pass true | false ↦ first_pair chosen test ps qs ]) (with_part_framed p qs) (by (pairs_framed ps qs))
    where
      by : IsFramed (first_pair chosen test ps qs) → (found : Bool) → IsFramed (elim found as (λ _. Walk Work Bool) [ true ↦ pass true | false ↦ first_pair chosen test ps qs ])
      by later true = pass_framed true
      by later false = later

-- the tests of two lists of parts
pub test_framed : (r : Reach) (ps qs : List Part) → IsFramed (pair_test r ps qs)
test_framed Overlap ps qs = pairs_framed near_pair strict_test strict_framed ps qs
test_framed Touch ps qs = pairs_framed touching_pair weak_test weak_framed ps qs

-- what is shown behind other work is what is shown with none
pub shown_behind : (r : Reach) (ps qs : List Part) (w : Work) → pair_test r ps qs w ≡ done (is_passed (pair_test r ps qs no_work)) (with_lines w (work_after (pair_test r ps qs no_work)).proofs)
shown_behind r ps qs w =
    let f = test_framed r ps qs in
    f.says w ∙ ap (λ (o : Outcome Work Bool). done (is_passed o) (with_lines w (work_after o).proofs)) (sym (f.says no_work))

-- and nothing is counted
pub none_counted : (r : Reach) (ps qs : List Part) → (work_after (pair_test r ps qs no_work)).tests ≡ 0
none_counted r ps qs = ap (λ (o : Outcome Work Bool). (work_after o).tests) ((test_framed r ps qs).says no_work)

-- and no limit is met
pub never_limited : (r : Reach) (ps qs : List Part) (w v : Work) → IsFaultOf Limit w v (pair_test r ps qs) → ⊥
never_limited r ps qs w v h = let f = (test_framed r ps qs).says w in absurd (cc)
