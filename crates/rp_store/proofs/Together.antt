-- A history and the lists of parts of its lots, together.
use Rattle.std.proofs.Common.{◌≡◌, ℕ, ◌+◌, ◌≤◌, Bool, false, List, [], ◌∷◌, ◌++◌, map, length, Option, Some, None, slice_get, sum_by, refl, sym, ap, ap₂, ◌∙◌, subst, append-nil, arith}
use Rattle.std.specs.Prelude.{IsTrue, option_map}
use Rattle.std.proofs.lemmas.List.{length-append, length-map}
use Rattle.rp_geometry.specs.Geometry.{RationalPoint}
use Rattle.rp_geometry.specs.sets.Shape.{Part}
use Rattle.rp_language.specs.Name.{Label}
use Rattle.rp_model.specs.states.State.{Lot, ids_of, bare_lot, ended_at, born_at, lots_replaced, parts_under_lots, most_kept_parts}
use Rattle.rp_model.specs.states.Sound.{are_distinct}
use Rattle.rp_model.specs.commands.Parts.{is_in_parts, lot_parts}
use Rattle.rp_states.proofs.Replaced.{ended_parts}
use Rattle.rp_history.specs.declared.lot.Birth.{Birth}
use Rattle.rp_history.specs.Lots.{lots_after, new_lot_of}
use Rattle.rp_history.specs.Parts.{lots_with_parts, new_lots}
use Rattle.rp_history.proofs.Together.{length-with_parts, bare-with_parts, ids-with_parts, parts_at, after_with_parts, all_ended_with_parts, still_bare, parts_after, new_parts}
use Rattle.rp_boxindex.specs.Boxes.{Boxes}
use Rattle.rp_lotindex.specs.Indexed.{IsIndexOf, AreKeptIn}
use Rattle.rp_proximity.specs.There.{KnowsOwners}
use Rattle.rp_lotindex.proofs.Boxed.{kept_in}
use Rattle.rp_store.specs.Kept.{AreFew, AreLots, has_point}

-- the lists of parts of lots with their parts
all_lists : (ls : List (Lot (Unit {0}))) (lists : List (List Part)) → length ls ≡ length lists → lot_parts (lots_with_parts ls lists) ≡ lists
all_lists [] [] e = refl
all_lists [] (ps ∷ lists) e = absurd (omega arith)
all_lists (l ∷ ls) [] e = absurd (omega arith)
all_lists (l ∷ ls) (ps ∷ lists) e = let f : length ls ≡ length lists = omega arith in ap (λ (qs : List (List Part)). ps ∷ qs) (all_lists ls lists f)

-- what lots keep of their own
module _ (ls : List (Lot (Unit {0}))) (lists : List (List Part)) (parts : ℕ) (index : Label → Boxes) (lots : List (Lot (Unit {0}))) (h : AreLots ls lists parts index) (seen : lots_with_parts ls lists ≡ lots) where
  -- as many lots as lists
  pub lots_counted : length lots ≡ length lists
  lots_counted = sym (ap length seen) ∙ length-with_parts ls lists h.each

  -- its lots have the lists as their parts
  pub lots_lists : lot_parts lots ≡ lists
  lots_lists = sym (ap lot_parts seen) ∙ all_lists ls lists h.each

  -- its history has its lots without their parts
  pub lots_bare : ls ≡ map bare_lot lots
  lots_bare = sym h.bare ∙ sym (bare-with_parts ls lists h.each) ∙ ap (map bare_lot) seen

  -- its ids are distinct
  pub lots_distinct : IsTrue (are_distinct (ids_of lots))
  lots_distinct = subst (λ (xs : List Label). IsTrue (are_distinct xs)) (sym (ids-with_parts ls lists h.each) ∙ ap ids_of seen) h.distinct

  -- its parts are counted
  pub lots_parts : parts ≡ parts_under_lots lots
  lots_parts = h.count ∙ ap parts_under_lots seen

  -- the lots and their parts are few
  pub lots_few : AreFew lots
  lots_few = subst AreFew seen h.few

  -- the parts of the lot at a place
  pub lot_parts_at : (k : ℕ) → option_map (λ l. l.parts) (slice_get lots k) ≡ slice_get lists k
  lot_parts_at k = sym (ap (λ (ms : List (Lot (Unit {0}))). option_map (λ (l : Lot (Unit {0})). l.parts) (slice_get ms k)) seen) ∙ parts_at ls lists h.each k

  -- their boxes are in the indexes of their layers
  pub lots_indexed : IsIndexOf lots index
  lots_indexed = subst (λ (ms : List (Lot (Unit {0}))). IsIndexOf ms index) seen h.indexed

  -- they are in the history, and their boxes in the indexes of their layers
  pub lots_kept_in : AreKeptIn ls index lots
  lots_kept_in = kept_in lots index lots_indexed ls lots_bare

  -- whose a point is, is known by the lists
  pub lists_know : (p : RationalPoint) → KnowsOwners (has_point lists p) lots p
  lists_know p k l at = by (slice_get lists k) (sym (lot_parts_at k) ∙ ap (option_map (λ (m : Lot (Unit {0})). m.parts)) at)
    where
      by : (o : Option (List Part)) → o ≡ Some l.parts → (elim o as (λ _. Bool) [ None ↦ false | Some ps ↦ is_in_parts ps p ]) ≡ is_in_parts l.parts p
      by None e = absurd (cc)
      by (Some ps) e = let same : ps ≡ l.parts = cc in ap (λ (qs : List Part). is_in_parts qs p) same

-- lots are kept after a change
pub lots_kept_after : (n : ℕ) (ids : List Label) (births : List Birth) (ls new : List (Lot (Unit {0}))) (lists more all : List (List Part)) (parts count : ℕ) (index next : Label → Boxes) → AreLots ls lists parts index → length births ≡ length more →
    AreFew (lots_after n (lots_with_parts ls lists) (lots_replaced ids (new_lots births more))) → IsTrue (are_distinct (ids_of new)) → new ≡ lots_after n ls (lots_replaced ids (map new_lot_of births)) → all ≡ lists ++ more → count ≡ sum_by (λ ps. length ps) more →
    IsIndexOf (lots_after n (lots_with_parts ls lists) (lots_replaced ids (new_lots births more))) next → AreLots new all (parts + count) next
lots_kept_after n ids births ls new lists more all parts count index next h e few distinct f g k indexed =
    let together = ap₂ lots_with_parts f g ∙ after_with_parts n ids births ls lists more h.each in
    record {
      each = ap length f ∙ length-append (map (ended_at n ids) ls) (map (born_at n) (map new_lot_of births)) ∙ ap₂ ◌+◌ (length-map ls (ended_at n ids) ∙ h.each) (length-map (map new_lot_of births) (born_at n) ∙ length-map births new_lot_of ∙ e) ∙ sym (length-append lists more) ∙ sym (ap length g);
      bare = ap (map bare_lot) f ∙ still_bare n ids births ls h.bare ∙ sym f;
      distinct = distinct;
      count = ap₂ ◌+◌ h.count (k ∙ sym (new_parts births more e)) ∙ sym (parts_after n ids (new_lots births more) (lots_with_parts ls lists)) ∙ sym (ap parts_under_lots together);
      few = subst AreFew (sym together) few;
      indexed = subst (λ (lots : List (Lot (Unit {0}))). IsIndexOf lots next) (sym together) indexed;
    }

-- lots of the history end, and so do those with parts
pub ended_together : (n : ℕ) (ids : List Label) (ls new : List (Lot (Unit {0}))) (lists : List (List Part)) (lots : List (Lot (Unit {0}))) → lots_with_parts ls lists ≡ lots → new ≡ map (ended_at n ids) ls → lots_with_parts new lists ≡ lots_after n lots (lots_replaced ids [])
ended_together n ids ls new lists lots seen e =
    ap (λ (ks : List (Lot (Unit {0}))). lots_with_parts ks lists) e ∙ all_ended_with_parts n ids ls lists ∙ ap (map (ended_at n ids)) seen ∙ sym (append-nil (map (ended_at n ids) lots))

-- lots of which some end are kept
pub lots_kept_ended : (n : ℕ) (ids : List Label) (ls new : List (Lot (Unit {0}))) (lists : List (List Part)) (parts : ℕ) (index next : Label → Boxes) → AreLots ls lists parts index → IsTrue (are_distinct (ids_of new)) → new ≡ map (ended_at n ids) ls →
    IsIndexOf (lots_after n (lots_with_parts ls lists) (lots_replaced ids [])) next → AreLots new lists parts next
lots_kept_ended n ids ls new lists parts index next h distinct e indexed =
    let together = ended_together n ids ls new lists (lots_with_parts ls lists) refl e in
    let after = append-nil (map (ended_at n ids) (lots_with_parts ls lists)) in
    let parts_stay = ended_parts n ids (lots_with_parts ls lists) in
    record {
      each = ap length e ∙ length-map ls (ended_at n ids) ∙ h.each;
      bare = ap (map bare_lot) (e ∙ sym (append-nil (map (ended_at n ids) ls))) ∙ still_bare n ids [] ls h.bare ∙ append-nil (map (ended_at n ids) ls) ∙ sym e;
      distinct = distinct;
      count = h.count ∙ sym parts_stay ∙ sym (ap parts_under_lots (together ∙ after));
      few = subst AreFew (sym (together ∙ after)) (record {
        few_lots = subst (λ (m : ℕ). m ≤ most_kept_parts) (sym (length-map (lots_with_parts ls lists) (ended_at n ids))) h.few.few_lots;
        few_parts = subst (λ (m : ℕ). m ≤ most_kept_parts) (sym parts_stay) h.few.few_parts;
      });
      indexed = subst (λ (lots : List (Lot (Unit {0}))). IsIndexOf lots next) (sym together) indexed;
    }
