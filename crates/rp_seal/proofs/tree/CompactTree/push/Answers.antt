use Rattle.std.proofs.Common.{sym, subst, ap, ◌∙◌, ◌≡◌, [], ◌∷◌, ◌++◌, List, ℕ, Ok, Err, OnErr}
use Rattle.rp_seal.specs.declared.peak.Peak.{Peak}
use Rattle.rp_seal.specs.Tree.{IsTreeOver}
use Rattle.rp_seal.specs.Hash.{bytes_of}
use Rattle.rp_seal.specs.Peaks.{AreSubtrees, Subtree, subtrees_of, with_subtree}
use Rattle.rp_seal.proofs.Subtrees.{subtrees-last, with_subtree-are, one_subtree, one-least}
use Rattle.rp_seal.proofs.tree.CompactTree.push.Goals as goal

pub returns-in_err-reserve-clause-err : goal.returns-in_err-reserve-clause-err
unfolding IsTreeOver
returns-in_err-reserve-clause-err c =
    let Kept : Type 0 = (hashes : List (List ℕ)) → AreSubtrees (subtrees_of c.args.self.now.peaks.items) hashes → AreSubtrees (subtrees_of c.reserve.new.self.items) hashes in
    let kept : Kept = λ hashes holds. subst (λ (v : List Peak). AreSubtrees (subtrees_of v) hashes) (sym c.in_err-reserve.ensures.items) holds in
    elim c.from_residual.result as (λ r. OnErr r Kept) [ Ok done ↦ tt | Err fault ↦ kept ]

pub returns-clause-ok : goal.returns-clause-ok
unfolding IsTreeOver
returns-clause-ok c = λ hashes holds.
    let items : c.push.new.self.items ≡ c.merge-top.new.peaks.items ++ c.merge-top.result ∷ [] = rw c.unwrap.ensures at c.push.ensures.items in
    let leaf : Subtree = record { root = bytes_of c.args.leaf; size = 1 } in
    let parts : subtrees_of c.push.new.self.items ≡ with_subtree (subtrees_of c.args.self.now.peaks.items) leaf =
    subtrees-last c.push.new.self.items c.merge-top.new.peaks.items c.merge-top.result items ∙ c.merge-top.ensures.subtrees
    ∙ ap (λ (v : List Peak). with_subtree (subtrees_of v) leaf) c.in_ok-reserve.ensures.items in
    subst (λ (v : List Subtree). AreSubtrees v (hashes ++ bytes_of c.args.leaf ∷ [])) (sym parts)
    (with_subtree-are (subtrees_of c.args.self.now.peaks.items) hashes (bytes_of c.args.leaf ∷ []) leaf holds (one_subtree (bytes_of c.args.leaf)) (one-least (subtrees_of c.args.self.now.peaks.items) hashes holds))
