use Rattle.std.proofs.Common.{sym, subst, ap, ◌∙◌, ◌≡◌, [], ◌∷◌, ◌++◌, List}
use Rattle.std.proofs.lemmas.List.{nil_from_length}
use Rattle.rp_seal.specs.declared.peak.Peak.{Peak}
use Rattle.rp_seal.specs.Tree.{IsTreeOver}
use Rattle.rp_seal.specs.Merkle.{root_of}
use Rattle.rp_seal.specs.Peaks.{AreSubtrees, Subtree, subtree_of, subtrees_of}
use Rattle.rp_seal.proofs.Trees.{root-none}
use Rattle.rp_seal.proofs.Subtrees.{subtrees-last, root_over-all}
use Rattle.rp_seal.proofs.tree.CompactTree.root.Goals as goal

pub returns-in-Some : goal.returns-in-Some
unfolding IsTreeOver
returns-in-Some c = λ hashes holds.
    let items : c.args.self.now.peaks.items ≡ c.in-Some.before.now ++ c.in-Some.last.now ∷ [] = sym c.deref.ensures.value ∙ c.in-Some.ensures.cases.0 in
    let are : AreSubtrees (subtree_of c.in-Some.last.now ∷ subtrees_of c.in-Some.before.now) hashes =
    subst (λ (v : List Subtree). AreSubtrees v hashes) (subtrees-last c.args.self.now.peaks.items c.in-Some.before.now c.in-Some.last.now items) holds in
    c.root_over.ensures ∙ root_over-all (subtree_of c.in-Some.last.now) (subtrees_of c.in-Some.before.now) hashes are

pub returns-in-None : goal.returns-in-None
unfolding IsTreeOver
returns-in-None c = λ hashes holds.
    let items : c.args.self.now.peaks.items ≡ [] = sym c.deref.ensures.value ∙ nil_from_length c.deref.result.now c.in-None.ensures.cases in
    let none : hashes ≡ [] = subst (λ (v : List Peak). AreSubtrees (subtrees_of v) hashes) items holds in
    c.empty_root.ensures ∙ sym root-none ∙ ap root_of (sym none)
