use Rattle.std.proofs.Common.{inl, inr, refl, arith}
use Rattle.rp_unionfind.proofs.Trees.{trees_joined}
use Rattle.rp_unionfind.proofs.forest.join.Goals as goal

pub returns-then-one-other-clause-joined : goal.returns-then-one-other-clause-joined
returns-then-one-other-clause-joined c = λ links n h l f.
    let one = c.root_of-one in
    let other = c.root_of-other in
    let r = one.ensures.joined links n h f in
    let s = other.ensures.joined links n l r.0 in
    let size = f.size in
    let within = c.requires.within in
    trees_joined links (c.args.first, c.args.second) n other.new.parents s.0 one.result other.result h (omega (arith, size, within.0)) l (omega (arith, size, within.1))
    (other.ensures.stay one.result one.ensures.root) other.ensures.root r.1 s.1 other.result one.result (inr (refl, refl)) (omega arith)

pub returns-else-one-other-clause-joined : goal.returns-else-one-other-clause-joined
returns-else-one-other-clause-joined c = λ links n h l f.
    let one = c.root_of-one in
    let other = c.root_of-other in
    let r = one.ensures.joined links n h f in
    let s = other.ensures.joined links n l r.0 in
    let size = f.size in
    let within = c.requires.within in
    trees_joined links (c.args.first, c.args.second) n other.new.parents s.0 one.result other.result h (omega (arith, size, within.0)) l (omega (arith, size, within.1))
    (other.ensures.stay one.result one.ensures.root) other.ensures.root r.1 s.1 one.result other.result (inl (refl, refl)) (omega arith)
