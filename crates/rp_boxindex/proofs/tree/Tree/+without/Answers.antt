use Rattle.std.proofs.Common.{◌≡◌, ℕ, ◌+◌, ◌≤◌, max, inl, inr, rules, arith}
use Rattle.std.proofs.lemmas.Bool.{cases_lt}
use Rattle.rp_boxindex.specs.tree.Nodes.{AreParts, DifferByAtMost, entry_of}
use Rattle.rp_boxindex.proofs.Changes.{between_less_left, between_less_right, gone_left, gone_right, gone_own, nowhere_left, nowhere_right}
use Rattle.rp_boxindex.proofs.tree.Tree.+without.Goals as goal

-- ---- heights: of a tree t with sides of l and r, and of what is made of them, where m is what is left of the one with an entry less

level_left : (l r m : ℕ) → DifferByAtMost 1 l r → m ≤ l → l ≤ m + 1 → DifferByAtMost 2 m r
level_left l r m level not_higher lower = (omega arith, omega arith)

fits_left : (t l r m : ℕ) → t ≡ max l r + 1 → t ≤ 198 → m ≤ l → max m r ≤ 199
fits_left t l r m height fits not_higher = omega arith

not_higher_left : (t l r m made : ℕ) → t ≡ max l r + 1 → m ≤ l → made ≤ max m r + 1 → made ≤ t
not_higher_left t l r m made height not_higher high = omega arith

lower_left : (t l r m made : ℕ) → t ≡ max l r + 1 → m ≤ l → l ≤ m + 1 → DifferByAtMost 1 l r → max m r ≤ made → (DifferByAtMost 1 m r → made ≡ max m r + 1) → t ≤ made + 1
lower_left t l r m made height not_higher lower level low exact = elim (cases_lt (m + 1) r) [
  | inl two ↦ omega arith
  | inr one ↦ let is = exact (omega arith, one) in omega arith
]

level_right : (l r m : ℕ) → DifferByAtMost 1 l r → m ≤ r → r ≤ m + 1 → DifferByAtMost 2 l m
level_right l r m level not_higher lower = (omega arith, omega arith)

fits_right : (t l r m : ℕ) → t ≡ max l r + 1 → t ≤ 198 → m ≤ r → max l m ≤ 199
fits_right t l r m height fits not_higher = omega arith

not_higher_right : (t l r m made : ℕ) → t ≡ max l r + 1 → m ≤ r → made ≤ max l m + 1 → made ≤ t
not_higher_right t l r m made height not_higher high = omega arith

lower_right : (t l r m made : ℕ) → t ≡ max l r + 1 → m ≤ r → r ≤ m + 1 → DifferByAtMost 1 l r → max l m ≤ made → (DifferByAtMost 1 l m → made ≡ max l m + 1) → t ≤ made + 1
lower_right t l r m made height not_higher lower level low exact = elim (cases_lt (m + 1) l) [
  | inl two ↦ omega arith
  | inr one ↦ let is = exact (one, omega arith) in omega arith
]

fits_both : (t l r : ℕ) → t ≡ max l r + 1 → t ≤ 198 → max l r ≤ 198
fits_both t l r height fits = omega arith

not_higher_both : (t l r made : ℕ) → t ≡ max l r + 1 → made ≤ max l r + 1 → made ≤ t
not_higher_both t l r made height high = omega arith

lower_both : (t l r made : ℕ) → t ≡ max l r + 1 → max l r ≤ made → t ≤ made + 1
lower_both t l r made height low = omega arith

-- ---- what is asked and returned

pub returns-then-precedes-clause-entries : goal.returns-then-precedes-clause-entries
returns-then-precedes-clause-entries t c =
    let parts : AreParts c.args.self c.in-Some.left c.in-Some.node.value.entry c.in-Some.right = c.in-Some.ensures in
    gone_left (entry_of c.without-left.result.1) c.without-left.result.0.entries c.balance.result.entries parts c.without-left.ensures.entries c.balance.ensures.entries

pub returns-then-precedes-clause-gone : goal.returns-then-precedes-clause-gone
returns-then-precedes-clause-gone t c =
    let parts : AreParts c.args.self c.in-Some.left c.in-Some.node.value.entry c.in-Some.right = c.in-Some.ensures in
    nowhere_left c.args.place.now (entry_of c.without-left.result.1) parts (search rules) c.without-left.ensures.gone

pub returns-then-precedes-2-clause-entries : goal.returns-then-precedes-2-clause-entries
returns-then-precedes-2-clause-entries t c =
    let parts : AreParts c.args.self c.in-Some.left c.in-Some.node.value.entry c.in-Some.right = c.in-Some.ensures in
    gone_right (entry_of c.without-right.result.1) c.without-right.result.0.entries c.balance-then-precedes-2.result.entries parts c.without-right.ensures.entries c.balance-then-precedes-2.ensures.entries

pub returns-then-precedes-2-clause-gone : goal.returns-then-precedes-2-clause-gone
returns-then-precedes-2-clause-gone t c =
    let parts : AreParts c.args.self c.in-Some.left c.in-Some.node.value.entry c.in-Some.right = c.in-Some.ensures in
    nowhere_right c.args.place.now (entry_of c.without-right.result.1) parts (search rules) c.without-right.ensures.gone

pub returns-else-precedes-2-clause-entries : goal.returns-else-precedes-2-clause-entries
returns-else-precedes-2-clause-entries t c =
    let parts : AreParts c.args.self c.in-Some.left c.in-Some.node.value.entry c.in-Some.right = c.in-Some.ensures in
    gone_own c.concat.result.entries parts c.concat.ensures.entries

pub balance-requires : goal.balance-requires
balance-requires t c =
    let parts : AreParts c.args.self c.in-Some.left c.in-Some.node.value.entry c.in-Some.right = c.in-Some.ensures in
    record {
      between = between_less_left (entry_of c.without-left.result.1) c.without-left.result.0.entries parts c.without-left.ensures.entries;
      level = level_left c.in-Some.left.height c.in-Some.right.height c.without-left.result.0.height parts.level c.without-left.ensures.not_higher c.without-left.ensures.at_most_one_lower;
      fits = fits_left c.args.self.height c.in-Some.left.height c.in-Some.right.height c.without-left.result.0.height parts.height c.requires.fits c.without-left.ensures.not_higher;
    }

pub returns-then-precedes-clause-not_higher : goal.returns-then-precedes-clause-not_higher
returns-then-precedes-clause-not_higher t c =
    let parts : AreParts c.args.self c.in-Some.left c.in-Some.node.value.entry c.in-Some.right = c.in-Some.ensures in
    not_higher_left c.args.self.height c.in-Some.left.height c.in-Some.right.height c.without-left.result.0.height c.balance.result.height parts.height c.without-left.ensures.not_higher c.balance.ensures.at_most_one_higher

pub returns-then-precedes-clause-at_most_one_lower : goal.returns-then-precedes-clause-at_most_one_lower
returns-then-precedes-clause-at_most_one_lower t c =
    let parts : AreParts c.args.self c.in-Some.left c.in-Some.node.value.entry c.in-Some.right = c.in-Some.ensures in
    lower_left c.args.self.height c.in-Some.left.height c.in-Some.right.height c.without-left.result.0.height c.balance.result.height parts.height c.without-left.ensures.not_higher c.without-left.ensures.at_most_one_lower parts.level c.balance.ensures.not_lower c.balance.ensures.exact

pub balance-requires-then-precedes-2 : goal.balance-requires-then-precedes-2
balance-requires-then-precedes-2 t c =
    let parts : AreParts c.args.self c.in-Some.left c.in-Some.node.value.entry c.in-Some.right = c.in-Some.ensures in
    record {
      between = between_less_right (entry_of c.without-right.result.1) c.without-right.result.0.entries parts c.without-right.ensures.entries;
      level = level_right c.in-Some.left.height c.in-Some.right.height c.without-right.result.0.height parts.level c.without-right.ensures.not_higher c.without-right.ensures.at_most_one_lower;
      fits = fits_right c.args.self.height c.in-Some.left.height c.in-Some.right.height c.without-right.result.0.height parts.height c.requires.fits c.without-right.ensures.not_higher;
    }

pub returns-then-precedes-2-clause-not_higher : goal.returns-then-precedes-2-clause-not_higher
returns-then-precedes-2-clause-not_higher t c =
    let parts : AreParts c.args.self c.in-Some.left c.in-Some.node.value.entry c.in-Some.right = c.in-Some.ensures in
    not_higher_right c.args.self.height c.in-Some.left.height c.in-Some.right.height c.without-right.result.0.height c.balance-then-precedes-2.result.height parts.height c.without-right.ensures.not_higher c.balance-then-precedes-2.ensures.at_most_one_higher

pub returns-then-precedes-2-clause-at_most_one_lower : goal.returns-then-precedes-2-clause-at_most_one_lower
returns-then-precedes-2-clause-at_most_one_lower t c =
    let parts : AreParts c.args.self c.in-Some.left c.in-Some.node.value.entry c.in-Some.right = c.in-Some.ensures in
    lower_right c.args.self.height c.in-Some.left.height c.in-Some.right.height c.without-right.result.0.height c.balance-then-precedes-2.result.height parts.height c.without-right.ensures.not_higher c.without-right.ensures.at_most_one_lower parts.level c.balance-then-precedes-2.ensures.not_lower c.balance-then-precedes-2.ensures.exact

pub concat-requires : goal.concat-requires
concat-requires t c =
    let parts : AreParts c.args.self c.in-Some.left c.in-Some.node.value.entry c.in-Some.right = c.in-Some.ensures in
    record {
      between = (c.in-Some.node.value.entry, parts.between);
      level = parts.level;
      fits = fits_both c.args.self.height c.in-Some.left.height c.in-Some.right.height parts.height c.requires.fits;
    }

pub returns-else-precedes-2-clause-not_higher : goal.returns-else-precedes-2-clause-not_higher
returns-else-precedes-2-clause-not_higher t c =
    let parts : AreParts c.args.self c.in-Some.left c.in-Some.node.value.entry c.in-Some.right = c.in-Some.ensures in
    not_higher_both c.args.self.height c.in-Some.left.height c.in-Some.right.height c.concat.result.height parts.height c.concat.ensures.at_most_one_higher

pub returns-else-precedes-2-clause-at_most_one_lower : goal.returns-else-precedes-2-clause-at_most_one_lower
returns-else-precedes-2-clause-at_most_one_lower t c =
    let parts : AreParts c.args.self c.in-Some.left c.in-Some.node.value.entry c.in-Some.right = c.in-Some.ensures in
    lower_both c.args.self.height c.in-Some.left.height c.in-Some.right.height c.concat.result.height parts.height c.concat.ensures.not_lower
