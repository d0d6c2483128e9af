-- The pieces of a list of parts, test by test: each two parts are tested for contact.
use Rattle.std.specs.Prelude.{ℕ, ◌+◌, true, false, List, [], ◌∷◌, ◌++◌, length}
use Rattle.rp_geometry.specs.sets.Shape.{Part}
use Rattle.rp_geometry.specs.parts.Groups.{groups_of}
use Rattle.rp_semantics.specs.Walk.{Walk, pass, ◌>>=◌, ◌>>◌, Tester}

-- the number of pairs of parts of a list
abbrev pub pair_count : List Part → ℕ
pair_count [] = 0
pair_count (p ∷ ps) = length ps + pair_count ps

-- the parts of a list with their numbers, from k on
abbrev pub numbered_from : ℕ → List Part → List (ℕ × Part)
numbered_from k [] = []
numbered_from k (p ∷ ps) = (k, p) ∷ numbered_from (k + 1) ps

module _ {W : Type 0} (tester : Tester W) where
  -- appends the link of two numbered parts, if they are in contact, to the links found so far
  abbrev pub link_pair : List (ℕ × ℕ) → ℕ × Part → ℕ × Part → Walk W (List (ℕ × ℕ))
  link_pair found p q = do
    linked ← tester.weak (p.1.cell ++ q.1.cell)
    pass (elim linked [ true ↦ found ++ (p.0, q.0) ∷ [] | false ↦ found ])

  -- appends the links of one numbered part with the numbered parts of a list to the links found so far
  abbrev pub links_with_part : List (ℕ × ℕ) → ℕ × Part → List (ℕ × Part) → Walk W (List (ℕ × ℕ))
  links_with_part found p [] = pass found
  links_with_part found p (q ∷ qs) = do
    more ← link_pair found p q
    links_with_part more p qs

  -- appends the links of each two parts of a list to the links found so far
  abbrev pub links_among : List (ℕ × ℕ) → List (ℕ × Part) → Walk W (List (ℕ × ℕ))
  links_among found [] = pass found
  links_among found (p ∷ ps) = do
    more ← links_with_part found p ps
    links_among more ps

  -- the pieces: each two parts are tested for contact, and the links join the parts into groups
  abbrev pub pieces_of_parts : List Part → Walk W (List (List ℕ))
  pieces_of_parts ps = do
    tester.count (pair_count ps)
    links ← links_among [] (numbered_from 1 ps)
    pass (groups_of links (length ps))
