-- Parts with some numbers are in one piece exactly where ways by contact join them, and a list of parts where they join all its parts.
use Rattle.std.proofs.Common.{◌≡◌, ℕ, zero, suc, ◌≤◌, Bool, true, false, List, length, Some, refl, ap, sym, ◌∙◌}
use Rattle.rp_algebra.proofs.Listed.{Listed, place_of, listed_at}
use Rattle.rp_algebra.proofs.Tests.{false_not_true}
use Rattle.rp_geometry.specs.sets.Shape.{Shape, Part, shape_of_parts}
use Rattle.rp_geometry.specs.sets.Sets.{IsWithin, SameMembers}
use Rattle.rp_geometry.specs.sets.Pieces.{IsOnePiece, numbered_parts, shape_of_numbers}
use Rattle.rp_geometry.specs.parts.Groups.{is_listed_number, group_of, numbers_to}
use Rattle.rp_geometry.specs.parts.Links.{links_of}
use Rattle.rp_geometry.specs.laws.PieceLaws.{IsLinked, itself, further, AllLinked, OnePieceIsLinked, AreContacts, IsJoined}
use Rattle.rp_geometry.proofs.Numbered.{listed_is, listed_true}
use Rattle.rp_parts.proofs.PieceRegions.{in_some_part, part_within}
use Rattle.rp_parts.proofs.Numbered.{part_at, number_of, numbered_listed, number_in_range, part_in_range, listed_to, to_listed}
use Rattle.rp_parts.proofs.Bridged.{AreNumbers, Bridge, AreBridged, bridged_is_one_piece, one_piece_is_bridged}
use Rattle.rp_parts.proofs.Growth.{group_first, group_closed, group_joined, linked_back}
use Rattle.rp_parts.proofs.Linked.{links_are_contacts_spec, linked_of_contact, linked_end, linked_of_joined}

-- ---- a way from one colour to another

-- a way by contact that stays within the list and leads from one colour to the other has a bridge
pub bridge_of_way : (parts : List Part) (ks : List ℕ) (paint : ℕ → Bool) (i : ℕ) → ((k : ℕ) → IsLinked parts i k → Listed k ks) → paint i ≡ true → (j : ℕ) → IsLinked parts i j → paint j ≡ false → Bridge parts ks paint
bridge_of_way parts ks paint i within ei j itself ej = absurd (false_not_true (paint i) ei ej)
bridge_of_way parts ks paint i within ei j (further {j = m} w c d t) ej = by_paint (paint m) refl (λ e. bridge_of_way parts ks paint i within ei m w e)
  where
    by_paint : (b : Bool) → paint m ≡ b → (paint m ≡ false → Bridge parts ks paint) → Bridge parts ks paint
    by_paint true e rest = record { from = m; to = j; from_listed = within m w; to_listed = within j (further w c d t); from_is = e; to_is = ej; touch = t }
    by_paint false e rest = rest e

-- ---- from bridges to ways

-- each number of the list is one of the parts
pub numbers_in_range : (parts : List Part) (ks : List ℕ) → AreNumbers parts ks → (k : ℕ) → Listed k ks → (1 ≤ k) × (k ≤ length parts)
numbers_in_range parts ks numbers k l = let (p, e) = numbers k l in number_in_range parts k p e

-- where bridges join any two colours, links join any two numbers of the list
pub bridged_joined : (parts : List Part) (links : List (ℕ × ℕ)) → AreContacts links parts → (ks : List ℕ) → AreNumbers parts ks → AreBridged parts ks
    → (i j : ℕ) → Listed i ks → Listed j ks → IsJoined links (length parts) i j
bridged_joined parts links contacts ks numbers bridged i j li lj = by_paint (paint j) refl
  where
    n : ℕ
    n = length parts

    group : List ℕ
    group = group_of links (numbers_to n) i

    paint : ℕ → Bool
    paint k = is_listed_number k group

    own : Listed i (numbers_to n)
    own = let r = numbers_in_range parts ks numbers i li in listed_to n i r.0 r.1

    no_bridge : Bridge parts ks paint → ⊥
    no_bridge b =
        let r = numbers_in_range parts ks numbers b.from b.from_listed in
        let s = numbers_in_range parts ks numbers b.to b.to_listed in
        let differ : b.from ≡ b.to → ⊥ = λ e. false_not_true (paint b.to) (ap paint (sym e) ∙ b.from_is) b.to_is in
        let linked = linked_of_contact parts links contacts b.from b.to r.0 r.1 s.0 s.1 differ b.touch in
        let comes = group_closed links (numbers_to n) i own b.from b.to (listed_is b.from group b.from_is) (listed_to n b.to s.0 s.1) (linked_back links b.to b.from ∙ linked) in
        false_not_true (paint b.to) (listed_true b.to group comes) b.to_is

    by_paint : (b : Bool) → paint j ≡ b → IsJoined links n i j
    by_paint true e = group_joined links n i j (listed_is j group e)
    by_paint false e = absurd (no_bridge (bridged paint i j li lj (listed_true i group (group_first links (numbers_to n) i own)) e))

-- ---- all parts

-- shapes of the same members are in one piece alike
pub one_piece_same : (s t : Shape) → SameMembers s t → IsOnePiece s → IsOnePiece t
one_piece_same s t same one f g kf kg a b u = one f g kf kg a b (λ p m. same.1 p (u.0 p m), λ p m. u.1 p (same.0 p m))

-- the numbers from 1 on have all parts
all_numbers : (parts : List Part) → SameMembers (shape_of_numbers parts (numbers_to (length parts))) (shape_of_parts parts)
all_numbers parts = (to, back)
  where
    ks : List ℕ
    ks = numbers_to (length parts)

    to : IsWithin (shape_of_numbers parts ks) (shape_of_parts parts)
    to q m =
        let r = in_some_part (numbered_parts parts ks) q m in
        let i = number_of parts ks r.part r.listed in
        part_within parts r.part (some_listed i.number r.part i.is) q r.member
      where
        some_listed : (k : ℕ) (p : Part) → part_at parts k ≡ Some p → Listed p parts
        some_listed zero p e = absurd (cc)
        some_listed (suc k) p e = listed_at p parts k e

    back : IsWithin (shape_of_parts parts) (shape_of_numbers parts ks)
    back q m =
        let r = in_some_part parts q m in
        let place = place_of r.part parts r.listed in
        let range = number_in_range parts (suc place.0) r.part place.1 in
        part_within (numbered_parts parts ks) r.part (numbered_listed parts ks (suc place.0) r.part (listed_to (length parts) (suc place.0) range.0 range.1) place.1) q r.member

-- the numbers from 1 on are those of the parts
are_numbers : (parts : List Part) → AreNumbers parts (numbers_to (length parts))
are_numbers parts k l = let r = to_listed (length parts) k l in part_in_range parts k r.0 r.1

-- the law
pub one_piece_is_linked_spec : OnePieceIsLinked
one_piece_is_linked_spec parts h = (to, back)
  where
    ks : List ℕ
    ks = numbers_to (length parts)

    contacts : AreContacts (links_of parts) parts
    contacts = links_are_contacts_spec parts h

    to : IsOnePiece (shape_of_parts parts) → AllLinked parts
    to one i j a b c d =
        let bridged = one_piece_is_bridged parts h ks (are_numbers parts) (one_piece_same (shape_of_parts parts) (shape_of_numbers parts ks) ((all_numbers parts).1, (all_numbers parts).0) one) in
        linked_of_joined parts (links_of parts) contacts i j a b (bridged_joined parts (links_of parts) contacts ks (are_numbers parts) bridged i j (listed_to (length parts) i a b) (listed_to (length parts) j c d))

    back : AllLinked parts → IsOnePiece (shape_of_parts parts)
    back linked = one_piece_same (shape_of_numbers parts ks) (shape_of_parts parts) (all_numbers parts) (bridged_is_one_piece parts h ks (are_numbers parts) bridged)
      where
        bridged : AreBridged parts ks
        bridged paint i j li lj ei ej =
            let r = to_listed (length parts) i li in
            let s = to_listed (length parts) j lj in
            bridge_of_way parts ks paint i (λ k w. let e = linked_end parts i k r.0 r.1 w in listed_to (length parts) k e.0 e.1) ei j (linked i j r.0 r.1 s.0 s.1) ej
