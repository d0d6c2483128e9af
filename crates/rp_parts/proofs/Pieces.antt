-- The pieces of a list of parts are the groups into which links of contact join the parts, and there are no others.
use Rattle.std.proofs.Common.{◌≡◌, ℕ, ◌≤◌, true, ⊎_elim, List, [], ◌∷◌, length, refl, subst, sym}
use Rattle.std.proofs.lemmas.Bool.{cases_eq}
use Rattle.std.specs.Prelude.{◌↔◌}
use Rattle.std.specs.List.{AllByRecursion}
use Rattle.rp_algebra.proofs.Listed.{Listed, first, later, all_of, all_map, of_all}
use Rattle.rp_geometry.specs.sets.Shape.{Part}
use Rattle.rp_geometry.specs.sets.Contact.{IsInContact}
use Rattle.rp_geometry.specs.sets.Pieces.{IsOnePiece, shape_of_numbers, is_rising, first_numbers, AreApart, ArePieces}
use Rattle.rp_geometry.specs.parts.Links.{links_of, pieces_of}
use Rattle.rp_geometry.specs.laws.PieceLaws.{IsNonemptyPart, part_numbered, AreContacts, IsJoined, itself, further, AreGroups, PiecesAreGroups, PiecesAreOne}
use Rattle.rp_parts.proofs.Numbered.{part_in_range, number_in_range, near_part, near_numbers, near_some_number}
use Rattle.rp_parts.proofs.Bridged.{AreNumbers, AreBridged, bridged_is_one_piece, one_piece_is_bridged}
use Rattle.rp_parts.proofs.Rising.{Rises, rises_is}
use Rattle.rp_parts.proofs.Partition.{Holds, holds_later, AreDisjoint, IsPartition, partition_of, AreClasses}
use Rattle.rp_parts.proofs.Grouped.{classes_of, of_classes, groups_are_joined_spec}
use Rattle.rp_parts.proofs.Linked.{links_are_contacts_spec, linked_of_contact, contact_of_linked, joined_of_linked, linked_of_joined}
use Rattle.rp_parts.proofs.Joined.{bridge_of_way, bridged_joined}

module _ (parts : List Part) (h : AllByRecursion IsNonemptyPart parts) (links : List (ℕ × ℕ)) (contacts : AreContacts links parts) where
  -- the parts that are numbered
  abbrev count : ℕ
  count = length parts

  -- where each number stands in lists of which all numbers have parts, those of a list have parts
  parts_of_list : (gs : List (List ℕ)) → IsPartition count gs → (ks : List ℕ) → Listed ks gs → AreNumbers parts ks
  parts_of_list gs p ks l k i = let r = p.in_range k (record { list = ks; listed = l; has = i }) in part_in_range parts k r.0 r.1

  -- parts of two lists that are in contact: the lists are
  lists_touch : (js ks : List ℕ) → AreNumbers parts js → AreNumbers parts ks → (j k : ℕ) → Listed j js → Listed k ks → IsInContact (part_numbered parts j) (part_numbered parts k)
      → IsInContact (shape_of_numbers parts js) (shape_of_numbers parts ks)
  lists_touch js ks nj nk j k lj lk (m, a, b) =
      let (p, ep) = nj j lj in
      let (q, eq) = nk k lk in
      (m, near_numbers parts js j p lj ep m (near_part parts h j p ep m a), near_numbers parts ks k q lk eq m (near_part parts h k q eq m b))

  -- ---- pieces are groups

  -- lists of which none is in contact with a later one: two of them that are in contact are one list
  apart_same : (gs : List (List ℕ)) → AreApart parts gs → (js ks : List ℕ) → Listed js gs → Listed ks gs → IsInContact (shape_of_numbers parts js) (shape_of_numbers parts ks) → js ≡ ks
  apart_same [] a js ks lj lk t = elim lj [ ]
  apart_same (g ∷ gs) a js ks first first t = refl
  apart_same (g ∷ gs) a js ks first (later l) t = absurd (all_of (λ x. ¬ IsInContact (shape_of_numbers parts js) (shape_of_numbers parts x)) gs a.0 ks l t)
  apart_same (g ∷ gs) a js ks (later l) first (m, x, y) = absurd (all_of (λ z. ¬ IsInContact (shape_of_numbers parts ks) (shape_of_numbers parts z)) gs a.0 js l (m, y, x))
  apart_same (g ∷ gs) a js ks (later l) (later i) t = apart_same gs a.1 js ks l i t

  -- what is joined to a number of a piece is in the piece
  joined_stays : (gs : List (List ℕ)) → ArePieces parts gs → (ks : List ℕ) → Listed ks gs → (i j : ℕ) → Listed i ks → IsJoined links count i j → Listed j ks
  joined_stays gs p ks l i j li itself = li
  joined_stays gs p ks l i j li (further {j = m} w c d e) = step (joined_stays gs p ks l i m li w)
    where
      partition : IsPartition count gs
      partition = partition_of count gs p.each_once

      step : Listed m ks → Listed j ks
      step lm =
          ⊎_elim
          (λ (f : m ≡ j). subst (λ x. Listed x ks) f lm)
          (λ (n : m ≡ j → ⊥).
          let r = partition.in_range m (record { list = ks; listed = l; has = lm }) in
          let t = contact_of_linked parts links contacts m j r.0 r.1 c d n e in
          let o = partition.holds j c d in
          let same = apart_same gs p.apart ks o.list l o.listed (lists_touch ks o.list (parts_of_list gs partition ks l) (parts_of_list gs partition o.list o.listed) m j lm o.has t) in
          subst (λ x. Listed j x) (sym same) o.has)
          (cases_eq m j)

  -- the pieces are the groups
  groups_of_pieces : (gs : List (List ℕ)) → ArePieces parts gs → AreGroups links count gs
  groups_of_pieces gs p = of_classes links count gs partition (record {
    disjoint = partition.disjoint;
    none_empty = p.none_empty;
    rising = all_map (λ ks. is_rising ks ≡ true) Rises rises_is gs p.rising;
    in_order = rises_is (first_numbers gs) p.in_order;
    joined = of_all (λ ks. (i j : ℕ) → Listed i ks → (Listed j ks ↔ IsJoined links count i j)) gs joined;
  })
    where
      partition : IsPartition count gs
      partition = partition_of count gs p.each_once

      joined : (ks : List ℕ) → Listed ks gs → (i j : ℕ) → Listed i ks → (Listed j ks ↔ IsJoined links count i j)
      joined ks l i j li =
          let numbers = parts_of_list gs partition ks l in
          let bridged = one_piece_is_bridged parts h ks numbers (all_of (λ x. IsOnePiece (shape_of_numbers parts x)) gs p.connected ks l) in (
            λ lj. bridged_joined parts links contacts ks numbers bridged i j li lj,
            λ w. joined_stays gs p ks l i j li w,
          )

  -- ---- groups are pieces

  -- the parts of a group are in one piece
  group_connected : (ks : List ℕ) → AreNumbers parts ks → ((i j : ℕ) → Listed i ks → (Listed j ks ↔ IsJoined links count i j)) → IsOnePiece (shape_of_numbers parts ks)
  group_connected ks numbers joined = bridged_is_one_piece parts h ks numbers bridged
    where
      bridged : AreBridged parts ks
      bridged paint i j li lj ei ej =
          let (p, ep) = numbers i li in
          let r = number_in_range parts i p ep in
          bridge_of_way parts ks paint i (λ k w. (joined i k li).1 (joined_of_linked parts links contacts i k r.0 r.1 w)) ei j (linked_of_joined parts links contacts i j r.0 r.1 ((joined i j li).0 lj)) ej

  -- no two groups are in contact
  groups_apart : (gs : List (List ℕ)) → ((k : ℕ) → Holds k gs → (1 ≤ k) × (k ≤ count)) → AreDisjoint gs → AllByRecursion (λ ks. (i j : ℕ) → Listed i ks → (Listed j ks ↔ IsJoined links count i j)) gs → AreApart parts gs
  groups_apart [] range d joined = tt
  groups_apart (ks ∷ gs) range d joined = (
    of_all (λ js. ¬ IsInContact (shape_of_numbers parts ks) (shape_of_numbers parts js)) gs (λ js l t. apart js l t),
    groups_apart gs (λ k x. range k (holds_later x)) d.1 joined.1,
  )
    where
      apart : (js : List ℕ) → Listed js gs → IsInContact (shape_of_numbers parts ks) (shape_of_numbers parts js) → ⊥
      apart js l (m, a, b) =
          let x = near_some_number parts h ks m a in
          let y = near_some_number parts h js m b in
          let held : Holds y.number gs = record { list = js; listed = l; has = y.listed } in
          let r = range x.number (record { list = ks; listed = first; has = x.listed }) in
          let s = range y.number (holds_later held) in
          let differ : x.number ≡ y.number → ⊥ = λ e. d.0 y.number (subst (λ z. Listed z ks) e x.listed) held in
          let linked = linked_of_contact parts links contacts x.number y.number r.0 r.1 s.0 s.1 differ (m, x.near, y.near) in
          d.0 y.number ((joined.0 x.number y.number x.listed).1 (further itself s.0 s.1 linked)) held

  -- the groups are the pieces
  pieces_of_groups : (gs : List (List ℕ)) → AreGroups links count gs → ArePieces parts gs
  pieces_of_groups gs g = record {
    each_once = g.each_once;
    none_empty = g.none_empty;
    rising = g.rising;
    in_order = g.in_order;
    connected = of_all (λ ks. IsOnePiece (shape_of_numbers parts ks)) gs (λ ks l. group_connected ks (parts_of_list gs partition ks l) (all_of (λ x. (i j : ℕ) → Listed i x → (Listed j x ↔ IsJoined links count i j)) gs classes.joined ks l));
    apart = groups_apart gs partition.in_range classes.disjoint classes.joined;
  }
    where
      partition : IsPartition count gs
      partition = partition_of count gs g.each_once

      classes : AreClasses (IsJoined links count) gs
      classes = classes_of links count gs g

-- the law
pub pieces_are_groups_spec : PiecesAreGroups
pieces_are_groups_spec parts h links contacts pieces = (
  λ p. (groups_are_joined_spec links (length parts) pieces).0 (groups_of_pieces parts h links contacts pieces p),
  λ e. pieces_of_groups parts h links contacts pieces ((groups_are_joined_spec links (length parts) pieces).1 e),
)

-- there is one list of pieces
pub pieces_are_one_spec : PiecesAreOne
pieces_are_one_spec parts h =
    let law = pieces_are_groups_spec parts h (links_of parts) (links_are_contacts_spec parts h) in
    ((law (pieces_of parts)).1 refl, λ pieces p. (law pieces).0 p)
