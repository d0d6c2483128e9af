-- The laws over tests and forms, as statements about any tester that answers rightly.
use Rattle.std.specs.Prelude.{◌↔◌, IsTrue, false, ℤ, List, Option, Some, None, IfSome}
use Rattle.std.specs.List.{AllZip}
use Rattle.rp_geometry.specs.Geometry.{RationalPoint, HalfSpace}
use Rattle.rp_language.specs.Name.{Label}
use Rattle.rp_geometry.specs.sets.Prism.{Prism, IsPrism}
use Rattle.rp_geometry.specs.sets.Shape.{Shape, Part, shape_of_cell, shape_of_parts}
use Rattle.rp_geometry.specs.sets.Sets.{IsNonempty, IsWithin, SameMembers, Overlaps}
use Rattle.rp_geometry.specs.sets.Contact.{IsInContact}
use Rattle.rp_geometry.specs.sets.Relation.{StandIn}
use Rattle.rp_geometry.specs.sets.Pieces.{ArePieces}
use Rattle.rp_geometry.specs.laws.CellLaws.{IsSolution}
use Rattle.rp_geometry.specs.parts.PartTest.{whole_part}
use Rattle.rp_geometry.specs.sections.Trace.{IsHeight}
use Rattle.rp_geometry.specs.sections.Slice.{Slice, is_slice}
use Rattle.rp_semantics.specs.Walk.{Outcome, done, stopped, Tester, first_tester}
use Rattle.rp_language.specs.Expression.{Expression, IsKeptExpression, Meaning, resolve_names}
use Rattle.rp_semantics.specs.Form.{made_part, join, subtract, common_in_full, common_nearby, touch_in_full, touch_nearby, prism_form, form}
use Rattle.rp_semantics.specs.Compare.{is_covered, relation_of_parts}
use Rattle.rp_semantics.specs.Pieces.{pieces_of_parts}
use Rattle.rp_geometry.specs.parts.Parts.{AreKeptHalfSpaces, IsPart, IsCheckedPart, AreParts, AreOf}

-- ---- testers

-- the property holds of the result of a walk that is not stopped
abbrev pub IfDone : {W A : Type 0} → Outcome W A → (A → Type 0) → Type 0
IfDone (done x w) P = P x
IfDone (stopped e w) P = Unit {0}

-- the part made of a cell, if there is one, has the property P and the members of the cell; without one the cell has no member
pub record IsMadeOf (P : Part → Type 0) (cell : List HalfSpace) (o : Option Part) : Type 0 where
  pub fact : IfSome o P
  pub members : SameMembers (shape_of_parts (made_part o)) (shape_of_cell cell)

-- each slice passes at the height for its part
abbrev pub ArePassingSlices : ℤ → List Part → List Slice → Type 0
ArePassingSlices z ps shown = AllZip (λ p s. IsTrue (is_slice z p.cell s)) ps shown

-- the tester answers rightly, and its parts and the whole cube have the property P
pub record AnswersRightly {W : Type 0} (P : Part → Type 0) (t : Tester W) : Type 0 where
  pub whole : P whole_part
  pub checked : (p : Part) → P p → IsCheckedPart p
  pub strict : (cell : List HalfSpace) → AreKeptHalfSpaces cell → (w : W) → IfDone (t.strict cell w) (λ found. IsTrue found ↔ IsNonempty (shape_of_cell cell))
  pub weak : (cell : List HalfSpace) → AreKeptHalfSpaces cell → (w : W) → IfDone (t.weak cell w) (λ found. IsTrue found ↔ ((p : RationalPoint) × IsSolution false cell p))
  pub part : (cell : List HalfSpace) → AreKeptHalfSpaces cell → (w : W) → IfDone (t.part cell w) (λ o. IsMadeOf P cell o)
  pub slices : (z : ℤ) → IsHeight z → (ps : List Part) → AreParts P ps → (w : W) → IfDone (t.slices z ps w) (λ shown. ArePassingSlices z ps shown)

-- the first certificates answer rightly
abbrev pub FirstTesterIsRight : Type 0
FirstTesterIsRight = AnswersRightly IsPart first_tester

-- ---- joins, differences and pair loops

-- the join has exactly the common members
abbrev pub JoinIsRight : {W : Type 0} → (Part → Type 0) → Tester W → Type 0
JoinIsRight {W = W} P t = (ps qs : List Part) → AreParts P ps → AreParts P qs → (w : W) →
    IfDone (join t ps qs w) (λ made. AreOf P (Shape.intersection (shape_of_parts ps) (shape_of_parts qs)) made)

-- the difference has exactly the members of the first list that are not in the second
abbrev pub DifferenceIsRight : {W : Type 0} → (Part → Type 0) → Tester W → Type 0
DifferenceIsRight {W = W} P t = (ps qs : List Part) → AreParts P ps → AreParts P qs → (w : W) →
    IfDone (subtract t ps qs w) (λ made. AreOf P (Shape.difference (shape_of_parts ps) (shape_of_parts qs)) made)

-- the strict pair loop finds a pair iff the two lists have a common member: over all pairs, and over those whose boxes meet
abbrev pub CommonIsRight : {W : Type 0} → (Part → Type 0) → Tester W → Type 0
CommonIsRight {W = W} P t = (ps qs : List Part) → AreParts P ps → AreParts P qs → (w : W) →
    IfDone (common_in_full t ps qs w) (λ found. IsTrue found ↔ Overlaps (shape_of_parts ps) (shape_of_parts qs))
    × IfDone (common_nearby t ps qs w) (λ found. IsTrue found ↔ Overlaps (shape_of_parts ps) (shape_of_parts qs))

-- the weak pair loop finds a pair iff the two lists are in contact: over all pairs, and over those whose closed boxes meet
abbrev pub TouchIsRight : {W : Type 0} → (Part → Type 0) → Tester W → Type 0
TouchIsRight {W = W} P t = (ps qs : List Part) → AreParts P ps → AreParts P qs → (w : W) →
    IfDone (touch_in_full t ps qs w) (λ found. IsTrue found ↔ IsInContact (shape_of_parts ps) (shape_of_parts qs))
    × IfDone (touch_nearby t ps qs w) (λ found. IsTrue found ↔ IsInContact (shape_of_parts ps) (shape_of_parts qs))

-- the walk that subtracts the second list from the first says yes iff the first is within the second
abbrev pub CoverIsRight : {W : Type 0} → (Part → Type 0) → Tester W → Type 0
CoverIsRight {W = W} P t = (ps qs : List Part) → AreParts P ps → AreParts P qs → (w : W) →
    IfDone (is_covered t ps qs w) (λ within. IsTrue within ↔ IsWithin (shape_of_parts ps) (shape_of_parts qs))

-- the relation found is that of the two lists
abbrev pub RelationIsRight : {W : Type 0} → (Part → Type 0) → Tester W → Type 0
RelationIsRight {W = W} P t = (ps qs : List Part) → AreParts P ps → AreParts P qs → IsNonempty (shape_of_parts ps) → IsNonempty (shape_of_parts qs) → (w : W) →
    IfDone (relation_of_parts t ps qs w) (λ r. StandIn r (shape_of_parts ps) (shape_of_parts qs))

-- the pieces found are those of the list
abbrev pub PiecesAreRight : {W : Type 0} → (Part → Type 0) → Tester W → Type 0
PiecesAreRight {W = W} P t = (ps : List Part) → AreParts P ps → (w : W) → IfDone (pieces_of_parts t ps w) (λ gs. ArePieces ps gs)

-- ---- forms

-- the form of a prism has exactly the members of the prism
abbrev pub PrismIsRight : {W : Type 0} → (Part → Type 0) → Tester W → Type 0
PrismIsRight {W = W} P t = (s : Prism) → IsPrism s → (w : W) → IfDone (prism_form t s w) (λ made. AreOf P (Shape.prism s) made)

-- a label has both meanings or none; the parts of the first have the property P, and exactly the members of the set of the second
abbrev pub Agree : (Part → Type 0) → Option (List Part) → Option Shape → Type 0
Agree P None None = Unit {0}
Agree P (Some parts) (Some s) = AreOf P s parts
Agree P None (Some s) = ⊥
Agree P (Some parts) None = ⊥

-- the meanings in parts and in sets agree for each name and each lot
pub record MeaningsAgree (P : Part → Type 0) (parts : Meaning (List Part)) (sets : Meaning Shape) : Type 0 where
  pub names : (x : Label) → Agree P (parts.of_name x) (sets.of_name x)
  pub lots : (x : Label) → Agree P (parts.of_lot x) (sets.of_lot x)

-- the form of an expression has exactly the members of its set
abbrev pub FormIsRight : {W : Type 0} → (Part → Type 0) → Tester W → Type 0
FormIsRight {W = W} P t = (parts : Meaning (List Part)) (sets : Meaning Shape) → MeaningsAgree P parts sets → (e : Expression) → IsKeptExpression e → (w : W) →
    IfDone (form t parts e w) (λ made. AreOf P (resolve_names sets e) made)

-- ---- all laws together

-- the tester answers rightly, and all walks over lists of parts and expressions that use it are right
pub record WalksAreRight {W : Type 0} (P : Part → Type 0) (t : Tester W) : Type 0 where
  pub tests : AnswersRightly P t
  pub joins : JoinIsRight P t
  pub differences : DifferenceIsRight P t
  pub commons : CommonIsRight P t
  pub touches : TouchIsRight P t
  pub relations : RelationIsRight P t
  pub pieces : PiecesAreRight P t
  pub forms : FormIsRight P t
