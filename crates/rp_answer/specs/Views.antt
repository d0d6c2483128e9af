-- Answers of the code as those of the model.
use Rattle.std.specs.Prelude.{map}
use Rattle.rp_geometry.specs.sets.Relation.{Relation}
use Rattle.rp_model.specs.commands.Verdict.{Refusal as ModelRefusal, bad, unknown, known, repeated, layers, same_name, too_few, empty, limit, overlaps, empty_side, empty_child, outside_lot, children_overlap, gap, empty_region, Verdict as ModelVerdict, says_yes, says_no, says_ok, relation, pieces, piece, parts, part, parcel, nobody, neighbours, clear, parcels, lots, lot, sections, slice, access, no_access, level, refused, entry_of}
use Rattle.rp_reports.specs.Text.{Answer as ModelAnswer}
use Rattle.rp_history.specs.Lots.{lot_of}
use Rattle.rp_command.specs.Views.{fault_of}
use Rattle.rp_cert.specs.Lines.{line_of}
use Rattle.rp_cert.specs.Section.{slice_shown}
use Rattle.rp_answer.specs.declared.answer.Refusal.{Refusal}
use Rattle.rp_answer.specs.declared.answer.Refusal.TheVariants.{Bad, Unknown, Known, Repeated, Layers, Same, Few, Empty, Limit, Overlaps, EmptySide, EmptyChild, Outside, ChildrenOverlap, Gap, EmptyRegion}
use Rattle.rp_answer.specs.declared.answer.Verdict.{Verdict}
use Rattle.rp_answer.specs.declared.answer.Verdict.TheVariants.{Yes, No, Ok, DC, EC, PO, EQ, TPP, NTPP, TPPi, NTPPi, Pieces, Piece, Parts, Part, Parcel, Nobody, Neighbours, Clear, Parcels, Lots, Lot, Sections, Slice, Access, NoAccess, Level, Refused}
use Rattle.rp_answer.specs.declared.answer.Answer.{Answer}

-- the refusal of the model for a refusal of the code
abbrev pub refusal_of : Refusal → ModelRefusal
refusal_of (Bad why) = bad (fault_of why)
refusal_of (Unknown x) = unknown x
refusal_of (Known x) = known x
refusal_of (Repeated x) = repeated x
refusal_of (Layers x) = layers x
refusal_of Same = same_name
refusal_of Few = too_few
refusal_of Empty = empty
refusal_of Limit = limit
refusal_of (Overlaps x) = overlaps x
refusal_of (EmptySide k) = empty_side k
refusal_of (EmptyChild k) = empty_child k
refusal_of (Outside k) = outside_lot k
refusal_of (ChildrenOverlap m n) = children_overlap m n
refusal_of Gap = gap
refusal_of (EmptyRegion k) = empty_region k

-- the verdict of the model for a verdict of the code
abbrev pub verdict_of : Verdict → ModelVerdict
verdict_of Yes = says_yes
verdict_of No = says_no
verdict_of Ok = says_ok
verdict_of DC = relation Relation.DC
verdict_of EC = relation Relation.EC
verdict_of PO = relation Relation.PO
verdict_of EQ = relation Relation.EQ
verdict_of TPP = relation Relation.TPP
verdict_of NTPP = relation Relation.NTPP
verdict_of TPPi = relation Relation.TPPi
verdict_of NTPPi = relation Relation.NTPPi
verdict_of (Pieces k) = pieces k
verdict_of (Piece ns) = piece ns.items
verdict_of (Parts k) = parts k
verdict_of (Part hs) = part hs.items
verdict_of (Parcel x) = parcel x
verdict_of Nobody = nobody
verdict_of (Neighbours k) = neighbours k
verdict_of (Clear k) = clear k
verdict_of (Parcels k) = parcels k
verdict_of (Lots k) = lots k
verdict_of (Lot l) = lot (entry_of (lot_of l))
verdict_of (Sections k) = sections k
verdict_of (Slice s) = slice (slice_shown s.value)
verdict_of (Access k) = access k
verdict_of NoAccess = no_access
verdict_of (Level k x) = level k x
verdict_of (Refused r) = refused (refusal_of r)

-- the answer of the model for an answer of the code
abbrev pub answer_of : Answer → ModelAnswer
answer_of a = record { number = a.n; echo = a.echo.items; proofs = map line_of a.proofs.items; verdicts = map verdict_of a.verdicts.items }
