use Rattle.std.proofs.Common.{rules}
use Rattle.rp_cert.specs.Section.{slice_shown}
use Rattle.rp_cert.proofs.Shown.{slice_shown_by}
use Rattle.rp_cert.proofs.slice.check_slice.Goals as goal

pub returns-in-Ring-clause-value : goal.returns-in-Ring-clause-value
returns-in-Ring-clause-value c = search rules

pub returns-in-Ring-clause-shows : goal.returns-in-Ring-clause-shows
returns-in-Ring-clause-shows c = slice_shown_by c.args.z c.args.cell.now (slice_shown c.args.s.now) c.is_ring.result c.requires (returns-in-Ring-clause-value c)

pub returns-in-Flat-clause-value : goal.returns-in-Flat-clause-value
returns-in-Flat-clause-value c = search rules

pub returns-in-Flat-clause-shows : goal.returns-in-Flat-clause-shows
returns-in-Flat-clause-shows c = slice_shown_by c.args.z c.args.cell.now (slice_shown c.args.s.now) c.is_flat.result c.requires (returns-in-Flat-clause-value c)
