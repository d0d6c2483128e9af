use Rattle.std.proofs.Common.{ℕ, ◌*◌, ◌%◌, ◌^◌, ap}
use Rattle.std.specs.Prelude.{bit_or}
use Rattle.rp_clip.proofs.Crossed.{between_half_spaces, crossed_put}
use Rattle.rp_clip.proofs.cross.cross.Goals as goal

pub first_meeting-requires-clause-places : goal.first_meeting-requires-clause-places
first_meeting-requires-clause-places g c = between_half_spaces c.args.planes.now c.args.h.now c.args.common c.requires.between

pub returns-in-Some : goal.returns-in-Some
returns-in-Some g c =
    crossed_put c.args.planes.now c.args.h.now c.args.common c.args.more.now c.put.new.self c.in-Some.met
    (bit_or c.args.common (1 * 2 ^ c.len.result % 2 ^ 128)) c.put.result c.requires.between c.requires.more c.in-Some.ensures.some
    (ap (λ (n : ℕ). bit_or c.args.common (1 * 2 ^ n % 2 ^ 128)) c.len.ensures.value) c.put.ensures
