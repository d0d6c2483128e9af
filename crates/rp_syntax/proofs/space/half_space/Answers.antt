use Rattle.std.proofs.Common.{◌∙◌}
use Rattle.rp_geometry.specs.Geometry.{half_space_of}
use Rattle.rp_syntax.proofs.MadeLemmas.{made_within, read_made, read_zero, read_range}
use Rattle.rp_syntax.proofs.space.half_space.Goals as goal

pub returns-in-Ok : goal.returns-in-Ok
returns-in-Ok c = λ place.
    let made = c.new.ensures ∙ made_within c.args.a c.args.b c.args.c c.args.d c.ranges.a c.ranges.b c.ranges.c c.ranges.d c.requires in
    read_made (half_space_of c.args.a c.args.b c.args.c c.args.d) c.in-Ok.half c.new.result place made c.in-Ok.is

pub returns-in-Err-Zero : goal.returns-in-Err-Zero
returns-in-Err-Zero c = λ place.
    let made = c.new.ensures ∙ made_within c.args.a c.args.b c.args.c c.args.d c.ranges.a c.ranges.b c.ranges.c c.ranges.d c.requires in
    read_zero (half_space_of c.args.a c.args.b c.args.c c.args.d) c.new.result c.in-Err-Zero.field-0 place made c.in-Err-Zero.is c.in-Err-Zero.field-0-is

pub returns-in-Err-Range : goal.returns-in-Err-Range
returns-in-Err-Range c = λ place.
    let made = c.new.ensures ∙ made_within c.args.a c.args.b c.args.c c.args.d c.ranges.a c.ranges.b c.ranges.c c.ranges.d c.requires in
    read_range (half_space_of c.args.a c.args.b c.args.c c.args.d) c.new.result c.in-Err-Range.field-0 place made c.in-Err-Range.is c.in-Err-Range.field-0-is
