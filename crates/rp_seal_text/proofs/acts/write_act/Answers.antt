use Rattle.std.proofs.Common.{subst, IsUtf8, arith}
use Rattle.rp_seal_text.proofs.acts.write_act.Goals as goal

pub returns-clause-valid : goal.returns-clause-valid
returns-clause-valid c = record {
  encodable = record {
    number = omega arith;
    first = omega arith;
    last = omega arith;
    added = omega (arith, c.as_bytes.ensures.len);
    who = c.write_option.ensures.room;
    deed = c.write_option-2.ensures.room;
    lines = omega arith;
  };
  added = subst IsUtf8 c.as_bytes.ensures.value c.as_bytes.ensures.utf8;
  who = c.write_option.ensures.utf8;
  deed = c.write_option-2.ensures.utf8;
}
