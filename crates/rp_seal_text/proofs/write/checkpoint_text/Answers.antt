use Rattle.std.proofs.Common.{subst, IsUtf8}
use Rattle.rp_seal_text.proofs.write.checkpoint_text.Goals as goal

pub returns-clause-valid : goal.returns-clause-valid
returns-clause-valid c = record {
  origin = c.args.checkpoint.now.named;
  utf8 = subst IsUtf8 c.as_str.ensures.value c.as_str.utf8;
  size = c.args.checkpoint.now.fits;
  root = c.args.checkpoint.now.root.sized;
  bytes = c.args.checkpoint.now.bytes;
}
