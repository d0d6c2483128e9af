use Rattle.std.proofs.Common.{◌≡◌, ◌<◌, ◌^◌, ◌++◌, List, length, map}
use Rattle.std.specs.Prelude.{All, flat_map}
use Rattle.rp_seal.specs.Act.{ActEntry, entry_of}
use Rattle.rp_seal_text.specs.ActText.{IsActText, act_text, end_line}
use Rattle.rp_seal_text.proofs.StreamLemmas.{IsLeft}
use Rattle.rp_seal_text.proofs.act_stream.take_acts.Given as goal

abbrev pub invariant-loop-act : goal.invariant-loop-act
invariant-loop-act l = record {
  found : l.text ≡ flat_map act_text (map entry_of l.acts.items) ++ l.rest;
  valid : All IsActText (map entry_of l.acts.items);
  each : (log : List ActEntry) → All IsActText log → length log < 2 ^ 64 → l.text ≡ flat_map act_text log ++ end_line (length log)
      → IsLeft log (map entry_of l.acts.items) l.rest;
}

abbrev pub decreases-loop-act : goal.decreases-loop-act
decreases-loop-act l = length l.rest
