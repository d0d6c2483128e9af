use Rattle.std.proofs.Common.{◌++◌, length, map}
use Rattle.std.specs.Prelude.{All, flat_map}
use Rattle.rp_book.specs.Act.{act_of}
use Rattle.rp_seal_text.specs.ActText.{IsActText, act_text}
use Rattle.rp_sealed_book.specs.Log.{entries_from}
use Rattle.rp_sealed_book.proofs.StreamLemmas.{AreWritten}
use Rattle.rp_sealed_book.proofs.stream.write_acts.Given as goal

abbrev pub invariant-loop-act : goal.invariant-loop-act
invariant-loop-act l =
    record {
      text : AreWritten (l.fn.text.items ++ flat_map act_text (entries_from l.script l.fn.number l.fn.start (map act_of l.acts))) l.script l.text.items l.number l.start l.rest;
      valid : All IsActText (entries_from l.script l.number l.start (map act_of l.rest)) → All IsActText (entries_from l.script l.fn.number l.fn.start (map act_of l.acts));
    }

abbrev pub decreases-loop-act : goal.decreases-loop-act
decreases-loop-act l = length l.rest
