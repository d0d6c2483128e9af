use Rattle.std.proofs.Common.{◌≡◌, ◌+◌, ◌<◌, ◌^◌, ◌++◌, length, map}
use Rattle.std.specs.List.{AllByRecursion}
use Rattle.rp_book.specs.Act.{act_of}
use Rattle.rp_seal.specs.Act.{IsEncodable}
use Rattle.rp_seal.specs.Hash.{hashes_of}
use Rattle.rp_sealed_book.specs.Log.{entries_from, leaves_of}
use Rattle.rp_sealed_book.proofs.log.leaves_in_order.Given as goal

abbrev pub invariant-loop-act : goal.invariant-loop-act
invariant-loop-act l =
    record {
      hashes : hashes_of l.hashes.items ++ leaves_of (entries_from l.script l.number l.start (map act_of l.rest)) ≡ leaves_of (entries_from l.script l.first l.from (map act_of l.acts));
      encodable : AllByRecursion IsEncodable (entries_from l.script l.number l.start (map act_of l.rest)) → AllByRecursion IsEncodable (entries_from l.script l.first l.from (map act_of l.acts));
      numbers : l.number + length l.rest < 2 ^ 32;
    }

abbrev pub decreases-loop-act : goal.decreases-loop-act
decreases-loop-act l = length l.rest
