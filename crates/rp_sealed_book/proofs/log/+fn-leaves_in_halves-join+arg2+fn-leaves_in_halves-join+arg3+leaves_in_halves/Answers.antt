use Rattle.std.proofs.Common.{◌≡◌, ◌+◌, ◌/◌, length, arith, map}
use Rattle.std.specs.List.{AllByRecursion}
use Rattle.std.proofs.lemmas.Result.{IfOk-at_ok}
use Rattle.rp_book.specs.Act.{act_of}
use Rattle.rp_seal.specs.Act.{IsEncodable}
use Rattle.rp_seal.specs.Hash.{hashes_of}
use Rattle.rp_sealed_book.specs.Log.{entries_from, leaves_of}
use Rattle.rp_sealed_book.proofs.LogLemmas.{encodable-halves, halved, leaves-halves}
use Rattle.rp_sealed_book.proofs.log.+fn-leaves_in_halves-join+arg2+fn-leaves_in_halves-join+arg3+leaves_in_halves.Goals as goal

pub returns-clause-hashes : goal.returns-clause-hashes
returns-clause-hashes g t c =
    let script = c.args.script.now in
    let front = c.split_at.result.0.now in
    let back = c.split_at.result.1.now in
    let middle = length c.args.acts.now / 2 in
    let next = c.args.first + middle in
    let between = c.start_after-between.result in
    let halves = halved c.args.acts.now front back middle c.args.first c.args.from next between c.split_at.ensures.front c.split_at.ensures.back (omega (arith, c.split_at.ensures.front_len)) c.start_after-between.ensures in
    let one = IfOk-at_ok (λ hashes. hashes_of hashes.items ≡ leaves_of (entries_from script c.args.first c.args.from (map act_of front))) c.in_ok-hashes.was c.join-one.ensures.first.0 in
    let other = IfOk-at_ok (λ hashes. hashes_of hashes.items ≡ leaves_of (entries_from script next between (map act_of back))) c.in_ok-others.was c.join-one.ensures.second.0 in
    leaves-halves script c.args.acts.now front back c.args.first c.args.from next between c.append.new.self.items c.in_ok-hashes.hashes.items c.in_ok-others.others.items halves c.in_ok-append.ensures.items one other

pub returns-clause-encodable : goal.returns-clause-encodable
returns-clause-encodable g t c =
    let script = c.args.script.now in
    let front = c.split_at.result.0.now in
    let back = c.split_at.result.1.now in
    let middle = length c.args.acts.now / 2 in
    let next = c.args.first + middle in
    let between = c.start_after-between.result in
    let halves = halved c.args.acts.now front back middle c.args.first c.args.from next between c.split_at.ensures.front c.split_at.ensures.back (omega (arith, c.split_at.ensures.front_len)) c.start_after-between.ensures in
    let one = IfOk-at_ok (λ _. AllByRecursion IsEncodable (entries_from script c.args.first c.args.from (map act_of front))) c.in_ok-hashes.was c.join-one.ensures.first.1 in
    let other = IfOk-at_ok (λ _. AllByRecursion IsEncodable (entries_from script next between (map act_of back))) c.in_ok-others.was c.join-one.ensures.second.1 in
    encodable-halves script c.args.acts.now front back c.args.first c.args.from next between halves one other
