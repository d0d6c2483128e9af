use Rattle.std.proofs.Common.{rules, ◌≡◌, ◌+◌, ◌∷◌, ap, arith, length, map, refl, subst, ◌∙◌}
use Rattle.rp_book.specs.Act.{act_of}
use Rattle.rp_seal.specs.Act.{IsEncodable, act_bytes}
use Rattle.rp_seal.specs.Merkle.{leaf_hash}
use Rattle.rp_sealed_book.specs.Log.{entries_from, leaves_of}
use Rattle.rp_sealed_book.proofs.LogLemmas.{collect, encodable-next}
use Rattle.rp_sealed_book.proofs.log.leaves_in_order.Goals as goal

pub loop-act-preserved : goal.loop-act-preserved
loop-act-preserved c =
    let entry = c.entry_at.ensures in
    let rest : c.loop-act.rest.now ≡ c.in-Some.act.now ∷ c.in-Some.more.now = search rules in
    let next : c.loop-act.number + 1 ≡ c.loop-act.number + 1 = refl in
    let less = ap length rest in
    record {
      hashes = collect c.args.script.now (leaves_of (entries_from c.args.script.now c.args.first c.args.from (map act_of c.args.acts.now))) c.loop-act.rest.now c.in-Some.more.now c.in-Some.act.now
          c.loop-act.hashes.items c.push.new.self.items c.in_ok-leaf_of.field-0 c.loop-act.number (c.loop-act.number + 1) c.loop-act.start rest next c.in_ok-push.ensures.items
          (c.in_ok-leaf_of.ensures.hash ∙ ap (λ e. leaf_hash (act_bytes e)) entry) c.loop-act.invariant.hashes;
      encodable = encodable-next c.args.script.now c.loop-act.rest.now c.in-Some.more.now c.in-Some.act.now c.loop-act.number (c.loop-act.number + 1) c.loop-act.start _
          rest next (subst IsEncodable entry c.in_ok-leaf_of.ensures.room) c.loop-act.invariant.encodable;
      numbers = omega (arith, less, c.loop-act.invariant.numbers);
    }
