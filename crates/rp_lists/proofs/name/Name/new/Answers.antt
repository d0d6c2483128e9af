use Rattle.std.proofs.Common.{◌≡◌, true, sym, ◌∙◌}
use Rattle.rp_language.specs.Name.{is_name}
use Rattle.rp_lists.proofs.Named.{name_inside}
use Rattle.rp_lists.proofs.name.Name.new.Goals as goal

pub invariant_of-result : goal.invariant_of-result
invariant_of-result c =
    let named : is_name c.args.bytes.now ≡ true = sym c.is_name.ensures ∙ c.if-not-is_name.false in
    rw c.copy_from_slice.ensures.after (name_inside c.args.bytes.now named)
