use Rattle.std.proofs.Common.{ℤ, Some, sym, ap, ◌∙◌}
use mir.Syntax.{w32}
use Rattle.rp_algebra.proofs.Machine.{read_is}
use Rattle.rp_slice.proofs.Small.{height_within}
use Rattle.rp_cert.specs.Section.{cancels_at}
use Rattle.rp_section.proofs.Flats.{flat_given, flat_none}
use Rattle.rp_section.proofs.flat.positive_flat.Goals as goal

pub returns-then-not-cancels_at : goal.returns-then-not-cancels_at
returns-then-not-cancels_at c =
    let z = read_is w32 (height_within c.args.z c.requires.height) tt in
    sym (flat_none c.args.z c.args.terms.now c.requires.some c.requires.multipliers (sym (c.cancels_at.ensures ∙ ap (λ (v : ℤ). cancels_at v c.args.terms.now) z) ∙ c.if-not-cancels_at.true))

pub returns : goal.returns
returns c =
    let z = read_is w32 (height_within c.args.z c.requires.height) tt in
    ap Some c.lowest_terms.ensures
    ∙ sym (flat_given c.args.z c.args.terms.now c.requires.some c.requires.multipliers (sym (c.cancels_at.ensures ∙ ap (λ (v : ℤ). cancels_at v c.args.terms.now) z) ∙ c.if-not-cancels_at.false))
