use Rattle.std.proofs.Common.{ℤ, sym, ap, ◌∙◌}
use mir.Syntax.{w32}
use Rattle.rp_algebra.proofs.Machine.{read_is}
use Rattle.rp_geometry.specs.sections.Ring.{is_ring}
use Rattle.rp_geometry.specs.sections.Flat.{first_flat}
use Rattle.rp_slice.proofs.Small.{height_within}
use Rattle.rp_cert.specs.declared.slice.Slice.TheVariants.{Ring, Flat}
use Rattle.rp_section.proofs.Sliced.{ring_value, flat_value, none_value, slice_right, slice_shows, slice_flat}
use Rattle.rp_section.proofs.slices.slice.Goals as goal

pub returns-then-check_slice-clause-value : goal.returns-then-check_slice-clause-value
returns-then-check_slice-clause-value c =
    let z = read_is w32 (height_within c.args.z c.requires.height) tt in
    let e = sym (c.check_slice.ensures.value ∙ ap (λ (v : ℤ). is_ring v c.args.cell.now c.quick_ring.result) z) ∙ c.if-check_slice.true in
    ring_value c.args.z c.args.cell.now c.requires.height c.keep_bounds.ensures c.quick_ring.result e

pub returns-in-Some-clause-value : goal.returns-in-Some-clause-value
returns-in-Some-clause-value c =
    let z = read_is w32 (height_within c.args.z c.requires.height) tt in
    let e = sym (c.first_flat.ensures ∙ ap (λ (v : ℤ). first_flat v c.args.cell.now) z) ∙ c.in-Some.is in
    flat_value c.args.z c.args.cell.now c.requires.height c.keep_bounds.ensures c.in-Some.terms e

pub returns-in-None-clause-value : goal.returns-in-None-clause-value
returns-in-None-clause-value c =
    let z = read_is w32 (height_within c.args.z c.requires.height) tt in
    let e = sym (c.first_flat.ensures ∙ ap (λ (v : ℤ). first_flat v c.args.cell.now) z) ∙ c.in-None.is in
    none_value c.args.z c.args.cell.now c.requires.height c.keep_bounds.ensures c.ring.result
    (λ others r. c.ring.ensures others (rw z r)) e

pub returns-in-Some-clause-right : goal.returns-in-Some-clause-right
returns-in-Some-clause-right c = slice_right c.args.z c.args.cell.now c.requires.height c.keep_bounds.ensures (Flat c.in-Some.terms) (returns-in-Some-clause-value c)

pub returns-in-Some-clause-flat : goal.returns-in-Some-clause-flat
returns-in-Some-clause-flat c = slice_flat c.args.z c.args.cell.now c.requires.height c.keep_bounds.ensures (Flat c.in-Some.terms) (returns-in-Some-clause-value c)

pub returns-in-Some-clause-shows : goal.returns-in-Some-clause-shows
returns-in-Some-clause-shows c = slice_shows c.args.z c.args.cell.now c.requires.height c.keep_bounds.ensures (Flat c.in-Some.terms) (returns-in-Some-clause-value c)

pub returns-in-None-clause-right : goal.returns-in-None-clause-right
returns-in-None-clause-right c = slice_right c.args.z c.args.cell.now c.requires.height c.keep_bounds.ensures (Ring c.ring.result) (returns-in-None-clause-value c)

pub returns-in-None-clause-flat : goal.returns-in-None-clause-flat
returns-in-None-clause-flat c = slice_flat c.args.z c.args.cell.now c.requires.height c.keep_bounds.ensures (Ring c.ring.result) (returns-in-None-clause-value c)

pub returns-in-None-clause-shows : goal.returns-in-None-clause-shows
returns-in-None-clause-shows c = slice_shows c.args.z c.args.cell.now c.requires.height c.keep_bounds.ensures (Ring c.ring.result) (returns-in-None-clause-value c)
