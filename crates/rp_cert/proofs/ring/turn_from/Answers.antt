use Rattle.std.proofs.Common.{◌^◌, ◌-ℤ◌, ◌*ℤ◌, ◌∙◌, rules}
use Rattle.std.specs.Int.RustNames.{FitsSigned}
use mir.Syntax.{w32}
use Rattle.rp_algebra.specs.Within.{IsWithin}
use Rattle.rp_algebra.proofs.Machine.{code, fits_by, is_by}
use Rattle.rp_cert.specs.Section.{turn_from}
use Rattle.rp_cert.proofs.Traced.{short_is, short_within}
use Rattle.rp_cert.proofs.ring.turn_from.Goals as goal

pub overflow_mul-result : goal.overflow_mul-result
overflow_mul-result c =
    let small = c.numbers-a.ensures.small in
    let ha : IsWithin (2 ^ 24) c.numbers-a.result.0 = record { abs_le = small.a } in
    let hb : IsWithin (2 ^ 24) c.numbers-a.result.1 = record { abs_le = small.b } in
    let fa : FitsSigned w32 c.edge.inside.a = search rules in
    let ra = short_is c.edge.inside.a fa in
    let wa = short_within c.edge.inside.a fa in
    let fb : FitsSigned w32 c.edge.inside.b = search rules in
    let rb = short_is c.edge.inside.b fb in
    let wb = short_within c.edge.inside.b fb in
    fits_by (search code depth 30 fits 100000) tt

pub overflow_mul-result-2 : goal.overflow_mul-result-2
overflow_mul-result-2 c =
    let small = c.numbers-a.ensures.small in
    let ha : IsWithin (2 ^ 24) c.numbers-a.result.0 = record { abs_le = small.a } in
    let hb : IsWithin (2 ^ 24) c.numbers-a.result.1 = record { abs_le = small.b } in
    let fa : FitsSigned w32 c.edge.inside.a = search rules in
    let ra = short_is c.edge.inside.a fa in
    let wa = short_within c.edge.inside.a fa in
    let fb : FitsSigned w32 c.edge.inside.b = search rules in
    let rb = short_is c.edge.inside.b fb in
    let wb = short_within c.edge.inside.b fb in
    fits_by (search code depth 30 fits 100000) tt

pub overflow_sub-result : goal.overflow_sub-result
overflow_sub-result c =
    let small = c.numbers-a.ensures.small in
    let ha : IsWithin (2 ^ 24) c.numbers-a.result.0 = record { abs_le = small.a } in
    let hb : IsWithin (2 ^ 24) c.numbers-a.result.1 = record { abs_le = small.b } in
    let fa : FitsSigned w32 c.edge.inside.a = search rules in
    let ra = short_is c.edge.inside.a fa in
    let wa = short_within c.edge.inside.a fa in
    let fb : FitsSigned w32 c.edge.inside.b = search rules in
    let rb = short_is c.edge.inside.b fb in
    let wb = short_within c.edge.inside.b fb in
    fits_by (search code depth 30 fits 100000) tt

pub returns : goal.returns
returns c =
    let small = c.numbers-a.ensures.small in
    let ha : IsWithin (2 ^ 24) c.numbers-a.result.0 = record { abs_le = small.a } in
    let hb : IsWithin (2 ^ 24) c.numbers-a.result.1 = record { abs_le = small.b } in
    let fa : FitsSigned w32 c.edge.inside.a = search rules in
    let ra = short_is c.edge.inside.a fa in
    let wa = short_within c.edge.inside.a fa in
    let fb : FitsSigned w32 c.edge.inside.b = search rules in
    let rb = short_is c.edge.inside.b fb in
    let wb = short_within c.edge.inside.b fb in
    is_by (search code depth 30 fits 100000) tt
    ∙ (λ i. ra i *ℤ c.numbers-a.result.1 -ℤ rb i *ℤ c.numbers-a.result.0)
    ∙ (λ i. turn_from (c.edge.view_is i) (c.numbers-a.ensures.numbers i))
