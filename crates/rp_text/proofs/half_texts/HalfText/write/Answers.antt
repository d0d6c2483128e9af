use Rattle.std.proofs.Common.{◌≡◌, ℕ, List, sym, ap, ◌∙◌}
use Rattle.rp_geometry.specs.Geometry.{HalfSpace}
use Rattle.rp_reports.specs.Text.{half_space_text}
use Rattle.rp_text.proofs.FrontLemmas.{writes_same}
use Rattle.rp_text.proofs.HalfTextLemmas.{same_half, kept_text}
use Rattle.rp_text.proofs.half_texts.HalfText.write.Goals as goal

pub returns : goal.returns
returns c =
    let before = c.self.inside in
    let after = c.self-2.inside in
    let text : after.text.items ≡ before.text.items = ap (λ (v : HalfSpace × List ℕ). v.1) (c.self-2.view_is ∙ sym c.self.view_is) in
    let half = same_half before.half c.args.half.now (sym c.ne.ensures ∙ c.if-ne.false) in
    let own = kept_text before.half before.text.items c.self.invariant (sym c.is_empty.ensures ∙ c.if-is_empty.false) in
    writes_same c.append.result c.args.out.now.items c.append.new.out.items _ _ (c.as_slice.ensures.value ∙ text ∙ own ∙ ap half_space_text half) c.append.ensures
