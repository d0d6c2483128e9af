use Rattle.std.proofs.Common.{◌++◌, ◌∷◌, [], ℕ, ◌+◌, length, sym, ap, subst, ◌∙◌}
use Rattle.std.proofs.lemmas.List.{length-map}
use Rattle.rp_model.specs.states.State.{kept_under}
use Rattle.rp_store.specs.Kept.{AreNamed}
use Rattle.rp_store.proofs.KeptNames.{kept_last, named_with}
use Rattle.rp_store.proofs.names.NamedForms.keep.Goals as goal

pub invariant_of-self-2 : goal.invariant_of-self-2
invariant_of-self-2 g c =
    let parts = g.F.Forms.parts_of in
    let ks = c.args.self.now in
    let last = kept_last parts c.self.inside.forms.entries c.insert.new.self.entries ks c.args.name c.args.form c.self.view_is c.requires.fresh c.in_ok-insert.ensures.entries in
    let before : AreNamed c.self.inside.parts ks = subst (AreNamed c.self.inside.parts) c.self.view_is c.self.invariant in
    let size = sym (length-map c.parts.result.now g.F.Forms.seen) ∙ ap length c.parts.ensures in
    subst (AreNamed (c.self.inside.parts + length c.parts.result.now)) (sym last)
    (subst (λ (n : ℕ). AreNamed (c.self.inside.parts + n) (ks ++ kept_under c.args.name (parts c.args.form) ∷ [])) (sym size)
    (named_with c.self.inside.parts ks c.args.name (parts c.args.form) before c.requires))

pub returns-clause-ok : goal.returns-clause-ok
returns-clause-ok g c = kept_last g.F.Forms.parts_of c.self.inside.forms.entries c.insert.new.self.entries c.args.self.now c.args.name c.args.form c.self.view_is c.requires.fresh c.in_ok-insert.ensures.entries
