use Rattle.std.proofs.Common.{◌≡◌, ℕ, List, [], ◌++◌, ap, ap₂, sym, ◌∙◌, append_assoc, append-nil}
use Rattle.rp_geometry.specs.Geometry.{IntegerBox}
use Rattle.rp_lotindex.specs.Near.{places_by}
use Rattle.rp_lotindex.proofs.near.met_turned.Goals as goal

-- three lists, put behind one another
joined : (met : IntegerBox → List ℕ) (x y z : IntegerBox) (xs ys zs two all : List ℕ) → xs ≡ met x → ys ≡ met y → zs ≡ met z → two ≡ xs ++ ys → all ≡ two ++ zs → all ≡ met x ++ (met y ++ (met z ++ []))
joined met x y z xs ys zs two all first second third more last =
    last ∙ ap₂ (λ (ks js : List ℕ). ks ++ js) (more ∙ ap₂ (λ (ks js : List ℕ). ks ++ js) first second) third
    ∙ append_assoc (met x) (met y) (met z)
    ∙ ap (λ (ks : List ℕ). met x ++ (met y ++ ks)) (sym (append-nil (met z)))

pub returns : goal.returns
returns g c =
    let met : IntegerBox → List ℕ = λ b. places_by c.args.reach c.args.from c.args.index.now b in
    joined met _ _ _ c.in_ok-places.places.items c.in_ok-beside.beside.items c.in_ok-above.above.items c.append.new.self.items c.append-2.new.self.items
    (c.in_ok-places.ensures ∙ ap met c.moved_in-x.ensures) (c.in_ok-beside.ensures ∙ ap met c.moved_in-y.ensures) (c.in_ok-above.ensures ∙ ap met c.moved_in-z.ensures)
    c.in_ok-append.ensures.items c.in_ok-append-2.ensures.items
