use Rattle.std.proofs.Common.{true, false, sym, ap, ◌∙◌}
use Rattle.rp_changes.proofs.Defined.{there_as_found, known_name, no_room, new_name}
use Rattle.rp_changes.proofs.joining.define.Goals as goal

pub returns-then-is_some : goal.returns-then-is_some
returns-then-is_some g c w =
    let s = g.K.Keeper.state c.args.keeper.now in
    let found = c.form_named.ensures ∙ ap (λ m. m.of_name c.args.name) c.keep_meaning.ensures in
    let there = there_as_found g.T.Oracle.parts_of c.args.name s.names c.form_named.result true found (sym c.if-is_some.ensures) in
    known_name s c.args.name (g.T.Oracle.parts_of c.args.form) there w

pub returns-then-not-have_room_for_name : goal.returns-then-not-have_room_for_name
returns-then-not-have_room_for_name g c w =
    let s = g.K.Keeper.state c.args.keeper.now in
    let found = c.form_named.ensures ∙ ap (λ m. m.of_name c.args.name) c.keep_meaning.ensures in
    let new = there_as_found g.T.Oracle.parts_of c.args.name s.names c.form_named.result false found (sym c.if-is_some.ensures) in
    no_room s c.args.name (g.T.Oracle.parts_of c.args.form) new (sym c.if-not-have_room_for_name.ensures) w

pub returns : goal.returns
returns g c w =
    let s = g.K.Keeper.state c.args.keeper.now in
    let found = c.form_named.ensures ∙ ap (λ m. m.of_name c.args.name) c.keep_meaning.ensures in
    let new = there_as_found g.T.Oracle.parts_of c.args.name s.names c.form_named.result false found (sym c.if-is_some.ensures) in
    new_name s c.args.name (g.T.Oracle.parts_of c.args.form) new (sym c.if-not-have_room_for_name.ensures) w
