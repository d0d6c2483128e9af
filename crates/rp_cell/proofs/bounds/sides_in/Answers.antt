use Rattle.std.proofs.Common.{◌≡◌, ◌<◌, ◌≤◌, ◌+◌, List, [], ◌∷◌, ◌++◌, length, get_or, drop, map, sym, ap, ◌∙◌, subst, arith, length-append}
use Rattle.rp_algebra.proofs.Listed.{Listed}
use Rattle.rp_geometry.specs.Geometry.{HalfSpace, box_half_spaces}
use Rattle.rp_geometry.specs.parts.PartTest.{side_lines}
use Rattle.rp_geometry.specs.searches.Certificate.{Multiple}
use Rattle.rp_space.specs.Boxes.{integer_box}
use Rattle.rp_cell.specs.Lines.{side_line_of}
use Rattle.rp_cell.proofs.Beyond.{stands, none_beyond, lines_given, lines_told, lines_end}
use Rattle.rp_cell.proofs.bounds.sides_in.Goals as goal
use Rattle.rp_cell.proofs.bounds.sides_in.Goals.{then-not-is_given, else-not-is_given}

pub side_proof-requires-clause-none : goal.side_proof-requires-clause-none
side_proof-requires-clause-none c =
    let sides = c.box_halves.result in
    let i = c.loop-side.side-index in
    let side = get_or sides i c.side-item.result in
    let below : i < length sides = omega (arith, c.loop-side-test.true, c.type_inv.side-items) in
    let b = c.requires in
    none_beyond c.args.cell.now (integer_box c.args.bounds) side b.least.holds_all b.bounds
    (subst (λ (hs : List HalfSpace). Listed side hs) c.box_halves.ensures (stands sides i side below (ap (get_or sides i) c.side-item.is)))

pub loop-side-preserved : goal.loop-side-preserved
loop-side-preserved c =
    let sides = c.box_halves.result in
    let i = c.loop-side.side-index in
    let side = get_or sides i c.side-item.result in
    let below : i < length sides = omega (arith, c.loop-side-test.true, c.type_inv.side-items) in
    let is = ap (get_or sides i) c.side-item.is in
    let proofs = c.loop-side.proofs in
    let rest = side_lines c.args.cell.now (drop (i + 1) sides) in
    let all = side_lines c.args.cell.now sides in
    let room = c.loop-side.invariant.room in
    elim c.if-not-is_given.branch [
      | then-not-is_given w ↦
          let terms = w.side_proof.result in
          let more = w.proofs-is ∙ w.push.ensures in
          let longer = ap length more in
          record {
            lines = ap (λ (ps : List (List Multiple)). map side_line_of ps ++ rest) more
                ∙ lines_told c.args.cell.now sides i side proofs terms all below is (sym c.is_given.ensures ∙ w.if-not-is_given.true) w.side_proof.ensures c.loop-side.invariant.lines;
            room = omega (arith, room, longer, length-append proofs (terms ∷ []));
          }
      | else-not-is_given w ↦
          let same = ap length w.proofs-is in
          record {
            lines = ap (λ (ps : List (List Multiple)). map side_line_of ps ++ rest) w.proofs-is
                ∙ lines_given c.args.cell.now sides i side (map side_line_of proofs) all below is (sym c.is_given.ensures ∙ w.if-not-is_given.false) c.loop-side.invariant.lines;
            room = omega (arith, room, same);
          }
    ]

pub returns-clause-lines : goal.returns-clause-lines
returns-clause-lines c =
    let sides = c.box_halves.result in
    let six : length sides ≡ 6 = ap length c.box_halves.ensures in
    let over : length sides ≤ c.loop-side.side-index = omega (arith, c.loop-side-test.false, six) in
    lines_end c.args.cell.now sides c.loop-side.side-index (map side_line_of c.loop-side.proofs) (side_lines c.args.cell.now sides) over c.loop-side.invariant.lines
    ∙ ap (side_lines c.args.cell.now) (c.box_halves.ensures ∙ ap box_half_spaces c.requires.value)
