use Rattle.std.proofs.Common.{◌∙◌, pos, negsuc, [], ◌∷◌}
use Rattle.rp_geometry.specs.Geometry.{half_space_of}
use Rattle.rp_space.specs.Boxes.{integer_box}
use Rattle.rp_space.proofs.Sides.{box_is_small, lower_fits, lower_number, upper_fits, upper_number, lower_x, lower_y, lower_z, upper_x, upper_y, upper_z}
use Rattle.rp_space.proofs.bounds.box_halves.Goals as goal

pub overflow_cast-x1 : goal.overflow_cast-x1
overflow_cast-x1 c = upper_fits (integer_box c.args.b.now).x1 (box_is_small (integer_box c.args.b.now) c.requires).x1

pub overflow_sub-x1 : goal.overflow_sub-x1
overflow_sub-x1 c = lower_fits (integer_box c.args.b.now).x1 (box_is_small (integer_box c.args.b.now) c.requires).x1

pub overflow_cast-x2 : goal.overflow_cast-x2
overflow_cast-x2 c = upper_fits (integer_box c.args.b.now).x2 (box_is_small (integer_box c.args.b.now) c.requires).x2

pub overflow_cast-y1 : goal.overflow_cast-y1
overflow_cast-y1 c = upper_fits (integer_box c.args.b.now).y1 (box_is_small (integer_box c.args.b.now) c.requires).y1

pub overflow_sub-y1 : goal.overflow_sub-y1
overflow_sub-y1 c = lower_fits (integer_box c.args.b.now).y1 (box_is_small (integer_box c.args.b.now) c.requires).y1

pub overflow_cast-y2 : goal.overflow_cast-y2
overflow_cast-y2 c = upper_fits (integer_box c.args.b.now).y2 (box_is_small (integer_box c.args.b.now) c.requires).y2

pub overflow_cast-z1 : goal.overflow_cast-z1
overflow_cast-z1 c = upper_fits (integer_box c.args.b.now).z1 (box_is_small (integer_box c.args.b.now) c.requires).z1

pub overflow_sub-z1 : goal.overflow_sub-z1
overflow_sub-z1 c = lower_fits (integer_box c.args.b.now).z1 (box_is_small (integer_box c.args.b.now) c.requires).z1

pub overflow_cast-z2 : goal.overflow_cast-z2
overflow_cast-z2 c = upper_fits (integer_box c.args.b.now).z2 (box_is_small (integer_box c.args.b.now) c.requires).z2

pub of_side-requires : goal.of_side-requires
of_side-requires c = lower_x (integer_box c.args.b.now).x1 (box_is_small (integer_box c.args.b.now) c.requires).x1

pub of_side-requires-2 : goal.of_side-requires-2
of_side-requires-2 c = upper_x (integer_box c.args.b.now).x2 (box_is_small (integer_box c.args.b.now) c.requires).x2

pub of_side-requires-3 : goal.of_side-requires-3
of_side-requires-3 c = lower_y (integer_box c.args.b.now).y1 (box_is_small (integer_box c.args.b.now) c.requires).y1

pub of_side-requires-4 : goal.of_side-requires-4
of_side-requires-4 c = upper_y (integer_box c.args.b.now).y2 (box_is_small (integer_box c.args.b.now) c.requires).y2

pub of_side-requires-5 : goal.of_side-requires-5
of_side-requires-5 c = lower_z (integer_box c.args.b.now).z1 (box_is_small (integer_box c.args.b.now) c.requires).z1

pub of_side-requires-6 : goal.of_side-requires-6
of_side-requires-6 c = upper_z (integer_box c.args.b.now).z2 (box_is_small (integer_box c.args.b.now) c.requires).z2

pub returns : goal.returns
returns c =
    let b = integer_box c.args.b.now in
    let small = box_is_small b c.requires in
    let x1 = c.of_side.ensures ∙ (λ i. half_space_of (pos 1) (pos 0) (pos 0) (lower_number b.x1 small.x1 i)) in
    let x2 = c.of_side-2.ensures ∙ (λ i. half_space_of (negsuc 0) (pos 0) (pos 0) (upper_number b.x2 small.x2 i)) in
    let y1 = c.of_side-3.ensures ∙ (λ i. half_space_of (pos 0) (pos 1) (pos 0) (lower_number b.y1 small.y1 i)) in
    let y2 = c.of_side-4.ensures ∙ (λ i. half_space_of (pos 0) (negsuc 0) (pos 0) (upper_number b.y2 small.y2 i)) in
    let z1 = c.of_side-5.ensures ∙ (λ i. half_space_of (pos 0) (pos 0) (pos 1) (lower_number b.z1 small.z1 i)) in
    let z2 = c.of_side-6.ensures ∙ (λ i. half_space_of (pos 0) (pos 0) (negsuc 0) (upper_number b.z2 small.z2 i)) in
    λ i. x1 i ∷ x2 i ∷ y1 i ∷ y2 i ∷ z1 i ∷ z2 i ∷ []
