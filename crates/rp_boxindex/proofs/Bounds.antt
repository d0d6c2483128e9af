-- The arithmetic of the bound on steps: k, l and m are numbers of boxes that meet, o is 1 if the node's own box meets and else 0; h, g, f and t are heights.
use Rattle.std.proofs.Common.{ℕ, ◌+◌, ◌*◌, ◌≤◌, arith}
use Rattle.std.proofs.Math.Nat.{mul-le-mul}
use Rattle.rp_algebra.proofs.Numbers.{at_most_itself}
use Rattle.rp_boxindex.specs.tree.Cost.{most_steps, most_steps_low}

-- a step, two of the walk if the node's box meets, and then one side
pub one_side : (d k l o h g : ℕ) → d ≤ most_steps l g → l + o ≤ k → g + 1 ≤ h → d + 1 + 2 * o ≤ most_steps k h
one_side d k l o h g le lok gh =
    let lk : l ≤ k = omega arith in
    let under : g ≤ h = omega arith in
    let m : l * g ≤ k * h = mul-le-mul lk under in
    omega arith

pub one_side_low : (d k l o h g : ℕ) → d ≤ most_steps_low l g → l + o ≤ k → 1 ≤ k → g + 1 ≤ h → d + 1 + 2 * o ≤ most_steps_low k h
one_side_low d k l o h g le lok some gh =
    let lk : l ≤ k = omega arith in
    let same : k ≤ k = omega arith in
    let m : l * g ≤ k * g = mul-le-mul lk (at_most_itself g) in
    let n : k * (g + 1) ≤ k * h = mul-le-mul same gh in
    omega arith

-- a step, two of the walk if the node's box meets, and then both sides, of which the left one is low
pub two_sides : (d e k l o m h g f t : ℕ) → d ≤ most_steps_low l g → e ≤ most_steps m f → l + (o + m) ≤ k → g ≤ t → f ≤ t → t + 1 ≤ h → d + e + 1 + 2 * o ≤ most_steps k h
two_sides d e k l o m h g f t left right lomk gt ft th =
    let lmk : l + m ≤ k = omega arith in
    let a : l * g ≤ l * t = mul-le-mul (at_most_itself l) gt in
    let b : m * f ≤ m * t = mul-le-mul (at_most_itself m) ft in
    let c : (l + m) * t ≤ k * t = mul-le-mul lmk (at_most_itself t) in
    let n : k * (t + 1) ≤ k * h = mul-le-mul (at_most_itself k) th in
    omega arith

pub two_sides_low : (d e k l o m h g f t : ℕ) → d ≤ most_steps_low l g → e ≤ most_steps_low m f → l + (o + m) ≤ k → 1 ≤ k → g ≤ t → f ≤ t → t + 1 ≤ h → d + e + 1 + 2 * o ≤ most_steps_low k h
two_sides_low d e k l o m h g f t left right lomk some gt ft th =
    let lmk : l + m ≤ k = omega arith in
    let a : l * g ≤ l * t = mul-le-mul (at_most_itself l) gt in
    let b : m * f ≤ m * t = mul-le-mul (at_most_itself m) ft in
    let c : (l + m) * t ≤ k * t = mul-le-mul lmk (at_most_itself t) in
    let n : k * (t + 1) ≤ k * h = mul-le-mul (at_most_itself k) th in
    omega arith

-- the bound in the words of the contract
pub within_bound : (d k h e : ℕ) → d ≤ most_steps k h → h ≤ e → d ≤ (k + 1) * (2 * e + 2)
within_bound d k h e le he =
    let m : k * h ≤ k * e = mul-le-mul (at_most_itself k) he in
    omega arith
