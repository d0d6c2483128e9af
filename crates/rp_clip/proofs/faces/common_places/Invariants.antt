use Rattle.std.proofs.Common.{◌≡◌, ◌-◌, ◌^◌, drop}
use Rattle.rp_clip.specs.Faces.{common_of}
use Rattle.rp_clip.proofs.faces.common_places.Given as goal

-- what is left of the masks, from the places so far, comes to the same
abbrev pub invariant-loop-mask : goal.invariant-loop-mask
invariant-loop-mask l = common_of l.set l.common (drop l.mask-index l.masks) ≡ common_of l.set (2 ^ 128 - 1) l.masks
