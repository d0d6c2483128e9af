-- The reasons why a box is not added to an index.
use Rattle.std.specs.Prelude.{Bool, true, false}
use Rattle.rp_boxindex.specs.declared.fault.IndexFault.{IndexFault}
use Rattle.rp_boxindex.specs.declared.fault.IndexFault.TheVariants.{Known, Memory}

-- the fault is that the id already has a box
abbrev pub is_known : IndexFault → Bool
is_known Known = true
is_known (Memory e) = false
