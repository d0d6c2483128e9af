-- Faults of operations, as faults of the register.
use Rattle.rp_region.specs.declared.fault.OpFault.{OpFault}
use Rattle.rp_region.specs.declared.fault.OpFault.TheVariants.{Limit as OpLimit, Memory as OpMemory}
use Rattle.rp_parcels.specs.declared.fault.ParcelFault.{ParcelFault}
use Rattle.rp_parcels.specs.declared.fault.ParcelFault.TheVariants.{Limit, Memory}

-- a fault of an operation, as one of the register
abbrev pub fault_of_parcels : OpFault → ParcelFault
fault_of_parcels OpLimit = Limit
fault_of_parcels (OpMemory e) = Memory e
