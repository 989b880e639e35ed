-- The faults of a cutter for the faults of the names and of the Data that it writes.
use Rattle.ndn_names.specs.declared.fault.NameFault.{NameFault}
use Rattle.ndn_names.specs.declared.fault.NameFault.TheVariants as name
use Rattle.ndn_packets.specs.declared.fault.WriteFault.{WriteFault}
use Rattle.ndn_packets.specs.declared.fault.WriteFault.TheVariants as write
use Rattle.ndn_segments.specs.declared.cutter.CutFault.{CutFault}
use Rattle.ndn_segments.specs.declared.cutter.CutFault.TheVariants.{TooLong, Memory}

abbrev pub of_name : NameFault → CutFault
of_name name.TooManyComponents = TooLong
of_name name.BadComponent = Memory
of_name name.BadDigestLength = Memory
of_name name.BadUri = Memory
of_name name.Memory = Memory

abbrev pub of_write : WriteFault → CutFault
of_write write.TooLong = TooLong
of_write write.BadName = Memory
of_write write.Memory = Memory
