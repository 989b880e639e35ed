-- The message and the exit status of each fault of a job.
use Rattle.std.specs.Prelude.{ℕ, List, ◌++◌, codes, Option, Some, None}
use Rattle.ndn_packets.specs.declared.fault.WriteFault.{WriteFault}
use Rattle.ndn_packets.specs.declared.fault.WriteFault.TheVariants.{BadName, TooLong, Memory as WriteMemory}
use Rattle.ndn_packets.specs.FaultName.{packet_name}
use Rattle.ndn_jobs.specs.declared.fault.Usage.{Usage}
use Rattle.ndn_jobs.specs.declared.fault.Usage.TheVariants.{CommandLine, BadValue}
use Rattle.ndn_jobs.specs.declared.fault.ToolFault.{ToolFault}
use Rattle.ndn_jobs.specs.declared.fault.ToolFault.TheVariants as tool

-- the fault if a packet cannot be written, because the packet has a bad name, the packet is too
-- long, or memory ran out
abbrev pub fault_of_write : WriteFault → ToolFault
fault_of_write BadName = tool.Write BadName
fault_of_write TooLong = tool.Write TooLong
fault_of_write WriteMemory = tool.Memory

-- the exit status: 2 for a wrong command line or a wrong standard input, 3 if memory ran out, and
-- otherwise 1
abbrev pub tool_status : ToolFault → ℕ
tool_status (tool.Usage usage) = 2
tool_status tool.NoKey = 1
tool_status (tool.Write BadName) = 1
tool_status (tool.Write TooLong) = 1
tool_status (tool.Write WriteMemory) = 3
tool_status (tool.Packet why) = 1
tool_status tool.Memory = 3

abbrev pub out_of_memory : List ℕ
out_of_memory = codes "error: out of memory\n"

-- the message for a bad value; None for any other wrong command line, since the command-line parser
-- writes the message for this fault
abbrev pub usage_text : Usage → Option (List ℕ)
usage_text (CommandLine error) = None
usage_text (BadValue place wanted) =
    Some (codes "error: invalid value for " ++ place.now
    ++ codes ": give " ++ wanted.now ++ codes "\n")

abbrev pub tool_text : ToolFault → Option (List ℕ)
tool_text (tool.Usage usage) = usage_text usage
tool_text tool.NoKey = Some (codes "key not found\n")
tool_text (tool.Write WriteMemory) = Some out_of_memory
tool_text (tool.Write BadName) = Some (codes "BadName\n")
tool_text (tool.Write TooLong) = Some (codes "TooLong\n")
tool_text (tool.Packet why) = Some (packet_name why ++ codes "\n")
tool_text tool.Memory = Some out_of_memory
