-- Why a table of values by name refuses a value.
use Rattle.std.specs.Prelude.{List, Option, None, Some, length, nat_lt, nat_le, if◌then◌else◌}
use Rattle.std.specs.FinMap as map
use Rattle.ndn_tlv.specs.Element.{Field}
use Rattle.name_trie.specs.ByName.{ByName}
use Rattle.pit_fib.specs.declared.fib.TheConstants.{MAX_DEPTH, MAX_ENTRIES}
use Rattle.pit_fib.specs.declared.fault.TableFault.{TableFault}
use Rattle.pit_fib.specs.declared.fault.TableFault.TheVariants.{TooDeep, TableFull}

-- Why the table refuses a value for a name: the name has more than 32 components, or the name is
-- new and the table has 4,096 names. None means that the table accepts the value.
abbrev pub refusal : {X : Type 0} → ByName X → List Field → Option TableFault
refusal table name =
    if nat_lt MAX_DEPTH (length name) then Some TooDeep else (
    if map.contains_key table name then None else (
    if nat_le MAX_ENTRIES (map.len table) then Some TableFull else
    None))
