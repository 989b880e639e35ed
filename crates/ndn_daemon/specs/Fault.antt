-- The message and the exit status of each fault of the program.
use Rattle.std.specs.Prelude.{ℕ, List, ◌++◌, codes, Option, Some, None, string_bytes, if◌then◌else◌}
use Rattle.std.specs.Fmt.{decimal}
use Rattle.std.specs.Net.Text.{socket_text}
use Rattle.key_files.specs.declared.fault.KeyFault.TheVariants.{BadLine as BadKeyLine, BadKey, TwiceNamed, TooMany, Memory as KeyMemory}
use Rattle.info_rules.specs.Names.{fault_name}
use Rattle.info_rules.specs.declared.fault.RulesFaultKind.{RulesFaultKind}
use Rattle.info_rules.specs.declared.fault.RulesFaultKind.TheVariants as kinds
use Rattle.forwarder.specs.declared.node.NodeFault.TheVariants.{BadRepoPrefix, BadCapacity, Memory as NodeMemory}
use Rattle.node_config.specs.Faults.{fault_name as config_fault_name}
use Rattle.node_config.specs.declared.fault.ConfigFaultKind.{ConfigFaultKind}
use Rattle.node_config.specs.declared.fault.ConfigFaultKind.TheVariants as config_kinds
use Rattle.node_core.specs.declared.script.RunFault.{RunFault}
use Rattle.node_core.specs.declared.script.RunFault.TheVariants.{BadLine, Read, Write, Node, Memory}
use Rattle.file_faults.specs.Advice.{cause_of, key_text}
use Rattle.ndn_daemon.specs.Advice.{advice_on_config, advice_on_rules, is_config_memory, is_memory}
use Rattle.ndn_daemon.specs.declared.fault.Fault.{Fault}
use Rattle.ndn_daemon.specs.declared.fault.Fault.TheVariants.{CommandLine, BadValue, NotText, Unread, Config, Rules, Keys, LargeKeys, Script, Unbound, UnboundTcp, UnboundUnix, UnboundWebSocket, Unreceived, Journal}
use Rattle.ndn_daemon.specs.declared.fault.JournalFault.{JournalFault}
use Rattle.ndn_daemon.specs.declared.fault.JournalFault.TheVariants as journal

abbrev pub rules_status : RulesFaultKind → ℕ
rules_status kinds.Memory = 3
rules_status kind = 1

abbrev pub config_status : ConfigFaultKind → ℕ
config_status config_kinds.Memory = 3
config_status kind = 1

-- the exit status: 1 for a fault in a file or in the script, 2 for a wrong command line, 3 if
-- reading, writing, a lock, the port or memory failed
abbrev pub status_of : Fault → ℕ
status_of (CommandLine error) = 2
status_of (BadValue place wanted) = 2
status_of NotText = 2
status_of (Unread file path kind) = 3
status_of (Config fault) = config_status fault.kind
status_of (Rules fault) = rules_status fault.kind
status_of (Keys (BadKeyLine line)) = 1
status_of (Keys (BadKey line)) = 1
status_of (Keys (TwiceNamed line)) = 1
status_of (Keys TooMany) = 1
status_of (Keys KeyMemory) = 3
status_of LargeKeys = 1
status_of (Script (BadLine line)) = 1
status_of (Script Read) = 3
status_of (Script Write) = 3
status_of (Script (Node BadRepoPrefix)) = 2
status_of (Script (Node BadCapacity)) = 2
status_of (Script (Node NodeMemory)) = 3
status_of (Script Memory) = 3
status_of (Unbound endpoint) = 3
status_of (UnboundTcp endpoint) = 3
status_of (UnboundUnix path) = 3
status_of (UnboundWebSocket endpoint) = 3
status_of Unreceived = 3
status_of (Journal journal.Locked) = 3
status_of (Journal (journal.BadLine line)) = 1
status_of (Journal journal.Unwritten) = 3
status_of (Journal journal.LongRules) = 1
status_of (Journal (journal.NotJournalled line)) = 1
status_of (Journal journal.ManyLines) = 1
status_of (Journal journal.Unshortened) = 3

-- the message for a fault of a rule file: the line and the kind of the fault, and then the text
-- that explains the fault; if memory ran out, the message is `error: out of memory`
abbrev pub rules_fault_text : ℕ → RulesFaultKind → List ℕ
rules_fault_text line kind =
    if is_memory kind then codes "error: out of memory\n"
    else codes "rules:" ++ decimal line ++ codes ": " ++ fault_name kind ++ codes "\n  "
    ++ advice_on_rules line kind ++ codes "\n"

-- the message for a fault of a configuration file: as for a rule file
abbrev pub config_fault_text : ℕ → ConfigFaultKind → List ℕ
config_fault_text line kind =
    if is_config_memory kind then codes "error: out of memory\n"
    else codes "config:" ++ decimal line ++ codes ": " ++ config_fault_name kind ++ codes "\n  "
    ++ advice_on_config line kind ++ codes "\n"

abbrev pub run_fault_text : RunFault → List ℕ
run_fault_text (BadLine line) = codes "script:" ++ (decimal line ++ (codes ": bad line\n  "
    ++ codes "a line is up FACE local|far MOMENT, down FACE MOMENT, tick MOMENT, "
    ++ codes "in FACE MOMENT HEX, or rules MOMENT HEX HEX\n"))
run_fault_text Read = codes "error: standard input cannot be read\n"
run_fault_text Write = codes "error: standard output cannot be written\n"
run_fault_text (Node BadRepoPrefix) =
    codes "error: the repository's prefix is empty or begins with /localhost: "
    ++ codes "give a name such as /repo\n"
run_fault_text (Node BadCapacity) =
    codes "error: the cache's capacity is out of range: give a number from 1 to 65536\n"
run_fault_text (Node NodeMemory) = codes "error: out of memory\n"
run_fault_text Memory = codes "error: out of memory\n"

abbrev pub journal_fault_text : JournalFault → List ℕ
journal_fault_text journal.Locked = codes "error: the journal is in use by another program\n"
journal_fault_text (journal.BadLine line) = codes "journal:" ++ (decimal line
    ++ (codes ": bad line\n  "
    ++ codes "a journal is a script; restore a copy, or take off this line and those after it\n"))
journal_fault_text journal.Unwritten =
    codes "error: the journal cannot be written; no packet of the last event was sent\n"
journal_fault_text journal.LongRules =
    codes "journal:0: TooLong\n  the rule file and the key file have more than 9985 octets together\n"
journal_fault_text (journal.NotJournalled line) = codes "journal:" ++ (decimal line
    ++ (codes ": not journalled\n  "
    ++ codes "a node with this --repo does not write this line; give the --repo of the node that wrote it\n"))
journal_fault_text journal.ManyLines =
    codes "journal:0: TooLong\n  a journal of more than 4294967294 lines cannot be shortened\n"
journal_fault_text journal.Unshortened =
    codes "error: the shorter journal cannot be written; the journal restores the same as before\n"

-- The message for standard error. It ends with an LF. If the parser refuses the command line, the
-- parser makes the message, and `text_of` is None.
abbrev pub text_of : Fault → Option (List ℕ)
text_of (CommandLine error) = None
text_of (BadValue place wanted) = Some (
    codes "error: invalid value for " ++ place.now ++ codes ": give " ++ wanted.now ++ codes "\n")
text_of NotText = Some (codes "error: an argument is not UTF-8 text\n")
text_of (Unread file path kind) = Some (codes "error: the " ++ (file.now ++ (codes " "
    ++ (string_bytes path ++ (codes " cannot be read: " ++ (cause_of kind ++ codes "\n"))))))
text_of (Config fault) = Some (config_fault_text fault.line fault.kind)
text_of (Rules fault) = Some (rules_fault_text fault.line fault.kind)
text_of (Keys fault) = Some (key_text fault)
text_of LargeKeys = Some (codes "keys:0: TooLarge\n  at most 8388608 octets are allowed\n")
text_of (Script fault) = Some (run_fault_text fault)
text_of (Unbound endpoint) = Some (codes "error: " ++ socket_text endpoint
    ++ codes " cannot be bound: give an address of this machine and a port that no other program uses\n")
text_of (UnboundTcp endpoint) = Some (codes "error: " ++ (socket_text endpoint
    ++ codes " cannot be bound for TCP: give an address of this machine and a port that no other program uses\n"))
text_of (UnboundUnix path) = Some (codes "error: the Unix socket " ++ (string_bytes path
    ++ codes " cannot be bound: give a path in a folder that you may write, at which there is no file, and no program listens\n"))
text_of (UnboundWebSocket endpoint) = Some (codes "error: " ++ (socket_text endpoint
    ++ codes " cannot be bound for WebSocket: give an address of this machine and a port that no other program uses\n"))
text_of Unreceived = Some (codes "error: nothing can be received from the port\n")
text_of (Journal why) = Some (journal_fault_text why)
