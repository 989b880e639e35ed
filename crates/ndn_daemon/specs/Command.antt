-- The requests of the subcommands, and the results for the errors of the command line parser.
use Rattle.std.specs.Prelude.{◌≡◌, ◌≢◌, ◌≤◌, ℕ, List, [], Result, Ok, Err, String, codes, length, string_bytes, ⊤}
use Rattle.clap.specs.Walk.{Row}
use Rattle.clap.specs.declared.error.Error.{Error}
use Rattle.clap.specs.declared.error.kind.ErrorKind.{ErrorKind}
use Rattle.clap.specs.declared.error.kind.ErrorKind.TheVariants.{DisplayHelp, DisplayVersion, OutOfMemory}
use Rattle.node_core.specs.declared.script.RunFault.TheVariants.{Memory}
use Rattle.pit_fib.specs.declared.face_set.TheConstants.{MAX_FACES}
use Rattle.ndn_daemon.specs.declared.command.Request.{Request}
use Rattle.ndn_daemon.specs.declared.command.Request.TheVariants.{Check, Help, Run, Shorten, Udp, Script as RunScript}
use Rattle.ndn_daemon.specs.declared.fault.Fault.{Fault}
use Rattle.ndn_daemon.specs.declared.fault.Fault.TheVariants.{BadValue, CommandLine, Script}
use Rattle.ndn_daemon.specs.Options.{IsOptions, IsShorteningOptions, given_or, value_at}
use Rattle.ndn_daemon.specs.UdpOptions.{IsUdpOptions}

-- the result for an error of the parser; the error means that help or the version was asked for,
-- that memory ran out, or that the command line is wrong
abbrev pub reading_of : ErrorKind → Error → Result Request Fault
reading_of DisplayHelp error = Ok (Help error)
reading_of DisplayVersion error = Ok (Help error)
reading_of OutOfMemory error = Err (Script Memory)
reading_of kind error = Err (CommandLine error)

-- the path is that of the configuration file; the parser refuses a command line without this path,
-- so the default `[]` is never used
abbrev pub IsPathOf : {Z : Type 0} → List Row → String Z → Type 0
IsPathOf rows path = string_bytes path ≡ given_or [] (value_at rows (codes "CONFIG"))

-- The request of the subcommand `name` with these options: `Udp` for `udp`, `Run` for `run`, `Check`
-- for `check`, `Shorten` for `journal`, and `RunScript` for any other name. `Help` is not the request of any subcommand.
abbrev pub IsRequest : List ℕ → List Row → Request → Type 0
IsRequest name rows (Help error) = ⊥
IsRequest name rows (RunScript node) =
    (name ≢ codes "udp") × (name ≢ codes "journal") × (name ≢ codes "run") × (name ≢ codes "check")
    × IsOptions rows node
IsRequest name rows (Udp node options) =
    (name ≡ codes "udp") × IsOptions rows node × IsUdpOptions rows options
IsRequest name rows (Run path) = (name ≡ codes "run") × IsPathOf rows path
IsRequest name rows (Check path) = (name ≡ codes "check") × IsPathOf rows path
IsRequest name rows (Shorten options) =
    (name ≡ codes "journal") × IsShorteningOptions rows options

-- the request asks for the help or the version, or it is the request of some subcommand with some
-- options
abbrev pub IsAsked : Request → Type 0
IsAsked (Help error) = ⊤
IsAsked (RunScript node) =
    (name : List ℕ) × (rows : List Row) × IsRequest name rows (RunScript node)
IsAsked (Udp node options) =
    (name : List ℕ) × (rows : List Row) × IsRequest name rows (Udp node options)
IsAsked (Run path) =
    (name : List ℕ) × (rows : List Row) × IsRequest name rows (Run path)
IsAsked (Check path) =
    (name : List ℕ) × (rows : List Row) × IsRequest name rows (Check path)
IsAsked (Shorten options) =
    (name : List ℕ) × (rows : List Row) × IsRequest name rows (Shorten options)

-- the fault of reading a command line: the command line is wrong, or a value of an option or of the
-- argument `PEERS` is not allowed, or memory ran out
abbrev pub IsFaultOfWords : Fault → Type 0
IsFaultOfWords (CommandLine error) = ⊤
IsFaultOfWords (BadValue place wanted) = ⊤
IsFaultOfWords (Script Memory) = ⊤
IsFaultOfWords why = ⊥

-- if the request is for a node on a port, this node has at most 64 peers
abbrev pub HasFewPeers : Request → Type 0
HasFewPeers (Help error) = ⊤
HasFewPeers (RunScript node) = ⊤
HasFewPeers (Run path) = ⊤
HasFewPeers (Check path) = ⊤
HasFewPeers (Shorten options) = ⊤
HasFewPeers (Udp node options) = length options.peers.items ≤ MAX_FACES
