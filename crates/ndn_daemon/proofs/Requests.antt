-- The properties of a request that was read from a command line, and of the fault if no request was
-- read.
use Rattle.std.proofs.Common.{◌≡◌, ℕ, List, Bool, true, Result, Ok, Err, IfOk, IfErr, String, Global, codes, eqb, get_or, ap, sym, ◌∙◌, arith}
use Rattle.std.specs.Cmp.Lexicographic.{pointwise}
use Rattle.std.proofs.lemmas.Slice.Eq.{slice_eq-Decides}
use Rattle.std.proofs.lemmas.Bool.Decides.{Decides-eqb}
use Rattle.clap.specs.Walk.{Row}
use Rattle.ndn_daemon.specs.declared.command.Request.{Request}
use Rattle.ndn_daemon.specs.declared.command.Request.TheVariants.{Check, Help, Run, Script, Shorten, Udp}
use Rattle.ndn_daemon.specs.declared.fault.Fault.{Fault}
use Rattle.ndn_daemon.specs.declared.fault.Fault.TheVariants as fault
use Rattle.node_core.specs.declared.script.RunFault.TheVariants as run
use Rattle.ndn_daemon.specs.declared.options.ShorteningOptions.{ShorteningOptions}
use Rattle.ndn_daemon.specs.declared.udp_options.UdpOptions.{UdpOptions}
use Rattle.ndn_daemon.specs.Options.{IsRefused, IsShorteningOptions, ReadsInMemory}
use Rattle.ndn_daemon.specs.UdpOptions.{IsUdpOptions}
use Rattle.ndn_daemon.specs.Command.{IsAsked, IsFaultOfWords, IsPathOf, IsRequest, HasFewPeers}
use Rattle.ndn_daemon.proofs.Peers.{few_endpoints}

pub few_peers : (name : List ℕ) (rows : List Row) (r : Result Request Fault) → ReadsInMemory (IsRequest name rows) r → IfOk r HasFewPeers
few_peers name rows (Ok (Help error)) h = absurd h
few_peers name rows (Ok (Script node)) h = tt
few_peers name rows (Ok (Udp node options)) h = few_endpoints _ options.peers.items h.2.peers
few_peers name rows (Ok (Run path)) h = tt
few_peers name rows (Ok (Check path)) h = tt
few_peers name rows (Ok (Shorten options)) h = tt
few_peers name rows (Err fault) h = tt

pub asked : (name : List ℕ) (rows : List Row) (r : Result Request Fault) → ReadsInMemory (IsRequest name rows) r → IfOk r IsAsked
asked name rows (Ok (Help error)) h = absurd h
asked name rows (Ok (Script node)) h = (name, rows, h)
asked name rows (Ok (Udp node options)) h = (name, rows, h)
asked name rows (Ok (Run path)) h = (name, rows, h)
asked name rows (Ok (Check path)) h = (name, rows, h)
asked name rows (Ok (Shorten options)) h = (name, rows, h)
asked name rows (Err fault) h = tt

refused_words : (name : List ℕ) (rows : List Row) (why : Fault) → IsRefused (IsRequest name rows) why → IsFaultOfWords why
refused_words name rows (fault.CommandLine error) h = tt
refused_words name rows (fault.BadValue place wanted) h = tt
refused_words name rows fault.NotText h = absurd h
refused_words name rows (fault.Unread file path kind) h = absurd h
refused_words name rows (fault.Config why) h = absurd h
refused_words name rows (fault.Rules why) h = absurd h
refused_words name rows (fault.Keys why) h = absurd h
refused_words name rows fault.LargeKeys h = absurd h
refused_words name rows (fault.Script (run.BadLine line)) h = absurd h
refused_words name rows (fault.Script run.Read) h = absurd h
refused_words name rows (fault.Script run.Write) h = absurd h
refused_words name rows (fault.Script (run.Node why)) h = absurd h
refused_words name rows (fault.Script run.Memory) h = tt
refused_words name rows (fault.Unbound endpoint) h = absurd h
refused_words name rows (fault.UnboundTcp endpoint) h = absurd h
refused_words name rows (fault.UnboundUnix path) h = absurd h
refused_words name rows (fault.UnboundWebSocket endpoint) h = absurd h
refused_words name rows fault.Unreceived h = absurd h
refused_words name rows (fault.Journal why) h = absurd h

pub fault_of_words : (name : List ℕ) (rows : List Row) (r : Result Request Fault) → ReadsInMemory (IsRequest name rows) r → IfErr r IsFaultOfWords
fault_of_words name rows (Ok request) h = tt
fault_of_words name rows (Err why) h = refused_words name rows why h

-- if the comparison octet by octet finds `word` and `other` equal, then they are the same word
pub is_word : (word other : List ℕ) (same : Bool) → same ≡ pointwise eqb word other → same ≡ true → word ≡ other
is_word word other same h found = (slice_eq-Decides Decides-eqb word other same h).0 found

-- the words of two subcommands begin with the same letter if one name is both
differ : (name a b : List ℕ) → name ≡ a → name ≡ b → get_or a 0 0 ≡ get_or b 0 0
differ name a b first second = ap (λ (word : List ℕ). get_or word 0 0) (sym first ∙ second)

-- if `rows` spell a request of a subcommand, then `rows` spell what the request has

pub udp_part : (name : List ℕ) (rows : List Row) → name ≡ codes "udp"
    → (r : Request) → IsRequest name rows r → (options : UdpOptions) × IsUdpOptions rows options
udp_part name rows is (Help error) h = absurd h
udp_part name rows is (Script node) h = absurd (h.0 is)
udp_part name rows is (Udp node options) h = (options, h.2)
udp_part name rows is (Run path) h = absurd (omega (arith, differ name (codes "udp") (codes "run") is h.0))
udp_part name rows is (Check path) h = absurd (omega (arith, differ name (codes "udp") (codes "check") is h.0))
udp_part name rows is (Shorten options) h = absurd (omega (arith, differ name (codes "udp") (codes "journal") is h.0))

pub run_part : (name : List ℕ) (rows : List Row) → name ≡ codes "run"
    → (r : Request) → IsRequest name rows r → (path : String Global) × IsPathOf rows path
run_part name rows is (Help error) h = absurd h
run_part name rows is (Script node) h = absurd (h.2 is)
run_part name rows is (Udp node options) h = absurd (omega (arith, differ name (codes "run") (codes "udp") is h.0))
run_part name rows is (Run path) h = (path, h.1)
run_part name rows is (Check path) h = absurd (omega (arith, differ name (codes "run") (codes "check") is h.0))
run_part name rows is (Shorten options) h = absurd (omega (arith, differ name (codes "run") (codes "journal") is h.0))

pub check_part : (name : List ℕ) (rows : List Row) → name ≡ codes "check"
    → (r : Request) → IsRequest name rows r → (path : String Global) × IsPathOf rows path
check_part name rows is (Help error) h = absurd h
check_part name rows is (Script node) h = absurd (h.3 is)
check_part name rows is (Udp node options) h = absurd (omega (arith, differ name (codes "check") (codes "udp") is h.0))
check_part name rows is (Run path) h = absurd (omega (arith, differ name (codes "check") (codes "run") is h.0))
check_part name rows is (Check path) h = (path, h.1)
check_part name rows is (Shorten options) h = absurd (omega (arith, differ name (codes "check") (codes "journal") is h.0))

pub shorten_part : (name : List ℕ) (rows : List Row) → name ≡ codes "journal"
    → (r : Request) → IsRequest name rows r → (options : ShorteningOptions) × IsShorteningOptions rows options
shorten_part name rows is (Help error) h = absurd h
shorten_part name rows is (Script node) h = absurd (h.1 is)
shorten_part name rows is (Udp node options) h = absurd (omega (arith, differ name (codes "journal") (codes "udp") is h.0))
shorten_part name rows is (Run path) h = absurd (omega (arith, differ name (codes "journal") (codes "run") is h.0))
shorten_part name rows is (Check path) h = absurd (omega (arith, differ name (codes "journal") (codes "check") is h.0))
shorten_part name rows is (Shorten options) h = (options, h.1)
