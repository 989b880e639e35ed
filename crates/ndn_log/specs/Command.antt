-- The texts for allowed commands, in the words of the client's command line (NFD Management,
-- "Control Command").
use Rattle.std.specs.Prelude.{ℕ, ◌-◌, List, [], ◌++◌, length, take, Bool, true, false, codes, Option, None, Some, Result, Ok, Err, ◌==◌, ◌||◌, if◌then◌else◌}
use Rattle.std.specs.Fmt.{decimal}
use Rattle.ndn_tlv.specs.Element.{Field}
use Rattle.mgmt_core.specs.declared.action.Action.{Action}
use Rattle.mgmt_core.specs.declared.action.Action.TheVariants.{AddNexthop, RemoveNexthop, Register, Unregister, SetStrategy, UnsetStrategy, EraseCache}
use Rattle.mgmt_core.specs.Reading.{PlainCommand, command_at}
use Rattle.repo_core.specs.declared.verb.Verb.{Verb}
use Rattle.repo_core.specs.declared.verb.Verb.TheVariants.{Insert, Delete, Check}
use Rattle.repo_core.specs.Commands.{verb_row}
use Rattle.repo_core.specs.Reading.{RepoCommand, repo_command_at}
use Rattle.ndn_log.specs.declared.command.TheConstants.{BAD_PARAMETERS, UNKNOWN_COMMAND}
use Rattle.ndn_log.specs.Packet.{name_words}

-- ---- commands on routes, strategies and the cache

abbrev pub action_words : Action → List ℕ
action_words AddNexthop = codes "route add "
action_words RemoveNexthop = codes "route remove "
action_words Register = codes "route register "
action_words Unregister = codes "route unregister "
action_words SetStrategy = codes "strategy set "
action_words UnsetStrategy = codes "strategy unset "
action_words EraseCache = codes "cache erase "

-- the face of a next hop or route; 0 stands for the face that the command came from
abbrev pub hop_words : ℕ → List ℕ
hop_words face = if face == 0 then codes " face itself" else codes " face " ++ decimal face

abbrev pub number_words : List ℕ → ℕ → List ℕ
number_words word number = word ++ decimal number

abbrev pub expires_words : Option ℕ → List ℕ
expires_words None = []
expires_words (Some milliseconds) = codes " expires " ++ decimal milliseconds

abbrev pub count_words : Option ℕ → List ℕ
count_words None = []
count_words (Some count) = codes " count " ++ decimal count

abbrev pub strategy_words : Option (List Field) → List ℕ
strategy_words None = []
strategy_words (Some strategy) = codes " " ++ name_words strategy

-- the cost, flags and lifetime of a registered route
abbrev pub route_words : PlainCommand → List ℕ
route_words c =
    number_words (codes " cost ") c.cost ++ (number_words (codes " flags ") c.flags
    ++ expires_words c.expires)

-- the parameters that a command with this action has, except its name
abbrev pub parameter_words : Action → PlainCommand → List ℕ
parameter_words AddNexthop c = hop_words c.face ++ number_words (codes " cost ") c.cost
parameter_words RemoveNexthop c = hop_words c.face
parameter_words Register c =
    (hop_words c.face ++ number_words (codes " origin ") c.origin) ++ route_words c
parameter_words Unregister c = hop_words c.face ++ number_words (codes " origin ") c.origin
parameter_words SetStrategy c = strategy_words c.strategy
parameter_words UnsetStrategy c = []
parameter_words EraseCache c = count_words c.count

abbrev pub tables_words : PlainCommand → List ℕ
tables_words c = action_words c.action ++ (name_words c.name ++ parameter_words c.action c)

-- ---- commands to the repository

abbrev pub prefix_words : Bool → List ℕ
prefix_words true = codes " can-be-prefix"
prefix_words false = []

-- the lifetime of the want that an insert adds or renews, in milliseconds
abbrev pub lifetime_words : Verb → ℕ → List ℕ
lifetime_words Insert lifetime = codes " lifetime " ++ decimal lifetime
lifetime_words Delete lifetime = []
lifetime_words Check lifetime = []

abbrev pub repo_words : RepoCommand → List ℕ
repo_words c = codes "repo " ++ ((verb_row c.verb).word ++ (codes " " ++ (name_words c.name
    ++ (prefix_words c.can_be_prefix ++ lifetime_words c.verb c.lifetime))))

-- ---- all commands

-- whether a reply with this status says that the node could not read the command
abbrev pub is_unread : ℕ → Bool
is_unread status = status == BAD_PARAMETERS || status == UNKNOWN_COMMAND

abbrev pub unread_words : List Field → List ℕ
unread_words name = codes "command " ++ name_words name

abbrev pub repository_words : List Field → Option RepoCommand → List ℕ
repository_words name None = unread_words name
repository_words name (Some c) = repo_words c

-- The words for a command with this name that the node has read. A command that is none on routes,
-- strategies and the cache is one to the repository, whose prefix is the name without its last
-- three components.
abbrev pub read_words : List Field → Result PlainCommand ℕ → List ℕ
read_words name (Ok c) = tables_words c
read_words name (Err status) =
    repository_words name (repo_command_at (take (length name - 3) name) name)

-- the words for a command with this name, to which the node replies with this status
abbrev pub command_words : ℕ → List Field → List ℕ
command_words status name =
    if is_unread status then unread_words name else read_words name (command_at name)
