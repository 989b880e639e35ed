-- The lines that are printed for a reply that the node or a repository has written (NFD Management,
-- "Control Command").
use Rattle.std.specs.Prelude.{ℕ, List, [], ◌++◌, codes, Some, ◌==◌, if◌then◌else◌}
use Rattle.std.specs.Option.{option_map}
use Rattle.std.specs.Fmt.{decimal}
use Rattle.ndn_names.specs.Uri.{uri_of}
use Rattle.ndn_packets.specs.declared.command_types.TheConstants.{FACE_ID, ORIGIN, COST, FLAGS, EXPIRATION_PERIOD, COUNT, STRATEGY}
use Rattle.pit_fib.specs.declared.strategy_table.StrategyId.{StrategyId}
use Rattle.pit_fib.specs.Route.{is_capture, is_child_inherit}
use Rattle.mgmt_core.specs.declared.types.TheConstants.{OK}
use Rattle.mgmt_core.specs.Reading.{PlainCommand}
use Rattle.mgmt_core.specs.Tables.{face_of, route_asked, strategy_asked, strategy_name}
use Rattle.mgmt_core.specs.Writing.{given}
use Rattle.ndn_explain.specs.Show.{named_line, optional_line}
use Rattle.ndn_explain.specs.Meaning.{period_word, status_text, words_of_flags}

-- the line of a status and its text
abbrev pub status_shown : ℕ → List ℕ → List ℕ
status_shown status text =
    named_line (codes "status") (decimal status ++ (codes " " ++ status_text (Some text)))

abbrev pub strategy_shown : StrategyId → List ℕ
strategy_shown strategy = uri_of (strategy_name strategy)

-- the words for the flags of the requested route
abbrev pub flags_shown : PlainCommand → List ℕ
flags_shown c =
    words_of_flags (is_child_inherit (route_asked c 0)) (is_capture (route_asked c 0))

-- the lines of the fields in the reply to a command from this face; a field is shown only if the
-- command's action has this field
abbrev pub fields_shown : PlainCommand → ℕ → List ℕ
fields_shown c face =
    named_line (codes "name") (uri_of c.name)
    ++ (optional_line (codes "face") (option_map decimal (given c FACE_ID (Some (face_of c face))))
    ++ (optional_line (codes "cost") (option_map decimal (given c COST (Some c.cost)))
    ++ (optional_line (codes "origin") (option_map decimal (given c ORIGIN (Some c.origin)))
    ++ (optional_line (codes "flags") (given c FLAGS (Some (flags_shown c)))
    ++ (optional_line (codes "expires")
    (option_map period_word (given c EXPIRATION_PERIOD c.expires))
    ++ (optional_line (codes "strategy")
    (option_map strategy_shown (given c STRATEGY (strategy_asked c)))
    ++ optional_line (codes "count") (option_map decimal (given c COUNT c.count))))))))

-- the lines of a reply of the node; the reply has fields only if the status is 200
abbrev pub node_shown : PlainCommand → ℕ → ℕ → List ℕ → List ℕ
node_shown c face status text =
    status_shown status text ++ (if status == OK then fields_shown c face else [])

-- the lines of a reply of a repository
abbrev pub repository_shown : ℕ → List ℕ → ℕ → List ℕ
repository_shown status text count =
    status_shown status text ++ named_line (codes "count") (decimal count)
