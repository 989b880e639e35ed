-- The node's lists: their names, their segments, and the table that is printed for a list (NFD
-- Management, "FIB Dataset", "Strategy Choice Dataset"; NDN Naming Conventions, "Segment").
use Rattle.std.specs.Prelude.{ℕ, ◌+◌, ◌-◌, List, [], ◌∷◌, ◌++◌, length, take, codes, Option, None, Some, Bool, not, ◌==◌, ◌&&◌, if◌then◌else◌}
use Rattle.ndn_tlv.specs.Number.{shortest_nni}
use Rattle.ndn_tlv.specs.Element.{Field}
use Rattle.ndn_names.specs.declared.component_type.TheConstants.{SEGMENT}
use Rattle.ndn_explain.specs.declared.dataset.Layout.TheVariants.{Table}
use Rattle.ndn_explain.specs.Dataset.{dataset_lines}
use Rattle.ndn_explain.specs.Segment.{segment_of, last_segment}
use Rattle.ndn_requests.specs.declared.names.NodeList.{NodeList}
use Rattle.ndn_requests.specs.declared.names.NodeList.TheVariants.{Routes, Strategies}
use Rattle.ndn_requests.specs.Commands.{node_path}

abbrev pub list_name : NodeList → List Field
list_name Routes = node_path (codes "fib") (codes "list")
list_name Strategies = node_path (codes "strategy-choice") (codes "list")

-- The number of a segment and the number of the last segment, or None if one of them is missing. If
-- `is_first` is true, the Interest asks for the first segment, and the result is also None for a
-- segment whose number is not 0.
abbrev pub in_turn : Bool → Option ℕ → Option ℕ → Option (ℕ × ℕ)
in_turn is_first (Some segment) (Some last) =
    if is_first && not (segment == 0) then None else Some (segment, last)
in_turn is_first segment last = None

-- The number of the segment in a Data with this name and these octets, and the number of the last
-- segment. The result is None if one of these numbers is missing, or if `is_first` is true and the
-- segment's number is not 0.
abbrev pub place_of : Bool → List Field → List ℕ → Option (ℕ × ℕ)
place_of is_first name whole = in_turn is_first (segment_of name) (last_segment whole)

-- the name of the next segment; `name` and `segment` are the name and the number of the segment
-- before it
abbrev pub next_name : List Field → ℕ → List Field
next_name name segment =
    take (length name - 1) name ++ (SEGMENT, shortest_nni (segment + 1)) ∷ []

abbrev pub heading : NodeList → List ℕ
heading Routes = codes "name\tface\tcost\n"
heading Strategies = codes "name\tstrategy\n"

-- the table of a list, from the contents of all its segments, joined in order
abbrev pub table : NodeList → List ℕ → List ℕ
table list contents = heading list ++ dataset_lines Table contents
