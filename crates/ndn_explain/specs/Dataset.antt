-- The entries of a dataset of routes or of strategies, as lines of text (NFD Management, "FIB
-- Dataset" and "Strategy Choice Dataset").
use Rattle.std.specs.Prelude.{◌≡◌, ℕ, List, [], ◌++◌, flat_map, ◌==◌, bytes_eq, codes, Option, None, Some, Result, Ok, Err, if◌then◌else◌}
use Rattle.ndn_tlv.specs.declared.fault.TlvFault.{TlvFault}
use Rattle.ndn_tlv.specs.Element.{Field}
use Rattle.ndn_tlv.specs.Reading.{elements_of}
use Rattle.ndn_packets.specs.declared.command_types.TheConstants.{FACE_ID, COST, STRATEGY}
use Rattle.ndn_packets.specs.declared.types.TheConstants.{NAME}
use Rattle.ndn_packets.specs.declared.command_types.TheConstants.{ENTRY, NEXT_HOP}
use Rattle.ndn_tlv.specs.Fields.{Elements, first_of}
use Rattle.ndn_explain.specs.declared.dataset.Layout.{Layout}
use Rattle.ndn_explain.specs.declared.dataset.Layout.TheVariants.{Lines, Table}
use Rattle.ndn_explain.specs.declared.dataset.Labels.{Labels as Texts}
use Rattle.ndn_explain.specs.Meaning.{name_text, number_text, strategy_text}
use Rattle.ndn_explain.specs.Show.{line}

-- ---- layouts

-- The texts before the values of a line. The line of a route has a name, a face and a cost. The
-- line of a strategy choice has a name and a strategy. In the layout `Lines`, the text before a
-- value is a word or a space. In the layout `Table`, the text before the name is empty, and the
-- text before any other value is a tab.
pub record Labels : Type 0 where
  pub route : List ℕ
  pub face : List ℕ
  pub cost : List ℕ
  pub choice : List ℕ
  pub strategy : List ℕ

abbrev pub labels_of : Layout → Labels
labels_of Lines = record {
  route = codes "route ";
  face = codes " face ";
  cost = codes " cost ";
  choice = codes "strategy ";
  strategy = codes " ";
}
labels_of Table = record {
  route = [];
  face = codes "\t";
  cost = codes "\t";
  choice = [];
  strategy = codes "\t";
}

-- The labels `texts` of the code are equal to the labels `l`.
pub record AreLabels (l : Labels) (texts : Texts) : Type 0 where
  pub route : texts.route.now ≡ l.route
  pub face : texts.face.now ≡ l.face
  pub cost : texts.cost.now ≡ l.cost
  pub choice : texts.choice.now ≡ l.choice
  pub strategy : texts.strategy.now ≡ l.strategy

-- ---- entries

-- the short name of the strategy with this URI: `best-route` for
-- `/localhost/nfd/strategy/best-route`, `multicast` for `/localhost/nfd/strategy/multicast`, and
-- the whole URI for any other URI
abbrev pub short_strategy : List ℕ → List ℕ
short_strategy uri =
    if bytes_eq uri (codes "/localhost/nfd/strategy/best-route") then codes "best-route" else (
    if bytes_eq uri (codes "/localhost/nfd/strategy/multicast") then codes "multicast" else uri)

abbrev pub choice_line : Layout → List ℕ → Option (List ℕ) → List ℕ
choice_line layout name None = []
choice_line layout name (Some strategy) =
    (labels_of layout).choice
    ++ line (name ++ ((labels_of layout).strategy ++ short_strategy (strategy_text strategy)))

abbrev pub number_word : List ℕ → Option (List ℕ) → List ℕ
number_word label None = []
number_word label (Some value) = label ++ number_text value

abbrev pub hop_words : Layout → Elements → List ℕ
hop_words layout es =
    number_word (labels_of layout).face (first_of FACE_ID es)
    ++ number_word (labels_of layout).cost (first_of COST es)

-- the line of a route with this name, if the element is a next hop; the next hop gives the face and
-- the cost; nothing for any other element
abbrev pub hop_line : Layout → List ℕ → Result Field TlvFault → List ℕ
hop_line layout name (Err fault) = []
hop_line layout name (Ok e) =
    if e.0 == NEXT_HOP
    then (labels_of layout).route ++ line (name ++ hop_words layout (elements_of e.1)) else []

-- the name of an entry, or a dash if the name is missing
abbrev pub entry_name : Option (List ℕ) → List ℕ
entry_name None = codes "-"
entry_name (Some value) = name_text value

abbrev pub named_entry : Layout → List ℕ → Elements → List ℕ
named_entry layout name es =
    choice_line layout name (first_of STRATEGY es) ++ flat_map (hop_line layout name) es

abbrev pub entry_lines : Layout → Result Field TlvFault → List ℕ
entry_lines layout (Err fault) = []
entry_lines layout (Ok e) =
    if e.0 == ENTRY
    then named_entry layout (entry_name (first_of NAME (elements_of e.1))) (elements_of e.1) else []

abbrev pub dataset_lines : Layout → List ℕ → List ℕ
dataset_lines layout content = flat_map (entry_lines layout) (elements_of content)
