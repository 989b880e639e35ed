-- The commands, one row for each (NFD Management, "FIB Management", "RIB Management", "Strategy
-- Choice Management", "Content Store Management"). This file also defines the status texts;
-- `src/types.rt` defines the status codes.
use Rattle.std.specs.Prelude.{ℕ, List, [], ◌∷◌, Bool, true, false, ◌==◌, ◌&&◌, ◌||◌, Option, codes, find, bytes_eq}
use Rattle.std.specs.Option.{option_map}
use Rattle.std.specs.List.{list_any}
use Rattle.mgmt_core.specs.declared.action.Action.{Action}
use Rattle.mgmt_core.specs.declared.action.Action.TheVariants.{AddNexthop, RemoveNexthop, Register, Unregister, SetStrategy, UnsetStrategy, EraseCache}
use Rattle.ndn_packets.specs.declared.command_types.TheConstants.{FACE_ID, COST, STRATEGY, FLAGS, EXPIRATION_PERIOD, ORIGIN, COUNT}
use Rattle.ndn_packets.specs.declared.types.TheConstants.{NAME}
use Rattle.mgmt_core.specs.declared.types.TheConstants.{OK, BAD_PARAMETERS, UNKNOWN_STRATEGY, FACE_NOT_OPEN, PREFIX_TOO_LONG, UNKNOWN_COMMAND, TABLE_FULL}

-- the reasons to refuse a well-formed command
pub data Refusal : Type 0 where
  PrefixTooLong : Refusal
  FaceNotOpen : Refusal
  UnknownStrategy : Refusal
  TableFull : Refusal

pub record Row : Type 0 where
  pub part : List ℕ
  pub verb : List ℕ
  -- the types of the required fields (`needs`) and of the optional fields (`uses`)
  pub needs : List ℕ
  pub uses : List ℕ
  -- whether the name may be `/`
  pub takes_root : Bool
  -- the reasons to refuse the command, in the order in which they are tested
  pub refusals : List Refusal

abbrev pub row_of : Action → Row
row_of AddNexthop = record {
  part = codes "fib";
  verb = codes "add-nexthop";
  needs = NAME ∷ [];
  uses = FACE_ID ∷ COST ∷ [];
  takes_root = true;
  refusals = PrefixTooLong ∷ FaceNotOpen ∷ TableFull ∷ [];
}
row_of RemoveNexthop = record {
  part = codes "fib";
  verb = codes "remove-nexthop";
  needs = NAME ∷ [];
  uses = FACE_ID ∷ [];
  takes_root = true;
  refusals = [];
}
row_of Register = record {
  part = codes "rib";
  verb = codes "register";
  needs = NAME ∷ [];
  uses = FACE_ID ∷ ORIGIN ∷ COST ∷ FLAGS ∷ EXPIRATION_PERIOD ∷ [];
  takes_root = true;
  refusals = PrefixTooLong ∷ FaceNotOpen ∷ TableFull ∷ [];
}
row_of Unregister = record {
  part = codes "rib";
  verb = codes "unregister";
  needs = NAME ∷ [];
  uses = FACE_ID ∷ ORIGIN ∷ [];
  takes_root = true;
  refusals = [];
}
row_of SetStrategy = record {
  part = codes "strategy-choice";
  verb = codes "set";
  needs = NAME ∷ STRATEGY ∷ [];
  uses = [];
  takes_root = true;
  refusals = PrefixTooLong ∷ UnknownStrategy ∷ TableFull ∷ [];
}
row_of UnsetStrategy = record {
  part = codes "strategy-choice";
  verb = codes "unset";
  needs = NAME ∷ [];
  uses = [];
  takes_root = false;
  refusals = [];
}
row_of EraseCache = record {
  part = codes "cs";
  verb = codes "erase";
  needs = NAME ∷ [];
  uses = COUNT ∷ [];
  takes_root = true;
  refusals = [];
}

abbrev pub actions : List Action
actions =
    AddNexthop ∷ RemoveNexthop ∷ Register ∷ Unregister ∷ SetStrategy ∷ UnsetStrategy
    ∷ EraseCache ∷ []

abbrev pub is_named : List ℕ → List ℕ → Action → Bool
is_named part verb action =
    bytes_eq part (row_of action).part && bytes_eq verb (row_of action).verb

-- the action with this module and this verb, or None if there is none
abbrev pub action_named : List ℕ → List ℕ → Option Action
action_named part verb = find (is_named part verb) actions

-- the types of the fields that command parameters can have; elements of other types are ignored
abbrev pub parameter_fields : List ℕ
parameter_fields =
    NAME ∷ FACE_ID ∷ COST ∷ STRATEGY ∷ FLAGS ∷ EXPIRATION_PERIOD ∷ ORIGIN ∷ COUNT ∷ []

abbrev pub has : ℕ → List ℕ → Bool
has kind kinds = list_any (λ k. kind == k) kinds

-- whether the command has a required or optional field of this type
abbrev pub takes : ℕ → Row → Bool
takes kind row = has kind row.needs || has kind row.uses

-- the texts of the statuses
abbrev pub texts : List (ℕ × List ℕ)
texts =
    (OK, codes "OK") ∷ (BAD_PARAMETERS, codes "bad parameters")
    ∷ (UNKNOWN_STRATEGY, codes "unknown strategy") ∷ (FACE_NOT_OPEN, codes "face not open")
    ∷ (PREFIX_TOO_LONG, codes "prefix too long") ∷ (UNKNOWN_COMMAND, codes "unknown command")
    ∷ (TABLE_FULL, codes "table full") ∷ []

-- the text of a status, or None if the status is not in `texts`
abbrev pub text_of : ℕ → Option (List ℕ)
text_of status = option_map (λ row. row.1) (find (λ row. status == row.0) texts)
