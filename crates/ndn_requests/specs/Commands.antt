-- How the node and a repository read the commands that the client writes (NFD Management, "Control
-- Command").
use Rattle.std.specs.Prelude.{ℕ, ◌<◌, ◌^◌, List, [], ◌∷◌, ◌++◌, map, Bool, not, ◌&&◌, Option, IfSome, Result, Ok, codes, unwrap_or}
use Rattle.std.specs.List.{list_all}
use Rattle.ndn_tlv.specs.declared.fault.TlvFault.{TlvFault}
use Rattle.ndn_tlv.specs.Element.{Field}
use Rattle.ndn_tlv.specs.Fields.{Elements}
use Rattle.ndn_names.specs.declared.component_type.TheConstants.{GENERIC, PARAMETERS_SHA256_DIGEST}
use Rattle.ndn_names.specs.Name.{IsNameValue, octets_of}
use Rattle.mgmt_core.specs.declared.action.Action.{Action}
use Rattle.mgmt_core.specs.Commands.{row_of, has, takes}
use Rattle.mgmt_core.specs.Reading.{PlainCommand, child_inherit, is_root}
use Rattle.repo_core.specs.declared.verb.Verb.{Verb}
use Rattle.repo_core.specs.declared.types.TheConstants.{DEFAULT_LIFETIME}
use Rattle.repo_core.specs.Commands.{verb_row}
use Rattle.repo_core.specs.Reading.{RepoCommand}
use Rattle.ndn_requests.specs.declared.parameters.Parameters.{Parameters}
use Rattle.ndn_requests.specs.Parameters.{command_name, node_fields}

-- ---- values of the client's types

-- these components form a Name: the octets of the components are the TLV-VALUE of the Name
abbrev pub IsWhole : List Field → Type 0
IsWhole name = IsNameValue (octets_of name) name

-- the number, if there is one, is below 2^64
abbrev pub Fits64 : Option ℕ → Type 0
Fits64 n = IfSome n (λ n. n < 2 ^ 64)

pub record AreValues (p : Parameters) : Type 0 where
  pub name : IsWhole p.name
  pub face : Fits64 p.face
  pub origin : Fits64 p.origin
  pub cost : Fits64 p.cost
  pub flags : Fits64 p.flags
  pub expires : Fits64 p.expires
  pub strategy : IfSome p.strategy IsWhole
  pub count : Fits64 p.count
  pub lifetime : Fits64 p.lifetime

-- the field as the successful result of a reader
abbrev pub as_read : Field → Result Field TlvFault
as_read f = Ok f

abbrev pub fields_read : List Field → Elements
fields_read fields = map as_read fields

-- ---- the node's commands

-- the name `/localhost/nfd/MODULE/WORD`
abbrev pub node_path : List ℕ → List ℕ → List Field
node_path part word =
    (GENERIC, codes "localhost") ∷ (GENERIC, codes "nfd") ∷ (GENERIC, part) ∷ (GENERIC, word) ∷ []

-- the name of the node's command for an action, without parameters
abbrev pub node_name : Action → List Field
node_name action = node_path (row_of action).part (row_of action).verb

-- the types of the fields that are written for these parameters in a command for the node
abbrev pub kinds : Parameters → List ℕ
kinds p = map (λ (f : Field). f.0) (node_fields p)

-- whether the parameters suit the command: the command allows every field that is present, no
-- required field is missing, and the name is not empty, or the command allows the empty name
abbrev pub suits : Action → Parameters → Bool
suits action p =
    list_all (λ kind. takes kind (row_of action)) (kinds p)
    && list_all (λ kind. has kind (kinds p)) (row_of action).needs
    && not (is_root p.name && not (row_of action).takes_root)

-- the command that these parameters describe; an absent face, origin or cost is 0, and absent flags
-- are child-inherit
abbrev pub asked_of : Action → Parameters → PlainCommand
asked_of action p = record {
  action = action;
  name = p.name;
  face = unwrap_or p.face 0;
  origin = unwrap_or p.origin 0;
  cost = unwrap_or p.cost 0;
  flags = unwrap_or p.flags child_inherit;
  expires = p.expires;
  strategy = p.strategy;
  count = p.count;
}

-- ---- a repository's commands

-- the name of a repository's command, without parameters: the repository's prefix, and the verb
abbrev pub repository_name : List Field → Verb → List Field
repository_name prefix verb = prefix ++ (GENERIC, (verb_row verb).word) ∷ []

abbrev pub wanted_of : Verb → Parameters → RepoCommand
wanted_of verb p = record {
  verb = verb;
  name = p.name;
  can_be_prefix = p.can_be_prefix;
  lifetime = unwrap_or p.lifetime DEFAULT_LIFETIME;
}

-- ---- the name of a command's Interest

-- the name of a command's Interest: the command's name, its parameters, and then the parameters
-- digest
abbrev pub signed_name : List Field → Parameters → List ℕ → List Field
signed_name name p digest =
    command_name name p ++ (PARAMETERS_SHA256_DIGEST, digest) ∷ []
