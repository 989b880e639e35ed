-- The content of a reply.
use Rattle.std.specs.Prelude.{ℕ, List, [], ◌∷◌}
use Rattle.ndn_tlv.specs.Number.{shortest_nni}
use Rattle.ndn_tlv.specs.Element.{element}
use Rattle.ndn_tlv.specs.Writing.{octets}
use Rattle.ndn_packets.specs.declared.command_types.TheConstants.{COUNT, REPO_COMMAND_RESPONSE, REPO_STATUS_CODE, STATUS_TEXT}

-- a reply with this status, this text and this count
abbrev pub repo_response : ℕ → List ℕ → ℕ → List ℕ
repo_response status text count =
    element (
      REPO_COMMAND_RESPONSE,
      octets ((REPO_STATUS_CODE, shortest_nni status) ∷ (STATUS_TEXT, text)
          ∷ (COUNT, shortest_nni count) ∷ []),
    )
