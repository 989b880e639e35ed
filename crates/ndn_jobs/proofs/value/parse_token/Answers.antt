use Rattle.std.proofs.Common.{◌≡◌, ℕ, List, Ok, sym, subst, ◌∙◌}
use Rattle.hex.specs.Hex.{decode_of}
use Rattle.ndn_packets.specs.Link.{IsToken}
use Rattle.ndn_jobs.specs.Value.{IsTokenText}
use Rattle.ndn_jobs.proofs.value.parse_token.Goals as goal

-- a text spells no token if the octets that it spells are not a token
no_token : (text octets : List ℕ) → decode_of text ≡ Ok octets → (IsToken octets → ⊥) → (token : List ℕ) → IsTokenText text token → ⊥
no_token text octets e none token h =
    let both : Ok octets ≡ Ok token = sym e ∙ h.0 in
    let same : token ≡ octets = cc in
    none (subst IsToken same h.1)

pub returns-in-None : goal.returns-in-None
returns-in-None c = rw c.bad_value.ensures (no_token c.args.text.now c.in-Ok.octets.items c.in-Ok.ensures.ok c.in-None.ensures)
