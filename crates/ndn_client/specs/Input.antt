-- The contents of standard input.
use Rattle.std.specs.Prelude.{◌≡◌, ◌⊎◌, ◌<◌, ◌≤◌, ℕ, ◌-◌, List, length, take, ◌==◌, if◌then◌else◌, slice_get, String, string_bytes, ⊤}
use Rattle.ndn_tlv.specs.Options.{on_option}
use Rattle.ndn_jobs.specs.declared.fault.Usage.TheVariants.{BadValue}
use Rattle.ndn_jobs.specs.declared.fault.ToolFault.TheVariants.{Usage, Memory}
use Rattle.ndn_client.specs.declared.fault.Fault.{Fault}
use Rattle.ndn_client.specs.declared.fault.Fault.TheVariants.{Input, Tool}

-- the text without its last octet if this octet is an LF, otherwise the whole text
abbrev pub without_lf : List ℕ → List ℕ
without_lf text =
    on_option (λ o. if o == 10 then take (length text - 1) text else text) text
    (slice_get text (length text - 1))

-- ---- standard input as text

-- the text consists of these octets
abbrev pub IsTextOf : {Z : Type 0} → List ℕ → String Z → Type 0
IsTextOf octets text = string_bytes text ≡ octets

-- the text consists of these octets, and the number of octets is at most the limit
abbrev pub IsInput : {Z : Type 0} → ℕ → List ℕ → String Z → Type 0
IsInput limit octets text = (length octets ≤ limit) × IsTextOf octets text

-- standard input cannot be read as text, or memory ran out
abbrev pub IsUnreadInput : Fault → Type 0
IsUnreadInput Input = ⊤
IsUnreadInput (Tool why) = why ≡ Memory
IsUnreadInput why = ⊥

abbrev pub IsWrongInput : Fault → Type 0
IsWrongInput (Tool (Usage (BadValue place wanted))) = ⊤
IsWrongInput why = ⊥

-- there are more octets than the limit, or they cannot be read as text, or memory ran out
abbrev pub IsInputFault : ℕ → List ℕ → Fault → Type 0
IsInputFault limit octets why = ((limit < length octets) × IsWrongInput why) ⊎ IsUnreadInput why
