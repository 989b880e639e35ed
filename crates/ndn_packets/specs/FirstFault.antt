-- The first fault among elements (NDN Packet Format 0.3, "Considerations for Evolvability of
-- TLV-Based Encoding"). `FirstFault` is defined without `fields_from` and `read_fields`.
use Rattle.std.specs.Prelude.{◌≡◌, ◌⊎◌, ◌↔◌, ℕ, List, [], ◌∷◌, ◌++◌, map, Result, Ok, Err, Bool, true, false}
use Rattle.ndn_tlv.specs.declared.fault.TlvFault.{TlvFault}
use Rattle.ndn_tlv.specs.Element.{Field}
use Rattle.ndn_packets.specs.declared.fault.PacketFault.{PacketFault}
use Rattle.ndn_packets.specs.declared.fault.PacketFault.TheVariants.{Tlv, CriticalUnknown}
use Rattle.ndn_packets.specs.Fields.{Counts}
use Rattle.ndn_packets.specs.Reading.{fields_from, read_fields}

-- Each element that is not ignored is a field of the schema, and `take` accepts this field. `later`
-- lists the types that may still come after the last element. `t` is the state after the last
-- element.
abbrev pub Passes : {S : Type 0} → (S → Field → Result S PacketFault) → (ℕ → Bool) → List ℕ → S
    → List Field → List ℕ → S → Type 0
Passes take ignores schema s [] later t = (later ≡ schema) × (t ≡ s)
Passes {S} take ignores schema s (e ∷ elements) later t =
    ((next : List ℕ) × (taken : S) × Counts e.0 next schema × (take s e ≡ Ok taken)
    × Passes take ignores next taken elements later t)
    ⊎ (((next : List ℕ) → Counts e.0 next schema → ⊥) × (ignores e.0 ≡ true)
    × Passes take ignores schema s elements later t)

-- All elements can be read, and `plain` is the list of these elements. They satisfy `Passes`, and
-- `t` is the state after the last element.
abbrev pub AllPass : {S : Type 0} → (S → Field → Result S PacketFault) → (ℕ → Bool) → List ℕ → S
    → List (Result Field TlvFault) → List Field → S → Type 0
AllPass {S} take ignores schema s elements plain t =
    (elements ≡ map (λ e. Ok e) plain)
    × ((later : List ℕ) × Passes take ignores schema s plain later t)

-- The fault of the next element. An element that cannot be read has the fault `Tlv`. An element
-- that is neither a field nor ignored has the fault `CriticalUnknown`. A field has the fault that
-- `take` returns for it.
abbrev pub HasFault : {S : Type 0} → (S → Field → Result S PacketFault) → (ℕ → Bool) → List ℕ → S
    → Result Field TlvFault → PacketFault → Type 0
HasFault take ignores schema s (Err unreadable) fault = fault ≡ Tlv unreadable
HasFault take ignores schema s (Ok e) fault =
    (((next : List ℕ) → Counts e.0 next schema → ⊥) × (ignores e.0 ≡ false)
    × (fault ≡ CriticalUnknown))
    ⊎ ((next : List ℕ) × Counts e.0 next schema × (take s e ≡ Err fault))

-- The first fault among the elements. All elements before the faulty element are ignored, or are
-- fields that `take` accepts.
pub record FirstFault {S : Type 0} (take : S → Field → Result S PacketFault) (ignores : ℕ → Bool)
    (schema : List ℕ) (s : S) (elements : List (Result Field TlvFault))
    (fault : PacketFault) : Type 0 where
  pub before : List Field
  pub next : Result Field TlvFault
  pub after : List (Result Field TlvFault)
  pub later : List ℕ
  pub taken : S
  pub elements_are : elements ≡ map (λ e. Ok e) before ++ next ∷ after
  pub passes : Passes take ignores schema s before later taken
  pub faulty : HasFault take ignores later taken next fault

-- reading the fields of a schema returns a fault exactly if this fault is the first fault among the
-- elements
abbrev pub TellsFirstFault : {S : Type 0} → (S → Field → Result S PacketFault) → (ℕ → Bool)
    → List ℕ → S → Type 0
TellsFirstFault take ignores schema s =
    (elements : List (Result Field TlvFault)) (fault : PacketFault)
    → (read_fields take s (fields_from ignores schema elements) ≡ Err fault)
    ↔ FirstFault take ignores schema s elements fault
