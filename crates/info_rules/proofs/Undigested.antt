-- Parameters digests at the ends of names.
use Rattle.std.proofs.Common.{◌≡◌, ℕ, zero, suc, ◌+◌, ◌-◌, true, false, cond, eqb, List, [], ◌∷◌, ◌++◌, map, length, Option, None, refl, sym, subst, arith}
use Rattle.std.specs.Prelude.{slice_get}
use Rattle.std.proofs.lemmas.List.{length-map, map-append}
use Rattle.ndn_tlv.specs.Element.{Field}
use Rattle.ndn_names.specs.declared.component.Component.{Component}
use Rattle.ndn_names.specs.View.{field_of, components}
use Rattle.ndn_packets.specs.declared.interest.Interest.{Interest}
use Rattle.ndn_packets.specs.Packet.{PlainInterest, digests_in}
use Rattle.ndn_packets.specs.View.{plain_interest}
use Rattle.ndn_packets.specs.Grammar.{IsDigested, IsInterest}
use Rattle.ndn_packets.proofs.Held.{interest_read}
use Rattle.info_rules.specs.Seen.{is_digest, without_digest}

-- if a name contains no parameters digest, the component at index `i` is not a parameters digest
none_at : (name : List Field) (i : ℕ) → digests_in name ≡ [] → is_digest (slice_get name i) ≡ false
none_at [] i none = refl
none_at (c ∷ name) zero none =
    elim (eqb c.0 2) as (λ b. cond b (c ∷ digests_in name) (digests_in name) ≡ [] → b ≡ false) [
      | true ↦ λ some. absurd cc
      | false ↦ λ _. refl
    ] none
none_at (c ∷ name) (suc i) none =
    none_at name i (
    elim (eqb c.0 2) as (λ b. cond b (c ∷ digests_in name) (digests_in name) ≡ [] → digests_in name ≡ []) [
      | true ↦ λ some. absurd cc
      | false ↦ λ rest. rest
    ] none
    )

none_in : (text : List ℕ) (i : PlainInterest) → IsInterest text i → i.parameters ≡ None → digests_in i.name ≡ []
none_in text i read without = subst (λ (p : Option (List ℕ)). IsDigested i.name read.fields.elements p) without read.digested

-- if an Interest has no parameters, the rules see its whole name
pub undigested : (i : Interest) → i.parameters ≡ None → without_digest (components i.name) ≡ components i.name
undigested i without =
    let name = components i.name in
    let none = none_in i.whole.now (plain_interest i) (interest_read i) (rw without refl) in
    rw (none_at name (length name - 1) none) refl

last_at : (name : List Field) (c : Field) → is_digest (slice_get (name ++ c ∷ []) (length name)) ≡ eqb c.0 2
last_at [] c = refl
last_at (_ ∷ name) c = last_at name c

-- the last component `c` of a name is a parameters digest exactly if its type is 2
pub last_is : (n : ℕ) (front : List Component) (c : Component) → n ≡ length front → eqb c.kind 2 ≡ is_digest (slice_get (map field_of (front ++ c ∷ [])) (n + 1 - 1))
last_is n front c e =
    let place : n + 1 - 1 ≡ length (map field_of front) = omega (arith, e, length-map front field_of) in
    rw (place, map-append field_of front (c ∷ [])) (sym (last_at (map field_of front) (field_of c)))
