-- The model of a cached entry, and the octets of a digest component, for the contracts of private
-- functions.
use Rattle.std.specs.Prelude.{◌≡◌, ◌≢◌, ℕ, ◌<◌, ◌≤◌, List, ◌∷◌, length, take}
use Rattle.std.specs.declared.cmp.Ordering.{Ordering}
use Rattle.std.specs.declared.cmp.Ordering.TheVariants.{Equal}
use Rattle.sha2.specs.Sha256.{sha256}
use Rattle.ndn_tlv.specs.Element.{Field}
use Rattle.ndn_names.specs.declared.component_type.TheConstants.{IMPLICIT_SHA256_DIGEST}
use Rattle.ndn_names.specs.declared.name.Name.{Name}
use Rattle.ndn_names.specs.Name.{IsNameValue, octets_of}
use Rattle.ndn_names.specs.Order.{name_cmp}
use Rattle.ndn_packets.specs.Answers.{full_name}
use Rattle.ndn_names.specs.View.{components}
use Rattle.content_store.specs.Store.{CachedData}

abbrev pub shown : List Field → List ℕ → ℕ → ℕ → CachedData
shown name octets freshness arrival = record {
  name = name;
  digest = sha256 octets;
  octets = octets;
  freshness = freshness;
  arrival = arrival;
}

-- the octets of the implicit digest component that contains `digest`
abbrev pub digest_octets : List ℕ → List ℕ
digest_octets digest = IMPLICIT_SHA256_DIGEST ∷ 32 ∷ digest

-- The encoded name is valid and has at least 32 octets; `head` is the first 32 of these octets.
pub record IsHead (name : List Field) (head : List ℕ) : Type 0 where
  pub value : IsNameValue (octets_of name) name
  pub long : 32 ≤ length (octets_of name)
  pub first : head ≡ take 32 (octets_of name)

-- If `order` is not Equal, `order` is the result of two comparisons: the full name of any Data
-- named `name`, compared with the name `other`; and this full name, compared with the full name of
-- any Data named `other`.
abbrev pub OrdersFullNames : List Field → List Field → Ordering → Type 0
OrdersFullNames name other order =
    order ≢ Equal → (d : List ℕ) → length d ≡ 32
    → (order ≡ name_cmp (full_name name d) other)
    × ((e : List ℕ) → length e ≡ 32 → order ≡ name_cmp (full_name name d) (full_name other e))

-- `name` has fewer octets than `other` when both are encoded
abbrev pub AreShorter : Name → Name → Type 0
AreShorter name other =
    length (octets_of (components name)) < length (octets_of (components other))
