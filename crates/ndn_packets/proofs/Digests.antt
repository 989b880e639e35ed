-- The digest of parameters that the name of an Interest must have.
use Rattle.std.proofs.Common.{◌≡◌, ◌≢◌, ℕ, Bool, true, false, cond, eqb, List, [], ◌∷◌, ◌++◌, map, Option, Some, None, refl, sym, ap, subst, ◌∙◌}
use Rattle.std.specs.Prelude.{OnSome, option_map}
use Rattle.std.specs.List.{AllByRecursion, flat_map}
use Rattle.std.specs.Str.{bytes_eq}
use Rattle.std.proofs.lemmas.Bool.{eqb-true, eqb-false, ne_eqb}
use Rattle.std.proofs.lemmas.List.Elements.{filter-append}
use Rattle.std.proofs.lemmas.Slice.Eq.{bytes_eq-Decides}
use Rattle.sha2.specs.Sha256.{sha256}
use Rattle.ndn_tlv.specs.Element.{Field, element}
use Rattle.ndn_names.specs.declared.first_of_type.FirstOfType.{FirstOfType}
use Rattle.ndn_names.specs.FirstOfType.{NoneOfType, IsFirstOfType, FindsFirst}
use Rattle.ndn_packets.specs.declared.fault.PacketFault.{PacketFault}
use Rattle.ndn_packets.specs.declared.fault.PacketFault.TheVariants.{DigestWrong}
use Rattle.ndn_packets.specs.Packet.{digests_in}
use Rattle.ndn_packets.specs.Grammar.{from_parameters, IsDigested}
use Rattle.ndn_packets.specs.Reading.{parameters_on, octets_of_read, digest_fault, fault_by}
use Rattle.ndn_packets.proofs.Steps.{read}
use Rattle.ndn_packets.proofs.Parameters.{parameters_octets}

-- ---- which digests of parameters the name of an Interest must have

abbrev AreOfKind : List Field → Type 0
AreOfKind digests = AllByRecursion (λ d. d.0 ≡ 2) digests

digests_kind : (name : List Field) → AreOfKind (digests_in name)
digests_kind [] = tt
digests_kind (c ∷ name) =
    elim (eqb c.0 2) as (λ b. eqb c.0 2 ≡ b → AreOfKind (cond b (c ∷ digests_in name) (digests_in name))) [
      | true ↦ λ is. (eqb-true c.0 2 is, digests_kind name)
      | false ↦ λ _. digests_kind name
    ] refl

-- `digests` are the digests of parameters in the name of an Interest. If the Interest has no
-- ApplicationParameters, `digests` is empty. If the Interest has ApplicationParameters, `digests`
-- has exactly one component, and the value of this component is `right`.
abbrev AreRight : Option (List ℕ) → List Field → List ℕ → Type 0
AreRight None digests right = digests ≡ []
AreRight (Some parameters) digests right = digests ≡ (2, right) ∷ []

fault_is_some : (f : PacketFault) → Some f ≡ None → ⊥
fault_is_some f e = cc

right_found : (parameters : Option (List ℕ)) (digests : List Field) (right : List ℕ) → AreOfKind digests → digest_fault parameters digests right ≡ None → AreRight parameters digests right
right_found None [] right kinds e = refl
right_found None (d ∷ digests) right kinds e = absurd (fault_is_some _ e)
right_found (Some p) [] right kinds e = absurd (fault_is_some _ e)
right_found (Some p) (d ∷ []) right kinds e =
    elim (bytes_eq d.1 right) as (λ b. bytes_eq d.1 right ≡ b → cond b None (Some DigestWrong) ≡ None → d ∷ [] ≡ (2, right) ∷ []) [
      | true ↦ λ same e. λ k. (kinds.0 k, (bytes_eq-Decides d.1 right).0 same k) ∷ []
      | false ↦ λ _ e. absurd (fault_is_some _ e)
    ] refl e
right_found (Some p) (d ∷ c ∷ digests) right kinds e = absurd (fault_is_some _ e)

right_again : (parameters : Option (List ℕ)) (digests : List Field) (right : List ℕ) → AreRight parameters digests right → digest_fault parameters digests right ≡ None
right_again None digests right h = ap (λ (ds : List Field). digest_fault None ds right) h
right_again (Some p) digests right h =
    ap (λ (ds : List Field). digest_fault (Some p) ds right) h ∙ rw ((bytes_eq-Decides right right).1 refl) refl

digested_of : (name elements : List Field) (parameters : Option (List ℕ)) → AreRight parameters (digests_in name) (sha256 (flat_map element (from_parameters elements))) → IsDigested name elements parameters
digested_of name elements None h = h
digested_of name elements (Some p) h = h

right_of : (name elements : List Field) (parameters : Option (List ℕ)) → IsDigested name elements parameters → AreRight parameters (digests_in name) (sha256 (flat_map element (from_parameters elements)))
right_of name elements None h = h
right_of name elements (Some p) h = h

pub digest_found : (name elements : List Field) (parameters : Option (List ℕ)) → digest_fault parameters (digests_in name) (sha256 (octets_of_read (parameters_on (map read elements)))) ≡ None → IsDigested name elements parameters
digest_found name elements parameters e =
    digested_of name elements parameters (subst (λ (octets : List ℕ). AreRight parameters (digests_in name) (sha256 octets)) (parameters_octets elements)
    (right_found parameters (digests_in name) (sha256 (octets_of_read (parameters_on (map read elements)))) (digests_kind name) e))

pub digest_again : (name elements : List Field) (parameters : Option (List ℕ)) → IsDigested name elements parameters → digest_fault parameters (digests_in name) (sha256 (octets_of_read (parameters_on (map read elements)))) ≡ None
digest_again name elements parameters h =
    right_again parameters (digests_in name) (sha256 (octets_of_read (parameters_on (map read elements))))
    (subst (λ (octets : List ℕ). AreRight parameters (digests_in name) (sha256 octets)) (sym (parameters_octets elements)) (right_of name elements parameters h))

-- ---- the first digest of parameters in a name

digests_none : (cs : List Field) → NoneOfType 2 cs → digests_in cs ≡ []
digests_none [] h = refl
digests_none (c ∷ cs) h = rw (ne_eqb c.0 2 h.0) (digests_none cs h.1)

pub none_left : (cs : List Field) → digests_in cs ≡ [] → NoneOfType 2 cs
none_left [] e = tt
none_left (c ∷ cs) e =
    elim (eqb c.0 2) as (λ b. eqb c.0 2 ≡ b → cond b (c ∷ digests_in cs) (digests_in cs) ≡ [] → (c.0 ≢ 2) × NoneOfType 2 cs) [
      | true ↦ λ _ e. absurd cc
      | false ↦ λ other e. (eqb-false c.0 2 other, none_left cs e)
    ] refl e

pub digests_from : (name : List Field) (d : FirstOfType) (h : IsFirstOfType 2 name d) → digests_in name ≡ (2, d.value.now) ∷ digests_in h.back
digests_from name d h =
    ap digests_in h.components_are ∙ filter-append (λ (c : Field). eqb c.0 2) h.front ((2, d.value.now) ∷ h.back) ∙ ap (λ (ds : List Field). ds ++ digests_in ((2, d.value.now) ∷ h.back)) (digests_none h.front h.first_one)

pub fault_is : (name : List Field) (parameters : Option (List ℕ)) (digest : Option FirstOfType) (right : List ℕ) → FindsFirst 2 name digest → digest_fault parameters (digests_in name) right ≡ fault_by parameters digest right
fault_is name None None right h = ap (λ (ds : List Field). digest_fault None ds right) (digests_none name h)
fault_is name None (Some d) right h = ap (λ (ds : List Field). digest_fault None ds right) (digests_from name d h)
fault_is name (Some p) None right h = ap (λ (ds : List Field). digest_fault (Some p) ds right) (digests_none name h)
fault_is name (Some p) (Some d) right h =
    ap (λ (ds : List Field). digest_fault (Some p) ds right) (digests_from name d h)
    ∙ elim (d.is_only) as (λ b. d.is_only ≡ b → digest_fault (Some p) ((2, d.value.now) ∷ digests_in h.back) right ≡ cond b (cond (bytes_eq d.value.now right) None (Some DigestWrong)) (Some DigestWrong)) [
      | true ↦ λ only. ap (λ (ds : List Field). digest_fault (Some p) ((2, d.value.now) ∷ ds) right) (digests_none h.back (h.only.0 only))
      | false ↦ λ others. more (digests_in h.back) (λ none. not_both d.is_only others (h.only.1 (none_left h.back none)))
    ] refl
  where
    not_both : (b : Bool) → b ≡ false → b ≡ true → ⊥
    not_both b e t = cc

    more : (ds : List Field) → (ds ≡ [] → ⊥) → digest_fault (Some p) ((2, d.value.now) ∷ ds) right ≡ Some DigestWrong
    more [] some = absurd (some refl)
    more (e ∷ ds) some = refl

-- `fault_by` is computed from the first digest of parameters in a name, and `digest_fault` from all
-- digests of parameters in the name. The two results are the same.
pub fault_read : {A : Type 0} (view : A → List ℕ) (name : List Field) (parameters : Option A) (digest : Option FirstOfType) (from octets : List ℕ) → FindsFirst 2 name digest → OnSome parameters (from ≡ octets)
    → digest_fault (option_map view parameters) (digests_in name) (sha256 octets) ≡ fault_by (option_map view parameters) digest (sha256 from)
fault_read view name None None from octets h e = fault_is name None None (sha256 octets) h
fault_read view name None (Some d) from octets h e = fault_is name None (Some d) (sha256 octets) h
fault_read view name (Some p) digest from octets h e =
    fault_is name (Some (view p)) digest (sha256 octets) h ∙ ap (λ (t : List ℕ). fault_by (Some (view p)) digest (sha256 t)) (sym e)
