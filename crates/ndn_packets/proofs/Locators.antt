-- Reading the TLV-VALUE of a KeyLocator returns exactly the plain data that the grammar states.
use Rattle.std.proofs.Common.{◌≡◌, ◌≢◌, ℕ, true, false, cond, eqb, List, [], ◌∷◌, Some, Result, Ok, Err, refl, sym, ap, subst, ◌∙◌, arith}
use Rattle.std.proofs.lemmas.Bool.{eqb-true, eqb-false}
use Rattle.std.proofs.lemmas.List.{append-nil}
use Rattle.ndn_tlv.specs.declared.fault.TlvFault.{TlvFault}
use Rattle.ndn_tlv.specs.Element.{Field, element, IsElement}
use Rattle.ndn_tlv.specs.Reading.{element_at, on_result}
use Rattle.ndn_tlv.proofs.Numbers.{IsBytes}
use Rattle.ndn_tlv.proofs.Fields.{element_again, element_found, seen, refused, only_read}
use Rattle.ndn_names.specs.declared.fault.NameFault.{NameFault}
use Rattle.ndn_names.specs.Name.{IsNameValue}
use Rattle.ndn_names.specs.Reading.{name_at}
use Rattle.ndn_names.proofs.Names.{name_found, name_again}
use Rattle.ndn_packets.specs.Packet.{PlainLocator, Missing, KeyName, Digest, Other}
use Rattle.ndn_packets.specs.Grammar.{NamesKey, DigestsKey, IsLocator}
use Rattle.ndn_packets.specs.Reading.{locator_of, locator_at}
use Rattle.ndn_packets.proofs.Steps.{IsBytes-value}

-- ---- octets that are exactly one element

pub element_alone : (text value : List ℕ) (kind : ℕ) → IsElement text kind value → element_at text ≡ seen kind value []
element_alone text value kind outer = ap element_at (outer.1 ∙ sym (append-nil (element (kind, value)))) ∙ element_again (kind, value) [] outer.0

only_element : (text : List ℕ) (k : ℕ) (v r : List ℕ) → element_at text ≡ seen k v r → (kind : ℕ) (value : List ℕ) → IsElement text kind value → (k ≡ kind) × (v ≡ value) × (r ≡ [])
only_element text k v r e kind value outer = only_read text k v r (sym e) kind value [] outer.0 (outer.1 ∙ sym (append-nil (element (kind, value))))

-- ---- the plain data that is read from a KeyLocator satisfies the grammar

-- the TLV-VALUE of a KeyLocator is neither exactly one Name nor exactly one KeyDigest
abbrev IsKeyless : List ℕ → Type 0
IsKeyless value = ((name : List Field) → NamesKey value name → ⊥) × (DigestsKey value → ⊥)

keyless_refused : (value : List ℕ) (f : TlvFault) → element_at value ≡ refused f → IsKeyless value
keyless_refused value f e = (λ name key. let no = element_alone value key.0 7 key.1 in cc, λ key. let no = element_alone value key.0 29 key.1 in cc)

keyless_more : (value : List ℕ) (f : Field) (o : ℕ) (rest : List ℕ) → element_at value ≡ seen f.0 f.1 (o ∷ rest) → IsKeyless value
keyless_more value f o rest e = (
  λ name key. let no = (only_element value f.0 f.1 (o ∷ rest) e 7 key.0 key.1).2 in cc,
  λ key. let no = (only_element value f.0 f.1 (o ∷ rest) e 29 key.0 key.1).2 in cc,
)

keyless_other : (value : List ℕ) (kind : ℕ) (v : List ℕ) → IsElement value kind v → kind ≢ 7 → kind ≢ 29 → IsKeyless value
keyless_other value kind v outer no_name no_digest =
    let alone = element_alone value v kind outer in
    (λ name key. no_name (only_element value kind v [] alone 7 key.0 key.1).0, λ key. no_digest (only_element value kind v [] alone 29 key.0 key.1).0)

-- octets that cannot be read as a name are not the TLV-VALUE of a name
no_names : (v w : List ℕ) (name : List Field) (f : NameFault) → v ≡ w → name_at v ≡ Err f → IsNameValue w name → ⊥
no_names v w name f same e is = let read = ap name_at same ∙ name_again w name is in cc

name_says : (value v : List ℕ) → IsBytes v → IsElement value 7 v → (r : Result (List Field) NameFault) → name_at v ≡ r → IsLocator (Some value) (on_result (λ name. KeyName name) (λ _. Other) r)
name_says value v fits outer (Ok name) e = (v, outer, name_found v name fits e)
name_says value v fits outer (Err f) e =
    let alone = element_alone value v 7 outer in
    (λ name key. no_names v key.0 name f (only_element value 7 v [] alone 7 key.0 key.1).1 e key.2, λ key. let no = (only_element value 7 v [] alone 29 key.0 key.1).0 in omega arith)

one_says : (value : List ℕ) (f : Field) → IsBytes f.1 → IsElement value f.0 f.1 → IsLocator (Some value) (locator_of f [])
one_says value f fits outer =
    elim (eqb f.0 7) as (λ b. eqb f.0 7 ≡ b → IsLocator (Some value) (cond b (on_result (λ name. KeyName name) (λ _. Other) (name_at f.1)) (cond (eqb f.0 29) Digest Other))) [
      | true ↦ λ is. name_says value f.1 fits (subst (λ k. IsElement value k f.1) (eqb-true f.0 7 is) outer) (name_at f.1) refl
      | false ↦ λ no_name. elim (eqb f.0 29) as (λ b. eqb f.0 29 ≡ b → IsLocator (Some value) (cond b Digest Other)) [
        | true ↦ λ is. (f.1, subst (λ k. IsElement value k f.1) (eqb-true f.0 29 is) outer)
        | false ↦ λ no_digest. keyless_other value f.0 f.1 outer (eqb-false f.0 7 no_name) (eqb-false f.0 29 no_digest)
      ] refl
    ] refl

element_says : (value : List ℕ) (f : Field) (rest : List ℕ) → IsBytes value → element_at value ≡ Ok (f, rest) → IsLocator (Some value) (locator_of f rest)
element_says value f [] fits e =
    let found = element_found value f [] fits e in
    one_says value f (IsBytes-value f [] (subst IsBytes found.1 fits)) (found.0, found.1 ∙ append-nil (element f))
element_says value f (o ∷ rest) fits e = keyless_more value f o rest e

pub locator_found : (value : List ℕ) → IsBytes value → IsLocator (Some value) (locator_at value)
unfolding locator_at
locator_found value fits = says (element_at value) refl
  where
    says : (r : Result (Field × List ℕ) TlvFault) → element_at value ≡ r → IsLocator (Some value) (on_result (λ x. locator_of x.0 x.1) (λ _. Other) r)
    says (Ok x) e = element_says value x.0 x.1 fits e
    says (Err f) e = keyless_refused value f e

-- ---- the plain data of a KeyLocator in the grammar is what the reader returns

pub locator_again : (value : List ℕ) (locator : PlainLocator) → IsBytes value → IsLocator (Some value) locator → locator_at value ≡ locator
unfolding locator_at
locator_again value Missing fits h = absurd h
locator_again value (KeyName name) fits h = rw (element_alone value h.0 7 h.1, name_again h.0 name h.2) refl
locator_again value Digest fits h = rw (element_alone value h.0 29 h.1) refl
locator_again value Other fits h = other_only (locator_at value) (locator_found value fits) h
  where
    other_only : (locator : PlainLocator) → IsLocator (Some value) locator → IsKeyless value → locator ≡ Other
    other_only Missing found h = absurd found
    other_only (KeyName name) found h = absurd (h.0 name found)
    other_only Digest found h = absurd (h.1 found)
    other_only Other found h = refl
