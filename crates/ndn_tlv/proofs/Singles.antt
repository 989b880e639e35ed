-- What `single` returns for a list of exactly one element, and for other lists.
use Rattle.std.proofs.Common.{◌≡◌, ◌≢◌, ℕ, List, [], ◌∷◌, length, refl, ap, ◌∙◌, arith, false}
use Rattle.std.specs.Prelude.{None, Some, Result, Ok, Err, ◌==◌, if◌then◌else◌}
use Rattle.ndn_tlv.specs.declared.fault.TlvFault.{TlvFault}
use Rattle.ndn_tlv.specs.Element.{Field}
use Rattle.ndn_tlv.specs.Reading.{elements_of, elements_within, element_at, on_result}
use Rattle.ndn_tlv.proofs.Fields.{elements_of-nil}
use Rattle.ndn_tlv.specs.Fields.{single}

pub single_none : (kind : ℕ) (octets : List ℕ) (fault : TlvFault) → (octets ≢ [] → elements_of octets ≡ Err fault ∷ []) → single kind (elements_of octets) ≡ None
single_none kind [] fault h = ap (single kind) elements_of-nil
single_none kind (b ∷ octets) fault h = ap (single kind) (h (λ e. let no = e in cc))

pub single_alone : (kind : ℕ) (f : Field) (rest : List ℕ) → length rest ≡ 0 → single kind (Ok f ∷ elements_of rest) ≡ (if f.0 == kind then Some f.1 else None)
single_alone kind f [] e = ap (λ es. single kind (Ok f ∷ es)) elements_of-nil
single_alone kind f (b ∷ rest) e = absurd (omega arith)

more : (kind : ℕ) (f : Field) (r : Result (Field × List ℕ) TlvFault) (n : ℕ) → single kind (Ok f ∷ on_result (λ x. Ok x.0 ∷ elements_within n x.1) (λ e. Err e ∷ []) r) ≡ None
more kind f (Ok x) n = refl
more kind f (Err e) n = refl

pub single_more : (kind : ℕ) (f : Field) (b : ℕ) (rest : List ℕ) → single kind (Ok f ∷ elements_of (b ∷ rest)) ≡ None
unfolding elements_of elements_within
single_more kind f b rest = more kind f (element_at (b ∷ rest)) (length rest)

pub single_other : (kind : ℕ) (f : Field) (rest : List ℕ) → (f.0 == kind) ≡ false → single kind (Ok f ∷ elements_of rest) ≡ None
single_other kind f [] e = single_alone kind f [] refl ∙ ap (λ b. if b then Some f.1 else None) e
single_other kind f (b ∷ rest) e = single_more kind f b rest

pub single_longer : (kind : ℕ) (f : Field) (rest : List ℕ) → (length rest == 0) ≡ false → single kind (Ok f ∷ elements_of rest) ≡ None
single_longer kind f [] e = absurd cc
single_longer kind f (b ∷ rest) e = single_more kind f b rest
