-- How elements, fields, names and numbers are read after they were written.
use Rattle.std.proofs.Common.{◌≡◌, ℕ, zero, suc, ◌+◌, ◌^◌, ◌<◌, ◌≤◌, true, false, List, [], ◌∷◌, ◌++◌, length, Option, None, Some, Ok, refl, sym, ap, ◌∙◌, append-nil, arith, length-append, zero-add}
use Rattle.std.specs.Prelude.{slice_get, IfSome, ◌==◌}
use Rattle.std.specs.List.{AllByRecursion}
use Rattle.std.proofs.lemmas.List.Concat.{flat_map-cons}
use Rattle.ndn_tlv.specs.Number.{shortest_nni}
use Rattle.ndn_tlv.specs.Element.{Field, IsField, element}
use Rattle.ndn_tlv.specs.Fields.{first_of}
use Rattle.ndn_tlv.specs.Reading.{elements_of, nni_at}
use Rattle.ndn_tlv.specs.Writing.{octets, optional}
use Rattle.ndn_tlv.proofs.Fields.{element_again, elements_of-ok, elements_again}
use Rattle.ndn_tlv.proofs.Integers.{shortest_again}
use Rattle.ndn_tlv.proofs.Lengths.{length-element}
use Rattle.ndn_names.specs.Name.{octets_of}
use Rattle.ndn_names.specs.Reading.{name_at}
use Rattle.ndn_names.proofs.Names.{name_again}
use Rattle.ndn_requests.specs.Commands.{IsWhole, as_read, fields_read}

-- ---- reading elements that were written

-- the first element is read, whatever follows it
pub front_read : (f : Field) (rest : List ℕ) → IsField f → elements_of (element f ++ rest) ≡ as_read f ∷ elements_of rest
front_read f rest ok = elements_of-ok (element f ++ rest) f rest (element_again f rest ok)

pub all_read : (fields : List Field) → AllByRecursion IsField fields → elements_of (octets fields) ≡ fields_read fields
all_read fields ok = elements_again fields ok

pub one_read : (f : Field) → IsField f → elements_of (element f) ≡ as_read f ∷ []
one_read f ok = ap elements_of (sym (append-nil (element f)) ∙ sym (flat_map-cons element f [])) ∙ all_read (f ∷ []) (ok, tt)

-- if the length of an element is below 2^64, the length of its value is below 2^64
pub value_fits : (kind : ℕ) (value : List ℕ) → length (element (kind, value)) < 2 ^ 64 → length value < 2 ^ 64
value_fits kind value lt = omega (arith, lt, length-element kind value)

-- ---- reading fields that were written

pub first_other : (kind k : ℕ) (value : Option (List ℕ)) (rest : List Field) → (k == kind) ≡ false → first_of kind (fields_read (optional k value ++ rest)) ≡ first_of kind (fields_read rest)
first_other kind k None rest apart = refl
first_other kind k (Some v) rest apart = rw apart refl

pub first_here : (kind : ℕ) (value : Option (List ℕ)) (rest : List Field) → (kind == kind) ≡ true → first_of kind (fields_read rest) ≡ None → first_of kind (fields_read (optional kind value ++ rest)) ≡ value
first_here kind None rest same none = none
first_here kind (Some v) rest same none = rw same refl

pub last_here : (kind : ℕ) (value : Option (List ℕ)) → (kind == kind) ≡ true → first_of kind (fields_read (optional kind value)) ≡ value
last_here kind None same = refl
last_here kind (Some v) same = rw same refl

pub last_other : (kind k : ℕ) (value : Option (List ℕ)) → (k == kind) ≡ false → first_of kind (fields_read (optional k value)) ≡ None
last_other kind k None apart = refl
last_other kind k (Some v) apart = rw apart refl

-- ---- reading values that were written

pub number_read : (n : ℕ) → n < 2 ^ 64 → nni_at (shortest_nni n) ≡ Ok n
number_read n lt = shortest_again n lt

pub name_read : (name : List Field) → IsWhole name → name_at (octets_of name) ≡ Ok name
name_read name whole = name_again (octets_of name) name whole

-- ---- the indexes of a list

pub at_right : {X : Type 0} (xs ys : List X) (i k : ℕ) → i ≡ length xs + k → slice_get (xs ++ ys) i ≡ slice_get ys k
at_right [] ys i k is = ap (slice_get ys) (is ∙ zero-add k)
at_right (x ∷ xs) ys zero k is = absurd (omega arith)
at_right (x ∷ xs) ys (suc i) k is = at_right xs ys i k (omega arith)

-- ---- names that are written

-- if all members of `xs ++ ys` have a property, then all members of `ys` have it
pub part_right : {X : Type 0} (P : X → Type 0) (xs ys : List X) → AllByRecursion P (xs ++ ys) → AllByRecursion P ys
part_right P [] ys all = all
part_right P (x ∷ xs) ys all = part_right P xs ys all.1

-- if a name satisfies `IsWhole`, the length of the last component's value is below 2^64
pub last_fits : (name : List Field) (kind : ℕ) (value : List ℕ) → IsWhole (name ++ (kind, value) ∷ []) → length value < 2 ^ 64
last_fits name kind value whole = (part_right IsField name ((kind, value) ∷ []) whole.0.0).0.2

-- ---- the types and the lengths of fields

-- the type of the field is a valid TLV type
abbrev pub IsType : Field → Type 0
IsType f = (1 ≤ f.0) × (f.0 < 2 ^ 32)

octets-cons : (f : Field) (fields : List Field) → octets (f ∷ fields) ≡ element f ++ octets fields
octets-cons f fields = flat_map-cons element f fields

pub fields_fit : (fields : List Field) → AllByRecursion IsType fields → length (octets fields) < 2 ^ 64 → AllByRecursion IsField fields
fields_fit [] types lt = tt
fields_fit (f ∷ fields) types lt =
    let size = ap length (octets-cons f fields) ∙ length-append (element f) (octets fields) in
    let value = length-element f.0 f.1 in
    ((types.0.0, types.0.1, omega (arith, lt, size, value)), fields_fit fields types.1 (omega (arith, lt, size)))

pub optional_all : (P : Field → Type 0) (kind : ℕ) (value : Option (List ℕ)) (rest : List Field) → ((v : List ℕ) → P (kind, v)) → AllByRecursion P rest → AllByRecursion P (optional kind value ++ rest)
optional_all P kind None rest one all = all
optional_all P kind (Some v) rest one all = (one v, all)

pub optional_of_all : (P : Field → Type 0) (kind : ℕ) (value : Option (List ℕ)) (rest : List Field) → AllByRecursion P (optional kind value ++ rest) → IfSome value (λ v. P (kind, v))
optional_of_all P kind None rest all = tt
optional_of_all P kind (Some v) rest all = all.0

-- a type from 1 to 2^32 - 1 is a valid TLV type
pub is_type : (kind : ℕ) (value : List ℕ) → 1 ≤ kind → kind < 2 ^ 32 → IsType (kind, value)
is_type kind value pos lt = (pos, lt)

pub read_fits : (kind : ℕ) (value : List ℕ) → IsType (kind, value) → length (element (kind, value)) < 2 ^ 64 → IsField (kind, value)
read_fits kind value type lt = (type.0, type.1, value_fits kind value lt)
