-- A written Data is in the grammar, and the parts that written Interests and written Data share are
-- in the grammar.
use Rattle.std.proofs.Common.{rules, ◌≡◌, ◌≢◌, ℕ, zero, suc, ◌+◌, ◌^◌, ◌<◌, ◌≤◌, Bool, true, false, cond, ltb, List, [], ◌∷◌, ◌++◌, length, Option, Some, None, refl, sym, ap, subst, ◌∙◌, append_assoc, arith, inl, inr, Bor}
use Rattle.std.specs.Prelude.{slice_index, unwrap_or, IfSome}
use Rattle.std.specs.Option.{option_map}
use Rattle.std.specs.List.{AllByRecursion}
use Rattle.std.specs.Int.{Width, w16, w32, w64, byte_at, bytes_high_first, byte_len, to_be_bytes}
use Rattle.std.proofs.lemmas.Bool.{cases_lt, lt-ltb, le-ltb, ltb-false}
use Rattle.std.proofs.lemmas.Grind.{flat_map-append}
use Rattle.std.proofs.lemmas.List.{length-append}
use Rattle.sha2.specs.Sha256.{sha256, digest_bytes, final_hash, initial_hash_256}
use Rattle.ndn_tlv.specs.Number.{spelling, shortest_nni}
use Rattle.ndn_tlv.specs.Element.{Field, IsField, element}
use Rattle.ndn_tlv.proofs.Numbers.{IsBytes, IsBytes-append, length-spelling_nine}
use Rattle.ndn_tlv.proofs.Integers.{nni_of_shortest, length-shortest_eight}
use Rattle.ndn_names.specs.declared.name.Name.{Name}
use Rattle.ndn_names.specs.View.{components}
use Rattle.ndn_packets.specs.declared.fault.WriteFault.{WriteFault}
use Rattle.ndn_packets.specs.declared.fault.WriteFault.TheVariants.{TooLong}
use Rattle.ndn_packets.specs.declared.signature.Sign.{Sign}
use Rattle.ndn_packets.specs.declared.signature.Sign.TheVariants as sign
use Rattle.ndn_packets.specs.declared.data_writer.DataWriter.{DataWriter}
use Rattle.ndn_names.specs.Name.{IsComponent, IsName, IsNameValue}
use Rattle.ndn_packets.specs.Fields.{Counts, Fields, needs_previous_field, is_even_high, is_ignored_in_meta_info, is_ignored_in_signature_info, data_schema, meta_schema, info_schema}
use Rattle.ndn_packets.specs.Grammar.{IsPacket, IsNumber, IsLocator, IsMetaInfo, IsSignatureInfo, IsFreshness, IsData}
use Rattle.ndn_tlv.specs.Writing.{octets, number, optional, flag}
use Rattle.ndn_packets.specs.Writing.{kind_of, locator_of, locator_value, info_fields, info_asked, value_of, meta_of, meta_fields, data_fields, data_value, signed_data, plain_data_of, meta_asked, content_asked, data_text, data_asked, data_refusal, reply_text, reply_asked, IsSoundSign, SoundData}
use Rattle.ndn_packets.specs.Packet.{AData}
use Rattle.ndn_packets.specs.Covered.{IsCut, Covered}
use Rattle.ndn_packets.proofs.Steps.{both_tests}
use Rattle.ndn_packets.proofs.Lengths.{info_is_long}
use Rattle.ndn_packets.proofs.FieldLists.{MayBeBytes, AreBytes}

-- ---- what is written consists of octets

IsBytes-cons : (b : ℕ) (bytes : List ℕ) → b < 256 → IsBytes bytes → IsBytes (b ∷ bytes)
IsBytes-cons b bytes lt h zero = lt
IsBytes-cons b bytes lt h (suc i) = h i

pub bytes_of_nothing : IsBytes []
bytes_of_nothing i = omega arith

pub IsBytes-one : (b : ℕ) → b < 256 → IsBytes (b ∷ [])
IsBytes-one b lt = IsBytes-cons b [] lt bytes_of_nothing

byte_at-below : (k n : ℕ) → byte_at k n < 256
byte_at-below zero n = omega arith
byte_at-below (suc k) n = omega arith

IsBytes-high_first : (k n : ℕ) → IsBytes (bytes_high_first k n)
IsBytes-high_first zero n = bytes_of_nothing
IsBytes-high_first (suc k) n = IsBytes-cons (byte_at k n) (bytes_high_first k n) (byte_at-below k n) (IsBytes-high_first k n)

-- a SHA-256 digest consists of octets
IsBytes-digest_bytes : (h : List ℕ) (n : ℕ) → IsBytes (digest_bytes h n)
unfolding digest_bytes
IsBytes-digest_bytes h zero = bytes_of_nothing
IsBytes-digest_bytes h (suc n) = IsBytes-append (digest_bytes h n) (to_be_bytes w32 (slice_index h n)) (IsBytes-digest_bytes h n) (IsBytes-high_first 4 (slice_index h n))

pub IsBytes-sha256 : (m : List ℕ) → IsBytes (sha256 m)
unfolding sha256
IsBytes-sha256 m = IsBytes-digest_bytes (final_hash initial_hash_256 m) 8

-- the big-endian form of a number consists of octets
IsBytes-wide : (w : Width) (n : ℕ) → IsBytes (to_be_bytes w n)
IsBytes-wide w n = IsBytes-high_first (byte_len w) n

IsBytes-test : (n limit : ℕ) (x y : List ℕ) → (n < limit → IsBytes x) → IsBytes y → IsBytes (cond (ltb n limit) x y)
IsBytes-test n limit x y p q =
    elim (cases_lt n limit) [
      | inl lt ↦ rw (lt-ltb n limit lt) (p lt)
      | inr le ↦ rw (le-ltb n limit le) q
    ]

IsBytes-spelling : (n : ℕ) → IsBytes (spelling n)
unfolding spelling
IsBytes-spelling n =
    IsBytes-test n 253 (n ∷ []) _ (λ lt. IsBytes-one n (omega arith))
    (IsBytes-test n (2 ^ 16) (253 ∷ to_be_bytes w16 n) _ (λ _. IsBytes-cons 253 (to_be_bytes w16 n) (omega arith) (IsBytes-wide w16 n))
    (IsBytes-test n (2 ^ 32) (254 ∷ to_be_bytes w32 n) _ (λ _. IsBytes-cons 254 (to_be_bytes w32 n) (omega arith) (IsBytes-wide w32 n))
    (IsBytes-cons 255 (to_be_bytes w64 n) (omega arith) (IsBytes-wide w64 n))))

IsBytes-shortest : (n : ℕ) → IsBytes (shortest_nni n)
unfolding shortest_nni
IsBytes-shortest n =
    IsBytes-test n (2 ^ 8) (n ∷ []) _ (λ lt. IsBytes-one n (omega arith))
    (IsBytes-test n (2 ^ 16) (to_be_bytes w16 n) _ (λ _. IsBytes-wide w16 n)
    (IsBytes-test n (2 ^ 32) (to_be_bytes w32 n) _ (λ _. IsBytes-wide w32 n) (IsBytes-wide w64 n)))

-- an element consists of octets if its TLV-VALUE does
pub IsBytes-element : (f : Field) → IsBytes f.1 → IsBytes (element f)
IsBytes-element f h = IsBytes-append (spelling f.0) (spelling (length f.1) ++ f.1) (IsBytes-spelling f.0) (IsBytes-append (spelling (length f.1)) f.1 (IsBytes-spelling (length f.1)) h)

pub IsBytes-octets : (fields : List Field) → AreBytes fields → IsBytes (octets fields)
IsBytes-octets [] h = bytes_of_nothing
IsBytes-octets (f ∷ fields) h = IsBytes-append (element f) (octets fields) (IsBytes-element f h.0) (IsBytes-octets fields h.1)

-- ---- properties of all fields of a list

pub all_append : (P : Field → Type 0) (fields others : List Field) → AllByRecursion P fields → AllByRecursion P others → AllByRecursion P (fields ++ others)
all_append P [] others h g = g
all_append P (f ∷ fields) others h g = (h.0, all_append P fields others h.1 g)

pub all_split : (P : Field → Type 0) (fields others : List Field) → AllByRecursion P (fields ++ others) → AllByRecursion P fields × AllByRecursion P others
all_split P [] others h = (tt, h)
all_split P (f ∷ fields) others h =
    let r = all_split P fields others h.1 in
    ((h.0, r.0), r.1)

pub bytes_of_optional : (kind : ℕ) (value : Option (List ℕ)) → MayBeBytes value → AreBytes (optional kind value)
bytes_of_optional kind None h = tt
bytes_of_optional kind (Some v) h = (h, tt)

pub bytes_of_value : (value : Option (Bor (List ℕ))) → IfSome value (λ v. IsBytes v.now) → MayBeBytes (option_map (λ v. v.now) value)
bytes_of_value None h = tt
bytes_of_value (Some v) h = h

-- ---- elements whose types and lengths are valid

pub length-element : (f : Field) → length (element f) ≤ length f.1 + 18
length-element f = omega (arith, length-append (spelling f.0) (spelling (length f.1) ++ f.1), length-append (spelling (length f.1)) f.1, length-spelling_nine f.0, length-spelling_nine (length f.1))

pub length-value : (f : Field) → length f.1 ≤ length (element f)
length-value f = omega (arith, length-append (spelling f.0) (spelling (length f.1) ++ f.1), length-append (spelling (length f.1)) f.1)

abbrev pub IsType : ℕ → Type 0
IsType kind = (1 ≤ kind) × (kind < 2 ^ 32)

-- if elements have valid types and together fewer than 2^64 octets, all of these elements are valid
pub sized : (fields : List Field) → AllByRecursion (λ f. IsType f.0) fields → length (octets fields) < 2 ^ 64 → AllByRecursion IsField fields
sized [] types short = tt
sized (f ∷ fields) types short =
    let joined = length-append (element f) (octets fields) in
    ((types.0.0, types.0.1, omega (arith, joined, length-value f)), sized fields types.1 (omega arith))

-- ---- the order of a schema

abbrev pub InOrder : List ℕ → List Field → Type 0
InOrder schema [] = Unit {0}
InOrder schema (f ∷ fields) = (later : List ℕ) × Counts f.0 later schema × InOrder later fields

-- if all elements are in the order of a schema, then all of them are fields of the schema
pub in_order : (ignores : ℕ → Bool) (schema : List ℕ) (fields : List Field) → InOrder schema fields → Fields ignores schema fields fields
in_order ignores schema [] h = refl
in_order ignores schema (f ∷ fields) h = inl (h.0, fields, h.1, refl, in_order ignores h.0 fields h.2)

-- if `P` holds for each type in a schema, it holds for the type `kind` in the schema and for the
-- types after `kind`
all_following : (P : ℕ → Type 0) (front : List ℕ) (kind : ℕ) (later : List ℕ) → AllByRecursion P (front ++ kind ∷ later) → P kind × AllByRecursion P later
all_following P [] kind later h = h
all_following P (k ∷ front) kind later h = all_following P front kind later h.1

pub types_of : (P : ℕ → Type 0) (schema : List ℕ) (fields : List Field) → InOrder schema fields → AllByRecursion P schema → AllByRecursion (λ f. P f.0) fields
types_of P schema [] h all = tt
types_of P schema (f ∷ fields) h all =
    let here = all_following P h.1.0 f.0 h.0 (subst (AllByRecursion P) h.1.1 all) in
    (here.0, types_of P h.0 fields h.2 here.1)

pub leads : (schema : List ℕ) (kind : ℕ) (value : List ℕ) (fields : List Field) → InOrder schema fields → InOrder (kind ∷ schema) ((kind, value) ∷ fields)
leads schema kind value fields h = (schema, ([], refl, tt, λ _. refl), h)

-- the schema is empty, or its first type does not need the previous field
abbrev IsLoose : List ℕ → Type 0
IsLoose [] = Unit {0}
IsLoose (k ∷ schema) = needs_previous_field k ≡ false

-- the type `kind` may come before the types in `schema`: `kind` is not in `schema`, and the first
-- type in `schema`, if there is one, does not need the previous field
abbrev pub Precedes : ℕ → List ℕ → Type 0
Precedes kind schema = AllByRecursion (λ k. k ≢ kind) schema × IsLoose schema

counts_following : (first kind : ℕ) (later schema : List ℕ) → Precedes first schema → Counts kind later schema → Counts kind later (first ∷ schema)
counts_following first kind later schema p h =
    let other = (all_following (λ k. k ≢ first) h.0 kind later (subst (AllByRecursion (λ k. k ≢ first)) h.1 p.0)).0 in
    (first ∷ h.0, ap (λ (ks : List ℕ). first ∷ ks) h.1, ((λ same. other (sym same)), h.2), λ follows. absurd (both_tests (needs_previous_field kind) (subst IsLoose (h.1 ∙ ap (λ (front : List ℕ). front ++ kind ∷ later) (h.3 follows)) p.1) follows))

-- `maybe` and `flagged`: fields in order stay in order if an optional field of an earlier type, or
-- a flag of an earlier type, is put before them
pub maybe : (schema : List ℕ) (kind : ℕ) (value : Option (List ℕ)) (fields : List Field) → Precedes kind schema → InOrder schema fields → InOrder (kind ∷ schema) (optional kind value ++ fields)
maybe schema kind (Some v) fields p h = leads schema kind v fields h
maybe schema kind None [] p h = tt
maybe schema kind None (f ∷ fields) p h = (h.0, counts_following kind f.0 h.0 schema p h.1, h.2)

pub flagged : (schema : List ℕ) (kind : ℕ) (b : Bool) (fields : List Field) → Precedes kind schema → InOrder schema fields → InOrder (kind ∷ schema) (flag kind b ++ fields)
flagged schema kind true fields p h = leads schema kind [] fields h
flagged schema kind false fields p h = maybe schema kind None fields p h

pub last : (schema : List ℕ) (kind : ℕ) (value : Option (List ℕ)) → InOrder (kind ∷ schema) (optional kind value)
last schema kind None = tt
last schema kind (Some v) = leads schema kind v [] tt

-- ---- NonNegativeIntegers that are written

pub is_number : (n : Option ℕ) → IfSome n (λ k. k < 2 ^ 64) → IsNumber (option_map shortest_nni n) n
is_number None h = refl
is_number (Some k) h = (k, nni_of_shortest k h, refl)

pub bytes_of_number : (kind : ℕ) (n : Option ℕ) → AreBytes (number kind n)
bytes_of_number kind None = tt
bytes_of_number kind (Some k) = (IsBytes-shortest k, tt)

pub number_fits : (kind : ℕ) (n : Option ℕ) → IsType kind → AllByRecursion IsField (number kind n)
number_fits kind None is = tt
number_fits kind (Some k) is = ((is.0, is.1, omega (arith, length-shortest_eight k)), tt)

-- ---- names that are written

name_types : (name : List Field) → AllByRecursion IsComponent name → AllByRecursion (λ f. IsType f.0) name
name_types [] h = tt
name_types (c ∷ name) h = ((h.0.0, omega (arith, h.0.1)), name_types name h.1)

pub name_written : (name : List Field) → IsName name → length (octets name) < 2 ^ 64 → IsNameValue (octets name) name
name_written name is short = ((sized name (name_types name is.1) short, refl), is)

-- ---- a SignatureInfo that is written

bytes_of_locator : (signed : Sign) → IsSoundSign signed → MayBeBytes (locator_value signed)
bytes_of_locator sign.Digest is = tt
bytes_of_locator (sign.Hmac name key) is = IsBytes-element (7, octets (components name)) is

kind_below : (signed : Sign) → kind_of signed < 253
kind_below sign.Digest = omega arith
kind_below (sign.Hmac name key) = omega arith

pub bytes_of_info : (signed : Sign) (time seq : Option ℕ) → IsSoundSign signed → AreBytes (info_fields signed time seq)
bytes_of_info signed time seq is = (
  IsBytes-one (kind_of signed) (omega (arith, kind_below signed)),
  all_append (λ f. IsBytes f.1) (optional 28 (locator_value signed)) _ (bytes_of_optional 28 (locator_value signed) (bytes_of_locator signed is))
      (all_append (λ f. IsBytes f.1) (number 40 time) (number 42 seq) (bytes_of_number 40 time) (bytes_of_number 42 seq)),
)

pub IsBytes-value_of : (signed : Sign) (covered : List ℕ) → IsBytes (value_of signed covered)
IsBytes-value_of sign.Digest covered = IsBytes-sha256 covered
IsBytes-value_of (sign.Hmac name key) covered = IsBytes-sha256 _

locator_written : (signed : Sign) → length (octets (optional 28 (locator_value signed))) < 2 ^ 64 → IsLocator (locator_value signed) (locator_of signed)
locator_written sign.Digest short = refl
locator_written (sign.Hmac name key) short =
    let value = octets (components name) in
    let fits : length value < 2 ^ 64 = omega (arith, short, length-value (7, value), length-value (28, element (7, value)), length-append (element (28, element (7, value))) []) in
    (value, ((omega arith, omega arith, fits), refl), name_written (components name) name.spelled.1 fits)

info_types : AllByRecursion IsType info_schema
info_types = search rules

pub info_written : (signed : Sign) (time seq : Option ℕ) → IfSome time (λ k. k < 2 ^ 64) → IfSome seq (λ k. k < 2 ^ 64) → length (octets (info_fields signed time seq)) < 2 ^ 64
    → IsSignatureInfo (octets (info_fields signed time seq)) (info_asked signed time seq)
info_written signed time seq time_fits seq_fits short =
    let kind = kind_of signed in
    let locator = locator_value signed in
    let from40 = maybe (42 ∷ []) 40 (option_map shortest_nni time) (number 42 seq) (search rules) (last [] 42 (option_map shortest_nni seq)) in
    let from38 = maybe (40 ∷ 42 ∷ []) 38 None (number 40 time ++ number 42 seq) (search rules) from40 in
    let from28 = maybe (38 ∷ 40 ∷ 42 ∷ []) 28 locator (number 40 time ++ number 42 seq) (search rules) from38 in
    let order = leads (28 ∷ 38 ∷ 40 ∷ 42 ∷ []) 27 (kind ∷ []) (optional 28 locator ++ (number 40 time ++ number 42 seq)) from28 in
    record {
      kind_value = kind ∷ [];
      locator_value = locator;
      nonce = None;
      time_value = option_map shortest_nni time;
      seq_value = option_map shortest_nni seq;
      elements = info_fields signed time seq;
      inner = (sized (info_fields signed time seq) (types_of IsType info_schema (info_fields signed time seq) order info_types) short, refl);
      recognised = in_order is_ignored_in_signature_info info_schema (info_fields signed time seq) order;
      kind = inl (omega (arith, kind_below signed), refl);
      locator = locator_written signed (omega (arith, short, info_is_long signed time seq));
      time = is_number time time_fits;
      seq = is_number seq seq_fits;
    }

-- ---- what written Interests and written Data have in common

-- if the elements of a written packet are in the order of the schema and the packet has at most
-- 8,800 octets, the packet is in the grammar
unfoldable pub packet_written : (kind : ℕ) (schema : List ℕ) (name_value : List ℕ) (elements fields : List Field) → IsType kind → AllByRecursion IsType schema → InOrder schema elements → elements ≡ fields
    → AreBytes ((7, name_value) ∷ elements) → length (element (kind, octets ((7, name_value) ∷ elements))) ≤ 8800 → IsPacket (element (kind, octets ((7, name_value) ∷ elements))) kind is_even_high schema name_value fields
packet_written kind schema name_value elements fields is types order same fits short =
    let value = octets ((7, name_value) ∷ elements) in
    let inside = length-value (kind, value) in
    record {
      value = value;
      elements = elements;
      outer = ((is.0, is.1, omega arith), refl);
      inner = (sized ((7, name_value) ∷ elements) ((omega arith, omega arith), types_of IsType schema elements order types) (omega arith), refl);
      recognised = subst (Fields is_even_high schema elements) same (in_order is_even_high schema elements order);
      short = short;
      octets = IsBytes-element (kind, value) (IsBytes-octets ((7, name_value) ∷ elements) fits);
    }

-- ---- a Data that is written

-- a written MetaInfo is in the grammar, even if it has no fields
meta_written : (freshness final_block : Option ℕ) → IfSome freshness (λ k. k < 2 ^ 64) → IsMetaInfo (octets (meta_fields freshness final_block)) (unwrap_or freshness 0)
meta_written freshness final_block fits =
    let final_value = option_map (λ n. element (50, shortest_nni n)) final_block in
    let order = maybe (25 ∷ 26 ∷ []) 24 None (meta_fields freshness final_block) (search rules) (maybe (26 ∷ []) 25 (option_map shortest_nni freshness) (optional 26 final_value) (search rules) (last [] 26 final_value)) in
    record {
      content_type = None;
      period = option_map shortest_nni freshness;
      final_block = final_value;
      elements = meta_fields freshness final_block;
      inner = (all_append IsField (number 25 freshness) (optional 26 final_value) (number_fits 25 freshness (search rules)) (final_fits final_block), refl);
      recognised = in_order is_ignored_in_meta_info meta_schema (meta_fields freshness final_block) order;
      content_type_number = (None, refl);
      period_number = (freshness, is_number freshness fits, refl);
    }
  where
    final_fits : (n : Option ℕ) → AllByRecursion IsField (optional 26 (option_map (λ k. element (50, shortest_nni k)) n))
    final_fits None = tt
    final_fits (Some k) = ((omega arith, omega arith, omega (arith, length-element (50, shortest_nni k), length-shortest_eight k)), tt)

pub freshness_written : (freshness final_block : Option ℕ) → IfSome freshness (λ k. k < 2 ^ 64) → IsFreshness (meta_of (meta_fields freshness final_block)) (unwrap_or freshness 0)
freshness_written None None fits = refl
freshness_written None (Some n) fits = meta_written None (Some n) fits
freshness_written (Some k) final_block fits = meta_written (Some k) final_block fits

pub bytes_of_meta : (freshness final_block : Option ℕ) → MayBeBytes (meta_of (meta_fields freshness final_block))
bytes_of_meta freshness final_block = of_fields (meta_fields freshness final_block) (all_append (λ f. IsBytes f.1) (number 25 freshness) _ (bytes_of_number 25 freshness) (bytes_of_optional 26 _ (of_final final_block)))
  where
    of_final : (n : Option ℕ) → MayBeBytes (option_map (λ k. element (50, shortest_nni k)) n)
    of_final None = tt
    of_final (Some k) = IsBytes-element (50, shortest_nni k) (IsBytes-shortest k)

    of_fields : (fields : List Field) → AreBytes fields → MayBeBytes (meta_of fields)
    of_fields [] h = tt
    of_fields (f ∷ fields) h = IsBytes-octets (f ∷ fields) h

-- if no field in `before` has type `kind`, the cut before the first element of this type is
-- directly after the octets of `before`
pub cut_written : (kind : ℕ) (value : List ℕ) (before following : List Field) → AllByRecursion IsField (before ++ (kind, value) ∷ following) → AllByRecursion (λ f. f.0 ≢ kind) before
    → IsCut kind (octets (before ++ (kind, value) ∷ following)) (octets before) (octets ((kind, value) ∷ following))
cut_written kind value before following fit first =
    let fits = all_split IsField before ((kind, value) ∷ following) fit in
    record {
      others = before;
      value = value;
      after = octets following;
      sizes = (fits.0, fits.1.0);
      first_one = first;
      before_is = refl;
      from_is = refl;
      octets_are = flat_map-append element before ((kind, value) ∷ following);
    }

-- `data_elements` and `data_grouped` are the same list: the elements of a Data after its Name. In
-- `data_grouped`, the parentheses are placed as in `IsData`.
abbrev data_elements : Sign → List Field → Option (List ℕ) → Option (List ℕ) → List Field
data_elements signed name meta content = (optional 20 meta ++ (optional 21 content ++ (22, octets (info_fields signed None None)) ∷ [])) ++ (23, data_value signed name meta content) ∷ []

abbrev data_grouped : Sign → List Field → Option (List ℕ) → Option (List ℕ) → List Field
data_grouped signed name meta content = optional 20 meta ++ (optional 21 content ++ (22, octets (info_fields signed None None)) ∷ (23, data_value signed name meta content) ∷ [])

data_same : (signed : Sign) (name : List Field) (meta content : Option (List ℕ)) → data_elements signed name meta content ≡ data_grouped signed name meta content
data_same signed name meta content = simp append_assoc

data_order : (meta content : Option (List ℕ)) (info digest : List ℕ) → InOrder data_schema (optional 20 meta ++ (optional 21 content ++ (22, info) ∷ (23, digest) ∷ []))
data_order meta content info digest =
    maybe (21 ∷ 22 ∷ 23 ∷ []) 20 meta (optional 21 content ++ (22, info) ∷ (23, digest) ∷ []) (search rules)
    (maybe (22 ∷ 23 ∷ []) 21 content ((22, info) ∷ (23, digest) ∷ []) (search rules) (leads (23 ∷ []) 22 info ((23, digest) ∷ []) (last [] 23 (Some digest))))

data_bytes : (signed : Sign) (name : List Field) (meta content : Option (List ℕ)) → IsSoundSign signed → MayBeBytes meta → MayBeBytes content → AreBytes (data_elements signed name meta content)
data_bytes signed name meta content sign_fits meta_fits content_fits =
    let info = IsBytes-octets (info_fields signed None None) (bytes_of_info signed None None sign_fits) in
    subst AreBytes (sym (data_same signed name meta content))
    (all_append (λ f. IsBytes f.1) (optional 20 meta) _ (bytes_of_optional 20 meta meta_fits)
    (all_append (λ f. IsBytes f.1) (optional 21 content) _ (bytes_of_optional 21 content content_fits) (info, (IsBytes-value_of signed (octets (data_fields signed name meta content)), tt))))

data_types : AllByRecursion IsType data_schema
data_types = search rules

unfoldable data_packet : (signed : Sign) (name : List Field) (meta content : Option (List ℕ)) → IsSoundSign signed → IsBytes (octets name) → MayBeBytes meta → MayBeBytes content → length (signed_data signed name meta content) ≤ 8800
    → IsPacket (signed_data signed name meta content) 6 is_even_high data_schema (octets name) (data_grouped signed name meta content)
data_packet signed name meta content sign_fits name_fits meta_fits content_fits short =
    let same = data_same signed name meta content in
    let order = data_order meta content (octets (info_fields signed None None)) (data_value signed name meta content) in
    packet_written 6 data_schema (octets name) (data_elements signed name meta content) (data_grouped signed name meta content) (omega arith, omega arith) data_types (subst (InOrder data_schema) (sym same) order) same
    (name_fits, data_bytes signed name meta content sign_fits meta_fits content_fits) short

pub data_written : (signed : Sign) (name : List Field) (freshness : ℕ) (meta content : Option (List ℕ)) → IsSoundSign signed → IsName name → IsBytes (octets name) → MayBeBytes meta → IsFreshness meta freshness → MayBeBytes content
    → length (signed_data signed name meta content) ≤ 8800 → IsData (signed_data signed name meta content) (plain_data_of signed name freshness meta content)
unfolding data_packet packet_written
data_written signed name freshness meta content sign_fits is name_fits meta_fits fresh content_fits short =
    let packet = data_packet signed name meta content sign_fits name_fits meta_fits content_fits short in
    let info : List Field = (22, octets (info_fields signed None None)) ∷ [] in
    let covered = (all_split IsField (optional 20 meta ++ (optional 21 content ++ info)) _ packet.inner.0.1).0 in
    let following_meta = (all_split IsField (optional 20 meta) (optional 21 content ++ info) covered).1 in
    let info_fits = (all_split IsField (optional 21 content) info following_meta).1.0.2 in
    record {
      name_value = octets name;
      meta_value = meta;
      info_value = octets (info_fields signed None None);
      fields = packet;
      name = name_written name is packet.inner.0.0.2;
      freshness = fresh;
      info = info_written signed None None tt tt info_fits;
    }

pub data_covered : (signed : Sign) (name : List Field) (freshness : ℕ) (meta content : Option (List ℕ)) → IsSoundSign signed → IsBytes (octets name) → MayBeBytes meta → MayBeBytes content → length (signed_data signed name meta content) ≤ 8800
    → Covered (AData (signed_data signed name meta content) (plain_data_of signed name freshness meta content)) (octets (data_fields signed name meta content)) []
unfolding data_packet packet_written
data_covered signed name freshness meta content sign_fits name_fits meta_fits content_fits short =
    let packet = data_packet signed name meta content sign_fits name_fits meta_fits content_fits short in
    let info = octets (info_fields signed None None) in
    let digest = data_value signed name meta content in
    let order = leads (20 ∷ 21 ∷ 22 ∷ []) 7 (octets name) _ (maybe (21 ∷ 22 ∷ []) 20 meta _ (search rules) (maybe (22 ∷ []) 21 content ((22, info) ∷ []) (search rules) (last [] 22 (Some info)))) in (
      record {
        value = packet.value;
        from_signature = octets ((23, digest) ∷ []);
        outer = packet.outer;
        cut = cut_written 23 digest (data_fields signed name meta content) [] packet.inner.0 (types_of (λ k. k ≢ 23) (7 ∷ 20 ∷ 21 ∷ 22 ∷ []) (data_fields signed name meta content) order (search rules));
      },
      refl,
    )

pub not_refused : (b : Bool) (fault : WriteFault) (others : Option WriteFault) → cond b (Some fault) others ≡ None → (b ≡ false) × (others ≡ None)
not_refused true fault others e = absurd cc
not_refused false fault others e = (refl, e)

data_short : (w : DataWriter) → data_refusal w ≡ None → length (data_text w) ≤ 8800
data_short w e = ltb-false 8800 (length (data_text w)) (not_refused (ltb 8800 (length (data_text w))) TooLong None e).0

pub data_reads_back : (w : DataWriter) → SoundData w → data_refusal w ≡ None → IsData (data_text w) (data_asked w)
data_reads_back w is e =
    data_written w.sign (components w.name) (unwrap_or w.freshness 0) (meta_asked w) (content_asked w) is.sign w.name.spelled.1 is.name (bytes_of_meta w.freshness w.last)
    (freshness_written w.freshness w.last is.freshness) (bytes_of_value w.content is.content) (data_short w e)

pub data_signed : (w : DataWriter) → SoundData w → data_refusal w ≡ None
    → Covered (AData (data_text w) (data_asked w)) (octets (data_fields w.sign (components w.name) (meta_asked w) (content_asked w))) []
data_signed w is e =
    data_covered w.sign (components w.name) (unwrap_or w.freshness 0) (meta_asked w) (content_asked w) is.sign is.name (bytes_of_meta w.freshness w.last) (bytes_of_value w.content is.content) (data_short w e)

pub reply_reads_back : (name : Name) (content : List ℕ) → IsBytes (octets (components name)) → IsBytes content → length (reply_text (components name) content) ≤ 8800
    → IsData (reply_text (components name) content) (reply_asked (components name) content)
reply_reads_back name content name_fits content_fits short = data_written sign.Digest (components name) 0 None (Some content) tt name.spelled.1 name_fits tt refl content_fits short

pub reply_signed : (name : Name) (content : List ℕ) → IsBytes (octets (components name)) → IsBytes content → length (reply_text (components name) content) ≤ 8800
    → Covered (AData (reply_text (components name) content) (reply_asked (components name) content)) (octets (data_fields sign.Digest (components name) None (Some content))) []
reply_signed name content name_fits content_fits short = data_covered sign.Digest (components name) 0 None (Some content) tt name_fits tt content_fits short
