-- An Interest that is written is in the grammar, and its signature is computed over exactly the
-- octets that `Covered` defines.
use Rattle.std.proofs.Common.{rules, ◌≡◌, ◌≢◌, ℕ, ◌^◌, ◌<◌, ◌≤◌, Bool, true, false, cond, eqb, ltb, List, [], ◌∷◌, ◌++◌, length, Option, Some, None, refl, sym, ap, subst, ◌∙◌, append_assoc, ne_eqb, arith}
use Rattle.std.specs.Prelude.{◌||◌, not, unwrap_or, IfSome, OnSome}
use Rattle.std.specs.Option.{option_map}
use Rattle.std.specs.List.{AllByRecursion}
use Rattle.std.proofs.lemmas.Bool.{ltb-false}
use Rattle.std.proofs.lemmas.Grind.{flat_map-append}
use Rattle.std.proofs.lemmas.List.{append-nil, length-append}
use Rattle.std.proofs.lemmas.List.Elements.{filter-append}
use Rattle.sha2.specs.Sha256.{sha256}
use Rattle.sha2.proofs.Facts256.{length-sha256}
use Rattle.ndn_tlv.specs.Number.{shortest_nni}
use Rattle.ndn_tlv.specs.Element.{Field, IsField, element}
use Rattle.ndn_tlv.proofs.Numbers.{IsBytes, IsBytes-append}
use Rattle.ndn_names.specs.Name.{IsComponent, IsName}
use Rattle.ndn_names.specs.View.{components}
use Rattle.ndn_packets.specs.declared.fault.WriteFault.TheVariants.{BadName, TooLong}
use Rattle.ndn_packets.specs.declared.signature.Sign.{Sign}
use Rattle.ndn_packets.specs.declared.interest_writer.InterestWriter.{InterestWriter}
use Rattle.ndn_packets.specs.Packet.{digests_in, PlainInterest, AnInterest}
use Rattle.ndn_packets.specs.Fields.{is_even_high, interest_schema}
use Rattle.ndn_packets.specs.Grammar.{IsPacket, IsOctet, from_parameters, IsDigested, IsSigned, IsInterest}
use Rattle.ndn_packets.specs.Covered.{CoversInterest, Covered}
use Rattle.ndn_packets.specs.Reading.{is_nil}
use Rattle.ndn_tlv.specs.Writing.{octets, number, optional, flag}
use Rattle.ndn_packets.specs.Writing.{info_fields, info_asked, parameters_of, covered_fields, interest_value, later_fields, interest_name, interest_text, interest_asked, is_bad_name, interest_refusal, IsU64, IsSoundSign, SoundInterest}
use Rattle.ndn_packets.proofs.Steps.{not_nil}
use Rattle.ndn_packets.proofs.FieldLists.{MayBeBytes, AreBytes}
use Rattle.ndn_packets.proofs.Lengths.{fields_are_long}
use Rattle.ndn_packets.proofs.InterestWriting.{with_digest}
use Rattle.ndn_packets.proofs.Written.{IsType, InOrder, leads, maybe, flagged, last, all_append, all_split, bytes_of_optional, bytes_of_value, bytes_of_number, bytes_of_info, bytes_of_nothing, IsBytes-one, IsBytes-octets, IsBytes-sha256, IsBytes-value_of, length-value, is_number, info_written, packet_written, name_written, cut_written, not_refused}

-- ---- the name with its digest

abbrev digest_of : List Field → Field
digest_of later = (2, sha256 (octets later))

named_with : (name later : List Field) → name ≢ [] → with_digest name later ≢ []
named_with name [] some e = some e
named_with [] (f ∷ later) some e = some refl
named_with (c ∷ name) (f ∷ later) some e = cc

components_with : (name later : List Field) → AllByRecursion IsComponent name → AllByRecursion IsComponent (with_digest name later)
components_with name [] h = h
components_with name (f ∷ later) h = all_append IsComponent name (digest_of (f ∷ later) ∷ []) h ((omega arith, omega arith, λ _. length-sha256 (octets (f ∷ later))), tt)

bytes_with : (name later : List Field) → IsBytes (octets name) → IsBytes (octets (with_digest name later))
bytes_with name [] h = h
bytes_with name (f ∷ later) h =
    let digest = digest_of (f ∷ later) in
    subst IsBytes (sym (flat_map-append element name (digest ∷ []))) (IsBytes-append (octets name) (octets (digest ∷ [])) h (IsBytes-octets (digest ∷ []) (IsBytes-sha256 (octets (f ∷ later)), tt)))

-- if no field in `front` is ApplicationParameters, the fields from the ApplicationParameters on are
-- the same in `front ++ later` and in `later`
no_parameters : (front later : List Field) → AllByRecursion (λ f. f.0 ≢ 36) front → from_parameters (front ++ later) ≡ from_parameters later
no_parameters [] later h = refl
no_parameters (f ∷ front) later h = rw (ne_eqb f.0 36 h.0) (no_parameters front later h.1)

one_digest : (name : List Field) (digest : List ℕ) → digests_in name ≡ [] → digests_in (name ++ (2, digest) ∷ []) ≡ (2, digest) ∷ []
one_digest name digest none = filter-append (λ c. eqb c.0 2) name ((2, digest) ∷ []) ∙ ap (λ (ds : List Field). ds ++ (2, digest) ∷ []) none

-- ---- the fields before the parameters

abbrev hop_value : PlainInterest → Option (List ℕ)
hop_value i = option_map (λ limit. limit ∷ []) i.hop_limit

abbrev early : PlainInterest → Option ℕ → List Field
early i lifetime = flag 33 i.can_be_prefix ++ (flag 18 i.must_be_fresh ++ ((10, i.nonce) ∷ (number 12 lifetime ++ optional 34 (hop_value i))))

-- the fields of an Interest after its Name and before the ApplicationParameters, followed by
-- `later`
abbrev before : PlainInterest → Option ℕ → List Field → List Field
before i lifetime later = flag 33 i.can_be_prefix ++ (flag 18 i.must_be_fresh ++ ((10, i.nonce) ∷ (number 12 lifetime ++ (optional 34 (hop_value i) ++ later))))

early_before : (i : PlainInterest) (lifetime : Option ℕ) (later : List Field) → early i lifetime ++ later ≡ before i lifetime later
early_before i lifetime later = simp append_assoc

all_flag : (P : Field → Type 0) (kind : ℕ) (b : Bool) → P (kind, []) → AllByRecursion P (flag kind b)
all_flag P kind true h = (h, tt)
all_flag P kind false h = tt

all_early : (P : Field → Type 0) (i : PlainInterest) (lifetime : Option ℕ) → P (33, []) → P (18, []) → P (10, i.nonce) → AllByRecursion P (number 12 lifetime) → AllByRecursion P (optional 34 (hop_value i))
    → AllByRecursion P (early i lifetime)
all_early P i lifetime prefix fresh nonce number_fits hop =
    all_append P (flag 33 i.can_be_prefix) _ (all_flag P 33 i.can_be_prefix prefix) (all_append P (flag 18 i.must_be_fresh) _ (all_flag P 18 i.must_be_fresh fresh) (nonce, all_append P (number 12 lifetime) _ number_fits hop))

all_optional : (P : ℕ → Type 0) (kind : ℕ) (value : Option (List ℕ)) → P kind → AllByRecursion (λ f. P f.0) (optional kind value)
all_optional P kind None h = tt
all_optional P kind (Some v) h = (h, tt)

before_parameters : (i : PlainInterest) (lifetime : Option ℕ) → AllByRecursion (λ f. f.0 ≢ 36) (early i lifetime)
before_parameters i lifetime =
    all_early (λ f. f.0 ≢ 36) i lifetime (omega arith) (omega arith) (omega arith) (all_optional (λ k. k ≢ 36) 12 (option_map shortest_nni lifetime) (omega arith)) (all_optional (λ k. k ≢ 36) 34 (hop_value i) (omega arith))

bytes_before : (i : PlainInterest) (lifetime : Option ℕ) → IsBytes i.nonce → IfSome i.hop_limit (λ n. n < 256) → AreBytes (early i lifetime)
bytes_before i lifetime nonce_fits hop_fits =
    all_early (λ f. IsBytes f.1) i lifetime bytes_of_nothing bytes_of_nothing nonce_fits (bytes_of_number 12 lifetime) (of_hop i.hop_limit hop_fits)
  where
    of_hop : (limit : Option ℕ) → IfSome limit (λ n. n < 256) → AreBytes (optional 34 (option_map (λ n. n ∷ []) limit))
    of_hop None h = tt
    of_hop (Some n) h = (IsBytes-one n h, tt)

order_before : (i : PlainInterest) (lifetime : Option ℕ) (later : List Field) → InOrder (36 ∷ 44 ∷ 46 ∷ []) later → InOrder interest_schema (before i lifetime later)
order_before i lifetime later h =
    let l34 = optional 34 (hop_value i) ++ later in
    let l12 = number 12 lifetime ++ l34 in
    let l10 : List Field = (10, i.nonce) ∷ l12 in
    let from34 = maybe (36 ∷ 44 ∷ 46 ∷ []) 34 (hop_value i) later (search rules) h in
    let from12 = maybe (34 ∷ 36 ∷ 44 ∷ 46 ∷ []) 12 (option_map shortest_nni lifetime) l34 (search rules) from34 in
    let from10 = leads (12 ∷ 34 ∷ 36 ∷ 44 ∷ 46 ∷ []) 10 i.nonce l12 from12 in
    let from30 = maybe (10 ∷ 12 ∷ 34 ∷ 36 ∷ 44 ∷ 46 ∷ []) 30 None l10 (search rules) from10 in
    let from18 = flagged (30 ∷ 10 ∷ 12 ∷ 34 ∷ 36 ∷ 44 ∷ 46 ∷ []) 18 i.must_be_fresh l10 (search rules) from30 in
    flagged (18 ∷ 30 ∷ 10 ∷ 12 ∷ 34 ∷ 36 ∷ 44 ∷ 46 ∷ []) 33 i.can_be_prefix (flag 18 i.must_be_fresh ++ l10) (search rules) from18

is_octet : (limit : Option ℕ) → IsOctet (option_map (λ n. n ∷ []) limit) limit
is_octet None = refl
is_octet (Some n) = (n, refl, refl)

-- ---- an Interest that is written, and the octets that its signature covers

interest_types : AllByRecursion IsType interest_schema
interest_types = search rules

-- `later` are the fields of the Interest `i` from the ApplicationParameters on; they are valid
record Ends (i : PlainInterest) (later : List Field) : Type 0 where
  info : Option (List ℕ)
  value : Option (List ℕ)
  grouped : later ≡ optional 36 i.parameters ++ (optional 44 info ++ optional 46 value)
  order : InOrder (36 ∷ 44 ∷ 46 ∷ []) later
  bytes : AreBytes later
  digested : IsDigested i.name later i.parameters
  signed : IsSigned info value i.signature

-- what the Name and the fields before the ApplicationParameters must satisfy
record Fits (i : PlainInterest) (lifetime : Option ℕ) : Type 0 where
  is_name : IsName i.name
  named : i.name ≢ []
  name : IsBytes (octets i.name)
  four : length i.nonce ≡ 4
  nonce : IsBytes i.nonce
  lifetime_below : IfSome lifetime (λ n. n < 2 ^ 64)
  lifetime_is : i.lifetime ≡ unwrap_or lifetime 4000
  hop_below : IfSome i.hop_limit (λ n. n < 256)

abbrev text_of : PlainInterest → Option ℕ → List Field → List ℕ
text_of i lifetime later = element (5, octets ((7, octets i.name) ∷ (early i lifetime ++ later)))

unfoldable packet_of : (i : PlainInterest) (lifetime : Option ℕ) (later : List Field) (ends : Ends i later) → Fits i lifetime → length (text_of i lifetime later) ≤ 8800
    → IsPacket (text_of i lifetime later) 5 is_even_high interest_schema (octets i.name) (before i lifetime (optional 36 i.parameters ++ (optional 44 ends.info ++ optional 46 ends.value)))
packet_of i lifetime later ends fits short =
    let same = early_before i lifetime later in
    packet_written 5 interest_schema (octets i.name) (early i lifetime ++ later) _ (omega arith, omega arith) interest_types (subst (InOrder interest_schema) (sym same) (order_before i lifetime later ends.order))
    (same ∙ ap (before i lifetime) ends.grouped) (fits.name, all_append (λ f. IsBytes f.1) (early i lifetime) later (bytes_before i lifetime fits.nonce fits.hop_below) ends.bytes) short

digested_following : (name front later : List Field) (parameters : Option (List ℕ)) → AllByRecursion (λ f. f.0 ≢ 36) front → IsDigested name later parameters → IsDigested name (front ++ later) parameters
digested_following name front later None other h = h
digested_following name front later (Some p) other h = h ∙ ap (λ (fs : List Field). (2, sha256 (octets fs)) ∷ []) (sym (no_parameters front later other))

interest_written : (i : PlainInterest) (lifetime : Option ℕ) (later : List Field) → Ends i later → Fits i lifetime → length (text_of i lifetime later) ≤ 8800 → IsInterest (text_of i lifetime later) i
unfolding packet_of packet_written
interest_written i lifetime later ends fits short =
    let packet = packet_of i lifetime later ends fits short in
    record {
      name_value = octets i.name;
      hint = None;
      lifetime_value = option_map shortest_nni lifetime;
      hop_value = hop_value i;
      info_value = ends.info;
      signature_value = ends.value;
      fields = packet;
      name = name_written i.name fits.is_name packet.inner.0.0.2;
      named = fits.named;
      nonce = fits.four;
      lifetime = (lifetime, is_number lifetime fits.lifetime_below, fits.lifetime_is);
      hop_limit = is_octet i.hop_limit;
      digested = digested_following i.name (early i lifetime) later i.parameters (before_parameters i lifetime) ends.digested;
      signature = ends.signed;
    }

-- If an Interest has ApplicationParameters, InterestSignatureInfo and InterestSignatureValue, its
-- signature covers the components before the digest of parameters, the ApplicationParameters and
-- the InterestSignatureInfo.
interest_covered : (i : PlainInterest) (lifetime : Option ℕ) (name : List Field) (digest p info value : List ℕ) → i.name ≡ name ++ (2, digest) ∷ []
    → (ends : Ends i ((36, p) ∷ (44, info) ∷ (46, value) ∷ [])) → Fits i lifetime → length (text_of i lifetime ((36, p) ∷ (44, info) ∷ (46, value) ∷ [])) ≤ 8800
    → CoversInterest i.name (text_of i lifetime ((36, p) ∷ (44, info) ∷ (46, value) ∷ [])) (octets name) (octets ((36, p) ∷ (44, info) ∷ []))
unfolding packet_of packet_written
interest_covered i lifetime name digest p info value named ends fits short =
    let packet = packet_of i lifetime ((36, p) ∷ (44, info) ∷ (46, value) ∷ []) ends fits short in
    let front : List Field = (7, octets i.name) ∷ early i lifetime in
    let fit = (all_split IsField front ((36, p) ∷ (44, info) ∷ (46, value) ∷ []) packet.inner.0).1 in
    record {
      components = name;
      digest = digest;
      value = packet.value;
      early = octets front;
      from_parameters = octets ((36, p) ∷ (44, info) ∷ (46, value) ∷ []);
      to_info = octets ((36, p) ∷ []);
      from_info = octets ((44, info) ∷ (46, value) ∷ []);
      to_signature = octets ((44, info) ∷ []);
      from_signature = octets ((46, value) ∷ []);
      named = named;
      outer = packet.outer;
      parameters = cut_written 36 p front ((44, info) ∷ (46, value) ∷ []) packet.inner.0 (omega arith, before_parameters i lifetime);
      info = cut_written 44 info ((36, p) ∷ []) ((46, value) ∷ []) fit (omega arith, tt);
      signature = cut_written 46 value ((44, info) ∷ []) [] fit.1 (omega arith, tt);
      first_is = refl;
      second_is = flat_map-append element ((36, p) ∷ []) ((44, info) ∷ []);
    }

-- ---- the Interest that is requested of a writer

abbrev asked_parameters : InterestWriter → Option (List ℕ)
asked_parameters w = option_map (λ p. p.now) w.parameters

abbrev asked : InterestWriter → Option Sign → PlainInterest
asked w sign = record {
  name = with_digest (components w.name) (later_fields w sign);
  can_be_prefix = w.can_be_prefix;
  must_be_fresh = w.must_be_fresh;
  nonce = w.nonce;
  lifetime = unwrap_or w.lifetime 4000;
  hop_limit = w.hop_limit;
  parameters = parameters_of sign (asked_parameters w);
  signature = option_map (λ signed. record { info = info_asked signed w.time w.seq; value = interest_value w signed }) sign;
}

-- the conditions under which an Interest is not refused
record IsGood (w : InterestWriter) (sign : Option Sign) : Type 0 where
  named : components w.name ≢ []
  none : digests_in (components w.name) ≡ []
  few : length (with_digest (components w.name) (later_fields w sign)) ≤ 64
  short : length (text_of (asked w sign) w.lifetime (later_fields w sign)) ≤ 8800

fits_of : (w : InterestWriter) (sign : Option Sign) → SoundInterest w → IsGood w sign → Fits (asked w sign) w.lifetime
fits_of w sign is good = record {
  is_name = (good.few, components_with (components w.name) (later_fields w sign) w.name.spelled.1.1);
  named = named_with (components w.name) (later_fields w sign) good.named;
  name = bytes_with (components w.name) (later_fields w sign) is.name;
  four = is.nonce_len;
  nonce = is.nonce;
  lifetime_below = is.lifetime;
  lifetime_is = refl;
  hop_below = is.hop_limit;
}

-- a SignatureInfo is no longer than the Interest that contains it
info_inside : (front : List Field) (p info : List ℕ) (following : List Field) → length info ≤ length (element (5, octets (front ++ (36, p) ∷ (44, info) ∷ following)))
info_inside front p info following =
    let later : List Field = (36, p) ∷ (44, info) ∷ following in
    omega (
      arith,
      length-value (5, octets (front ++ later)),
      fields_are_long front later,
      length-append (element (36, p)) (octets ((44, info) ∷ following)),
      length-append (element (44, info)) (octets following),
      length-value (44, info),
    )

ends_of : (w : InterestWriter) (sign : Option Sign) → SoundInterest w → IfSome sign IsSoundSign → OnSome sign (IsU64 w.time × IsU64 w.seq) → IsGood w sign → Ends (asked w sign) (later_fields w sign)
ends_of w None is key times good = record {
  info = None;
  value = None;
  grouped = sym (append-nil (optional 36 (asked_parameters w)));
  order = last (44 ∷ 46 ∷ []) 36 (asked_parameters w);
  bytes = bytes_of_optional 36 (asked_parameters w) (bytes_of_value w.parameters is.parameters);
  digested = digested (asked_parameters w);
  signed = refl;
}
  where
    digested : (parameters : Option (List ℕ)) → IsDigested (with_digest (components w.name) (optional 36 parameters)) (optional 36 parameters) parameters
    digested None = good.none
    digested (Some p) = one_digest (components w.name) (sha256 (octets ((36, p) ∷ []))) good.none
ends_of w (Some signed) is key times good = record {
  info = Some (octets (info_fields signed w.time w.seq));
  value = Some (interest_value w signed);
  grouped = refl;
  order =
      leads (44 ∷ 46 ∷ []) 36 (unwrap_or (asked_parameters w) []) ((44, octets (info_fields signed w.time w.seq)) ∷ (46, interest_value w signed) ∷ [])
      (leads (46 ∷ []) 44 (octets (info_fields signed w.time w.seq)) ((46, interest_value w signed) ∷ []) (last [] 46 (Some (interest_value w signed))));
  bytes = (of_parameters (asked_parameters w) (bytes_of_value w.parameters is.parameters), (IsBytes-octets (info_fields signed w.time w.seq) (bytes_of_info signed w.time w.seq key), (IsBytes-value_of signed _, tt)));
  digested = one_digest (components w.name) (sha256 (octets (later_fields w (Some signed)))) good.none;
  signed = (info_asked signed w.time w.seq, info_written signed w.time w.seq times.0 times.1 (info_short signed good), refl);
}
  where
    of_parameters : (parameters : Option (List ℕ)) → MayBeBytes parameters → IsBytes (unwrap_or parameters [])
    of_parameters None h = bytes_of_nothing
    of_parameters (Some p) h = h

    info_short : (signed : Sign) → IsGood w (Some signed) → length (octets (info_fields signed w.time w.seq)) < 2 ^ 64
    info_short signed good =
        let i = asked w (Some signed) in
        let inside = info_inside ((7, octets i.name) ∷ early i w.lifetime) (unwrap_or (asked_parameters w) []) (octets (info_fields signed w.time w.seq)) ((46, interest_value w signed) ∷ []) in
        omega (arith, good.short, inside)

-- ---- what follows if a writer does not refuse an Interest

neither : (a b : Bool) → (a || b) ≡ false → (a ≡ false) × (b ≡ false)
neither true b e = absurd cc
neither false b e = (refl, e)

nothing : (fields : List Field) → not (is_nil fields) ≡ false → fields ≡ []
nothing [] e = refl
nothing (f ∷ fields) e = absurd cc

is_good : (w : InterestWriter) → interest_refusal w ≡ None → IsGood w w.sign
is_good w e =
    let long = ltb 8800 (length (interest_text w)) in
    let name = not_refused (is_bad_name (components w.name)) BadName (cond (ltb 64 (length (interest_name w)) || long) (Some TooLong) None) e in
    let sizes = neither (ltb 64 (length (interest_name w))) long (not_refused (ltb 64 (length (interest_name w)) || long) TooLong None name.1).0 in
    let bad = neither (is_nil (components w.name)) (not (is_nil (digests_in (components w.name)))) name.0 in
    record { named = not_nil (components w.name) bad.0; none = nothing (digests_in (components w.name)) bad.1; few = ltb-false _ _ sizes.0; short = ltb-false _ _ sizes.1 }

-- if there is a signature, the SignatureTime and the SignatureSeqNum are both below 2^64
times_of : (w : InterestWriter) (sign : Option Sign) → OnSome sign (IsU64 w.time) → OnSome sign (IsU64 w.seq) → OnSome sign (IsU64 w.time × IsU64 w.seq)
times_of w None time seq = tt
times_of w (Some signed) time seq = (time, seq)

pub interest_reads_back : (w : InterestWriter) → SoundInterest w → interest_refusal w ≡ None → IsInterest (interest_text w) (interest_asked w)
interest_reads_back w is e =
    let good = is_good w e in
    interest_written (asked w w.sign) w.lifetime (later_fields w w.sign) (ends_of w w.sign is is.sign (times_of w w.sign is.time is.seq) good) (fits_of w w.sign is good) good.short

covered_by : (w : InterestWriter) (sign : Option Sign) → SoundInterest w → IfSome sign IsSoundSign → OnSome sign (IsU64 w.time × IsU64 w.seq) → IsGood w sign
    → IfSome sign (λ signed. CoversInterest (with_digest (components w.name) (later_fields w sign)) (text_of (asked w sign) w.lifetime (later_fields w sign)) (octets (components w.name)) (octets (covered_fields w signed)))
covered_by w None is key times good = tt
covered_by w (Some signed) is key times good =
    interest_covered (asked w (Some signed)) w.lifetime (components w.name) _ _ _ _ refl (ends_of w (Some signed) is key times good) (fits_of w (Some signed) is good) good.short

pub interest_signed : (w : InterestWriter) → SoundInterest w → interest_refusal w ≡ None → IfSome w.sign (λ signed. Covered (AnInterest (interest_text w) (interest_asked w)) (octets (components w.name)) (octets (covered_fields w signed)))
interest_signed w is e = covered_by w w.sign is is.sign (times_of w w.sign is.time is.seq) (is_good w e)
