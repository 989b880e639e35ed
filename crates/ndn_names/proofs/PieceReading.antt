-- Facts about texts from which a component is read.
use Rattle.std.proofs.Common.{◌≡◌, ℕ, ◌^◌, ◌<◌, eqb, List, [], ◌∷◌, ◌++◌, length, Option, Some, None, Ok, Err, refl, sym, ap, subst, ◌∙◌, arith, inl, inr, eq-eqb, decimal, true, false}
use Rattle.std.specs.List.{list_any}
use Rattle.std.specs.Str.Parse.{IsNumeral, digits_value}
use Rattle.std.proofs.lemmas.Bool.{cases_lt, cases_eq, eqb-true, ne_eqb, le-leb, lt-leb}
use Rattle.std.proofs.lemmas.List.{length-append}
use Rattle.ndn_tlv.specs.Element.{Field}
use Rattle.ndn_tlv.specs.Number.{shortest_nni}
use Rattle.ndn_tlv.specs.Reading.{◌>>=◌}
use Rattle.ndn_names.specs.declared.fault.NameFault.TheVariants.{BadUri}
use Rattle.ndn_names.specs.Name.{IsComponent}
use Rattle.ndn_names.specs.Reading.{component_of}
use Rattle.ndn_names.specs.TypeName.{type_name_of, kind_of}
use Rattle.ndn_names.specs.Uri.{padded}
use Rattle.ndn_names.specs.ReadsAs.{IsHex, StandsFor, IsValueText, IsGeneric, IsTyped, IsDigest, IsNumbered, ReadsComponent}
use Rattle.ndn_names.specs.UriReading.{octets_in, unpadded, hex_in, plain_in, number_in, type_in, digest_in, numbered_in, typed_in, cut_at, component_by_cut, component_in, piece_in}
use Rattle.ndn_names.proofs.Names.{component_found, component_again, bind_ok, done_is}
use Rattle.ndn_names.proofs.TextReading.{test_passed, test_failed, hex_found, hex_again, hex_length, hex_no_slash, Lacks, Lacks-append, Lacks-parts, octets_found, octets_again, octets_some, padded_some, octets_no_slash, unpadded_found, unpadded_again}
use Rattle.ndn_names.proofs.TypeNameReading.{number_found, number_again, digits-Lacks, decimal-Lacks, type_found, type_again, type_name_found, type_name_again, type_name_kind, decimal_no_type_name, type_name_lacks}

-- ---- texts cut at an octet

-- the result of cutting a text at the first occurrence of an octet
abbrev pub IsCut : ℕ → List ℕ → Option (List ℕ × List ℕ) → Type 0
IsCut octet text None = Lacks octet text
IsCut octet text (Some parts) = (text ≡ parts.0 ++ octet ∷ parts.1) × Lacks octet parts.0

pub cut_found : (octet : ℕ) (text : List ℕ) → IsCut octet text (cut_at octet text)
cut_found octet [] = tt
cut_found octet (o ∷ text) =
    elim (cases_eq o octet) [
      | inl is ↦ rw (eq-eqb o octet is) (ap (λ (first : ℕ). first ∷ text) is, tt)
      | inr other ↦
          elim (cut_at octet text) as (λ r. cut_at octet text ≡ r → IsCut octet text r → IsCut octet (o ∷ text) (cut_at octet (o ∷ text))) [
            | None ↦ λ e h. rw (ne_eqb o octet other, e) (other, h)
            | Some parts ↦ λ e h. rw (ne_eqb o octet other, e) (ap (λ (t : List ℕ). o ∷ t) h.0, (other, h.1))
          ] refl (cut_found octet text)
    ]

pub cut_again : (octet : ℕ) (front back : List ℕ) → Lacks octet front → cut_at octet (front ++ octet ∷ back) ≡ Some (front, back)
cut_again octet [] back h = rw (eq-eqb octet octet refl) refl
cut_again octet (o ∷ front) back h = rw (ne_eqb o octet h.0, cut_again octet front back h.1) refl

pub cut_lacking : (octet : ℕ) (text : List ℕ) → Lacks octet text → cut_at octet text ≡ None
cut_lacking octet [] h = refl
cut_lacking octet (o ∷ text) h = rw (ne_eqb o octet h.0, cut_lacking octet text h.1) refl

-- ---- reading a value in each form

plain_found : (kind : ℕ) (text : List ℕ) (c : Field) → Lacks 47 text → plain_in kind text ≡ Ok c → (c.0 ≡ kind) × IsValueText text c.1 × IsComponent c
plain_found kind text c slash e =
    let a = bind_ok (octets_in text) (λ octets. unpadded octets >>= λ value. component_of (kind, value)) c e in
    let b = bind_ok (unpadded a.0) (λ value. component_of (kind, value)) c a.2 in
    let p = component_found (kind, b.0) c b.2 in
    let whole = unpadded_found a.0 b.0 b.1 ∙ ap (λ (f : Field). padded f.1) p.0 in
    (sym (ap (λ (f : Field). f.0) p.0), subst (StandsFor text) whole (octets_found text a.0 a.1 slash), p.1)

plain_again : (text : List ℕ) (c : Field) → IsValueText text c.1 → IsComponent c → plain_in c.0 text ≡ Ok c
plain_again text c h is = rw (octets_again text (padded c.1) h, unpadded_again c.1) (component_again c is)

digest_found : (kind : ℕ) (text : List ℕ) (c : Field) → digest_in kind text ≡ Ok c → (c.0 ≡ kind) × (length text ≡ 64) × IsHex text c.1
digest_found kind text c e =
    let p = test_passed (eqb (length text) 64) (hex_in text >>= λ octets. Ok (kind, octets)) c e in
    let s = bind_ok (hex_in text) (λ octets. Ok (kind, octets)) c p.1 in
    let is = done_is (kind, s.0) c s.2 in
    (sym (ap (λ (f : Field). f.0) is), eqb-true (length text) 64 p.0, subst (λ (f : Field). IsHex text f.1) is (hex_found text s.0 s.1))

digest_again : (text : List ℕ) (c : Field) → length text ≡ 64 → IsHex text c.1 → digest_in c.0 text ≡ Ok c
digest_again text c size h = rw (eq-eqb (length text) 64 size, hex_again text c.1 h) refl

numbered_found : (kind : ℕ) (text : List ℕ) (c : Field) → numbered_in kind text ≡ Ok c
    → (c.0 ≡ kind) × IsNumeral 10 text × (digits_value 10 text < 2 ^ 64) × (c.1 ≡ shortest_nni (digits_value 10 text))
numbered_found kind text c e =
    let s = bind_ok (number_in text) (λ n. Ok (kind, shortest_nni n)) c e in
    let n = number_found text s.0 s.1 in
    let is = done_is (kind, shortest_nni s.0) c s.2 in
    (sym (ap (λ (f : Field). f.0) is), n.0, n.1, sym (ap (λ (f : Field). f.1) is) ∙ ap shortest_nni n.2)

numbered_again : (text : List ℕ) (c : Field) → IsNumeral 10 text → digits_value 10 text < 2 ^ 64 → c.1 ≡ shortest_nni (digits_value 10 text) → numbered_in c.0 text ≡ Ok c
numbered_again text c h small is = rw (number_again text h small) (ap (λ (v : List ℕ). Ok (c.0, v)) (sym is))

-- ---- reading a piece as a component

-- if a piece with an equals sign is read as a component, the grammar `ReadsComponent` allows this
-- reading
typed_found : (piece type_name text : List ℕ) (c : Field) → Lacks 47 text → piece ≡ type_name ++ 61 ∷ text → typed_in type_name text (kind_of type_name) ≡ Ok c → ReadsComponent piece c × IsComponent c
typed_found piece type_name text c slash is e =
    elim (kind_of type_name) as (λ r. kind_of type_name ≡ r → typed_in type_name text r ≡ Ok c → ReadsComponent piece c × IsComponent c) [
      | None ↦ λ none e.
          let s = bind_ok (type_in type_name) (λ kind. plain_in kind text) c e in
          let t = type_found type_name s.0 s.1 in
          let p = plain_found s.0 text c slash s.2 in
          let spelled : piece ≡ decimal c.0 ++ 61 ∷ text = is ∙ ap (λ (w : List ℕ). w ++ 61 ∷ text) (t.2 ∙ ap decimal (sym p.0)) in
          (inr (inl (text, spelled, p.2.0, p.2.1, p.1)), p.2)
      | Some kind ↦ λ some e.
          let known = type_name_found type_name kind some in
          let range = type_name_kind kind type_name known in
          elim (cases_lt 2 kind) [
            | inl large ↦
                let p = numbered_found kind text c (rw (lt-leb kind 2 large) at e) in
                let own_type_name = subst (λ (k : ℕ). type_name_of k ≡ Some type_name) (sym p.0) known in
                (inr (inr (inr (type_name, text, is, own_type_name, omega arith, p.1, p.2, p.3))), (omega arith, omega arith, λ small. absurd (omega arith)))
            | inr small ↦
                let p = digest_found kind text c (rw (le-leb kind 2 small) at e) in
                let own_type_name = subst (λ (k : ℕ). type_name_of k ≡ Some type_name) (sym p.0) known in
                let half = hex_length text c.1 p.2 in
                (inr (inr (inl (type_name, text, is, own_type_name, omega arith, p.1, p.2))), (omega arith, omega arith, λ small. omega arith))
          ]
    ] refl e

pub piece_found : (piece : List ℕ) (c : Field) → Lacks 47 piece → component_in piece ≡ Ok c → ReadsComponent piece c × IsComponent c
unfolding component_in
piece_found piece c slash e =
    elim (cut_at 61 piece) as (λ r. IsCut 61 piece r → component_by_cut piece r ≡ Ok c → ReadsComponent piece c × IsComponent c) [
      | None ↦ λ cut e. let p = plain_found 8 piece c slash e in (inl (cut, p.0, p.1), p.2)
      | Some parts ↦ λ cut e.
          let lacking = Lacks-parts 47 parts.0 (61 ∷ parts.1) (subst (Lacks 47) cut.0 slash) in
          typed_found piece parts.0 parts.1 c lacking.1.1 cut.0 e
    ] (cut_found 61 piece) e

-- if a piece is `type_name`, an equals sign and `text`, and `type_name` contains no equals sign,
-- `component_in` returns for this piece what `typed_in` returns for `type_name` and `text`
piece_cut : (piece type_name text : List ℕ) → piece ≡ type_name ++ 61 ∷ text → Lacks 61 type_name → component_in piece ≡ typed_in type_name text (kind_of type_name)
unfolding component_in
piece_cut piece type_name text is lacking = ap (component_by_cut piece) (ap (cut_at 61) is ∙ cut_again 61 type_name text lacking)

generic_again : (piece : List ℕ) (c : Field) → IsGeneric piece c → IsComponent c → component_in piece ≡ Ok c
unfolding component_in
generic_again piece c h is =
    rw (cut_lacking 61 piece h.0) (subst (λ (k : ℕ). plain_in k piece ≡ Ok c) h.1 (plain_again piece c h.2 is))

typed_again : (piece : List ℕ) (c : Field) → IsTyped piece c → IsComponent c → component_in piece ≡ Ok c
typed_again piece c h is =
    piece_cut piece (decimal c.0) h.0 h.1 (decimal-Lacks 61 (inr (omega arith)) c.0 (omega arith))
    ∙ rw (decimal_no_type_name c.0 (omega arith), type_again c.0 h.2 h.3) (plain_again h.0 c h.4 is)

digest_piece_again : (piece : List ℕ) (c : Field) → IsDigest piece c → component_in piece ≡ Ok c
digest_piece_again piece c h =
    piece_cut piece h.0 h.1 h.2 (type_name_lacks c.0 h.0 h.3).0 ∙ rw (type_name_again c.0 h.0 h.3, le-leb c.0 2 h.4) (digest_again h.1 c h.5 h.6)

numbered_piece_again : (piece : List ℕ) (c : Field) → IsNumbered piece c → component_in piece ≡ Ok c
numbered_piece_again piece c h =
    piece_cut piece h.0 h.1 h.2 (type_name_lacks c.0 h.0 h.3).0 ∙ rw (type_name_again c.0 h.0 h.3, lt-leb c.0 2 h.4) (numbered_again h.1 c h.5 h.6 h.7)

pub piece_again : (piece : List ℕ) (c : Field) → ReadsComponent piece c → IsComponent c → component_in piece ≡ Ok c
piece_again piece c (inl h) is = generic_again piece c h is
piece_again piece c (inr (inl h)) is = typed_again piece c h is
piece_again piece c (inr (inr (inl h))) is = digest_piece_again piece c h
piece_again piece c (inr (inr (inr h))) is = numbered_piece_again piece c h

-- a piece with an equals sign is not empty, and contains no slash if the texts before and after the
-- sign contain none
around_sign : (piece front text : List ℕ) → piece ≡ front ++ 61 ∷ text → Lacks 47 front → Lacks 47 text → (0 < length piece) × Lacks 47 piece
around_sign piece front text is before_sign after_sign =
    let size = ap length is ∙ length-append front (61 ∷ text) in
    (omega arith, subst (Lacks 47) (sym is) (Lacks-append 47 front (61 ∷ text) before_sign (λ e. absurd (omega arith), after_sign)))

pub piece_shape : (piece : List ℕ) (c : Field) → ReadsComponent piece c → (0 < length piece) × Lacks 47 piece
piece_shape piece c (inl h) = (octets_some piece (padded c.1) h.2 (padded_some c.1), octets_no_slash piece (padded c.1) h.2)
piece_shape piece c (inr (inl h)) =
    around_sign piece (decimal c.0) h.0 h.1 (decimal-Lacks 47 (inl (omega arith)) c.0 (omega arith)) (octets_no_slash h.0 (padded c.1) h.4)
piece_shape piece c (inr (inr (inl h))) = around_sign piece h.0 h.1 h.2 (type_name_lacks c.0 h.0 h.3).1 (hex_no_slash h.1 c.1 h.6)
piece_shape piece c (inr (inr (inr h))) = around_sign piece h.0 h.1 h.2 (type_name_lacks c.0 h.0 h.3).1 (digits-Lacks 47 (inl (omega arith)) h.1 h.5.1)

-- ---- the text of a single component

lacks_none : (octet : ℕ) (text : List ℕ) → list_any (λ o. eqb o octet) text ≡ false → Lacks octet text
lacks_none octet [] e = tt
lacks_none octet (o ∷ text) e =
    elim (cases_eq o octet) [
      | inl is ↦ absurd cc (rw (eq-eqb o octet is) at e)
      | inr other ↦ (other, lacks_none octet text (rw (ne_eqb o octet other) at e))
    ]

none_lacks : (octet : ℕ) (text : List ℕ) → Lacks octet text → list_any (λ o. eqb o octet) text ≡ false
none_lacks octet [] h = refl
none_lacks octet (o ∷ text) h = rw (ne_eqb o octet h.0) (none_lacks octet text h.1)

pub alone_found : (text : List ℕ) (c : Field) → piece_in text ≡ Ok c → ReadsComponent text c × IsComponent c
alone_found text c e =
    let p = test_failed (list_any (λ o. eqb o 47) text) (component_in text) c e in
    piece_found text c (lacks_none 47 text p.0) p.1

pub alone_again : (text : List ℕ) (c : Field) → ReadsComponent text c → IsComponent c → piece_in text ≡ Ok c
alone_again text c h is = rw (none_lacks 47 text (piece_shape text c h).1) (piece_again text c h is)

pub with_slash : (text : List ℕ) → list_any (λ o. eqb o 47) text ≡ true → piece_in text ≡ Err BadUri
with_slash text e = rw e refl

pub without_slash : (text : List ℕ) → list_any (λ o. eqb o 47) text ≡ false → piece_in text ≡ component_in text
without_slash text e = rw e refl
