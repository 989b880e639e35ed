-- The reader accepts exactly the link packets of the grammar.
use Rattle.std.proofs.Common.{◌≡◌, ℕ, suc, ◌<◌, ◌≤◌, Bool, true, false, cond, not, eqb, ltb, List, [], ◌∷◌, ◌++◌, length, map, Option, Some, None, Result, Ok, Err, refl, sym, ap, subst, ◌∙◌, arith, inl, inr}
use Rattle.std.specs.Prelude.{◌||◌, is_some}
use Rattle.std.specs.List.{AllByRecursion}
use Rattle.std.proofs.lemmas.Bool.{ltb-true, ltb-false, le-ltb, leb-true, le-leb, eqb-true, ne_eqb, not-false, and_parts, or_parts, cases_eq}
use Rattle.ndn_tlv.specs.declared.fault.TlvFault.{TlvFault}
use Rattle.ndn_tlv.specs.Number.{IsNni}
use Rattle.ndn_tlv.specs.Element.{Field, IsElements}
use Rattle.ndn_tlv.specs.Reading.{◌>>=◌, elements_of}
use Rattle.ndn_tlv.proofs.Numbers.{IsBytes}
use Rattle.ndn_tlv.proofs.Fields.{elements_exact, elements_read}
use Rattle.ndn_packets.specs.declared.fault.PacketFault.{PacketFault}
use Rattle.ndn_packets.specs.declared.fault.PacketFault.TheVariants.{Fragmented, LpField}
use Rattle.ndn_packets.specs.Packet.{PlainFrame, PlainFramed, framed_with}
use Rattle.ndn_tlv.specs.Writing.{optional}
use Rattle.ndn_packets.specs.Reading.{nni_value_at}
use Rattle.ndn_packets.specs.Link.{IsNack, IsNackOf, IsToken, IsTokenOf, IsHeader, IsLinkPacket, headers_of, is_ignored_header, known_headers}
use Rattle.ndn_packets.specs.FrameReading.{nack_at, LinkSoFar, no_headers_yet, is_token, is_refused_header, at_most, with_header, take_header, fragment_at, last_of, no_fragment, link_from, link_at}
use Rattle.ndn_packets.proofs.Steps.{bind_ok, guard_ok, good, err_is_not_ok, none_is_not_some, some_is, ok_is, read, IsBytes-fields}
use Rattle.ndn_packets.proofs.FieldLists.{MayBeBytes, AreBytes}
use Rattle.ndn_packets.proofs.Numbers.{number_found, number_again}
use Rattle.ndn_packets.proofs.Nacks.{nack_found, nack_again}

-- ---- the header fields that may still come in a state

-- the number of header fields of one type that may still come: 0 if such a field has been read,
-- otherwise 1
abbrev pub room : Bool → ℕ
room true = 0
room false = 1

-- `nacks` are the Nacks of a link packet that have not been read yet. If a Nack has been read,
-- `nacks` is empty. If no Nack has been read, `nacks` has the Nack of the link packet, or is empty
-- if the link packet has no Nack.
abbrev pub NackAmong : Option ℕ → List Field → Option ℕ → Type 0
NackAmong None nacks None = nacks ≡ []
NackAmong None nacks (Some reason) = (value : List ℕ) × (nacks ≡ (800, value) ∷ []) × IsNack value reason
NackAmong (Some met) nacks nack = (nacks ≡ []) × (nack ≡ Some met)

-- `tokens` are the PitTokens of a link packet that have not been read yet. If a PitToken has been
-- read, `tokens` is empty. If no PitToken has been read, `tokens` has the PitToken of the link
-- packet, or is empty if the link packet has no PitToken.
abbrev pub TokenAmong : Option (List ℕ) → List Field → Option (List ℕ) → Type 0
TokenAmong None tokens token = tokens ≡ optional 98 token
TokenAmong (Some met) tokens token = (tokens ≡ []) × (token ≡ Some met)

pub record Room (s : LinkSoFar) (headers : List Field) (token : Option (List ℕ)) (nack : Option ℕ) : Type 0 where
  pub sequence : length (headers_of 81 headers) ≤ room s.sequence
  pub frag_index : length (headers_of 82 headers) ≤ room s.frag_index
  pub frag_count : length (headers_of 83 headers) ≤ room s.frag_count
  pub tokens : TokenAmong s.token (headers_of 98 headers) token
  pub nacks : NackAmong s.nack (headers_of 800 headers) nack

one_more : (met : Bool) (n : ℕ) → met ≡ false → n ≤ 0 → suc n ≤ room met
one_more met n free h = rw free (omega arith)

one_less : (met : Bool) (n : ℕ) → suc n ≤ room met → (met ≡ false) × (n ≤ 0)
one_less true n h = absurd (omega arith)
one_less false n h = (refl, omega arith)

-- ---- one header field that is read

pub record Taken (s : LinkSoFar) (e : Field) (t : LinkSoFar) : Type 0 where
  pub is_header : IsHeader e
  pub leaves : (headers : List Field) (token : Option (List ℕ)) (nack : Option ℕ) → Room t headers token nack → Room s (e ∷ headers) token nack

at_most_found : (limit : ℕ) (v : List ℕ) (u t : LinkSoFar) → IsBytes v → at_most limit v u ≡ Ok t → (n : ℕ) × IsNni v n × (n ≤ limit) × (u ≡ t)
at_most_found limit v u t fits e =
    let n = bind_ok (nni_value_at v) (λ n. cond (ltb limit n) (Err Fragmented) (good u)) t e in
    let g = guard_ok (ltb limit n.0) Fragmented (good u) t n.2 in
    (n.0, number_found v n.0 fits n.1, ltb-false limit n.0 g.0, ok_is u t g.1)

sequence_found : (s t : LinkSoFar) (v : List ℕ) → s.sequence ≡ false → with_header s (81, v) ≡ Ok t → Taken s (81, v) t
sequence_found s t v free e = subst (Taken s (81, v)) (ok_is _ t e) (record {
  is_header = inl refl;
  leaves = λ headers token nack r. record { sequence = one_more s.sequence _ free r.sequence; frag_index = r.frag_index; frag_count = r.frag_count; tokens = r.tokens; nacks = r.nacks };
})

frag_index_found : (s t : LinkSoFar) (v : List ℕ) → IsBytes v → s.frag_index ≡ false → with_header s (82, v) ≡ Ok t → Taken s (82, v) t
frag_index_found s t v fits free e =
    let n = at_most_found 0 v _ t fits e in
    let zero : n.0 ≡ 0 = omega (arith, n.2) in
    subst (Taken s (82, v)) n.3 (record {
      is_header = inr (inl (refl, subst (IsNni v) zero n.1));
      leaves = λ headers token nack r. record { sequence = r.sequence; frag_index = one_more s.frag_index _ free r.frag_index; frag_count = r.frag_count; tokens = r.tokens; nacks = r.nacks };
    })

frag_count_found : (s t : LinkSoFar) (v : List ℕ) → IsBytes v → s.frag_count ≡ false → with_header s (83, v) ≡ Ok t → Taken s (83, v) t
frag_count_found s t v fits free e =
    let n = at_most_found 1 v _ t fits e in
    subst (Taken s (83, v)) n.3 (record {
      is_header = inr (inr (inl (refl, (n.0, n.1, n.2))));
      leaves = λ headers token nack r. record { sequence = r.sequence; frag_index = r.frag_index; frag_count = one_more s.frag_count _ free r.frag_count; tokens = r.tokens; nacks = r.nacks };
    })

first_token : (met token : Option (List ℕ)) (v : List ℕ) (tokens : List Field) → is_some met ≡ false → TokenAmong (Some v) tokens token → TokenAmong met ((98, v) ∷ tokens) token
first_token (Some m) token v tokens free h = absurd cc
first_token None token v tokens free h = ap (λ (fs : List Field). (98, v) ∷ fs) h.0 ∙ ap (optional 98) (sym h.1)

token_found : (s t : LinkSoFar) (v : List ℕ) → is_some s.token || not (is_token v) ≡ false → with_header s (98, v) ≡ Ok t → Taken s (98, v) t
token_found s t v free e =
    let parts = or_parts (is_some s.token) (not (is_token v)) free in
    let sizes = and_parts _ _ (not-false (is_token v) parts.1) in
    subst (Taken s (98, v)) (ok_is _ t e) (record {
      is_header = inr (inr (inr (inl (refl, (leb-true 1 (length v) sizes.0, leb-true (length v) 32 sizes.1)))));
      leaves = λ headers token nack r. record { sequence = r.sequence; frag_index = r.frag_index; frag_count = r.frag_count; tokens = first_token s.token token v (headers_of 98 headers) parts.0 r.tokens; nacks = r.nacks };
    })

first_nack : (met nack : Option ℕ) (v : List ℕ) (reason : ℕ) (nacks : List Field) → is_some met ≡ false → IsNack v reason → NackAmong (Some reason) nacks nack → NackAmong met ((800, v) ∷ nacks) nack
first_nack (Some m) nack v reason nacks free is h = absurd cc
first_nack None None v reason nacks free is h = absurd (none_is_not_some reason h.1)
first_nack None (Some n) v reason nacks free is h = (v, ap (λ (fs : List Field). (800, v) ∷ fs) h.0, subst (IsNack v) (sym (some_is n reason h.1)) is)

nack_header_found : (s t : LinkSoFar) (v : List ℕ) → IsBytes v → is_some s.nack ≡ false → with_header s (800, v) ≡ Ok t → Taken s (800, v) t
nack_header_found s t v fits free e =
    let n = bind_ok (nack_at v) (λ reason. good (record { sequence = s.sequence; frag_index = s.frag_index; frag_count = s.frag_count; token = s.token; nack = Some reason })) t e in
    let is = nack_found v n.0 fits n.1 in
    subst (Taken s (800, v)) (ok_is _ t n.2) (record {
      is_header = inr (inr (inr (inr (inl (refl, (n.0, is))))));
      leaves = λ headers token nack r. record { sequence = r.sequence; frag_index = r.frag_index; frag_count = r.frag_count; tokens = r.tokens; nacks = first_nack s.nack nack v n.0 (headers_of 800 headers) free is r.nacks };
    })

-- the type of an ignored header field is greater than 800, the type of a Nack
above : (kind : ℕ) → is_ignored_header kind ≡ true → 800 < kind
above kind is = ltb-true 800 kind (and_parts _ _ is).0

ignored_found : (s : LinkSoFar) (e : Field) → is_ignored_header e.0 ≡ true → Taken s e s
ignored_found s e is =
    let high = above e.0 is in
    record {
      is_header = inr (inr (inr (inr (inr is))));
      leaves = λ headers token nack r. record {
        sequence = rw (ne_eqb e.0 81 (omega (arith, high))) r.sequence;
        frag_index = rw (ne_eqb e.0 82 (omega (arith, high))) r.frag_index;
        frag_count = rw (ne_eqb e.0 83 (omega (arith, high))) r.frag_count;
        tokens = rw (ne_eqb e.0 98 (omega (arith, high))) r.tokens;
        nacks = rw (ne_eqb e.0 800 (omega (arith, high))) r.nacks;
      };
    }

abbrev pub TakenAt : LinkSoFar → LinkSoFar → List ℕ → ℕ → Type 0
TakenAt s t v kind = is_refused_header s (kind, v) ≡ false → with_header s (kind, v) ≡ Ok t → Taken s (kind, v) t

pub header_found : (s t : LinkSoFar) (e : Field) → IsBytes e.1 → TakenAt s t e.1 e.0
header_found s t e fits =
    elim (cases_eq e.0 81) [
      | inl is ↦ subst (TakenAt s t e.1) (sym is) (sequence_found s t e.1)
      | inr no81 ↦ elim (cases_eq e.0 82) [
        | inl is ↦ subst (TakenAt s t e.1) (sym is) (frag_index_found s t e.1 fits)
        | inr no82 ↦ elim (cases_eq e.0 83) [
          | inl is ↦ subst (TakenAt s t e.1) (sym is) (frag_count_found s t e.1 fits)
          | inr no83 ↦ elim (cases_eq e.0 98) [
            | inl is ↦ subst (TakenAt s t e.1) (sym is) (token_found s t e.1)
            | inr no98 ↦ elim (cases_eq e.0 800) [
              | inl is ↦ subst (TakenAt s t e.1) (sym is) (nack_header_found s t e.1 fits)
              | inr no800 ↦ rw (ne_eqb e.0 81 no81, ne_eqb e.0 82 no82, ne_eqb e.0 83 no83, ne_eqb e.0 98 no98, ne_eqb e.0 800 no800)
                  (λ stands taken. subst (Taken s e) (ok_is s t taken) (ignored_found s e (not-false _ stands)))
            ]
          ]
        ]
      ]
    ]

-- ---- one header field in the grammar

pub record Again (s : LinkSoFar) (e : Field) (headers : List Field) (token : Option (List ℕ)) (nack : Option ℕ) : Type 0 where
  pub after : LinkSoFar
  pub no_fragment : eqb e.0 80 ≡ false
  pub taken : take_header s e ≡ Ok after
  pub left : Room after headers token nack

abbrev AgainAt : LinkSoFar → List Field → Option (List ℕ) → Option ℕ → List ℕ → ℕ → Type 0
AgainAt s headers token nack v kind = Room s ((kind, v) ∷ headers) token nack → Again s (kind, v) headers token nack

sequence_again : (s : LinkSoFar) (v : List ℕ) (headers : List Field) (token : Option (List ℕ)) (nack : Option ℕ) → AgainAt s headers token nack v 81
sequence_again s v headers token nack r =
    let free = one_less s.sequence (length (headers_of 81 headers)) r.sequence in
    record {
      after = record { sequence = true; frag_index = s.frag_index; frag_count = s.frag_count; token = s.token; nack = s.nack };
      no_fragment = refl;
      taken = rw free.0 refl;
      left = record { sequence = free.1; frag_index = r.frag_index; frag_count = r.frag_count; tokens = r.tokens; nacks = r.nacks };
    }

frag_index_again : (s : LinkSoFar) (v : List ℕ) (headers : List Field) (token : Option (List ℕ)) (nack : Option ℕ) → IsNni v 0 → AgainAt s headers token nack v 82
frag_index_again s v headers token nack is r =
    let free = one_less s.frag_index (length (headers_of 82 headers)) r.frag_index in
    record {
      after = record { sequence = s.sequence; frag_index = true; frag_count = s.frag_count; token = s.token; nack = s.nack };
      no_fragment = refl;
      taken = rw (free.0, number_again v 0 is) refl;
      left = record { sequence = r.sequence; frag_index = free.1; frag_count = r.frag_count; tokens = r.tokens; nacks = r.nacks };
    }

frag_count_again : (s : LinkSoFar) (v : List ℕ) (headers : List Field) (token : Option (List ℕ)) (nack : Option ℕ) (n : ℕ) → IsNni v n → n ≤ 1 → AgainAt s headers token nack v 83
frag_count_again s v headers token nack n is few r =
    let free = one_less s.frag_count (length (headers_of 83 headers)) r.frag_count in
    record {
      after = record { sequence = s.sequence; frag_index = s.frag_index; frag_count = true; token = s.token; nack = s.nack };
      no_fragment = refl;
      taken = rw (free.0, number_again v n is, le-ltb 1 n few) refl;
      left = record { sequence = r.sequence; frag_index = r.frag_index; frag_count = free.1; tokens = r.tokens; nacks = r.nacks };
    }

only_token : (met token : Option (List ℕ)) (v : List ℕ) (tokens : List Field) → TokenAmong met ((98, v) ∷ tokens) token → (met ≡ None) × TokenAmong (Some v) tokens token
only_token (Some m) token v tokens h = absurd (let no = h.0 in cc)
only_token None None v tokens h = absurd cc
only_token None (Some t) v tokens h =
    let same : ◌≡◌ {A = Field} (98, t) (98, v) = cc h in
    (refl, (cc h, ap (λ (f : Field). Some f.1) same))

token_taken : (s : LinkSoFar) (v : List ℕ) → s.token ≡ None → IsToken v
    → take_header s (98, v) ≡ good (record { sequence = s.sequence; frag_index = s.frag_index; frag_count = s.frag_count; token = Some v; nack = s.nack })
token_taken s v free sizes = rw (free, le-leb 1 (length v) sizes.0, le-leb (length v) 32 sizes.1) refl

token_again : (s : LinkSoFar) (v : List ℕ) (headers : List Field) (token : Option (List ℕ)) (nack : Option ℕ) → IsToken v → AgainAt s headers token nack v 98
token_again s v headers token nack sizes r =
    let only = only_token s.token token v (headers_of 98 headers) r.tokens in
    record {
      after = record { sequence = s.sequence; frag_index = s.frag_index; frag_count = s.frag_count; token = Some v; nack = s.nack };
      no_fragment = refl;
      taken = token_taken s v only.0 sizes;
      left = record { sequence = r.sequence; frag_index = r.frag_index; frag_count = r.frag_count; tokens = only.1; nacks = r.nacks };
    }

only_nack : (met nack : Option ℕ) (v : List ℕ) (nacks : List Field) → NackAmong met ((800, v) ∷ nacks) nack → (reason : ℕ) × (met ≡ None) × IsNack v reason × NackAmong (Some reason) nacks nack
only_nack (Some m) nack v nacks h = absurd (let no = h.0 in cc)
only_nack None None v nacks h = absurd cc
only_nack None (Some n) v nacks h =
    let same : ◌≡◌ {A = Field} (800, h.0) (800, v) = cc (h.1) in
    (n, refl, subst (λ (f : Field). IsNack f.1 n) same h.2, (cc (h.1), refl))

nack_taken : (s : LinkSoFar) (v : List ℕ) (reason : ℕ) → s.nack ≡ None → nack_at v ≡ Ok reason
    → take_header s (800, v) ≡ good (record { sequence = s.sequence; frag_index = s.frag_index; frag_count = s.frag_count; token = s.token; nack = Some reason })
nack_taken s v reason free is = rw (free, is) refl

nack_header_again : (s : LinkSoFar) (v : List ℕ) (headers : List Field) (token : Option (List ℕ)) (nack : Option ℕ) → AgainAt s headers token nack v 800
nack_header_again s v headers token nack r =
    let only = only_nack s.nack nack v (headers_of 800 headers) r.nacks in
    record {
      after = record { sequence = s.sequence; frag_index = s.frag_index; frag_count = s.frag_count; token = s.token; nack = Some only.0 };
      no_fragment = refl;
      taken = nack_taken s v only.0 only.1 (nack_again v only.0 only.2);
      left = record { sequence = r.sequence; frag_index = r.frag_index; frag_count = r.frag_count; tokens = r.tokens; nacks = only.3 };
    }

ignored_again : (s : LinkSoFar) (e : Field) (headers : List Field) (token : Option (List ℕ)) (nack : Option ℕ) → is_ignored_header e.0 ≡ true → Room s (e ∷ headers) token nack → Again s e headers token nack
ignored_again s e headers token nack is r =
    let high = above e.0 is in
    let no81 = ne_eqb e.0 81 (omega (arith, high)) in
    let no82 = ne_eqb e.0 82 (omega (arith, high)) in
    let no83 = ne_eqb e.0 83 (omega (arith, high)) in
    let no98 = ne_eqb e.0 98 (omega (arith, high)) in
    let no800 = ne_eqb e.0 800 (omega (arith, high)) in
    record {
      after = s;
      no_fragment = ne_eqb e.0 80 (omega (arith, high));
      taken = rw (no81, no82, no83, no98, no800, is) refl;
      left = record {
        sequence = rw no81 at r.sequence;
        frag_index = rw no82 at r.frag_index;
        frag_count = rw no83 at r.frag_count;
        tokens = rw no98 at r.tokens;
        nacks = rw no800 at r.nacks;
      };
    }

pub header_again : (s : LinkSoFar) (e : Field) (headers : List Field) (token : Option (List ℕ)) (nack : Option ℕ) → IsHeader e → Room s (e ∷ headers) token nack → Again s e headers token nack
header_again s e headers token nack (inl is) = subst (AgainAt s headers token nack e.1) (sym is) (sequence_again s e.1 headers token nack)
header_again s e headers token nack (inr (inl h)) = subst (AgainAt s headers token nack e.1) (sym h.0) (frag_index_again s e.1 headers token nack h.1)
header_again s e headers token nack (inr (inr (inl h))) = subst (AgainAt s headers token nack e.1) (sym h.0) (frag_count_again s e.1 headers token nack h.1.0 h.1.1 h.1.2)
header_again s e headers token nack (inr (inr (inr (inl h)))) = subst (AgainAt s headers token nack e.1) (sym h.0) (token_again s e.1 headers token nack h.1)
header_again s e headers token nack (inr (inr (inr (inr (inl h))))) = subst (AgainAt s headers token nack e.1) (sym h.0) (nack_header_again s e.1 headers token nack)
header_again s e headers token nack (inr (inr (inr (inr (inr is))))) = ignored_again s e headers token nack is

-- ---- the elements of a link packet

-- what reading a link packet returns, given its PIT token, its Nack reason and its Fragment; each
-- of the three may be absent
abbrev pub held : Option (List ℕ) → Option ℕ → Option (List ℕ) → Result PlainFramed PacketFault
held token nack None = no_fragment token nack
held token nack (Some text) = fragment_at nack text >>= λ frame. good (framed_with token frame)

record Parts (s : LinkSoFar) (elements : List (Result Field TlvFault)) (framed : PlainFramed) : Type 0 where
  headers : List Field
  fragment : Option (List ℕ)
  token : Option (List ℕ)
  nack : Option ℕ
  all : elements ≡ map read (headers ++ optional 80 fragment)
  allowed : AreBytes headers → AllByRecursion IsHeader headers × Room s headers token nack
  holds : held token nack fragment ≡ Ok framed

no_token_left : (token : Option (List ℕ)) → TokenAmong token [] token
no_token_left None = refl
no_token_left (Some token) = (refl, refl)

nothing_left : (nack : Option ℕ) → NackAmong nack [] nack
nothing_left None = refl
nothing_left (Some reason) = (refl, refl)

pub no_more : (s : LinkSoFar) → Room s [] s.token s.nack
no_more s = record { sequence = omega arith; frag_index = omega arith; frag_count = omega arith; tokens = no_token_left s.token; nacks = nothing_left s.nack }

last_found : (elements : List (Result Field TlvFault)) (f framed : PlainFramed) → last_of f elements ≡ Ok framed → (elements ≡ []) × (f ≡ framed)
last_found [] f framed e = (refl, ok_is f framed e)
last_found (Err d ∷ elements) f framed e = absurd cc
last_found (Ok x ∷ elements) f framed e = absurd cc

parts_found : (s : LinkSoFar) (elements : List (Result Field TlvFault)) (framed : PlainFramed) → link_from s elements ≡ Ok framed → Parts s elements framed
parts_found s [] framed e = record { headers = []; fragment = None; token = s.token; nack = s.nack; all = refl; allowed = λ fits. (tt, no_more s); holds = e }
parts_found s (Err f ∷ elements) framed e = absurd (err_is_not_ok _ framed e)
parts_found s (Ok x ∷ elements) framed e =
    elim (eqb x.0 80) as (λ b. eqb x.0 80 ≡ b → cond b (fragment_at s.nack x.1 >>= λ f. last_of (framed_with s.token f) elements) (take_header s x >>= λ t. link_from t elements) ≡ Ok framed → Parts s (Ok x ∷ elements) framed) [
      | true ↦ λ is e.
          let f = bind_ok (fragment_at s.nack x.1) (λ f. last_of (framed_with s.token f) elements) framed e in
          let last = last_found elements (framed_with s.token f.0) framed f.2 in
          record {
            headers = [];
            fragment = Some x.1;
            token = s.token;
            nack = s.nack;
            all = λ k. read (eqb-true x.0 80 is k, x.1) ∷ last.0 k;
            allowed = λ fits. (tt, no_more s);
            holds = ap (λ (r : Result PlainFrame PacketFault). r >>= λ frame. good (framed_with s.token frame)) f.1 ∙ ap (λ (g : PlainFramed). good g) last.1;
          }
      | false ↦ λ _ e.
          let t = bind_ok (take_header s x) (λ t. link_from t elements) framed e in
          let g = guard_ok (is_refused_header s x) LpField (with_header s x) t.0 t.1 in
          let p = parts_found t.0 elements framed t.2 in
          record {
            headers = x ∷ p.headers;
            fragment = p.fragment;
            token = p.token;
            nack = p.nack;
            all = λ k. read x ∷ p.all k;
            allowed = λ fits.
                let first = header_found s t.0 x fits.0 g.0 g.1 in
                let others = p.allowed fits.1 in
                ((first.is_header, others.0), first.leaves p.headers p.token p.nack others.1);
            holds = p.holds;
          }
    ] refl e

pub token_is : (met token : Option (List ℕ)) → TokenAmong met [] token → met ≡ token
token_is None None h = refl
token_is None (Some t) h = absurd cc
token_is (Some m) token h = sym h.1

pub nack_is : (met nack : Option ℕ) → NackAmong met [] nack → met ≡ nack
nack_is None None h = refl
nack_is None (Some n) h = absurd (let no = h.1 in cc)
nack_is (Some m) nack h = sym h.1

parts_again : (s : LinkSoFar) (headers : List Field) (fragment token : Option (List ℕ)) (nack : Option ℕ) (framed : PlainFramed) → AllByRecursion IsHeader headers → Room s headers token nack → held token nack fragment ≡ Ok framed
    → link_from s (map read (headers ++ optional 80 fragment)) ≡ Ok framed
parts_again s [] None token nack framed allowed r holds = (λ k. no_fragment (token_is s.token token r.tokens k) (nack_is s.nack nack r.nacks k)) ∙ holds
parts_again s [] (Some text) token nack framed allowed r holds = (λ k. held (token_is s.token token r.tokens k) (nack_is s.nack nack r.nacks k) (Some text)) ∙ holds
parts_again s (e ∷ headers) fragment token nack framed allowed r holds =
    let a = header_again s e headers token nack allowed.0 r in
    rw (a.no_fragment, a.taken) (parts_again a.after headers fragment token nack framed allowed.1 a.left holds)

-- ---- the TLV-VALUE of a link packet

pub record LinkValue (value : List ℕ) (framed : PlainFramed) : Type 0 where
  pub headers : List Field
  pub fragment : Option (List ℕ)
  pub token : Option (List ℕ)
  pub nack : Option ℕ
  pub inner : IsElements value (headers ++ optional 80 fragment)
  pub allowed : AllByRecursion IsHeader headers
  pub once : AllByRecursion (λ kind. length (headers_of kind headers) ≤ 1) known_headers
  pub tokened : IsTokenOf headers token
  pub nacked : IsNackOf headers nack
  pub fits : MayBeBytes fragment
  pub holds : held token nack fragment ≡ Ok framed

pub one_token : (headers : List Field) (token : Option (List ℕ)) → IsTokenOf headers token → length (headers_of 98 headers) ≤ 1
one_token headers None h = omega (arith, ap length h)
one_token headers (Some t) h = omega (arith, ap length h)

pub nack_of : (headers : List Field) (nack : Option ℕ) → NackAmong None (headers_of 800 headers) nack → IsNackOf headers nack × (length (headers_of 800 headers) ≤ 1)
nack_of headers None h = (h, omega (arith, ap length h))
nack_of headers (Some reason) h = (h, omega (arith, ap length h.1))

pub nack_among : (headers : List Field) (nack : Option ℕ) → IsNackOf headers nack → NackAmong None (headers_of 800 headers) nack
nack_among headers None h = h
nack_among headers (Some reason) h = h

parts_bytes : (headers : List Field) (fragment : Option (List ℕ)) → AreBytes (headers ++ optional 80 fragment) → AreBytes headers × MayBeBytes fragment
parts_bytes [] None fits = (tt, tt)
parts_bytes [] (Some text) fits = (tt, fits.0)
parts_bytes (e ∷ headers) fragment fits =
    let others = parts_bytes headers fragment fits.1 in
    ((fits.0, others.0), others.1)

pub link_found : (value : List ℕ) (framed : PlainFramed) → IsBytes value → link_at value ≡ Ok framed → LinkValue value framed
unfolding link_at
link_found value framed fits e =
    let p = parts_found no_headers_yet (elements_of value) framed e in
    let inner = elements_read value (p.headers ++ optional 80 p.fragment) fits p.all in
    let bytes = parts_bytes p.headers p.fragment (IsBytes-fields (p.headers ++ optional 80 p.fragment) (subst IsBytes inner.1 fits)) in
    let allowed = p.allowed bytes.0 in
    let r = allowed.1 in
    let n = nack_of p.headers p.nack r.nacks in
    record {
      headers = p.headers;
      fragment = p.fragment;
      token = p.token;
      nack = p.nack;
      inner = inner;
      allowed = allowed.0;
      once = (r.sequence, (r.frag_index, (r.frag_count, (one_token p.headers p.token r.tokens, (n.1, tt)))));
      tokened = r.tokens;
      nacked = n.0;
      fits = bytes.1;
      holds = p.holds;
    }

pub link_again : (text : List ℕ) (token : Option (List ℕ)) (nack : Option ℕ) (fragment : Option (List ℕ)) (framed : PlainFramed) (h : IsLinkPacket text token nack fragment) → held token nack fragment ≡ Ok framed → link_at h.value ≡ Ok framed
unfolding link_at
link_again text token nack fragment framed h holds =
    let o = h.once in
    ap (link_from no_headers_yet) (elements_exact h.value (h.headers ++ optional 80 fragment) h.inner)
    ∙ parts_again no_headers_yet h.headers fragment token nack framed h.allowed
    (record { sequence = o.0; frag_index = o.1.0; frag_count = o.1.1.0; tokens = h.tokened; nacks = nack_among h.headers nack h.nacked }) holds
