-- A PIT token in a valid answer goes to the face that brought it.
use Rattle.std.proofs.Common.{◌≡◌, ℕ, List, [], ◌∷◌, refl, sym, ap, subst, ◌∙◌, inl, inr}
use Rattle.std.specs.Prelude.{◌⊎◌, IfSome, None, Some, Contains, max}
use Rattle.std.specs.FinMap as map
use Rattle.std.specs.FinMap.{get-empty}
use Rattle.std.specs.Ordering.{nat_cmp}
use Rattle.std.proofs.lemmas.List.Elements.{All-contains, Contains-append_left, Contains-append_right, Contains-push}
use Rattle.sha2.specs.Sha256.{sha256}
use Rattle.ndn_packets.specs.FrameReading.{token_at}
use Rattle.ndn_packets.specs.Key.{PlainKey, key_of}
use Rattle.ndn_packets.specs.Link.{IsToken}
use Rattle.ndn_packets.specs.Writing.{lp_text}
use Rattle.pit_fib.specs.Cause.{Expires, records_after}
use Rattle.pit_fib.specs.Records.{InRecord, Records}
use Rattle.pit_fib.specs.Tokens.{IsTokenFor}
use Rattle.forwarder.specs.Event.{PlainEvent, Send, Token, moment, token_in}
use Rattle.forwarder.specs.Verdict.{Answer}
use Rattle.forwarder.specs.Policy.{Policy, at_moment}
use Rattle.forwarder.specs.Replies.{Seen}
use Rattle.forwarder.specs.Kept.{IsKept}
use Rattle.forwarder.specs.Runs.{Run, Start, Then, IsRun, MayReply, events_back, now_of, records_of, seen_after}
use Rattle.forwarder.specs.DataSends.{BringsOctets, IsAtHand, IsForwardedData, IsReply}
use Rattle.forwarder.specs.TokenOwners.{BringsToken, IsOwnToken}
use Rattle.forwarder.proofs.AskedFor.{cached_frame, own_begun, stored_frame}
use Rattle.forwarder.proofs.Explained.{IsFromEvent, IsFromRecord, IsKind, IsNackBack, all_kinds}
use Rattle.forwarder.proofs.KeptInterests.{kept_or_waited, waited_before}
use Rattle.forwarder.proofs.Origins.{AllFit, token_fits, waiting_fits}
use Rattle.forwarder.proofs.TokensRead.{back_gives, data_bare, interest_bare, nack_gives, read_bare}

-- ---- where the token of an in-record comes from

-- an event of the run brought on the face an Interest of this key with this token
record CameWith (past : Run) (key : PlainKey) (face : ℕ) (token : List ℕ) : Type 0 where
  event : PlainEvent
  came : Contains (events_back past) event
  brings : BringsToken event key face token

kept_came : (past : Run) (now : ℕ) (event : PlainEvent) (answer : Answer) (key : PlainKey) (face : ℕ) (r : InRecord) (token : List ℕ) → IsKept now event answer key face r → r.token ≡ Some token
    → CameWith (Then past event answer) key face token
kept_came past now event answer key face r token kept is =
    let passed = kept.is_passed in
    record {
      event = event;
      came = Contains-append_left (event ∷ []) (events_back past) event (Contains-push [] event);
      brings = record {
        whole = kept.whole;
        interest = kept.interest;
        brings = record { now = passed.now; octets = passed.octets; brings = passed.brings; read = passed.read };
        is_key = kept.is_key;
        is_token = sym (ap (λ (x : InRecord). x.token) kept.is_record) ∙ is;
      };
    }

came_later : (past : Run) (event : PlainEvent) (answer : Answer) (key : PlainKey) (face : ℕ) (token : List ℕ) → CameWith past key face token → CameWith (Then past event answer) key face token
came_later past event answer key face token was =
    record { event = was.event; came = Contains-append_right (event ∷ []) (events_back past) was.event was.came; brings = was.brings }

token_came : (past : Run) (key : PlainKey) (face : ℕ) (r : InRecord) (token : List ℕ) → map.get (records_of past key).in_records face ≡ Some r → r.token ≡ Some token → CameWith past key face token
token_came Start key face r token has is = (let none : map.get (records_of Start key).in_records face ≡ None = get-empty nat_cmp face in cc (none, has))
token_came (Then past event answer) key face r token has is =
    elim (kept_or_waited past event answer key face r has) [
      | inl kept ↦ kept_came past (max (now_of past) (moment event)) event answer key face r token kept is
      | inr was ↦ came_later past event answer key face token (token_came past key face r token was is)
    ]

-- ---- each kind of send

module _ (first : Policy) (past : Run) (event : PlainEvent) (answer : Answer) (reply : MayReply first past event answer) (none : first.held.objects ≡ map.empty)
    (is : IsRun first past) (fits : BringsOctets event) (face : ℕ) (octets token : List ℕ) (has : token_at octets ≡ Some token) where
  abbrev now : ℕ
  now = max (now_of past) (moment event)

  abbrev seen : Seen
  seen = seen_after past (at_moment reply.was (moment event)) reply.waiting

  linked : AllFit seen.records
  linked = waiting_fits past now reply.waiting reply.is_waiting

  read_from : (text : List ℕ) → octets ≡ text → token_at text ≡ Some token
  read_from text same = ap token_at (sym same) ∙ has

  from_record : (key : PlainKey) (r : InRecord) → map.get (seen.records key).in_records face ≡ Some r → r.token ≡ Some token → IsOwnToken past event face token
  from_record key r found own =
      let waits : map.get (records_after (Expires now) key (records_of past key)).in_records face ≡ Some r = sym (ap (λ (rs : Records). map.get rs.in_records face) (reply.is_waiting.records key)) ∙ found in
      let came = token_came past key face r token (waited_before past now key face r waits) own in
      inr (record { key = key; in_record = r; waits = waits; is_token = own; event = came.event; came = came.came; brings = came.brings })

  forwarded_own : IsForwardedData seen event (face, octets) → IsOwnToken past event face token
  forwarded_own f = by_token f.is_token
    where
      given : IfSome f.token IsToken → f.token ≡ Some token
      given is = back_gives f.token f.whole is (read_bare f.octets f.whole f.packet f.read) token (read_from (lp_text f.token None f.whole) (ap (λ (s : Send). s.1) f.received))

      by_token : IsTokenFor seen.records f.packet.name (sha256 f.whole) face f.token → IsOwnToken past event face token
      by_token (inl nobody) =
          let e = given (subst (λ (t : Token). IfSome t IsToken) (sym nobody.1) tt) in
          let no = nobody.1 in cc (e, no)
      by_token (inr (key, r, last, same)) =
          from_record key r last.asks.1 (sym same ∙ given (subst (λ (t : Token). IfSome t IsToken) (sym same) (linked key face r last.asks.1).is_token))

  reply_own : IsReply seen event (face, octets) → IsOwnToken past event face token
  reply_own r = inl (
    key_of r.interest,
    record {
      whole = r.whole;
      interest = r.interest;
      brings = record { now = r.now; octets = r.octets; brings = r.brings; read = r.read };
      is_key = refl;
      is_token = ap token_in r.brings ∙ back_gives (token_at r.octets) r.packet (token_fits r.octets (token_at r.octets) refl) (bare r.at_hand) token
          (read_from (lp_text (token_at r.octets) None r.packet) (ap (λ (s : Send). s.1) r.answered));
    },
  )
    where
      bare : IsAtHand seen face r.whole r.interest r.packet → token_at r.packet ≡ None
      bare (inl given) =
          let found = cached_frame first past event answer reply none is fits face octets r given in
          read_bare r.packet r.packet found.0 found.1
      bare (inr (inl stored)) =
          let found = stored_frame first past event answer reply none is fits face octets r stored in
          read_bare r.packet r.packet found.0 found.1
      bare (inr (inr own)) = data_bare r.packet (own_begun first past event answer reply none is fits face octets r own)

  nack_own : IsNackBack seen event (face, octets) → IsOwnToken past event face token
  nack_own k = by_from k.from
    where
      given : k.token ≡ Some token
      given = nack_gives k.token k.reason k.interest k.is_token k.short token (read_from (lp_text k.token (Some k.reason) k.interest) (ap (λ (s : Send). s.1) k.nacked))

      by_from : IsFromEvent event face k.token k.interest ⊎ IsFromRecord seen face k.token → IsOwnToken past event face token
      by_from (inl (i, brings, same)) =
          inl (key_of i, record { whole = k.interest; interest = i; brings = brings; is_key = refl; is_token = sym same ∙ given })
      by_from (inr (key, r, found, same)) = from_record key r found (sym same ∙ given)

  -- a token in an answer goes to the face that brought it
  pub token_goes_back : Contains answer.sends (face, octets) → IsOwnToken past event face token
  token_goes_back sent = by_kind (All-contains (IsKind seen event) answer.sends (face, octets) (all_kinds seen event answer linked fits reply.replies) sent)
    where
      by_kind : IsKind seen event (face, octets) → IsOwnToken past event face token
      by_kind (inl f) = forwarded_own f
      by_kind (inr (inl r)) = reply_own r
      by_kind (inr (inr (inl k))) = nack_own k
      by_kind (inr (inr (inr begun))) = (let no = interest_bare octets begun in cc (no, has))
