-- Let the repository be empty at the start of a valid run. If a Data is sent to a face, this face
-- asked for the Data. If `is_data` is true of sent octets, but the octets are not read as a Data,
-- then the octets are the node's own answer to an Interest from the face that the octets are sent
-- to.
use Rattle.std.proofs.Common.{◌≡◌, ℕ, Bool, true, false, cond, List, [], ◌∷◌, refl, sym, ap, subst, ◌∙◌, Result, Ok, Err, inl, inr}
use Rattle.std.specs.Prelude.{◌≢◌, ◌⊎◌, IfSome, Option, Some, None, Contains, IsSome, IsTrue, max}
use Rattle.std.specs.FinMap as map
use Rattle.std.specs.FinMap.{entries, find, get-entries}
use Rattle.std.specs.Ordering.{is_eq}
use Rattle.std.proofs.lemmas.Cmp.{tied_itself}
use Rattle.std.proofs.lemmas.List.Elements.{All-contains}
use Rattle.sha2.specs.Sha256.{sha256}
use Rattle.ndn_tlv.specs.Element.{Field}
use Rattle.ndn_names.specs.Key.{name_cmp-antisymmetric, name_cmp-total}
use Rattle.ndn_names.specs.Order.{name_cmp}
use Rattle.ndn_packets.specs.Answers.{answers}
use Rattle.ndn_packets.specs.FrameReading.{frame_at, token_at}
use Rattle.ndn_packets.specs.Key.{key_of}
use Rattle.ndn_packets.specs.Packet.{PlainData, PlainFrame, AnInterest, AData, ANack, Idle}
use Rattle.ndn_packets.specs.declared.fault.PacketFault.{PacketFault}
use Rattle.ndn_packets.proofs.Answering.{answers_is}
use Rattle.ndn_packets.specs.Link.{IsToken}
use Rattle.ndn_packets.specs.Writing.{lp_text}
use Rattle.ndn_packets.proofs.Wholes.{data_alone, data_short}
use Rattle.pit_fib.specs.Cause.{Expires, records_after}
use Rattle.pit_fib.specs.Records.{InRecord, Records}
use Rattle.pit_fib.specs.Tokens.{IsTokenFor}
use Rattle.repo_core.specs.Objects.{Objects, first_octets, full_name_answers, if_kept, kept, served}
use Rattle.repo_core.proofs.FullNames.{as_data}
use Rattle.repo_core.proofs.Kept.{entries-kept, get-kept}
use Rattle.forwarder.specs.Event.{PlainEvent, Packet, FaceUp, FaceDown, Tick, NewRules, moment, Send, Token, sent_back, token_in}
use Rattle.forwarder.specs.OpenFaces.{is_open}
use Rattle.forwarder.specs.Verdict.{Answer}
use Rattle.forwarder.specs.Policy.{Policy, at_moment}
use Rattle.forwarder.specs.Request.{is_decided}
use Rattle.forwarder.specs.Replies.{Seen}
use Rattle.forwarder.specs.Effects.{decided_packet, packet_to_decide}
use Rattle.forwarder.specs.Runs.{Run, Start, Then, IsRun, MayReply, now_of, records_of, seen_after}
use Rattle.forwarder.specs.Allowed.{AllowedIn}
use Rattle.forwarder.specs.AskedFor.{AnswersItself, BringsPacketOn, IsOwnAnswer, WasAskedFor}
use Rattle.forwarder.specs.DataSends.{BringsOctets, IsAtHand, IsExplained, IsForwardedData, IsReply, IsReplyToCommand, IsSegmentAskedFor, is_data}
use Rattle.forwarder.proofs.CachedRuns.{allowed_then, cached_came_allowed}
use Rattle.forwarder.proofs.Contents.{back_holds, back_reads, begins, begins_data, read_is_data}
use Rattle.forwarder.proofs.Explained.{all_explained}
use Rattle.forwarder.proofs.OwnNames.{IsNamedFor, named_answers, own_named}
use Rattle.forwarder.proofs.Origins.{AllFit, token_fits, waiting_fits}
use Rattle.forwarder.proofs.Stored.{stored_is_of_allowed}

-- ---- a Data that was allowed is read again as the same Data

decided_reads : (p : Policy) (event : PlainEvent) (whole : List ℕ) (d : PlainData) → decided_packet p event ≡ Some (AData whole d) → frame_at whole ≡ Ok (AData whole d)
decided_reads p (Packet face now octets) whole d e = by_open (is_open face p.faces) e
  where
    by_decided : (packet : PlainFrame) (b : Bool) → frame_at octets ≡ Ok packet → cond b (Some packet) None ≡ Some (AData whole d) → frame_at whole ≡ Ok (AData whole d)
    by_decided packet true read e =
        let same : packet ≡ AData whole d = cc e in
        data_alone octets whole d (read ∙ ap (λ (f : PlainFrame). Ok f) same)
    by_decided packet false read e = cc e

    by_read : (r : Result PlainFrame PacketFault) → frame_at octets ≡ r → packet_to_decide p face r ≡ Some (AData whole d) → frame_at whole ≡ Ok (AData whole d)
    by_read (Err fault) read e = cc e
    by_read (Ok packet) read e = by_decided packet (is_decided p face packet) read e

    by_open : (b : Bool) → cond b (packet_to_decide p face (frame_at octets)) None ≡ Some (AData whole d) → frame_at whole ≡ Ok (AData whole d)
    by_open true e = by_read (frame_at octets) refl e
    by_open false e = cc e
decided_reads p (FaceUp face scope now) whole d e = cc e
decided_reads p (FaceDown face now) whole d e = cc e
decided_reads p (Tick now) whole d e = cc e
decided_reads p (NewRules rules keys now) whole d e = cc e

allowed_reads : (first : Policy) (run : Run) (whole : List ℕ) (d : PlainData) → AllowedIn first run (AData whole d) → frame_at whole ≡ Ok (AData whole d)
allowed_reads first Start whole d h = absurd h
allowed_reads first (Then before event answer) whole d (inl h) = allowed_reads first before whole d h
allowed_reads first (Then before event answer) whole d (inr h) = decided_reads (at_moment h.0 (moment event)) event whole d h.2.brings

-- ---- the repository stores each object that the repository serves

kept_here : (test : List Field × List ℕ → Bool) (key : List Field) (octets : List ℕ) (o : Option (List ℕ)) → if_kept test key o ≡ Some octets → (o ≡ Some octets) × (test (key, octets) ≡ true)
kept_here test key octets None e = cc e
kept_here test key octets (Some x) e = by_test (test (key, x)) refl e
  where
    by_test : (b : Bool) → test (key, x) ≡ b → cond b (Some x) None ≡ Some octets → (Some x ≡ Some octets) × (test (key, octets) ≡ true)
    by_test true is e =
        let same : x ≡ octets = cc e in
        (e, ap (λ (y : List ℕ). test (key, y)) (sym same) ∙ is)
    by_test false is e = cc e

served_row : (name : List Field) (flag : Bool) (objects : Objects) (octets : List ℕ) → served name flag objects ≡ Some octets
    → (full : List Field) × (map.get objects full ≡ Some octets) × (full_name_answers name flag full ≡ true)
served_row name flag objects octets is =
    first (entries (kept test objects)) refl (ap first_octets (entries-kept name_cmp test objects) ∙ is)
  where
    test : List Field × List ℕ → Bool
    test = λ o. full_name_answers name flag o.0

    first : (rows : List (List Field × List ℕ)) → entries (kept test objects) ≡ rows → first_octets rows ≡ Some octets
        → (full : List Field) × (map.get objects full ≡ Some octets) × (full_name_answers name flag full ≡ true)
    first [] e none = absurd cc
    first (o ∷ os) e some =
        let found : map.get (kept test objects) o.0 ≡ Some octets = get-entries (kept test objects) o.0 ∙ ap (find name_cmp o.0) e
        ∙ ap (λ r. cond (is_eq r) (Some o.1) (find name_cmp o.0 os)) (tied_itself name_cmp-total o.0) ∙ some in
        let here = kept_here test o.0 octets (map.get objects o.0) (sym (get-kept name_cmp-antisymmetric test o.0 objects) ∙ found) in
        (o.0, here.0, here.1)

-- ---- the octets that are sent

some_ask : (o : Option InRecord) → IsSome o → (ask : InRecord) × (o ≡ Some ask)
some_ask None is = cc is
some_ask (Some ask) is = (ask, refl)

module _ (first : Policy) (past : Run) (event : PlainEvent) (answer : Answer) (reply : MayReply first past event answer) (none : first.held.objects ≡ map.empty)
    (is : IsRun first past) (fits : BringsOctets event) (face : ℕ) (octets : List ℕ) where
  abbrev pub now : ℕ
  now = max (now_of past) (moment event)

  abbrev pub q : Policy
  q = at_moment reply.was (moment event)

  abbrev pub seen : Seen
  seen = seen_after past q reply.waiting

  -- if the packet is a Data, the face asked for this Data
  abbrev Asked : PlainFrame → Type 0
  Asked (AData whole d) = WasAskedFor first past reply.was event (face, octets) whole d
  Asked (AnInterest whole i) = Unit {0}
  Asked (ANack reason whole i) = Unit {0}
  Asked Idle = Unit {0}

  same_frame : (packet other : PlainFrame) → frame_at octets ≡ Ok packet → frame_at octets ≡ Ok other → other ≡ packet
  same_frame packet other read again = (let e : Ok packet ≡ Ok other = sym read ∙ again in cc e)

  linked : AllFit seen.records
  linked = waiting_fits past now reply.waiting reply.is_waiting

  -- if `IsTokenFor` is true of `token`, then `token` is a valid token or None
  given_token : (name : List Field) (digest : List ℕ) (token : Token) → IsTokenFor seen.records name digest face token → IfSome token IsToken
  given_token name digest token (inl none) = subst (λ (t : Token). IfSome t IsToken) (sym none.1) tt
  given_token name digest token (inr some) = subst (λ (t : Token). IfSome t IsToken) (sym some.3) (linked some.0 face some.1 some.2.asks.1).is_token

  forwarded_asked : (f : IsForwardedData seen event (face, octets)) → (frame_at octets ≡ Ok (AData f.whole f.packet)) × Asked (AData f.whole f.packet)
  forwarded_asked f =
      let key = f.waits.0 in
      let waits = some_ask (map.get (records_after (Expires now) key (records_of past key)).in_records face)
      (subst (λ (r : Records). IsSome (map.get r.in_records face)) (reply.is_waiting.records key) f.waits.2) in (
        ap (λ (s : Send). frame_at s.1) f.received
            ∙ back_reads f.token f.octets f.whole f.packet (given_token f.packet.name (sha256 f.whole) f.token f.is_token) (data_short f.octets f.whole f.packet f.read) f.read,
        inl (
          record { rule = f.rule; brings = f.decided; said = f.allowed },
          record { key = key; in_record = waits.0; waits = waits.1; answered = f.waits.1 },
        ),
      )

  module _ (r : IsReply seen event (face, octets)) where
    abbrev brought : BringsPacketOn event face (AnInterest r.whole r.interest)
    brought = record { now = r.now; octets = r.octets; brings = r.brings; read = r.read }

    sent_packet : octets ≡ lp_text (token_at r.octets) None r.packet
    sent_packet = ap (λ (s : Send). s.1) r.answered

    -- the packet is sent back with the token of the event's packet
    sent_with : ◌≡◌ {A = Send} (face, octets) (sent_back face (token_in event) r.packet)
    sent_with = r.answered ∙ ap (λ (t : Token). sent_back face t r.packet) (sym (ap token_in r.brings))

    own_token : IfSome (token_at r.octets) IsToken
    own_token = token_fits r.octets (token_at r.octets) refl

    -- Let the packet that is sent back be the Data `d`. Let `d` answer the Interest of this event,
    -- and let `d` be allowed in an earlier event. Then the sent octets are read as `d`, and the
    -- face asked for `d`.
    earlier : (whole : List ℕ) (d : PlainData) → r.packet ≡ whole → AllowedIn first past (AData whole d)
        → IsTrue (answers d.name (sha256 whole) r.interest.name r.interest.can_be_prefix) → (frame_at octets ≡ Ok (AData whole d)) × Asked (AData whole d)
    earlier whole d same allowed answered =
        let read = allowed_reads first past whole d allowed in (
          ap frame_at (sent_packet ∙ ap (λ (p : List ℕ). lp_text (token_at r.octets) None p) same)
              ∙ back_reads (token_at r.octets) whole whole d own_token (data_short whole whole d read) read,
          inr (r.whole, r.interest, brought, (answered, inl allowed), sent_with ∙ ap (sent_back face (token_in event)) same),
        )

    -- a cached or stored Data is read from its own octets
    pub cached_frame : seen.MayGive (key_of r.interest) (Some r.packet) → (d : PlainData) × (frame_at r.packet ≡ Ok (AData r.packet d))
    cached_frame (c, holds, serves, same) =
        let came = cached_came_allowed first past c is holds in
        let read = allowed_reads first past c.octets came.0 (allowed_then first past (AData c.octets came.0) c.arrival came.1) in
        (came.0, subst (λ (text : List ℕ). frame_at text ≡ Ok (AData text came.0)) (sym same) read)

    pub stored_frame : served r.interest.name r.interest.can_be_prefix seen.policy.held.objects ≡ Some r.packet → (d : PlainData) × (frame_at r.packet ≡ Ok (AData r.packet d))
    stored_frame stored =
        let row = served_row r.interest.name r.interest.can_be_prefix seen.policy.held.objects r.packet stored in
        let came = stored_is_of_allowed first reply.was past row.0 r.packet none reply.is_policy row.1 in
        (came.0, allowed_reads first past r.packet came.0 came.1)

    cached_asked : seen.MayGive (key_of r.interest) (Some r.packet) → (whole : List ℕ) × (d : PlainData) × (frame_at octets ≡ Ok (AData whole d)) × Asked (AData whole d)
    cached_asked (c, holds, serves, same) =
        let i = r.interest in
        let came = cached_came_allowed first past c is holds in
        let d = came.0 in
        let answered : IsTrue (answers c.name c.digest i.name i.can_be_prefix) = (answers_is c.name i.name c.digest i.can_be_prefix).1 serves.0 in
        let named : IsTrue (answers d.name (sha256 c.octets) i.name i.can_be_prefix) = subst (λ (n : List Field). IsTrue (answers n (sha256 c.octets) i.name i.can_be_prefix)) came.2
        (subst (λ (h : List ℕ). IsTrue (answers c.name h i.name i.can_be_prefix)) came.3 answered) in
        let found = earlier c.octets d same (allowed_then first past (AData c.octets d) c.arrival came.1) named in
        (c.octets, d, found.0, found.1)

    stored_asked : served r.interest.name r.interest.can_be_prefix seen.policy.held.objects ≡ Some r.packet
        → (whole : List ℕ) × (d : PlainData) × (frame_at octets ≡ Ok (AData whole d)) × Asked (AData whole d)
    stored_asked stored =
        let i = r.interest in
        let row = served_row i.name i.can_be_prefix seen.policy.held.objects r.packet stored in
        let came = stored_is_of_allowed first reply.was past row.0 r.packet none reply.is_policy row.1 in
        let d = came.0 in
        let answered : IsTrue (answers d.name (sha256 r.packet) i.name i.can_be_prefix) =
        sym (as_data i.name d.name (sha256 r.packet) i.can_be_prefix) ∙ ap (full_name_answers i.name i.can_be_prefix) (sym came.2) ∙ row.2 in
        let found = earlier r.packet d refl came.1 answered in
        (r.packet, d, found.0, found.1)

    abbrev pub MadeIt : Type 0
    MadeIt = IsReplyToCommand q face r.whole r.interest r.packet ⊎ IsSegmentAskedFor q face r.interest r.packet

    own_name : MadeIt → IsNamedFor r.interest r.packet
    own_name made = own_named q face r.octets r.whole r.interest r.packet (subst BringsOctets r.brings fits) r.read made

    pub own_begun : MadeIt → begins 6 r.packet ≡ true
    own_begun made = ap (begins 6) (own_name made).its.written ∙ begins_data _

    own_answer : MadeIt → IsOwnAnswer q face r.whole r.interest r.packet
    own_answer made = (made, (own_name made).its)

    own_asked : (whole : List ℕ) (d : PlainData) → frame_at octets ≡ Ok (AData whole d) → MadeIt → Asked (AData whole d)
    own_asked whole d read made =
        let name = own_name made in
        let same : r.packet ≡ whole = back_holds (token_at r.octets) r.packet whole d own_token (own_begun made) (sym (ap frame_at sent_packet) ∙ read) in
        let answered = named_answers r.interest whole d (sha256 whole) (subst (IsNamedFor r.interest) same name) (data_alone octets whole d read) in
        inr (
          r.whole,
          r.interest,
          brought,
          (answered, inr (subst (IsOwnAnswer q face r.whole r.interest) same (own_answer made))),
          sent_with ∙ ap (sent_back face (token_in event)) same,
        )

  by_frame : (whole : List ℕ) (d : PlainData) → frame_at octets ≡ Ok (AData whole d) → (packet : PlainFrame) × (frame_at octets ≡ Ok packet) × Asked packet → Asked (AData whole d)
  by_frame whole d read found = subst Asked (same_frame (AData whole d) found.0 read found.1) found.2

  pub sent_was_asked_for : (whole : List ℕ) (d : PlainData) → Contains answer.sends (face, octets) → frame_at octets ≡ Ok (AData whole d) → WasAskedFor first past reply.was event (face, octets) whole d
  sent_was_asked_for whole d sent read =
      by_cause (All-contains (IsExplained seen event) answer.sends (face, octets) (all_explained seen event answer linked fits reply.replies) sent)
    where
      by_hand : (r : IsReply seen event (face, octets)) → IsAtHand seen face r.whole r.interest r.packet → Asked (AData whole d)
      by_hand r (inl given) = let found = cached_asked r given in by_frame whole d read (AData found.0 found.1, found.2, found.3)
      by_hand r (inr (inl stored)) = let found = stored_asked r stored in by_frame whole d read (AData found.0 found.1, found.2, found.3)
      by_hand r (inr (inr own)) = own_asked r whole d read own

      by_cause : IsExplained seen event (face, octets) → Asked (AData whole d)
      by_cause (inl f) = let found = forwarded_asked f in by_frame whole d read (AData f.whole f.packet, found.0, found.1)
      by_cause (inr (inl r)) = by_hand r r.at_hand
      by_cause (inr (inr other)) = (let yes = read_is_data octets whole d read in cc (other, yes))

  pub unread_is_own : Contains answer.sends (face, octets) → is_data octets ≡ true → ((whole : List ℕ) (d : PlainData) → frame_at octets ≢ Ok (AData whole d))
      → AnswersItself reply.was event (face, octets)
  unread_is_own sent is unread =
      by_cause (All-contains (IsExplained seen event) answer.sends (face, octets) (all_explained seen event answer linked fits reply.replies) sent)
    where
      by_hand : (r : IsReply seen event (face, octets)) → IsAtHand seen face r.whole r.interest r.packet → AnswersItself reply.was event (face, octets)
      by_hand r (inl given) = let found = cached_asked r given in absurd (unread found.0 found.1 found.2)
      by_hand r (inr (inl stored)) = let found = stored_asked r stored in absurd (unread found.0 found.1 found.2)
      by_hand r (inr (inr own)) = (r.whole, r.packet, r.interest, brought r, own_answer r own, sent_with r)

      by_cause : IsExplained seen event (face, octets) → AnswersItself reply.was event (face, octets)
      by_cause (inl f) = absurd (unread f.whole f.packet (forwarded_asked f).0)
      by_cause (inr (inl r)) = by_hand r r.at_hand
      by_cause (inr (inr other)) = cc (is, other)
