-- Each send of an answer is of one of four kinds, and so has an explanation.
use Rattle.std.proofs.Common.{ap, ◌∙◌, ◌≡◌, ℕ, Bool, true, false, List, [], ◌∷◌, map, refl, sym, subst, Result, Ok, Err, inl, inr, ◌≤◌}
use Rattle.std.specs.Prelude.{◌⊎◌, Option, Some, None, IsTrue, nat_le, length, not, ◌==◌, ◌&&◌, ◌||◌, if◌then◌else◌, IfSome}
use Rattle.std.specs.List.{All}
use Rattle.std.specs.FinMap as map_of
use Rattle.std.proofs.lemmas.Bool.{eq-eqb}
use Rattle.std.proofs.lemmas.List.Elements.{All-cons, All-nil, All-head, All-tail, All-weaker}
use Rattle.ndn_packets.specs.FrameReading.{frame_at, token_at}
use Rattle.ndn_packets.specs.Key.{PlainKey, key_of}
use Rattle.ndn_packets.specs.Packet.{PlainInterest, PlainData, PlainFrame, AnInterest, AData, ANack, Idle}
use Rattle.ndn_packets.specs.Link.{IsToken}
use Rattle.ndn_packets.specs.Writing.{AreOctets, reply_text}
use Rattle.sha2.specs.Sha256.{sha256}
use Rattle.ndn_packets.proofs.Wholes.{interest_short}
use Rattle.ndn_packets.specs.declared.fault.PacketFault.{PacketFault}
use Rattle.ndn_packets.specs.declared.types.TheConstants.{DUPLICATE, NO_ROUTE}
use Rattle.info_rules.specs.declared.decision.Decision.{Decision}
use Rattle.info_rules.specs.declared.decision.Decision.TheVariants as decided
use Rattle.pit_fib.specs.declared.nacked.Nacked.{Nacked}
use Rattle.pit_fib.specs.declared.nacked.Nacked.TheVariants as nacks
use Rattle.pit_fib.specs.FaceSet.{has_face}
use Rattle.pit_fib.specs.Pit.{loops, moments, nacked_answer}
use Rattle.pit_fib.specs.Records.{InRecord, InRecords, is_alive}
use Rattle.pit_fib.specs.Tokens.{IsTokenFor}
use Rattle.strategies.specs.declared.strategy.Choice.{Choice}
use Rattle.strategies.specs.declared.strategy.Choice.TheVariants as choices
use Rattle.mgmt_core.specs.Writing.{segment_at}
use Rattle.repo_core.specs.declared.reply.Want.{Want}
use Rattle.repo_core.specs.Objects.{served}
use Rattle.pit_fib.specs.declared.face_set.TheConstants.{MAX_FACES}
use Rattle.forwarder.specs.Event.{PlainEvent, Packet, FaceUp, FaceDown, Tick, NewRules, Send, Token, nacked_back, sent_back, token_in}
use Rattle.forwarder.specs.OpenFaces.{is_open}
use Rattle.forwarder.specs.Event.{to_each}
use Rattle.forwarder.specs.Verdict.{Answer, DropReason, Dropped, IfTrueElse, BadFace, FaceOpen, FacesFull, Idle as IsIdle, Loop, Malformed, NoFace, NoSegment, PitFull, Scope as OutOfScope, dropped, passed}
use Rattle.forwarder.specs.Request.{ListAsked, Request, Refused, ForList, ForTables, ForRepository, ForData, is_command, is_out_of_scope, request_of}
use Rattle.forwarder.specs.NextHops.{ask_for, ask_from, choice_for, sent_on}
use Rattle.forwarder.specs.Deciding.{IsDecidedAs}
use Rattle.forwarder.specs.Effects.{decided_packet, packet_to_decide}
use Rattle.forwarder.specs.Commands.{repository_reply, allowed_reply, command_answer, fetch_sends, fetch_text, is_unwritable, reply_content, to_chosen}
use Rattle.forwarder.specs.Datasets.{is_present, list_answer, dataset_text, segment_answer, segment_data, segment_name}
use Rattle.forwarder.specs.Replies.{Seen, Replies, RepliesByDecision, RepliesForData, RepliesToData, RepliesToNack, RepliesToPacket, RepliesToRequest, by_content_store, by_strategy, nack_answer, opening_answer, by_repository, Askers, faces_of, sent_to}
use Rattle.forwarder.specs.AskedFor.{BringsPacketOn}
use Rattle.forwarder.specs.DataSends.{BringsOctets, EachIsExplained, IsAtHand, IsExplained, IsForwardedData, IsReply, is_data}
use Rattle.forwarder.proofs.Contents.{begins, begins_interest, interest_is_neither, nack_is_no_data, read_begins, sent_on_begins}
use Rattle.forwarder.proofs.Origins.{AllFit, FitsLink, token_fits}
use Rattle.forwarder.proofs.NackSteps.{all_entries}

-- ---- the kinds of sends

-- a Nack around `interest` has the token of the Interest that the event brings
abbrev pub IsFromEvent : PlainEvent → ℕ → Token → List ℕ → Type 0
IsFromEvent event face token interest = (i : PlainInterest) × BringsPacketOn event face (AnInterest interest i) × (token ≡ token_in event)

-- the token is that of an in-record of the face
abbrev pub IsFromRecord : Seen → ℕ → Token → Type 0
IsFromRecord seen face token = (key : PlainKey) × (r : InRecord) × (map_of.get (seen.records key).in_records face ≡ Some r) × (token ≡ r.token)

-- the send is a Nack around an Interest that came on the face of the send, with the token of that
-- Interest
pub record IsNackBack (seen : Seen) (event : PlainEvent) (sent : Send) : Type 0 where
  pub token : Token
  pub reason : ℕ
  pub interest : List ℕ
  pub nacked : sent ≡ nacked_back sent.0 token reason interest
  pub is_token : IfSome token IsToken
  pub short : length interest ≤ 8800
  pub from : IsFromEvent event sent.0 token interest ⊎ IsFromRecord seen sent.0 token

-- the send forwards a Data, replies to the Interest of the event, is a Nack, or is an Interest
-- without a link packet
abbrev pub IsKind : Seen → PlainEvent → Send → Type 0
IsKind seen event sent = IsForwardedData seen event sent ⊎ (IsReply seen event sent ⊎ (IsNackBack seen event sent ⊎ (begins 5 sent.1 ≡ true)))

abbrev pub EachIsKind : Seen → PlainEvent → Answer → Type 0
EachIsKind seen event answer = All (IsKind seen event) answer.sends

-- if the send of `octets` to each face has a property, then all sends of `to_each faces octets`
-- have this property
all_to_each : (P : Send → Type 0) (octets : List ℕ) (faces : List ℕ) → ((face : ℕ) → P (face, octets)) → All P (to_each faces octets)
all_to_each P octets [] each = All-nil P
all_to_each P octets (face ∷ faces) each = All-cons P (face, octets) (to_each faces octets) (each face) (all_to_each P octets faces each)

one_send : (P : Send → Type 0) (sent : Send) → P sent → All P (sent ∷ [])
one_send P sent p = All-cons P sent [] p (All-nil P)

each_is : (seen : Seen) (event : PlainEvent) (answer other : Answer) → answer ≡ other → EachIsKind seen event other → EachIsKind seen event answer
each_is seen event answer other e h = subst (λ (a : Answer). EachIsKind seen event a) (sym e) h

no_sends : (seen : Seen) (event : PlainEvent) (answer : Answer) (reason : DropReason) → answer ≡ dropped reason → EachIsKind seen event answer
no_sends seen event answer reason e = each_is seen event answer (dropped reason) e (All-nil (IsKind seen event))

nack_explained : (seen : Seen) (event : PlainEvent) (face : ℕ) (token : Token) (reason : ℕ) (interest : List ℕ) → IfSome token IsToken → length interest ≤ 8800
    → IsFromEvent event face token interest ⊎ IsFromRecord seen face token → IsKind seen event (nacked_back face token reason interest)
nack_explained seen event face token reason interest is short from =
    inr (inr (inl (record { token = token; reason = reason; interest = interest; nacked = refl; is_token = is; short = short; from = from })))

-- the Interest by which the node fetches a Data begins with the type of an Interest
fetch_begins : (want : Want) (nonce : List ℕ) → begins 5 (fetch_text want nonce) ≡ true
fetch_begins want nonce = begins_interest _

-- ---- the sends in the answer to an Interest

module _ (seen : Seen) (face now : ℕ) (octets whole : List ℕ) (i : PlainInterest) (fits : AreOctets octets) (read : frame_at octets ≡ Ok (AnInterest whole i)) where
  abbrev event : PlainEvent
  event = Packet face now octets

  abbrev token : Token
  token = token_at octets

  is_token : IfSome token IsToken
  is_token = token_fits octets token refl

  short : length whole ≤ 8800
  short = interest_short octets whole i read

  brought : IsFromEvent event face token whole ⊎ IsFromRecord seen face token
  brought = inl (i, record { now = now; octets = octets; brings = refl; read = read }, refl)

  hand : (text : List ℕ) → IsAtHand seen face whole i text → IsKind seen event (sent_back face token text)
  hand text h = inr (inl (record { now = now; octets = octets; whole = whole; interest = i; brings = refl; read = read; packet = text; at_hand = h; answered = refl }))

  reply_explained : is_command (request_of seen.policy face i) ≡ true → (said : Decision) → IsDecidedAs seen.policy (AnInterest whole i) said
      → IsKind seen event (sent_back face token (reply_text i.name (reply_content seen.policy face i said)))
  reply_explained is said says = hand _ (inr (inr (inl (is, (said, says, refl)))))

  chosen_explained : (choice : Choice) (want : Want) → All (IsKind seen event) (to_chosen choice (fetch_text want i.nonce))
  chosen_explained choices.NoRoute want = All-nil (IsKind seen event)
  chosen_explained (choices.Send faces) want =
      all_to_each (IsKind seen event) (fetch_text want i.nonce) faces (λ f. inr (inr (inr (fetch_begins want i.nonce))))

  fetch_explained : (want : Option Want) → All (IsKind seen event) (fetch_sends seen.policy i.nonce want)
  fetch_explained None = All-nil (IsKind seen event)
  fetch_explained (Some want) = by_writable (is_unwritable want i.nonce)
    where
      by_writable : (b : Bool) → All (IsKind seen event) (if b then [] else to_chosen (choice_for seen.policy want.name map_of.empty (ask_for seen.policy want.name)) (fetch_text want i.nonce))
      by_writable true = All-nil (IsKind seen event)
      by_writable false = chosen_explained (choice_for seen.policy want.name map_of.empty (ask_for seen.policy want.name)) want

  fetches_explained : (r : Request) → All (IsKind seen event) (allowed_reply seen.policy face i r).fetches
  fetches_explained (Refused reason) = All-nil (IsKind seen event)
  fetches_explained (ForList asked) = All-nil (IsKind seen event)
  fetches_explained ForTables = All-nil (IsKind seen event)
  fetches_explained ForRepository = fetch_explained (repository_reply seen.policy i).fetch
  fetches_explained ForData = All-nil (IsKind seen event)

  command_explained : is_command (request_of seen.policy face i) ≡ true → (said : Decision) → IsDecidedAs seen.policy (AnInterest whole i) said
      → EachIsKind seen event (command_answer seen.policy face token i said)
  command_explained is (decided.Allowed rule) says =
      let reply = allowed_reply seen.policy face i (request_of seen.policy face i) in
      All-cons (IsKind seen event) (sent_back face token (reply_text i.name reply.content)) reply.fetches (reply_explained is (decided.Allowed rule) says) (fetches_explained (request_of seen.policy face i))
  command_explained is (decided.Denied rule reason) says = one_send (IsKind seen event) _ (reply_explained is (decided.Denied rule reason) says)
  command_explained is decided.NoRule says = one_send (IsKind seen event) _ (reply_explained is decided.NoRule says)

  -- The answer to an Interest for a list. `b` is true if the Interest requests the current version
  -- or names no version, and false if the Interest requests another version. If `b` is true and the
  -- list has the segment, the answer is the segment. In all other cases, the Interest is dropped.
  abbrev by_present : Token → ListAsked → Bool → Answer
  by_present t asked b =
      if b then segment_answer face t (segment_name asked.kind seen.policy.table_number asked.segment) (segment_at (dataset_text seen.policy asked.kind) asked.segment) else dropped NoSegment

  part_explained : (asked : ListAsked) → request_of seen.policy face i ≡ ForList asked → (part : Option (List ℕ × ℕ))
      → list_answer seen.policy face token asked ≡ segment_answer face token (segment_name asked.kind seen.policy.table_number asked.segment) part
      → list_answer seen.policy face None asked ≡ segment_answer face None (segment_name asked.kind seen.policy.table_number asked.segment) part
      → EachIsKind seen event (list_answer seen.policy face token asked)
  part_explained asked is None e bare = no_sends seen event (list_answer seen.policy face token asked) NoSegment e
  part_explained asked is (Some part) e bare =
      let text = segment_data (segment_name asked.kind seen.policy.table_number asked.segment) part.0 part.1 in
      each_is seen event (list_answer seen.policy face token asked) _ e (one_send (IsKind seen event) (sent_back face token text) (hand text (inr (inr (inr (asked, is, bare))))))

  list_explained : (asked : ListAsked) → request_of seen.policy face i ≡ ForList asked → EachIsKind seen event (list_answer seen.policy face token asked)
  list_explained asked is = by_version (is_present seen.policy asked.version) refl
    where
      by_version : (b : Bool) → is_present seen.policy asked.version ≡ b → EachIsKind seen event (list_answer seen.policy face token asked)
      by_version true e = part_explained asked is (segment_at (dataset_text seen.policy asked.kind) asked.segment) (ap (by_present token asked) e) (ap (by_present None asked) e)
      by_version false e = no_sends seen event (list_answer seen.policy face token asked) NoSegment (ap (by_present token asked) e)

  forwarded_explained : (key : PlainKey) (choice : Choice) → EachIsKind seen event (by_strategy seen key whole i face token choice)
  forwarded_explained key choices.NoRoute = one_send (IsKind seen event) (nacked_back face token NO_ROUTE whole) (nack_explained seen event face token NO_ROUTE whole is_token short brought)
  forwarded_explained key (choices.Send faces) = by_full (not (is_alive (seen.records key)) && seen.is_full)
    where
      by_full : (b : Bool) → EachIsKind seen event (if b then dropped PitFull else passed (to_each faces (sent_on whole i.hop_limit)))
      by_full true = All-nil (IsKind seen event)
      by_full false =
          let on = sent_on_begins whole i.hop_limit (read_begins octets whole i fits read) in
          all_to_each (IsKind seen event) (sent_on whole i.hop_limit) faces (λ f. inr (inr (inr on)))

  object_explained : (object : Option (List ℕ)) → served i.name i.can_be_prefix seen.policy.held.objects ≡ object → EachIsKind seen event (by_repository seen face token whole i object)
  object_explained (Some text) e = one_send (IsKind seen event) (sent_back face token text) (hand text (inr (inl e)))
  object_explained None e =
      forwarded_explained (key_of i) (choice_for seen.policy i.name (moments (seen.records (key_of i)).out_records) (ask_from seen.policy face i))

  given_explained : (given : Option (List ℕ)) → seen.MayGive (key_of i) given → EachIsKind seen event (by_content_store seen face token whole i given)
  given_explained (Some text) h = one_send (IsKind seen event) (sent_back face token text) (hand text (inl h))
  given_explained None h = object_explained (served i.name i.can_be_prefix seen.policy.held.objects) refl

  data_explained : (answer : Answer) → RepliesForData seen face token whole i answer → EachIsKind seen event answer
  data_explained answer h = by_loop (loops (seen.records (key_of i)) face i.nonce) h
    where
      by_loop : (b : Bool) → IfTrueElse b (answer ≡ record { verdict = Dropped Loop; sends = nacked_back face token DUPLICATE whole ∷ [] })
          ((given : Option (List ℕ)) × seen.MayGive (key_of i) given × (answer ≡ by_content_store seen face token whole i given)) → EachIsKind seen event answer
      by_loop true e =
          each_is seen event answer _ e (one_send (IsKind seen event) (nacked_back face token DUPLICATE whole) (nack_explained seen event face token DUPLICATE whole is_token short brought))
      by_loop false h = each_is seen event answer (by_content_store seen face token whole i h.0) h.2 (given_explained h.0 h.1)

  pub interest_explained : (answer : Answer) (r : Request) → request_of seen.policy face i ≡ r → RepliesToRequest seen face token whole i answer r → EachIsKind seen event answer
  interest_explained answer (Refused reason) e h = no_sends seen event answer reason h
  interest_explained answer (ForList asked) e h = each_is seen event answer (list_answer seen.policy face token asked) h (list_explained asked e)
  interest_explained answer ForTables e h = each_is seen event answer (command_answer seen.policy face token i h.0) h.2 (command_explained (ap is_command e) h.0 h.1)
  interest_explained answer ForRepository e h = each_is seen event answer (command_answer seen.policy face token i h.0) h.2 (command_explained (ap is_command e) h.0 h.1)
  interest_explained answer ForData e h = data_explained answer h

-- ---- the sends in the answers to a Data, to a Nack, and to any event

-- Let `T` be true of each pair of a face and a token in `askers`. Whenever `T` is true of a pair
-- whose face is a face of `askers`, let `P` be true of the send of `whole` to this face with the
-- token of the pair. Then `P` is true of all sends in `sent_to askers whole`.
all_sent : (P : Send → Type 0) (T : ℕ × Token → Type 0) (whole : List ℕ) (askers : Askers) → All T askers
    → ((a : ℕ × Token) → IsTrue (has_face a.0 (faces_of askers)) → T a → P (sent_back a.0 a.1 whole)) → All P (sent_to askers whole)
all_sent P T whole [] all each = All-nil P
all_sent P T whole (a ∷ askers) all each =
    All-cons P (sent_back a.0 a.1 whole) (sent_to askers whole) (each a (here (a.0 == a.0) (eq-eqb a.0 a.0 refl)) (All-head T a askers all))
    (all_sent P T whole askers (All-tail T a askers all) (λ b in' t. each b (there b.0 (a.0 == b.0) in') t))
  where
    here : (b : Bool) → b ≡ true → IsTrue (b || has_face a.0 (faces_of askers))
    here true e = refl
    here false e = cc e

    there : (f : ℕ) (b : Bool) → IsTrue (has_face f (faces_of askers)) → IsTrue (b || has_face f (faces_of askers))
    there f true h = refl
    there f false h = h

module _ (seen : Seen) (face now : ℕ) (octets : List ℕ) (fits : AreOctets octets) (answer : Answer) (linked : AllFit seen.records) where
  abbrev arrival : PlainEvent
  arrival = Packet face now octets

  said_explained : (whole : List ℕ) (d : PlainData) → frame_at octets ≡ Ok (AData whole d) → decided_packet seen.policy arrival ≡ Some (AData whole d) → (said : Decision) → IsDecidedAs seen.policy (AData whole d) said
      → RepliesByDecision seen face whole d answer said → EachIsKind seen arrival answer
  said_explained whole d read heard (decided.Allowed rule) said h =
      let sent = h.1 in
      subst (All (IsKind seen arrival)) (sym sent.4)
      (all_sent (IsKind seen arrival) (λ a. IsTokenFor seen.records d.name (sha256 whole) a.0 a.1) whole sent.0 sent.3
      (λ a in' is_for. let is = (sent.2 a.0).0 in' in inl (record {
        face = face;
        now = now;
        octets = octets;
        whole = whole;
        packet = d;
        rule = rule;
        brings = refl;
        read = read;
        decided = heard;
        allowed = said;
        other = is.0;
        waits = is.1;
        token = a.1;
        is_token = is_for;
        received = refl;
      })))
  said_explained whole d read heard (decided.Denied rule reason) said h = each_is seen arrival answer _ h (All-nil (IsKind seen arrival))
  said_explained whole d read heard decided.NoRule said h = each_is seen arrival answer _ h (All-nil (IsKind seen arrival))

  forwarding_explained : (whole : List ℕ) (d : PlainData) → frame_at octets ≡ Ok (AData whole d) → is_open face seen.policy.faces ≡ true → RepliesToData seen face whole d answer → EachIsKind seen arrival answer
  forwarding_explained whole d read open' h = by_scope (is_out_of_scope seen.policy face d.name) refl h
    where
      by_scope : (b : Bool) → is_out_of_scope seen.policy face d.name ≡ b → IfTrueElse b (answer ≡ dropped OutOfScope) ((said : Decision) × IsDecidedAs seen.policy (AData whole d) said × RepliesByDecision seen face whole d answer said)
          → EachIsKind seen arrival answer
      by_scope true out e = no_sends seen arrival answer OutOfScope e
      by_scope false here h =
          let heard : packet_to_decide seen.policy face (Ok (AData whole d)) ≡ Some (AData whole d) = ap (λ (b : Bool). if not b then Some (AData whole d) else None) here in
          let brings : decided_packet seen.policy arrival ≡ Some (AData whole d) =
          ap (λ (b : Bool). if b then packet_to_decide seen.policy face (frame_at octets) else None) open' ∙ ap (λ (r : Result PlainFrame PacketFault). packet_to_decide seen.policy face r) read ∙ heard in
          said_explained whole d read brings h.0 h.1 h.2

  -- the in-record of the face fits in a Nack, and its token is that of an in-record of the face
  abbrev Asks : ℕ × InRecord → Type 0
  Asks e = FitsLink e.1 × IsFromRecord seen e.0 e.1.token

  all_nacks : (reason : ℕ) (asks : List (ℕ × InRecord)) → All Asks asks
      → All (IsKind seen arrival) (map {A = ℕ × InRecord} {B = Send} (λ e. nacked_back e.0 e.1.token reason e.1.interest) asks)
  all_nacks reason [] all = All-nil (IsKind seen arrival)
  all_nacks reason (e ∷ asks) all =
      let is = All-head Asks e asks all in
      All-cons (IsKind seen arrival) (nacked_back e.0 e.1.token reason e.1.interest) _
      (nack_explained seen arrival e.0 e.1.token reason e.1.interest is.0.is_token is.0.short (inr is.1)) (all_nacks reason asks (All-tail Asks e asks all))

  nacked_explained : (asks : InRecords) (n : Nacked) → ((f : ℕ) (r : InRecord) → map_of.get asks f ≡ Some r → Asks (f, r)) → EachIsKind seen arrival (nack_answer asks n)
  nacked_explained asks nacks.NoPending all = All-nil (IsKind seen arrival)
  nacked_explained asks nacks.Waiting all = All-nil (IsKind seen arrival)
  nacked_explained asks (nacks.All reason) all = all_nacks reason (map_of.entries asks) (all_entries Asks asks all)

  nack_explains : (reason : ℕ) (i : PlainInterest) → RepliesToNack seen face reason i answer → EachIsKind seen arrival answer
  nack_explains reason i h = by_scope (is_out_of_scope seen.policy face i.name) h
    where
      by_scope : (b : Bool) → IfTrueElse b (answer ≡ dropped OutOfScope) (answer ≡ nack_answer (seen.records (key_of i)).in_records (nacked_answer (seen.records (key_of i)) face i.nonce reason))
          → EachIsKind seen arrival answer
      by_scope true e = no_sends seen arrival answer OutOfScope e
      by_scope false e =
          each_is seen arrival answer _ e
          (nacked_explained (seen.records (key_of i)).in_records (nacked_answer (seen.records (key_of i)) face i.nonce reason)
          (λ f r has. (linked (key_of i) f r has, (key_of i, r, has, refl))))

  packet_explained : (read : Result PlainFrame PacketFault) → frame_at octets ≡ read → is_open face seen.policy.faces ≡ true → RepliesToPacket seen face (token_at octets) read answer → EachIsKind seen arrival answer
  packet_explained (Err fault) e open' h = no_sends seen arrival answer (Malformed fault) h
  packet_explained (Ok (AnInterest whole i)) e open' h = interest_explained seen face now octets whole i fits e answer (request_of seen.policy face i) refl h
  packet_explained (Ok (AData whole d)) e open' h = forwarding_explained whole d e open' h
  packet_explained (Ok (ANack reason whole i)) e open' h = nack_explains reason i h
  packet_explained (Ok Idle) e open' h = no_sends seen arrival answer IsIdle h

pub all_kinds : (seen : Seen) (event : PlainEvent) (answer : Answer) → AllFit seen.records → BringsOctets event → Replies seen event answer → EachIsKind seen event answer
all_kinds seen (Packet face now octets) answer linked fits h = by_open (is_open face seen.policy.faces) refl h
  where
    by_open : (b : Bool) → is_open face seen.policy.faces ≡ b → IfTrueElse b (RepliesToPacket seen face (token_at octets) (frame_at octets) answer) (answer ≡ dropped NoFace) → EachIsKind seen (Packet face now octets) answer
    by_open true is h = packet_explained seen face now octets fits answer linked (frame_at octets) refl is h
    by_open false is e = no_sends seen (Packet face now octets) answer NoFace e
all_kinds seen (FaceUp face scope now) answer linked fits h = each_is seen (FaceUp face scope now) answer (opening_answer seen.policy face) h
    (by_zero (face == 0) (is_open face seen.policy.faces) (nat_le MAX_FACES (length seen.policy.faces)))
  where
    by_zero : (a b c : Bool) → EachIsKind seen (FaceUp face scope now) (if a then dropped BadFace else (if b then dropped FaceOpen else (if c then dropped FacesFull else passed [])))
    by_zero true b c = All-nil (IsKind seen (FaceUp face scope now))
    by_zero false true c = All-nil (IsKind seen (FaceUp face scope now))
    by_zero false false true = All-nil (IsKind seen (FaceUp face scope now))
    by_zero false false false = All-nil (IsKind seen (FaceUp face scope now))
all_kinds seen (FaceDown face now) answer linked fits h = each_is seen (FaceDown face now) answer (if is_open face seen.policy.faces then passed [] else dropped NoFace) h (by_open (is_open face seen.policy.faces))
  where
    by_open : (b : Bool) → EachIsKind seen (FaceDown face now) (if b then passed [] else dropped NoFace)
    by_open true = All-nil (IsKind seen (FaceDown face now))
    by_open false = All-nil (IsKind seen (FaceDown face now))
all_kinds seen (Tick now) answer linked fits h = each_is seen (Tick now) answer (passed []) h (All-nil (IsKind seen (Tick now)))
all_kinds seen (NewRules rules keys now) answer linked fits h =
    each_is seen (NewRules rules keys now) answer (passed []) h (All-nil (IsKind seen (NewRules rules keys now)))

kind_explained : (seen : Seen) (event : PlainEvent) (sent : Send) → IsKind seen event sent → IsExplained seen event sent
kind_explained seen e sent (inl forwarded) = inl forwarded
kind_explained seen e sent (inr (inl reply)) = inr (inl reply)
kind_explained seen e sent (inr (inr (inl nack))) =
    inr (inr (ap (λ (s : Send). is_data s.1) nack.nacked ∙ nack_is_no_data nack.token nack.reason nack.interest nack.is_token nack.short))
kind_explained seen e sent (inr (inr (inr begun))) = inr (inr (interest_is_neither sent.1 begun).1)

pub all_explained : (seen : Seen) (event : PlainEvent) (answer : Answer) → AllFit seen.records → BringsOctets event → Replies seen event answer → EachIsExplained seen event answer
all_explained seen e answer linked fits h =
    All-weaker (IsKind seen e) (IsExplained seen e) (kind_explained seen e) answer.sends (all_kinds seen e answer linked fits h)
