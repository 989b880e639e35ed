-- How one event changes a value that the routes determine, such as a next hop or a registered
-- route, once time has advanced to the event's moment. If no two keys in force have the same name,
-- only the closing of a face and a command with status 200 can change the value.
use Rattle.std.proofs.Common.{◌≡◌, ℕ, Bool, true, false, cond, List, refl, sym, ap, ◌∙◌, Result, Ok, Err}
use Rattle.std.specs.Prelude.{[], Option, Some, None, not, ◌==◌}
use Rattle.key_files.specs.KeyFile.{AreApart}
use Rattle.ndn_packets.specs.Answers.{begins_with}
use Rattle.ndn_packets.specs.Key.{PlainKey}
use Rattle.ndn_packets.specs.FrameReading.{frame_at, token_at}
use Rattle.ndn_packets.specs.Packet.{PlainInterest, PlainData, PlainFrame, AnInterest, AData, ANack, Idle}
use Rattle.ndn_packets.specs.declared.fault.PacketFault.{PacketFault}
use Rattle.info_rules.specs.declared.decision.Decision.{Decision}
use Rattle.info_rules.specs.declared.decision.Decision.TheVariants as decided
use Rattle.replay_guard.specs.Freshness.{Recorded}
use Rattle.pit_fib.specs.Fib.{Routes, without_face}
use Rattle.pit_fib.specs.Records.{Records}
use Rattle.mgmt_core.specs.declared.types.TheConstants.{OK}
use Rattle.mgmt_core.specs.Reading.{PlainCommand, command_at}
use Rattle.mgmt_core.specs.Tables.{routes_after}
use Rattle.mgmt_core.specs.Writing.{segment_at}
use Rattle.forwarder.specs.Event.{PlainEvent, Packet, FaceUp, FaceDown, Tick, NewRules}
use Rattle.forwarder.specs.OpenFaces.{is_open, with_face, without_entry}
use Rattle.forwarder.specs.Verdict.{Answer, Verdict, Passed, Allowed, DataAllowed, Denied, NoRule, Dropped, IfTrueElse, NoFace, NoSegment, dropped, passed}
use Rattle.forwarder.specs.Policy.{Policy, with_next_version}
use Rattle.forwarder.specs.Request.{ListAsked, Request, ForTables, ForRepository, is_command, is_out_of_scope, management, request_of}
use Rattle.forwarder.specs.Deciding.{recorded_of}
use Rattle.forwarder.specs.Commands.{after_request, after_tables, allowed_reply, command_answer, tables_status, with_record}
use Rattle.forwarder.specs.Datasets.{dataset_text, is_present, list_answer, segment_answer, segment_name}
use Rattle.forwarder.specs.Replies.{Seen, Replies, RepliesToPacket, RepliesToRequest}
use Rattle.forwarder.specs.Effects.{IsEffect, after_decision, can_open, decided_packet, packet_to_decide}
use Rattle.forwarder.specs.Outcome.{Outcome, Nothing, InterestPassed, CommandAllowed, DataCame, NackPassed, FaceClosed, closing_outcome, outcome_of, packet_outcome, read_outcome}
use Rattle.forwarder.proofs.OneEffect.{one_said}
use Rattle.forwarder.proofs.Requests.{by_request, no_command}
use Rattle.forwarder.proofs.RunSteps.{seen_with}
use Rattle.forwarder.proofs.Uses.{dropped_outcome}

-- The value after an outcome. A command with status 200 changes the value by `command`, and a
-- face that closes changes it by `closing`. Any other outcome leaves the value unchanged.
abbrev pub after_by : {V : Type 0} → (Result PlainCommand ℕ → ℕ → V → V) → (ℕ → V → V) → Outcome → V → V
after_by command closing Nothing x = x
after_by command closing (InterestPassed from whole i) x = x
after_by command closing (CommandAllowed from i status) x = cond (status == OK) (command (command_at i.name) from x) x
after_by command closing (DataCame whole d) x = x
after_by command closing (NackPassed from reason i) x = x
after_by command closing (FaceClosed face) x = closing face x

record_routes : (p : Policy) (r : Option Recorded) → (with_record p r).routes ≡ p.routes
record_routes p None = refl
record_routes p (Some r) = refl

-- whether the verdict is Allowed with status 200
abbrev is_done : Verdict → Bool
is_done Passed = false
is_done (Allowed rule status) = status == OK
is_done (DataAllowed rule stored) = false
is_done (Denied kind rule reason) = false
is_done (NoRule kind) = false
is_done (Dropped reason) = false

module _ {V : Type 0} (see : Routes → V) (q : Policy) (command : Result PlainCommand ℕ → ℕ → V → V) (closing : ℕ → V → V)
    (unread : (status from : ℕ) (x : V) → command (Err status) from x ≡ x)
    (done : (from : ℕ) (c : PlainCommand) → see (routes_after c from q.now q.routes) ≡ command (Ok c) from (see q.routes))
    (closes : (face : ℕ) → see (without_face q.routes face) ≡ closing face (see q.routes)) where
  abbrev after : Outcome → V → V
  after = after_by command closing

  abbrev was : V
  was = see q.routes

  same : (b : Bool) (x y : V) → y ≡ x → x ≡ cond b y x
  same true x y e = sym e
  same false x y e = refl

  -- a command on the tables changes the value by `command` if the command's status is 200, and
  -- leaves the value unchanged otherwise
  on_tables : (from : ℕ) (r : Result PlainCommand ℕ) → see (after_tables q from r).routes ≡ cond (tables_status q from r == OK) (command r from was) was
  on_tables from (Err status) = same (status == OK) was (command (Err status) from was) (unread status from was)
  on_tables from (Ok c) = by_status (tables_status q from (Ok c) == OK)
    where
      by_status : (b : Bool) → see (cond b (routes_after c from q.now q.routes) q.routes) ≡ cond b (command (Ok c) from was) was
      by_status true = done from c
      by_status false = refl

  -- If the verdict on an Interest is Allowed with status 200, then `after` changes the value by
  -- the command in the Interest's name. For any other verdict on an Interest, `after` leaves the
  -- value unchanged.
  command_read : (from : ℕ) (whole : List ℕ) (i : PlainInterest) (v : Verdict) (x : V)
      → cond (is_done v) (command (command_at i.name) from x) x ≡ after (packet_outcome from (AnInterest whole i) v) x
  command_read from whole i Passed x = refl
  command_read from whole i (Allowed rule status) x = refl
  command_read from whole i (DataAllowed rule stored) x = refl
  command_read from whole i (Denied kind rule reason) x = refl
  command_read from whole i (NoRule kind) x = refl
  command_read from whole i (Dropped reason) x = refl

  data_read : (from : ℕ) (whole : List ℕ) (d : PlainData) (v : Verdict) (x : V) → x ≡ after (packet_outcome from (AData whole d) v) x
  data_read from whole d Passed x = refl
  data_read from whole d (Allowed rule status) x = refl
  data_read from whole d (DataAllowed rule stored) x = refl
  data_read from whole d (Denied kind rule reason) x = refl
  data_read from whole d (NoRule kind) x = refl
  data_read from whole d (Dropped reason) x = refl

  nack_read : (from reason : ℕ) (whole : List ℕ) (i : PlainInterest) (v : Verdict) (x : V) → x ≡ after (packet_outcome from (ANack reason whole i) v) x
  nack_read from reason whole i Passed x = refl
  nack_read from reason whole i (Allowed rule status) x = refl
  nack_read from reason whole i (DataAllowed rule stored) x = refl
  nack_read from reason whole i (Denied kind rule why) x = refl
  nack_read from reason whole i (NoRule kind) x = refl
  nack_read from reason whole i (Dropped why) x = refl

  idle_read : (from : ℕ) (v : Verdict) (x : V) → x ≡ after (packet_outcome from Idle v) x
  idle_read from Passed x = refl
  idle_read from (Allowed rule status) x = refl
  idle_read from (DataAllowed rule stored) x = refl
  idle_read from (Denied kind rule reason) x = refl
  idle_read from (NoRule kind) x = refl
  idle_read from (Dropped reason) x = refl

  module _ (new : Policy) (records : PlainKey → Records) (full : Bool) (G : PlainKey → Option (List ℕ) → Type 0) (apart : AreApart q.keys) (answer : Answer) where
    abbrev seen : Seen
    seen = seen_with q records full G

    module _ (from now : ℕ) (octets whole : List ℕ) (i : PlainInterest) where
      abbrev IsRead : Verdict → Type 0
      IsRead v = see new.routes ≡ cond (is_done v) (command (command_at i.name) from was) was

      no_effect : new ≡ q → (v : Verdict) → is_done v ≡ false → IsRead v
      no_effect e v not = ap (λ (p : Policy). see p.routes) e ∙ ap (λ (b : Bool). cond b (command (command_at i.name) from was) was) (sym not)

      -- if an Interest's name does not begin with /localhost/nfd, and the routes are unchanged,
      -- then `IsRead` is true for each verdict
      other_name : begins_with management i.name ≡ false → new.routes ≡ q.routes → (v : Verdict) → IsRead v
      other_name other e v = ap see e ∙ by_read (command_at i.name) refl (is_done v)
        where
          by_read : (r : Result PlainCommand ℕ) → command_at i.name ≡ r → (b : Bool) → was ≡ cond b (command r from was) was
          by_read (Err status) k b = same b was (command (Err status) from was) (unread status from was)
          by_read (Ok c) k b = absurd (no_command i.name c other k)

      on_command : request_of q from i ≡ ForTables → (said : Decision) → answer ≡ command_answer q from (token_at octets) i said → new ≡ after_decision q from (AnInterest whole i) said → IsRead answer.verdict
      on_command is (decided.Allowed rule) a e =
          let r = command_at i.name in
          let verdict : answer.verdict ≡ Allowed rule.0 (tables_status q from r) = ap (λ (x : Answer). x.verdict) a ∙ ap (λ (x : Request). Allowed rule.0 (allowed_reply q from i x).status) is in
          let routes : new.routes ≡ (after_tables q from r).routes =
          ap (λ (p : Policy). p.routes) e ∙ record_routes (after_request q from i (request_of q from i)) (recorded_of i) ∙ ap (λ (x : Request). (after_request q from i x).routes) is in
          ap see routes ∙ on_tables from r ∙ ap (λ (v : Verdict). cond (is_done v) (command r from was) was) (sym verdict)
      on_command is (decided.Denied rule reason) a e = no_effect e answer.verdict (ap (λ (x : Answer). is_done x.verdict) a)
      on_command is decided.NoRule a e = no_effect e answer.verdict (ap (λ (x : Answer). is_done x.verdict) a)

      on_repository : request_of q from i ≡ ForRepository → (said : Decision) → new ≡ after_decision q from (AnInterest whole i) said → new.routes ≡ q.routes
      on_repository is (decided.Allowed rule) e =
          ap (λ (p : Policy). p.routes) e ∙ record_routes (after_request q from i (request_of q from i)) (recorded_of i) ∙ ap (λ (x : Request). (after_request q from i x).routes) is
      on_repository is (decided.Denied rule reason) e = ap (λ (p : Policy). p.routes) e
      on_repository is decided.NoRule e = ap (λ (p : Policy). p.routes) e

      list_not_done : (asked : ListAsked) → is_done (list_answer q from (token_at octets) asked).verdict ≡ false
      list_not_done asked = by_version (is_present q asked.version)
        where
          by_part : (part : Option (List ℕ × ℕ)) → is_done (segment_answer from (token_at octets) (segment_name asked.kind q.table_number asked.segment) part).verdict ≡ false
          by_part None = refl
          by_part (Some part) = refl

          by_version : (b : Bool) → is_done (cond b (segment_answer from (token_at octets) (segment_name asked.kind q.table_number asked.segment) (segment_at (dataset_text q asked.kind) asked.segment)) (dropped NoSegment)).verdict ≡ false
          by_version true = by_part (segment_at (dataset_text q asked.kind) asked.segment)
          by_version false = refl

      abbrev ReadsRequest : Request → Type 0
      ReadsRequest r =
          request_of q from i ≡ r → RepliesToRequest seen from (token_at octets) whole i answer r
          → IsEffect q (Packet from now octets) new (cond (is_command r) (Some (AnInterest whole i)) None) → IsRead answer.verdict

      interest_read : RepliesToRequest seen from (token_at octets) whole i answer (request_of q from i) → IsEffect q (Packet from now octets) new (packet_to_decide q from (Ok (AnInterest whole i))) → IsRead answer.verdict
      interest_read replies effect =
          by_request q from i ReadsRequest
          (λ reason is h e. no_effect e answer.verdict (ap (λ (x : Answer). is_done x.verdict) h))
          (λ asked _ is h e. no_effect e answer.verdict (ap (λ (x : Answer). is_done x.verdict) h ∙ list_not_done asked))
          (λ begins is h e. on_command is h.0 h.2 (e.2 ∙ ap (λ (said : Decision). after_decision q from (AnInterest whole i) said) (one_said q (AnInterest whole i) e.0 h.0 apart e.1 h.1)))
          (λ other is h e. other_name other (on_repository is e.0 e.2) answer.verdict)
          (λ other is h e. other_name other (ap (λ (p : Policy). p.routes) e) answer.verdict)
          refl replies effect

    no_change : new ≡ q → see new.routes ≡ was
    no_change e = ap (λ (p : Policy). see p.routes) e

    data_said : (from : ℕ) (whole : List ℕ) (d : PlainData) (said : Decision) → new ≡ after_decision q from (AData whole d) said → see new.routes ≡ was
    data_said from whole d (decided.Allowed rule) e = ap (λ (p : Policy). see p.routes) e
    data_said from whole d (decided.Denied rule reason) e = no_change e
    data_said from whole d decided.NoRule e = no_change e

    packet_read : (from now : ℕ) (octets : List ℕ) (read : Result PlainFrame PacketFault) → RepliesToPacket seen from (token_at octets) read answer → IsEffect q (Packet from now octets) new (packet_to_decide q from read)
        → see new.routes ≡ after (read_outcome from read answer.verdict) was
    packet_read from now octets (Err fault) h e = no_change e
    packet_read from now octets (Ok (AnInterest whole i)) h e = interest_read from now octets whole i h e ∙ command_read from whole i answer.verdict was
    packet_read from now octets (Ok (AData whole d)) h e = by_scope (is_out_of_scope q from d.name) e ∙ data_read from whole d answer.verdict was
      where
        by_scope : (b : Bool) → IsEffect q (Packet from now octets) new (cond (not b) (Some (AData whole d)) None) → see new.routes ≡ was
        by_scope true e = no_change e
        by_scope false e = data_said from whole d e.0 e.2
    packet_read from now octets (Ok (ANack reason whole i)) h e = no_change e ∙ nack_read from reason whole i answer.verdict was
    packet_read from now octets (Ok Idle) h e = no_change e ∙ idle_read from answer.verdict was

    pub event_read : (event : PlainEvent) → Replies seen event answer → IsEffect q event new (decided_packet q event) → see new.routes ≡ after (outcome_of event answer.verdict) was
    event_read (Packet from now octets) h e = by_open (is_open from q.faces) h e
      where
        by_open : (b : Bool) → IfTrueElse b (RepliesToPacket seen from (token_at octets) (frame_at octets) answer) (answer ≡ dropped NoFace)
            → IsEffect q (Packet from now octets) new (cond b (packet_to_decide q from (frame_at octets)) None) → see new.routes ≡ after (read_outcome from (frame_at octets) answer.verdict) was
        by_open true h e = packet_read from now octets (frame_at octets) h e
        by_open false h e =
            no_change e ∙ ap (λ (o : Outcome). after o was) (sym (dropped_outcome from (frame_at octets) NoFace))
            ∙ ap (λ (x : Answer). after (read_outcome from (frame_at octets) x.verdict) was) (sym h)
    event_read (FaceUp opened scope now) h e = by_open (can_open q opened) e
      where
        by_open : (b : Bool) → new ≡ cond b (record q { faces = with_face opened scope q.faces }) q → see new.routes ≡ was
        by_open true e = ap (λ (p : Policy). see p.routes) e
        by_open false e = no_change e
    event_read (FaceDown down now) h e = by_open (is_open down q.faces) h e
      where
        by_open : (b : Bool) → answer ≡ cond b (passed []) (dropped NoFace)
            → new ≡ cond b (with_next_version (record q { faces = without_entry down q.faces; routes = without_face q.routes down })) q
            → see new.routes ≡ after (closing_outcome down answer.verdict) was
        by_open true h e = ap (λ (p : Policy). see p.routes) e ∙ closes down ∙ ap (λ (x : Answer). after (closing_outcome down x.verdict) was) (sym h)
        by_open false h e = no_change e ∙ ap (λ (x : Answer). after (closing_outcome down x.verdict) was) (sym h)
    event_read (Tick now) h e = no_change e
    event_read (NewRules rules keys now) h e = ap (λ (p : Policy). see p.routes) e
