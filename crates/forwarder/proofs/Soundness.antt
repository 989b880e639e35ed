-- A step leaves a sound node sound.
use Rattle.std.proofs.Common.{◌≡◌, ◌≢◌, ◌⊎◌, inl, inr, ℕ, suc, ◌<◌, ◌≤◌, Bool, true, false, cond, not, eqb, leb, ltb, List, [], ◌∷◌, length, Option, None, Some, Result, Ok, Err, refl, sym, ap, subst, ◌∙◌, arith}
use Rattle.std.specs.Prelude.{map as map_list, max, ◌&&◌, ◌||◌, ◌==◌}
use Rattle.std.proofs.lemmas.Bool.{eqb-true, eq-eqb, ne_eqb, leb-false}
use Rattle.ndn_packets.specs.FrameReading.{frame_at, token_at}
use Rattle.ndn_packets.specs.Key.{PlainKey, key_of}
use Rattle.ndn_packets.specs.Packet.{PlainInterest, PlainData, PlainFrame, AnInterest, AData, ANack, Idle}
use Rattle.ndn_packets.specs.declared.types.TheConstants.{DUPLICATE}
use Rattle.ndn_packets.specs.declared.fault.PacketFault.{PacketFault}
use Rattle.key_files.specs.KeyFile.{NamedKey}
use Rattle.info_rules.specs.Rule.{PlainRule}
use Rattle.info_rules.specs.declared.decision.Decision.{Decision}
use Rattle.info_rules.specs.declared.decision.Decision.TheVariants as decided
use Rattle.pit_fib.specs.Cause.{Cause, Expires, Arrives, SentTo, Withdrawn, Closed, records_after, Follows}
use Rattle.pit_fib.specs.FaceSet.{IsRising, has_face}
use Rattle.pit_fib.specs.Fib.{without_face}
use Rattle.pit_fib.specs.Pit.{HasRecord, loops, moments}
use Rattle.pit_fib.specs.Records.{Pending, Records, is_alive, records_at}
use Rattle.pit_fib.proofs.PendingFaces.{Adds, InRecords, in_after, had_records, closed_has_none}
use Rattle.repo_core.specs.Objects.{served}
use Rattle.replay_guard.specs.Freshness.{Recorded}
use Rattle.mgmt_core.specs.Writing.{segment_at}
use Rattle.strategies.specs.declared.strategy.Choice.{Choice}
use Rattle.strategies.specs.declared.strategy.Choice.TheVariants as choices
use Rattle.mgmt_core.specs.Reading.{PlainCommand, command_at}
use Rattle.mgmt_core.specs.Tables.{AllAreUp}
use Rattle.mgmt_core.proofs.OpenRoutes.{closing_leaves_up, command_leaves_up, expiry_leaves_up}
use Rattle.pit_fib.specs.declared.face_set.TheConstants.{MAX_FACES}
use Rattle.forwarder.specs.declared.event.Scope.{Scope}
use Rattle.forwarder.specs.Event.{PlainEvent, Packet, FaceUp, FaceDown, Tick, NewRules, Send, to_each, Token, nacked_back}
use Rattle.forwarder.specs.OpenFaces.{FaceEntry, find_scope, is_open, numbers, with_face, without_entry}
use Rattle.forwarder.specs.Verdict.{Verdict, IfTrueElse, Passed, Allowed, DataAllowed, Denied, NoRule, Dropped, NoFace, NoSegment, PitFull, Loop, Answer, dropped, passed}
use Rattle.forwarder.specs.Policy.{Policy, at_moment, open_faces, with_next_version}
use Rattle.forwarder.specs.Request.{Request, Refused, ForList, ForTables, ForRepository, ForData, ListAsked, request_of}
use Rattle.forwarder.specs.Deciding.{recorded_of}
use Rattle.forwarder.specs.Commands.{command_answer, after_request, after_tables, with_record}
use Rattle.forwarder.specs.Effects.{after_packet, after_decision, can_open, decided_packet, IsEffect}
use Rattle.forwarder.specs.Causes.{after_causes, causes_by, in_record_for, interest_causes, is_answered, is_nacked, nack_causes}
use Rattle.forwarder.specs.Outcome.{closing_outcome, packet_outcome, read_outcome}
use Rattle.forwarder.specs.Handling.{packet_causes}
use Rattle.forwarder.specs.NextHops.{ask_from, choice_for, sent_on}
use Rattle.forwarder.specs.Datasets.{dataset_text, is_present, list_answer, segment_answer, segment_name}
use Rattle.forwarder.specs.Replies.{Seen, RepliesToPacket, RepliesToRequest, by_content_store, by_strategy, by_repository}
use Rattle.forwarder.specs.Node.{NodeState, FollowAll, IsStep, seen_in}
use Rattle.forwarder.specs.State.{IsLater, IsSound}
use Rattle.forwarder.proofs.Chosen.{chosen_up}
use Rattle.forwarder.proofs.Members.{IsRising-with_face, IsRising-without_entry, length-with_face}

-- ---- open faces and the list of their numbers

pub has_numbers : (face : ℕ) (faces : List FaceEntry) → has_face face (numbers faces) ≡ is_open face faces
has_numbers face [] = refl
has_numbers face (entry ∷ faces) = ap (λ (b : Bool). (entry.0 == face) || b) (has_numbers face faces)

-- ---- the faces to which causes add records, and the faces to which sends go

-- each face to which the causes may add a record has the property `P`
abbrev AddOnly : (ℕ → Type 0) → List Cause → Type 0
AddOnly P [] = Unit {0}
AddOnly P (cause ∷ causes) = ((f : ℕ) → Adds cause f → P f) × AddOnly P causes

in_causes : (P : ℕ → Type 0) (causes : List Cause) (k : PlainKey) (r : Records) (f : ℕ) → AddOnly P causes
    → InRecords (after_causes causes k r) f → InRecords r f ⊎ P f
in_causes P [] k r f adds e = inl e
in_causes P (cause ∷ causes) k r f adds e =
    elim (in_causes P causes k (records_after cause k r) f adds.1 e) [
      | inl was ↦ elim (in_after cause k r f was) [ (inl before) ↦ inl before | (inr added) ↦ inr (adds.0 f added) ]
      | inr is ↦ inr is
    ]

pub follows_within : (P : ℕ → Type 0) (causes : List Cause) (old new : Pending) → AddOnly P causes → FollowAll causes old new
    → ((f : ℕ) → HasRecord old f → P f) → (f : ℕ) → HasRecord new f → P f
follows_within P causes old new adds follows was f (k, e) =
    elim (in_causes P causes k (records_at old k) f adds (subst (λ (r : Records). InRecords r f) (follows k) e)) [
      | inl before ↦ was f (k, before)
      | inr is ↦ is
    ]

-- each send goes to a face with the property `P`
abbrev SendsTo : (ℕ → Type 0) → List Send → Type 0
SendsTo P [] = Unit {0}
SendsTo P (sent ∷ sends) = P sent.0 × SendsTo P sends

to_each_of : (P : ℕ → Type 0) (faces octets : List ℕ) → ((f : ℕ) → has_face f faces ≡ true → P f) → SendsTo P (to_each faces octets)
to_each_of P [] octets all = tt
to_each_of P (f ∷ faces) octets all = (all f (first f faces), to_each_of P faces octets (λ g is. all g (later g f faces is)))
  where
    or_true : (b : Bool) → (b || true) ≡ true
    or_true true = refl
    or_true false = refl

    first : (f : ℕ) (faces : List ℕ) → has_face f (f ∷ faces) ≡ true
    first f faces = ap (λ (b : Bool). b || has_face f faces) (eq-eqb f f refl)

    later : (g f : ℕ) (faces : List ℕ) → has_face g faces ≡ true → has_face g (f ∷ faces) ≡ true
    later g f faces is = ap (λ (b : Bool). (f == g) || b) is ∙ or_true (f == g)

sent_adds : (P : ℕ → Type 0) (key : PlainKey) (nonce : List ℕ) (now : ℕ) (sends : List Send) → SendsTo P sends
    → AddOnly P (map_list (λ (sent : Send). SentTo key sent.0 nonce now) sends)
sent_adds P key nonce now [] all = tt
sent_adds P key nonce now (sent ∷ sends) all = (λ f is. subst P (sym is) all.0, sent_adds P key nonce now sends all.1)

interest_adds : (P : ℕ → Type 0) (now face : ℕ) (token : Token) (whole : List ℕ) (i : PlainInterest) (sends : List Send) → P face → SendsTo P sends
    → AddOnly P (interest_causes now face token whole i sends)
interest_adds P now face token whole i sends asker all =
    let kept = Arrives (key_of i) face (in_record_for now token whole i) ∷ map_list (λ (sent : Send). SentTo (key_of i) sent.0 i.nonce now) sends in
    elim (is_nacked sends) as (λ b. AddOnly P (cond b (Withdrawn (key_of i) face ∷ []) (cond (is_answered face sends) [] kept))) [
      | true ↦ (λ f none. absurd none, tt)
      | false ↦ elim (is_answered face sends) as (λ b. AddOnly P (cond b [] kept)) [
        | true ↦ tt
        | false ↦ (λ f is. subst P (sym is) asker, sent_adds P (key_of i) i.nonce now sends all)
      ]
    ]

nack_adds : (P : ℕ → Type 0) (face reason : ℕ) (i : PlainInterest) (sends : List Send) → AddOnly P (nack_causes face reason i sends)
nack_adds P face reason i [] = (λ f none. absurd none, tt)
nack_adds P face reason i (sent ∷ sends) = (λ f none. absurd none, (λ f none. absurd none, tt))

-- if the answer's verdict is Passed, the answer's sends go to faces with the property `P`
abbrev PassesTo : (ℕ → Type 0) → Answer → Type 0
PassesTo P answer = answer.verdict ≡ Passed → SendsTo P answer.sends

abbrev AreAdded : (ℕ → Type 0) → ℕ → ℕ → Token → PlainFrame → Verdict → List Send → Type 0
AreAdded P now face token packet verdict sends = AddOnly P (causes_by now token sends (packet_outcome face packet verdict))

of_interest : (P : ℕ → Type 0) (now face : ℕ) (token : Token) (whole : List ℕ) (i : PlainInterest) (verdict : Verdict) (sends : List Send) → P face
    → (verdict ≡ Passed → SendsTo P sends) → AreAdded P now face token (AnInterest whole i) verdict sends
of_interest P now face token whole i Passed sends asker all = interest_adds P now face token whole i sends asker (all refl)
of_interest P now face token whole i (Allowed rule status) sends asker all = tt
of_interest P now face token whole i (DataAllowed rule stored) sends asker all = tt
of_interest P now face token whole i (Denied kind rule reason) sends asker all = tt
of_interest P now face token whole i (NoRule kind) sends asker all = tt
of_interest P now face token whole i (Dropped reason) sends asker all = tt

of_data : (P : ℕ → Type 0) (now face : ℕ) (token : Token) (whole : List ℕ) (d : PlainData) (verdict : Verdict) (sends : List Send) → AreAdded P now face token (AData whole d) verdict sends
of_data P now face token whole d Passed sends = tt
of_data P now face token whole d (Allowed rule status) sends = tt
of_data P now face token whole d (DataAllowed rule stored) sends = (λ f none. absurd none, tt)
of_data P now face token whole d (Denied kind rule reason) sends = tt
of_data P now face token whole d (NoRule kind) sends = tt
of_data P now face token whole d (Dropped reason) sends = tt

of_nack : (P : ℕ → Type 0) (now face reason : ℕ) (token : Token) (whole : List ℕ) (i : PlainInterest) (verdict : Verdict) (sends : List Send)
    → AreAdded P now face token (ANack reason whole i) verdict sends
of_nack P now face reason token whole i Passed sends = nack_adds P face reason i sends
of_nack P now face reason token whole i (Allowed rule status) sends = tt
of_nack P now face reason token whole i (DataAllowed rule stored) sends = tt
of_nack P now face reason token whole i (Denied kind rule why) sends = tt
of_nack P now face reason token whole i (NoRule kind) sends = tt
of_nack P now face reason token whole i (Dropped why) sends = tt

of_idle : (P : ℕ → Type 0) (now face : ℕ) (token : Token) (verdict : Verdict) (sends : List Send) → AreAdded P now face token Idle verdict sends
of_idle P now face token Passed sends = tt
of_idle P now face token (Allowed rule status) sends = tt
of_idle P now face token (DataAllowed rule stored) sends = tt
of_idle P now face token (Denied kind rule why) sends = tt
of_idle P now face token (NoRule kind) sends = tt
of_idle P now face token (Dropped why) sends = tt

of_packet : (P : ℕ → Type 0) (now face : ℕ) (token : Token) (packet : PlainFrame) (answer : Answer) → P face → PassesTo P answer
    → AddOnly P (packet_causes now face token packet answer)
of_packet P now face token (AnInterest whole i) answer asker all = of_interest P now face token whole i answer.verdict answer.sends asker all
of_packet P now face token (AData whole d) answer asker all = of_data P now face token whole d answer.verdict answer.sends
of_packet P now face token (ANack reason whole i) answer asker all = of_nack P now face reason token whole i answer.verdict answer.sends
of_packet P now face token Idle answer asker all = of_idle P now face token answer.verdict answer.sends

-- ---- the sends of a passed event go to open faces

module _ (seen : Seen) (P : ℕ → Type 0) (face : ℕ) (token : Token) (asker : P face) where
  drops : (reason : _) (answer : Answer) → answer ≡ dropped reason → PassesTo P answer
  drops reason answer is e = absurd (never (sym (ap (λ (a : Answer). a.verdict) is) ∙ e))
    where
      never : Dropped reason ≡ Passed → ⊥
      never e = absurd cc

  back : (octets : List ℕ) (answer : Answer) → answer ≡ passed ((face, octets) ∷ []) → PassesTo P answer
  back octets answer is e = subst (λ (a : Answer). SendsTo P a.sends) (sym is) (asker, tt)

-- if an Interest for a list is passed, its answer is sent only to the face that asks
list_passes : (seen : Seen) (P : ℕ → Type 0) (face : ℕ) (token : Token) (asker : P face) (asked : ListAsked) (answer : Answer)
    → answer ≡ list_answer seen.policy face token asked → PassesTo P answer
list_passes seen P face token asker asked answer is =
    let p = seen.policy in
    let name = segment_name asked.kind p.table_number asked.segment in
    elim (is_present p asked.version) as
    (λ b. answer ≡ cond b (segment_answer face token name (segment_at (dataset_text p asked.kind) asked.segment)) (dropped NoSegment) → PassesTo P answer) [
      | true ↦ segment_passes (segment_at (dataset_text p asked.kind) asked.segment)
      | false ↦ drops seen P face token asker NoSegment answer
    ] is
  where
    segment_passes : (part : Option (List ℕ × ℕ)) → answer ≡ segment_answer face token (segment_name asked.kind seen.policy.table_number asked.segment) part → PassesTo P answer
    segment_passes None is = drops seen P face token asker NoSegment answer is
    segment_passes (Some part) is = back seen P face token asker _ answer is

command_passes : (P : ℕ → Type 0) (p : Policy) (face : ℕ) (token : Token) (i : PlainInterest) (said : Decision) (answer : Answer)
    → answer ≡ command_answer p face token i said → PassesTo P answer
command_passes P p face token i (decided.Allowed rule) answer is e = absurd (never (sym (ap (λ (a : Answer). a.verdict) is) ∙ e))
  where
    never : {r s : ℕ} → Allowed r s ≡ Passed → ⊥
    never e = absurd cc
command_passes P p face token i (decided.Denied rule reason) answer is e = absurd (never (sym (ap (λ (a : Answer). a.verdict) is) ∙ e))
  where
    never : {k : _} {r : ℕ} {w : _} → Denied k r w ≡ Passed → ⊥
    never e = absurd cc
command_passes P p face token i decided.NoRule answer is e = absurd (never (sym (ap (λ (a : Answer). a.verdict) is) ∙ e))
  where
    never : {k : _} → NoRule k ≡ Passed → ⊥
    never e = absurd cc

module _ (seen : Seen) (P : ℕ → Type 0) (face : ℕ) (token : Token) (asker : P face) (whole : List ℕ) (i : PlainInterest)
    (chosen_are : (faces : List ℕ) (f : ℕ) → choice_for seen.policy i.name (moments (seen.records (key_of i)).out_records) (ask_from seen.policy face i) ≡ choices.Send faces
    → has_face f faces ≡ true → P f) where
  sent_passes : (full : Bool) (faces octets : List ℕ) (answer : Answer) → ((f : ℕ) → has_face f faces ≡ true → P f)
      → answer ≡ cond full (dropped PitFull) (passed (to_each faces octets)) → PassesTo P answer
  sent_passes true faces octets answer all is e = drops seen P face token asker PitFull answer is e
  sent_passes false faces octets answer all is e = subst (λ (a : Answer). SendsTo P a.sends) (sym is) (to_each_of P faces octets all)

  forwarded_passes : (choice : Choice) (answer : Answer)
      → choice_for seen.policy i.name (moments (seen.records (key_of i)).out_records) (ask_from seen.policy face i) ≡ choice
      → answer ≡ by_strategy seen (key_of i) whole i face token choice → PassesTo P answer
  forwarded_passes choices.NoRoute answer chosen is = back seen P face token asker _ answer is
  forwarded_passes (choices.Send faces) answer chosen is =
      sent_passes (not (is_alive (seen.records (key_of i))) && seen.is_full) faces (sent_on whole i.hop_limit) answer (λ f has. chosen_are faces f chosen has) is

  unserved_passes : (o : Option (List ℕ)) (answer : Answer) → answer ≡ by_repository seen face token whole i o → PassesTo P answer
  unserved_passes (Some octets) answer is = back seen P face token asker _ answer is
  unserved_passes None answer is = forwarded_passes _ answer refl is

  cache_passes : (o : Option (List ℕ)) (answer : Answer) → answer ≡ by_content_store seen face token whole i o → PassesTo P answer
  cache_passes (Some octets) answer is = back seen P face token asker _ answer is
  cache_passes None answer is = unserved_passes (served i.name i.can_be_prefix seen.policy.held.objects) answer is

  data_passes : (b : Bool) (answer : Answer)
      → IfTrueElse b (answer ≡ record { verdict = Dropped Loop; sends = nacked_back face token DUPLICATE whole ∷ [] })
      ((given : Option (List ℕ)) × seen.MayGive (key_of i) given × (answer ≡ by_content_store seen face token whole i given)) → PassesTo P answer
  data_passes true answer is e = absurd (never (sym (ap (λ (a : Answer). a.verdict) is) ∙ e))
    where
      never : Dropped Loop ≡ Passed → ⊥
      never e = absurd cc
  data_passes false answer (given, may, is) e = cache_passes given answer is e

  request_passes : (r : Request) (answer : Answer) → RepliesToRequest seen face token whole i answer r → PassesTo P answer
  request_passes (Refused reason) answer is = drops seen P face token asker reason answer is
  request_passes (ForList asked) answer is = list_passes seen P face token asker asked answer is
  request_passes ForTables answer (said, is_said, is) = command_passes P seen.policy face token i said answer is
  request_passes ForRepository answer (said, is_said, is) = command_passes P seen.policy face token i said answer is
  request_passes ForData answer is = data_passes (loops (seen.records (key_of i)) face i.nonce) answer is

-- ---- how time and packets affect the open faces, and the faces with next hops or routes

-- The policies `p` and `q` have the same open faces. If all faces with next hops or routes are open
-- in `p`, then all faces with next hops or routes are open in `q`.
abbrev KeepsOpen : Policy → Policy → Type 0
KeepsOpen p q = (q.faces ≡ p.faces) × (AllAreUp p.routes (open_faces p) → AllAreUp q.routes (open_faces q))

keeps_itself : (p : Policy) → KeepsOpen p p
keeps_itself p = (refl, λ all. all)

keeps_both : (p q r : Policy) → KeepsOpen p q → KeepsOpen q r → KeepsOpen p r
keeps_both p q r first second = (second.0 ∙ first.0, λ all. second.1 (first.1 all))

moment_keeps : (p : Policy) (moment : ℕ) → KeepsOpen p (at_moment p moment)
moment_keeps p moment = (refl, λ all. expiry_leaves_up (max p.now moment) (open_faces p) p.routes all)

tables_keep : (p : Policy) (face : ℕ) (c : Result PlainCommand ℕ) → KeepsOpen p (after_tables p face c)
tables_keep p face (Err status) = (refl, λ all. all)
tables_keep p face (Ok c) = (refl, λ all. command_leaves_up (open_faces p) c face p.now p.routes p.choices all)

request_keeps : (p : Policy) (face : ℕ) (i : PlainInterest) (r : Request) → KeepsOpen p (after_request p face i r)
request_keeps p face i (Refused reason) = keeps_itself p
request_keeps p face i (ForList asked) = keeps_itself p
request_keeps p face i ForTables = tables_keep p face (command_at i.name)
request_keeps p face i ForRepository = (refl, λ all. all)
request_keeps p face i ForData = keeps_itself p

record_keeps : (p q : Policy) (o : Option Recorded) → KeepsOpen p q → KeepsOpen p (with_record q o)
record_keeps p q None h = h
record_keeps p q (Some r) h = h

packet_keeps : (p : Policy) (face : ℕ) (packet : PlainFrame) → KeepsOpen p (after_packet p face packet)
packet_keeps p face (AnInterest whole i) = record_keeps p (after_request p face i (request_of p face i)) (recorded_of i) (request_keeps p face i (request_of p face i))
packet_keeps p face (AData whole d) = (refl, λ all. all)
packet_keeps p face (ANack reason whole i) = keeps_itself p
packet_keeps p face Idle = keeps_itself p

said_keeps : (p : Policy) (face : ℕ) (packet : PlainFrame) (said : Decision) → KeepsOpen p (after_decision p face packet said)
said_keeps p face packet (decided.Allowed rule) = packet_keeps p face packet
said_keeps p face packet (decided.Denied rule reason) = keeps_itself p
said_keeps p face packet decided.NoRule = keeps_itself p

effect_keeps : (p : Policy) (face now : ℕ) (octets : List ℕ) (new : Policy) (o : Option PlainFrame) → IsEffect p (Packet face now octets) new o → KeepsOpen p new
effect_keeps p face now octets new None is = subst (KeepsOpen p) (sym is) (keeps_itself p)
effect_keeps p face now octets new (Some packet) (said, is_said, is) = subst (KeepsOpen p) (sym is) (said_keeps p face packet said)

-- in a sound node, all faces with next hops or routes are open once time has advanced to a moment
pub later_up : (old new : NodeState) (moment : ℕ) → IsSound old → IsLater old moment new → AllAreUp new.policy.routes (open_faces new.policy)
later_up old new moment sound later =
    subst (λ (p : Policy). AllAreUp p.routes (open_faces p)) (sym later.policy) ((moment_keeps old.policy moment).1 sound.routes)

-- ---- faces that open and close

is_open-without : (face f : ℕ) (faces : List FaceEntry) → f ≢ face → is_open f (without_entry face faces) ≡ is_open f faces
is_open-without face f [] other = refl
is_open-without face f (entry ∷ faces) other =
    let rest = is_open-without face f faces other in
    elim (eqb entry.0 face) as (λ b. eqb entry.0 face ≡ b → is_open f (cond (not b) (entry ∷ without_entry face faces) (without_entry face faces)) ≡ ((entry.0 == f) || is_open f faces)) [
      | true ↦ λ e. rest ∙ ap (λ (b : Bool). b || is_open f faces) (sym (ne_eqb entry.0 f (λ is. other (sym is ∙ eqb-true entry.0 face e))))
      | false ↦ λ e. ap (λ (b : Bool). (entry.0 == f) || b) rest
    ] refl

length-without : (face : ℕ) (faces : List FaceEntry) → length (without_entry face faces) ≤ length faces
length-without face [] = omega arith
length-without face (entry ∷ faces) =
    let rest = length-without face faces in
    elim (eqb entry.0 face) as (λ b. length (cond (not b) (entry ∷ without_entry face faces) (without_entry face faces)) ≤ suc (length faces)) [
      | true ↦ omega (arith, rest)
      | false ↦ omega (arith, rest)
    ]

is_open-with : (face f : ℕ) (scope : Scope) (faces : List FaceEntry) → is_open f faces ≡ true → is_open f (with_face face scope faces) ≡ true
is_open-with face f scope [] is = absurd cc
is_open-with face f scope (entry ∷ faces) is =
    elim (ltb face entry.0) as (λ b. is_open f (cond b ((face, scope) ∷ entry ∷ faces) (entry ∷ with_face face scope faces)) ≡ true) [
      | true ↦ ap (λ (b : Bool). (face == f) || b) is ∙ or_true (face == f)
      | false ↦ either (entry.0 == f) (is_open f faces) (is_open f (with_face face scope faces)) (is_open-with face f scope faces) is
    ]
  where
    or_true : (b : Bool) → (b || true) ≡ true
    or_true true = refl
    or_true false = refl

    either : (b c d : Bool) → (c ≡ true → d ≡ true) → (b || c) ≡ true → (b || d) ≡ true
    either true c d more is = refl
    either false c d more is = more is

none_open : (face : ℕ) (faces : List FaceEntry) → is_open face faces ≡ false → find_scope face faces ≡ None
none_open face [] is = refl
none_open face (entry ∷ faces) is =
    elim (eqb entry.0 face) as (λ b. (b || is_open face faces) ≡ false → cond b (Some entry.1) (find_scope face faces) ≡ None) [
      | true ↦ λ e. absurd cc
      | false ↦ λ e. none_open face faces e
    ] is

-- if a face can open, then it is not open, and fewer than 64 faces are open
opens : (p : Policy) (face : ℕ) → can_open p face ≡ true → (is_open face p.faces ≡ false) × (length p.faces < MAX_FACES)
opens p face is =
    elim (eqb face 0) as (λ b. cond b false (cond (is_open face p.faces) false (cond (leb MAX_FACES (length p.faces)) false true)) ≡ true → (is_open face p.faces ≡ false) × (length p.faces < MAX_FACES)) [
      | true ↦ λ e. absurd cc
      | false ↦ elim (is_open face p.faces) as (λ b. cond b false (cond (leb MAX_FACES (length p.faces)) false true) ≡ true → (b ≡ false) × (length p.faces < MAX_FACES)) [
        | true ↦ λ e. absurd cc
        | false ↦ elim (leb MAX_FACES (length p.faces)) as (λ b. leb MAX_FACES (length p.faces) ≡ b → cond b false true ≡ true → (false ≡ false) × (length p.faces < MAX_FACES)) [
          | true ↦ λ l e. absurd cc
          | false ↦ λ l e. (refl, omega (arith, leb-false MAX_FACES (length p.faces) l))
        ] refl
      ]
    ] is

-- ---- each step leaves a sound node sound

module _ (old new : NodeState) (sound : IsSound old) where
  waits_open : (now : ℕ) (waiting : Pending) → Follows (Expires now) old.pending waiting
      → (f : ℕ) → HasRecord waiting f → is_open f old.policy.faces ≡ true
  waits_open now waiting expiry f has = sound.records f (had_records (Expires now) old.pending waiting (λ f none. none) expiry f has)

  -- Let `KeepsOpen` be true of the old and the new policy. If each face with a record in the new
  -- node was open in the old policy, then the new node is sound.
  same_faces : KeepsOpen old.policy new.policy → ((f : ℕ) → HasRecord new.pending f → is_open f old.policy.faces ≡ true) → IsSound new
  same_faces (is, up) records = record {
    few = subst (λ (faces : List FaceEntry). length faces ≤ MAX_FACES) (sym is) sound.few;
    rising = subst (λ (faces : List FaceEntry). IsRising (numbers faces)) (sym is) sound.rising;
    records = λ f has. subst (λ (faces : List FaceEntry). is_open f faces ≡ true) (sym is) (records f has);
    routes = up sound.routes;
  }

  module _ (face now : ℕ) (octets : List ℕ) (answer : Answer) (step : IsStep old (Packet face now octets) answer new) where
    abbrev p : Policy
    p = at_moment old.policy now

    keeps : KeepsOpen old.policy new.policy
    keeps =
        keeps_both old.policy p new.policy (moment_keeps old.policy now)
        (effect_keeps p face now octets new.policy (decided_packet p (Packet face now octets)) step.policy)

    abbrev Open : ℕ → Type 0
    Open f = is_open f old.policy.faces ≡ true

    chosen_open : (i : PlainInterest) (faces : List ℕ) (f : ℕ)
        → choice_for p i.name (moments (records_at step.waiting (key_of i)).out_records) (ask_from p face i) ≡ choices.Send faces → has_face f faces ≡ true → Open f
    chosen_open i faces f chosen has =
        sym (has_numbers f old.policy.faces)
        ∙ chosen_up p (open_faces p) i.name (moments (records_at step.waiting (key_of i)).out_records) (ask_from p face i) faces f ((moment_keeps old.policy now).1 sound.routes) chosen has

    frame_adds : (read : Result PlainFrame PacketFault) → Open face → RepliesToPacket (seen_in p step.waiting old.cache) face (token_at octets) read answer
        → AddOnly Open (causes_by p.now (token_at octets) answer.sends (read_outcome face read answer.verdict))
    frame_adds (Err fault) here replies = tt
    frame_adds (Ok (AnInterest whole i)) here replies =
        of_packet Open p.now face (token_at octets) (AnInterest whole i) answer here
        (request_passes (seen_in p step.waiting old.cache) Open face (token_at octets) here whole i (chosen_open i) (request_of p face i) answer replies)
    frame_adds (Ok (AData whole d)) here replies = of_data Open p.now face (token_at octets) whole d answer.verdict answer.sends
    frame_adds (Ok (ANack reason whole i)) here replies = of_nack Open p.now face reason (token_at octets) whole i answer.verdict answer.sends
    frame_adds (Ok Idle) here replies = of_idle Open p.now face (token_at octets) answer.verdict answer.sends

    none_added : (read : Result PlainFrame PacketFault) (verdict : Verdict) (sends : List Send) → verdict ≡ Dropped NoFace
        → AddOnly Open (causes_by p.now (token_at octets) sends (read_outcome face read verdict))
    none_added (Err fault) verdict sends is = tt
    none_added (Ok packet) verdict sends is =
        subst (λ (v : Verdict). AddOnly Open (causes_by p.now (token_at octets) sends (packet_outcome face packet v))) (sym is) tt

    adds : (b : Bool) → is_open face old.policy.faces ≡ b
        → IfTrueElse b (RepliesToPacket (seen_in p step.waiting old.cache) face (token_at octets) (frame_at octets) answer) (answer ≡ dropped NoFace)
        → AddOnly Open (causes_by p.now (token_at octets) answer.sends (read_outcome face (frame_at octets) answer.verdict))
    adds true here replies = frame_adds (frame_at octets) here replies
    adds false closed is = none_added (frame_at octets) answer.verdict answer.sends (ap (λ (a : Answer). a.verdict) is)

    packet_sound : IsSound new
    packet_sound =
        same_faces keeps
        (follows_within Open (causes_by p.now (token_at octets) answer.sends (read_outcome face (frame_at octets) answer.verdict)) step.waiting new.pending
        (adds (is_open face old.policy.faces) refl step.replies) step.pending (waits_open p.now step.waiting step.expiry))

  tick_sound : (now : ℕ) (answer : Answer) → IsStep old (Tick now) answer new → IsSound new
  tick_sound now answer step =
      let p = at_moment old.policy now in
      same_faces (subst (KeepsOpen old.policy) (sym step.policy) (moment_keeps old.policy now))
      (follows_within (λ f. is_open f old.policy.faces ≡ true) [] step.waiting new.pending tt step.pending (waits_open p.now step.waiting step.expiry))

  rules_sound : (rules : List PlainRule) (keys : List NamedKey) (now : ℕ) (answer : Answer) → IsStep old (NewRules rules keys now) answer new → IsSound new
  rules_sound rules keys now answer step =
      let p = at_moment old.policy now in
      same_faces (subst (KeepsOpen old.policy) (sym step.policy) (moment_keeps old.policy now))
      (follows_within (λ f. is_open f old.policy.faces ≡ true) [] step.waiting new.pending tt step.pending (waits_open p.now step.waiting step.expiry))

  module _ (face : ℕ) (scope : Scope) (now : ℕ) (answer : Answer) (step : IsStep old (FaceUp face scope now) answer new) where
    abbrev at_opening : Policy
    at_opening = at_moment old.policy now

    had : (f : ℕ) → HasRecord new.pending f → is_open f old.policy.faces ≡ true
    had = follows_within (λ f. is_open f old.policy.faces ≡ true) [] step.waiting new.pending tt step.pending (waits_open at_opening.now step.waiting step.expiry)

    opened : can_open at_opening face ≡ true → new.policy ≡ record at_opening { faces = with_face face scope old.policy.faces } → IsSound new
    opened can is =
        let free = opens at_opening face can in
        let faces : new.policy.faces ≡ with_face face scope old.policy.faces = ap (λ (q : Policy). q.faces) is in
        record {
          few = subst (λ (fs : List FaceEntry). length fs ≤ MAX_FACES) (sym faces)
              (omega (arith, free.1, length-with_face face scope old.policy.faces));
          rising = subst (λ (fs : List FaceEntry). IsRising (numbers fs)) (sym faces)
              (IsRising-with_face face scope old.policy.faces (none_open face old.policy.faces free.0) sound.rising);
          records = λ f has. subst (λ (fs : List FaceEntry). is_open f fs ≡ true) (sym faces) (is_open-with face f scope old.policy.faces (had f has));
          routes = subst (λ (q : Policy). AllAreUp q.routes (open_faces q)) (sym is)
              (λ f leads. has_numbers f (with_face face scope old.policy.faces)
              ∙ is_open-with face f scope old.policy.faces (sym (has_numbers f old.policy.faces) ∙ (moment_keeps old.policy now).1 sound.routes f leads));
        }

    up_sound : IsSound new
    up_sound =
        elim (can_open at_opening face) as (λ b. can_open at_opening face ≡ b
        → new.policy ≡ cond b (record at_opening { faces = with_face face scope old.policy.faces }) at_opening → IsSound new) [
          | true ↦ opened
          | false ↦ λ can is. same_faces (subst (KeepsOpen old.policy) (sym is) (moment_keeps old.policy now)) had
        ] refl step.policy

  module _ (face now : ℕ) (answer : Answer) (step : IsStep old (FaceDown face now) answer new) where
    abbrev at_closing : Policy
    at_closing = at_moment old.policy now

    closed : Follows (Closed face) step.waiting new.pending
        → new.policy ≡ with_next_version (record at_closing { faces = without_entry face old.policy.faces; routes = without_face at_closing.routes face }) → IsSound new
    closed follows is =
        let faces : new.policy.faces ≡ without_entry face old.policy.faces = ap (λ (q : Policy). q.faces) is in
        record {
          few = subst (λ (fs : List FaceEntry). length fs ≤ MAX_FACES) (sym faces)
              (omega (arith, sound.few, length-without face old.policy.faces));
          rising = subst (λ (fs : List FaceEntry). IsRising (numbers fs)) (sym faces)
              (IsRising-without_entry face old.policy.faces sound.rising);
          records = λ f has. subst (λ (fs : List FaceEntry). is_open f fs ≡ true) (sym faces)
              (is_open-without face f old.policy.faces (λ same. closed_has_none face step.waiting new.pending follows (subst (HasRecord new.pending) same has))
              ∙ waits_open at_closing.now step.waiting step.expiry f (had_records (Closed face) step.waiting new.pending (λ f none. none) follows f has));
          routes = subst (λ (q : Policy). AllAreUp q.routes (open_faces q)) (sym is)
              (closing_leaves_up (open_faces old.policy) (numbers (without_entry face old.policy.faces)) face
              (λ f up other. has_numbers f (without_entry face old.policy.faces) ∙ is_open-without face f old.policy.faces other ∙ sym (has_numbers f old.policy.faces) ∙ up)
              at_closing.routes ((moment_keeps old.policy now).1 sound.routes));
        }

    not_open : FollowAll [] step.waiting new.pending → new.policy ≡ at_closing → IsSound new
    not_open follows is =
        same_faces (subst (KeepsOpen old.policy) (sym is) (moment_keeps old.policy now))
        (follows_within (λ f. is_open f old.policy.faces ≡ true) [] step.waiting new.pending tt follows (waits_open at_closing.now step.waiting step.expiry))

    down_sound : IsSound new
    down_sound =
        elim (is_open face old.policy.faces) as (λ b. answer ≡ cond b (passed []) (dropped NoFace)
        → FollowAll (causes_by at_closing.now None answer.sends (closing_outcome face answer.verdict)) step.waiting new.pending
        → new.policy ≡ cond b (with_next_version (record at_closing { faces = without_entry face old.policy.faces; routes = without_face at_closing.routes face })) at_closing
        → IsSound new) [
          | true ↦ λ is follows policy. closed (subst (λ (v : Verdict). FollowAll (causes_by at_closing.now None answer.sends (closing_outcome face v)) step.waiting new.pending) (ap (λ (a : Answer). a.verdict) is) follows) policy
          | false ↦ λ is follows policy. not_open (subst (λ (v : Verdict). FollowAll (causes_by at_closing.now None answer.sends (closing_outcome face v)) step.waiting new.pending) (ap (λ (a : Answer). a.verdict) is) follows) policy
        ] step.replies step.pending step.policy

pub step_sound : (old new : NodeState) (event : PlainEvent) (answer : Answer) → IsSound old → IsStep old event answer new → IsSound new
step_sound old new (Packet face now octets) answer sound step = packet_sound old new sound face now octets answer step
step_sound old new (FaceUp face scope now) answer sound step = up_sound old new sound face scope now answer step
step_sound old new (FaceDown face now) answer sound step = down_sound old new sound face now answer step
step_sound old new (Tick now) answer sound step = tick_sound old new sound now answer step
step_sound old new (NewRules rules keys now) answer sound step = rules_sound old new sound rules keys now answer step
