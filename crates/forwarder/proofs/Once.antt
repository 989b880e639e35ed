-- What a replay guard records. If no key book has two keys of the same name, a command is allowed
-- only once.
use Rattle.std.proofs.Common.{◌≡◌, ℕ, ◌<◌, Bool, true, false, List, [], ◌∷◌, refl, sym, ap, subst, ◌∙◌, Result, Ok, Err, inl, inr, arith}
use Rattle.std.specs.Prelude.{◌⊎◌, Option, Some, None, IsSome, IfSome, if◌then◌else◌}
use Rattle.std.specs.FinMap as map
use Rattle.std.specs.FinMap.{get-insert}
use Rattle.std.specs.Ordering.{eq_by_cmp}
use Rattle.std.specs.List.{All, AllByRecursion}
use Rattle.std.proofs.lemmas.List.Elements.{All-cons, All-head, All-nil, All-tail, All-weaker}
use Rattle.key_files.specs.KeyFile.{AreApart}
use Rattle.ndn_packets.specs.Packet.{PlainSignature, PlainInterest, PlainFrame, AnInterest, AData, ANack, Idle}
use Rattle.info_rules.specs.declared.rules.RuleNo.{RuleNo}
use Rattle.info_rules.specs.declared.decision.Decision.{Decision}
use Rattle.info_rules.specs.declared.decision.Decision.TheVariants as decided
use Rattle.info_rules.proofs.Signers.{interest_named}
use Rattle.replay_guard.specs.Freshness.{Signer, Recorded, AreNear, IsNewer, NumberRises}
use Rattle.replay_guard.specs.Guard.{Latest, Table, IsAfterLatest as IsLater, IsFresh, raised, signer_cmp, table_of, with_recorded}
use Rattle.replay_guard.proofs.Past.{fresh_by_table, one_more}
use Rattle.replay_guard.proofs.Signers.{signer_cmp-total}
use Rattle.mgmt_core.specs.Reading.{PlainCommand, command_at}
use Rattle.forwarder.specs.Event.{PlainEvent, Packet, FaceUp, FaceDown, Tick, NewRules}
use Rattle.forwarder.specs.OpenFaces.{is_open}
use Rattle.forwarder.specs.Verdict.{Answer}
use Rattle.forwarder.specs.Event.{moment}
use Rattle.forwarder.specs.Policy.{Policy, at_moment}
use Rattle.forwarder.specs.Request.{Request, Refused, ForList, ForTables, ForRepository, ForData, request_of}
use Rattle.forwarder.specs.Deciding.{IsFreshCommand, IsDecidedAs, recorded_of, recorded_with, signer_in}
use Rattle.forwarder.specs.Commands.{after_request, after_tables, with_record}
use Rattle.forwarder.specs.Effects.{IsAfter, IsEffect, after_packet, after_decision, can_open, decided_packet, face_in, undecided_effect}
use Rattle.forwarder.specs.Runs.{Run, Start, Then, IsPolicyOf, KeysAreApart}
use Rattle.forwarder.specs.Allowed.{Allows, AllowedIn}
use Rattle.forwarder.proofs.Histories.{one_history, one_policy}
use Rattle.forwarder.proofs.LaterMoments.{policy_apart}
use Rattle.forwarder.proofs.OneEffect.{one_said}

-- ---- an event leaves the guard unchanged, or records an allowed command

guard_if : (b : Bool) (new p : Policy) → new.guard ≡ p.guard → (if b then new else p).guard ≡ p.guard
guard_if true new p e = e
guard_if false new p e = refl

undecided_guard : (p : Policy) (event : PlainEvent) → (undecided_effect p event).guard ≡ p.guard
undecided_guard p (Packet face now octets) = refl
undecided_guard p (FaceUp face scope now) = guard_if (can_open p face) _ p refl
undecided_guard p (FaceDown face now) = guard_if (is_open face p.faces) _ p refl
undecided_guard p (Tick now) = refl
undecided_guard p (NewRules rules keys now) = refl

tables_guard : (p : Policy) (face : ℕ) (c : Result PlainCommand ℕ) → (after_tables p face c).guard ≡ p.guard
tables_guard p face (Err status) = refl
tables_guard p face (Ok c) = refl

request_guard : (p : Policy) (face : ℕ) (i : PlainInterest) (r : Request) → (after_request p face i r).guard ≡ p.guard
request_guard p face i (Refused reason) = refl
request_guard p face i (ForList asked) = refl
request_guard p face i ForTables = tables_guard p face (command_at i.name)
request_guard p face i ForRepository = refl
request_guard p face i ForData = refl

-- the packet is an Interest with values to record (`recorded_of`), and the guard `new` is the guard
-- of `p` with these values recorded
pub record Records (p : Policy) (packet : PlainFrame) (new : Table) : Type 0 where
  pub whole : List ℕ
  pub interest : PlainInterest
  pub recorded : Recorded
  pub is_packet : packet ≡ AnInterest whole interest
  pub is_recorded : recorded_of interest ≡ Some recorded
  pub is_new : new ≡ with_recorded p.guard recorded

recording : (p : Policy) (face : ℕ) (whole : List ℕ) (i : PlainInterest) (r : Option Recorded) → recorded_of i ≡ r
    → ((with_record (after_request p face i (request_of p face i)) r).guard ≡ p.guard) ⊎ Records p (AnInterest whole i) (with_record (after_request p face i (request_of p face i)) r).guard
recording p face whole i None e = inl (request_guard p face i (request_of p face i))
recording p face whole i (Some r) e = inr (record {
  whole = whole;
  interest = i;
  recorded = r;
  is_packet = refl;
  is_recorded = e;
  is_new = ap (λ (t : Table). with_recorded t r) (request_guard p face i (request_of p face i));
})

packet_guard : (p : Policy) (face : ℕ) (packet : PlainFrame) → ((after_packet p face packet).guard ≡ p.guard) ⊎ Records p packet (after_packet p face packet).guard
packet_guard p face (AnInterest whole i) = recording p face whole i (recorded_of i) refl
packet_guard p face (AData whole d) = inl refl
packet_guard p face (ANack reason whole i) = inl refl
packet_guard p face Idle = inl refl

-- a decision on a packet leaves the guard unchanged, or the decision allows the packet, which is
-- then recorded (`Records`)
said_guard : (p : Policy) (face : ℕ) (packet : PlainFrame) (said : Decision) → ((after_decision p face packet said).guard ≡ p.guard)
    ⊎ (Records p packet (after_decision p face packet said).guard × ((rule : RuleNo) × (said ≡ decided.Allowed rule)))
said_guard p face packet (decided.Allowed rule) = by_packet (packet_guard p face packet)
  where
    by_packet : (((after_packet p face packet).guard ≡ p.guard) ⊎ Records p packet (after_packet p face packet).guard)
        → ((after_packet p face packet).guard ≡ p.guard) ⊎ (Records p packet (after_packet p face packet).guard × ((n : RuleNo) × (decided.Allowed rule ≡ decided.Allowed n)))
    by_packet (inl e) = inl e
    by_packet (inr r) = inr (r, (rule, refl))
said_guard p face packet (decided.Denied rule reason) = inl refl
said_guard p face packet decided.NoRule = inl refl

-- ---- the table of a replay guard

-- if a command of the signer `r.signer` is later than the record of this signer in `table`, then
-- the command is newer than `r`
abbrev HasSeen : Table → Recorded → Type 0
HasSeen table r =
    (time : ℕ) (number : Option ℕ) → IsLater (map.get table r.signer) time number → (r.time < time) × NumberRises r.number number

-- Let a command be later than its signer's record in the table with `r` added. Then it is later
-- than its signer's record in `table`. If `r` has the same signer, the command is also newer than
-- `r`.
added : (table : Table) (r : Recorded) (signer : Signer) (time : ℕ) (number : Option ℕ) → IsLater (map.get (with_recorded table r) signer) time number
    → IsLater (map.get table signer) time number × IsNewer signer time number r
added table r signer time number h =
    let got = get-insert signer_cmp-total table r.signer (raised (map.get table r.signer) r.time r.number) signer in
    (one_more (map.get table) r signer time number (eq_by_cmp signer_cmp signer r.signer) refl).0 (subst (λ (o : Option Latest). IsLater o time number) got h)

-- `HasSeen` remains true of a command when another command is recorded
seen_stays : (table : Table) (r s : Recorded) → HasSeen table r → HasSeen (with_recorded table s) r
seen_stays table r s h time number k = h time number (added table s r.signer time number k).0

-- `HasSeen` is true of a command after the command is recorded
seen_now : (table : Table) (r : Recorded) → HasSeen (with_recorded table r) r
seen_now table r time number k = (added table r r.signer time number k).1 refl

-- ---- what the guard contains after a run

-- an event leaves the guard unchanged, or brings an allowed command, which is recorded
abbrev GuardAfter : Policy → PlainEvent → Policy → Type 0
GuardAfter was event new =
    (new.guard ≡ was.guard)
    ⊎ ((whole : List ℕ) × (i : PlainInterest) × (r : Recorded) × Allows was event (AnInterest whole i) × (recorded_of i ≡ Some r) × (new.guard ≡ with_recorded was.guard r))

guard_after : (was new : Policy) (event : PlainEvent) → IsAfter was event new → GuardAfter was event new
guard_after was new event h = by_packet (decided_packet (at_moment was (moment event)) event) refl h
  where
    by_said : (packet : PlainFrame) (said : Decision) → decided_packet (at_moment was (moment event)) event ≡ Some packet → IsDecidedAs (at_moment was (moment event)) packet said
        → new ≡ after_decision (at_moment was (moment event)) (face_in event) packet said
        → (((after_decision (at_moment was (moment event)) (face_in event) packet said).guard ≡ was.guard)
        ⊎ (Records (at_moment was (moment event)) packet (after_decision (at_moment was (moment event)) (face_in event) packet said).guard × ((rule : RuleNo) × (said ≡ decided.Allowed rule))))
        → GuardAfter was event new
    by_said packet said d s e (inl same) = inl (ap (λ (p : Policy). p.guard) e ∙ same)
    by_said packet said d s e (inr (records, (rule, allowed))) = inr (
      records.whole,
      records.interest,
      records.recorded,
      record {
        rule = rule;
        brings = d ∙ ap (λ (f : PlainFrame). Some f) records.is_packet;
        said = subst (λ (f : PlainFrame). IsDecidedAs (at_moment was (moment event)) f (decided.Allowed rule)) records.is_packet
            (subst (λ (x : Decision). IsDecidedAs (at_moment was (moment event)) packet x) allowed s);
      },
      records.is_recorded,
      ap (λ (p : Policy). p.guard) e ∙ records.is_new,
    )

    by_packet : (packet : Option PlainFrame) → decided_packet (at_moment was (moment event)) event ≡ packet → IsEffect (at_moment was (moment event)) event new packet → GuardAfter was event new
    by_packet None d e = inl (ap (λ (p : Policy). p.guard) e ∙ undecided_guard (at_moment was (moment event)) event)
    by_packet (Some packet) d (said, s, e) =
        by_said packet said d s e (said_guard (at_moment was (moment event)) (face_in event) packet said)

seen_after_event : (was new : Policy) (event : PlainEvent) (r : Recorded) → GuardAfter was event new → HasSeen was.guard r → HasSeen new.guard r
seen_after_event was new event r (inl e) h = subst (λ (t : Table). HasSeen t r) (sym e) h
seen_after_event was new event r (inr (whole, i, s, allows, is, e)) h = subst (λ (t : Table). HasSeen t r) (sym e) (seen_stays was.guard r s h)

-- if no two keys in force have the same name, `HasSeen` is true of an allowed command after the
-- event that brings the command
seen_when_allowed : (was new : Policy) (event : PlainEvent) (whole : List ℕ) (i : PlainInterest) (r : Recorded) → AreApart was.keys → Allows was event (AnInterest whole i) → recorded_of i ≡ Some r
    → IsAfter was event new → HasSeen new.guard r
seen_when_allowed was new event whole i r apart allows is h =
    let q = at_moment was (moment event) in
    let f = face_in event in
    let effect : (said : Decision) × IsDecidedAs q (AnInterest whole i) said × (new ≡ after_decision q f (AnInterest whole i) said) = subst (λ (o : Option PlainFrame). IsEffect q event new o) allows.brings h in
    let one : effect.0 ≡ decided.Allowed allows.rule = one_said q (AnInterest whole i) effect.0 (decided.Allowed allows.rule) apart effect.1 allows.said in
    let base = after_request q f i (request_of q f i) in
    let new_is : new ≡ with_record base (Some r) =
    effect.2 ∙ ap (λ (said : Decision). after_decision q f (AnInterest whole i) said) one ∙ ap (λ (o : Option Recorded). with_record base o) is in
    let guard : new.guard ≡ with_recorded was.guard r = ap (λ (p : Policy). p.guard) new_is ∙ ap (λ (t : Table). with_recorded t r) (request_guard q f i (request_of q f i)) in
    subst (λ (t : Table). HasSeen t r) (sym guard) (seen_now was.guard r)

seen_in_run : (first : Policy) (run : Run) (p : Policy) (whole : List ℕ) (i : PlainInterest) (r : Recorded) → KeysAreApart first run → IsPolicyOf first run p → recorded_of i ≡ Some r
    → AllowedIn first run (AnInterest whole i) → HasSeen p.guard r
seen_in_run first Start p whole i r apart h is a = absurd a
seen_in_run first (Then before event answer) p whole i r apart h is (inl a) =
    seen_after_event h.0 p event r (guard_after h.0 p event h.2) (seen_in_run first before h.0 whole i r apart.0 h.1 is a)
seen_in_run first (Then before event answer) p whole i r apart h is (inr (was, w, allows)) =
    let one : was ≡ h.0 = one_policy first was h.0 before before apart.0 (one_history before) w h.1 in
    let keys = policy_apart first before h.0 apart.0 h.1 in
    seen_when_allowed h.0 p event whole i r keys (subst (λ (q : Policy). Allows q event (AnInterest whole i)) one allows) is h.2

-- for a command with a SignatureTime, `recorded_of` gives the values to record
recorded_there : (i : PlainInterest) (s : PlainSignature) (time : Option ℕ) → i.signature ≡ Some s → s.info.time ≡ time → IsSome time → (r : Recorded) × (recorded_of i ≡ Some r)
recorded_there i s None e t some = cc some
recorded_there i s (Some time) e t some = (
  record { signer = signer_in s.info; time = time; number = s.info.seq },
  ap (λ (o : Option PlainSignature). elim o [ None ↦ None | Some signature ↦ recorded_with signature.info signature.info.time ]) e
      ∙ ap (λ (o : Option ℕ). recorded_with s.info o) t,
)

-- Let no key book have two keys of the same name, and let a command be allowed in the run. Let
-- `event` then bring a second command of the same signer, and let this second command be allowed.
-- Then the second command has a greater time than the first command. If both commands have a
-- sequence number, the second command has the greater sequence number.
pub newer : (first was : Policy) (run : Run) (event : PlainEvent) (whole other : List ℕ) (i j : PlainInterest) (r s : Recorded) → KeysAreApart first run → AllowedIn first run (AnInterest whole i)
    → IsPolicyOf first run was → Allows was event (AnInterest other j) → recorded_of i ≡ Some r → recorded_of j ≡ Some s → r.signer ≡ s.signer → (r.time < s.time) × NumberRises r.number s.number
newer first was run event whole other i j r s apart allowed h allows is also same =
    let seen = seen_in_run first run was whole i r apart h is allowed in
    let fresh = subst (λ (o : Option Recorded). IfSome o (λ x. IsFresh was.guard x.signer x.time x.number (at_moment was (moment event)).now)) also allows.said.1 in
    seen s.time s.number (subst (λ (k : Signer). IsLater (map.get was.guard k) s.time s.number) (sym same) fresh.1)

pub never_again : (first was : Policy) (run : Run) (event : PlainEvent) (whole other : List ℕ) (i j : PlainInterest) → KeysAreApart first run → AllowedIn first run (AnInterest whole i)
    → IsPolicyOf first run was → Allows was event (AnInterest other j) → i.signature ≡ j.signature → ⊥
never_again first was run event whole other i j apart allowed h allows same =
    let named = interest_named was.rules was.keys other j allows.rule allows.said.0 in
    let s = recorded_there j named.0 named.0.info.time named.1 refl named.2 in
    let r = recorded_there i named.0 named.0.info.time (same ∙ named.1) refl named.2 in
    let one : r.0 ≡ s.0 = (let e : Some r.0 ≡ Some s.0 = sym r.1 ∙ ap (λ (o : Option PlainSignature). elim o [ None ↦ None | Some signature ↦ recorded_with signature.info signature.info.time ]) same ∙ s.1 in cc e) in
    let rises = newer first was run event whole other i j r.0 s.0 apart allowed h allows r.1 s.1 (ap (λ (x : Recorded). x.signer) one) in
    let time : r.0.time ≡ s.0.time = ap (λ (x : Recorded). x.time) one in
    let low = rises.0 in omega (arith, low, time)

-- `r` has the values that are recorded for some allowed command of the run
abbrev pub IsRecordIn : Policy → Run → Recorded → Type 0
IsRecordIn first run r = (whole : List ℕ) × (i : PlainInterest) × AllowedIn first run (AnInterest whole i) × (recorded_of i ≡ Some r)

longer_record : (first : Policy) (before : Run) (event : PlainEvent) (answer : Answer) (r : Recorded) → IsRecordIn first before r → IsRecordIn first (Then before event answer) r
longer_record first before event answer r (whole, i, a, is) = (whole, i, inl a, is)

-- Let the guard be empty before a run. After the run, the guard is the table of some records, each
-- of which is the record of an allowed command of the run.
pub guard_is_of_allowed : (first p : Policy) (run : Run) → first.guard ≡ map.empty → IsPolicyOf first run p
    → (records : List Recorded) × (p.guard ≡ table_of records) × All (IsRecordIn first run) records
guard_is_of_allowed first p Start none h = ([], ap (λ (q : Policy). q.guard) h ∙ none, All-nil (IsRecordIn first Start))
guard_is_of_allowed first p (Then before event answer) none (was, w, after) =
    by_guard (guard_after was p event after) (guard_is_of_allowed first was before none w)
  where
    by_guard : GuardAfter was event p → (records : List Recorded) × (was.guard ≡ table_of records) × All (IsRecordIn first before) records
        → (records : List Recorded) × (p.guard ≡ table_of records) × All (IsRecordIn first (Then before event answer)) records
    by_guard (inl e) (records, t, all) =
        (records, e ∙ t, All-weaker (IsRecordIn first before) (IsRecordIn first (Then before event answer)) (longer_record first before event answer) records all)
    by_guard (inr (whole, i, s, allows, is, e)) (records, t, all) = (
      s ∷ records,
      e ∙ ap (λ (k : Table). with_recorded k s) t,
      All-cons (IsRecordIn first (Then before event answer)) s records (whole, i, inr (was, w, allows), is)
          (All-weaker (IsRecordIn first before) (IsRecordIn first (Then before event answer)) (longer_record first before event answer) records all),
    )

-- `r` is newer than each allowed command of the same signer in the run
abbrev IsNewest : Policy → Run → Recorded → Type 0
IsNewest first run r = (whole : List ℕ) (i : PlainInterest) (s : Recorded) → AllowedIn first run (AnInterest whole i) → recorded_of i ≡ Some s → s.signer ≡ r.signer
    → (s.time < r.time) × NumberRises s.number r.number

newer_than_all : (first : Policy) (run : Run) (r : Recorded) → IsNewest first run r → (records : List Recorded) → All (IsRecordIn first run) records → AllByRecursion (IsNewer r.signer r.time r.number) records
newer_than_all first run r newest [] all = tt
newer_than_all first run r newest (s ∷ records) all =
    let in' = All-head (IsRecordIn first run) s records all in (
      λ same. newest in'.0 in'.1 s in'.2 in'.3 same,
      newer_than_all first run r newest records (All-tail (IsRecordIn first run) s records all),
    )

-- Let the guard be empty at first, and let `r` have the values to record for the command `i`. If
-- the time of `r` is near the node's time, and `r` is newer than each earlier allowed command of
-- its signer, then `i` is fresh.
pub newest_is_fresh : (first was : Policy) (run : Run) (now : ℕ) (i : PlainInterest) (r : Recorded) → first.guard ≡ map.empty → IsPolicyOf first run was → recorded_of i ≡ Some r
    → AreNear r.time (at_moment was now).now → IsNewest first run r → IsFreshCommand (at_moment was now) i
newest_is_fresh first was run now i r none h is near newest =
    let held = guard_is_of_allowed first was run none h in
    let fresh = (fresh_by_table held.0 r.signer r.time r.number (at_moment was now).now).1 (near, newer_than_all first run r newest held.0 held.2) in
    subst (λ (o : Option Recorded). IfSome o (λ x. IsFresh was.guard x.signer x.time x.number (at_moment was now).now)) (sym is)
    (subst (λ (t : Table). IsFresh t r.signer r.time r.number (at_moment was now).now) (sym held.1) fresh)
