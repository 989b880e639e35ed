-- After a run that starts from a policy with the time 0, the time of the policy is the greatest
-- moment of the run's events, or 0 if there are none. The rules and keys of the policy are those of
-- the latest event that brought rules and keys, if there is one. The repository's prefix never
-- changes. Advancing time to two moments, one after the other, has the effect of advancing time to
-- the later moment.
use Rattle.std.proofs.Common.{◌≡◌, ◌⊎◌, inl, inr, ℕ, ◌+◌, ◌-◌, ◌^◌, ◌≤◌, Bool, true, false, cond, arith, List, [], ◌∷◌, ◌++◌, refl, sym, ap, subst, ◌∙◌, Result, Ok, Err}
use Rattle.std.proofs.lemmas.Bool.Decides.{nat_tests}
use Rattle.std.specs.Prelude.{Option, Some, None, max, min, nat_lt, if◌then◌else◌}
use Rattle.std.specs.FinMap as map
use Rattle.std.specs.FinMap.{same_map}
use Rattle.std.specs.List.{All}
use Rattle.std.proofs.lemmas.List.Elements.{All-cons, All-head, All-nil, All-tail}
use Rattle.ndn_tlv.specs.Element.{Field}
use Rattle.key_files.specs.KeyFile.{AreApart, NamedKey}
use Rattle.info_rules.specs.Rule.{PlainRule}
use Rattle.ndn_packets.specs.Packet.{PlainInterest, PlainFrame, AnInterest, AData, ANack, Idle}
use Rattle.info_rules.specs.declared.decision.Decision.{Decision}
use Rattle.info_rules.specs.declared.decision.Decision.TheVariants.{Allowed, Denied, NoRule}
use Rattle.replay_guard.specs.Freshness.{Recorded}
use Rattle.mgmt_core.specs.Reading.{PlainCommand, command_at}
use Rattle.pit_fib.specs.Fib.{due_count, left_at, without_face}
use Rattle.repo_core.specs.Objects.{if_kept}
use Rattle.repo_core.specs.Wants.{WantKey, Wants, want_cmp-antisymmetric, want_cmp-total, wants_after}
use Rattle.repo_core.proofs.Kept.{get-kept}
use Rattle.forwarder.specs.declared.event.Scope.{Scope}
use Rattle.forwarder.specs.Event.{PlainEvent, Packet, FaceUp, FaceDown, Tick, NewRules}
use Rattle.forwarder.specs.OpenFaces.{is_open}
use Rattle.forwarder.specs.Event.{moment, rules_after}
use Rattle.forwarder.specs.Verdict.{Answer}
use Rattle.forwarder.specs.OpenFaces.{with_face, without_entry}
use Rattle.forwarder.specs.Policy.{Policy, at_moment, with_next_version}
use Rattle.forwarder.specs.Request.{Request, Refused, ForList, ForTables, ForRepository, ForData, request_of}
use Rattle.forwarder.specs.Deciding.{recorded_of}
use Rattle.forwarder.specs.Commands.{after_request, after_tables, with_record}
use Rattle.forwarder.specs.Effects.{IsEffect, IsAfter, after_packet, after_decision, can_open, decided_packet, with_closed, with_open}
use Rattle.forwarder.specs.Runs.{Run, Start, Then, AreLastRules, BringsKeysApart, BringsNoRules, HasNoNewRules, IsPolicyOf, KeysAreApart, events_back, now_of}
use Rattle.forwarder.proofs.LeftRoutes.{due_twice, left_twice}

-- the time, the rules, the keys and the repository's prefix of a policy
abbrev Lasting : Type 0
Lasting = ℕ × (List PlainRule × (List NamedKey × List Field))

abbrev lasting : Policy → Lasting
lasting p = (p.now, (p.rules, (p.keys, p.repo)))

one_keeps : (b : Bool) (new p : Policy) → lasting new ≡ lasting p → lasting (if b then new else p) ≡ lasting p
one_keeps true new p e = e
one_keeps false new p e = refl

opening_keeps : (p : Policy) (face : ℕ) (scope : Scope) → lasting (with_open p face scope) ≡ lasting p
opening_keeps p face scope = one_keeps (can_open p face) (record p { faces = with_face face scope p.faces }) p refl

closing_keeps : (p : Policy) (face : ℕ) → lasting (with_closed p face) ≡ lasting p
closing_keeps p face =
    one_keeps (is_open face p.faces)
    (with_next_version (record p { faces = without_entry face p.faces; routes = without_face p.routes face })) p refl

tables_keep : (p : Policy) (face : ℕ) (c : Result PlainCommand ℕ) → lasting (after_tables p face c) ≡ lasting p
tables_keep p face (Err status) = refl
tables_keep p face (Ok c) = refl

request_keeps : (p : Policy) (face : ℕ) (i : PlainInterest) (r : Request) → lasting (after_request p face i r) ≡ lasting p
request_keeps p face i (Refused reason) = refl
request_keeps p face i (ForList asked) = refl
request_keeps p face i ForTables = tables_keep p face (command_at i.name)
request_keeps p face i ForRepository = refl
request_keeps p face i ForData = refl

record_keeps : (p : Policy) (r : Option Recorded) → lasting (with_record p r) ≡ lasting p
record_keeps p None = refl
record_keeps p (Some r) = refl

packet_keeps : (p : Policy) (face : ℕ) (packet : PlainFrame) → lasting (after_packet p face packet) ≡ lasting p
packet_keeps p face (AnInterest whole i) =
    record_keeps (after_request p face i (request_of p face i)) (recorded_of i) ∙ request_keeps p face i (request_of p face i)
packet_keeps p face (AData whole d) = refl
packet_keeps p face (ANack reason whole i) = refl
packet_keeps p face Idle = refl

said_keeps : (p : Policy) (face : ℕ) (packet : PlainFrame) (said : Decision) → lasting (after_decision p face packet said) ≡ lasting p
said_keeps p face packet (Allowed rule) = packet_keeps p face packet
said_keeps p face packet (Denied rule reason) = refl
said_keeps p face packet NoRule = refl

-- the keys that are in force after an event, if `keys` are those in force before the event
abbrev keys_after : PlainEvent → List NamedKey → List NamedKey
keys_after (Packet face now octets) keys = keys
keys_after (FaceUp face scope now) keys = keys
keys_after (FaceDown face now) keys = keys
keys_after (Tick now) keys = keys
keys_after (NewRules rules new now) keys = new

-- The parts in `Lasting` after an event, where `p` is the policy once time has advanced to the
-- event's moment. Rules and keys that the event brings replace those of `p`.
abbrev lasting_after : PlainEvent → Policy → Lasting
lasting_after event p = (p.now, (rules_after event p.rules, (keys_after event p.keys, p.repo)))

read_keeps : (p new : Policy) (face now : ℕ) (octets : List ℕ) (packet : Option PlainFrame) → IsEffect p (Packet face now octets) new packet → lasting new ≡ lasting p
read_keeps p new face now octets None h = ap lasting h
read_keeps p new face now octets (Some packet) h = ap lasting h.2 ∙ said_keeps p face packet h.0

effect_keeps : (p new : Policy) (event : PlainEvent) → IsEffect p event new (decided_packet p event) → lasting new ≡ lasting_after event p
effect_keeps p new (Packet face now octets) h = read_keeps p new face now octets (decided_packet p (Packet face now octets)) h
effect_keeps p new (FaceUp face scope now) h = ap lasting h ∙ opening_keeps p face scope
effect_keeps p new (FaceDown face now) h = ap lasting h ∙ closing_keeps p face
effect_keeps p new (Tick now) h = ap lasting h
effect_keeps p new (NewRules rules keys now) h = ap lasting h

after_lasts : (old new : Policy) (event : PlainEvent) → IsAfter old event new → lasting new ≡ lasting_after event (at_moment old (moment event))
after_lasts old new event h = effect_keeps (at_moment old (moment event)) new event h

pub after_now : (old new : Policy) (event : PlainEvent) → IsAfter old event new → new.now ≡ max old.now (moment event)
after_now old new event h = ap (λ (l : Lasting). l.0) (after_lasts old new event h)

after_keys : (old new : Policy) (event : PlainEvent) → IsAfter old event new → new.keys ≡ keys_after event old.keys
after_keys old new event h = ap (λ (l : Lasting). l.1.1.0) (after_lasts old new event h)

pub after_rules : (old new : Policy) (event : PlainEvent) → IsAfter old event new → new.rules ≡ rules_after event old.rules
after_rules old new event h = ap (λ (l : Lasting). l.1.0) (after_lasts old new event h)

pub policy_now : (first : Policy) (past : Run) (p : Policy) → first.now ≡ 0 → IsPolicyOf first past p → p.now ≡ now_of past
policy_now first Start p zero h = ap (λ (q : Policy). q.now) h ∙ zero
policy_now first (Then before event answer) p zero h =
    after_now h.0 p event h.2 ∙ ap (λ (n : ℕ). max n (moment event)) (policy_now first before h.0 zero h.1)

-- ---- no two keys in force have the same name, if no key book of the run has two such keys

apart_after : (event : PlainEvent) (keys : List NamedKey) → AreApart keys → BringsKeysApart event → AreApart (keys_after event keys)
apart_after (Packet face now octets) keys apart brings = apart
apart_after (FaceUp face scope now) keys apart brings = apart
apart_after (FaceDown face now) keys apart brings = apart
apart_after (Tick now) keys apart brings = apart
apart_after (NewRules rules new now) keys apart brings = brings

pub policy_apart : (first : Policy) (past : Run) (p : Policy) → KeysAreApart first past → IsPolicyOf first past p → AreApart p.keys
policy_apart first Start p apart h = subst (λ (q : Policy). AreApart q.keys) (sym h) apart
policy_apart first (Then before event answer) p apart h =
    subst AreApart (sym (after_keys h.0 p event h.2)) (apart_after event h.0.keys (policy_apart first before h.0 apart.0 h.1) apart.1)

pub books_apart : (first : Policy) (past : Run) → AreApart first.keys → All BringsKeysApart (events_back past) → KeysAreApart first past
books_apart first Start apart brings = apart
books_apart first (Then before event answer) apart brings =
    (books_apart first before apart (All-tail BringsKeysApart event (events_back before) brings), All-head BringsKeysApart event (events_back before) brings)

-- ---- the rules and keys in force are the last that an event brought, or else those of `first`

brings_none : (event : PlainEvent) (rules : List PlainRule) (keys : List NamedKey) → BringsNoRules event
    → (rules_after event rules ≡ rules) × (keys_after event keys ≡ keys)
brings_none (Packet face now octets) rules keys none = (refl, refl)
brings_none (FaceUp face scope now) rules keys none = (refl, refl)
brings_none (FaceDown face now) rules keys none = (refl, refl)
brings_none (Tick now) rules keys none = (refl, refl)
brings_none (NewRules new others now) rules keys none = absurd none

-- an event that brings no rules and keys leaves the rules and keys in force unchanged
none_come : (was p : Policy) (event : PlainEvent) → BringsNoRules event → IsAfter was event p → (p.rules ≡ was.rules) × (p.keys ≡ was.keys)
none_come was p event none h =
    let same = brings_none event was.rules was.keys none in (after_rules was p event h ∙ same.0, after_keys was p event h ∙ same.1)

last_in_force : (first p : Policy) (past : Run) (rules : List PlainRule) (keys : List NamedKey) (later earlier : List PlainEvent) (now : ℕ)
    → IsPolicyOf first past p → events_back past ≡ later ++ (NewRules rules keys now ∷ earlier) → All BringsNoRules later
    → (p.rules ≡ rules) × (p.keys ≡ keys)
last_in_force first p Start rules keys [] earlier now h e all = cc e
last_in_force first p Start rules keys (x ∷ later) earlier now h e all = cc e
last_in_force first p (Then before event answer) rules keys [] earlier now h e all =
    let same : event ≡ NewRules rules keys now = cc e in (
      after_rules h.0 p event h.2 ∙ ap (λ (x : PlainEvent). rules_after x h.0.rules) same,
      after_keys h.0 p event h.2 ∙ ap (λ (x : PlainEvent). keys_after x h.0.keys) same,
    )
last_in_force first p (Then before event answer) rules keys (x ∷ later) earlier now h e all =
    let same : x ≡ event = cc e in
    let rest : events_back before ≡ later ++ (NewRules rules keys now ∷ earlier) = cc e in
    let none : BringsNoRules event = subst BringsNoRules same (All-head BringsNoRules x later all) in
    let stay = none_come h.0 p event none h.2 in
    let was = last_in_force first h.0 before rules keys later earlier now h.1 rest (All-tail BringsNoRules x later all) in
    (stay.0 ∙ was.0, stay.1 ∙ was.1)

pub last_rules : (first p : Policy) (past : Run) (rules : List PlainRule) (keys : List NamedKey) → IsPolicyOf first past p → AreLastRules past rules keys
    → (p.rules ≡ rules) × (p.keys ≡ keys)
last_rules first p past rules keys h last = last_in_force first p past rules keys last.later last.earlier last.now h last.are_events last.are_last

pub first_rules : (first p : Policy) (past : Run) → IsPolicyOf first past p → HasNoNewRules past → (p.rules ≡ first.rules) × (p.keys ≡ first.keys)
first_rules first p Start h none = (ap (λ (q : Policy). q.rules) h, ap (λ (q : Policy). q.keys) h)
first_rules first p (Then before event answer) h none =
    let stay = none_come h.0 p event (All-head BringsNoRules event (events_back before) none) h.2 in
    let was = first_rules first h.0 before h.1 (All-tail BringsNoRules event (events_back before) none) in
    (stay.0 ∙ was.0, stay.1 ∙ was.1)

abbrev MayHaveRules : Run → Type 0
MayHaveRules past = HasNoNewRules past ⊎ ((rules : List PlainRule) × (keys : List NamedKey) × AreLastRules past rules keys)

more_back : (before : Run) (event : PlainEvent) (answer : Answer) → BringsNoRules event → MayHaveRules before → MayHaveRules (Then before event answer)
more_back before event answer none (inl all) = inl (All-cons BringsNoRules event (events_back before) none all)
more_back before event answer none (inr (rules, keys, last)) = inr (
  rules,
  keys,
  record {
    later = event ∷ last.later;
    now = last.now;
    earlier = last.earlier;
    are_events = ap (λ (events : List PlainEvent). event ∷ events) last.are_events;
    are_last = All-cons BringsNoRules event last.later none last.are_last;
  },
)

pub none_or_last : (past : Run) → MayHaveRules past
none_or_last Start = inl (All-nil BringsNoRules)
none_or_last (Then before (Packet face now octets) answer) = more_back before (Packet face now octets) answer tt (none_or_last before)
none_or_last (Then before (FaceUp face scope now) answer) = more_back before (FaceUp face scope now) answer tt (none_or_last before)
none_or_last (Then before (FaceDown face now) answer) = more_back before (FaceDown face now) answer tt (none_or_last before)
none_or_last (Then before (Tick now) answer) = more_back before (Tick now) answer tt (none_or_last before)
none_or_last (Then before (NewRules rules keys now) answer) = inr (
  rules,
  keys,
  record { later = []; now = now; earlier = events_back before; are_events = refl; are_last = All-nil BringsNoRules },
)

-- ---- time that advances to one moment and then to another

later_lt : (m n x : ℕ) → m ≤ n → nat_lt m x ≡ false → nat_lt n x ≡ false
later_lt m n x le is = grind (arith, nat_tests, le, is)

still_wanted : (m n : ℕ) → m ≤ n → (k : WantKey) (o : Option ℕ)
    → if_kept (λ w. nat_lt n w.1) k (if_kept (λ w. nat_lt m w.1) k o) ≡ if_kept (λ (w : WantKey × ℕ). nat_lt n w.1) k o
still_wanted m n le k None = refl
still_wanted m n le k (Some deadline) =
    elim (nat_lt m deadline) as (λ b. nat_lt m deadline ≡ b
    → if_kept (λ w. nat_lt n w.1) k (cond b (Some deadline) None) ≡ cond (nat_lt n deadline) (Some deadline) None) [
      | true ↦ λ is. refl
      | false ↦ λ is. sym (ap (λ b. cond b (Some deadline) None) (later_lt m n deadline le is))
    ] refl

wants_twice : (m n : ℕ) (wants : Wants) → m ≤ n → wants_after n (wants_after m wants) ≡ wants_after n wants
wants_twice m n wants le =
    same_map want_cmp-total want_cmp-antisymmetric _ _ (λ (k : WantKey).
    get-kept want_cmp-antisymmetric (λ w. nat_lt n w.1) k (wants_after m wants)
    ∙ ap (if_kept (λ w. nat_lt n w.1) k) (get-kept want_cmp-antisymmetric (λ w. nat_lt m w.1) k wants)
    ∙ still_wanted m n le k (map.get wants k)
    ∙ sym (get-kept want_cmp-antisymmetric (λ w. nat_lt n w.1) k wants))

counted_on : (number first second both : ℕ) → first + second ≡ both
    → min (min (number + first) (2 ^ 64 - 1) + second) (2 ^ 64 - 1) ≡ min (number + both) (2 ^ 64 - 1)
counted_on number first second both sum = omega arith

-- advancing time to two moments, one after the other, is the same as advancing time to the later
-- moment
pub moments_in_a_row : (p : Policy) (m n : ℕ) → at_moment (at_moment p m) n ≡ at_moment p (max m n)
moments_in_a_row p m n =
    let first = max p.now m in
    let second = max first n in
    let le : first ≤ second = omega arith in
    let same : second ≡ max p.now (max m n) = omega arith in
    (λ i. record p {
      now = second;
      table_number = counted_on p.table_number (due_count first p.routes) (due_count second (left_at first p.routes)) (due_count second p.routes) (due_twice first second p.routes le) i;
      routes = left_twice first second p.routes le i;
      held = record p.held { wants = wants_twice first second p.held.wants le i };
    })
    ∙ ap (λ (now : ℕ). record p {
      now = now;
      table_number = min (p.table_number + due_count now p.routes) (2 ^ 64 - 1);
      routes = left_at now p.routes;
      held = record p.held { wants = wants_after now p.held.wants };
    }) same
