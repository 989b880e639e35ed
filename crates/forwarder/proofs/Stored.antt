-- Let the repository be empty at the start of a run. Then each object that is stored after the run
-- is a Data that was allowed in an event of the run.
use Rattle.std.proofs.Common.{◌≡◌, ℕ, Bool, true, false, cond, List, refl, sym, ap, subst, ◌∙◌, Result, Ok, Err, inl, inr}
use Rattle.std.specs.Prelude.{◌⊎◌, Option, Some, None, not, ◌==◌, if◌then◌else◌}
use Rattle.std.specs.Cmp.{Equal-is}
use Rattle.std.specs.FinMap as map
use Rattle.std.specs.FinMap.{get-insert, get-empty}
use Rattle.std.specs.Ordering.{eq_by_cmp}
use Rattle.sha2.specs.Sha256.{sha256}
use Rattle.ndn_tlv.specs.Element.{Field}
use Rattle.ndn_names.specs.Key.{name_cmp-total, name_cmp-antisymmetric}
use Rattle.ndn_names.specs.Order.{name_cmp}
use Rattle.ndn_packets.specs.Answers.{full_name}
use Rattle.ndn_packets.specs.Packet.{PlainInterest, PlainData, PlainFrame, AnInterest, AData, ANack, Idle}
use Rattle.info_rules.specs.declared.decision.Decision.{Decision}
use Rattle.info_rules.specs.declared.decision.Decision.TheVariants as decided
use Rattle.replay_guard.specs.Freshness.{Recorded}
use Rattle.mgmt_core.specs.Reading.{PlainCommand, command_at}
use Rattle.pit_fib.specs.Fib.{without_face}
use Rattle.repo_core.specs.declared.verb.Verb.{Verb}
use Rattle.repo_core.specs.declared.verb.Verb.TheVariants.{Insert, Delete, Check}
use Rattle.repo_core.specs.declared.types.TheConstants.{OK, PENDING}
use Rattle.repo_core.specs.Objects.{Objects, full_name_answers, if_kept, without_answering}
use Rattle.repo_core.specs.Reading.{RepoCommand, repo_command_at}
use Rattle.repo_core.specs.Repo.{Held, want_key, after_delete, after_insert, after_known, after_offer, after_some, repo_status_of}
use Rattle.repo_core.specs.Wants.{is_wanted, unfilled, want_deadline}
use Rattle.repo_core.proofs.Kept.{get-kept}
use Rattle.forwarder.specs.Event.{PlainEvent, Packet, FaceUp, FaceDown, Tick, NewRules}
use Rattle.forwarder.specs.OpenFaces.{is_open}
use Rattle.forwarder.specs.Event.{moment}
use Rattle.forwarder.specs.OpenFaces.{with_face, without_entry}
use Rattle.forwarder.specs.Policy.{Policy, at_moment, with_next_version}
use Rattle.forwarder.specs.Request.{Request, Refused, ForList, ForTables, ForRepository, ForData, request_of}
use Rattle.forwarder.specs.Deciding.{IsDecidedAs, recorded_of}
use Rattle.forwarder.specs.Commands.{after_request, after_tables, with_record}
use Rattle.forwarder.specs.Effects.{IsAfter, IsEffect, after_decision, can_open, decided_packet, face_in, undecided_effect}
use Rattle.forwarder.specs.Runs.{Run, Start, Then, IsPolicyOf}
use Rattle.forwarder.specs.Allowed.{Allows, AllowedIn}

-- the object with the full name `name` is stored, and its octets are `octets`
abbrev Holds : Objects → List Field → List ℕ → Type 0
Holds objects name octets = map.get objects name ≡ Some octets

-- ---- commands do not add objects to the repository

if_kept_some : (test : List Field × List ℕ → Bool) (name : List Field) (o : Option (List ℕ)) (octets : List ℕ) → if_kept test name o ≡ Some octets → o ≡ Some octets
if_kept_some test name None octets e = e
if_kept_some test name (Some x) octets e = by_test (test (name, x)) e
  where
    by_test : (b : Bool) → (if b then Some x else None) ≡ Some octets → Some x ≡ Some octets
    by_test true e = e
    by_test false e = cc e

deleted : (c : RepoCommand) (s : Held) (name : List Field) (octets : List ℕ) → Holds (after_delete c s).objects name octets → Holds s.objects name octets
deleted c s name octets = by_status (repo_status_of s c == OK)
  where
    by_status : (b : Bool) → Holds (if b then record { objects = without_answering c.name c.can_be_prefix s.objects; wants = map.remove s.wants (want_key c) } else s).objects name octets
        → Holds s.objects name octets
    by_status true h =
        let test = λ (o : List Field × List ℕ). not (full_name_answers c.name c.can_be_prefix o.0) in
        if_kept_some test name (map.get s.objects name) octets (sym (get-kept name_cmp-antisymmetric test name s.objects) ∙ h)
    by_status false h = h

inserted : (c : RepoCommand) (now : ℕ) (s : Held) → (after_insert c now s).objects ≡ s.objects
inserted c now s = by_status (repo_status_of s c == PENDING)
  where
    by_status : (b : Bool) → (if b then record s { wants = map.insert s.wants (want_key c) (want_deadline now c.lifetime) } else s).objects ≡ s.objects
    by_status true = refl
    by_status false = refl

by_verb : (c : RepoCommand) (v : Verb) (now : ℕ) (s : Held) (name : List Field) (octets : List ℕ) → Holds (after_known (record c { verb = v }) now s).objects name octets → Holds s.objects name octets
by_verb c Insert now s name octets h = subst (λ (o : Objects). Holds o name octets) (inserted (record c { verb = Insert }) now s) h
by_verb c Delete now s name octets h = deleted (record c { verb = Delete }) s name octets h
by_verb c Check now s name octets h = h

pub commanded : (o : Option RepoCommand) (now : ℕ) (s : Held) (name : List Field) (octets : List ℕ) → Holds (after_some o now s).objects name octets → Holds s.objects name octets
commanded None now s name octets h = h
commanded (Some c) now s name octets h = by_verb c c.verb now s name octets h

pub tables_stored : (p : Policy) (face : ℕ) (c : Result PlainCommand ℕ) → (after_tables p face c).held ≡ p.held
tables_stored p face (Err status) = refl
tables_stored p face (Ok c) = refl

request_stored : (p : Policy) (face : ℕ) (i : PlainInterest) (r : Request) (name : List Field) (octets : List ℕ) → Holds (after_request p face i r).held.objects name octets → Holds p.held.objects name octets
request_stored p face i (Refused reason) name octets h = h
request_stored p face i (ForList asked) name octets h = h
request_stored p face i ForTables name octets h = subst (λ (s : Held). Holds s.objects name octets) (tables_stored p face (command_at i.name)) h
request_stored p face i ForRepository name octets h = commanded (repo_command_at p.repo i.name) p.now p.held name octets h
request_stored p face i ForData name octets h = h

pub record_stored : (p : Policy) (r : Option Recorded) → (with_record p r).held ≡ p.held
record_stored p None = refl
record_stored p (Some r) = refl

-- ---- Data that the repository wants

pub same_name : (a b : List Field) → eq_by_cmp name_cmp a b ≡ true → a ≡ b
same_name a b e = name_cmp-antisymmetric a b ((Equal-is (name_cmp a b)).0 e)

offered : (s : Held) (whole : List ℕ) (d : PlainData) (name : List Field) (octets : List ℕ) → Holds (after_offer d.name (sha256 whole) whole s).objects name octets
    → Holds s.objects name octets ⊎ ((octets ≡ whole) × (name ≡ full_name d.name (sha256 whole)))
offered s whole d name octets = by_wanted (is_wanted d.name (sha256 whole) s.wants)
  where
    by_name : (b : Bool) → eq_by_cmp name_cmp name (full_name d.name (sha256 whole)) ≡ b → cond b (Some whole) (map.get s.objects name) ≡ Some octets
        → Holds s.objects name octets ⊎ ((octets ≡ whole) × (name ≡ full_name d.name (sha256 whole)))
    by_name true e h = inr ((let f : whole ≡ octets = cc h in sym f), same_name name (full_name d.name (sha256 whole)) e)
    by_name false e h = inl h

    by_wanted : (b : Bool)
        → Holds (if b then record { objects = map.insert s.objects (full_name d.name (sha256 whole)) whole; wants = unfilled d.name (sha256 whole) s.wants } else s).objects name octets
        → Holds s.objects name octets ⊎ ((octets ≡ whole) × (name ≡ full_name d.name (sha256 whole)))
    by_wanted true h =
        by_name (eq_by_cmp name_cmp name (full_name d.name (sha256 whole))) refl (sym (get-insert name_cmp-total s.objects (full_name d.name (sha256 whole)) whole name) ∙ h)
    by_wanted false h = inl h

-- ---- the objects that are stored after a run

-- `octets` are a Data that was allowed, and `name` is its full name
abbrev pub IsOfAllowed : Policy → Run → List Field → List ℕ → Type 0
IsOfAllowed first run name octets =
    (d : PlainData) × AllowedIn first run (AData octets d) × (name ≡ full_name d.name (sha256 octets))

abbrev StoredAfter : Policy → PlainEvent → List Field → List ℕ → Type 0
StoredAfter was event name octets =
    Holds was.held.objects name octets
    ⊎ ((d : PlainData) × Allows was event (AData octets d) × (name ≡ full_name d.name (sha256 octets)))

pub undecided_stored : (p : Policy) (event : PlainEvent) → (undecided_effect p event).held ≡ p.held
undecided_stored p (Packet face now octets) = refl
undecided_stored p (FaceUp face scope now) = by_open (can_open p face)
  where
    by_open : (b : Bool) → (if b then record p { faces = with_face face scope p.faces } else p).held ≡ p.held
    by_open true = refl
    by_open false = refl
undecided_stored p (FaceDown face now) = by_open (is_open face p.faces)
  where
    by_open : (b : Bool) → (if b then with_next_version (record p { faces = without_entry face p.faces; routes = without_face p.routes face }) else p).held ≡ p.held
    by_open true = refl
    by_open false = refl
undecided_stored p (Tick now) = refl
undecided_stored p (NewRules rules keys now) = refl

stored_after : (was new : Policy) (event : PlainEvent) (name : List Field) (octets : List ℕ) → IsAfter was event new → Holds new.held.objects name octets → StoredAfter was event name octets
stored_after was new event name octets h at = by_packet (decided_packet (at_moment was (moment event)) event) refl h
  where
    by_said : (packet : PlainFrame) (said : Decision) → decided_packet (at_moment was (moment event)) event ≡ Some packet → IsDecidedAs (at_moment was (moment event)) packet said
        → Holds (after_decision (at_moment was (moment event)) (face_in event) packet said).held.objects name octets → StoredAfter was event name octets
    by_said (AnInterest whole i) (decided.Allowed rule) d s k =
        let q = at_moment was (moment event) in
        let base = after_request q (face_in event) i (request_of q (face_in event) i) in
        inl (request_stored q (face_in event) i (request_of q (face_in event) i) name octets (subst (λ (x : Held). Holds x.objects name octets) (record_stored base (recorded_of i)) k))
    by_said (AData whole packet) (decided.Allowed rule) d s k = by_offer (offered (at_moment was (moment event)).held whole packet name octets k)
      where
        by_offer : (Holds was.held.objects name octets ⊎ ((octets ≡ whole) × (name ≡ full_name packet.name (sha256 whole)))) → StoredAfter was event name octets
        by_offer (inl e) = inl e
        by_offer (inr (e, f)) = inr (
          packet,
          subst (λ (w : List ℕ). Allows was event (AData w packet)) (sym e) (record { rule = rule; brings = d; said = s }),
          f ∙ ap (λ (w : List ℕ). full_name packet.name (sha256 w)) (sym e),
        )
    by_said (ANack reason whole i) (decided.Allowed rule) d s k = inl k
    by_said Idle (decided.Allowed rule) d s k = inl k
    by_said packet (decided.Denied rule reason) d s k = inl k
    by_said packet decided.NoRule d s k = inl k

    by_packet : (packet : Option PlainFrame) → decided_packet (at_moment was (moment event)) event ≡ packet → IsEffect (at_moment was (moment event)) event new packet
        → StoredAfter was event name octets
    by_packet None d e =
        inl (subst (λ (x : Held). Holds x.objects name octets) (ap (λ (p : Policy). p.held) e ∙ undecided_stored (at_moment was (moment event)) event) at)
    by_packet (Some packet) d (said, s, e) = by_said packet said d s (subst (λ (p : Policy). Holds p.held.objects name octets) e at)

pub stored_is_of_allowed : (first p : Policy) (run : Run) (name : List Field) (octets : List ℕ) → first.held.objects ≡ map.empty → IsPolicyOf first run p → Holds p.held.objects name octets
    → IsOfAllowed first run name octets
stored_is_of_allowed first p Start name octets none h at =
    let e : map.get p.held.objects name ≡ None = ap (λ (q : Policy). map.get q.held.objects name) h ∙ ap (λ (o : Objects). map.get o name) none ∙ get-empty name_cmp name in cc (at, e)
stored_is_of_allowed first p (Then before event answer) name octets none (was, w, after) at =
    by_stored (stored_after was p event name octets after at) (stored_is_of_allowed first was before name octets none w)
  where
    by_stored : StoredAfter was event name octets → (Holds was.held.objects name octets → IsOfAllowed first before name octets) → IsOfAllowed first (Then before event answer) name octets
    by_stored (inl k) rest = let r = rest k in (r.0, inl r.1, r.2)
    by_stored (inr (d, allows, e)) rest = (d, inr (was, w, allows), e)
