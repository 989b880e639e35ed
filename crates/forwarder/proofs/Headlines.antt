-- Let a valid run start from a new node, and let no key book have two keys of the same name. Then
-- the headline is true of the run.
use Rattle.std.proofs.Common.{◌≡◌, ℕ, true, List, length, drop, refl, subst, Result, Ok, Err, inl, inr}
use Rattle.std.specs.Prelude.{◌⊎◌, All, Contains}
use Rattle.std.proofs.lemmas.List.Elements.{All-cons, All-head, All-tail}
use Rattle.ndn_tlv.specs.Element.{Field}
use Rattle.key_files.specs.KeyFile.{NamedKey}
use Rattle.info_rules.specs.Rule.{PlainRule}
use Rattle.ndn_packets.specs.FrameReading.{frame_at}
use Rattle.ndn_packets.specs.Packet.{PlainData, PlainFrame, AnInterest, AData, ANack, Idle}
use Rattle.ndn_packets.specs.declared.fault.PacketFault.{PacketFault}
use Rattle.pit_fib.specs.declared.pit.TheConstants.{MAX_PENDING}
use Rattle.pit_fib.specs.Records.{records_at}
use Rattle.std.specs.Prelude.{nat_le}
use Rattle.std.specs.FinMap as map
use Rattle.forwarder.specs.AskedFor.{AnswersItself, WasAskedFor}
use Rattle.forwarder.specs.DataSends.{BringsOctets, is_data}
use Rattle.forwarder.specs.declared.verdict.Verdict as code
use Rattle.forwarder.specs.Event.{PlainEvent, Send, moment}
use Rattle.forwarder.specs.Headline.{Headline, IsNodeRun}
use Rattle.forwarder.specs.Node.{NodeState}
use Rattle.forwarder.specs.Policy.{Policy, at_moment, first_policy}
use Rattle.forwarder.specs.Replies.{Replies}
use Rattle.forwarder.specs.Runs.{Run, Start, Then, IsPolicyOf, BringsKeysApart, IsRun, KeysAreApart, MayCache, MayReply, Stands, events_back, seen_after}
use Rattle.forwarder.specs.Verdict.{Answer, verdict_of}
use Rattle.forwarder.proofs.AskedFor.{sent_was_asked_for, unread_is_own}
use Rattle.forwarder.proofs.Deliveries.{delivered}
use Rattle.forwarder.proofs.Folds.{contents_folded}
use Rattle.forwarder.proofs.GoingOn.{goes_on}
use Rattle.forwarder.proofs.Handled.{StepsBy}
use Rattle.forwarder.proofs.Histories.{one_history, one_policy}
use Rattle.forwarder.proofs.LaterMoments.{policy_apart}
use Rattle.forwarder.proofs.ObjectChanges.{insert_comes, object_comes, object_stays}
use Rattle.forwarder.proofs.Once.{never_again, newer}
use Rattle.forwarder.proofs.TokensBack.{token_goes_back}
use Rattle.forwarder.proofs.VerdictsNamed.{event_named}

module _ (rules : List PlainRule) (keys : List NamedKey) (repo : List Field) where
  abbrev first : Policy
  first = first_policy rules keys repo

  -- each Data in a valid answer was asked for
  sends_asked : (before : Run) (event : PlainEvent) (answer : Answer) (reply : MayReply first before event answer) → IsRun first before → BringsOctets event
      → (face : ℕ) (octets : List ℕ) → Contains answer.sends (face, octets) → is_data octets ≡ true
      → ((whole : List ℕ) × (d : PlainData) × (frame_at octets ≡ Ok (AData whole d)) × WasAskedFor first before reply.was event (face, octets) whole d)
      ⊎ AnswersItself reply.was event (face, octets)
  sends_asked before event answer reply is fits face octets sent data' = by_read (frame_at octets) refl
    where
      Asked : Type 0
      Asked =
          ((whole : List ℕ) × (d : PlainData) × (frame_at octets ≡ Ok (AData whole d)) × WasAskedFor first before reply.was event (face, octets) whole d)
          ⊎ AnswersItself reply.was event (face, octets)

      own : ((whole : List ℕ) (d : PlainData) → frame_at octets ≡ Ok (AData whole d) → ⊥) → Asked
      own unread = inr (unread_is_own first before event answer reply refl is fits face octets sent data' unread)

      by_read : (read : Result PlainFrame PacketFault) → frame_at octets ≡ read → Asked
      by_read (Err fault) e = own (λ whole d f. cc (e, f))
      by_read (Ok (AnInterest asked i)) e = own (λ whole d f. cc (e, f))
      by_read (Ok (AData whole d)) e = inl (whole, d, e, sent_was_asked_for first before event answer reply refl is fits face octets whole d sent e)
      by_read (Ok (ANack reason asked i)) e = own (λ whole d f. cc (e, f))
      by_read (Ok Idle) e = own (λ whole d f. cc (e, f))

  pub headline_of : (run : Run) (p : Policy) → KeysAreApart first run → All BringsOctets (events_back run) → IsRun first run → IsPolicyOf first run p → Headline first run p
  headline_of Start p apart fits is h = h
  headline_of (Then before event answer) p apart fits (is, given) (was, w, after) = (
    was,
    headline_of before was apart.0 (All-tail BringsOctets event (events_back before) fits) is w,
    (let one : given.was ≡ was = one_policy first given.was was before before apart.0 (one_history before) given.is_policy w in
        let replies = subst (λ (x : Policy). Replies (seen_after before (at_moment x (moment event)) given.waiting) event answer) one given.replies in
        let reply : MayReply first before event answer =
        record { was = was; is_policy = w; waiting = given.waiting; is_waiting = given.is_waiting; replies = replies } in
        let q = at_moment was (moment event) in
        record {
          after = after;
          rule = event_named q (records_at given.waiting) (nat_le MAX_PENDING (map.len given.waiting)) (MayCache before q.now) answer event replies;
          fold = contents_folded first refl (Then before event answer) p apart (is, given) (was, w, after);
          once = λ whole other i j allowed allows same. never_again first was before event whole other i j apart.0 allowed w allows same;
          newer = λ whole other i j r s allowed allows a b same. newer first was before event whole other i j r s apart.0 allowed w allows a b same;
          asked = sends_asked before event answer reply is (All-head BringsOctets event (events_back before) fits);
          token = λ face octets token sent has. token_goes_back first before event answer reply refl is (All-head BringsOctets event (events_back before) fits) face octets token has sent;
          given = λ whole d allows. (
            given.waiting,
            given.is_waiting,
            delivered q (records_at given.waiting) (nat_le MAX_PENDING (map.len given.waiting)) (MayCache before q.now) (policy_apart first before was apart.0 w) answer whole d allows.rule allows.said event
                replies allows.brings,
          );
          stored = λ name octets at. object_comes was event name octets p after at;
          kept = λ name had. object_stays was event name had p after;
          inserted = λ key deadline at. insert_comes was event key deadline p after at;
        }),
  )

-- ---- a step extends the runs of a node

abbrev pub ExtendsHeadline : NodeState → NodeState → List Send → PlainEvent → code.Verdict → Type 0
ExtendsHeadline old new sends event verdict =
    (rules : List PlainRule) (keys : List NamedKey) (repo : List Field) (past : Run) → IsNodeRun (first_policy rules keys repo) past → Stands (first_policy rules keys repo) past old
    → IsNodeRun (first_policy rules keys repo) (Then past event (record { verdict = verdict_of verdict; sends = sends }))
    × Headline (first_policy rules keys repo) (Then past event (record { verdict = verdict_of verdict; sends = sends })) new.policy

pub extends_headline : (old new : NodeState) (before after : List Send) (event : PlainEvent) (verdict : code.Verdict) → BringsOctets event → BringsKeysApart event
    → StepsBy old new before after event verdict → ExtendsHeadline old new (drop (length before) after) event verdict
extends_headline old new before after event verdict octets apart step rules keys repo past runs stands =
    let longer = goes_on old new before after event verdict step (first_policy rules keys repo) past refl runs.valid stands in
    let is : IsNodeRun (first_policy rules keys repo) (Then past event (record { verdict = verdict_of verdict; sends = drop (length before) after })) = record {
      valid = longer.0;
      keys = (runs.keys, apart);
      octets = All-cons BringsOctets event (events_back past) octets runs.octets;
    } in (is, headline_of rules keys repo (Then past event (record { verdict = verdict_of verdict; sends = drop (length before) after })) new.policy is.keys is.octets is.valid longer.1.policy)
