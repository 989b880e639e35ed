-- If a run starts from a policy with the time 0, a step of a node that agrees with the run extends
-- the run.
use Rattle.std.proofs.Common.{◌≡◌, ℕ, Bool, true, false, List, ap, subst, ◌∙◌, Result, Ok, Err}
use Rattle.std.specs.Prelude.{Option, Some, None, max, nat_le}
use Rattle.std.specs.List.{All}
use Rattle.std.specs.FinMap as map
use Rattle.ndn_packets.specs.FrameReading.{frame_at, token_at}
use Rattle.ndn_packets.specs.Key.{PlainKey, key_of}
use Rattle.ndn_packets.specs.Packet.{PlainInterest, PlainFrame, AnInterest, AData, ANack, Idle}
use Rattle.ndn_packets.specs.declared.fault.PacketFault.{PacketFault}
use Rattle.pit_fib.specs.declared.pit.TheConstants.{MAX_PENDING}
use Rattle.pit_fib.specs.Cause.{Expires, records_after}
use Rattle.pit_fib.specs.Pit.{loops}
use Rattle.pit_fib.specs.Records.{Records, records_at}
use Rattle.content_store.specs.Store.{CachedData, GivesData}
use Rattle.forwarder.specs.Event.{PlainEvent, Packet, FaceUp, FaceDown, Tick, NewRules, Token}
use Rattle.forwarder.specs.OpenFaces.{is_open}
use Rattle.forwarder.specs.Event.{moment}
use Rattle.forwarder.specs.Verdict.{Answer, IfTrueElse}
use Rattle.forwarder.specs.Policy.{Policy, at_moment}
use Rattle.forwarder.specs.Request.{Request, Refused, ForList, ForTables, ForRepository, ForData, request_of}
use Rattle.forwarder.specs.Replies.{Seen, Replies, RepliesToPacket, RepliesToRequest, RepliesForData}
use Rattle.forwarder.specs.Causes.{causes_of, after_causes}
use Rattle.forwarder.specs.Node.{NodeState, IsStep}
use Rattle.forwarder.specs.Runs.{Run, Then, IsWaiting, MayCache, MayHold, MayReply, Stands, now_of, records_of}
use Rattle.forwarder.proofs.LaterMoments.{policy_now}
use Rattle.forwarder.proofs.PastRecords.{records_then}

either_map : (b : Bool) {A B C D : Type 0} → (A → C) → (B → D) → IfTrueElse b A B → IfTrueElse b C D
either_map true f g h = f h
either_map false f g h = g h

-- ---- a valid answer remains valid if the cache may give more Data

abbrev pub seen_with : Policy → (PlainKey → Records) → Bool → (PlainKey → Option (List ℕ) → Type 0) → Seen
seen_with p records full gives = record { policy = p; records = records; is_full = full; MayGive = gives }

module _ (p : Policy) (records : PlainKey → Records) (full : Bool) (G H : PlainKey → Option (List ℕ) → Type 0)
    (more : (key : PlainKey) (given : Option (List ℕ)) → G key given → H key given) where
  more_data : (face : ℕ) (token : Token) (whole : List ℕ) (i : PlainInterest) (answer : Answer)
      → RepliesForData (seen_with p records full G) face token whole i answer → RepliesForData (seen_with p records full H) face token whole i answer
  more_data face token whole i answer =
      either_map (loops (records (key_of i)) face i.nonce) (λ h. h) (λ h. (h.0, more (key_of i) h.0 h.1, h.2))

  more_request : (face : ℕ) (token : Token) (whole : List ℕ) (i : PlainInterest) (answer : Answer) (r : Request)
      → RepliesToRequest (seen_with p records full G) face token whole i answer r → RepliesToRequest (seen_with p records full H) face token whole i answer r
  more_request face token whole i answer (Refused reason) h = h
  more_request face token whole i answer (ForList asked) h = h
  more_request face token whole i answer ForTables h = h
  more_request face token whole i answer ForRepository h = h
  more_request face token whole i answer ForData h = more_data face token whole i answer h

  more_packet : (face : ℕ) (token : Token) (read : Result PlainFrame PacketFault) (answer : Answer)
      → RepliesToPacket (seen_with p records full G) face token read answer → RepliesToPacket (seen_with p records full H) face token read answer
  more_packet face token (Err fault) answer h = h
  more_packet face token (Ok (AnInterest whole i)) answer h = more_request face token whole i answer (request_of p face i) h
  more_packet face token (Ok (AData whole d)) answer h = h
  more_packet face token (Ok (ANack reason whole i)) answer h = h
  more_packet face token (Ok Idle) answer h = h

  pub more_replies : (event : PlainEvent) (answer : Answer)
      → Replies (seen_with p records full G) event answer → Replies (seen_with p records full H) event answer
  more_replies (Packet face now octets) answer h =
      either_map (is_open face p.faces) (more_packet face (token_at octets) (frame_at octets) answer) (λ g. g) h
  more_replies (FaceUp face scope now) answer h = h
  more_replies (FaceDown face now) answer h = h
  more_replies (Tick now) answer h = h
  more_replies (NewRules rules keys now) answer h = h

-- ---- how the time, records and cached Data of a node agree with the past

-- if `MayHold` is true of all cached Data, then `MayCache` is true of what the cache gives
gives_held : (past : Run) (now : ℕ) (cached : List CachedData) → All (MayHold past) cached → (key : PlainKey) (given : Option (List ℕ))
    → GivesData key now cached given → MayCache past now key given
gives_held past now cached held key None h = tt
gives_held past now cached held key (Some octets) h =
    let c = h.0 in
    let least = h.1 in
    let at = least.is_cached in
    (c, subst (MayHold past) at.2 (held at.0 c at.1), least.has, h.2)

module _ (first : Policy) (past : Run) (old new : NodeState) (event : PlainEvent) (answer : Answer)
    (zero : first.now ≡ 0) (stands : Stands first past old) (step : IsStep old event answer new) where
  pub now_is : (at_moment old.policy (moment event)).now ≡ max (now_of past) (moment event)
  now_is = ap (λ (n : ℕ). max n (moment event)) (policy_now first past old.policy zero stands.policy)

  pub is_waiting : IsWaiting past (max (now_of past) (moment event)) step.waiting
  is_waiting = record {
    living = step.living;
    records = λ key. subst (λ (now : ℕ). records_at step.waiting key ≡ records_after (Expires now) key (records_at old.pending key)) now_is (step.expiry key)
        ∙ ap (λ (r : Records). records_after (Expires (max (now_of past) (moment event))) key r) (stands.pending key);
  }

  pub may_reply : MayReply first past event answer
  may_reply =
      let p = at_moment old.policy (moment event) in
      record {
        was = old.policy;
        is_policy = stands.policy;
        waiting = step.waiting;
        is_waiting = is_waiting;
        replies = more_replies p (records_at step.waiting) (nat_le MAX_PENDING (map.len step.waiting)) (λ key given. GivesData key p.now old.cache.cached given) (MayCache past p.now)
            (gives_held past p.now old.cache.cached stands.cache) event answer step.replies;
      }

  pub pending_is : (key : PlainKey) → records_at new.pending key ≡ records_of (Then past event answer) key
  pending_is key =
      let now = max (now_of past) (moment event) in
      subst (λ (n : ℕ). records_at new.pending key ≡ after_causes (causes_of n event answer) key (records_at step.waiting key)) now_is (step.pending key)
      ∙ ap (λ (r : Records). after_causes (causes_of now event answer) key r) (is_waiting.records key)
      ∙ records_then past event answer key
