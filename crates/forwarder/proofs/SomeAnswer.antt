-- After each valid run, each event has a valid answer, and some policy follows. That there is a
-- decision on a packet is known only in the sense that it is not impossible (`Possible`), since no
-- procedure here decides whether a rule applies. So this is also the sense of the result.
use Rattle.std.proofs.Common.{◌≡◌, ◌≢◌, ℕ, Bool, true, false, cond, List, [], ◌∷◌, ◌++◌, refl, sym, ap, subst, ◌∙◌, arith, Result, Ok, Err, inl, inr}
use Rattle.std.specs.Prelude.{◌⊎◌, ◌↔◌, ◌==◌, ◌||◌, Option, None, Some, All, IsSome, IsTrue, max}
use Rattle.std.specs.FinMap as map
use Rattle.std.specs.FinMap.{get-empty}
use Rattle.std.specs.Ordering.{is_gt, nat_cmp}
use Rattle.std.specs.declared.cmp.Ordering.{Ordering}
use Rattle.std.specs.declared.cmp.Ordering.TheVariants.{Less, Equal, Greater}
use Rattle.std.specs.Cmp.{upto}
use Rattle.std.proofs.lemmas.Bool.{cases_lt, eq-eqb, eqb-true}
use Rattle.std.proofs.lemmas.List.Elements.{All-cons, All-nil}
use Rattle.sha2.specs.Sha256.{sha256}
use Rattle.ndn_tlv.specs.Element.{Field}
use Rattle.ndn_packets.specs.FrameReading.{frame_at, token_at}
use Rattle.ndn_packets.specs.Key.{PlainKey, key_cmp, key_cmp-total, key_of}
use Rattle.ndn_packets.specs.Packet.{PlainInterest, PlainData, PlainFrame, AnInterest, AData, ANack, Idle}
use Rattle.ndn_packets.specs.declared.fault.PacketFault.{PacketFault}
use Rattle.info_rules.specs.declared.decision.Decision.{Decision}
use Rattle.info_rules.specs.declared.decision.Decision.TheVariants as decided
use Rattle.info_rules.specs.declared.decision.Reason.TheVariants.{Replay}
use Rattle.info_rules.specs.Decided.{IsDecided}
use Rattle.info_rules.specs.Decides.{Decides}
use Rattle.info_rules.proofs.SomeDecision.{some_decision}
use Rattle.pit_fib.specs.FaceSet.{IsRising, has_face, with_face}
use Rattle.pit_fib.specs.Pit.{loops, nacked_answer}
use Rattle.pit_fib.specs.Records.{InRecord, Pending, Records}
use Rattle.pit_fib.specs.Tokens.{IsAsker, IsNotAfter, IsTokenFor}
use Rattle.pit_fib.proofs.RisingFaces.{with_rises}
use Rattle.repo_core.specs.Wants.{is_wanted}
use Rattle.forwarder.specs.Event.{PlainEvent, Packet, FaceUp, FaceDown, Tick, NewRules, Send, Token, moment}
use Rattle.forwarder.specs.OpenFaces.{is_open}
use Rattle.forwarder.specs.Verdict.{Answer, DataAllowed, Denied, IfTrueElse, Malformed, NoFace, NoRule, Idle as IsIdle, Scope as OutOfScope, dropped, passed}
use Rattle.info_rules.specs.declared.rule.Kind.TheVariants as kinds
use Rattle.forwarder.specs.Policy.{Policy, at_moment}
use Rattle.forwarder.specs.Request.{Request, Refused, ForList, ForTables, ForRepository, ForData, is_out_of_scope, request_of}
use Rattle.forwarder.specs.Deciding.{IsDecidedAs, IsFreshPacket}
use Rattle.forwarder.specs.Commands.{command_answer}
use Rattle.forwarder.specs.Datasets.{list_answer}
use Rattle.forwarder.specs.Effects.{IsAfter, IsEffect, after_decision, decided_packet, face_in, packet_to_decide, undecided_effect}
use Rattle.forwarder.specs.Kept.{IsKept}
use Rattle.forwarder.specs.Replies.{Askers, IsSentToAskers, Replies, RepliesByDecision, RepliesToData, RepliesToNack, RepliesToPacket, RepliesToRequest, Seen, Waits, by_content_store, faces_of, interest_loop, nack_answer, opening_answer, sent_to}
use Rattle.forwarder.specs.Runs.{Run, Start, Then, IsPolicyOf, IsRun, IsWaiting, now_of, records_of, seen_after}
use Rattle.forwarder.proofs.KeptInterests.{kept_or_waited, waited_before}
use Rattle.forwarder.proofs.Openness.{has-with_face}
use Rattle.forwarder.proofs.Possible.{Possible, either, surely, then'}
use Rattle.forwarder.proofs.SomeWaiting.{some_waiting}

-- ---- some decision, and some policy

-- there is a decision on each packet that can be decided
decision_on : (p : Policy) (packet : PlainFrame) → IsDecided packet → Possible ((said : Decision) × IsDecidedAs p packet said)
decision_on p packet can =
    then' {A = (said : Decision) × Decides p.rules p.keys packet said} (λ none. some_decision p.rules p.keys packet can (λ said is. none (said, is)))
    (λ found. by_said found.0 found.1)
  where
    by_said : (said : Decision) → Decides p.rules p.keys packet said → Possible ((said : Decision) × IsDecidedAs p packet said)
    by_said (decided.Allowed rule) is =
        then' (either (IsFreshPacket p packet)) (λ fresh. elim fresh [
          | inl holds ↦ surely (decided.Allowed rule, (is, holds))
          | inr lacks ↦ surely (decided.Denied rule Replay, inr (refl, is, lacks))
        ])
    by_said (decided.Denied rule reason) is = surely (decided.Denied rule reason, inl is)
    by_said decided.NoRule is = surely (decided.NoRule, is)

effect_of : (p : Policy) (event : PlainEvent) (packet : Option PlainFrame) → ((f : PlainFrame) → packet ≡ Some f → IsDecided f) → Possible ((new : Policy) × IsEffect p event new packet)
effect_of p event None can = surely (undecided_effect p event, refl)
effect_of p event (Some packet) can =
    then' (decision_on p packet (can packet refl)) (λ found. surely (after_decision p (face_in event) packet found.0, (found.0, found.1, refl)))

can_decide : (p : Policy) (event : PlainEvent) (f : PlainFrame) → decided_packet p event ≡ Some f → IsDecided f
can_decide p (Packet face now octets) f e = by_open (is_open face p.faces) e
  where
    only : (b : Bool) (packet : PlainFrame) → IsDecided packet → cond b (Some packet) None ≡ Some f → IsDecided f
    only true packet can e = (let same : packet ≡ f = cc e in subst IsDecided same can)
    only false packet can e = cc e

    by_read : (r : Result PlainFrame PacketFault) → packet_to_decide p face r ≡ Some f → IsDecided f
    by_read (Err fault) e = cc e
    by_read (Ok (AnInterest whole i)) e = only _ (AnInterest whole i) tt e
    by_read (Ok (AData whole d)) e = only _ (AData whole d) tt e
    by_read (Ok (ANack reason whole i)) e = cc e
    by_read (Ok Idle) e = cc e

    by_open : (b : Bool) → cond b (packet_to_decide p face (frame_at octets)) None ≡ Some f → IsDecided f
    by_open true e = by_read (frame_at octets) e
    by_open false e = cc e
can_decide p (FaceUp face scope now) f e = cc e
can_decide p (FaceDown face now) f e = cc e
can_decide p (Tick now) f e = cc e
can_decide p (NewRules rules keys now) f e = cc e

some_effect : (old : Policy) (event : PlainEvent) → Possible ((new : Policy) × IsAfter old event new)
some_effect old event =
    let p = at_moment old (moment event) in
    effect_of p event (decided_packet p event) (can_decide p event)

pub some_policy : (first : Policy) (past : Run) → Possible ((p : Policy) × IsPolicyOf first past p)
some_policy first Start = surely (first, refl)
some_policy first (Then before event answer) =
    then' (some_policy first before) (λ was. then' (some_effect was.0 event) (λ new. surely (new.0, (was.0, was.1, new.1))))

-- ---- the faces and keys of pending Interests come from the events of the run

-- the faces of the events
abbrev faces_in : Run → List ℕ
faces_in Start = []
faces_in (Then before event answer) = face_in event ∷ faces_in before

key_read : Result PlainFrame PacketFault → List PlainKey
key_read (Err fault) = []
key_read (Ok (AnInterest whole i)) = key_of i ∷ []
key_read (Ok (AData whole d)) = []
key_read (Ok (ANack reason whole i)) = []
key_read (Ok Idle) = []

-- the key of the Interest that an event brings, if any
key_in : PlainEvent → List PlainKey
key_in (Packet face now octets) = key_read (frame_at octets)
key_in (FaceUp face scope now) = []
key_in (FaceDown face now) = []
key_in (Tick now) = []
key_in (NewRules rules keys now) = []

abbrev keys_in : Run → List PlainKey
keys_in Start = []
keys_in (Then before event answer) = key_in event ++ keys_in before

-- `x` is one of the elements
abbrev IsOne : {A : Type 0} → A → List A → Type 0
IsOne x [] = ⊥
IsOne x (y ∷ ys) = (x ≡ y) ⊎ IsOne x ys

one_later : {A : Type 0} (x : A) (front back : List A) → IsOne x back → IsOne x (front ++ back)
one_later x [] back is = is
one_later x (y ∷ front) back is = inr (one_later x front back is)

one_earlier : {A : Type 0} (x : A) (front back : List A) → IsOne x front → IsOne x (front ++ back)
one_earlier x [] back is = absurd is
one_earlier x (y ∷ front) back (inl is) = inl is
one_earlier x (y ∷ front) back (inr is) = inr (one_earlier x front back is)

kept_key : (now : ℕ) (event : PlainEvent) (answer : Answer) (key : PlainKey) (face : ℕ) (r : InRecord) → IsKept now event answer key face r → (face ≡ face_in event) × IsOne key (key_in event)
unfolding key_in key_read
kept_key now event answer key face r kept =
    let is = kept.is_passed in (
      sym (ap face_in is.brings),
      subst (λ (e : PlainEvent). IsOne key (key_in e)) (sym is.brings) (subst (λ (f : Result PlainFrame PacketFault). IsOne key (key_read f)) (sym is.read) (inl kept.is_key)),
    )

record_from : (past : Run) (key : PlainKey) (face : ℕ) (r : InRecord) → map.get (records_of past key).in_records face ≡ Some r → IsOne face (faces_in past) × IsOne key (keys_in past)
record_from Start key face r has = (let none : map.get (records_of Start key).in_records face ≡ None = get-empty nat_cmp face in cc (none, has))
record_from (Then past event answer) key face r has =
    elim (kept_or_waited past event answer key face r has) [
      | inl kept ↦ (let is = kept_key (max (now_of past) (moment event)) event answer key face r kept in (inl is.0, one_earlier key (key_in event) (keys_in past) is.1))
      | inr was ↦ (let is = record_from past key face r was in (inr is.0, one_later key (key_in event) (keys_in past) is.1))
    ]

-- ---- the token for a face

not_greater : (o : Ordering) → o ≢ Greater → is_gt o ≡ false
not_greater Less e = refl
not_greater Equal e = refl
not_greater Greater e = absurd (e refl)

is_not_greater : (o : Ordering) → is_gt o ≡ false → o ≢ Greater
is_not_greater o e same = (let is : is_gt o ≡ true = ap is_gt same in cc (e, is))

no_later : (a b c : PlainKey) (r s t : InRecord) → IsNotAfter a r b s → IsNotAfter b s c t → IsNotAfter a r c t
no_later a b c r s t (inl less) (inl more) = inl (omega arith)
no_later a b c r s t (inl less) (inr same) = inl (let e = same.0 in omega arith)
no_later a b c r s t (inr same) (inl more) = inl (let e = same.0 in omega arith)
no_later a b c r s t (inr same) (inr also) =
    inr (same.0 ∙ also.0, is_not_greater (key_cmp a c) (upto key_cmp-total a b c (not_greater (key_cmp a b) same.1) (not_greater (key_cmp b c) also.1)))

-- of two keys with an in-record, one does not come after the other
keys_tell : (a b : PlainKey) → (key_cmp a b ≢ Greater) ⊎ (key_cmp b a ≢ Greater)
keys_tell a b = by_order (key_cmp a b) refl
  where
    by_order : (o : Ordering) → key_cmp a b ≡ o → (key_cmp a b ≢ Greater) ⊎ (key_cmp b a ≢ Greater)
    by_order Less e = inl (λ g. cc (e, g))
    by_order Equal e = inl (λ g. cc (e, g))
    by_order Greater e = inr (λ g. (let turned = key_cmp-total.antisymm a b in cc (e, g, turned)))

either_after : (a b : PlainKey) (r s : InRecord) → IsNotAfter a r b s ⊎ IsNotAfter b s a r
either_after a b r s =
    elim (cases_lt r.deadline s.deadline) [
      | inl less ↦ inl (inl less)
      | inr le ↦ elim (cases_lt s.deadline r.deadline) [
        | inl less ↦ inr (inl less)
        | inr ge ↦
            let same : r.deadline ≡ s.deadline = omega (arith, le, ge) in
            elim (keys_tell a b) [
              | inl lacks ↦ inl (inr (same, lacks))
              | inr lacks ↦ inr (inr (sym same, lacks))
            ]
      ]
    ]

itself : (a : PlainKey) (r : InRecord) → IsNotAfter a r a r
itself a r = elim (either_after a a r r) [
  | inl lacks ↦ lacks
  | inr lacks ↦ lacks
]

module _ (records : PlainKey → Records) (name : List Field) (digest : List ℕ) (face : ℕ) where
  -- among these keys, no in-record of the face is answered, or one of those that are is the last
  abbrev LastAmong : List PlainKey → Type 0
  LastAmong keys =
      ((k : PlainKey) (r : InRecord) → IsOne k keys → ¬ IsAsker records name digest face k r)
      ⊎ ((key : PlainKey) × (best : InRecord) × IsAsker records name digest face key best
      × ((k : PlainKey) (r : InRecord) → IsOne k keys → IsAsker records name digest face k r → IsNotAfter k r key best))

  same_record : (k j : PlainKey) (r s : InRecord) → k ≡ j → IsAsker records name digest face k r → IsAsker records name digest face j s → r ≡ s
  same_record k j r s e a b =
      let at : map.get (records k).in_records face ≡ map.get (records j).in_records face = ap (λ (x : PlainKey). map.get (records x).in_records face) e in
      let one : Some r ≡ Some s = sym a.1 ∙ at ∙ b.1 in cc one

  more : (key : PlainKey) (keys : List PlainKey) → LastAmong keys → Possible (LastAmong (key ∷ keys))
  more key keys last = then' (either ((r : InRecord) × IsAsker records name digest face key r)) (λ asks. elim asks [
    | inr lacks ↦ surely (without lacks last)
    | inl holds ↦ surely (with' holds.0 holds.1 last)
  ])
    where
      without : ¬ ((r : InRecord) × IsAsker records name digest face key r) → LastAmong keys → LastAmong (key ∷ keys)
      without lacks (inl none) = inl (λ k r in' asks. elim in' [
        | inl e ↦ lacks (r, subst (λ (x : PlainKey). IsAsker records name digest face x r) e asks)
        | inr later ↦ none k r later asks
      ])
      without lacks (inr (best_key, best, is, all)) = inr (
        best_key,
        best,
        is,
        λ k r in' asks. elim in' [
          | inl e ↦ absurd (lacks (r, subst (λ (x : PlainKey). IsAsker records name digest face x r) e asks))
          | inr later ↦ all k r later asks
        ],
      )

      with' : (s : InRecord) → IsAsker records name digest face key s → LastAmong keys → LastAmong (key ∷ keys)
      with' s own (inl none) = inr (
        key,
        s,
        own,
        λ k r in' asks. elim in' [
          | inl e ↦ subst (λ (x : InRecord). IsNotAfter k x key s) (sym (same_record k key r s e asks own)) (subst (λ (x : PlainKey). IsNotAfter x s key s) (sym e) (itself key s))
          | inr later ↦ absurd (none k r later asks)
        ],
      )
      with' s own (inr (best_key, best, is, all)) = by_order (either_after key best_key s best)
        where
          first : (k : PlainKey) (r : InRecord) → k ≡ key → IsAsker records name digest face k r → (last_key : PlainKey) (last : InRecord) → IsNotAfter key s last_key last → IsNotAfter k r last_key last
          first k r e asks last_key last lacks =
              subst (λ (x : InRecord). IsNotAfter k x last_key last) (sym (same_record k key r s e asks own)) (subst (λ (x : PlainKey). IsNotAfter x s last_key last) (sym e) lacks)

          by_order : IsNotAfter key s best_key best ⊎ IsNotAfter best_key best key s → LastAmong (key ∷ keys)
          by_order (inl lacks) = inr (
            best_key,
            best,
            is,
            λ k r in' asks. elim in' [
              | inl e ↦ first k r e asks best_key best lacks
              | inr later ↦ all k r later asks
            ],
          )
          by_order (inr lacks) = inr (
            key,
            s,
            own,
            λ k r in' asks. elim in' [
              | inl e ↦ first k r e asks key s (itself key s)
              | inr later ↦ no_later k best_key key r best s (all k r later asks) lacks
            ],
          )

  last_among : (keys : List PlainKey) → Possible (LastAmong keys)
  last_among [] = surely (inl (λ k r in' asks. in'))
  last_among (key ∷ keys) = then' (last_among keys) (λ last. more key keys last)

  some_token : (keys : List PlainKey) → ((k : PlainKey) (r : InRecord) → IsAsker records name digest face k r → IsOne k keys) → Possible ((token : Token) × IsTokenFor records name digest face token)
  some_token keys all = then' (last_among keys) (λ last. elim last [
    | inl none ↦ surely (None, inl (λ k r asks. none k r (all k r asks) asks, refl))
    | inr (key, best, is, later) ↦ surely (best.token, inr (key, best, record { asks = is; last = λ k r asks. later k r (all k r asks) asks }, refl))
  ])

-- ---- the faces that wait for a Data

-- the faces in the list, in rising order, that have the property `P`
abbrev Chosen : (ℕ → Type 0) → List ℕ → List ℕ → Type 0
Chosen P from faces = IsRising faces × ((f : ℕ) → IsTrue (has_face f faces) ↔ (IsOne f from × P f))

choose : (P : ℕ → Type 0) (from : List ℕ) → Possible ((faces : List ℕ) × Chosen P from faces)
choose P [] = surely ([], (tt, λ f. (λ has. cc has, λ h. absurd h.0)))
choose P (f ∷ from) = then' (choose P from) (λ some. then' (either (P f)) (λ is. elim is [
  | inr lacks ↦ surely (some.0, (some.1.0, λ g. (λ has. (inr ((some.1.1 g).0 has).0, ((some.1.1 g).0 has).1), λ h. skipped some.0 some.1 lacks g h.0 h.1)))
  | inl holds ↦ surely (added some.0 some.1 holds)
]))
  where
    skipped : (faces : List ℕ) → Chosen P from faces → ¬ P f → (g : ℕ) → IsOne g (f ∷ from) → P g → IsTrue (has_face g faces)
    skipped faces is lacks g (inl e) p = absurd (lacks (subst P e p))
    skipped faces is lacks g (inr later) p = (is.1 g).1 (later, p)

    added : (faces : List ℕ) → Chosen P from faces → P f → (new : List ℕ) × Chosen P (f ∷ from) new
    added faces is holds = by_there (has_face f faces) refl
      where
        by_there : (b : Bool) → has_face f faces ≡ b → (new : List ℕ) × Chosen P (f ∷ from) new
        by_there true there = (faces, (is.0, λ g. (λ has. (inr ((is.1 g).0 has).0, ((is.1 g).0 has).1), λ h. here g h.0 h.1)))
          where
            here : (g : ℕ) → IsOne g (f ∷ from) → P g → IsTrue (has_face g faces)
            here g (inl e) p = ap (λ (x : ℕ). has_face x faces) e ∙ there
            here g (inr later) p = (is.1 g).1 (later, p)
        by_there false absent = (with_face f faces, (with_rises f faces is.0 absent, λ g. (from_new g, to_new g)))
          where
            from_new : (g : ℕ) → IsTrue (has_face g (with_face f faces)) → IsOne g (f ∷ from) × P g
            from_new g has = by_same (f == g) refl (has_face g faces) refl (sym (has-with_face g f faces) ∙ has)
              where
                by_same : (b : Bool) → f == g ≡ b → (c : Bool) → has_face g faces ≡ c → (b || c) ≡ true → IsOne g (f ∷ from) × P g
                by_same true same c d e = (let one = eqb-true f g same in (inl (sym one), subst P one holds))
                by_same false same true d e = (let h = (is.1 g).0 d in (inr h.0, h.1))
                by_same false same false d e = cc e

            to_new : (g : ℕ) → IsOne g (f ∷ from) × P g → IsTrue (has_face g (with_face f faces))
            to_new g (inl e, p) = has-with_face g f faces ∙ ap (λ (b : Bool). b || has_face g faces) (eq-eqb f g (sym e))
            to_new g (inr later, p) = has-with_face g f faces ∙ ap (λ (b : Bool). (f == g) || b) ((is.1 g).1 (later, p)) ∙ or_true (f == g)
              where
                or_true : (b : Bool) → (b || true) ≡ true
                or_true true = refl
                or_true false = refl

module _ (first : Policy) (past : Run) (q : Policy) (now : ℕ) (waiting : Pending) (is_waiting : IsWaiting past now waiting) where
  abbrev seen : Seen
  seen = seen_after past q waiting

  -- an in-record that remains comes from an event of the run
  from_run : (key : PlainKey) (face : ℕ) (r : InRecord) → map.get (seen.records key).in_records face ≡ Some r → IsOne face (faces_in past) × IsOne key (keys_in past)
  from_run key face r has =
      record_from past key face r (waited_before past now key face r (sym (ap (λ (rs : Records). map.get rs.in_records face) (is_waiting.records key)) ∙ has))

  some_record : (o : Option InRecord) → IsSome o → (r : InRecord) × (o ≡ Some r)
  some_record None some = cc some
  some_record (Some r) some = (r, refl)

  module _ (face : ℕ) (whole : List ℕ) (d : PlainData) where
    abbrev Asks : ℕ → Type 0
    Asks f = (f ≢ face) × Waits seen d.name (sha256 whole) f

    abbrev OwnToken : ℕ × Token → Type 0
    OwnToken a = IsTokenFor seen.records d.name (sha256 whole) a.0 a.1

    with_tokens : (faces : List ℕ) → Possible ((askers : Askers) × (faces_of askers ≡ faces) × All OwnToken askers)
    with_tokens [] = surely ([], refl, All-nil OwnToken)
    with_tokens (f ∷ faces) =
        then' (some_token seen.records d.name (sha256 whole) f (keys_in past) (λ k r asks. (from_run k f r asks.1).1)) (λ token.
        then' (with_tokens faces) (λ rest. surely ((f, token.0) ∷ rest.0, ap (λ (fs : List ℕ). f ∷ fs) rest.1, All-cons OwnToken (f, token.0) rest.0 token.1 rest.2)))

    some_sends : Possible ((sends : List Send) × IsSentToAskers seen face whole d sends)
    some_sends =
        then' (choose Asks (faces_in past)) (λ chosen.
        then' (with_tokens chosen.0) (λ given. surely (
          sent_to given.0 whole,
          (
            given.0,
            subst IsRising (sym given.1) chosen.1.0,
            λ f. subst (λ (faces : List ℕ). IsTrue (has_face f faces) ↔ Asks f) (sym given.1) (λ has. ((chosen.1.1 f).0 has).1, λ asks. (chosen.1.1 f).1 (came f asks, asks)),
            given.2,
            refl,
          ),
        )))
      where
        came : (f : ℕ) → Asks f → IsOne f (faces_in past)
        came f asks = (let r = some_record (map.get (seen.records asks.1.0).in_records f) asks.1.2 in (from_run asks.1.0 f r.0 r.1).0)

  -- ---- some answer

  abbrev Answered : (Answer → Type 0) → Type 0
  Answered P = Possible ((answer : Answer) × P answer)

  by_test : (b : Bool) (A B : Answer → Type 0) → Answered A → Answered B → Answered (λ answer. IfTrueElse b (A answer) (B answer))
  by_test true A B a c = a
  by_test false A B a c = c

  command_answered : (face : ℕ) (token : Token) (whole : List ℕ) (i : PlainInterest)
      → Answered (λ answer. (said : Decision) × IsDecidedAs q (AnInterest whole i) said × (answer ≡ command_answer q face token i said))
  command_answered face token whole i =
      then' (decision_on q (AnInterest whole i) tt) (λ found. surely (command_answer q face token i found.0, (found.0, found.1, refl)))

  request_answered : (face : ℕ) (token : Token) (whole : List ℕ) (i : PlainInterest) (r : Request) → Answered (λ answer. RepliesToRequest seen face token whole i answer r)
  request_answered face token whole i (Refused reason) = surely (dropped reason, refl)
  request_answered face token whole i (ForList asked) = surely (list_answer q face token asked, refl)
  request_answered face token whole i ForTables = command_answered face token whole i
  request_answered face token whole i ForRepository = command_answered face token whole i
  request_answered face token whole i ForData =
      by_test (loops (seen.records (key_of i)) face i.nonce) (λ answer. answer ≡ interest_loop face token whole)
      (λ answer. (given : Option (List ℕ)) × seen.MayGive (key_of i) given × (answer ≡ by_content_store seen face token whole i given))
      (surely (interest_loop face token whole, refl)) (surely (by_content_store seen face token whole i None, (None, tt, refl)))

  said_answered : (face : ℕ) (whole : List ℕ) (d : PlainData) (said : Decision) → Answered (λ answer. RepliesByDecision seen face whole d answer said)
  said_answered face whole d (decided.Allowed rule) = then' (some_sends face whole d) (λ sent. surely (record { verdict = DataAllowed rule.0 (is_wanted d.name (sha256 whole) q.held.wants); sends = sent.0 }, (refl, sent.1)))
  said_answered face whole d (decided.Denied rule reason) = surely (record { verdict = Denied kinds.Data rule.0 reason; sends = [] }, refl)
  said_answered face whole d decided.NoRule = surely (record { verdict = NoRule kinds.Data; sends = [] }, refl)

  data_answered : (face : ℕ) (whole : List ℕ) (d : PlainData) → Answered (λ answer. RepliesToData seen face whole d answer)
  data_answered face whole d =
      by_test (is_out_of_scope q face d.name) (λ answer. answer ≡ dropped OutOfScope)
      (λ answer. (said : Decision) × IsDecidedAs q (AData whole d) said × RepliesByDecision seen face whole d answer said)
      (surely (dropped OutOfScope, refl))
      (then' (decision_on q (AData whole d) tt) (λ found. then' (said_answered face whole d found.0) (λ answer. surely (answer.0, (found.0, found.1, answer.1)))))

  nack_answered : (face reason : ℕ) (i : PlainInterest) → Answered (λ answer. RepliesToNack seen face reason i answer)
  nack_answered face reason i =
      let r = seen.records (key_of i) in
      by_test (is_out_of_scope q face i.name) (λ answer. answer ≡ dropped OutOfScope) (λ answer. answer ≡ nack_answer r.in_records (nacked_answer r face i.nonce reason))
      (surely (dropped OutOfScope, refl)) (surely (nack_answer r.in_records (nacked_answer r face i.nonce reason), refl))

  packet_answered : (face : ℕ) (token : Token) (read : Result PlainFrame PacketFault) → Answered (λ answer. RepliesToPacket seen face token read answer)
  packet_answered face token (Err fault) = surely (dropped (Malformed fault), refl)
  packet_answered face token (Ok (AnInterest whole i)) = request_answered face token whole i (request_of q face i)
  packet_answered face token (Ok (AData whole d)) = data_answered face whole d
  packet_answered face token (Ok (ANack reason whole i)) = nack_answered face reason i
  packet_answered face token (Ok Idle) = surely (dropped IsIdle, refl)

  some_reply : (event : PlainEvent) → Answered (λ answer. Replies seen event answer)
  some_reply (Packet face t octets) =
      by_test (is_open face q.faces) (λ answer. RepliesToPacket seen face (token_at octets) (frame_at octets) answer) (λ answer. answer ≡ dropped NoFace)
      (packet_answered face (token_at octets) (frame_at octets)) (surely (dropped NoFace, refl))
  some_reply (FaceUp face scope t) = surely (opening_answer q face, refl)
  some_reply (FaceDown face t) = surely (cond (is_open face q.faces) (passed []) (dropped NoFace), refl)
  some_reply (Tick t) = surely (passed [], refl)
  some_reply (NewRules rules keys t) = surely (passed [], refl)

-- after a valid run, each event has a valid answer, and a policy follows
pub some_answer : (first : Policy) (past : Run) (event : PlainEvent) → IsRun first past
    → Possible ((answer : Answer) × (p : Policy) × IsRun first (Then past event answer) × IsPolicyOf first (Then past event answer) p)
some_answer first past event valid =
    let now = max (now_of past) (moment event) in
    let waits = some_waiting past now in
    then' (some_policy first past) (λ was.
    then' (some_effect was.0 event) (λ new.
    then' (some_reply first past (at_moment was.0 (moment event)) now waits.0 waits.1 event) (λ answer. surely (
      answer.0,
      new.0,
      (valid, record { was = was.0; is_policy = was.1; waiting = waits.0; is_waiting = waits.1; replies = answer.1 }),
      (was.0, was.1, new.1),
    ))))
