-- How an Interest is forwarded, or answered by a Nack. The incoming face and the faces that the
-- Interest is sent to are open, so at most 64 faces have records. The records change according to
-- the causes of the answer.
use Rattle.std.proofs.Common.{◌^◌, ◌≡◌, ◌⊎◌, inl, inr, ℕ, zero, suc, ◌+◌, ◌<◌, ◌≤◌, Bool, true, false, cond, eqb, List, [], ◌∷◌, ◌++◌, length, map, take, leb, Some, refl, sym, ap, subst, ◌∙◌, arith, add-one}
use Rattle.std.specs.Prelude.{slice_get, not, ◌&&◌, ◌||◌, ◌==◌, IfSome}
use Rattle.std.specs.List.{AllByRecursion, list_any}
use Rattle.std.proofs.lemmas.Bool.{eq-eqb, eqb-true, leb-true, ne_eqb}
use Rattle.std.proofs.Math.Logic.{∥∥₁_elim}
use Rattle.std.proofs.lemmas.List.{length-map}
use Rattle.std.specs.FinMap as fin
use Rattle.ndn_packets.specs.Key.{PlainKey, key_of}
use Rattle.ndn_packets.specs.Packet.{PlainInterest}
use Rattle.ndn_packets.specs.Grammar.{IsInterest}
use Rattle.ndn_packets.specs.Link.{IsToken}
use Rattle.ndn_packets.specs.Writing.{AreOctets, lp_text}
use Rattle.pit_fib.specs.Cause.{Cause, Arrives, SentTo, Withdrawn, changed, settled, same_key, sent_at, records_after, Follows}
use Rattle.pit_fib.specs.FaceSet.{IsRising, has_face, with_face}
use Rattle.pit_fib.specs.Pit.{HasRecord, HasRoomFor, moments}
use Rattle.pit_fib.specs.declared.hops.Hop.{Hop}
use Rattle.pit_fib.specs.Tables.{ByFace}
use Rattle.pit_fib.specs.Records.{InRecord, Pending, Records, no_records, is_alive, records_at}
use Rattle.pit_fib.proofs.PendingFaces.{had_record}
use Rattle.pit_fib.proofs.PendingPlaces.{alive_insert}
use Rattle.pit_fib.proofs.PendingTables.{same_self}
use Rattle.pit_fib.proofs.RisingFaces.{with_rises}
use Rattle.mgmt_core.specs.Tables.{AllAreUp}
use Rattle.strategies.specs.Choice.{faces_of}
use Rattle.strategies.specs.declared.strategy.Choice.TheVariants.{NoRoute, Send as SendTo}
use Rattle.strategies.specs.Eligible.{eligible, is_eligible}
use Rattle.pit_fib.specs.declared.face_set.TheConstants.{MAX_FACES}
use Rattle.forwarder.specs.Causes.{after_causes, in_record_for, interest_causes, is_answered, is_nack, is_nacked, sent_causes}
use Rattle.forwarder.proofs.Contents.{begins, interest_is_neither, nack_is_nack, none_nacked, sent_on_begins, spelled_begins}
use Rattle.forwarder.specs.Event.{Send, to_each, Token, nacked_back}
use Rattle.forwarder.specs.OpenFaces.{FaceEntry, is_open, numbers}
use Rattle.forwarder.specs.Forwarding.{choice_from}
use Rattle.forwarder.specs.NextHops.{ask_from, hops_for, selection_of, sent_on, strategy_for}
use Rattle.forwarder.specs.Policy.{Policy, open_faces}
use Rattle.forwarder.specs.Node.{NodeState, FollowAll}
use Rattle.forwarder.specs.State.{IsSound}
use Rattle.forwarder.proofs.Chosen.{chosen_hop, chosen_up}
use Rattle.forwarder.proofs.Outboxes.{map-take_next}
use Rattle.forwarder.proofs.Soundness.{has_numbers}

-- ---- room for an open face

-- a face is greater than `y` if it is in a list whose numbers are all greater than `y`
pub member_above : (y x : ℕ) (faces : List ℕ) → AllByRecursion (λ m. y < m) faces → has_face x faces ≡ true → y < x
member_above y x [] all has = absurd cc
member_above y x (z ∷ faces) all has =
    elim (eqb z x) as (λ b. eqb z x ≡ b → (b || has_face x faces) ≡ true → y < x) [
      | true ↦ λ e h. subst (λ (n : ℕ). y < n) (eqb-true z x e) all.0
      | false ↦ λ e h. member_above y x faces all.1 h
    ] refl has

all_above : (y x : ℕ) (faces : List ℕ) → y < x → AllByRecursion (λ m. x < m) faces → AllByRecursion (λ m. y < m) faces
all_above y x [] lt all = tt
all_above y x (z ∷ faces) lt all = (omega (arith, lt, all.0), all_above y x faces lt all.1)

-- if each face of `some` is greater than `y` and is in `y ∷ faces`, then each face of `some` is
-- in `faces`
in_rest : (y : ℕ) (some faces : List ℕ) → AllByRecursion (λ m. y < m) some → AllByRecursion (λ f. has_face f (y ∷ faces) ≡ true) some
    → AllByRecursion (λ f. has_face f faces ≡ true) some
in_rest y [] faces above all = tt
in_rest y (x ∷ some) faces above all = (
  sym (ap (λ (b : Bool). b || has_face x faces) (ne_eqb y x (λ is. let lt : y < x = above.0 in omega (arith, lt, is)))) ∙ all.0,
  in_rest y some faces above.1 all.1,
)

-- if each face of the rising list `some` is in the rising list `faces`, then `faces` is at least as
-- long as `some`
rising_within : (some faces : List ℕ) → IsRising some → IsRising faces → AllByRecursion (λ f. has_face f faces ≡ true) some → length some ≤ length faces
rising_within [] faces rises rising all = omega arith
rising_within (x ∷ some) [] rises rising all = absurd (never all.0)
  where
    never : false ≡ true → ⊥
    never e = cc
rising_within (x ∷ some) (y ∷ faces) rises rising all =
    elim (eqb y x) as (λ b. eqb y x ≡ b → (b || has_face x faces) ≡ true → suc (length some) ≤ suc (length faces)) [
      | true ↦ λ e h.
          let above = subst (λ (n : ℕ). AllByRecursion (λ m. n < m) some) (sym (eqb-true y x e)) rises.0 in
          let rest = rising_within some faces rises.1 rising.1 (in_rest y some faces above all.1) in
          omega (arith, rest)
      | false ↦ λ e h.
          let above = all_above y x some (member_above y x faces rising.0 h) rises.0 in
          let rest = rising_within (x ∷ some) faces rises rising.1 (h, in_rest y some faces above all.1) in
          omega (arith, rest)
    ] refl all.0

module _ (faces : List FaceEntry) (few : length faces ≤ MAX_FACES) (rising : IsRising (numbers faces))
    (pending : Pending) (records : (f : ℕ) → HasRecord pending f → is_open f faces ≡ true) where
  each_open : (face : ℕ) (some : List ℕ) → is_open face faces ≡ true → AllByRecursion (λ f. HasRecord pending f ⊎ (f ≡ face)) some
      → AllByRecursion (λ f. has_face f (numbers faces) ≡ true) some
  each_open face [] here all = tt
  each_open face (f ∷ some) here all = (has_numbers f faces ∙ one all.0, each_open face some here all.1)
    where
      one : HasRecord pending f ⊎ (f ≡ face) → is_open f faces ≡ true
      one (inl has) = records f has
      one (inr is) = subst (λ (g : ℕ). is_open g faces ≡ true) (sym is) here

  -- if each face with a record is open, the PIT has room for a record of any open face
  pub room_within : (face : ℕ) → is_open face faces ≡ true → HasRoomFor pending face
  room_within face here some rises all =
      let most = rising_within some (numbers faces) rises rising (each_open face some here all) in
      omega (arith, most, few, length-map faces (λ (entry : FaceEntry). entry.0))

pub room_for_open : (s : NodeState) (face : ℕ) → IsSound s → is_open face s.policy.faces ≡ true → HasRoomFor s.pending face
room_for_open s face sound here = room_within s.policy.faces sound.few sound.rising s.pending sound.records face here

-- ---- the sending of the Interest to one more face

settled_alive : (r : Records) → is_alive r ≡ true → is_alive (settled r) ≡ true
settled_alive r alive = subst (λ (b : Bool). is_alive (cond b r no_records) ≡ true) (sym alive) alive

-- records that are alive stay alive when an Interest is sent to a face
pub sent_alive : (key : PlainKey) (face : ℕ) (nonce : List ℕ) (now : ℕ) (k : PlainKey) (r : Records) → is_alive r ≡ true
    → is_alive (records_after (SentTo key face nonce now) k r) ≡ true
sent_alive key face nonce now k r alive =
    settled_alive (changed (SentTo key face nonce now) k r)
    (elim (same_key k key) as (λ b. is_alive (cond b (record { in_records = r.in_records; out_records = fin.insert r.out_records face (sent_at nonce now) }) r) ≡ true) [
      | true ↦ alive
      | false ↦ alive
    ])

after_more : (causes : List Cause) (cause : Cause) (k : PlainKey) (r : Records) → after_causes (causes ++ cause ∷ []) k r ≡ records_after cause k (after_causes causes k r)
after_more [] cause k r = refl
after_more (c ∷ causes) cause k r = after_more causes cause k (records_after c k r)

module _ (key : PlainKey) (nonce : List ℕ) (now : ℕ) where
  pub one_more_sent : (faces : List ℕ) (i face : ℕ) (old before after : Pending) → slice_get faces i ≡ Some face
      → FollowAll (sent_causes key nonce now (take i faces)) old before → Follows (SentTo key face nonce now) before after
      → FollowAll (sent_causes key nonce now (take (i + 1) faces)) old after
  one_more_sent faces i face old before after at all one k =
      let causes = sent_causes key nonce now (take i faces) in
      let next = map-take_next (λ (f : ℕ). SentTo key f nonce now) faces i face at in
      one k ∙ ap (records_after (SentTo key face nonce now) k) (all k) ∙ sym (after_more causes (SentTo key face nonce now) k (records_at old k))
      ∙ ap (λ (cs : List Cause). after_causes cs k (records_at old k)) (sym next) ∙ rw add-one refl

  pub sent_open : (faces : List FaceEntry) (face : ℕ) (before after : Pending) → ((f : ℕ) → HasRecord before f → is_open f faces ≡ true)
      → is_open face faces ≡ true → Follows (SentTo key face nonce now) before after → (f : ℕ) → HasRecord after f → is_open f faces ≡ true
  sent_open faces face before after records here one f has =
      elim (had_record (SentTo key face nonce now) before after one f has) [
        | inl was ↦ records f was
        | inr is ↦ subst (λ (g : ℕ). is_open g faces ≡ true) (sym is) here
      ]

or_true : (b : Bool) → (b || true) ≡ true
or_true true = refl
or_true false = refl

-- a face at an index of a list is in the list
pub has_at : (faces : List ℕ) (i face : ℕ) → slice_get faces i ≡ Some face → has_face face faces ≡ true
has_at [] i face at = absurd cc
has_at (f ∷ faces) zero face at = let is : f ≡ face = cc at in ap (λ (b : Bool). b || has_face face faces) (eq-eqb f face is)
has_at (f ∷ faces) (suc i) face at = ap (λ (b : Bool). (f == face) || b) (has_at faces i face at) ∙ or_true (f == face)

-- ---- the records after an Interest arrives on an open face

-- the records of a key are alive after an Interest of this key arrives
pub arrived_alive : (key : PlainKey) (face : ℕ) (ask : InRecord) (r : Records) → is_alive (records_after (Arrives key face ask) key r) ≡ true
arrived_alive key face ask r =
    let asking : Records = record { in_records = fin.insert r.in_records face ask; out_records = r.out_records } in
    settled_alive (changed (Arrives key face ask) key r)
    (subst (λ (b : Bool). is_alive (cond b asking r) ≡ true) (sym (same_self key)) (alive_insert r.in_records r.out_records face ask))

-- a node stays sound when an Interest arrives on an open face
pub arrived_sound : (old new : NodeState) (key : PlainKey) (face : ℕ) (ask : InRecord) → IsSound old → is_open face old.policy.faces ≡ true
    → new.policy ≡ old.policy → Follows (Arrives key face ask) old.pending new.pending → IsSound new
arrived_sound old new key face ask sound here same arrives = record {
  few = subst (λ (p : Policy). length p.faces ≤ MAX_FACES) (sym same) sound.few;
  rising = subst (λ (p : Policy). IsRising (numbers p.faces)) (sym same) sound.rising;
  records = λ f has. subst (λ (p : Policy). is_open f p.faces ≡ true) (sym same)
      (elim (had_record (Arrives key face ask) old.pending new.pending arrives f has) [
        | inl was ↦ sound.records f was
        | inr is ↦ subst (λ (g : ℕ). is_open g old.policy.faces ≡ true) (sym is) here
      ]);
  routes = subst (λ (p : Policy). AllAreUp p.routes (open_faces p)) (sym same) sound.routes;
}

-- ---- the faces that the strategy chooses

faces_rise : (hops : List Hop) → IsRising (faces_of hops)
faces_rise [] = tt
faces_rise (hop ∷ hops) =
    let rest = faces_of hops in
    elim (has_face hop.face rest) as (λ b. has_face hop.face rest ≡ b → IsRising (cond b rest (with_face hop.face rest))) [
      | true ↦ λ e. faces_rise hops
      | false ↦ λ e. with_rises hop.face rest (faces_rise hops) e
    ] refl

sent_faces : (b : Bool) (hops : List Hop) (faces : List ℕ) → cond b (SendTo (faces_of hops)) NoRoute ≡ SendTo faces → faces_of hops ≡ faces
sent_faces true hops faces is = cc is
sent_faces false hops faces is = cc is

module _ (s : NodeState) (sound : IsSound s) (face : ℕ) (i : PlainInterest) (faces : List ℕ) (chosen : choice_from s face i ≡ SendTo faces) where
  abbrev asked : ByFace
  asked = moments (records_at s.pending (key_of i)).out_records

  pub chosen_open : (f : ℕ) → has_face f faces ≡ true → is_open f s.policy.faces ≡ true
  chosen_open f has =
      sym (has_numbers f s.policy.faces)
      ∙ chosen_up s.policy (open_faces s.policy) i.name asked (ask_from s.policy face i) faces f sound.routes chosen has

  chosen_rise : IsRising faces
  chosen_rise =
      let ask = ask_from s.policy face i in
      let hops = hops_for s.policy i.name in
      let taken = selection_of (strategy_for s.policy i.name) (eligible ask hops) asked ask.now in
      subst IsRising (sent_faces (list_any (is_eligible ask) hops) taken faces chosen) (faces_rise taken)

  pub chosen_few : length faces ≤ MAX_FACES
  chosen_few =
      let most = rising_within faces (numbers s.policy.faces) chosen_rise sound.rising (all_open faces (λ f has. has)) in
      omega (arith, most, sound.few, length-map s.policy.faces (λ (entry : FaceEntry). entry.0))
    where
      all_open : (some : List ℕ) → ((f : ℕ) → has_face f some ≡ true → has_face f faces ≡ true) → AllByRecursion (λ f. has_face f (numbers s.policy.faces) ≡ true) some
      all_open [] are = tt
      all_open (f ∷ some) are = (
        has_numbers f s.policy.faces ∙ chosen_open f (are f (has_at (f ∷ some) 0 f refl)),
        all_open some (λ g has. are g (ap (λ (b : Bool). (f == g) || b) has ∙ or_true (f == g))),
      )

  -- the face that asks is not among the chosen faces
  pub asker_not_chosen : has_face face faces ≡ false
  asker_not_chosen =
      elim (has_face face faces) as (λ b. has_face face faces ≡ b → b ≡ false) [
        | true ↦ λ has. absurd (never has)
        | false ↦ λ has. refl
      ] refl
    where
      never : has_face face faces ≡ true → ⊥
      never has =
          let hop = chosen_hop s.policy i.name asked (ask_from s.policy face i) faces face chosen has in
          let same : eqb face hop.0.face ≡ true = eq-eqb face hop.0.face (sym hop.3) in
          absurd (refused (hop.0.local || not ((ask_from s.policy face i).localhost || (ask_from s.policy face i).hop_zero))
          (subst (λ (b : Bool). (not b && (hop.0.local || not ((ask_from s.policy face i).localhost || (ask_from s.policy face i).hop_zero))) ≡ true) same hop.2))
        where
          refused : (b : Bool) → (not true && b) ≡ true → ⊥
          refused b e = cc e

-- ---- the faces that the Interest is sent to

sends_to : (face : ℕ) (faces octets : List ℕ) → is_answered face (to_each faces octets) ≡ has_face face faces
sends_to face [] octets = refl
sends_to face (f ∷ faces) octets = ap (λ (b : Bool). (f == face) || b) (sends_to face faces octets)

sent_to_each : (key : PlainKey) (nonce : List ℕ) (now : ℕ) (faces octets : List ℕ)
    → map (λ (sent : Send). SentTo key sent.0 nonce now) (to_each faces octets) ≡ sent_causes key nonce now faces
sent_to_each key nonce now [] octets = refl
sent_to_each key nonce now (f ∷ faces) octets = ap (λ (causes : List Cause). SentTo key f nonce now ∷ causes) (sent_to_each key nonce now faces octets)

-- an Interest that was read begins with the type of an Interest
begins_spelled : (whole : List ℕ) (i : PlainInterest) → ∥ IsInterest whole i ∥₁ → begins 5 whole ≡ true
begins_spelled whole i spelled = by_octet (begins 5 whole) refl
  where
    never : begins 5 whole ≡ false → ⊥
    never is = ∥∥₁_elim spelled (λ a b. absurd a) (λ h. let other = spelled_begins whole i h in cc (is, other))

    by_octet : (b : Bool) → begins 5 whole ≡ b → b ≡ true
    by_octet true is = refl
    by_octet false is = absurd (never is)

-- ---- the causes of an Interest that is sent on

-- Let `k` equal `key`, and let `d` equal `deadline`. If the new records follow from an arrival with
-- the key `k` and the deadline `d`, they follow from the arrival with `key` and `deadline`.
pub arrives_as : {k key : PlainKey} (face : ℕ) (token : Token) (whole nonce : List ℕ) {d deadline : ℕ} (old new : Pending) → k ≡ key → d ≡ deadline
    → Follows (Arrives k face (record { interest = whole; nonce = nonce; deadline = d; token = token })) old new
    → Follows (Arrives key face (record { interest = whole; nonce = nonce; deadline = deadline; token = token })) old new
arrives_as {k} {key} face token whole nonce {d} {deadline} old new same until arrives =
    subst (λ (n : ℕ). Follows (Arrives key face (record { interest = whole; nonce = nonce; deadline = n; token = token })) old new) until
    (subst (λ (q : PlainKey). Follows (Arrives q face (record { interest = whole; nonce = nonce; deadline = d; token = token })) old new) same arrives)

-- Let no Nack be sent, and let no send go to the face of the Interest. Then the causes of the
-- Interest are its arrival and one `SentTo` for each send.
kept_causes : (now face : ℕ) (token : Token) (whole : List ℕ) (i : PlainInterest) (sends : List Send) → is_nacked sends ≡ false → is_answered face sends ≡ false
    → interest_causes now face token whole i sends
    ≡ Arrives (key_of i) face (in_record_for now token whole i) ∷ map (λ (sent : Send). SentTo (key_of i) sent.0 i.nonce now) sends
kept_causes now face token whole i sends nacked answered =
    let kept = Arrives (key_of i) face (in_record_for now token whole i) ∷ map (λ (sent : Send). SentTo (key_of i) sent.0 i.nonce now) sends in
    ap (λ (b : Bool). cond b (Withdrawn (key_of i) face ∷ []) (cond (is_answered face sends) [] kept)) nacked
    ∙ ap (λ (b : Bool). cond b [] kept) answered

pub sent_on_causes : (now face : ℕ) (token : Token) (whole : List ℕ) (i : PlainInterest) (faces : List ℕ) (old mid new : Pending)
    → ∥ IsInterest whole i ∥₁ → has_face face faces ≡ false
    → Follows (Arrives (key_of i) face (in_record_for now token whole i)) old mid → FollowAll (sent_causes (key_of i) i.nonce now faces) mid new
    → FollowAll (interest_causes now face token whole i (to_each faces (sent_on whole i.hop_limit))) old new
sent_on_causes now face token whole i faces old mid new spelled apart arrives sent key =
    let octets = sent_on whole i.hop_limit in
    let other = (interest_is_neither octets (sent_on_begins whole i.hop_limit (begins_spelled whole i spelled))).0 in
    let is = kept_causes now face token whole i (to_each faces octets) (none_nacked faces octets other) (sends_to face faces octets ∙ apart) in
    let arrived = Arrives (key_of i) face (in_record_for now token whole i) in
    sent key ∙ ap (λ (r : Records). after_causes (sent_causes (key_of i) i.nonce now faces) key r) (arrives key)
    ∙ ap (λ (causes : List Cause). after_causes causes key (records_after arrived key (records_at old key))) (sym (sent_to_each (key_of i) i.nonce now faces octets))
    ∙ ap (λ (causes : List Cause). after_causes causes key (records_at old key)) (sym is)

-- the PIT takes an Interest of a key if the records of the key are alive, or if fewer than 4,096
-- keys have records
pub takes_key : (alive : Bool) (n : ℕ) → ((alive ≡ false) × (4096 ≤ n) → ⊥) → (not alive && leb 4096 n) ≡ false
takes_key true n never = refl
takes_key false n never =
    elim (leb 4096 n) as (λ b. leb 4096 n ≡ b → b ≡ false) [
      | true ↦ λ e. absurd (never (refl, leb-true 4096 n e))
      | false ↦ λ e. refl
    ] refl

-- ---- a Nack that is sent back

-- if `whole` is an Interest, the reason is below 2^64, and the token, if any, is valid, then a Nack
-- around `whole` is read as a Nack
nack_spelled : (token : Token) (reason : ℕ) (whole : List ℕ) (i : PlainInterest) → IfSome token IsToken → IfSome token AreOctets → ∥ IsInterest whole i ∥₁ → reason < 2 ^ 64
    → is_nack (lp_text token (Some reason) whole) ≡ true
nack_spelled token reason whole i is octets spelled fits = by_nack (is_nack (lp_text token (Some reason) whole)) refl
  where
    never : is_nack (lp_text token (Some reason) whole) ≡ false → ⊥
    never other = ∥∥₁_elim spelled (λ a b. absurd a) (λ h. let nack = nack_is_nack token reason whole i is octets h fits in cc (other, nack))

    by_nack : (b : Bool) → is_nack (lp_text token (Some reason) whole) ≡ b → b ≡ true
    by_nack true e = refl
    by_nack false e = absurd (never e)

-- if a Nack is sent back to a face, and the in-record of this face is withdrawn, then the new
-- records follow from the causes of the Interest
pub nack_causes_are : (now face : ℕ) (token : Token) (reason : ℕ) (whole : List ℕ) (i : PlainInterest) (old new : Pending) → IfSome token IsToken → IfSome token AreOctets
    → ∥ IsInterest whole i ∥₁ → reason < 2 ^ 64 → Follows (Withdrawn (key_of i) face) old new
    → FollowAll (interest_causes now face token whole i (nacked_back face token reason whole ∷ [])) old new
nack_causes_are now face token reason whole i old new tok octets spelled fits withdrawn key =
    let sends = nacked_back face token reason whole ∷ [] in
    let kept = Arrives (key_of i) face (in_record_for now token whole i) ∷ map (λ (sent : Send). SentTo (key_of i) sent.0 i.nonce now) sends in
    let is : interest_causes now face token whole i sends ≡ Withdrawn (key_of i) face ∷ [] =
    ap (λ (b : Bool). cond (b || false) (Withdrawn (key_of i) face ∷ []) (cond (is_answered face sends) [] kept)) (nack_spelled token reason whole i tok octets spelled fits) in
    withdrawn key ∙ ap (λ (causes : List Cause). after_causes causes key (records_at old key)) (sym is)
