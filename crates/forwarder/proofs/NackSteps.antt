-- How a Nack is answered. The reserved memory is enough for the Nacks to all faces with in-records.
-- The Nacks are sent in rising order of the faces that get them. If the received Nack is passed,
-- its reason is recorded.
use Rattle.std.proofs.Common.{◌≡◌, ◌⊎◌, inl, inr, ℕ, ◌+◌, ◌<◌, ◌≤◌, Bool, true, false, cond, eqb, ltb, List, [], ◌∷◌, ◌++◌, length, drop, Option, None, Some, refl, sym, ap, subst, ◌∙◌, arith}
use lib.Dec.{T}
use Rattle.std.specs.Prelude.{is_some, option_and_then, map, slice_get, unwrap_or, ◌||◌}
use Rattle.std.specs.Option.{option_map}
use Rattle.std.specs.List.{AllByRecursion, All as EachOf}
use Rattle.std.proofs.lemmas.List.Elements.{All-cons, All-nil}
use Rattle.std.specs.Ordering.{nat_cmp, eq_by_cmp}
use Rattle.std.specs.declared.cmp.Ordering.TheVariants.{Less}
use Rattle.std.specs.Cmp.{nat_cmp_total}
use Rattle.std.specs.FinMap as fin
use Rattle.std.specs.FinMap.{entries, entries_sorted, find, get, get-empty, get-entries, get-insert, is_sorted, len-entries, nat_cmp-IsAntisymmetric, same_map}
use Rattle.std.specs.FinMap.Entries.{below_all}
use Rattle.std.proofs.lemmas.Bool.{eq-eqb, eqb-true, ne_eqb}
use Rattle.std.proofs.lemmas.Bool.Decides.{nat_tests}
use Rattle.std.proofs.lemmas.List.Sums.{sum_by-cons}
use Rattle.ndn_packets.specs.Key.{PlainKey, key_of}
use Rattle.ndn_packets.specs.Packet.{PlainInterest, ANack}
use Rattle.ndn_packets.specs.Reading.{is_nil}
use Rattle.pit_fib.specs.declared.nacked.Nacked.TheVariants.{NoPending, All}
use Rattle.pit_fib.specs.Cause.{Cause, Expires, NackCame, Removed, changed, settled, same_key, until_after, with_reason, records_after, Follows}
use Rattle.pit_fib.specs.FaceSet.{IsRising, has_face}
use Rattle.pit_fib.specs.Pit.{nacked_answer, was_sent}
use Rattle.pit_fib.specs.Records.{InRecord, InRecords, OutRecords, OutRecord, Pending, Records, HoldsTheLiving, no_records, is_alive, records_at}
use Rattle.pit_fib.specs.Tokens.{HaveNoTokens}
use Rattle.pit_fib.proofs.Nacks.{not_pending}
use Rattle.pit_fib.proofs.PendingPast.{get-changed}
use Rattle.pit_fib.proofs.PendingTables.{one_key}
use Rattle.ndn_names.proofs.Rows.{first_of, is_less, second_of}
use Rattle.strategies.proofs.Places.{drop_here}
use Rattle.forwarder.specs.Event.{Send, Token, nacked_back}
use Rattle.forwarder.specs.Causes.{after_causes, nack_causes}
use Rattle.forwarder.specs.Cache.{CacheAfter, CacheUse}
use Rattle.forwarder.specs.Handling.{IsAnswered, packet_causes}
use Rattle.forwarder.specs.NackRoom.{in_records_at, nack_room, room_for}
use Rattle.forwarder.specs.Node.{FollowAll, NodeState}
use Rattle.forwarder.specs.Replies.{nack_answer, nacks_to}
use Rattle.forwarder.specs.Request.{is_out_of_scope}
use Rattle.forwarder.specs.Verdict.{Answer, Scope, dropped}
use Rattle.forwarder.specs.declared.sends.TheConstants.{LINK_EXTRA}
use Rattle.forwarder.proofs.ForwardSteps.{member_above}
use Rattle.forwarder.proofs.Uses.{nack_use}
use Rattle.forwarder.proofs.Handled.{where_false, where_true}

no : {A : Type 0} → false ≡ true → A
no e = absurd cc

-- ---- the Nacks to the faces of a list, one face after the other

-- the Nack to a face, if the face has an in-record
abbrev pub nack_for : ℕ → ℕ → Option InRecord → List Send
nack_for reason face None = []
nack_for reason face (Some ask) = nacked_back face ask.token reason ask.interest ∷ []

-- the Nacks to those faces of the list that have an in-record
abbrev pub nacks_by : ℕ → (ℕ → Option InRecord) → List ℕ → List Send
nacks_by reason ask_of [] = []
nacks_by reason ask_of (face ∷ faces) = nack_for reason face (ask_of face) ++ nacks_by reason ask_of faces

-- the room for the Nack to a face is `LINK_EXTRA` plus the length of the Interest in the face's
-- in-record
pub asker_room : (o : Option InRecord) (octets : List ℕ) → Some octets ≡ option_map (λ (ask : InRecord). ask.interest) o → room_for o ≡ length octets + LINK_EXTRA
asker_room None octets e = absurd cc
asker_room (Some ask) octets e = let same : octets ≡ ask.interest = cc e in ap (λ (l : List ℕ). length l + LINK_EXTRA) (sym same)

pub asker_nack : (reason face : ℕ) (o : Option InRecord) (octets : List ℕ) (token : Token) → Some octets ≡ option_map (λ (ask : InRecord). ask.interest) o
    → token ≡ option_and_then (λ (ask : InRecord). ask.token) o → nack_for reason face o ≡ nacked_back face token reason octets ∷ []
asker_nack reason face None octets token e t = absurd cc
asker_nack reason face (Some ask) octets token e t =
    let same : octets ≡ ask.interest = cc e in
    ap (λ (l : List ℕ). let sent : Send = nacked_back face ask.token reason l in sent ∷ []) (sym same) ∙ ap (λ (k : Token). let sent : Send = nacked_back face k reason octets in sent ∷ []) (sym t)

pub no_asker : (o : Option InRecord) → None ≡ option_map (λ (ask : InRecord). ask.interest) o → o ≡ None
no_asker None e = refl
no_asker (Some ask) e = absurd cc

-- the room for the Nacks to the faces from index `i` on is the room for the face at index `i` plus
-- the room for the faces from index `i + 1` on
pub room_here : (asks : InRecords) (faces : List ℕ) (i face : ℕ) → slice_get faces i ≡ Some face
    → nack_room asks (drop i faces) ≡ room_for (get asks face) + nack_room asks (drop (i + 1) faces)
room_here asks faces i face at = ap (nack_room asks) (drop_here faces i face at) ∙ sum_by-cons (λ f. room_for (get asks f)) face (drop (i + 1) faces)

-- ---- `nacks_by` for the faces of a list, compared with `nacks_to` for all faces with in-records

above : (k : ℕ) (es : List (ℕ × InRecord)) → T (below_all nat_cmp k es) → AllByRecursion (λ e. k < e.0) es
above k [] h = tt
above k (e ∷ es) h = (less k e.0 (is_less (nat_cmp k e.0) (first_of _ _ h)), above k es (second_of _ _ h))
  where
    less : (a b : ℕ) → nat_cmp a b ≡ Less → a < b
    less a b e = grind (arith, nat_tests)

tie : (f g : ℕ) → eq_by_cmp nat_cmp f g ≡ eqb f g
tie f g = grind (arith, nat_tests)

none_below : (f : ℕ) (es : List (ℕ × InRecord)) → AllByRecursion (λ e. f < e.0) es → find nat_cmp f es ≡ None
none_below f [] all = refl
none_below f (e ∷ es) all =
    ap (λ b. cond b (Some e.1) (find nat_cmp f es)) (tie f e.0 ∙ ne_eqb f e.0 (λ is. let lt : f < e.0 = all.0 in omega (arith, lt, is))) ∙ none_below f es all.1

later_above : (y k : ℕ) (es : List (ℕ × InRecord)) → y < k → AllByRecursion (λ e. k < e.0) es → AllByRecursion (λ e. y < e.0) es
later_above y k [] lt all = tt
later_above y k (e ∷ es) lt all = (omega (arith, lt, all.0), later_above y k es lt all.1)

among_rest : (y : ℕ) (faces : List ℕ) (es : List (ℕ × InRecord)) → AllByRecursion (λ e. y < e.0) es → AllByRecursion (λ e. has_face e.0 (y ∷ faces) ≡ true) es
    → AllByRecursion (λ e. has_face e.0 faces ≡ true) es
among_rest y faces [] above all = tt
among_rest y faces (e ∷ es) above all = (
  sym (ap (λ b. b || has_face e.0 faces) (ne_eqb y e.0 (λ is. let lt : y < e.0 = above.0 in omega (arith, lt, is)))) ∙ all.0,
  among_rest y faces es above.1 all.1,
)

module _ (reason : ℕ) where
  same_nacks : (g h : ℕ → Option InRecord) (faces : List ℕ) → AllByRecursion (λ f. g f ≡ h f) faces → nacks_by reason g faces ≡ nacks_by reason h faces
  same_nacks g h [] all = refl
  same_nacks g h (f ∷ faces) all =
      ap (λ o. nack_for reason f o ++ nacks_by reason g faces) all.0 ∙ ap (λ l. nack_for reason f (h f) ++ l) (same_nacks g h faces all.1)

  -- if all faces in `faces` are greater than the key `k` of the first entry, looking up these faces
  -- gives the same results with the first entry and without it
  found_later : (k : ℕ) (ask : InRecord) (es : List (ℕ × InRecord)) (faces : List ℕ) → AllByRecursion (λ f. k < f) faces
      → AllByRecursion (λ f. find nat_cmp f ((k, ask) ∷ es) ≡ find nat_cmp f es) faces
  found_later k ask es [] all = tt
  found_later k ask es (f ∷ faces) all = (
    ap (λ b. cond b (Some ask) (find nat_cmp f es)) (tie f k ∙ ne_eqb f k (λ is. let lt : k < f = all.0 in omega (arith, lt, is))),
    found_later k ask es faces all.1,
  )

  nacks_of_entries : (faces : List ℕ) (es : List (ℕ × InRecord)) → IsRising faces → T (is_sorted nat_cmp es) → AllByRecursion (λ e. has_face e.0 faces ≡ true) es
      → nacks_by reason (λ f. find nat_cmp f es) faces ≡ map {A = ℕ × InRecord} {B = Send} (λ e. nacked_back e.0 e.1.token reason e.1.interest) es
  nacks_of_entries [] [] rising sorted all = refl
  nacks_of_entries [] (e ∷ es) rising sorted all = no all.0
  nacks_of_entries (y ∷ faces) [] rising sorted all = nacks_of_entries faces [] rising.1 sorted tt
  nacks_of_entries (y ∷ faces) (e ∷ es) rising sorted all =
      let higher = above e.0 es (first_of _ _ sorted) in
      elim (eqb y e.0) as (λ b. eqb y e.0 ≡ b → (b || has_face e.0 faces) ≡ true
      → nack_for reason y (find nat_cmp y (e ∷ es)) ++ nacks_by reason (λ f. find nat_cmp f (e ∷ es)) faces
      ≡ map {A = ℕ × InRecord} {B = Send} (λ e. nacked_back e.0 e.1.token reason e.1.interest) (e ∷ es)) [
        | true ↦ λ t has.
            let one : y ≡ e.0 = eqb-true y e.0 t in
            ap (λ b. nack_for reason y (cond b (Some e.1) (find nat_cmp y es)) ++ nacks_by reason (λ f. find nat_cmp f (e ∷ es)) faces) (tie y e.0 ∙ t)
            ∙ ap (λ f. let sent : Send = nacked_back f e.1.token reason e.1.interest in sent ∷ nacks_by reason (λ f. find nat_cmp f (e ∷ es)) faces) one
            ∙ ap (λ (l : List Send). let sent : Send = nacked_back e.0 e.1.token reason e.1.interest in sent ∷ l)
            (same_nacks (λ f. find nat_cmp f (e ∷ es)) (λ f. find nat_cmp f es) faces (found_later e.0 e.1 es faces (subst (λ (k : ℕ). AllByRecursion (λ f. k < f) faces) one rising.0))
            ∙ nacks_of_entries faces es rising.1 (second_of _ _ sorted) (among_rest y faces es (subst (λ (k : ℕ). AllByRecursion (λ e. k < e.0) es) (sym one) higher) all.1))
        | false ↦ λ t has.
            let lt : y < e.0 = member_above y e.0 faces rising.0 has in
            let lower : AllByRecursion (λ e. y < e.0) (e ∷ es) = (lt, later_above y e.0 es lt higher) in
            ap (λ o. nack_for reason y o ++ nacks_by reason (λ f. find nat_cmp f (e ∷ es)) faces) (none_below y (e ∷ es) lower)
            ∙ nacks_of_entries faces (e ∷ es) rising.1 sorted (among_rest y faces (e ∷ es) lower all)
      ] refl all.0

  module _ (asks : InRecords) (faces : List ℕ) (known : (f : ℕ) → is_some (get asks f) ≡ true → has_face f faces ≡ true) where
    first_there : (e : ℕ × InRecord) (es : List (ℕ × InRecord)) → find nat_cmp e.0 (e ∷ es) ≡ Some e.1
    first_there e es = ap (λ b. cond b (Some e.1) (find nat_cmp e.0 es)) (tie e.0 e.0 ∙ eq-eqb e.0 e.0 refl)

    all_known : (es : List (ℕ × InRecord)) → T (is_sorted nat_cmp es) → ((f : ℕ) → is_some (find nat_cmp f es) ≡ true → has_face f faces ≡ true)
        → AllByRecursion (λ e. has_face e.0 faces ≡ true) es
    all_known [] sorted are = tt
    all_known (e ∷ es) sorted are = (
      are e.0 (ap is_some (first_there e es)),
      all_known es (second_of _ _ sorted) (λ f some. are f (kept (eq_by_cmp nat_cmp f e.0) (find nat_cmp f es) some)),
    )
      where
        kept : (b : Bool) (o : Option InRecord) → is_some o ≡ true → is_some (cond b (Some e.1) o) ≡ true
        kept true o some = refl
        kept false o some = some

    -- If `faces` is in rising order and contains every face that has an in-record, `nacks_by` makes
    -- the same Nacks in the same order as `nacks_to`. `nacks_by` skips faces without an in-record.
    pub nacks_to_all : IsRising faces → nacks_by reason (get asks) faces ≡ nacks_to asks reason
    nacks_to_all rising =
        same_nacks (get asks) (λ f. find nat_cmp f (entries asks)) faces (each faces)
        ∙ nacks_of_entries faces (entries asks) rising (entries_sorted asks)
        (all_known (entries asks) (entries_sorted asks) (λ f some. known f (ap is_some (get-entries asks f) ∙ some)))
      where
        each : (some : List ℕ) → AllByRecursion (λ f. get asks f ≡ find nat_cmp f (entries asks)) some
        each [] = tt
        each (f ∷ some) = (get-entries asks f, each some)

-- ---- a property that each in-record has, with its face

module _ (P : ℕ × InRecord → Type 0) where
  all_found : (es : List (ℕ × InRecord)) → T (is_sorted nat_cmp es) → ((f : ℕ) (r : InRecord) → find nat_cmp f es ≡ Some r → P (f, r)) → EachOf P es
  all_found [] sorted are = All-nil P
  all_found (e ∷ es) sorted are =
      All-cons P e es (are e.0 e.1 (ap (λ b. cond b (Some e.1) (find nat_cmp e.0 es)) (tie e.0 e.0 ∙ eq-eqb e.0 e.0 refl)))
      (all_found es (second_of _ _ sorted) (λ f r found. are f r (by_face f r found (eqb f e.0) refl)))
    where
      by_face : (f : ℕ) (r : InRecord) → find nat_cmp f es ≡ Some r → (b : Bool) → eqb f e.0 ≡ b → find nat_cmp f (e ∷ es) ≡ Some r
      by_face f r found false other = ap (λ b. cond b (Some e.1) (find nat_cmp f es)) (tie f e.0 ∙ other) ∙ found
      by_face f r found true same =
          let one : f ≡ e.0 = eqb-true f e.0 same in
          let none = none_below f es (subst (λ (k : ℕ). AllByRecursion (λ e. k < e.0) es) (sym one) (above e.0 es (first_of _ _ sorted))) in
          cc (none, found)

  pub all_entries : (asks : InRecords) → ((f : ℕ) (r : InRecord) → get asks f ≡ Some r → P (f, r)) → EachOf P (entries asks)
  all_entries asks are = all_found (entries asks) (entries_sorted asks) (λ f r found. are f r (get-entries asks f ∙ found))

-- ---- the in-records that remain after time has passed

-- each in-record of the map `some` is also in the map `all`, unchanged
abbrev IsPart : InRecords → InRecords → Type 0
IsPart some all = (f : ℕ) → (get some f ≡ None) ⊎ (get some f ≡ get all f)

part_room : (some all : InRecords) → IsPart some all → (faces : List ℕ) → nack_room some faces ≤ nack_room all faces
part_room some all part [] = omega arith
part_room some all part (f ∷ faces) =
    let less = fits (get some f) (get all f) (part f) in
    let rest = part_room some all part faces in
    omega (arith, sum_by-cons (λ g. room_for (get some g)) f faces, sum_by-cons (λ g. room_for (get all g)) f faces, less, rest)
  where
    fits : (o p : Option InRecord) → (o ≡ None) ⊎ (o ≡ p) → room_for o ≤ room_for p
    fits o p (inl none) = let e = ap room_for none in omega (arith, e)
    fits o p (inr same) = let e = ap room_for same in omega (arith, e)

stays_or_goes : (now : ℕ) (o : Option InRecord) → (option_and_then (until_after now) o ≡ None) ⊎ (option_and_then (until_after now) o ≡ o)
stays_or_goes now None = inl refl
stays_or_goes now (Some ask) =
    elim (ltb now ask.deadline) as (λ b. (cond b (Some ask) None ≡ None) ⊎ (cond b (Some ask) None ≡ Some ask)) [ true ↦ inr refl | false ↦ inl refl ]

settled_part : (r : Records) → IsPart (settled r).in_records r.in_records
settled_part r f =
    elim (is_alive r) as (λ b. (get (cond b r no_records).in_records f ≡ None) ⊎ (get (cond b r no_records).in_records f ≡ get r.in_records f)) [
      | true ↦ inr refl
      | false ↦ inl (get-empty nat_cmp f)
    ]

module _ (now : ℕ) (old new : Pending) (expires : Follows (Expires now) old new) (key : PlainKey) where
  pub expired_part : IsPart (in_records_at new key) (in_records_at old key)
  expired_part f =
      let r = records_at old key in
      let is : get (in_records_at new key) f ≡ get (settled (changed (Expires now) key r)).in_records f = ap (λ (s : Records). get s.in_records f) (expires key) in
      let due : get (changed (Expires now) key r).in_records f ≡ option_and_then (until_after now) (get r.in_records f) = get-changed (Expires now) key f r in
      elim (settled_part (changed (Expires now) key r) f) [
        | inl none ↦ inl (is ∙ none)
        | inr same ↦ elim (stays_or_goes now (get r.in_records f)) [ inl goes ↦ inl (is ∙ same ∙ due ∙ goes) | inr stays ↦ inr (is ∙ same ∙ due ∙ stays) ]
      ]

  pub expired_room : (faces : List ℕ) → nack_room (in_records_at new key) faces ≤ nack_room (in_records_at old key) faces
  expired_room = part_room (in_records_at new key) (in_records_at old key) expired_part

-- if no in-record has a token before records expire, none has a token afterwards
pub expired_bare : (now : ℕ) (old new : Pending) → Follows (Expires now) old new → HaveNoTokens old → HaveNoTokens new
expired_bare now old new expires bare key face r found =
    elim (expired_part now old new expires key face) [
      | inl gone ↦ absurd (no_record (sym found ∙ gone))
      | inr same ↦ bare key face r (sym same ∙ found)
    ]
  where
    no_record : Some r ≡ None → ⊥
    no_record e = cc e

-- ---- the records of a key

module _ (pending : Pending) (living : HoldsTheLiving pending) (key : PlainKey) where
  none_where_dead : is_alive (records_at pending key) ≡ false → records_at pending key ≡ no_records
  none_where_dead = by_option (get pending key) (living key)
    where
      by_option : (o : Option Records) → is_some o ≡ is_alive (unwrap_or o no_records) → is_alive (unwrap_or o no_records) ≡ false → unwrap_or o no_records ≡ no_records
      by_option None holds dead = refl
      by_option (Some r) holds dead = no (sym dead ∙ sym holds)

  settled_stays : settled (records_at pending key) ≡ records_at pending key
  settled_stays =
      elim (is_alive (records_at pending key)) as (λ b. is_alive (records_at pending key) ≡ b → cond b (records_at pending key) no_records ≡ records_at pending key) [
        | true ↦ λ alive. refl
        | false ↦ λ dead. sym (none_where_dead dead)
      ] refl

  -- if a received Nack is answered by Nacks, some face has an in-record under the key of the
  -- Interest in the received Nack
  pub awaited_alive : (face : ℕ) (nonce : List ℕ) (reason least : ℕ) → nacked_answer (records_at pending key) face nonce reason ≡ All least → is_alive (records_at pending key) ≡ true
  awaited_alive face nonce reason least answer =
      elim (is_alive (records_at pending key)) as (λ b. is_alive (records_at pending key) ≡ b → b ≡ true) [
        | true ↦ λ alive. refl
        | false ↦ λ dead. absurd (never (sym none_pending ∙ ap (λ (r : Records). nacked_answer r face nonce reason) (sym (none_where_dead dead)) ∙ answer))
      ] refl
    where
      none_pending : nacked_answer no_records face nonce reason ≡ NoPending
      none_pending = (not_pending no_records face nonce reason).1 (ap (λ (o : Option OutRecord). was_sent o nonce) (get-empty nat_cmp face))

      never : NoPending ≡ All least → ⊥
      never e = cc e

-- ---- a Nack that was received

module _ (key : PlainKey) (face : ℕ) (nonce : List ℕ) (reason : ℕ) where
  abbrev came : Cause
  came = NackCame key face nonce reason

  -- if records are alive, a received Nack leaves their in-records unchanged
  pub nacked_asks : (r : Records) → is_alive r ≡ true → (records_after came key r).in_records ≡ r.in_records
  nacked_asks r alive =
      let same : (changed came key r).in_records ≡ r.in_records =
      elim (same_key key key) as (λ b. (cond b (record { in_records = r.in_records; out_records = with_reason face nonce reason r.out_records (get r.out_records face) }) r).in_records ≡ r.in_records) [ true ↦ refl | false ↦ refl ] in
      ap (λ b. (cond b (changed came key r) no_records).in_records) (ap (λ (m : InRecords). ltb 0 (fin.len m)) same ∙ alive) ∙ same

  -- a Nack from a face leaves the out-records unchanged if the face has no out-record with the
  -- Nack's Nonce
  not_kept : (asked : OutRecords) → was_sent (get asked face) nonce ≡ false → with_reason face nonce reason asked (get asked face) ≡ asked
  not_kept asked other = go (get asked face) refl other
    where
      as_it_was : (sent : OutRecord) → get asked face ≡ Some sent → fin.insert asked face sent ≡ asked
      as_it_was sent is = same_map nat_cmp_total nat_cmp-IsAntisymmetric (fin.insert asked face sent) asked (λ q.
          get-insert nat_cmp_total asked face sent q ∙ ap (λ b. cond b (Some sent) (get asked q)) (tie q face)
          ∙ elim (eqb q face) as (λ b. eqb q face ≡ b → cond b (Some sent) (get asked q) ≡ get asked q) [
            | true ↦ λ t. sym is ∙ ap (get asked) (sym (eqb-true q face t))
            | false ↦ λ t. refl
          ] refl)

      go : (o : Option OutRecord) → get asked face ≡ o → was_sent o nonce ≡ false → with_reason face nonce reason asked o ≡ asked
      go None is other = refl
      go (Some sent) is other = ap (λ b. fin.insert asked face (cond b (record sent { reason = Some reason }) sent)) other ∙ as_it_was sent is

  pub unknown_nack : (old new : Pending) → HoldsTheLiving old → nacked_answer (records_at old key) face nonce reason ≡ NoPending → Follows came old new → FollowAll [] old new
  unknown_nack old new living unknown follows k = follows k ∙ ap settled (stays (same_key k key) refl) ∙ settled_stays old living k
    where
      stays : (b : Bool) → same_key k key ≡ b → changed came k (records_at old k) ≡ records_at old k
      stays false t = ap (λ b. cond b (record { in_records = (records_at old k).in_records; out_records = with_reason face nonce reason (records_at old k).out_records (get (records_at old k).out_records face) }) (records_at old k)) t
      stays true t =
          let other = (not_pending (records_at old key) face nonce reason).0 unknown in
          let here = subst (λ (q : PlainKey). was_sent (get (records_at old q).out_records face) nonce ≡ false) (sym (one_key k key t)) other in
          ap (λ b. cond b (record { in_records = (records_at old k).in_records; out_records = with_reason face nonce reason (records_at old k).out_records (get (records_at old k).out_records face) }) (records_at old k)) t
          ∙ ap (λ (asked : OutRecords). let r : Records = record { in_records = (records_at old k).in_records; out_records = asked } in r) (not_kept (records_at old k).out_records here)

some_nacks : (asks : InRecords) (reason : ℕ) → ltb 0 (fin.len asks) ≡ true → is_nil (nacks_to asks reason) ≡ false
some_nacks asks reason alive = go (entries asks) (sym (ap (ltb 0) (len-entries asks)) ∙ alive)
  where
    go : (es : List (ℕ × InRecord)) → ltb 0 (length es) ≡ true → is_nil (map {A = ℕ × InRecord} {B = Send} (λ e. nacked_back e.0 e.1.token reason e.1.interest) es) ≡ false
    go [] some = no some
    go (e ∷ es) some = refl

-- Let the records of a key be alive. Let a received Nack be recorded in these records, and let
-- these records then be removed. Then the new records follow from the causes of a Nack that is
-- answered by Nacks to all faces with in-records.
pub removed_causes : (face reason least : ℕ) (i : PlainInterest) (old mid new : Pending) → is_alive (records_at old (key_of i)) ≡ true
    → Follows (NackCame (key_of i) face i.nonce reason) old mid → Follows (Removed (key_of i)) mid new
    → FollowAll (nack_causes face reason i (nacks_to (in_records_at old (key_of i)) least)) old new
removed_causes face reason least i old mid new alive follows removed k =
    let key = key_of i in
    let came = NackCame key face i.nonce reason in
    removed k ∙ ap (records_after (Removed key) k) (follows k)
    ∙ ap (λ b. after_causes (came ∷ cond b [] (Removed key ∷ [])) k (records_at old k)) (sym (some_nacks (in_records_at old key) least alive))

-- ---- how a received Nack is answered

module _ (was new : NodeState) (face : ℕ) (token : Token) (reason : ℕ) (whole : List ℕ) (i : PlainInterest) (policy : new.policy ≡ was.policy) (cache : new.cache ≡ was.cache)
    (alive : HoldsTheLiving new.pending) where
  pub nack_answered : (answer : Answer) → is_out_of_scope was.policy face i.name ≡ false
      → answer ≡ nack_answer (in_records_at was.pending (key_of i)) (nacked_answer (records_at was.pending (key_of i)) face i.nonce reason)
      → FollowAll (packet_causes was.policy.now face token (ANack reason whole i) answer) was.pending new.pending → IsAnswered was face token (ANack reason whole i) answer new
  nack_answered answer here is pending = record {
    replies = where_false _ _ (is_out_of_scope was.policy face i.name) here is;
    policy = policy;
    pending = pending;
    alive = alive;
    cache = subst (λ (used : CacheUse). CacheAfter was.policy.now was.pending used was.cache new.cache) (sym (nack_use was.policy.now face reason whole i answer.verdict)) cache;
  }

pub nack_out_of_scope : (was : NodeState) (face : ℕ) (token : Token) (reason : ℕ) (whole : List ℕ) (i : PlainInterest) → HoldsTheLiving was.pending → is_out_of_scope was.policy face i.name ≡ true
    → IsAnswered was face token (ANack reason whole i) (dropped Scope) was
nack_out_of_scope was face token reason whole i living here = record {
  replies = where_true _ _ (is_out_of_scope was.policy face i.name) here refl;
  policy = refl;
  pending = λ key. refl;
  alive = living;
  cache = refl;
}
