-- What an event changes in the repository: an object comes only with an allowed Data that a pending
-- insert asked for, and goes only by an allowed delete; a pending insert comes only by an allowed
-- insert.
use Rattle.std.proofs.Common.{◌≡◌, ℕ, Bool, true, false, cond, List, refl, sym, ap, subst, ◌∙◌, inl, inr}
use Rattle.std.specs.Prelude.{◌⊎◌, Option, Some, None, IsSome, IsTrue, not, ◌==◌, nat_lt, if◌then◌else◌}
use Rattle.std.specs.Cmp.{Equal-is}
use Rattle.std.specs.FinMap as map
use Rattle.std.specs.FinMap.{get-insert, get-remove}
use Rattle.std.specs.Ordering.{eq_by_cmp}
use Rattle.sha2.specs.Sha256.{sha256}
use Rattle.ndn_tlv.specs.Element.{Field}
use Rattle.ndn_names.specs.Key.{name_cmp-total, name_cmp-antisymmetric}
use Rattle.ndn_names.specs.Order.{name_cmp}
use Rattle.ndn_packets.specs.Answers.{answers, full_name}
use Rattle.ndn_packets.specs.Packet.{PlainInterest, PlainData, PlainFrame, AnInterest, AData, ANack, Idle}
use Rattle.info_rules.specs.declared.decision.Decision.{Decision}
use Rattle.info_rules.specs.declared.decision.Decision.TheVariants as decided
use Rattle.mgmt_core.specs.Reading.{command_at}
use Rattle.repo_core.specs.declared.verb.Verb.{Verb}
use Rattle.repo_core.specs.declared.verb.Verb.TheVariants.{Insert, Delete, Check}
use Rattle.repo_core.specs.declared.types.TheConstants.{OK, PENDING}
use Rattle.repo_core.specs.Objects.{full_name_answers, if_kept, without_answering}
use Rattle.repo_core.specs.Reading.{RepoCommand, repo_command_at}
use Rattle.repo_core.specs.Repo.{Held, want_key, after_delete, after_insert, after_known, after_offer, after_some, repo_status_of}
use Rattle.repo_core.specs.Wants.{WantKey, is_wanted, unfilled, want_cmp, want_cmp-total, want_cmp-antisymmetric, want_deadline}
use Rattle.repo_core.proofs.Kept.{get-kept}
use Rattle.forwarder.specs.Event.{PlainEvent, moment}
use Rattle.forwarder.specs.Policy.{Policy, at_moment}
use Rattle.forwarder.specs.Request.{Request, Refused, ForList, ForTables, ForRepository, ForData, request_of}
use Rattle.forwarder.specs.Deciding.{IsDecidedAs, recorded_of}
use Rattle.forwarder.specs.Commands.{after_request}
use Rattle.forwarder.specs.Effects.{IsAfter, IsEffect, after_decision, decided_packet, face_in}
use Rattle.forwarder.specs.Allowed.{Allows}
use Rattle.forwarder.specs.Headline.{AddsWant, Deletes, Stores}
use Rattle.forwarder.proofs.Stored.{commanded, record_stored, same_name, tables_stored, undecided_stored}

-- ---- a property of the repository after an event

-- `P` is true after an event if it is true once time has advanced, after each allowed command to
-- the repository, and after each allowed Data
module _ (was : Policy) (event : PlainEvent) (P : Held → Type 0) where
  abbrev q : Policy
  q = at_moment was (moment event)

  module _ (same : P q.held)
      (by_command : (whole : List ℕ) (i : PlainInterest) (c : RepoCommand) → Allows was event (AnInterest whole i) → repo_command_at q.repo i.name ≡ Some c → P (after_known c q.now q.held))
      (by_data : (whole : List ℕ) (d : PlainData) → Allows was event (AData whole d) → P (after_offer d.name (sha256 whole) whole q.held)) where
    to_repository : (whole : List ℕ) (i : PlainInterest) → Allows was event (AnInterest whole i) → (o : Option RepoCommand) → repo_command_at q.repo i.name ≡ o → P (after_some o q.now q.held)
    to_repository whole i allows None e = same
    to_repository whole i allows (Some c) e = by_command whole i c allows e

    requested : (whole : List ℕ) (i : PlainInterest) → Allows was event (AnInterest whole i) → (r : Request) → P (after_request q (face_in event) i r).held
    requested whole i allows (Refused reason) = same
    requested whole i allows (ForList asked) = same
    requested whole i allows ForTables = subst P (sym (tables_stored q (face_in event) (command_at i.name))) same
    requested whole i allows ForRepository = to_repository whole i allows (repo_command_at q.repo i.name) refl
    requested whole i allows ForData = same

    by_decision : (packet : PlainFrame) (said : Decision) → decided_packet q event ≡ Some packet → IsDecidedAs q packet said → P (after_decision q (face_in event) packet said).held
    by_decision (AnInterest whole i) (decided.Allowed rule) d s =
        let base = after_request q (face_in event) i (request_of q (face_in event) i) in
        subst P (sym (record_stored base (recorded_of i))) (requested whole i (record { rule = rule; brings = d; said = s }) (request_of q (face_in event) i))
    by_decision (AData whole packet) (decided.Allowed rule) d s = by_data whole packet (record { rule = rule; brings = d; said = s })
    by_decision (ANack reason whole i) (decided.Allowed rule) d s = same
    by_decision Idle (decided.Allowed rule) d s = same
    by_decision packet (decided.Denied rule reason) d s = same
    by_decision packet decided.NoRule d s = same

    pub after_change : (new : Policy) → IsAfter was event new → P new.held
    after_change new h = by_packet (decided_packet q event) refl h
      where
        by_packet : (packet : Option PlainFrame) → decided_packet q event ≡ packet → IsEffect q event new packet → P new.held
        by_packet None d e = subst (λ (p : Policy). P p.held) (sym e) (subst P (sym (undecided_stored q event)) same)
        by_packet (Some packet) d (said, s, e) = subst (λ (p : Policy). P p.held) (sym e) (by_decision packet said d s)

-- ---- objects come with allowed Data that pending inserts asked for

module _ (was : Policy) (event : PlainEvent) (name : List Field) (octets : List ℕ) where
  abbrev Before : Type 0
  Before = map.get was.held.objects name ≡ Some octets

  abbrev Came : Held → Type 0
  Came s = map.get s.objects name ≡ Some octets → Before ⊎ Stores was event name octets

  came_with : (whole : List ℕ) (d : PlainData) → Allows was event (AData whole d) → Came (after_offer d.name (sha256 whole) whole (at_moment was (moment event)).held)
  came_with whole d allows = by_wanted (is_wanted d.name (sha256 whole) s.wants) refl
    where
      s : Held
      s = (at_moment was (moment event)).held

      this : octets ≡ whole → name ≡ full_name d.name (sha256 whole) → is_wanted d.name (sha256 whole) s.wants ≡ true → Stores was event name octets
      this e f wanted = (
        d,
        subst (λ (w : List ℕ). Allows was event (AData w d)) (sym e) allows,
        f ∙ ap (λ (w : List ℕ). full_name d.name (sha256 w)) (sym e),
        subst (λ (w : List ℕ). IsTrue (is_wanted d.name (sha256 w) s.wants)) (sym e) wanted,
      )

      by_name : (b : Bool) → eq_by_cmp name_cmp name (full_name d.name (sha256 whole)) ≡ b → is_wanted d.name (sha256 whole) s.wants ≡ true
          → cond b (Some whole) (map.get s.objects name) ≡ Some octets → Before ⊎ Stores was event name octets
      by_name true e wanted h = inr (this (let f : whole ≡ octets = cc h in sym f) (same_name name (full_name d.name (sha256 whole)) e) wanted)
      by_name false e wanted h = inl h

      by_wanted : (b : Bool) → is_wanted d.name (sha256 whole) s.wants ≡ b
          → Came (if b then record { objects = map.insert s.objects (full_name d.name (sha256 whole)) whole; wants = unfilled d.name (sha256 whole) s.wants } else s)
      by_wanted true wanted h =
          by_name (eq_by_cmp name_cmp name (full_name d.name (sha256 whole))) refl wanted
          (sym (get-insert name_cmp-total s.objects (full_name d.name (sha256 whole)) whole name) ∙ h)
      by_wanted false wanted h = inl h

  pub object_comes : (new : Policy) → IsAfter was event new → Came new.held
  object_comes new h =
      after_change was event Came (λ at. inl at)
      (λ whole i c allows e at. inl (commanded (Some c) (at_moment was (moment event)).now (at_moment was (moment event)).held name octets at))
      came_with new h

-- ---- objects go by allowed deletes

module _ (was : Policy) (event : PlainEvent) (name : List Field) (had : IsSome (map.get was.held.objects name)) where
  abbrev Stays : Held → Type 0
  Stays s = IsSome (map.get s.objects name) ⊎ Deletes was event name

  abbrev now : ℕ
  now = (at_moment was (moment event)).now

  abbrev held : Held
  held = (at_moment was (moment event)).held

  deletes : (whole : List ℕ) (i : PlainInterest) (c : RepoCommand) → Allows was event (AnInterest whole i) → repo_command_at was.repo i.name ≡ Some c → c.verb ≡ Delete → Stays (after_delete c held)
  deletes whole i c allows read verb = by_status (repo_status_of held c == OK)
    where
      test : List Field × List ℕ → Bool
      test = λ o. not (full_name_answers c.name c.can_be_prefix o.0)

      by_answer : (b : Bool) → full_name_answers c.name c.can_be_prefix name ≡ b → (x : List ℕ) → IsSome (if not b then Some x else None) ⊎ Deletes was event name
      by_answer true e x = inr (c, (whole, i, allows, read), verb, e)
      by_answer false e x = inl refl

      by_object : (o : Option (List ℕ)) → IsSome o → IsSome (if_kept test name o) ⊎ Deletes was event name
      by_object None some = cc some
      by_object (Some x) some = by_answer (full_name_answers c.name c.can_be_prefix name) refl x

      by_status : (b : Bool) → Stays (if b then record { objects = without_answering c.name c.can_be_prefix held.objects; wants = map.remove held.wants (want_key c) } else held)
      by_status true =
          subst (λ (o : Option (List ℕ)). IsSome o ⊎ Deletes was event name) (sym (get-kept name_cmp-antisymmetric test name held.objects)) (by_object (map.get was.held.objects name) had)
      by_status false = inl had

  inserts : (c : RepoCommand) → Stays (after_insert c now held)
  inserts c = by_status (repo_status_of held c == PENDING)
    where
      by_status : (b : Bool) → Stays (if b then record held { wants = map.insert held.wants (want_key c) (want_deadline now c.lifetime) } else held)
      by_status true = inl had
      by_status false = inl had

  by_verb : (whole : List ℕ) (i : PlainInterest) (c : RepoCommand) (v : Verb) → Allows was event (AnInterest whole i) → repo_command_at was.repo i.name ≡ Some (record c { verb = v })
      → Stays (after_known (record c { verb = v }) now held)
  by_verb whole i c Insert allows read = inserts (record c { verb = Insert })
  by_verb whole i c Delete allows read = deletes whole i (record c { verb = Delete }) allows read refl
  by_verb whole i c Check allows read = inl had

  stays_with : (whole : List ℕ) (d : PlainData) → Stays (after_offer d.name (sha256 whole) whole held)
  stays_with whole d = by_wanted (is_wanted d.name (sha256 whole) held.wants)
    where
      by_name : (b : Bool) (o : Option (List ℕ)) → IsSome o → IsSome (cond b (Some whole) o)
      by_name true o some = refl
      by_name false o some = some

      by_wanted : (b : Bool)
          → Stays (if b then record { objects = map.insert held.objects (full_name d.name (sha256 whole)) whole; wants = unfilled d.name (sha256 whole) held.wants } else held)
      by_wanted true =
          inl (subst (λ (o : Option (List ℕ)). IsSome o) (sym (get-insert name_cmp-total held.objects (full_name d.name (sha256 whole)) whole name))
          (by_name (eq_by_cmp name_cmp name (full_name d.name (sha256 whole))) (map.get was.held.objects name) had))
      by_wanted false = inl had

  pub object_stays : (new : Policy) → IsAfter was event new → Stays new.held
  object_stays new h =
      after_change was event Stays (inl had) (λ whole i c allows e. by_verb whole i c c.verb allows e) (λ whole d allows. stays_with whole d) new h

-- ---- pending inserts come by allowed inserts

same_key : (a b : WantKey) → eq_by_cmp want_cmp a b ≡ true → a ≡ b
same_key a b e = want_cmp-antisymmetric a b ((Equal-is (want_cmp a b)).0 e)

if_kept_some : (test : WantKey × ℕ → Bool) (key : WantKey) (o : Option ℕ) (x : ℕ) → if_kept test key o ≡ Some x → o ≡ Some x
if_kept_some test key None x e = e
if_kept_some test key (Some y) x e = by_test (test (key, y)) e
  where
    by_test : (b : Bool) → (if b then Some y else None) ≡ Some x → Some y ≡ Some x
    by_test true e = e
    by_test false e = cc e

module _ (was : Policy) (event : PlainEvent) (key : WantKey) (deadline : ℕ) where
  abbrev Asked : Type 0
  Asked = map.get was.held.wants key ≡ Some deadline

  abbrev Arises : Held → Type 0
  Arises s = map.get s.wants key ≡ Some deadline → Asked ⊎ AddsWant was event key deadline

  abbrev at : ℕ
  at = (at_moment was (moment event)).now

  abbrev s : Held
  s = (at_moment was (moment event)).held

  -- a want that stands once time has advanced stood before
  passed : map.get s.wants key ≡ Some deadline → Asked
  passed h =
      let test = λ (w : WantKey × ℕ). nat_lt at w.1 in
      if_kept_some test key (map.get was.held.wants key) deadline (sym (get-kept want_cmp-antisymmetric test key was.held.wants) ∙ h)

  added : (whole : List ℕ) (i : PlainInterest) (c : RepoCommand) → Allows was event (AnInterest whole i) → repo_command_at was.repo i.name ≡ Some c → c.verb ≡ Insert → Arises (after_insert c at s)
  added whole i c allows read verb = by_status (repo_status_of s c == PENDING)
    where
      by_key : (b : Bool) → eq_by_cmp want_cmp key (want_key c) ≡ b → cond b (Some (want_deadline at c.lifetime)) (map.get s.wants key) ≡ Some deadline → Asked ⊎ AddsWant was event key deadline
      by_key true e h = inr (c, (whole, i, allows, read), verb, sym (same_key key (want_key c) e), (let f : want_deadline at c.lifetime ≡ deadline = cc h in sym f))
      by_key false e h = inl (passed h)

      by_status : (b : Bool) → Arises (if b then record s { wants = map.insert s.wants (want_key c) (want_deadline at c.lifetime) } else s)
      by_status true h = by_key (eq_by_cmp want_cmp key (want_key c)) refl (sym (get-insert want_cmp-total s.wants (want_key c) (want_deadline at c.lifetime) key) ∙ h)
      by_status false h = inl (passed h)

  removed : (c : RepoCommand) → Arises (after_delete c s)
  removed c = by_status (repo_status_of s c == OK)
    where
      by_key : (b : Bool) → cond b None (map.get s.wants key) ≡ Some deadline → Asked
      by_key true h = cc h
      by_key false h = passed h

      by_status : (b : Bool) → Arises (if b then record { objects = without_answering c.name c.can_be_prefix s.objects; wants = map.remove s.wants (want_key c) } else s)
      by_status true h = inl (by_key (eq_by_cmp want_cmp key (want_key c)) (sym (get-remove want_cmp-total s.wants (want_key c) key) ∙ h))
      by_status false h = inl (passed h)

  told : (whole : List ℕ) (i : PlainInterest) (c : RepoCommand) (v : Verb) → Allows was event (AnInterest whole i) → repo_command_at was.repo i.name ≡ Some (record c { verb = v })
      → Arises (after_known (record c { verb = v }) at s)
  told whole i c Insert allows read = added whole i (record c { verb = Insert }) allows read refl
  told whole i c Delete allows read = removed (record c { verb = Delete })
  told whole i c Check allows read = λ h. inl (passed h)

  filled : (whole : List ℕ) (d : PlainData) → Arises (after_offer d.name (sha256 whole) whole s)
  filled whole d = by_wanted (is_wanted d.name (sha256 whole) s.wants)
    where
      by_wanted : (b : Bool)
          → Arises (if b then record { objects = map.insert s.objects (full_name d.name (sha256 whole)) whole; wants = unfilled d.name (sha256 whole) s.wants } else s)
      by_wanted true h =
          let test = λ (w : WantKey × ℕ). not (answers d.name (sha256 whole) w.0.0 w.0.1) in
          inl (passed (if_kept_some test key (map.get s.wants key) deadline (sym (get-kept want_cmp-antisymmetric test key s.wants) ∙ h)))
      by_wanted false h = inl (passed h)

  pub insert_comes : (new : Policy) → IsAfter was event new → Arises new.held
  insert_comes new h =
      after_change was event Arises (λ h. inl (passed h)) (λ whole i c allows e. told whole i c c.verb allows e) (λ whole d allows. filled whole d) new h
