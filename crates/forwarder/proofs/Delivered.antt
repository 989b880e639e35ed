-- Which faces an allowed Data is sent to, and how the Data changes the cache.
use Rattle.std.proofs.Common.{◌≡◌, ◌≢◌, inl, inr, ℕ, ◌<◌, ◌≤◌, Bool, true, false, cond, not, eqb, ltb, List, [], ◌∷◌, length, refl, sym, ap, subst, ◌∙◌, arith}
use Rattle.std.specs.Prelude.{None, Some, map, IsSome, is_some, IsTrue, All, filter, ◌||◌, ◌↔◌}
use Rattle.std.specs.Ordering.{nat_cmp, is_eq}
use Rattle.std.specs.Cmp.{nat_cmp_total, tied_itself}
use Rattle.std.specs.FinMap.{entries, find, get, get-entries, len, len-entries}
use Rattle.std.proofs.lemmas.List.Elements.{All-cons, All-nil}
use Rattle.std.proofs.lemmas.Bool.{eq-eqb, ne_eqb, eqb-true, lt-ltb}
use Rattle.sha2.specs.Sha256.{sha256}
use Rattle.ndn_packets.specs.Packet.{PlainData}
use Rattle.pit_fib.specs.FaceSet.{IsRising, has_face}
use Rattle.pit_fib.specs.Pit.{WaitsFor}
use Rattle.pit_fib.specs.Tokens.{IsTokenFor}
use Rattle.pit_fib.specs.Records.{InRecord, InRecords, Records, is_alive, records_at}
use Rattle.content_store.specs.Store.{LosesSome, StoreState, with_cached}
use Rattle.forwarder.specs.Event.{Send, Token, to_each}
use Rattle.forwarder.specs.Replies.{Askers, IsSentToAskers, faces_of, sent_to}
use Rattle.forwarder.specs.Cache.{CacheAfter, Inserts, IsAwaited, held_from}
use Rattle.forwarder.specs.Node.{NodeState}
use Rattle.forwarder.specs.Handling.{seen_by}
use Rattle.forwarder.proofs.Members.{IsRising-filter, IsIn, IsIn-filter_from, IsIn-filter_to, any_from, any_to}

-- ---- a list of faces, each without a token

abbrev pub bare : List ℕ → Askers
bare faces = map {A = ℕ} {B = ℕ × Token} (λ f. (f, None)) faces

pub bare_faces : (faces : List ℕ) → faces_of (bare faces) ≡ faces
bare_faces [] = refl
bare_faces (f ∷ faces) = ap (λ (rest : List ℕ). f ∷ rest) (bare_faces faces)

pub bare_sends : (faces whole : List ℕ) → sent_to (bare faces) whole ≡ to_each faces whole
bare_sends [] whole = refl
bare_sends (f ∷ faces) whole = ap (λ (rest : List Send). let sent : Send = (f, whole) in sent ∷ rest) (bare_sends faces whole)

pub all_bare : (P : ℕ × Token → Type 0) → ((f : ℕ) → P (f, None)) → (faces : List ℕ) → All P (bare faces)
all_bare P each [] = All-nil P
all_bare P each (f ∷ faces) = All-cons P (f, None) (bare faces) (each f) (all_bare P each faces)

-- ---- which faces have an in-record that the Data answers

never : {A : Type 0} → false ≡ true → A
never e = absurd cc

none_found : {A : Type 0} (m : InRecords) (face : ℕ) → entries m ≡ [] → IsSome (get m face) → A
none_found m face none some = never (sym (ap is_some (get-entries m face ∙ ap (find nat_cmp face) none)) ∙ some)

-- records with an in-record are alive
pub asker_lives : (r : Records) (face : ℕ) → IsSome (get r.in_records face) → is_alive r ≡ true
asker_lives r face some = by_entries (entries r.in_records) refl
  where
    by_entries : (es : List (ℕ × InRecord)) → entries r.in_records ≡ es → is_alive r ≡ true
    by_entries [] none = none_found r.in_records face none some
    by_entries (e ∷ es) is = lt-ltb 0 (len r.in_records) (omega (arith, len-entries r.in_records, ap (λ (l : List (ℕ × InRecord)). length l) is))

-- records that are alive have an in-record of some face
pub living_asker : (r : Records) → is_alive r ≡ true → (face : ℕ) × IsSome (get r.in_records face)
living_asker r alive = by_entries (entries r.in_records) refl
  where
    by_entries : (es : List (ℕ × InRecord)) → entries r.in_records ≡ es → (face : ℕ) × IsSome (get r.in_records face)
    by_entries [] none = never (sym (ap (ltb 0) (len-entries r.in_records ∙ ap length none)) ∙ alive)
    by_entries (e ∷ es) is = (
      e.0,
      ap is_some (get-entries r.in_records e.0 ∙ ap (find nat_cmp e.0) is
          ∙ ap (λ b. cond b (Some e.1) (find nat_cmp e.0 es)) (ap is_eq (tied_itself nat_cmp_total e.0))),
    )

module _ (s : NodeState) (now : ℕ) (whole : List ℕ) (d : PlainData) (askers : List ℕ)
    (all : (f : ℕ) → IsTrue (has_face f askers) ↔ WaitsFor s.pending d.name (sha256 whole) f) where
  awaited_some : (faces : List ℕ) → askers ≡ faces → 0 < length faces → IsAwaited s.pending (held_from now whole d)
  awaited_some [] is some = absurd (omega (arith, some))
  awaited_some (f ∷ faces) is some =
      let waits = (all f).0 (ap (has_face f) is ∙ ap (λ b. b || has_face f faces) (eq-eqb f f refl)) in
      (waits.0, waits.1, asker_lives (records_at s.pending waits.0) f waits.2)

  awaited_none : length askers ≤ 0 → ¬ IsAwaited s.pending (held_from now whole d)
  awaited_none few (key, answered, alive) =
      let asker = living_asker (records_at s.pending key) alive in
      none_has asker.0 askers few ((all asker.0).1 (key, answered, asker.1))
    where
      none_has : (f : ℕ) (faces : List ℕ) → length faces ≤ 0 → has_face f faces ≡ true → ⊥
      none_has f [] few has = never has
      none_has f (g ∷ faces) few has = absurd (omega (arith, few))

  -- ---- the sends of the Data to the waiting faces

  -- Let `some` contain the waiting faces except `face`, and let `some` pair each of these faces
  -- with the token for this face. Then the sends of the Data to the faces in `some` satisfy
  -- `IsSentToAskers`.
  pub sent_to_askers : (face : ℕ) → IsRising askers → (some : Askers) → faces_of some ≡ filter (λ f. not (eqb f face)) askers
      → All (λ a. IsTokenFor (records_at s.pending) d.name (sha256 whole) a.0 a.1) some → IsSentToAskers (seen_by s) face whole d (sent_to some whole)
  sent_to_askers face rising some are tokens = (
    some,
    subst IsRising (sym are) (IsRising-filter but askers rising),
    λ f. subst (λ (faces : List ℕ). IsTrue (has_face f faces) ↔ ((f ≢ face) × WaitsFor s.pending d.name (sha256 whole) f)) (sym are) (there f, here f),
    tokens,
    refl,
  )
    where
      but : ℕ → Bool
      but f = not (eqb f face)

      others : List ℕ
      others = filter but askers

      in_list : (f : ℕ) (faces : List ℕ) → has_face f faces ≡ true → IsIn f faces
      in_list f faces has =
          let found = any_from (λ g. eqb g f) faces has in
          subst (λ g. IsIn g faces) (eqb-true found.0 f found.2) found.1

      has_in : (f : ℕ) (faces : List ℕ) → IsIn f faces → has_face f faces ≡ true
      has_in f faces is = any_to (λ g. eqb g f) f faces is (eq-eqb f f refl)

      other : (f : ℕ) → but f ≡ true → f ≢ face
      other f is same = never (sym (ap not (eq-eqb f face same)) ∙ is)

      there : (f : ℕ) → IsTrue (has_face f others) → (f ≢ face) × WaitsFor s.pending d.name (sha256 whole) f
      there f has =
          let kept = IsIn-filter_from but f askers (in_list f others has) in
          (other f kept.1, (all f).0 (has_in f askers kept.0))

      here : (f : ℕ) → (f ≢ face) × WaitsFor s.pending d.name (sha256 whole) f → IsTrue (has_face f others)
      here f (differs, waits) =
          has_in f others (IsIn-filter_to but f askers (in_list f askers ((all f).1 waits)) (ap not (ne_eqb f face differs)))

  -- ---- the cache after a Data arrives, whether or not some face waits for the Data

  module _ (old new : StoreState) where
    pub cached : 0 < length askers → (stored : Bool) → (stored ≡ true → new ≡ with_cached old (held_from now whole d))
        → (stored ≡ false → LosesSome old.cached new.cached) → new.capacity ≡ old.capacity
        → CacheAfter now s.pending (Inserts (held_from now whole d)) old new
    cached some true ok refused same = inl (awaited_some askers refl some, inl (ok refl))
    cached some false ok refused same = inl (awaited_some askers refl some, inr (refused refl, same))

    pub not_cached : length askers ≤ 0 → new ≡ old → CacheAfter now s.pending (Inserts (held_from now whole d)) old new
    not_cached none same = inr (awaited_none none, same)
