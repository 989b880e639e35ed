-- The client that has been silent longest of those with a property.
use Rattle.std.proofs.Common.{ap, ◌≡◌, ℕ, ◌+◌, ◌<◌, ◌≤◌, List, length, slice_index_or, inl, inr, arith, subst, sym, ◌⊎◌, ◌∙◌}
use Rattle.std.specs.Prelude.{Option, Some, None, IfSome, Bool, false, slice_get}
use Rattle.std.proofs.lemmas.Option.{get_or_from_slice_get, slice_get-get_or, slice_get_within}
use Rattle.face_table.specs.Clients.{IsSilent, IsSilentLongestOf, IsSpared, NoneGoes}
use Rattle.face_table.specs.Link.{is_local}
use Rattle.face_table.specs.declared.clients.TheConstants.{GIVE_WAY_MILLISECONDS}
use Rattle.face_table.specs.declared.clients.Client.{Client}
use Rattle.face_table.proofs.Silent.{nobody, split_last}

abbrev pub at : List Client → ℕ → Client
at clients k = slice_index_or clients k nobody

module _ (Goes : ℕ → Type 0) (clients : List Client) where
  -- Of the first `count` clients with the property, the client at index `place` has been silent
  -- longest. If several have been silent equally long, it is the first of these.
  pub record IsFirst (count place : ℕ) : Type 0 where
    pub within : place < count
    pub goes : Goes place
    pub least : (k : ℕ) → k < count → Goes k → (at clients place).heard ≤ (at clients k).heard
    pub first : (k : ℕ) → k < place → Goes k → (at clients place).heard < (at clients k).heard

  -- the same, where there may be no such client
  abbrev pub IsFound : ℕ → Option ℕ → Type 0
  IsFound count None = (k : ℕ) → k < count → Goes k → ⊥
  IsFound count (Some place) = IsFirst count place

  pub IsFound-start : IsFound 0 None
  IsFound-start k h goes = absurd (omega (arith, h))

  pub IsFound-passed : (count : ℕ) (found : Option ℕ) → IsFound count found → (Goes count → ⊥) → IsFound (count + 1) found
  IsFound-passed count None h not = λ k below goes. elim (split_last k count below) [
    | inl l ↦ h k l goes
    | inr e ↦ not (subst (λ (n : ℕ). Goes n) e goes)
  ]
  IsFound-passed count (Some place) h not = record {
    within = let w = h.within in omega (arith, w);
    goes = h.goes;
    least = λ k below goes. elim (split_last k count below) [
      | inl l ↦ h.least k l goes
      | inr e ↦ absurd (not (subst (λ (n : ℕ). Goes n) e goes))
    ];
    first = h.first;
  }

  pub IsFound-kept : (count place : ℕ) → IsFound count (Some place) → (at clients place).heard ≤ (at clients count).heard → IsFound (count + 1) (Some place)
  IsFound-kept count place h kept = record {
    within = let w = h.within in omega (arith, w);
    goes = h.goes;
    least = λ k below goes. elim (split_last k count below) [
      | inl l ↦ h.least k l goes
      | inr e ↦ rw e kept
    ];
    first = h.first;
  }

  pub IsFound-taken : (count : ℕ) (found : Option ℕ) → IsFound count found → Goes count
      → IfSome found (λ place. (at clients count).heard < (at clients place).heard) → IsFound (count + 1) (Some count)
  IsFound-taken count None h goes longer = record {
    within = omega arith;
    goes = goes;
    least = λ k below also. elim (split_last k count below) [
      | inl l ↦ absurd (h k l also)
      | inr e ↦ rw e (omega arith)
    ];
    first = λ k below also. absurd (h k below also);
  }
  IsFound-taken count (Some place) h goes longer = record {
    within = omega arith;
    goes = goes;
    least = λ k below also. elim (split_last k count below) [
      | inl l ↦ let e = h.least k l also in omega (arith, e, longer)
      | inr e ↦ rw e (omega arith)
    ];
    first = λ k below also. let e = h.least k below also in omega (arith, e, longer);
  }

  pub IsFound-within : (count : ℕ) (found : Option ℕ) → IsFound count found → count ≤ length clients → IfSome found (λ place. place < length clients)
  IsFound-within count None h all = tt
  IsFound-within count (Some place) h all = let w = h.within in omega (arith, w, all)

  pub IsFound-longer : (count : ℕ) (found : Option ℕ) → IsFound count found → count < length clients → Goes count
      → IfSome found (λ place. (client later : Client) → slice_get clients count ≡ Some client → slice_get clients place ≡ Some later → client.heard < later.heard)
      → IsFound (count + 1) (Some count)
  IsFound-longer count None h within goes longer = IsFound-taken count None h goes tt
  IsFound-longer count (Some place) h within goes longer =
      let w = h.within in
      IsFound-taken count (Some place) h goes (longer (at clients count) (at clients place) (slice_get-get_or clients count nobody within) (slice_get-get_or clients place nobody (omega (arith, w, within))))

  pub IsFound-unlonger : (count : ℕ) (found : Option ℕ) → IsFound count found → count < length clients
      → ((known : ℕ) × (found ≡ Some known)
      × ((client sooner : Client) → slice_get clients count ≡ Some client → slice_get clients known ≡ Some sooner → sooner.heard ≤ client.heard))
      → IsFound (count + 1) found
  IsFound-unlonger count found h within least =
      let place = least.0 in
      let one = subst (IsFound count) least.1 h in
      let w = one.within in
      let kept = least.2 (at clients count) (at clients place) (slice_get-get_or clients count nobody within) (slice_get-get_or clients place nobody (omega (arith, w, within))) in
      subst (IsFound (count + 1)) (sym least.1) (IsFound-kept count place one kept)

-- the client at index `k` can be spared: what the code tests at this index
abbrev pub IsSparedAt : ℕ → List Client → List Bool → ℕ → Type 0
IsSparedAt now clients told k =
    (is_local (at clients k).link ≡ false) × ((slice_index_or told k false ≡ false) ⊎ IsSilent GIVE_WAY_MILLISECONDS now (at clients k))

module _ (now : ℕ) (clients : List Client) (told : List Bool) (len : length told ≡ length clients) where
  spared_at : (k : ℕ) (other : Client) → slice_get clients k ≡ Some other → IsSpared now told k other → IsSparedAt now clients told k
  spared_at k other is h =
      let e = get_or_from_slice_get clients k other nobody is in
      rw e (
        h.0,
        elim h.1 [
          | inl lacks ↦ inl (get_or_from_slice_get told k false false lacks)
          | inr silent ↦ inr silent
        ],
      )

  spared_of : (k : ℕ) → k < length clients → IsSparedAt now clients told k → IsSpared now told k (at clients k)
  spared_of k within h = (
    h.0,
    elim h.1 [
      | inl lacks ↦ inl (slice_get-get_or told k false (omega (arith, within, len)) ∙ ap (λ (b : Bool). Some b) lacks)
      | inr silent ↦ inr silent
    ],
  )

  pub none_spared : (count : ℕ) (found : Option ℕ) → IsFound (IsSparedAt now clients told) clients count found → length clients ≤ count → found ≡ None
      → NoneGoes (IsSpared now told) clients
  none_spared count found h all none k other is goes =
      let nobody_goes = subst (IsFound (IsSparedAt now clients told) clients count) none h in
      let within = slice_get_within clients k other is in
      nobody_goes k (omega (arith, within, all)) (spared_at k other is goes)

  pub longest_spared : (count : ℕ) (found : Option ℕ) → IsFound (IsSparedAt now clients told) clients count found → count ≤ length clients → length clients ≤ count
      → IfSome found (λ place. (client : Client) × IsSilentLongestOf (IsSpared now told) clients place client)
  longest_spared count None h below all = tt
  longest_spared count (Some place) h below all =
      let w = h.within in
      let within : place < length clients = omega (arith, w, below) in (
        at clients place,
        record {
          is = slice_get-get_or clients place nobody within;
          goes = spared_of place within h.goes;
          least = λ k other is goes.
              let e = get_or_from_slice_get clients k other nobody is in
              let here = slice_get_within clients k other is in
              subst (λ (c : Client). (at clients place).heard ≤ c.heard) e (h.least k (omega (arith, here, all)) (spared_at k other is goes));
          first = λ k other sooner is goes.
              let e = get_or_from_slice_get clients k other nobody is in
              subst (λ (c : Client). (at clients place).heard < c.heard) e (h.first k sooner (spared_at k other is goes));
        },
      )

-- ---- the answers of a node

-- the answers for the first `count` clients
pub record HaveAnswered (Answers : ℕ → Bool → Type 0) (clients : List Client) (told : List Bool) (count : ℕ) : Type 0 where
  pub len : length told ≡ count
  pub each : (k : ℕ) → k < count → Answers (at clients k).face (slice_index_or told k false)
