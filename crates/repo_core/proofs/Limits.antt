-- The number of objects and wants in a repository.
use Rattle.std.proofs.Common.{◌≡◌, ℕ, suc, ◌+◌, ◌-◌, ◌<◌, ◌≤◌, Bool, true, false, cond, filter, List, [], ◌∷◌, length, refl, sym, ap, ◌∙◌, arith, inl, inr, eqb}
use Rattle.std.proofs.lemmas.Bool.Decides.{nat_tests}
use Rattle.std.proofs.lemmas.List.Sums.{length-filter, count_by-le-length}
use Rattle.std.specs.Prelude.{Option, Some, None, not, nat_le, nat_lt, ◌||◌, ◌⊎◌}
use Rattle.std.specs.List.{list_any}
use Rattle.std.specs.FinMap as map
use Rattle.std.specs.FinMap.{FinMap, entries, len-entries, len-insert, len-remove}
use Rattle.std.specs.declared.cmp.Ordering.{Ordering}
use Rattle.ndn_tlv.specs.Element.{Field}
use Rattle.ndn_names.specs.Key.{name_cmp-total}
use Rattle.ndn_packets.specs.Answers.{answers, full_name}
use Rattle.repo_core.specs.declared.verb.Verb.{Verb}
use Rattle.repo_core.specs.declared.verb.Verb.TheVariants.{Insert, Delete, Check}
use Rattle.repo_core.specs.Commands.{Stored, Wanted, verb_row}
use Rattle.repo_core.specs.Objects.{full_name_answers, kept, without_answering}
use Rattle.repo_core.specs.Reading.{RepoCommand, repo_command_at}
use Rattle.repo_core.specs.Repo.{Held, IsWithinLimits, after_command, after_delete, after_insert, after_known, after_offer, after_some, after_time, first_case_status, holds, is_repo_full, repo_status_of, want_key}
use Rattle.repo_core.specs.Wants.{WantKey, Wants, is_wanted, unfilled, want_cmp, want_cmp-total, want_deadline}
use Rattle.repo_core.proofs.Kept.{entries-kept}

no_more : {X : Type 0} (test : X → Bool) (xs : List X) → length (filter test xs) ≤ length xs
no_more test xs = let some = count_by-le-length test xs in omega (arith, length-filter test xs, some)

-- if at least one element passes the test, removing all elements that pass the test makes the list
-- shorter
fewer : {X : Type 0} (test : X → Bool) (xs : List X) → list_any test xs ≡ true → length (filter (λ x. not (test x)) xs) < length xs
fewer test [] e = absurd cc
fewer test (x ∷ xs) e = by (test x) e (λ rest. fewer test xs rest)
  where
    by : (b : Bool) → (b || list_any test xs) ≡ true → (list_any test xs ≡ true → length (filter (λ x. not (test x)) xs) < length xs)
        → length (cond (not b) (x ∷ filter (λ x. not (test x)) xs) (filter (λ x. not (test x)) xs)) < suc (length xs)
    by true e again = let le = no_more (λ x. not (test x)) xs in omega (arith, le)
    by false e again = let lt = again e in omega (arith, lt)

len-kept : {K X : Type 0} {R : K → K → Ordering} (test : K × X → Bool) (m : FinMap R X) → map.len (kept test m) ≤ map.len m
len-kept {K} {X} {R} test m =
    let le = no_more test (entries m) in
    omega (arith, len-entries (kept test m), ap length (entries-kept R test m), le, len-entries m)

len-unfilled : (name : List Field) (digest : List ℕ) (wants : Wants) → is_wanted name digest wants ≡ true → map.len (unfilled name digest wants) < map.len wants
len-unfilled name digest wants e =
    let test = λ (w : (List Field × Bool) × ℕ). answers name digest w.0.0 w.0.1 in
    let lt = fewer test (entries wants) e in
    omega (arith, len-entries (unfilled name digest wants), ap length (entries-kept want_cmp (λ w. not (test w)) wants), lt, len-entries wants)

one_more : (b : Bool) (n : ℕ) → cond b n (n + 1) ≤ n + 1
one_more true n = omega arith
one_more false n = omega arith

one_less : (b : Bool) (n : ℕ) → cond b (n - 1) n ≤ n
one_less true n = omega arith
one_less false n = omega arith

-- if an insert is answered with status 100, then before the insert there was a want with the same
-- name and CanBePrefix, or the repository was not full
pending : (stored wanted full : Bool) → eqb (cond stored 200 (cond wanted 100 (cond full 503 100))) 100 ≡ true → (wanted ≡ true) ⊎ (full ≡ false)
pending true wanted full e = absurd cc
pending false true full e = inl refl
pending false false true e = absurd cc
pending false false false e = inr refl

module _ (s : Held) (h : IsWithinLimits s) where
  at_most : (n : ℕ) → n ≤ map.len s.wants → (o : ℕ) → o ≤ map.len s.objects → (n ≤ 64) × (o + n ≤ 65536)
  at_most n few o less = (omega (arith, few, h.0), omega (arith, few, less, h.1))

  room : is_repo_full s ≡ false → (map.len s.wants < 64) × (map.len s.objects + map.len s.wants < 65536)
  room e = both (nat_le 64 (map.len s.wants)) (nat_le 65536 (map.len s.objects + map.len s.wants)) e refl refl
    where
      both : (a b : Bool) → (a || b) ≡ false → nat_le 64 (map.len s.wants) ≡ a → nat_le 65536 (map.len s.objects + map.len s.wants) ≡ b
          → (map.len s.wants < 64) × (map.len s.objects + map.len s.wants < 65536)
      both true b e p q = absurd cc
      both false true e p q = absurd cc
      both false false e p q = (grind (arith, nat_tests, p), grind (arith, nat_tests, q))

  pub put_within : (key : WantKey) (until : ℕ) → (map.contains_key s.wants key ≡ true) ⊎ (is_repo_full s ≡ false)
      → IsWithinLimits (record s { wants = map.insert s.wants key until })
  put_within key until (inl there) =
      let same = len-insert want_cmp-total s.wants key until ∙ ap (λ (b : Bool). cond b (map.len s.wants) (map.len s.wants + 1)) there in
      (omega (arith, same, h.0), omega (arith, same, h.1))
  put_within key until (inr free) =
      let r = room free in
      let more = one_more (map.contains_key s.wants key) (map.len s.wants) in
      let is = len-insert want_cmp-total s.wants key until in
      (omega (arith, is, more, r.0), omega (arith, is, more, r.1))

  pub removed_within : (name : List Field) (flag : Bool) (key : WantKey)
      → IsWithinLimits (record { objects = without_answering name flag s.objects; wants = map.remove s.wants key })
  removed_within name flag key =
      at_most (map.len (map.remove s.wants key))
      (let le = one_less (map.contains_key s.wants key) (map.len s.wants) in omega (arith, len-remove want_cmp-total s.wants key, le))
      (map.len (without_answering name flag s.objects)) (len-kept (λ o. not (full_name_answers name flag o.0)) s.objects)

  pub stored_within : (name : List Field) (digest : List ℕ) (full : List Field) (octets : List ℕ) → is_wanted name digest s.wants ≡ true
      → IsWithinLimits (record { objects = map.insert s.objects full octets; wants = unfilled name digest s.wants })
  stored_within name digest full octets e =
      let lt = len-unfilled name digest s.wants e in
      let more = one_more (map.contains_key s.objects full) (map.len s.objects) in
      let is = len-insert name_cmp-total s.objects full octets in
      (omega (arith, lt, h.0), omega (arith, is, more, lt, h.1))

  pub insert_within : (c : RepoCommand) (now : ℕ) → c.verb ≡ Insert → IsWithinLimits (after_insert c now s)
  insert_within c now verb = by (eqb (repo_status_of s c) 100) refl
    where
      by : (b : Bool) → eqb (repo_status_of s c) 100 ≡ b
          → IsWithinLimits (cond b (record s { wants = map.insert s.wants (want_key c) (want_deadline now c.lifetime) }) s)
      by true e =
          put_within (want_key c) (want_deadline now c.lifetime) (pending (holds s c Stored) (holds s c Wanted) (is_repo_full s)
          (ap (λ (v : Verb). eqb (first_case_status s c (verb_row v).answers) 100) (sym verb) ∙ e))
      by false e = h

  pub delete_within : (c : RepoCommand) → IsWithinLimits (after_delete c s)
  delete_within c = by (eqb (repo_status_of s c) 200)
    where
      by : (b : Bool) → IsWithinLimits (cond b (record {
        objects = without_answering c.name c.can_be_prefix s.objects;
        wants = map.remove s.wants (want_key c);
      }) s)
      by true = removed_within c.name c.can_be_prefix (want_key c)
      by false = h

  known_within : (c : RepoCommand) (now : ℕ) → IsWithinLimits (after_known c now s)
  known_within c now =
      (elim c.verb as (λ v. c.verb ≡ v → IsWithinLimits (elim v [ Insert ↦ after_insert c now s | Delete ↦ after_delete c s | Check ↦ s ])) [
        | Insert ↦ λ is. insert_within c now is
        | Delete ↦ λ _. delete_within c
        | Check ↦ λ _. h
      ]) refl

  pub command_within : (start name : List Field) (now : ℕ) → IsWithinLimits (after_command start name now s)
  command_within start name now = some (repo_command_at start name)
    where
      some : (o : Option RepoCommand) → IsWithinLimits (after_some o now s)
      some None = h
      some (Some c) = known_within c now

  pub offer_within : (name : List Field) (digest octets : List ℕ) → IsWithinLimits (after_offer name digest octets s)
  offer_within name digest octets = by (is_wanted name digest s.wants) refl
    where
      by : (b : Bool) → is_wanted name digest s.wants ≡ b → IsWithinLimits (cond b (record {
        objects = map.insert s.objects (full_name name digest) octets;
        wants = unfilled name digest s.wants;
      }) s)
      by true e = stored_within name digest (full_name name digest) octets e
      by false e = h

  pub time_within : (now : ℕ) → IsWithinLimits (after_time now s)
  time_within now =
      at_most (map.len (kept (λ w. nat_lt now w.1) s.wants)) (len-kept (λ w. nat_lt now w.1) s.wants) (map.len s.objects) (omega arith)
