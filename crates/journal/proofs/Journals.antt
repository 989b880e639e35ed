-- Replaying the events of a run's journal leads to a policy that is the same as the policy of the
-- run from the latest time of the run on.
use Rattle.std.proofs.Common.{◌≡◌, ◌≤◌, ℕ, Bool, true, false, List, [], ◌∷◌, ◌++◌, length, length-append, arith, refl, sym, ap, subst, ◌∙◌}
use Rattle.std.specs.Prelude.{max}
use Rattle.key_files.specs.KeyFile.{AreApart}
use Rattle.forwarder.specs.Event.{PlainEvent, moment}
use Rattle.forwarder.specs.Policy.{Policy, at_moment}
use Rattle.forwarder.specs.Effects.{IsAfter, IsEffect, decided_packet}
use Rattle.forwarder.specs.Runs.{Run, Start, Then, BringsKeysApart, IsPolicyOf, KeysAreApart}
use Rattle.forwarder.proofs.LaterMoments.{policy_apart}
use Rattle.forwarder.proofs.Histories.{one_history, one_policy}
use Rattle.journal.specs.Journal.{AreOneFrom, IsJournalAfter, IsJournalOf, IsJournalled, events_of, with_event, with_moment}
use Rattle.journal.proofs.Chosen.{idle_event, one_choice, some_choice}
use Rattle.journal.proofs.Moments.{one_later, one_now}
use Rattle.journal.proofs.Moved.{moved_after, moved_journalled, moved_keys, moved_moment, moved_twice}

-- ---- lists with a last element

pub record SameEnd (a b : List PlainEvent) (x y : PlainEvent) : Type 0 where
  pub front : a ≡ b
  pub last : x ≡ y

pub not_empty : (events : List PlainEvent) (event : PlainEvent) → events ++ (event ∷ []) ≡ [] → ⊥
not_empty events event e = omega (arith, ap length e, length-append events (event ∷ []))

pub one_end : (a b : List PlainEvent) (x y : PlainEvent) → a ++ (x ∷ []) ≡ b ++ (y ∷ []) → SameEnd a b x y
one_end [] [] x y e = record { front = refl; last = cc }
one_end [] (d ∷ b) x y e = let rest : [] ≡ b ++ (y ∷ []) = cc in absurd (not_empty b y (sym rest))
one_end (c ∷ a) [] x y e = let rest : a ++ (x ∷ []) ≡ [] = cc in absurd (not_empty a x rest)
one_end (c ∷ a) (d ∷ b) x y e =
    let same : SameEnd a b x y = one_end a b x y cc in
    let first : c ≡ d = cc in
    record { front = cc (first, same.front); last = same.last }

-- ---- a run that leads to a policy has a journal, and only one if its keys have different names

pub policy_once : (first p q : Policy) (past : Run) → KeysAreApart first past → IsPolicyOf first past p → IsPolicyOf first past q → p ≡ q
policy_once first p q past apart h k = one_policy first p q past past apart (one_history past) h k

pub some_journal : (first p : Policy) (past : Run) → IsPolicyOf first past p → (journal : List PlainEvent) × IsJournalOf first past journal
some_journal first p Start h = ([], refl)
some_journal first p (Then before event answer) h =
    let was = some_journal first h.0 before h.1 in
    let chosen = some_choice h.0 p event h.2 in
    let now = max h.0.now (moment event) in
    (with_event chosen.0 (with_moment now event) was.0, (h.0, was.0, h.1, was.1, (chosen.0, chosen.1, refl)))

pub one_journal : (first : Policy) (past : Run) (a b : List PlainEvent) → KeysAreApart first past → IsJournalOf first past a → IsJournalOf first past b → a ≡ b
one_journal first Start a b apart h k = h ∙ sym k
one_journal first (Then before event answer) a b apart h k =
    let was : h.0 ≡ k.0 = policy_once first h.0 k.0 before apart.0 h.2 k.2 in
    let earlier : h.1 ≡ k.1 = one_journal first before h.1 k.1 apart.0 h.3 k.3 in
    let keys = policy_apart first before k.0 apart.0 k.2 in
    let after : IsJournalAfter k.0 event h.1 a = subst (λ (w : Policy). IsJournalAfter w event h.1 a) was h.4 in
    let chosen : after.0 ≡ k.4.0 = one_choice k.0 event after.0 k.4.0 keys after.1 k.4.1 in
    let dated = with_moment (max k.0.now (moment event)) event in
    after.2 ∙ ap (λ (c : Bool). with_event c dated h.1) chosen ∙ ap (with_event k.4.0 dated) earlier ∙ sym k.4.2

-- ---- the journal's events lead to the policy of the run

-- The run `again` leads to a policy that is the same as `p` from the time of `p` on. The journal of
-- `again` is `journal`. No key book in `again` has two keys of the same name.
pub record Keeps (first p : Policy) (again : Run) (journal : List PlainEvent) : Type 0 where
  pub left : Policy
  pub is_policy : IsPolicyOf first again left
  pub one : AreOneFrom p.now left p
  pub same : IsJournalOf first again journal
  pub apart : KeysAreApart first again

-- In this module, a run is extended by one event.
module _ (first was p : Policy) (event : PlainEvent) (earlier journal : List PlainEvent) (keys : AreApart was.keys) (brings : BringsKeysApart event) (after : IsAfter was event p)
    (before_keeps : (again : Run) → events_of again ≡ earlier → Keeps first was again earlier) where
  -- if the event is not journalled, replaying the journal leads to the policy of the extended run
  more_idle : (again : Run) → IsJournalled was event false → journal ≡ earlier → events_of again ≡ journal → Keeps first p again journal
  more_idle again is grows e =
      let k = before_keeps again (e ∙ grows) in
      let same : p ≡ at_moment was (moment event) = idle_event was p event keys is after in record {
        left = k.left;
        is_policy = k.is_policy;
        one = subst (λ (w : Policy). AreOneFrom w.now k.left w) (sym same) (one_later was k.left (moment event) k.one);
        same = subst (IsJournalOf first again) (sym grows) k.same;
        apart = k.apart;
      }

  -- if the event is journalled, replaying the journal with this event leads to the policy of the
  -- extended run
  more_last : (again : Run) → IsJournalled was event true → journal ≡ earlier ++ (with_moment (max was.now (moment event)) event ∷ []) → events_of again ≡ journal → Keeps first p again journal
  more_last Start is grows e = absurd (not_empty earlier _ (sym (e ∙ grows)))
  more_last (Then before other answer) is grows e =
      let dated = with_moment (max was.now (moment event)) event in
      let end = one_end (events_of before) earlier other dated (e ∙ grows) in
      let k = before_keeps before end.front in
      let met : at_moment k.left (max was.now (moment event)) ≡ at_moment was (moment event) = one_now was k.left (moment event) k.one in
      let has : IsAfter k.left dated p = moved_after was k.left (max was.now (moment event)) event met p after in
      let is_so : IsJournalled k.left dated true = moved_journalled was k.left (max was.now (moment event)) event met true is in
      let at : moment dated ≡ max was.now (moment event) = moved_moment (max was.now (moment event)) event in
      let stays : max k.left.now (moment dated) ≡ max was.now (moment event) = ap (max k.left.now) at ∙ ap (λ (w : Policy). w.now) met in
      let kept : with_moment (max k.left.now (moment dated)) dated ≡ dated = ap (λ (n : ℕ). with_moment n dated) stays ∙ moved_twice (max was.now (moment event)) (max was.now (moment event)) event in
      let line : IsJournalAfter k.left dated earlier journal = (true, is_so, grows ∙ ap (λ (x : PlainEvent). earlier ++ (x ∷ [])) (sym kept)) in record {
        left = p;
        is_policy = (k.left, k.is_policy, subst (λ (x : PlainEvent). IsAfter k.left x p) (sym end.last) has);
        one = λ m le. refl;
        same = (k.left, earlier, k.is_policy, k.same, subst (λ (x : PlainEvent). IsJournalAfter k.left x earlier journal) (sym end.last) line);
        apart = (k.apart, subst BringsKeysApart (sym end.last) (moved_keys (max was.now (moment event)) event brings));
      }

  pub more : (again : Run) (chosen : Bool) → IsJournalled was event chosen → journal ≡ with_event chosen (with_moment (max was.now (moment event)) event) earlier → events_of again ≡ journal
      → Keeps first p again journal
  more again true is grows e = more_last again is grows e
  more again false is grows e = more_idle again is grows e

start_keeps : (first p : Policy) (again : Run) (journal : List PlainEvent) → AreApart first.keys → p ≡ first → journal ≡ [] → events_of again ≡ journal → Keeps first p again journal
start_keeps first p Start journal apart h j e = record {
  left = first;
  is_policy = refl;
  one = λ m le. ap (λ (w : Policy). at_moment w m) (sym h);
  same = j;
  apart = apart;
}
start_keeps first p (Then before event answer) journal apart h j e = absurd (not_empty (events_of before) event (e ∙ j))

pub keeps : (first p : Policy) (past again : Run) (journal : List PlainEvent) → KeysAreApart first past → IsPolicyOf first past p → IsJournalOf first past journal → events_of again ≡ journal
    → Keeps first p again journal
keeps first p Start again journal apart h j e = start_keeps first p again journal apart h j e
keeps first p (Then before event answer) again journal apart h j e =
    let same : j.0 ≡ h.0 = policy_once first j.0 h.0 before apart.0 j.2 h.1 in
    let grows : IsJournalAfter h.0 event j.1 journal = subst (λ (w : Policy). IsJournalAfter w event j.1 journal) same j.4 in
    more first h.0 p event j.1 journal (policy_apart first before h.0 apart.0 h.1) apart.1 h.2
    (λ (r : Run) (is : events_of r ≡ j.1). keeps first h.0 before r j.1 apart.0 h.1 j.3 is) again grows.0 grows.1 grows.2 e

pub keeps_policy : (first p q : Policy) (past again : Run) (journal : List PlainEvent) → KeysAreApart first past → IsPolicyOf first past p → IsJournalOf first past journal → events_of again ≡ journal
    → IsPolicyOf first again q → AreOneFrom p.now q p
keeps_policy first p q past again journal apart h j e is =
    let k = keeps first p past again journal apart h j e in
    subst (λ (w : Policy). AreOneFrom p.now w p) (policy_once first k.left q again k.apart k.is_policy is) k.one

-- ---- the next event

pub next_effect : (p q r : Policy) (event : PlainEvent) → AreOneFrom p.now q p → p.now ≤ moment event → IsAfter p event r → IsAfter q event r
next_effect p q r event one le h = subst (λ (w : Policy). IsEffect w event r (decided_packet w event)) (sym (one (moment event) le)) h
