-- If the first event of a run brings new rules and keys, then the policy after the run does not
-- depend on the rules and keys before this event.
use Rattle.std.proofs.Common.{◌≡◌, ℕ, List, [], ◌∷◌, ◌++◌, refl, sym, ap, subst}
use Rattle.key_files.specs.KeyFile.{NamedKey}
use Rattle.info_rules.specs.Rule.{PlainRule}
use Rattle.forwarder.specs.Event.{PlainEvent, NewRules}
use Rattle.forwarder.specs.Policy.{Policy, with_rules}
use Rattle.forwarder.specs.Effects.{IsAfter}
use Rattle.forwarder.specs.Runs.{Run, Start, Then, IsPolicyOf}
use Rattle.journal.specs.Journal.{events_of}
use Rattle.journal.proofs.Journals.{not_empty}

record Begins (events : List PlainEvent) (event : PlainEvent) : Type 0 where
  rest : List PlainEvent
  is : events ≡ event ∷ rest

begins : (events rest : List PlainEvent) (last event : PlainEvent) → (events ≡ [] → ⊥) → events ++ (last ∷ []) ≡ event ∷ rest → Begins events event
begins [] rest last event some e = absurd (some refl)
begins (x ∷ events) rest last event some e = let same : x ≡ event = cc in record { rest = events; is = ap (λ (y : PlainEvent). y ∷ events) same }

module _ (first : Policy) (r rules : List PlainRule) (k keys : List NamedKey) (now : ℕ) where
  replaced : (new : Policy) → IsAfter (with_rules first r k) (NewRules rules keys now) new → IsAfter first (NewRules rules keys now) new
  replaced new h = h

  first_event : (was q : Policy) (event : PlainEvent) → was ≡ with_rules first r k → event ≡ NewRules rules keys now → IsAfter was event q → IsAfter first event q
  first_event was q event same is h =
      subst (λ (x : PlainEvent). IsAfter first x q) (sym is)
      (replaced q (subst (λ (w : Policy). IsAfter w (NewRules rules keys now) q) same (subst (λ (x : PlainEvent). IsAfter was x q) is h)))

  pub first_rules : (q : Policy) (again : Run) (rest : List PlainEvent) → events_of again ≡ NewRules rules keys now ∷ rest → IsPolicyOf (with_rules first r k) again q → IsPolicyOf first again q
  first_rules q Start rest e h = absurd cc
  first_rules q (Then Start event answer) rest e h =
      let is : event ≡ NewRules rules keys now = cc in
      (first, refl, first_event h.0 q event h.1 is h.2)
  first_rules q (Then (Then before other reply) event answer) rest e h =
      let b = begins (events_of before ++ (other ∷ [])) rest event (NewRules rules keys now) (not_empty (events_of before) other) e in
      (h.0, first_rules h.0 (Then before other reply) b.rest b.is h.1, h.2)
