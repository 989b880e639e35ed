-- Steps of ports that wrap other ports.
use Rattle.std.proofs.Common.{◌≡◌, ℕ, List, [], ◌∷◌, length, arith, refl, sym, subst}
use Rattle.std.specs.Prelude.{Bool, true, false, Option, Some, None, Result, Ok, Err, IfOk, IfSome, OnErr, OnOk, ⊤}
use Rattle.forwarder.specs.Event.{PlainEvent}
use Rattle.node_ports.specs.Ports.{cut_to}
use Rattle.node_ports.specs.Restarted.{AreDoneRestarted}
use Rattle.node_ports.specs.Step.{PortStep, Got, Ended, FailedNext, Wrote, FailedWrite, Gave, FailedSend, line_steps}

pub ok_then : {T E : Type 0} (r : Result T E) (A B : Type 0) → (A → B) → OnOk r A → OnOk r B
ok_then (Ok v) A B then h = then h
ok_then (Err e) A B then h = tt

pub err_then : {T E : Type 0} (r : Result T E) (A B : Type 0) → (A → B) → OnErr r A → OnErr r B
err_then (Ok v) A B then h = tt
err_then (Err e) A B then h = then h

pub if_ok_then : {T E : Type 0} (r : Result T E) (A B : T → Type 0) → ((v : T) → A v → B v) → IfOk r A → IfOk r B
if_ok_then (Ok v) A B then h = then v h
if_ok_then (Err e) A B then h = tt

pub if_some_then : {T : Type 0} (o : Option T) (A B : T → Type 0) → ((v : T) → A v → B v) → IfSome o A → IfSome o B
if_some_then (Some v) A B then h = then v h
if_some_then None A B then h = tt

pub none_left : {A : Type 0} (xs : List A) → length xs ≡ 0 → xs ≡ []
none_left [] h = refl
none_left (x ∷ xs) h = absurd (omega (arith, h))

-- the steps that are no answers to calls for the next arrival
abbrev pub IsOther : PortStep → Type 0
IsOther (Got room event) = ⊥
IsOther Ended = ⊥
IsOther FailedNext = ⊥
IsOther (Wrote line) = ⊤
IsOther (FailedWrite front) = ⊤
IsOther (Gave send) = ⊤
IsOther (FailedSend send) = ⊤

module _ {P : Type 0} (does : P → List PortStep → P → Type 0) where
  -- ---- with events of their own

  -- an event of their own arrives
  pub restarted_own : (p : P) (own left : List PlainEvent) (event : PlainEvent) (room : ℕ) (given : PlainEvent) → does p [] p → own ≡ event ∷ left → given ≡ cut_to room event
      → AreDoneRestarted does p own (Got room given ∷ []) p left
  restarted_own p own left event room given rests is comes =
      subst (λ (o : List PlainEvent). AreDoneRestarted does p o (Got room given ∷ []) p left) (sym is) (p, left, (rests, comes, refl), (rests, refl))

  -- no event of their own is left
  pub restarted_none : (p q : P) (own left : List PlainEvent) (step : PortStep) → does q [] q → own ≡ [] → left ≡ own → does p (step ∷ []) q → AreDoneRestarted does p own (step ∷ []) q left
  restarted_none p q own left step rests is same h =
      subst (λ (l : List PlainEvent). AreDoneRestarted does p own (step ∷ []) q l) (sym same)
      (subst (λ (o : List PlainEvent). AreDoneRestarted does p o (step ∷ []) q o) (sym is) (q, [], (h, refl), (rests, refl)))

  pub restarted_other : (p q : P) (own : List PlainEvent) (step : PortStep) → does q [] q → IsOther step → does p (step ∷ []) q → AreDoneRestarted does p own (step ∷ []) q own
  restarted_other p q [] step rests is h = (q, [], (h, refl), (rests, refl))
  restarted_other p q (event ∷ own) (Got room given) rests is h = absurd is
  restarted_other p q (event ∷ own) Ended rests is h = absurd is
  restarted_other p q (event ∷ own) FailedNext rests is h = absurd is
  restarted_other p q (event ∷ own) (Wrote line) rests is h = (q, event ∷ own, (h, refl), (rests, refl))
  restarted_other p q (event ∷ own) (FailedWrite front) rests is h = (q, event ∷ own, (h, refl), (rests, refl))
  restarted_other p q (event ∷ own) (Gave send) rests is h = (q, event ∷ own, (h, refl), (rests, refl))
  restarted_other p q (event ∷ own) (FailedSend send) rests is h = (q, event ∷ own, (h, refl), (rests, refl))

  pub restarted_line : (p q : P) (own : List PlainEvent) (chosen : Bool) (line : List ℕ) → does q [] q → does p (line_steps chosen line) q → AreDoneRestarted does p own (line_steps chosen line) q own
  restarted_line p q own true line rests h = restarted_other p q own (Wrote line) rests tt h
  restarted_line p q own false line rests h = (h, refl)
