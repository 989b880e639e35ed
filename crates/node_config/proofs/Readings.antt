-- Results of readings.
use Rattle.std.proofs.Common.{◌≡◌, ℕ, List, [], length, refl, inl, inr, ◌⊎◌, sym, ◌∙◌, Bool, true, false, IsTrue}
use Rattle.std.proofs.Common.{eqb-true}
use Rattle.std.specs.Prelude.{Result, Ok, Err, ◌==◌}
use Rattle.std.proofs.lemmas.List.{nil_from_length}
use Rattle.node_config.specs.declared.fault.ConfigFault.{ConfigFault}
use Rattle.node_config.specs.Faults.{memory_fault}
use Rattle.node_config.specs.Reading.{Reading, ◌>>=◌, Meets, Needs}

-- memory may run out
pub or_memory : {P Q : Type 0} (fault : ConfigFault) → (P → Q) → P ⊎ (fault ≡ memory_fault) → Q ⊎ (fault ≡ memory_fault)
or_memory fault f (inl p) = inl (f p)
or_memory fault f (inr m) = inr m

-- a test decides the fact
pub needs_fact : (Fact : Type 0) (test : Bool) (fault told : ConfigFault) → told ≡ fault → (IsTrue test → Fact) → (Fact → IsTrue test) → (r : Result (Unit {0}) ConfigFault) → Needs (IsTrue test) told r → Needs Fact fault r
needs_fact Fact test fault told e to from (Ok x) h = to h
needs_fact Fact test fault told e to from (Err f) h = (h.0 ∙ e, λ fact. h.1 (from fact))

-- the value meets a reading that goes on from another one
pub meets_then : {A B C : Type 0} (First : Reading C) (Next : C → Reading B) (shown : A → B) (x : C) → First (Ok x) → (r : Result A ConfigFault) → Meets (Next x) shown r → Meets (First >>= Next) shown r
meets_then First Next shown x h (Ok y) k = inr (x, h, k)
meets_then First Next shown x h (Err f) k = or_memory f (λ e. inr (x, h, e)) k

pub is_nil : (text : List ℕ) (test : Bool) → test ≡ (length text == 0) → test ≡ true → text ≡ []
is_nil text test e h = nil_from_length text (eqb-true (length text) 0 (sym e ∙ h))

pub not_nil : (text : List ℕ) (test : Bool) → test ≡ (length text == 0) → test ≡ false → text ≡ [] → ⊥
not_nil text test e h nil = let one : (length text == 0) ≡ true = rw nil refl in cc
