-- How a file is read part by part, up to the first fault.
use Rattle.std.specs.Prelude.{◌≡◌, ◌⊎◌, Result, Ok, Err}
use Rattle.node_config.specs.declared.fault.ConfigFault.{ConfigFault}
use Rattle.node_config.specs.Faults.{memory_fault}

-- Which result the reading of a part of a file has: the value of the part, or the fault that is
-- reported. A reading has at most one result.
abbrev pub Reading : Type 0 → Type 1
Reading A = Result A ConfigFault → Type 0

-- one part, and then the part that depends on its value; if the first part has a fault, then this
-- fault is reported, whatever follows
infixl 10 ◌>>=◌
abbrev pub ◌>>=◌ : {A B : Type 0} → Reading A → (A → Reading B) → Reading B
◌>>=◌ {A} First Next result =
    ((fault : ConfigFault) × First (Err fault) × (result ≡ Err fault))
    ⊎ ((x : A) × First (Ok x) × Next x result)

-- exactly this result
abbrev pub Gives : {A : Type 0} → Result A ConfigFault → Reading A
Gives given result = result ≡ given

-- the value `x` that is right, or this fault if no value is right
abbrev pub Finds : {A : Type 0} → (A → Type 0) → ConfigFault → Reading A
Finds IsRight fault (Ok x) = IsRight x
Finds {A} IsRight fault (Err reported) = (reported ≡ fault) × ((x : A) → IsRight x → ⊥)

-- no value if the fact holds, and otherwise this fault
abbrev pub Needs : Type 0 → ConfigFault → Reading (Unit {0})
Needs Fact fault (Ok nothing) = Fact
Needs Fact fault (Err reported) = (reported ≡ fault) × (Fact → ⊥)

-- the result, whose value is seen as `shown` of it, is that of the reading, or the fault that
-- memory ran out
abbrev pub Meets : {A B : Type 0} → Reading B → (A → B) → Result A ConfigFault → Type 0
Meets Has shown (Ok x) = Has (Ok (shown x))
Meets Has shown (Err fault) = Has (Err fault) ⊎ (fault ≡ memory_fault)

-- the value of the result, seen as `f` of it; a fault is unchanged
abbrev pub seen_as : {A B : Type 0} → (A → B) → Result A ConfigFault → Result B ConfigFault
seen_as f (Ok x) = Ok (f x)
seen_as f (Err fault) = Err fault
