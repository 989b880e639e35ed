-- The keys of a block: which are present, and which are given too many times.
use Rattle.std.specs.Prelude.{ℕ, List, [], ◌∷◌, length, Option, None, Some, Err, is_some, Bool, false, not, nat_lt, bytes_eq, ◌||◌, if◌then◌else◌}
use Rattle.std.specs.List.{filter}
use Rattle.info_rules.specs.declared.fault.RulesFault.{RulesFault}
use Rattle.info_rules.specs.declared.fault.RulesFaultKind.{RulesFaultKind}
use Rattle.info_rules.specs.declared.fault.RulesFaultKind.TheVariants.{TooLarge, Missing, BadValue}
use Rattle.info_rules.specs.Tree.{Block, blocks_of}
use Rattle.info_rules.specs.Found.{Found, beside}

abbrev pub on_option : {A C : Type 0} → (A → C) → C → Option A → C
on_option f c None = c
on_option f c (Some x) = f x

abbrev pub first_of : {A : Type 0} → List A → Option A
first_of [] = None
first_of (x ∷ xs) = Some x

abbrev pub others_of : {A : Type 0} → List A → List A
others_of [] = []
others_of (x ∷ xs) = xs

-- the key is `word`
abbrev pub is_word : List ℕ → Block → Bool
is_word word key = bytes_eq key.0.key word

-- the keys that are `word`
abbrev pub named : List ℕ → List Block → List Block
named word keys = filter (is_word word) keys

-- the value of a key without a block, or `None` if the key has a block or no value
abbrev pub value_of : Block → Option (List ℕ)
value_of key = if key.0.has_block then None else key.0.value

-- the first key that is `word` has the value `text`
abbrev pub says : List ℕ → List ℕ → List Block → Bool
says word text keys =
    on_option (λ key. on_option (λ value. bytes_eq value text) false (value_of key)) false
    (first_of (named word keys))

-- ---- faults

abbrev pub fault_at : RulesFaultKind → Block → RulesFault
fault_at kind key = record { line = key.0.line; kind = kind }

-- the fault `TooLarge` on line 0 if more than `most` keys are `word`, otherwise no fault
abbrev pub many_faults : ℕ → List ℕ → List Block → List RulesFault
many_faults most word keys =
    if nat_lt most (length (named word keys)) then record { line = 0; kind = TooLarge } ∷ [] else []

-- the fault `BadValue` if the key has a value or has no block
abbrev pub shape_fault : Block → Option RulesFault
shape_fault key =
    if is_some key.0.value || not key.0.has_block then Some (fault_at BadValue key) else None

-- at least one key is `word`
abbrev pub is_there : List ℕ → List Block → Bool
is_there word keys = is_some (first_of (named word keys))

-- the fault `Missing` at this line, unless all needed keys are present
abbrev pub missing_unless : Bool → ℕ → Option RulesFault
missing_unless there line = if there then None else Some (record { line = line; kind = Missing })

-- What `f` reads from the keys of the key's block, or the fault that is reported. The keys of the
-- block are at `depth`. A key that has a value, or that has no block, has the fault `BadValue`.
abbrev pub block_in : {A : Type 0} → ℕ → (ℕ → List Block → Found A) → Block → Found A
block_in depth f key =
    if key.0.has_block then beside (shape_fault key) (f key.0.line (blocks_of depth key.1))
    else Err (fault_at BadValue key)
