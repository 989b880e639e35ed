-- The fault that is reported for a text or a rule file that has several faults.
use Rattle.std.specs.Prelude.{◌≡◌, ◌⊎◌, ℕ, List, [], ◌∷◌, Option, None, Some, Bool, false, nat_lt, ◌==◌, ◌&&◌, ◌||◌, if◌then◌else◌}
use Rattle.std.specs.List.{AllByRecursion}
use Rattle.info_rules.specs.declared.fault.RulesFault.{RulesFault}
use Rattle.info_rules.specs.declared.fault.RulesFaultKind.{RulesFaultKind}
use Rattle.info_rules.specs.declared.fault.RulesFaultKind.TheVariants.{Syntax, TooDeep, TooLarge, UnknownKey, Missing, BadValue, TwiceNamed, Pattern, AnyAnchor, Memory}

-- the rank of a kind of fault: if the line that is reported has several faults, the fault whose
-- kind has the least rank is reported
abbrev pub kind_number : RulesFaultKind → ℕ
kind_number Syntax = 1
kind_number TooDeep = 2
kind_number TooLarge = 3
kind_number UnknownKey = 4
kind_number Missing = 5
kind_number BadValue = 6
kind_number TwiceNamed = 7
kind_number Pattern = 8
kind_number AnyAnchor = 9
kind_number Memory = 10

-- fault `a` is reported before fault `b`: the line of `a` is less, or the lines are equal and the
-- kind of `a` has a lower rank
abbrev pub sooner : RulesFault → RulesFault → Bool
sooner a b = nat_lt a.line b.line ||
    (a.line == b.line && nat_lt (kind_number a.kind) (kind_number b.kind))

-- the fault to report after one more fault was found
abbrev pub noted : Option RulesFault → RulesFault → Option RulesFault
noted None fault = Some fault
noted (Some told) fault = Some (if sooner fault told then fault else told)

-- the fault to report after all these faults were found
unfoldable pub after : Option RulesFault → List RulesFault → Option RulesFault
after told [] = told
after told (fault ∷ faults) = after (noted told fault) faults

-- the fault of a failed allocation, which has no line in the text
abbrev pub memory_fault : RulesFault
memory_fault = record { line = 0; kind = Memory }

-- the fault is in the list
abbrev pub IsAmong : RulesFault → List RulesFault → Type 0
IsAmong fault [] = ⊥
IsAmong fault (other ∷ faults) = (fault ≡ other) ⊎ IsAmong fault faults

-- no fault of the list is reported before `told`
abbrev pub NoneIsSooner : RulesFault → List RulesFault → Type 0
NoneIsSooner told faults = AllByRecursion (λ fault. sooner fault told ≡ false) faults
