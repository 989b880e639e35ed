-- The names of faults and of reasons, as they are printed.
use Rattle.std.specs.Prelude.{ℕ, List, codes}
use Rattle.info_rules.specs.declared.fault.RulesFaultKind.{RulesFaultKind}
use Rattle.info_rules.specs.declared.fault.RulesFaultKind.TheVariants as kinds
use Rattle.info_rules.specs.declared.decision.Reason.{Reason}
use Rattle.info_rules.specs.declared.decision.Reason.TheVariants as reasons

abbrev pub fault_name : RulesFaultKind → List ℕ
fault_name kinds.Syntax = codes "Syntax"
fault_name kinds.TooDeep = codes "TooDeep"
fault_name kinds.TooLarge = codes "TooLarge"
fault_name kinds.UnknownKey = codes "UnknownKey"
fault_name kinds.Missing = codes "Missing"
fault_name kinds.BadValue = codes "BadValue"
fault_name kinds.TwiceNamed = codes "TwiceNamed"
fault_name kinds.Pattern = codes "Pattern"
fault_name kinds.AnyAnchor = codes "AnyAnchor"
fault_name kinds.Memory = codes "Memory"

abbrev pub reason_name : Reason → List ℕ
reason_name reasons.NotSigned = codes "NotSigned"
reason_name reasons.Shape = codes "Shape"
reason_name reasons.SigType = codes "SigType"
reason_name reasons.KeyLocator = codes "KeyLocator"
reason_name reasons.KeyUnknown = codes "KeyUnknown"
reason_name reasons.Tag = codes "Tag"
reason_name reasons.Replay = codes "Replay"
