-- The names in the lines of key files.
use Rattle.std.specs.Prelude.{◌≡◌, ℕ, ◌+◌, List, length, None, Ok, Err, Bool, false, if◌then◌else◌}
use Rattle.std.specs.List.{list_any}
use Rattle.std.specs.Ordering.{is_eq}
use Rattle.ndn_tlv.specs.Element.{Field}
use Rattle.ndn_names.specs.Order.{name_cmp}
use Rattle.key_files.specs.KeyFile.{NamedKey, is_skipped}
use Rattle.ndn_tlv.specs.Options.{on_option}
use Rattle.key_files.specs.KeyReading.{parts_of, name_of, has_name, after_line}
use Rattle.key_files.specs.declared.fault.KeyFault.{KeyFault}

-- the line is not skipped, and has a URI of this name
abbrev pub line_has_name : List Field → List ℕ → Bool
line_has_name name line =
    if is_skipped line then false else
    on_option (λ other. is_eq (name_cmp other name)) false
    (on_option (λ parts. name_of parts.0.1) None (parts_of line))

abbrev pub lines_have_name : List Field → List (List ℕ) → Bool
lines_have_name name lines = list_any (line_has_name name) lines

-- for each name, one of the lines has this name exactly if one of the keys has this name
abbrev pub HaveNames : List (List ℕ) → List NamedKey → Type 0
HaveNames lines keys = (name : List Field) → lines_have_name name lines ≡ has_name name keys

-- Let `line` have number `before + 1`, and let `keys` be the keys of the lines before `line`.
-- `line` has no fault, and the lines up to and including `line` have `count` keys.
abbrev pub AreReadAfter : ℕ → List NamedKey → List ℕ → ℕ → Type 0
AreReadAfter before keys line count =
    (all : List NamedKey) × (after_line (before + 1) keys line ≡ Ok all) × (count ≡ length all)

-- Let `line` have number `before + 1`, and let `keys` be the keys of the lines before `line`.
-- `line` has the fault `fault`.
abbrev pub IsFaultAfter : ℕ → List NamedKey → List ℕ → KeyFault → Type 0
IsFaultAfter before keys line fault = after_line (before + 1) keys line ≡ Err fault
