-- Reading a template's text from left to right, up to the first faulty part.
use Rattle.std.specs.Prelude.{ℕ, zero, suc, ◌-◌, List, [], ◌∷◌, length, Option, Some, None, Result, Ok, Err, nat_lt, nat_le, ◌==◌, ◌&&◌, if◌then◌else◌}
use Rattle.ndn_tlv.specs.Element.{Field}
use Rattle.ndn_tlv.specs.Reading.{on_result}
use Rattle.name_patterns.specs.declared.fault.PatternFault.{PatternFault}
use Rattle.name_patterns.specs.declared.fault.PatternFault.TheVariants.{Syntax, Inner, BadGroup}
use Rattle.name_patterns.specs.Template.{PlainPart, OfGroup, Single}
use Rattle.name_patterns.specs.PatternReading.{◌>>=◌, FrontPart, has_special, text_in, quoted_in}
use Rattle.name_patterns.specs.Faults.{read_at}

-- the value of the decimal digit at the front of the text, and the remaining text, or `None` if
-- there is no digit
abbrev pub digit_in : List ℕ → Option (ℕ × List ℕ)
digit_in [] = None
digit_in (o ∷ text) = if nat_le 48 o && nat_le o 57 then Some (o - 48, text) else None

-- The group whose digit is at the front of the text, and the remaining text. The backslash before
-- the digit is at offset `at`. The fault is `Syntax` at `at` if there is no digit, and `BadGroup`
-- at `at` if the number exceeds `groups`.
abbrev pub group_in : ℕ → ℕ → List ℕ → Result (PlainPart × List ℕ) PatternFault
group_in groups at text =
    on_result (λ digit. if nat_lt groups digit.0 then Err (BadGroup at)
    else Ok (OfGroup digit.0, digit.1)) Err (read_at at (digit_in text))

-- the component between < and > at the front of the text, or `None` if there is no such component
abbrev pub single_in : List ℕ → Option (FrontPart Field)
single_in text = do
  quoted ← quoted_in text
  c ← text_in quoted.0
  Some (record { part = c; is_inner = has_special quoted.0; rest = quoted.1 })

-- The component between < and > at offset `at`, and the remaining text. The fault is `Syntax` if
-- there is no component between < and >, and `Inner` if the text of the component contains a
-- special character.
abbrev pub single_part_in : ℕ → List ℕ → Result (PlainPart × List ℕ) PatternFault
single_part_in at text =
    on_result (λ found. if found.is_inner then Err (Inner at)
    else Ok (Single found.part, found.rest)) Err (read_at at (single_in text))

-- either the part at offset `at` and the text after this part, or the fault of this part; the
-- number of a group may be at most `groups`
abbrev pub part_in : ℕ → ℕ → List ℕ → Result (PlainPart × List ℕ) PatternFault
part_in groups at [] = Err (Syntax at)
part_in groups at (o ∷ text) =
    if o == 92 then group_in groups at text else single_part_in at (o ∷ text)

-- `parts_within n groups len text` is the list of the parts in `text`, or the first fault. `text`
-- is the remaining text of a template of length `len`. At most `n` parts are read.
unfoldable pub parts_within : ℕ → ℕ → ℕ → List ℕ → Result (List PlainPart) PatternFault
parts_within zero groups len text = Ok []
parts_within (suc n) groups len text =
    if length text == 0 then Ok [] else
    on_result (λ next. on_result (λ parts. Ok (next.0 ∷ parts)) Err
    (parts_within n groups len next.1)) Err
    (part_in groups (len - length text) text)

-- the parts of a template for a pattern with `groups` groups, or the first fault
unfoldable pub template_in : ℕ → List ℕ → Result (List PlainPart) PatternFault
template_in groups text = parts_within (length text) groups (length text) text
