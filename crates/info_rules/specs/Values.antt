-- The values that keys may have.
use Rattle.std.specs.Prelude.{ℕ, List, Option, None, Some, is_some, Result, Ok, Err, Bool, true, bytes_eq, codes, ◌||◌, if◌then◌else◌}
use Rattle.ndn_names.specs.UriReading.{name_in}
use Rattle.info_rules.specs.declared.fault.RulesFaultKind.{RulesFaultKind}
use Rattle.info_rules.specs.declared.fault.RulesFaultKind.TheVariants.{BadValue, AnyAnchor}
use Rattle.info_rules.specs.Blocks.{ValueKind, Id, PacketKind, NameWord, Uri, Relation, Pattern, Template, CheckerType, SignatureType, AnchorType}
use Rattle.info_rules.specs.Tree.{Block}
use Rattle.info_rules.specs.Keys.{on_option, first_of, named, value_of}
use Rattle.info_rules.specs.ValueWords.{is_id, kind_in, relation_in, checker_type_in, signature_type_in, is_anchor_type}
use Rattle.info_rules.specs.Found.{Found}

abbrev pub ok_of : {A E : Type 0} → Result A E → Option A
ok_of (Ok x) = Some x
ok_of (Err e) = None

infixl 10 ◌>>=◌
abbrev pub ◌>>=◌ : {A B : Type 0} → Option A → (A → Option B) → Option B
None >>= f = None
(Some x) >>= f = f x

-- the text is a valid value of this kind; every text counts as a valid pattern or template here,
-- and `any` as a valid type of a trust anchor, since the faults of these values are not `BadValue`
unfoldable pub is_value : ValueKind → List ℕ → Bool
is_value Id text = is_id text
is_value PacketKind text = is_some (kind_in text)
is_value NameWord text = bytes_eq text (codes "name")
is_value Uri text = is_some (ok_of (name_in text))
is_value Relation text = is_some (relation_in text)
is_value Pattern text = true
is_value Template text = true
is_value CheckerType text = is_some (checker_type_in text)
is_value SignatureType text = is_some (signature_type_in text)
is_value AnchorType text = bytes_eq text (codes "any") || is_anchor_type text

-- the value, or a fault of this kind on this line if there is no value
abbrev pub read_at : {A : Type 0} → RulesFaultKind → ℕ → Option A → Found (Option A)
read_at kind line None = Err (record { line = line; kind = kind })
read_at kind line (Some value) = Ok (Some value)

-- the value that is read from the text of a key; the fault is `BadValue` if the key has no text,
-- and `kind` if the text is not valid
abbrev pub given_in : {A : Type 0} → RulesFaultKind → (List ℕ → Option A) → ℕ → Option (List ℕ)
    → Found (Option A)
given_in kind read line None = Err (record { line = line; kind = BadValue })
given_in kind read line (Some text) = read_at kind line (read text)

-- the value of the first key that is `word`, or `None` if there is no such key; the fault is
-- `BadValue` if this key has a block or has no value, and `kind` if the value is invalid
unfoldable pub value_in : {A : Type 0} → RulesFaultKind → (List ℕ → Option A) → List ℕ → List Block
    → Found (Option A)
value_in kind read word keys = on_option (λ key. given_in kind read key.0.line (value_of key))
    (Ok None) (first_of (named word keys))

abbrev pub id_in : List ℕ → Option (List ℕ)
id_in text = if is_id text then Some text else None

-- `Some` if the text is the word `name`, otherwise `None`
abbrev pub name_word_in : List ℕ → Option (Unit {0})
name_word_in text = if bytes_eq text (codes "name") then Some tt else None

-- `Some` if the text is a type that a trust anchor may have; the type `any` has the fault
-- `AnyAnchor`, and every other text has `BadValue`
abbrev pub anchor_type_in : ℕ → List ℕ → Found (Option (Unit {0}))
anchor_type_in line text =
    if bytes_eq text (codes "any") then Err (record { line = line; kind = AnyAnchor }) else (
    if is_anchor_type text then Ok (Some tt) else Err (record { line = line; kind = BadValue }))

abbrev pub anchor_given_in : ℕ → Option (List ℕ) → Found (Option (Unit {0}))
anchor_given_in line None = Err (record { line = line; kind = BadValue })
anchor_given_in line (Some text) = anchor_type_in line text

unfoldable pub anchor_value_in : List Block → Found (Option (Unit {0}))
anchor_value_in keys = on_option (λ key. anchor_given_in key.0.line (value_of key)) (Ok None)
    (first_of (named (codes "type") keys))
