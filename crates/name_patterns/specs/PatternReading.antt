-- Reading a pattern's text from left to right, up to the first faulty item.
use Rattle.std.specs.Prelude.{ℕ, zero, suc, ◌+◌, ◌-◌, ◌<◌, ◌≤◌, IfSome, List, [], ◌∷◌, ◌++◌, length, Option, Some, None, Result, Ok, Err, Bool, false, not, nat_lt, nat_le, ◌==◌, ◌&&◌, ◌||◌, codes, bytes_eq, is_some, if◌then◌else◌}
use Rattle.std.specs.List.{list_any, AllByRecursion}
use Rattle.std.specs.Option.{option_map_or}
use Rattle.std.specs.Str.{all_ascii_digits}
use Rattle.std.specs.Str.Parse.{digits_value}
use Rattle.ndn_tlv.specs.Element.{Field}
use Rattle.ndn_tlv.specs.Reading.{on_result}
use Rattle.ndn_names.specs.UriReading.{cut_at, piece_in}
use Rattle.name_patterns.specs.declared.draft.OpenGroup.{OpenGroup}
use Rattle.name_patterns.specs.declared.fault.PatternFault.{PatternFault}
use Rattle.name_patterns.specs.declared.fault.PatternFault.TheVariants.{Syntax, Inner, Nested, BadGroup}
use Rattle.name_patterns.specs.Pattern.{PlainTest, Anything, OneOf, NoneOf, Bounds, once, any_number, PlainAtom, anything, PlainPattern, LiesIn}
use Rattle.name_patterns.specs.Grammar.{is_special}
use Rattle.name_patterns.specs.Faults.{read_at}

infixl 10 ◌>>=◌
abbrev pub ◌>>=◌ : {A B : Type 0} → Option A → (A → Option B) → Option B
None >>= f = None
(Some x) >>= f = f x

-- the text contains a special character
abbrev pub has_special : List ℕ → Bool
has_special text = list_any is_special text

-- the component that a text encodes, or `None` if the text encodes no component
abbrev pub text_in : List ℕ → Option Field
text_in text = on_result (λ c. Some c) (λ _. None) (piece_in text)

-- A part that is read at the front of a text, and the remaining text `rest`. `is_inner` tells
-- whether a component's text in this part contains a special character.
pub record FrontPart (A : Type 0) : Type 0 where
  pub part : A
  pub is_inner : Bool
  pub rest : List ℕ

-- The text between < at the front and the first > after it, and the remaining text. The text
-- between < and > may be empty. The result is `None` if the text does not begin with <, or if no >
-- follows.
abbrev pub quoted_in : List ℕ → Option (List ℕ × List ℕ)
quoted_in [] = None
quoted_in (o ∷ text) = if o == 60 then cut_at 62 text else None

-- the end of a list: a closing bracket at the front of the text, and the remaining text, or `None`
-- if the text does not begin with a closing bracket
abbrev pub list_end : List ℕ → Option (FrontPart (List Field))
list_end [] = None
list_end (o ∷ text) =
    if o == 93 then Some (record { part = []; is_inner = false; rest = text }) else None

-- `listed_within n text` is the components of a list, each written between < and >, up to the
-- closing bracket, and the text after this bracket. The result is `None` if the text does not begin
-- with such a list, or if the list has more than `n` components.
unfoldable pub listed_within : ℕ → List ℕ → Option (FrontPart (List Field))
listed_within zero text = list_end text
listed_within (suc n) text = option_map_or
    (λ quoted. do
      c ← text_in quoted.0
      others ← listed_within n quoted.1
      Some (record {
        part = c ∷ others.part;
        is_inner = has_special quoted.0 || others.is_inner;
        rest = others.rest;
      }))
    (quoted_in text) (list_end text)

-- the test of a list of one or more texts, read up to the bracket that closes the list, or `None`
-- if there is no such list at the front of the text
abbrev pub list_in : (List Field → PlainTest) → List ℕ → Option (FrontPart PlainTest)
list_in test text = do
  listed ← listed_within (length text) text
  if length listed.part == 0 then None
      else Some (record { part = test listed.part; is_inner = listed.is_inner; rest = listed.rest })

-- the test of a list, read from the text after its opening bracket, or `None` if there is no such
-- list
abbrev pub bracketed_in : List ℕ → Option (FrontPart PlainTest)
bracketed_in [] = list_in OneOf []
bracketed_in (o ∷ text) = if o == 94 then list_in NoneOf text else list_in OneOf (o ∷ text)

-- the test written between < and > at the front of the text, or `None` if there is no such test; if
-- nothing is between < and >, any component passes
abbrev pub quoted_test_in : List ℕ → Option (FrontPart PlainTest)
quoted_test_in text = do
  quoted ← quoted_in text
  if length quoted.0 == 0 then Some (record { part = Anything; is_inner = false; rest = quoted.1 })
      else (do
        c ← text_in quoted.0
        Some (record { part = OneOf (c ∷ []); is_inner = has_special quoted.0; rest = quoted.1 }))

-- the test at the front of the text, or `None` if there is no test at the front
unfoldable pub test_in : List ℕ → Option (FrontPart PlainTest)
test_in [] = None
test_in (o ∷ text) = if o == 91 then bracketed_in text else quoted_test_in (o ∷ text)

-- the number from 0 to 64 that a text represents in decimal digits, or `None` for any other text
abbrev pub count_in : List ℕ → Option ℕ
count_in text =
    if all_ascii_digits text && (nat_lt 0 (length text) && nat_le (digits_value 10 text) 64)
    then Some (digits_value 10 text) else None

-- The range whose text has `low` before its comma and `high` after it, or `None` if this text is
-- not a range. An empty `low` is 0, and an empty `high` sets no upper bound. If both texts are
-- empty, the result is `None`.
abbrev pub range_by_comma : List ℕ → List ℕ → Option Bounds
range_by_comma low high =
    if length high == 0 then (do
      least ← count_in low
      Some (record { least = least; most = None }))
    else (do
      least ← if length low == 0 then Some 0 else count_in low
      most ← count_in high
      if nat_le least most then Some (record { least = least; most = Some most }) else None)

abbrev pub range_by_cut : List ℕ → Option (List ℕ × List ℕ) → Option Bounds
range_by_cut text (Some parts) = range_by_comma parts.0 parts.1
range_by_cut text None = do
  n ← count_in text
  Some (record { least = n; most = Some n })

-- the range whose text without the braces is `text`, or `None` if there is no such range
unfoldable pub range_in : List ℕ → Option Bounds
range_in text = range_by_cut text (cut_at 44 text)

-- the text begins with one of the characters that begin a repeat
abbrev pub begins_repeat : List ℕ → Bool
begins_repeat [] = false
begins_repeat (o ∷ text) = list_any (λ sign. sign == o) (codes "*+?{")

-- the range in braces, read from the text after the opening brace, and the text after the closing
-- brace, or `None` if the text does not begin with a range and a closing brace
abbrev pub braced_in : List ℕ → Option (Bounds × List ℕ)
braced_in text = do
  parts ← cut_at 125 text
  bounds ← range_in parts.0
  Some (bounds, parts.1)

-- The bounds of the repeat at the front of the text, and the remaining text. Without a repeat, the
-- bounds are `once`. The result is `None` if the text begins with an opening brace, but not with a
-- range in braces.
unfoldable pub repeat_in : List ℕ → Option (Bounds × List ℕ)
repeat_in [] = Some (once, [])
repeat_in (o ∷ text) =
    if o == 123 then braced_in text else (
    if o == 42 then Some (any_number, text) else (
    if o == 43 then Some (record { least = 1; most = None }, text) else (
    if o == 63 then Some (record { least = 0; most = Some 1 }, text) else
    Some (once, o ∷ text))))

-- The atom at the front of the text, or `None` if there is no atom at the front. An atom is a test
-- with an optional repeat.
unfoldable pub atom_in : List ℕ → Option (FrontPart PlainAtom)
atom_in text = do
  test ← test_in text
  bounds ← repeat_in test.rest
  Some (record {
    part = record { test = test.part; bounds = bounds.0 };
    is_inner = test.is_inner;
    rest = bounds.1;
  })

-- The part of a pattern that has been read: its atoms, the number of these atoms that are written
-- in the text, its closed groups, and its open group, if there is one.
pub record PlainDraft : Type 0 where
  pub atoms : List PlainAtom
  pub written : ℕ
  pub groups : List (ℕ × ℕ)
  pub open_group : Option OpenGroup

-- The draft with the atom at offset `at` added, and the text after this atom. The fault is `Syntax`
-- if there is no atom, or if the atom is the 33rd. Otherwise, the fault is `Inner` if a component's
-- text in the atom contains a special character.
abbrev pub with_atom : PlainDraft → ℕ → List ℕ → Result (PlainDraft × List ℕ) PatternFault
with_atom draft at text = on_result
    (λ found.
    if nat_le 32 draft.written then Err (Syntax at) else (
    if found.is_inner then Err (Inner at) else
    Ok (
      record draft {
        atoms = draft.atoms ++ found.part ∷ [];
        written = draft.written + 1;
      },
      found.rest,
    )))
    Err (read_at at (atom_in text))

-- The draft in which the opening parenthesis at offset `at` has opened a group, and `text`, which
-- is the text after this parenthesis. The fault is `Nested` if a group is already open, and
-- otherwise `BadGroup` if there are already nine groups.
abbrev pub with_open : PlainDraft → ℕ → List ℕ → Option OpenGroup
    → Result (PlainDraft × List ℕ) PatternFault
with_open draft at text (Some group) = Err (Nested at)
with_open draft at text None =
    if nat_le 9 (length draft.groups) then Err (BadGroup at) else
    Ok (
      record draft {
        open_group = Some
            (record { place = at; first = length draft.atoms });
      },
      text,
    )

-- The draft in which the closing parenthesis at offset `at` has closed the open group, and `text`,
-- which is the text after this parenthesis. If no group is open, the fault is `Syntax`. If a repeat
-- follows the parenthesis, the fault is at offset `at + 1`: `Nested` for a valid repeat, and
-- `Syntax` for an invalid repeat.
abbrev pub with_closed : PlainDraft → ℕ → List ℕ → Option OpenGroup
    → Result (PlainDraft × List ℕ) PatternFault
with_closed draft at text None = Err (Syntax at)
with_closed draft at text (Some group) =
    if begins_repeat text
    then Err (if is_some (repeat_in text) then Nested (at + 1) else Syntax (at + 1)) else
    Ok (
      record draft {
        groups = draft.groups ++ (group.first, length draft.atoms) ∷ [];
        open_group = None;
      },
      text,
    )

-- Either the draft with the item at offset `at` added and the text after this item, or the fault of
-- this item. The item is a parenthesis or an atom.
abbrev pub with_item : PlainDraft → ℕ → List ℕ → Result (PlainDraft × List ℕ) PatternFault
with_item draft at [] = with_atom draft at []
with_item draft at (o ∷ text) =
    if o == 40 then with_open draft at text draft.open_group else (
    if o == 41 then with_closed draft at text draft.open_group else
    with_atom draft at (o ∷ text))

-- Whether the text contains a closing parenthesis that is not between < and >. If a < has no >
-- after it, all text after this < counts as between < and >. `is_inside` is true if the text begins
-- between < and >.
unfoldable pub is_closed : Bool → List ℕ → Bool
is_closed is_inside [] = false
is_closed is_inside (o ∷ text) =
    if is_inside then is_closed (not (o == 62)) text else ((o == 41) || is_closed (o == 60) text)

-- The fault to report when the item at the front of the text has the fault `fault`. If a group is
-- open and never closed, the fault to report is `Syntax` at the opening parenthesis of this group.
-- Otherwise the fault to report is `fault`.
abbrev pub first_fault : Option OpenGroup → List ℕ → PatternFault → PatternFault
first_fault None text fault = fault
first_fault (Some group) text fault = if is_closed false text then fault else Syntax group.place

-- the pattern of a draft whose whole text has been read, or a fault if a group is still open
abbrev pub whole_of : PlainDraft → Option OpenGroup → Result PlainPattern PatternFault
whole_of draft (Some group) = Err (Syntax group.place)
whole_of draft None = Ok (record { atoms = draft.atoms; groups = draft.groups })

-- the draft with the atom that is implied by a missing anchor
abbrev pub with_implied : PlainDraft → PlainDraft
with_implied draft = record draft { atoms = draft.atoms ++ anything ∷ [] }

-- The pattern of a draft whose items have all been read, or a fault if a group is still open. The
-- remaining text is empty or is the anchor `$`. An empty remaining text implies a last atom.
abbrev pub at_end : PlainDraft → List ℕ → Result PlainPattern PatternFault
at_end draft [] = whole_of (with_implied draft) draft.open_group
at_end draft (o ∷ text) = whole_of draft draft.open_group

abbrev pub is_end : List ℕ → Bool
is_end text = (length text == 0) || bytes_eq text (codes "$")

-- `items_within n len draft text` is the pattern of a text of length `len`, or the first fault.
-- `draft` is the part that has been read, and `text` is the remaining text. At most `n` further
-- items are read.
unfoldable pub items_within : ℕ → ℕ → PlainDraft → List ℕ → Result PlainPattern PatternFault
items_within zero len draft text = at_end draft text
items_within (suc n) len draft text =
    if is_end text then at_end draft text else
    on_result (λ next. items_within n len next.0 next.1)
    (λ fault. Err (first_fault draft.open_group text fault))
    (with_item draft (len - length text) text)

abbrev pub items_in : ℕ → PlainDraft → List ℕ → Result PlainPattern PatternFault
items_in len draft text = items_within (length text) len draft text

-- the draft before anything is read
abbrev pub begun : PlainDraft
begun = record { atoms = []; written = 0; groups = []; open_group = None }

-- the pattern of a text of length `len`, or the first fault of the text; if the text does not begin
-- with `^`, the first atom is implied
abbrev pub pattern_after : ℕ → List ℕ → Result PlainPattern PatternFault
pattern_after len [] = items_in len (with_implied begun) []
pattern_after len (o ∷ text) =
    if o == 94 then items_in len begun text else items_in len (with_implied begun) (o ∷ text)

-- the pattern of a text, or the first fault of the text
unfoldable pub pattern_in : List ℕ → Result PlainPattern PatternFault
pattern_in text = pattern_after (length text) text

-- The limits of a draft with at most `implied` implied atoms.
pub record IsDraft (implied : ℕ) (draft : PlainDraft) : Type 0 where
  pub few_written : draft.written ≤ 32
  pub few_atoms : length draft.atoms ≤ draft.written + implied
  pub few_groups : length draft.groups ≤ 9
  pub groups : AllByRecursion (LiesIn (length draft.atoms)) draft.groups
  pub open_group : IfSome draft.open_group
      (λ group. (group.first ≤ length draft.atoms) × (length draft.groups < 9))
