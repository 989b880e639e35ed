-- Which texts denote which patterns.
use Rattle.std.specs.Prelude.{◌≡◌, ◌≢◌, ℕ, ◌+◌, ◌≤◌, ◌⊎◌, List, [], ◌∷◌, ◌++◌, length, Option, Some, None, codes, Bool, false, ◌==◌}
use Rattle.std.specs.List.{flat_map, list_any, AllByRecursion}
use Rattle.std.specs.Str.Parse.{IsNumeral, digits_value}
use Rattle.ndn_tlv.specs.Element.{Field}
use Rattle.ndn_names.specs.Name.{IsComponent}
use Rattle.ndn_names.specs.ReadsAs.{ReadsComponent}
use Rattle.name_patterns.specs.Pattern.{PlainTest, Anything, OneOf, NoneOf, Bounds, once, PlainAtom, anything, PlainPattern}

-- the octet is a special character: a parenthesis, a bracket, a brace, one of * + ? ^ $ |, or a
-- backslash (code 92)
abbrev pub is_special : ℕ → Bool
is_special o = list_any (λ sign. sign == o) (92 ∷ codes "()[]{}*+?^$|")

-- `text` is a URI text of the valid component `c`; `text` contains no special character and no >
abbrev pub IsText : List ℕ → Field → Type 0
IsText text c =
    AllByRecursion (λ o. (is_special o ≡ false) × (o ≢ 62)) text × ReadsComponent text c
    × IsComponent c

-- the text of a component between < and >
abbrev pub IsQuoted : List ℕ → Field → Type 0
IsQuoted text c = (inner : List ℕ) × (text ≡ codes "<" ++ (inner ++ codes ">")) × IsText inner c

-- the texts of the components `cs` in order, each text between < and >
abbrev pub AreQuoted : List ℕ → List Field → Type 0
AreQuoted text [] = text ≡ []
AreQuoted text (c ∷ cs) =
    (front rest : List ℕ) × (text ≡ front ++ rest) × IsQuoted front c × AreQuoted rest cs

-- The text of a test. `<>` denotes any component. A quoted text denotes the component with this
-- text. A list of one or more quoted texts between [ and ] denotes any component in the list. A
-- list of one or more quoted texts between [^ and ] denotes any component that is not in the list.
abbrev pub IsTestText : List ℕ → PlainTest → Type 0
IsTestText text Anything = text ≡ codes "<>"
IsTestText text (OneOf cs) =
    ((c : Field) × (cs ≡ c ∷ []) × IsQuoted text c)
    ⊎ ((inner : List ℕ) × (text ≡ codes "[" ++ (inner ++ codes "]")) × (cs ≢ [])
    × AreQuoted inner cs)
IsTestText text (NoneOf cs) =
    (inner : List ℕ) × (text ≡ codes "[^" ++ (inner ++ codes "]")) × (cs ≢ []) × AreQuoted inner cs

-- a number from 0 to 64 in decimal digits
abbrev pub IsCount : List ℕ → ℕ → Type 0
IsCount text n = IsNumeral 10 text × (digits_value 10 text ≡ n) × (n ≤ 64)

-- the text between the braces of a range: `n` for exactly n, `n,` for at least n, `,m` for at most
-- m, or `n,m` for n to m
abbrev pub IsRange : List ℕ → ℕ → Option ℕ → Type 0
IsRange text least None = (low : List ℕ) × (text ≡ low ++ codes ",") × IsCount low least
IsRange text least (Some most) =
    ((least ≡ most) × IsCount text most)
    ⊎ (((least ≡ 0) × ((high : List ℕ) × (text ≡ codes "," ++ high) × IsCount high most))
    ⊎ ((low high : List ℕ) × (text ≡ low ++ (codes "," ++ high)) × IsCount low least
    × IsCount high most × (least ≤ most)))

-- the text of a repeat: * + ? or a range in braces
abbrev pub IsRepeat : List ℕ → Bounds → Type 0
IsRepeat text bounds =
    ((text ≡ codes "*") × (bounds.least ≡ 0) × (bounds.most ≡ None))
    ⊎ (((text ≡ codes "+") × (bounds.least ≡ 1) × (bounds.most ≡ None))
    ⊎ (((text ≡ codes "?") × (bounds.least ≡ 0) × (bounds.most ≡ Some 1))
    ⊎ ((inner : List ℕ) × (text ≡ codes "{" ++ (inner ++ codes "}"))
    × IsRange inner bounds.least bounds.most)))

-- the text of an atom: a test, and an optional repeat; without a repeat the atom matches one
-- component
abbrev pub IsAtom : List ℕ → PlainAtom → Type 0
IsAtom text atom =
    (front rest : List ℕ) × (text ≡ front ++ rest) × IsTestText front atom.test
    × (((rest ≡ []) × (atom.bounds ≡ once)) ⊎ IsRepeat rest atom.bounds)

abbrev pub AreAtoms : List ℕ → List PlainAtom → Type 0
AreAtoms text [] = text ≡ []
AreAtoms text (atom ∷ atoms) =
    (front rest : List ℕ) × (text ≡ front ++ rest) × IsAtom front atom × AreAtoms rest atoms

-- A single atom, or a group of atoms.
pub data Item : Type 0 where
  Alone : PlainAtom → Item
  Group : List PlainAtom → Item

abbrev pub IsItem : List ℕ → Item → Type 0
IsItem text (Alone atom) = IsAtom text atom
IsItem text (Group atoms) =
    (inner : List ℕ) × (text ≡ codes "(" ++ (inner ++ codes ")")) × AreAtoms inner atoms

abbrev pub AreItems : List ℕ → List Item → Type 0
AreItems text [] = text ≡ []
AreItems text (item ∷ items) =
    (front rest : List ℕ) × (text ≡ front ++ rest) × IsItem front item × AreItems rest items

abbrev pub item_atoms : Item → List PlainAtom
item_atoms (Alone atom) = atom ∷ []
item_atoms (Group atoms) = atoms

-- The groups among these items, where `n` atoms come before the items. A group is a pair: the
-- number of atoms before its first atom, and the number of atoms before its end.
abbrev pub groups_from : ℕ → List Item → List (ℕ × ℕ)
groups_from n [] = []
groups_from n (Alone atom ∷ items) = groups_from (n + 1) items
groups_from n (Group atoms ∷ items) = (n, n + length atoms) ∷ groups_from (n + length atoms) items

-- either the text is the anchor `sign`, and no atom is implied, or the text is empty, and the atom
-- `anything` is implied
abbrev pub IsAnchor : List ℕ → List ℕ → List PlainAtom → Type 0
IsAnchor sign text atoms = ((text ≡ sign) × (atoms ≡ [])) ⊎ ((text ≡ []) × (atoms ≡ anything ∷ []))

-- The text denotes the pattern: items between two optional anchors, with at most 32 written atoms
-- and at most 9 groups.
pub record IsPattern (text : List ℕ) (pattern : PlainPattern) : Type 0 where
  pub start : List ℕ
  pub middle : List ℕ
  pub end : List ℕ
  pub items : List Item
  pub before : List PlainAtom
  pub after : List PlainAtom
  pub parts : text ≡ start ++ (middle ++ end)
  pub begins : IsAnchor (codes "^") start before
  pub spelled : AreItems middle items
  pub ends : IsAnchor (codes "$") end after
  pub atoms : pattern.atoms ≡ before ++ (flat_map item_atoms items ++ after)
  pub groups : pattern.groups ≡ groups_from (length before) items
  pub few_atoms : length (flat_map item_atoms items) ≤ 32
  pub few_groups : length pattern.groups ≤ 9
