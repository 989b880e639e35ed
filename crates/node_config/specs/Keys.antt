-- The keys of blocks, and what each key must have.
use Rattle.std.specs.Prelude.{ℕ, List, [], ◌∷◌, Option, None, Some, Result, Ok, Err, is_some, not, ◌||◌, if◌then◌else◌}
use Rattle.std.specs.List.{list_any}
use Rattle.info_rules.specs.Tree.{Block, blocks_of}
use Rattle.info_rules.specs.Keys.{on_option, first_of, is_word, named, value_of}
use Rattle.node_config.specs.declared.fault.ConfigFault.{ConfigFault}
use Rattle.node_config.specs.declared.fault.ConfigFaultKind.TheVariants.{UnknownKey, KeyTwice, BadShape}
use Rattle.node_config.specs.Faults.{fault_at}

-- The fault of a key whose word is none of `words`; or else, at its line, of the first of the keys
-- after it that has the same word.
abbrev pub key_fault : List (List ℕ) → Block → List Block → Option ConfigFault
key_fault words key others =
    if list_any (λ word. is_word word key) words
    then on_option (λ again. Some (fault_at KeyTwice again)) None
    (first_of (named key.0.key others))
    else Some (fault_at UnknownKey key)

-- the fault of the first key that is none of `words`, or that is given again
unfoldable pub keys_fault : List (List ℕ) → List Block → Option ConfigFault
keys_fault words [] = None
keys_fault words (key ∷ keys) =
    on_option (λ fault. Some fault) (keys_fault words keys) (key_fault words key keys)

abbrev pub unless_fault : Option ConfigFault → Result (Unit {0}) ConfigFault
unless_fault None = Ok tt
unless_fault (Some fault) = Err fault

-- each key is one of `words`, and is given once
abbrev pub known_in : List (List ℕ) → List Block → Result (Unit {0}) ConfigFault
known_in words keys = unless_fault (keys_fault words keys)

-- the keys in the block of the key, which has a block and no value
abbrev pub inner_of : Block → Result (List Block) ConfigFault
inner_of key =
    if is_some key.0.value || not key.0.has_block then Err (fault_at BadShape key)
    else Ok (blocks_of 1 key.1)

-- the keys in the block of the file's key `word`, or no keys if there is no such key
abbrev pub block_in : List ℕ → List Block → Result (List Block) ConfigFault
block_in word keys = on_option inner_of (Ok []) (first_of (named word keys))

-- the line of the key `word`, or 0 if there is no such key
abbrev pub line_in : List ℕ → List Block → ℕ
line_in word keys = on_option (λ key. key.0.line) 0 (first_of (named word keys))

-- the line and the value of the key, which has a value and no block
abbrev pub text_of : Block → Result (Option (ℕ × List ℕ)) ConfigFault
text_of key =
    on_option (λ text. Ok (Some (key.0.line, text))) (Err (fault_at BadShape key)) (value_of key)

-- the line and the value of the key `word`, or None if there is no such key
abbrev pub text_in : List ℕ → List Block → Result (Option (ℕ × List ℕ)) ConfigFault
text_in word keys = on_option text_of (Ok None) (first_of (named word keys))
