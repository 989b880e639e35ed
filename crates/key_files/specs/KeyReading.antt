-- Reading key files line by line, up to the first fault.
use Rattle.std.specs.Prelude.{◌≡◌, ℕ, ◌+◌, ◌⊎◌, List, [], ◌∷◌, ◌++◌, length, Option, None, Some, Result, Ok, Err, Bool, false, nat_le, ◌==◌, ◌&&◌, ◌||◌, if◌then◌else◌, not, bytes_eq, IsUtf8}
use Rattle.hex.specs.Hex.{decode_of}
use Rattle.ndn_tlv.specs.Element.{Field}
use Rattle.ndn_tlv.specs.Options.{on_option}
use Rattle.ndn_tlv.specs.Reading.{on_result}
use Rattle.ndn_names.specs.UriReading.{name_in}
use Rattle.ndn_names.specs.Order.{name_cmp}
use Rattle.std.specs.Ordering.{is_eq}
use Rattle.key_files.specs.declared.fault.KeyFault.{KeyFault}
use Rattle.key_files.specs.declared.fault.KeyFault.TheVariants.{BadLine, BadKey, TwiceNamed, TooMany, Memory}
use Rattle.key_files.specs.declared.key.Key.{Key}
use Rattle.key_files.specs.declared.key.Key.TheVariants as keys
use Rattle.key_files.specs.declared.key_line.Algorithm.{Algorithm}
use Rattle.key_files.specs.declared.key_line.Algorithm.TheVariants as algorithms
use Rattle.key_files.specs.KeyFile.{NamedKey, KeysOf, ecdsa_word, is_skipped, lines_of}
use Rattle.key_files.specs.PublicKey.{is_public_key}

-- the text before the last space of a line, and the text after this space, or `None` if the line
-- has no space
unfoldable pub at_last_space : List ℕ → Option (List ℕ × List ℕ)
at_last_space [] = None
at_last_space (o ∷ line) =
    on_option (λ x. Some (o ∷ x.0, x.1)) (if o == 32 then Some ([], line) else None)
    (at_last_space line)

-- the algorithm of a key, and the URI of its name, in the text before the last space of its line
abbrev pub marked : List ℕ → Algorithm × List ℕ
marked front =
    on_option
    (λ x. if bytes_eq x.1 ecdsa_word then (algorithms.Ecdsa, x.0) else (algorithms.Hmac, front))
    (algorithms.Hmac, front) (at_last_space front)

-- the parts of a line: the algorithm and the URI, and the digits after the last space
abbrev pub parts_of : List ℕ → Option ((Algorithm × List ℕ) × List ℕ)
parts_of line = on_option (λ x. Some (marked x.0, x.1)) None (at_last_space line)

abbrev pub key_of : Algorithm → List ℕ → Key
key_of algorithms.Hmac octets = keys.Hmac octets
key_of algorithms.Ecdsa octets = keys.Ecdsa octets

abbrev pub not_empty : List Field → Option (List Field)
not_empty [] = None
not_empty (c ∷ name) = Some (c ∷ name)

-- the name that a URI reads as, or `None` if the URI reads as no name or as the empty name
abbrev pub name_of : List ℕ → Option (List Field)
name_of uri = on_result not_empty (λ _. None) (name_in uri)

-- the 1 to 256 octets that hexadecimal digits encode, or `None` for any other text
abbrev pub octets_of : List ℕ → Option (List ℕ)
octets_of digits =
    on_result
    (λ octets. if nat_le 1 (length octets) && nat_le (length octets) 256 then Some octets else None)
    (λ _. None) (decode_of digits)

-- the key in a line, or `None` if the line does not have the form of a key's line
abbrev pub key_in : List ℕ → Option NamedKey
key_in line =
    on_option
    (λ parts. on_option
    (λ name. on_option (λ octets. Some (name, key_of parts.0.0 octets)) None (octets_of parts.1))
    None (name_of parts.0.1))
    None (parts_of line)

abbrev pub is_usable : Key → Bool
is_usable (keys.Hmac octets) = not (is_public_key octets)
is_usable (keys.Ecdsa octets) = is_public_key octets

-- the key in line n, or the fault of the line: `BadLine n` if it does not have the form of a key's
-- line, and `BadKey n` if its public key is no point of the curve, or its secret is one
abbrev pub line_key : ℕ → List ℕ → Result NamedKey KeyFault
line_key n line =
    on_option (λ key. if is_usable key.1 then Ok key else Err (BadKey n)) (Err (BadLine n))
    (key_in line)

abbrev pub has_name : List Field → List NamedKey → Bool
has_name name [] = false
has_name name (key ∷ keys) = is_eq (name_cmp key.0 name) || has_name name keys

-- Either the list `keys` followed by `key`, or a fault. `key` is the key of line n. The fault is
-- `TwiceNamed n` if `keys` has a key with the same name as `key`, and `TooMany` if `keys` has 256
-- keys with other names.
abbrev pub with_key : ℕ → List NamedKey → NamedKey → Result (List NamedKey) KeyFault
with_key n keys key =
    if has_name key.0 keys then Err (TwiceNamed n) else (
    if length keys == 256 then Err TooMany else
    Ok (keys ++ key ∷ []))

-- The list `keys` followed by the key of `line`, or the fault of `line`. If `line` is skipped, the
-- result is `keys`. The number of `line` is n.
abbrev pub after_line : ℕ → List NamedKey → List ℕ → Result (List NamedKey) KeyFault
after_line n keys line =
    if is_skipped line then Ok keys else
    on_result (with_key n keys) (λ fault. Err fault) (line_key n line)

-- the list `keys` followed by the keys in the lines, or the first fault in the lines; the first
-- line has number n, and `keys` are the keys of the lines before line n
unfoldable pub keys_from : ℕ → List NamedKey → List (List ℕ) → Result (List NamedKey) KeyFault
keys_from n keys [] = Ok keys
keys_from n keys (line ∷ lines) =
    on_result (λ more. keys_from (n + 1) more lines) (λ fault. Err fault) (after_line n keys line)

abbrev pub keys_in : List ℕ → Result (List NamedKey) KeyFault
keys_in text = keys_from 1 [] (lines_of text)

-- the result `read` is the error `fault`, or `fault` is `Memory`
abbrev pub IsFaultOf : {A : Type 0} → Result A KeyFault → KeyFault → Type 0
IsFaultOf read fault = (read ≡ Err fault) ⊎ (fault ≡ Memory)

-- either the result `read` is the error `fault`, or `fault` is `Memory` and `read` is not an error
abbrev pub IsFaultBeforeMemory : Result (List NamedKey) KeyFault → KeyFault → Type 0
IsFaultBeforeMemory read fault =
    (read ≡ Err fault) ⊎ ((fault ≡ Memory) × ((keys : List NamedKey) × (read ≡ Ok keys)))

-- ---- the octets of key files

-- the octets are the UTF-8 text of a key file with these keys
abbrev pub AreKeys : List ℕ → List NamedKey → Type 0
AreKeys octets keys = IsUtf8 octets × KeysOf octets keys

-- `why` is the fault of the text, or `Memory` if the text has no fault; if the octets are not
-- UTF-8, `why` is `BadLine 0`
abbrev pub IsFaultOfOctets : List ℕ → KeyFault → Type 0
IsFaultOfOctets octets why =
    (IsUtf8 octets × IsFaultBeforeMemory (keys_in octets) why)
    ⊎ (¬ (IsUtf8 octets) × (why ≡ BadLine 0))
