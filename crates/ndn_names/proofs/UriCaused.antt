-- Definitions that read a text, such as `name_in`, never return the fault `Memory`: the text is the
-- cause of each of their faults.
use Rattle.std.proofs.Common.{◌≡◌, ℕ, ◌+◌, ◌*◌, ◌-◌, ◌^◌, ltb, leb, eqb, cond, length, take, List, [], ◌∷◌, Result, Ok, Err, subst, codes, bytes_eq, decimal}
use Rattle.std.specs.Prelude.{Option, Some, None, not, ◌&&◌, ◌||◌}
use Rattle.std.specs.List.{list_any}
use Rattle.std.specs.Char.{digit_value}
use Rattle.std.specs.Str.{all_ascii_digits}
use Rattle.std.specs.Str.Parse.{digits_value}
use Rattle.ndn_tlv.specs.Number.{shortest_nni}
use Rattle.ndn_tlv.specs.Reading.{◌>>=◌}
use Rattle.ndn_names.specs.declared.fault.NameFault.{NameFault}
use Rattle.ndn_names.specs.declared.fault.NameFault.TheVariants.{TooManyComponents, BadUri, Memory}
use Rattle.ndn_names.specs.Reading.{component_of}
use Rattle.ndn_names.specs.TypeName.{kind_of}
use Rattle.ndn_names.specs.Uri.{is_periods}
use Rattle.ndn_names.specs.UriReading.{pair_in, before, hex_in, octets_in, unpadded, plain_in, number_in, type_in, digest_in, numbered_in, typed_in, cut_at, component_by_cut, component_in, piece_in, components_in, pieces_of, without_scheme, name_after_slash, name_in_path, name_in}
use Rattle.ndn_names.proofs.Names.{IsCaused, caused_then, caused_if, field_caused}

pair_caused : (high low : ℕ) → IsCaused (pair_in high low)
pair_caused high low = caused_if (ltb (digit_value high) 16 && ltb (digit_value low) 16) (Ok (16 * digit_value high + digit_value low)) (Err BadUri) tt tt

before_caused : (o : ℕ) (others : Result (List ℕ) NameFault) → IsCaused others → IsCaused (before o others)
before_caused o others h = caused_then others (λ octets. Ok (o ∷ octets)) h (λ octets. tt)

hex_caused : (text : List ℕ) → IsCaused (hex_in text)
hex_caused [] = tt
hex_caused (high ∷ []) = tt
hex_caused (high ∷ low ∷ text) = caused_then (pair_in high low) (λ o. before o (hex_in text)) (pair_caused high low) (λ o. before_caused o (hex_in text) (hex_caused text))

octets_caused : (text : List ℕ) → IsCaused (octets_in text)
octets_caused [] = tt
octets_caused (a ∷ []) = caused_if (eqb a 37) (Err BadUri) (Ok (a ∷ [])) tt tt
octets_caused (a ∷ b ∷ []) = caused_if (eqb a 37) (Err BadUri) (before a (octets_in (b ∷ []))) tt (before_caused a (octets_in (b ∷ [])) (octets_caused (b ∷ [])))
octets_caused (a ∷ b ∷ c ∷ text) =
    caused_if (eqb a 37) (pair_in b c >>= λ o. before o (octets_in text)) (before a (octets_in (b ∷ c ∷ text)))
    (caused_then (pair_in b c) (λ o. before o (octets_in text)) (pair_caused b c) (λ o. before_caused o (octets_in text) (octets_caused text)))
    (before_caused a (octets_in (b ∷ c ∷ text)) (octets_caused (b ∷ c ∷ text)))

unpadded_caused : (octets : List ℕ) → IsCaused (unpadded octets)
unpadded_caused octets =
    caused_if (not (is_periods octets)) (Ok octets) (cond (ltb (length octets) 3) (Err BadUri) (Ok (take (length octets - 3) octets))) tt
    (caused_if (ltb (length octets) 3) (Err BadUri) (Ok (take (length octets - 3) octets)) tt tt)

plain_caused : (kind : ℕ) (text : List ℕ) → IsCaused (plain_in kind text)
plain_caused kind text =
    caused_then (octets_in text) (λ octets. unpadded octets >>= λ value. component_of (kind, value)) (octets_caused text)
    (λ octets. caused_then (unpadded octets) (λ value. component_of (kind, value)) (unpadded_caused octets) (λ value. field_caused (kind, value)))

number_caused : (text : List ℕ) → IsCaused (number_in text)
number_caused text =
    caused_if (all_ascii_digits text && (ltb 0 (length text) && ltb (digits_value 10 text) (2 ^ 64))) (Ok (digits_value 10 text)) (Err BadUri) tt tt

type_caused : (type_name : List ℕ) → IsCaused (type_in type_name)
type_caused type_name =
    caused_then (number_in type_name)
    (λ kind. cond ((eqb kind 0) || (ltb 65535 kind || not (bytes_eq type_name (decimal kind)))) (Err BadUri) (Ok kind)) (number_caused type_name)
    (λ kind. caused_if ((eqb kind 0) || (ltb 65535 kind || not (bytes_eq type_name (decimal kind)))) (Err BadUri) (Ok kind) tt tt)

digest_caused : (kind : ℕ) (text : List ℕ) → IsCaused (digest_in kind text)
digest_caused kind text =
    caused_if (eqb (length text) 64) (hex_in text >>= λ octets. Ok (kind, octets)) (Err BadUri)
    (caused_then (hex_in text) (λ octets. Ok (kind, octets)) (hex_caused text) (λ octets. tt)) tt

numbered_caused : (kind : ℕ) (text : List ℕ) → IsCaused (numbered_in kind text)
numbered_caused kind text = caused_then (number_in text) (λ n. Ok (kind, shortest_nni n)) (number_caused text) (λ n. tt)

typed_caused : (type_name text : List ℕ) (kind : Option ℕ) → IsCaused (typed_in type_name text kind)
typed_caused type_name text (Some kind) = caused_if (leb kind 2) (digest_in kind text) (numbered_in kind text) (digest_caused kind text) (numbered_caused kind text)
typed_caused type_name text None = caused_then (type_in type_name) (λ kind. plain_in kind text) (type_caused type_name) (λ kind. plain_caused kind text)

cut_caused : (piece : List ℕ) (parts : Option (List ℕ × List ℕ)) → IsCaused (component_by_cut piece parts)
cut_caused piece None = plain_caused 8 piece
cut_caused piece (Some parts) = typed_caused parts.0 parts.1 (kind_of parts.0)

piece_caused : (piece : List ℕ) → IsCaused (component_in piece)
unfolding component_in
piece_caused piece = cut_caused piece (cut_at 61 piece)

components_caused : (n : ℕ) (pieces : List (List ℕ)) → IsCaused (components_in n pieces)
components_caused n [] = tt
components_caused n (piece ∷ pieces) =
    caused_then (cond (ltb n 64) (component_in piece) (Err TooManyComponents)) (λ c. components_in (n + 1) pieces >>= λ cs. Ok (c ∷ cs))
    (caused_if (ltb n 64) (component_in piece) (Err TooManyComponents) (piece_caused piece) tt)
    (λ c. caused_then (components_in (n + 1) pieces) (λ cs. Ok (c ∷ cs)) (components_caused (n + 1) pieces) (λ cs. tt))

path_caused : (path : List ℕ) → IsCaused (name_in_path path)
path_caused [] = tt
path_caused (o ∷ text) =
    caused_if (eqb o 47) (name_after_slash text) (Err BadUri) (components_caused 0 (cond (bytes_eq text (codes "/")) [] (pieces_of text))) tt

pub name_in-caused : (text : List ℕ) → name_in text ≡ Err Memory → ⊥
unfolding name_in
name_in-caused text e = subst IsCaused e (path_caused (without_scheme text))

pub piece_in-caused : (text : List ℕ) → piece_in text ≡ Err Memory → ⊥
piece_in-caused text e =
    subst IsCaused e (caused_if (list_any (λ o. eqb o 47) text) (Err BadUri) (component_in text) tt (piece_caused text))
