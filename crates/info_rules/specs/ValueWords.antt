-- The values that words stand for.
use Rattle.std.specs.Prelude.{ℕ, List, length, Option, None, Some, Bool, nat_le, bytes_eq, codes, ◌&&◌, ◌||◌, if◌then◌else◌}
use Rattle.std.specs.List.{list_all}
use Rattle.info_rules.specs.declared.rule.Kind.{Kind}
use Rattle.info_rules.specs.declared.rule.Kind.TheVariants.{Data, Interest}
use Rattle.info_rules.specs.declared.rule.Relation.{Relation}
use Rattle.info_rules.specs.declared.rule.Relation.TheVariants.{Equal, IsPrefixOf, IsStrictPrefixOf}
use Rattle.info_rules.specs.declared.value_words.CheckerType.{CheckerType}
use Rattle.info_rules.specs.declared.value_words.CheckerType.TheVariants.{Customized, Hierarchical, Unverified}
use Rattle.info_rules.specs.declared.value_words.SignatureType.{SignatureType}
use Rattle.info_rules.specs.declared.value_words.SignatureType.TheVariants.{HmacSha256, EcdsaSha256, Sha256, RsaSha256}

abbrev pub kind_in : List ℕ → Option Kind
kind_in text =
    if bytes_eq text (codes "data") then Some Data else (
    if bytes_eq text (codes "interest") then Some Interest else None)

abbrev pub relation_in : List ℕ → Option Relation
relation_in text =
    if bytes_eq text (codes "equal") then Some Equal else (
    if bytes_eq text (codes "is-prefix-of") then Some IsPrefixOf else (
    if bytes_eq text (codes "is-strict-prefix-of") then Some IsStrictPrefixOf else None))

abbrev pub checker_type_in : List ℕ → Option CheckerType
checker_type_in text =
    if bytes_eq text (codes "customized") then Some Customized else (
    if bytes_eq text (codes "hierarchical") then Some Hierarchical else (
    if bytes_eq text (codes "unverified") then Some Unverified else None))

abbrev pub signature_type_in : List ℕ → Option SignatureType
signature_type_in text =
    if bytes_eq text (codes "hmac-sha256") then Some HmacSha256 else (
    if bytes_eq text (codes "ecdsa-sha256") then Some EcdsaSha256 else (
    if bytes_eq text (codes "sha256") then Some Sha256 else (
    if bytes_eq text (codes "rsa-sha256") then Some RsaSha256 else None)))

-- whether the text is an id: it has 1 to 100 octets, none of which is below 32
abbrev pub is_id : List ℕ → Bool
is_id text = nat_le 1 (length text) && nat_le (length text) 100 && list_all
    (λ octet. nat_le 32 octet) text

-- the types that a trust anchor may have
abbrev pub is_anchor_type : List ℕ → Bool
is_anchor_type text =
    bytes_eq text (codes "file") || bytes_eq text (codes "dir") || bytes_eq text (codes "base64")
