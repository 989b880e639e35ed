-- The result of checking an ECDSA signature.
use Rattle.std.proofs.Common.{ℕ, List}
use Rattle.ndn_tlv.specs.Element.{Field}
use Rattle.key_files.specs.declared.key.Key.TheVariants as keys
use Rattle.key_files.specs.KeyFile.{NamedKey, IsAmong}
use Rattle.ndn_explain.specs.declared.tag_check.TagCheck.{TagCheck}
use Rattle.ndn_explain.specs.declared.tag_check.TagCheck.TheVariants.{Right, Wrong, UnknownKey, Unchecked}
use Rattle.ndn_explain.specs.TagCheck.{IsEcdsaValueCheck, IsNamedEcdsaCheck}

-- the result under the public key of this name
pub by_key : (name : List Field) (book : List NamedKey) (value octets key : List ℕ) (check : TagCheck) → IsAmong (name, keys.Ecdsa key) book → IsEcdsaValueCheck key value octets check
    → IsNamedEcdsaCheck name book value octets check
by_key name book value octets key Right among h = (key, among, h)
by_key name book value octets key Wrong among h = (key, among, h)
by_key name book value octets key UnknownKey among h = absurd h
by_key name book value octets key Unchecked among h = absurd h
