use Rattle.std.proofs.Common.{◌≡◌, ap, sym, subst, ◌∙◌}
use Rattle.ndn_names.specs.View.{components}
use Rattle.key_files.specs.declared.key.Key.{Key}
use Rattle.key_files.specs.declared.key.Key.TheVariants as keys
use Rattle.key_files.specs.KeyFile.{AreApart, IsAmong}
use Rattle.key_files.specs.Shown.{named_keys}
use Rattle.key_files.proofs.Books.{no_public}
use Rattle.key_files.proofs.key_book.KeyBook.find_ecdsa.Goals as goal

pub returns-in-Some-Hmac : goal.returns-in-Some-Hmac
returns-in-Some-Hmac c =
    let shown : named_keys c.deref.result.now ≡ c.args.self.now = ap named_keys c.deref.ensures.value ∙ c.self.view_is in
    let secret = subst (λ (key : Key). IsAmong (components c.args.name, key) (named_keys c.deref.result.now)) c.in-Some-Hmac.field-0-is (c.in-Some-Hmac.ensures) in
    no_public c.args.self.now (components c.args.name) c.in-Some-Hmac.field-0-0 (subst AreApart c.self.view_is c.self.invariant.0)
    (subst (IsAmong (components c.args.name, keys.Hmac c.in-Some-Hmac.field-0-0)) shown secret)

pub returns-in-None : goal.returns-in-None
returns-in-None c =
    let shown : named_keys c.deref.result.now ≡ c.args.self.now = ap named_keys c.deref.ensures.value ∙ c.self.view_is in
    λ octets here. c.in-None.ensures (keys.Ecdsa octets) (subst (IsAmong (components c.args.name, keys.Ecdsa octets)) (sym shown) here)
