use Rattle.std.proofs.Common.{◌≡◌, ap, sym, subst, ◌∙◌}
use Rattle.ndn_names.specs.View.{components}
use Rattle.key_files.specs.declared.key.Key.{Key}
use Rattle.key_files.specs.declared.key.Key.TheVariants as keys
use Rattle.key_files.specs.KeyFile.{AreApart, IsAmong}
use Rattle.key_files.specs.Shown.{named_keys}
use Rattle.key_files.proofs.Books.{no_secret}
use Rattle.key_files.proofs.key_book.KeyBook.find.Goals as goal

pub returns-in-Some-Ecdsa : goal.returns-in-Some-Ecdsa
returns-in-Some-Ecdsa c =
    let shown : named_keys c.deref.result.now ≡ c.args.self.now = ap named_keys c.deref.ensures.value ∙ c.self.view_is in
    let public = subst (λ (key : Key). IsAmong (components c.args.name, key) (named_keys c.deref.result.now)) c.in-Some-Ecdsa.field-0-is (c.in-Some-Ecdsa.ensures) in
    no_secret c.args.self.now (components c.args.name) c.in-Some-Ecdsa.field-0-0 (subst AreApart c.self.view_is c.self.invariant.0)
    (subst (IsAmong (components c.args.name, keys.Ecdsa c.in-Some-Ecdsa.field-0-0)) shown public)

pub returns-in-None : goal.returns-in-None
returns-in-None c =
    let shown : named_keys c.deref.result.now ≡ c.args.self.now = ap named_keys c.deref.ensures.value ∙ c.self.view_is in
    λ octets here. c.in-None.ensures (keys.Hmac octets) (subst (IsAmong (components c.args.name, keys.Hmac octets)) (sym shown) here)
