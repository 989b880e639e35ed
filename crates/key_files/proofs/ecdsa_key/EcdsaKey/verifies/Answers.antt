use Rattle.std.proofs.Common.{◌≡◌, ◌++◌, List, ℕ, ap, subst, ◌∙◌}
use Rattle.std.specs.Prelude.{◌↔◌, IsTrue}
use Rattle.sha2.specs.Sha256.{sha256}
use Rattle.p256.specs.Key.{x_in, y_in, x_of, y_of}
use Rattle.p256.specs.Octets.{big_endian}
use Rattle.p256.specs.Signature.{IsSigned, r_of, s_of}
use Rattle.key_files.proofs.Signatures.{not_read, read_is}
use Rattle.key_files.proofs.ecdsa_key.EcdsaKey.verifies.Goals as goal

pub returns-in_default : goal.returns-in_default
returns-in_default c =
    not_read c.args.value.now (big_endian (sha256 (c.args.first.now ++ c.args.second.now))) (x_in c.args.self.now) (y_in c.args.self.now)
    (λ r s form. c.in_default.ensures r s form)

pub returns : goal.returns
returns c =
    let text = c.args.first.now ++ c.args.second.now in
    let r = r_of c.in-Some.signature in
    let s = s_of c.in-Some.signature in
    let Holds : ℕ → ℕ → ℕ → Type 0 = λ h x y. IsTrue c.verify.result ↔ IsSigned h r s x y in
    let x : x_of c.self.inside.point ≡ x_in c.args.self.now = c.self.invariant.x_is ∙ ap x_in c.self.view_is in
    let y : y_of c.self.inside.point ≡ y_in c.args.self.now = c.self.invariant.y_is ∙ ap y_in c.self.view_is in
    let hashed : Holds (big_endian (sha256 text)) (x_of c.self.inside.point) (y_of c.self.inside.point) =
    subst (λ (digest : List ℕ). Holds (big_endian digest) (x_of c.self.inside.point) (y_of c.self.inside.point)) c.sha256_of.ensures c.verify.ensures in
    let under_x = subst (λ (k : ℕ). Holds (big_endian (sha256 text)) k (y_of c.self.inside.point)) x hashed in
    let under_key = subst (λ (k : ℕ). Holds (big_endian (sha256 text)) (x_in c.args.self.now) k) y under_x in
    read_is c.args.value.now (big_endian (sha256 text)) (x_in c.args.self.now) (y_in c.args.self.now) r s c.verify.result (c.in-Some.ensures) under_key
