use Rattle.std.proofs.Common.{drop, length, sym, ap, subst, ◌∙◌}
use Rattle.std.specs.Prelude.{◌&&◌, ◌||◌}
use Rattle.std.proofs.lemmas.Bool.Decides.{same_from_decides}
use Rattle.sha2.proofs.Facts256.{length-sha256}
use Rattle.ndn_names.specs.Name.{IsNameValue}
use Rattle.ndn_names.specs.View.{components}
use Rattle.ndn_packets.specs.Answers.{begins_with}
use Rattle.ndn_packets.specs.FullName.{starts_small}
use Rattle.ndn_packets.proofs.Answering.{prefix_is}
use Rattle.content_store.specs.Store.{CachedData, full_name_of}
use Rattle.content_store.proofs.FullNames.{near_none, near_some}
use Rattle.content_store.proofs.entry.Entry.is_near.Goals as goal

pub returns-then-not-is_under : goal.returns-then-not-is_under
returns-then-not-is_under c =
    let name = components c.args.key.name in
    let full = full_name_of c.args.self.now in
    let begins = same_from_decides c.is_under.result (begins_with name full) c.is_under.ensures (prefix_is name full) in
    sym (ap (λ b. b && (c.args.key.can_be_prefix || starts_small (drop (length name) full))) (sym begins ∙ c.if-not-is_under.true))

pub returns-then-key : goal.returns-then-key
returns-then-key c =
    let name = components c.args.key.name in
    let full = full_name_of c.args.self.now in
    let begins = sym (same_from_decides c.is_under.result (begins_with name full) c.is_under.ensures (prefix_is name full)) ∙ c.if-not-is_under.false in
    let flag = c.if-key.true in
    sym (λ k. begins k && (flag k || starts_small (drop (length name) full)))

pub returns-in-Some : goal.returns-in-Some
returns-in-Some c =
    let found = c.in-Some.ensures.lookup in
    let name = c.view.ensures ∙ ap (λ (d : CachedData). d.name) c.self.view_is in
    let digest = ap (λ (d : CachedData). d.digest) (sym c.self.view_is) in
    near_some c.as_octets.result.now c.as_octets-2.result.now c.args.self.now.name (components c.args.key.name) c.args.self.now.digest c.args.key.can_be_prefix
    (subst (IsNameValue c.as_octets.result.now) name c.as_octets.ensures) c.as_octets-2.ensures (ap length digest ∙ length-sha256 c.self.inside.octets.items)
    (c.is_under.ensures.0 c.if-not-is_under.false) c.if-key.false c.in-Some.kind.now found.3.0 found.1

pub returns-in-None : goal.returns-in-None
returns-in-None c =
    let found = c.in-None.ensures.lookup in
    let name = c.view.ensures ∙ ap (λ (d : CachedData). d.name) c.self.view_is in
    let digest = ap (λ (d : CachedData). d.digest) (sym c.self.view_is) in
    near_none c.as_octets.result.now c.as_octets-2.result.now c.args.self.now.name (components c.args.key.name) c.args.self.now.digest c.args.key.can_be_prefix
    (subst (IsNameValue c.as_octets.result.now) name c.as_octets.ensures) c.as_octets-2.ensures (ap length digest ∙ length-sha256 c.self.inside.octets.items)
    (c.is_under.ensures.0 c.if-not-is_under.false) c.if-key.false found.3
