use Rattle.sha2.specs.Sha256.{sha256}
use Rattle.ndn_names.specs.View.{components}
use Rattle.ndn_packets.specs.Answers.{full_name}
use Rattle.content_store.specs.Store.{full_name_of}
use Rattle.std.proofs.Common.{◌≡◌, ◌<◌, List, length, get_or, ap, refl, sym, subst, ◌∙◌}
use Rattle.std.specs.Prelude.{IsSome, nat_eq}
use Rattle.std.specs.Map.{lookup}
use Rattle.ndn_tlv.specs.Element.{Field}
use Rattle.slab.specs.Slab.{get}
use Rattle.content_store.specs.declared.rows.Row.{Row}
use Rattle.content_store.specs.Rows.{shown, IsLower}
use Rattle.content_store.proofs.Shown.{some_is}
use Rattle.std.proofs.lemmas.Option.{same_Some}
use Rattle.content_store.proofs.Edits.{lookup_shown, own_place}
use Rattle.content_store.proofs.rows.index_of.Goals as goal
use Rattle.content_store.proofs.rows.index_of.Goals.{After-lower_bound}

pub index-requires : goal.index-requires
index-requires c =
    let r = some_is (lookup (nat_eq c.args.place) (shown (get c.args.entries.now) c.args.order.now)) c.requires.there in
    let at = lookup_shown (get c.args.entries.now) c.args.order.now c.args.place r.0 r.1 in
    subst IsSome (sym at) refl

ends : (c : After-lower_bound) → (c.lower_bound.result < length c.args.order.now) × (get_or c.args.order.now c.lower_bound.result 0 ≡ c.args.place)
ends c =
    let r = some_is (lookup (nat_eq c.args.place) (shown (get c.args.entries.now) c.args.order.now)) c.requires.there in
    let at = lookup_shown (get c.args.entries.now) c.args.order.now c.args.place r.0 r.1 in
    let one : c.index.result.now ≡ r.0 = same_Some c.index.result.now r.0 (sym c.index.ensures ∙ at) in
    let name : full_name (components c.name.result) (sha256 c.octets.result.now) ≡ full_name_of r.0.entry =
    (λ k. full_name (c.name.ensures k) (sym c.octets.ensures.digest k)) ∙ ap (λ (x : Row). full_name_of x.entry) one in
    own_place (get c.args.entries.now) c.args.order.now c.args.place c.lower_bound.result r.0 c.requires.rows r.1
    (subst (λ (n : List Field). IsLower n (shown (get c.args.entries.now) c.args.order.now) c.lower_bound.result) name c.lower_bound.ensures.lower)

pub returns-clause-within : goal.returns-clause-within
returns-clause-within c = (ends c).0

pub returns-clause-found : goal.returns-clause-found
returns-clause-found c = (ends c).1
