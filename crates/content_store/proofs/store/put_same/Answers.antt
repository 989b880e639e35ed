use Rattle.std.proofs.Common.{◌≡◌, Bool, true, false, not, get_or, refl, ap, sym, ◌∙◌}
use Rattle.std.specs.Prelude.{nat_eq}
use Rattle.std.specs.Map.{set_value}
use Rattle.std.proofs.lemmas.Slice.Eq.{slice_eq-Decides}
use Rattle.std.proofs.lemmas.Bool.Decides.{Decides-eqb}
use Rattle.lru.specs.LruCache.{lru_cache, promoted}
use Rattle.sha2.specs.Sha256.{sha256}
use Rattle.ndn_names.specs.View.{components}
use Rattle.content_store.specs.declared.rows.Row.{Row}
use Rattle.content_store.specs.Store.{CachedData, cached_at}
use Rattle.content_store.specs.Rows.{Placed}
use Rattle.content_store.proofs.FullNames.{full_parts}
use Rattle.content_store.proofs.store.put_same.Goals as goal

not_false : (b : Bool) → false ≡ not b → b ≡ true
not_false true e = refl
not_false false e = absurd cc

pub returns-clause-ok : goal.returns-clause-ok
returns-clause-ok c =
    let packet = c.args.packet.now in
    let rows = c.args.rows.now in
    let octets = (slice_eq-Decides Decides-eqb _ _ _ refl).0 (not_false _ (c.if-ne.ensures)) in
    let entry_is : (d : Placed) → record (get_or rows c.args.at d).1.entry { freshness = packet.freshness; arrival = c.args.arrival } ≡ cached_at packet c.args.arrival =
    λ d. let parts = full_parts (get_or rows c.args.at d).1.entry.name (components packet.name) (get_or rows c.args.at d).1.entry.digest (sha256 packet.whole.now) (c.requires.named d) in
    let same = ap (λ (r : Row). r.entry.octets) (c.row-row.ensures d) ∙ sym c.octets.ensures.exact ∙ octets in
    λ k. record { name = parts.0 k; digest = parts.1 k; octets = same k; freshness = packet.freshness; arrival = c.args.arrival } in
    λ _. record {
      rows_are = λ d. c.renew.ensures.rows d ∙ ap (λ (e : CachedData). set_value (nat_eq (get_or rows c.args.at d).0) rows (record { entry = e; serial = (get_or rows c.args.at d).1.serial })) (entry_is d);
      uses = λ d. c.promote.ensures.entries ∙ ap (λ (r : Row). lru_cache (promoted (nat_eq r.serial) c.args.used.now.entries) c.args.used.now.cap) (sym (c.row-row.ensures d));
      valid = c.renew.ensures.valid;
    }
