use Rattle.std.proofs.Common.{◌≡◌, ◌≢◌, ℕ, ◌+◌, ◌<◌, true, List, ◌∷◌, inl, length, get_or, take, refl, ap, sym, subst, ◌∙◌}
use Rattle.content_store.specs.Store.{CachedData, IsCachedData, cached_at, full_name_of, without}
use Rattle.content_store.specs.Rows.{Placed, name_at}
use Rattle.lru.specs.LruCache.{LruCache}
use Rattle.content_store.specs.Uses.{IsHeld, cached_in}
use Rattle.content_store.proofs.Changes.{held_put}
use Rattle.content_store.proofs.Fresh.{rising_insert, is_there, none_named, none_without}
use Rattle.content_store.proofs.Least.{is_cached_at}
use Rattle.content_store.proofs.Promotes.{stands_at}
use Rattle.std.specs.List.{Contains}
use Rattle.std.proofs.lemmas.List.Elements.{All-contains}
use Rattle.content_store.proofs.Losses.{cached_is_data}
use Rattle.content_store.proofs.Renewed.{held_none, held_same}
use Rattle.content_store.proofs.store.put_data.Goals as goal
use Rattle.content_store.proofs.store.put_data.Goals.{Else-is_full, Else-not-put_new, After-put_same}

-- ---- if the search does not find the full name of the packet, no cached Data has this full name

other : (c : Else-is_full) → (d : Placed) → c.place_for-at.result < length c.args.rows.now
    → name_at (get_or c.args.rows.now c.place_for-at.result d) ≢ full_name_of (cached_at c.args.packet.now c.args.arrival)
other c = λ d lt same. c.is_full.ensures.no c.if-is_full.false d lt same

-- if the search does not find the full name of the packet, no cached Data has this full name
absent : (c : Else-is_full) → (d : CachedData) → Contains (cached_in c.args.rows.now c.args.used.now.entries) d → full_name_of d ≢ full_name_of (cached_at c.args.packet.now c.args.arrival)
absent c d held =
    let name = full_name_of (cached_at c.args.packet.now c.args.arrival) in
    All-contains (λ d. full_name_of d ≢ name) (cached_in c.args.rows.now c.args.used.now.entries) d
    (none_named c.args.rows.now c.place_for-at.result name c.requires.sound.valid.rising c.place_for-at.ensures (other c) c.args.used.now.entries c.args.next.now c.requires.sound) held

pub returns-then-is_full-clause-same : goal.returns-then-is_full-clause-same
returns-then-is_full-clause-same c =
    let yes = c.is_full.ensures.yes c.if-is_full.true in
    let r = stands_at c.args.rows.now c.place_for-at.result yes.0 in
    λ d held named octets.
    let there : d ≡ r.0.1.entry =
    is_there c.args.rows.now c.args.used.now.entries c.args.next.now c.place_for-at.result r.0 c.requires.sound yes.0 (r.1 r.0) d held (named ∙ sym (yes.1 r.0) ∙ ap name_at (r.1 r.0)) in
    c.put_same.ensures.same r.0 (ap (λ (x : Placed). x.1.entry.octets) (r.1 r.0) ∙ ap (λ (e : CachedData). e.octets) (sym there) ∙ octets)

-- the Data at the position that the search found is cached, so its full name is not new
pub returns-then-is_full-clause-new : goal.returns-then-is_full-clause-new
returns-then-is_full-clause-new c =
    let yes = c.is_full.ensures.yes c.if-is_full.true in
    let r = stands_at c.args.rows.now c.place_for-at.result yes.0 in
    λ t none. absurd (All-contains (λ d. full_name_of d ≢ full_name_of (cached_at c.args.packet.now c.args.arrival)) (cached_in c.args.rows.now c.args.used.now.entries) r.0.1.entry none
    (is_cached_at c.args.rows.now c.args.used.now.entries c.args.next.now c.requires.sound c.place_for-at.result r.0 yes.0 (r.1 r.0)) (ap name_at (sym (r.1 r.0)) ∙ yes.1 r.0))

pub returns-then-is_last-clause-same : goal.returns-then-is_last-clause-same
returns-then-is_last-clause-same c = λ d held named octets. absurd (absent (goal.at.returns-then-is_last-clause-same c).Else-is_full d held named)

pub returns-in_default-clause-same : goal.returns-in_default-clause-same
returns-in_default-clause-same c = λ d held named octets. absurd (absent (goal.at.returns-in_default-clause-same c).Else-is_full d held named)

pub returns-then-not-put_new-clause-same : goal.returns-then-not-put_new-clause-same
returns-then-not-put_new-clause-same c = λ d held named octets. absurd (absent (goal.at.returns-then-not-put_new-clause-same c).Else-is_full d held named)

pub returns-then-is_last-clause-known : goal.returns-then-is_last-clause-known
returns-then-is_last-clause-known c = λ d held named. absurd (absent (goal.at.returns-then-is_last-clause-known c).Else-is_full d held named)

pub returns-clause-known : goal.returns-clause-known
returns-clause-known c = λ d held named. absurd (absent (goal.at.returns-clause-known c).Else-is_full d held named)

-- ---- the case that all serial numbers are used up

pub returns-then-is_last-clause-held : goal.returns-then-is_last-clause-held
returns-then-is_last-clause-held c = (held_none c.args.rows.now _ c.args.used.now _ c.args.used.now.cap c.args.next.now c.requires c.clear.ensures c.clear-then-is_last.ensures).0

-- ---- the case that a Data with the full name is cached

abbrev renewed_list : After-put_same → List CachedData
renewed_list c =
    let entry = cached_at c.args.packet.now c.args.arrival in
    take c.args.used.now.cap (entry ∷ without (full_name_of entry) (cached_in c.args.rows.now c.args.used.now.entries))

same : (c : After-put_same) → IsHeld c.put_same.new.rows c.put_same.new.used c.args.used.now.cap c.args.next.now
    × (c.put_same.result ≡ true → cached_in c.put_same.new.rows c.put_same.new.used.entries ≡ renewed_list c)
same c =
    let yes = c.is_full.ensures.yes c.if-is_full.true in
    let all = held_same c.put_same.result c.args.rows.now c.put_same.new.rows c.args.used.now c.put_same.new.used c.args.used.now.cap c.args.next.now c.place_for-at.result
    (cached_at c.args.packet.now c.args.arrival) c.requires (cached_is_data c.args.packet.now c.args.arrival) yes.0 yes.1 c.put_same.ensures.ok c.put_same.ensures.refused in
    (all.0, all.1)

pub returns-then-is_full-clause-held : goal.returns-then-is_full-clause-held
returns-then-is_full-clause-held c = (same (goal.at.returns-then-is_full-clause-held c).After-put_same).0

pub returns-then-is_full-clause-ok : goal.returns-then-is_full-clause-ok
returns-then-is_full-clause-ok c = (same (goal.at.returns-then-is_full-clause-ok c).After-put_same).1

pub returns-then-is_full-clause-refused : goal.returns-then-is_full-clause-refused
returns-then-is_full-clause-refused c = λ f. (let s = c.put_same.ensures.refused f in inl (s.0, s.1, refl))

-- ---- the case that no cached Data has the full name

pub put_new-requires-clause-fits : goal.put_new-requires-clause-fits
put_new-requires-clause-fits c =
    let b = (goal.at.put_new-requires-clause-fits c).Else-is_full in
    λ p. rising_insert c.args.rows.now c.place_for-at.result (full_name_of (cached_at c.args.packet.now c.args.arrival)) c.requires.sound.valid.rising c.place_for-at.ensures (other b) p
    (record { entry = c.in-Ok.entry; serial = c.args.next.now }) (ap full_name_of c.in-Ok.ensures)

pub returns-then-not-put_new-clause-held : goal.returns-then-not-put_new-clause-held
returns-then-not-put_new-clause-held c =
    let same = c.put_new.ensures.refused c.if-not-put_new.true in
    subst (λ (rs : List Placed). IsHeld rs c.put_new.new.used c.args.used.now.cap c.args.next.now) (sym same.0)
    (subst (λ (u : LruCache ℕ ℕ). IsHeld c.args.rows.now u c.args.used.now.cap c.args.next.now) (sym same.1) c.requires)

put : (c : Else-not-put_new) → IsHeld c.put_new.new.rows c.put_new.new.used c.args.used.now.cap (c.args.next.now + 1)
    × (cached_in c.put_new.new.rows c.put_new.new.used.entries ≡ take c.args.used.now.cap (c.in-Ok.entry ∷ cached_in c.args.rows.now c.args.used.now.entries))
put c =
    held_put c.args.rows.now c.put_new.new.rows c.args.used.now c.put_new.new.used c.args.used.now.cap c.place_for-at.result (record { entry = c.in-Ok.entry; serial = c.args.next.now })
    c.requires (subst IsCachedData (sym c.in-Ok.ensures) (cached_is_data c.args.packet.now c.args.arrival)) c.place_for-at.ensures.within (c.put_new.ensures.ok c.if-not-put_new.false)

pub returns-clause-held : goal.returns-clause-held
returns-clause-held c = (put (goal.at.returns-clause-held c).Else-not-put_new).0

pub returns-clause-ok : goal.returns-clause-ok
returns-clause-ok c =
    let b = (goal.at.returns-clause-ok c).Else-not-put_new in
    let e = (goal.at.returns-clause-ok c).Else-is_full in
    let entry = cached_at c.args.packet.now c.args.arrival in
    let none = none_without c.args.rows.now c.place_for-at.result (full_name_of entry) c.requires.sound.valid.rising c.place_for-at.ensures (other e) c.args.used.now.entries c.args.next.now c.requires.sound in
    λ _. (put b).1 ∙ (λ k. take c.args.used.now.cap (c.in-Ok.ensures k ∷ sym none k))
