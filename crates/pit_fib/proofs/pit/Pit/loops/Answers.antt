use Rattle.std.proofs.Common.{◌≡◌, List, ap, sym, ◌∙◌, ℕ, false, not, eqb}
use Rattle.std.specs.Prelude.{Option, ◌&&◌, ◌||◌}
use Rattle.std.specs.List.{list_any}
use Rattle.std.specs.Ordering.{nat_cmp}
use Rattle.std.specs.FinMap.{get-empty, empty, entries}
use Rattle.ndn_names.proofs.Rows.{no_entries}
use Rattle.ndn_packets.specs.Key.{plain_key}
use Rattle.pit_fib.specs.Records.{InRecord, OutRecord, no_records, same_nonce}
use Rattle.pit_fib.specs.Pit.{PitState, loops, asks_with}
use Rattle.pit_fib.proofs.KeptTables.{seen_here, seen_nothing}
use Rattle.pit_fib.proofs.pit.Pit.loops.Goals as goal

loops_nowhere : (face : ℕ) (nonce : List ℕ) → loops no_records face nonce ≡ false
loops_nowhere face nonce =
    let others = λ (e : ℕ × InRecord). not (eqb e.0 face) && same_nonce e.1.nonce nonce in
    let out_records = λ (e : ℕ × OutRecord). same_nonce e.1.nonce nonce in
    ap (λ (o : Option InRecord). not (asks_with o nonce) && (list_any others (entries (empty {R = nat_cmp})) || list_any out_records (entries (empty {R = nat_cmp})))) (get-empty nat_cmp face)
    ∙ ap (λ l. list_any others l || list_any out_records (entries (empty {R = nat_cmp}))) (no_entries nat_cmp) ∙ ap (λ l. list_any out_records l) (no_entries nat_cmp)

pub returns-in-Some : goal.returns-in-Some
returns-in-Some c =
    c.loops.ensures
    ∙ ap (λ r. loops r c.args.face c.args.nonce) (sym (seen_here c.self.inside.rows.table c.args.self.now.pending (plain_key c.args.key) c.entry_of.result c.in-Some.entry (ap (λ (s : PitState). s.pending) c.self.view_is) c.entry_of.ensures c.in-Some.is))

pub returns-in-None : goal.returns-in-None
returns-in-None c =
    sym (loops_nowhere c.args.face c.args.nonce)
    ∙ ap (λ r. loops r c.args.face c.args.nonce) (sym (seen_nothing c.self.inside.rows.table c.args.self.now.pending (plain_key c.args.key) c.entry_of.result (ap (λ (s : PitState). s.pending) c.self.view_is) c.entry_of.ensures c.in-None.is))
