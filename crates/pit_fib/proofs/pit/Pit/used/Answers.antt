use Rattle.std.proofs.Common.{sym, ap, ◌∙◌}
use Rattle.std.specs.Prelude.{Some}
use Rattle.std.specs.Ordering.{nat_cmp}
use Rattle.ndn_packets.specs.Key.{plain_key}
use Rattle.name_trie.proofs.Revised.{revise-empty}
use Rattle.pit_fib.specs.Records.{Records, OutRecord}
use Rattle.pit_fib.specs.Pit.{PitState, moments}
use Rattle.pit_fib.proofs.KeptTables.{seen_here, seen_nothing}
use Rattle.pit_fib.proofs.pit.Pit.used.Goals as goal

pub returns-in-Some : goal.returns-in-Some
returns-in-Some c =
    c.moments.ensures
    ∙ ap (λ (r : Records). moments r.out_records) (sym (seen_here c.self.inside.rows.table c.args.self.now.pending (plain_key c.args.key) c.entry_of.result c.in-Some.entry (ap (λ (s : PitState). s.pending) c.self.view_is) c.entry_of.ensures c.in-Some.is))

pub returns-in-None : goal.returns-in-None
returns-in-None c =
    c.new.ensures ∙ sym (revise-empty nat_cmp (λ (sent : OutRecord). Some sent.moment))
    ∙ ap (λ (r : Records). moments r.out_records) (sym (seen_nothing c.self.inside.rows.table c.args.self.now.pending (plain_key c.args.key) c.entry_of.result (ap (λ (s : PitState). s.pending) c.self.view_is) c.entry_of.ensures c.in-None.is))
