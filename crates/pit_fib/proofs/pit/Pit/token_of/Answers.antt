use Rattle.std.proofs.Common.{List, ℕ, sym, ap, ◌∙◌, Bor}
use Rattle.std.specs.Prelude.{Option}
use Rattle.std.specs.Option.{option_map, option_and_then}
use Rattle.std.specs.Ordering.{nat_cmp}
use Rattle.std.specs.FinMap.{get, get-empty}
use Rattle.ndn_packets.specs.Key.{plain_key}
use Rattle.pit_fib.specs.Records.{InRecord, Records}
use Rattle.pit_fib.specs.Pit.{PitState}
use Rattle.pit_fib.proofs.KeptTables.{seen_here, seen_nothing}
use Rattle.pit_fib.proofs.pit.Pit.token_of.Goals as goal

pub returns-in_err-entry_of-clause-token : goal.returns-in_err-entry_of-clause-token
returns-in_err-entry_of-clause-token c =
    ap (λ (o : Option (Bor (List ℕ))). option_map (λ x. x.now) o) c.from_residual.ensures
    ∙ ap (λ (o : Option InRecord). option_and_then (λ in_record. in_record.token) o) (sym (get-empty nat_cmp c.args.face))
    ∙ ap (λ (r : Records). option_and_then (λ (in_record : InRecord). in_record.token) (get r.in_records c.args.face)) (sym (seen_nothing c.self.inside.rows.table c.args.self.now.pending (plain_key c.args.key) c.entry_of.result (ap (λ (s : PitState). s.pending) c.self.view_is) c.entry_of.ensures c.in_err-entry_of.was))

pub returns-clause-token : goal.returns-clause-token
returns-clause-token c =
    c.token_of.ensures.token
    ∙ ap (λ (r : Records). option_and_then (λ (in_record : InRecord). in_record.token) (get r.in_records c.args.face)) (sym (seen_here c.self.inside.rows.table c.args.self.now.pending (plain_key c.args.key) c.entry_of.result c.in_ok-entry_of.field-0 (ap (λ (s : PitState). s.pending) c.self.view_is) c.entry_of.ensures c.in_ok-entry_of.was))
