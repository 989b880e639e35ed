use Rattle.std.proofs.Common.{List, ℕ, sym, ap, ◌∙◌, Bor}
use Rattle.std.specs.Prelude.{Option}
use Rattle.std.specs.Option.{option_map}
use Rattle.std.specs.Ordering.{nat_cmp}
use Rattle.std.specs.FinMap.{get, get-empty}
use Rattle.ndn_packets.specs.Key.{plain_key}
use Rattle.pit_fib.specs.Records.{InRecord, Records}
use Rattle.pit_fib.specs.Pit.{PitState}
use Rattle.pit_fib.proofs.KeptTables.{seen_here, seen_nothing}
use Rattle.pit_fib.proofs.pit.Pit.interest_of.Goals as goal

pub returns-in_err-entry_of : goal.returns-in_err-entry_of
returns-in_err-entry_of c =
    ap (λ (o : Option (Bor (List ℕ))). option_map (λ x. x.now) o) c.from_residual.ensures
    ∙ ap (λ (o : Option InRecord). option_map (λ in_record. in_record.interest) o) (sym (get-empty nat_cmp c.args.face))
    ∙ ap (λ (r : Records). option_map (λ (in_record : InRecord). in_record.interest) (get r.in_records c.args.face)) (sym (seen_nothing c.self.inside.rows.table c.args.self.now.pending (plain_key c.args.key) c.entry_of.result (ap (λ (s : PitState). s.pending) c.self.view_is) c.entry_of.ensures c.in_err-entry_of.was))

pub returns : goal.returns
returns c =
    c.interest_of.ensures
    ∙ ap (λ (r : Records). option_map (λ (in_record : InRecord). in_record.interest) (get r.in_records c.args.face)) (sym (seen_here c.self.inside.rows.table c.args.self.now.pending (plain_key c.args.key) c.entry_of.result c.in_ok-entry_of.field-0 (ap (λ (s : PitState). s.pending) c.self.view_is) c.entry_of.ensures c.in_ok-entry_of.was))
