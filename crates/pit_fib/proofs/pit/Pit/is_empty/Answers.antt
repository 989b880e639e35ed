use Rattle.std.proofs.Common.{sym, ap, ◌∙◌}
use Rattle.std.specs.FinMap.{len, len-empty, empty_of_len}
use Rattle.std.proofs.lemmas.Bool.{eqb-true, eq-eqb}
use Rattle.ndn_packets.specs.Key.{key_cmp}
use Rattle.pit_fib.specs.Records.{Records, Pending}
use Rattle.pit_fib.proofs.pit.Pit.is_empty.Goals as goal

pub returns : goal.returns
returns c = (
  λ yes. empty_of_len c.args.self.now.pending (sym c.len.ensures.exact ∙ eqb-true c.len.result 0 yes),
  λ none. eq-eqb c.len.result 0 (c.len.ensures.exact ∙ ap (λ (p : Pending). len p) none ∙ len-empty key_cmp Records),
)
