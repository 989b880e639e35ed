use Rattle.std.proofs.lemmas.Grind.{common_steps}
use Rattle.std.proofs.Common.{arith, rules, ◌∙◌, sym, append-nil, ap, ◌++◌, List, ℕ}
use Rattle.ndn_packets.specs.Writing.{meta_fields}
use Rattle.ndn_packets.proofs.DataWriting.{meta_absent}
use Rattle.ndn_packets.proofs.data_writer.DataWriter.put_meta.Goals as goal

pub returns-then-len-eq0 : goal.returns-then-len-eq0
returns-then-len-eq0 c = record {
  ok =
      let writer = c.args.self.now in
      let old = c.args.out.now.items in
      sym (append-nil old) ∙ ap (λ (x : List ℕ). old ++ x) (sym (meta_absent (meta_fields writer.freshness writer.last) (sym c.meta_len-len.ensures.exact ∙ c.if-len-eq0.true)));
  begins = grind (arith, common_steps);
  room = search rules;
  capacity = search rules;
}
