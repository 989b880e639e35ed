use Rattle.std.proofs.Common.{◌≡◌, inl, inr, ap, sym, ◌∙◌}
use Rattle.std.specs.Prelude.{Some, None}
use Rattle.ndn_packets.specs.Key.{plain_key}
use Rattle.pit_fib.specs.Prepared.{calls_of}
use Rattle.pit_fib.proofs.Preparations.{are_sendings, not_sendings, some_left}
use Rattle.pit_fib.proofs.prepared.after_sending.Goals as goal
use Rattle.pit_fib.proofs.prepared.after_sending.Goals.{else-is_none-via-then-is_none+else-is, else-is_none-via-else-is_none}

pub returns-then-is-clause-ended : goal.returns-then-is-clause-ended
returns-then-is-clause-ended c = λ h.
    let p = c.in_ok-prepared.prepared in
    absurd (h (ap calls_of c.in_ok-prepared.was ∙ are_sendings p (plain_key c.args.key) c.is_none.result c.is_none.ensures c.if-is_none.true (sym c.is.ensures ∙ c.if-is.true)))

pub returns-else-is_none-clause-next : goal.returns-else-is_none-clause-next
returns-else-is_none-clause-next c = λ e.
    let p = c.in_ok-prepared.prepared in
    let mine : calls_of (Some p) ≡ Some (plain_key c.args.key, None) = sym (ap calls_of c.in_ok-prepared.was) ∙ e in
    elim c.else-is_none.branch [
      | else-is_none-via-then-is_none+else-is w ↦ absurd (not_sendings p (plain_key c.args.key) (inr (sym w.is.ensures ∙ w.if-is.false)) mine)
      | else-is_none-via-else-is_none w ↦ absurd (not_sendings p (plain_key c.args.key) (inl (some_left p.arrival c.is_none.result c.is_none.ensures w.if-is_none.false)) mine)
    ]

pub returns-then-is-clause-either : goal.returns-then-is-clause-either
returns-then-is-clause-either c =
    let p = c.in_ok-prepared.prepared in
    let mine = are_sendings p (plain_key c.args.key) c.is_none.result c.is_none.ensures c.if-is_none.true (sym c.is.ensures ∙ c.if-is.true) in
    inr (ap calls_of c.in_ok-prepared.was ∙ mine, mine)
