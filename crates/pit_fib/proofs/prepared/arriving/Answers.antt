use Rattle.std.proofs.Common.{◌≡◌, inl, inr, ap, sym, ◌∙◌}
use Rattle.std.specs.Prelude.{Some}
use Rattle.ndn_packets.specs.Key.{plain_key}
use Rattle.pit_fib.specs.Prepared.{calls_of}
use Rattle.pit_fib.proofs.Preparations.{is_arrival, not_arrival, none_left, some_left}
use Rattle.pit_fib.proofs.prepared.arriving.Goals as goal
use Rattle.pit_fib.proofs.prepared.arriving.Goals.{then-is_none-via-then-is_none, then-is_none-via-else-is_none+then-not-is}

pub returns-then-is_none-clause-next : goal.returns-then-is_none-clause-next
returns-then-is_none-clause-next c = λ room e.
    let p = c.in-Some.field-0 in
    let key = plain_key c.args.key in
    let mine : calls_of (Some p) ≡ Some (key, Some room) = sym (ap calls_of c.in-Some.is) ∙ e in
    elim c.then-is_none.branch [
      | then-is_none-via-then-is_none w ↦ absurd (not_arrival p key room (inl (none_left p.arrival c.is_none.result c.is_none.ensures w.if-is_none.true)) mine)
      | then-is_none-via-else-is_none+then-not-is w ↦ absurd (not_arrival p key room (inr (sym w.is.ensures ∙ w.if-not-is.true)) mine)
    ]

pub returns-clause-ended : goal.returns-clause-ended
returns-clause-ended c = λ h.
    let p = c.in-Some.field-0 in
    let key = plain_key c.args.key in
    let is = is_arrival p key (some_left p.arrival c.is_none.result c.is_none.ensures c.if-is_none.false) (sym c.is.ensures ∙ c.if-not-is.false) in
    absurd (h is.0 (ap calls_of c.in-Some.is ∙ is.1))
