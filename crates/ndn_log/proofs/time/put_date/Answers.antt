use Rattle.std.proofs.Common.{◌≡◌, ap, ◌∙◌, false, Some, rules}
use Rattle.ndn_log.proofs.time.put_date.Goals as goal

pub returns : goal.returns
returns c =
    let (shown, nanoseconds, text) = c.timestamp_text-date.ensures in
    let set = c.precision-printer.ensures in
    let made = c.new.ensures in
    let lowercase : c.precision-printer.result.lowercase ≡ false = ap (λ o. o.0) set ∙ ap (λ o. o.0) made in
    let separator : c.precision-printer.result.separator ≡ 84 = ap (λ o. o.1) set ∙ ap (λ o. o.1) made in
    let precision : c.precision-printer.result.precision ≡ Some 3 = ap (λ o. o.2) set in
    let plain = rw (lowercase, separator, precision) at text in
    (c.timestamp_text-date.result.bytes, (shown, nanoseconds ∙ ap (λ t. t.nanosecond) c.to_plain.ensures, plain), search rules)
