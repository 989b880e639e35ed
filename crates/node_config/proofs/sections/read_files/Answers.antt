use Rattle.std.proofs.Common.{refl, inl, inr}
use Rattle.std.proofs.lemmas.Result.{err_from_is_err_and}
use Rattle.std.specs.Option.{option_map}
use Rattle.std.proofs.Common.{string_bytes}
use Rattle.node_config.proofs.Readings.{or_memory}
use Rattle.node_config.proofs.sections.read_files.Goals as goal

pub returns-in_err-rules : goal.returns-in_err-rules
returns-in_err-rules c =
    let p = err_from_is_err_and c.from_residual.result c.from_residual.ensures.1 in
    rw (p.1, p.2) (or_memory c.in_err-rules.field-0.0 (λ h. inl (c.in_err-rules.field-0.0, h, refl)) c.in_err-rules.ensures)

pub returns-in_err-keys : goal.returns-in_err-keys
returns-in_err-keys c =
    let p = err_from_is_err_and c.from_residual-in_err-keys.result c.from_residual-in_err-keys.ensures.1 in
    rw (p.1, p.2) (or_memory c.in_err-keys.field-0.0 (λ h. inr (option_map string_bytes c.in_ok-rules.rules, c.in_ok-rules.ensures, inl (c.in_err-keys.field-0.0, h, refl))) c.in_err-keys.ensures)

pub returns-in_err-journal : goal.returns-in_err-journal
returns-in_err-journal c =
    let p = err_from_is_err_and c.from_residual-in_err-journal.result c.from_residual-in_err-journal.ensures.1 in
    rw (p.1, p.2) (or_memory c.in_err-journal.field-0.0 (λ h. inr (option_map string_bytes c.in_ok-rules.rules, c.in_ok-rules.ensures, inr (option_map string_bytes c.in_ok-keys.keys, c.in_ok-keys.ensures, inl (c.in_err-journal.field-0.0, h, refl)))) c.in_err-journal.ensures)

pub returns : goal.returns
returns c = inr (option_map string_bytes c.in_ok-rules.rules, c.in_ok-rules.ensures, inr (option_map string_bytes c.in_ok-keys.keys, c.in_ok-keys.ensures, inr (option_map string_bytes c.in_ok-journal.journal, c.in_ok-journal.ensures, refl)))
