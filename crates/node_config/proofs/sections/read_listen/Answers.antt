use Rattle.std.proofs.Common.{refl, inl, inr}
use Rattle.std.proofs.lemmas.Result.{err_from_is_err_and}
use Rattle.info_rules.specs.Shown.{keys_of}
use Rattle.std.specs.Option.{option_map}
use Rattle.std.proofs.Common.{string_bytes}
use Rattle.node_config.proofs.Readings.{or_memory}
use Rattle.node_config.proofs.sections.read_listen.Goals as goal

pub returns-in_err-keys : goal.returns-in_err-keys
returns-in_err-keys c =
    let p = err_from_is_err_and c.from_residual.result c.from_residual.ensures.1 in
    rw (p.1, p.2) (inl (inl (c.in_err-keys.field-0.0, c.in_err-keys.ensures, refl)))

pub returns-in_err-udp : goal.returns-in_err-udp
returns-in_err-udp c =
    let p = err_from_is_err_and c.from_residual-in_err-udp.result c.from_residual-in_err-udp.ensures.1 in
    rw (p.1, p.2) (inl (inr (keys_of c.in_ok-keys.keys, c.in_ok-keys.ensures, inl (c.in_err-udp.field-0.0, c.in_err-udp.ensures, refl))))

pub returns-in_err-tcp : goal.returns-in_err-tcp
returns-in_err-tcp c =
    let p = err_from_is_err_and c.from_residual-in_err-tcp.result c.from_residual-in_err-tcp.ensures.1 in
    rw (p.1, p.2) (inl (inr (keys_of c.in_ok-keys.keys, c.in_ok-keys.ensures, inr (c.in_ok-udp.udp, c.in_ok-udp.ensures, inl (c.in_err-tcp.field-0.0, c.in_err-tcp.ensures, refl)))))

pub returns-in_err-unix : goal.returns-in_err-unix
returns-in_err-unix c =
    let p = err_from_is_err_and c.from_residual-in_err-unix.result c.from_residual-in_err-unix.ensures.1 in
    rw (p.1, p.2) (or_memory c.in_err-unix.field-0.0 (λ h. inr (keys_of c.in_ok-keys.keys, c.in_ok-keys.ensures, inr (c.in_ok-udp.udp, c.in_ok-udp.ensures, inr (c.in_ok-tcp.tcp, c.in_ok-tcp.ensures, inl (c.in_err-unix.field-0.0, h, refl))))) c.in_err-unix.ensures)

pub returns-in_err-strangers : goal.returns-in_err-strangers
returns-in_err-strangers c =
    let p = err_from_is_err_and c.from_residual-in_err-strangers.result c.from_residual-in_err-strangers.ensures.1 in
    rw (p.1, p.2) (inl (inr (keys_of c.in_ok-keys.keys, c.in_ok-keys.ensures, inr (c.in_ok-udp.udp, c.in_ok-udp.ensures, inr (c.in_ok-tcp.tcp, c.in_ok-tcp.ensures, inr (option_map string_bytes c.in_ok-unix.unix, c.in_ok-unix.ensures, inl (c.in_err-strangers.field-0.0, c.in_err-strangers.ensures, refl)))))))

pub returns : goal.returns
returns c = inr (keys_of c.in_ok-keys.keys, c.in_ok-keys.ensures, inr (c.in_ok-udp.udp, c.in_ok-udp.ensures, inr (c.in_ok-tcp.tcp, c.in_ok-tcp.ensures, inr (option_map string_bytes c.in_ok-unix.unix, c.in_ok-unix.ensures, inr (c.in_ok-strangers.strangers, c.in_ok-strangers.ensures, refl)))))
