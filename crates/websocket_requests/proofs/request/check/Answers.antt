use Rattle.std.proofs.Common.{◌≡◌, length, map, string_bytes, sym, ap, ◌∙◌}
use Rattle.websocket_requests.specs.Reading.{checked, limited}
use Rattle.websocket_requests.proofs.Finals.{refuses}
use Rattle.websocket_requests.proofs.Heads.{allowed_checked, checked_allowed, limit_begun}
use Rattle.websocket_requests.proofs.request.check.Goals as goal

read : (c : goal.After-limited) → c.limited.result ≡ checked (map string_bytes c.args.origins.now) c.args.octets.now
unfolding checked
read c = c.limited.ensures ∙ ap (limited (length c.args.octets.now)) c.read_head.ensures

pub returns-clause-exact : goal.returns-clause-exact
returns-clause-exact c = read c

pub returns-clause-allowed : goal.returns-clause-allowed
returns-clause-allowed c =
    let listed = map string_bytes c.args.origins.now in
    ((λ h. checked_allowed listed c.args.octets.now (sym (read c) ∙ h)), (λ h. read c ∙ allowed_checked listed c.args.octets.now h))

pub returns-clause-begun : goal.returns-clause-begun
returns-clause-begun c = λ h. limit_begun (length c.args.octets.now) c.read_head.result (sym c.limited.ensures ∙ h)

pub returns-clause-refuses : goal.returns-clause-refuses
returns-clause-refuses c = refuses (map string_bytes c.args.origins.now) c.args.octets.now c.limited.result (read c)
