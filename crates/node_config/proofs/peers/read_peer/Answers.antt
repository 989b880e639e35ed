use Rattle.std.proofs.Common.{refl, inl, inr}
use Rattle.std.proofs.lemmas.Result.{err_from_is_err_and}
use Rattle.node_config.proofs.peers.read_peer.Goals as goal

pub returns-in_err-check_name : goal.returns-in_err-check_name
returns-in_err-check_name c =
    let p = err_from_is_err_and c.from_residual.result c.from_residual.ensures.1 in
    rw (p.1, p.2) (inl (c.in_err-check_name.field-0.0, rw c.as_str.ensures.value at c.in_err-check_name.ensures, refl))

pub returns-in_err-endpoint : goal.returns-in_err-endpoint
returns-in_err-endpoint c =
    let p = err_from_is_err_and c.from_residual-in_err-endpoint.result c.from_residual-in_err-endpoint.ensures.1 in
    rw (p.1, p.2) (inr (tt, rw c.as_str.ensures.value at c.in_ok-check_name.ensures, inl (c.in_err-endpoint.field-0.0, c.in_err-endpoint.ensures, refl)))

pub returns-in_err-scope : goal.returns-in_err-scope
returns-in_err-scope c =
    let p = err_from_is_err_and c.from_residual-in_err-scope.result c.from_residual-in_err-scope.ensures.1 in
    rw (p.1, p.2) (inr (tt, rw c.as_str.ensures.value at c.in_ok-check_name.ensures, inr (c.in_ok-endpoint.endpoint, c.in_ok-endpoint.ensures, inl (c.in_err-scope.field-0.0, rw c.keys.ensures at c.in_err-scope.ensures, refl))))

pub returns-in_err-check_endpoint : goal.returns-in_err-check_endpoint
returns-in_err-check_endpoint c =
    let p = err_from_is_err_and c.from_residual-in_err-check_endpoint.result c.from_residual-in_err-check_endpoint.ensures.1 in
    rw (p.1, p.2) (inr (tt, rw c.as_str.ensures.value at c.in_ok-check_name.ensures, inr (c.in_ok-endpoint.endpoint, c.in_ok-endpoint.ensures, inr (c.in_ok-scope.scope, rw c.keys.ensures at c.in_ok-scope.ensures, inl (c.in_err-check_endpoint.field-0.0, c.in_err-check_endpoint.ensures, refl)))))

pub returns-in_err-check_scope : goal.returns-in_err-check_scope
returns-in_err-check_scope c =
    let p = err_from_is_err_and c.from_residual-in_err-check_scope.result c.from_residual-in_err-check_scope.ensures.1 in
    rw (p.1, p.2) (inr (tt, rw c.as_str.ensures.value at c.in_ok-check_name.ensures, inr (c.in_ok-endpoint.endpoint, c.in_ok-endpoint.ensures, inr (c.in_ok-scope.scope, rw c.keys.ensures at c.in_ok-scope.ensures, inr (tt, c.in_ok-check_endpoint.ensures, inl (c.in_err-check_scope.field-0.0, c.in_err-check_scope.ensures, refl))))))

pub returns : goal.returns
returns c = inr (tt, rw c.as_str.ensures.value at c.in_ok-check_name.ensures, inr (c.in_ok-endpoint.endpoint, c.in_ok-endpoint.ensures, inr (c.in_ok-scope.scope, rw c.keys.ensures at c.in_ok-scope.ensures, inr (tt, c.in_ok-check_endpoint.ensures, inr (tt, c.in_ok-check_scope.ensures, refl)))))
