use Rattle.std.proofs.Common.{arith}
use Rattle.certificates.proofs.KeyInfos.{key_info-from_parts}
use Rattle.certificates.proofs.key_info.point_in.Goals as goal

pub returns : goal.returns
returns c =
    let cases = c.in_ok-point.ensures.cases in
    (omega arith, key_info-from_parts c.args.content.now c.in_ok-point.point.now cases.0 cases.1 (omega arith))
