use Rattle.ndn_jobs.proofs.Nonces.{no_nonce}
use Rattle.ndn_jobs.proofs.value.parse_nonce.Goals as goal

pub returns-in-Err : goal.returns-in-Err
returns-in-Err c =
    rw c.bad_value.ensures (no_nonce c.args.text.now c.decode_to_slice.new.out c.decode_to_slice.result c.in-Err.field-0 c.in-Err.is c.decode_to_slice.ensures.value)
