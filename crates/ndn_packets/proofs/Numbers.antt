-- Values that are NonNegativeIntegers.
use Rattle.std.proofs.Common.{◌≡◌, ℕ, List, Ok, Err, ap}
use Rattle.ndn_tlv.specs.Number.{IsNni}
use Rattle.ndn_tlv.specs.Reading.{on_result, nni_at}
use Rattle.ndn_tlv.proofs.Numbers.{IsBytes}
use Rattle.ndn_tlv.proofs.Integers.{nni_found, nni_again}
use Rattle.ndn_packets.specs.declared.fault.PacketFault.TheVariants.{BadField}
use Rattle.ndn_packets.specs.Reading.{nni_value_at}
use Rattle.ndn_packets.proofs.Steps.{good, value_ok}

pub number_found : (value : List ℕ) (n : ℕ) → IsBytes value → nni_value_at value ≡ Ok n → IsNni value n
number_found value n fits e = nni_found value n fits (value_ok (nni_at value) n e)

pub number_again : (value : List ℕ) (n : ℕ) → IsNni value n → nni_value_at value ≡ Ok n
number_again value n h = ap (on_result (λ k. good k) (λ _. Err BadField)) (nni_again value n h)
