-- Why a packet cannot be written, if its writer returns a fault.
use Rattle.std.proofs.Common.{◌≡◌, ℕ, List, Option, None, Some, Result, Ok, Err, IfErr, MatchOption, refl, ap}
use Rattle.ndn_tlv.specs.Element.{Field}
use Rattle.ndn_packets.specs.declared.fault.WriteFault.{WriteFault}
use Rattle.ndn_packets.specs.declared.fault.WriteFault.TheVariants.{BadName, TooLong, Memory}
use Rattle.ndn_packets.specs.declared.interest_writer.InterestWriter.{InterestWriter}
use Rattle.ndn_packets.specs.Packet.{PlainData, AData}
use Rattle.ndn_packets.specs.Writing.{interest_refusal}
use Rattle.ndn_requests.specs.Lists.{next_name}
use Rattle.ndn_requests.specs.Exchange.{AsksPlainly, IsNoRequest, IsNextRefusal}

-- `why` is the cause for which a packet cannot be written; if there is no such cause, `why` is
-- `Memory`
abbrev pub IsToldBy : Option WriteFault → WriteFault → Type 0
IsToldBy None why = why ≡ Memory
IsToldBy (Some cause) why = cause ≡ why

pub answered_error : (refusal : Option WriteFault) (why : WriteFault) (r : Result Unit WriteFault) → r ≡ Err why
    → MatchOption refusal (IfErr r (λ fault. fault ≡ Memory)) (λ fault. r ≡ Err fault) → IsToldBy refusal why
answered_error None why r e h = rw e at h
answered_error (Some cause) why r e h = cc

-- if a writer succeeded, its packet had no cause for a refusal
pub none_told : (refusal : Option WriteFault) (r : Result Unit WriteFault) → r ≡ Ok tt
    → MatchOption refusal (IfErr r (λ fault. fault ≡ Memory)) (λ fault. r ≡ Err fault) → refusal ≡ None
none_told None r e h = refl
none_told (Some cause) r e h = absurd cc

pub bad_name : (refusal : Option WriteFault) → IsToldBy refusal BadName → refusal ≡ Some BadName
bad_name None h = absurd cc
bad_name (Some cause) h = ap Some h

pub too_long : (refusal : Option WriteFault) → IsToldBy refusal TooLong → refusal ≡ Some TooLong
too_long None h = absurd cc
too_long (Some cause) h = ap Some h

pub request_refused : (name : List Field) (nonce : List ℕ) (w : InterestWriter) (why : WriteFault) → AsksPlainly name nonce w → IsToldBy (interest_refusal w) why → IsNoRequest name nonce why
request_refused name nonce w BadName asks h = (w, asks, bad_name (interest_refusal w) h)
request_refused name nonce w TooLong asks h = (w, asks, too_long (interest_refusal w) h)
request_refused name nonce w Memory asks h = tt

pub next_refused : (why : WriteFault) (whole : List ℕ) (d : PlainData) (segment : ℕ) (nonce : List ℕ) → IsNoRequest (next_name d.name segment) nonce why → IsNextRefusal why (Ok (AData whole d))
next_refused BadName whole d segment nonce h = (segment, nonce, h)
next_refused TooLong whole d segment nonce h = (segment, nonce, h)
next_refused Memory whole d segment nonce h = tt
