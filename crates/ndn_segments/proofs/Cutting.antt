-- Why a segment is not written.
use Rattle.std.proofs.Common.{◌≡◌, ℕ, Bool, true, false, List, [], ◌∷◌, length, refl, subst, arith, ◌≤◌}
use Rattle.std.specs.Prelude.{Option, Some, None, Result, Ok, Err, MatchOption, IfErr, IsErrAnd, nat_lt, if◌then◌else◌}
use Rattle.std.proofs.lemmas.List.{length-append}
use Rattle.std.proofs.lemmas.Bool.{ltb-true}
use Rattle.ndn_tlv.specs.Number.{shortest_nni}
use Rattle.ndn_names.specs.declared.component_type.TheConstants.{VERSION}
use Rattle.ndn_names.specs.declared.fault.NameFault.{NameFault}
use Rattle.ndn_names.specs.declared.fault.NameFault.TheVariants as name
use Rattle.ndn_packets.specs.declared.fault.WriteFault.{WriteFault}
use Rattle.ndn_packets.specs.declared.fault.WriteFault.TheVariants as write
use Rattle.ndn_segments.specs.declared.cutter.CutFault.{CutFault}
use Rattle.ndn_segments.specs.declared.cutter.CutFault.TheVariants as fault
use Rattle.ndn_segments.specs.Names.{version_name, IsTooLong}
use Rattle.ndn_segments.specs.CutFaults.{of_name, of_write}
use Rattle.ndn_segments.specs.Cut.{Plan, IsNotPut, IsNotWritten, segment_text, last_of, piece_len}
use Rattle.ndn_segments.proofs.Longest.{all_short}

-- a name with 62 components is not too long for a version and a segment number
pub long_name : (p : Plan) (number : ℕ) (piece : List ℕ) (why : NameFault) → length p.name ≤ 62 → IsTooLong p.name why → IsNotPut p number piece (of_name why)
long_name p number piece name.TooManyComponents le is = absurd (omega (arith, is, le))
long_name p number piece name.BadComponent le is = absurd is
long_name p number piece name.BadDigestLength le is = absurd is
long_name p number piece name.BadUri le is = absurd is
long_name p number piece name.Memory le is = tt

pub long_stem : (p : Plan) (number : ℕ) (piece : List ℕ) (why : NameFault) → length p.name ≤ 62 → IsTooLong (version_name p.name p.version) why → IsNotPut p number piece (of_name why)
long_stem p number piece name.TooManyComponents le is =
    absurd (omega (arith, is, le, length-append p.name ((VERSION, shortest_nni p.version) ∷ [])))
long_stem p number piece name.BadComponent le is = absurd is
long_stem p number piece name.BadDigestLength le is = absurd is
long_stem p number piece name.BadUri le is = absurd is
long_stem p number piece name.Memory le is = tt

refused_if : (p : Plan) (number : ℕ) (piece : List ℕ) (b : Bool) (why : WriteFault) → nat_lt 8800 (length (segment_text p number piece)) ≡ b
    → MatchOption (if b then Some write.TooLong else None) (why ≡ write.Memory) (λ fault. ◌≡◌ {A = Result (Unit {0}) WriteFault} (Err why) (Err fault))
    → IsNotPut p number piece (of_write why)
refused_if p number piece true write.TooLong is why = λ short. omega (arith, short.1, ltb-true 8800 _ is)
refused_if p number piece b write.BadName is why = tt
refused_if p number piece b write.Memory is why = tt
refused_if p number piece false write.TooLong is why = absurd cc

pub refused : (p : Plan) (number : ℕ) (piece : List ℕ) (refusal : Option WriteFault) (why : WriteFault) → refusal ≡ (if nat_lt 8800 (length (segment_text p number piece)) then Some write.TooLong else None)
    → MatchOption refusal (why ≡ write.Memory) (λ fault. ◌≡◌ {A = Result (Unit {0}) WriteFault} (Err why) (Err fault))
    → IsNotPut p number piece (of_write why)
refused p number piece refusal why is told =
    refused_if p number piece (nat_lt 8800 (length (segment_text p number piece))) why refl
    (subst (λ (o : Option WriteFault). MatchOption o (why ≡ write.Memory) (λ fault. ◌≡◌ {A = Result (Unit {0}) WriteFault} (Err why) (Err fault))) is told)

pub err_gives : {A : Type 0} (r : Result A CutFault) (P Q : CutFault → Type 0) → IsErrAnd r P → ((fault : CutFault) → P fault → Q fault) → IfErr r Q
err_gives (Ok x) P Q is give = tt
err_gives (Err fault) P Q is give = give fault is

-- a piece of the file is not written only if the longest segment is too long
not_written : (p : Plan) (number : ℕ) (piece : List ℕ) (why : CutFault) → number ≤ last_of p → length piece ≡ piece_len p number → IsNotPut p number piece why → IsNotWritten p number piece why
not_written p number piece fault.TooLong le len is = (is, λ fits. is (all_short p number piece le len fits))
not_written p number piece fault.NoSuchPiece le len is = absurd is
not_written p number piece fault.EmptyPieces le len is = absurd is
not_written p number piece fault.Memory le len is = tt

pub not_put : {A : Type 0} (p : Plan) (number : ℕ) (piece : List ℕ) (r : Result A CutFault) → number ≤ last_of p → length piece ≡ piece_len p number → IfErr r (IsNotPut p number piece) → IfErr r (IsNotWritten p number piece)
not_put p number piece (Ok x) le len is = tt
not_put p number piece (Err why) le len is = not_written p number piece why le len is
