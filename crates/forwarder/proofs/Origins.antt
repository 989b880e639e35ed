-- In each in-record of a run, the Interest fits in a packet, and the token is valid.
use Rattle.std.proofs.Common.{◌≡◌, ℕ, ◌≤◌, List, length, sym, ap, subst, ◌∙◌, inl, inr}
use Rattle.std.specs.Prelude.{IfSome, None, Some, max}
use Rattle.std.specs.FinMap as map
use Rattle.std.specs.FinMap.{get-empty}
use Rattle.std.specs.Ordering.{nat_cmp}
use Rattle.ndn_packets.specs.FrameReading.{token_at}
use Rattle.ndn_packets.specs.Key.{PlainKey}
use Rattle.ndn_packets.specs.Link.{IsToken}
use Rattle.ndn_packets.proofs.Wholes.{interest_short}
use Rattle.ndn_packets.proofs.Carried.{token_is_token}
use Rattle.pit_fib.specs.Records.{InRecord, Pending, Records, records_at}
use Rattle.forwarder.specs.Event.{PlainEvent, Token, moment, token_in}
use Rattle.forwarder.specs.Kept.{IsKept}
use Rattle.forwarder.specs.Runs.{Run, Start, Then, IsWaiting, now_of, records_of}
use Rattle.forwarder.specs.Verdict.{Answer}
use Rattle.forwarder.proofs.KeptInterests.{kept_or_waited, waited_before}

-- the Interest fits in a packet, and the token is valid
pub record FitsLink (r : InRecord) : Type 0 where
  pub short : length r.interest ≤ 8800
  pub is_token : IfSome r.token IsToken

abbrev pub AllFit : (PlainKey → Records) → Type 0
AllFit records = (key : PlainKey) (face : ℕ) (r : InRecord) → map.get (records key).in_records face ≡ Some r → FitsLink r

pub token_fits : (octets : List ℕ) (token : Token) → token_at octets ≡ token → IfSome token IsToken
token_fits octets None is = tt
token_fits octets (Some t) is = token_is_token octets t is

kept_fits : (now : ℕ) (event : PlainEvent) (answer : Answer) (key : PlainKey) (face : ℕ) (r : InRecord) → IsKept now event answer key face r → FitsLink r
kept_fits now event answer key face r kept =
    let passed = kept.is_passed in
    let same = kept.is_record in
    record {
      short = subst (λ (text : List ℕ). length text ≤ 8800) (sym (ap (λ (x : InRecord). x.interest) same)) (interest_short passed.octets kept.whole kept.interest passed.read);
      is_token = subst (λ (t : Token). IfSome t IsToken) (sym (ap (λ (x : InRecord). x.token) same))
          (token_fits passed.octets (token_in event) (sym (ap token_in passed.brings)));
    }

-- in each in-record of a run, the Interest fits in a packet, and the token is valid
pub run_fits : (past : Run) → AllFit (records_of past)
run_fits Start key face r is = (let none : map.get (records_of Start key).in_records face ≡ None = get-empty nat_cmp face in cc (none, is))
run_fits (Then past event answer) key face r is =
    elim (kept_or_waited past event answer key face r is) [
      | inl kept ↦ kept_fits (max (now_of past) (moment event)) event answer key face r kept
      | inr was ↦ run_fits past key face r was
    ]

-- in each in-record that remains once time has advanced to `now`, the Interest fits in a packet,
-- and the token is valid
pub waiting_fits : (past : Run) (now : ℕ) (waiting : Pending) → IsWaiting past now waiting → AllFit (records_at waiting)
waiting_fits past now waiting is key face r has =
    run_fits past key face r (waited_before past now key face r (sym (ap (λ (rs : Records). map.get rs.in_records face) (is.records key)) ∙ has))
