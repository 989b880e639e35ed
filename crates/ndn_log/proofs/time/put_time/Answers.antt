use Rattle.std.proofs.Common.{◌≡◌, ◌≤◌, ◌*ℤ◌, pos, ℕ, ℤ, List, Result, Ok, Err, OnOk, subst, arith}
use Rattle.ndn_tlv.specs.declared.memory.Memory.{Memory}
use Rattle.ndn_log.specs.declared.time.TheConstants.{LAST_DATED}
use Rattle.ndn_log.specs.Time.{IsDateText, IsDatePut, IsTimePut}
use Rattle.ndn_log.proofs.time.put_time.Goals as goal

-- a time up to `LAST_DATED` is shown as its date and time in UTC
dated : (r : Result (Unit {0}) Memory) (moment : ℕ) (nanosecond : ℤ) (old new : List ℕ)
    → moment ≤ LAST_DATED → nanosecond ≡ pos moment *ℤ pos 1_000_000
    → OnOk r (IsDatePut nanosecond old new) → OnOk r (IsTimePut moment old new)
dated (Err _) moment nanosecond old new within is put = tt
dated (Ok _) moment nanosecond old new within is (text, date, appended) = (
  text,
  record {
    dated = λ _. subst (λ n. IsDateText n text) is date;
    undated = λ past. absurd (omega (arith, past, within));
  },
  appended,
)

pub returns-in-Some : goal.returns-in-Some
returns-in-Some c =
    let (within, is) = c.in-Some.ensures in
    dated c.put_date.result c.args.moment c.in-Some.time.nanosecond _ _ within is c.put_date.ensures
