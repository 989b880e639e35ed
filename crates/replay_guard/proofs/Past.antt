-- A guard stores only the greatest time and the greatest sequence number of each signer. A command
-- is fresh according to the state of a guard exactly if it is fresh according to the list of all
-- recorded commands.
use Rattle.std.proofs.Common.{◌≡◌, ℕ, ◌<◌, Bool, true, false, cond, List, [], ◌∷◌, refl, sym, subst, arith}
use Rattle.std.specs.Prelude.{◌↔◌, Option, Some, None}
use Rattle.std.specs.List.{AllByRecursion}
use Rattle.std.specs.FinMap as map
use Rattle.std.specs.FinMap.{get-insert, get-empty}
use Rattle.std.specs.Ordering.{eq_by_cmp}
use Rattle.replay_guard.specs.Freshness.{Signer, Recorded, NumberRises, IsNewer, Fresh}
use Rattle.replay_guard.specs.Guard.{Latest, signer_cmp, greater_number, raised, table_of, IsAfterLatest, IsFresh}
use Rattle.replay_guard.proofs.Signers.{signer_cmp-total, one_signer, same_signer}

number_after : (a b number : Option ℕ) → (NumberRises (greater_number a b) number → NumberRises a number × NumberRises b number) × (NumberRises a number → NumberRises b number → NumberRises (greater_number a b) number)
number_after None b number = (λ h. (tt, h), λ _ h. h)
number_after (Some m) None number = (λ h. (h, tt), λ h _. h)
number_after (Some m) (Some n) None = (λ h. (tt, tt), λ _ _. tt)
number_after (Some m) (Some n) (Some k) = (λ h. (omega (arith, h), omega (arith, h)), λ h k'. omega (arith, h, k'))

-- Let `kept` be the state of a signer before a command with time `t` and number `n` is recorded.
-- Another command of this signer is newer than the state after the recording exactly if this other
-- command is newer than `kept` and newer than the recorded command.
raised_after : (kept : Option Latest) (t : ℕ) (n : Option ℕ) (time : ℕ) (number : Option ℕ)
    → (IsAfterLatest (Some (raised kept t n)) time number → IsAfterLatest kept time number × ((t < time) × NumberRises n number))
    × (IsAfterLatest kept time number → (t < time) × NumberRises n number → IsAfterLatest (Some (raised kept t n)) time number)
raised_after None t n time number = (λ h. (tt, h), λ _ h. h)
raised_after (Some l) t n time number =
    let both = number_after l.number n number in (
      λ h. let e = h.0 in let b = both.0 h.1 in ((omega (arith, e), b.0), (omega (arith, e), b.1)),
      λ h k. let e = h.0 in let f = k.0 in (omega (arith, e, f), both.1 h.1 k.1),
    )

-- Recording `r` changes the state of the signer of `r`. A command is newer than the state of its
-- own signer after the recording exactly if the command is newer than the state of its own signer
-- before the recording, and `IsNewer` holds for the command and `r`.
pub one_more : (table : Signer → Option Latest) (r : Recorded) (signer : Signer) (time : ℕ) (number : Option ℕ) (b : Bool) → eq_by_cmp signer_cmp signer r.signer ≡ b
    → (IsAfterLatest (cond b (Some (raised (table r.signer) r.time r.number)) (table signer)) time number → IsAfterLatest (table signer) time number × IsNewer signer time number r)
    × (IsAfterLatest (table signer) time number → IsNewer signer time number r → IsAfterLatest (cond b (Some (raised (table r.signer) r.time r.number)) (table signer)) time number)
one_more table r signer time number true e =
    let one = one_signer signer r.signer e in
    let both = raised_after (table r.signer) r.time r.number time number in (
      λ h. let p = both.0 h in (subst (λ s. IsAfterLatest (table s) time number) (sym one) p.0, λ _. p.1),
      λ h k. both.1 (subst (λ s. IsAfterLatest (table s) time number) one h) (k (sym one)),
    )
one_more table r signer time number false e = (
  λ h. (h, λ is. absurd (let tied = same_signer signer r.signer (sym is) in cc)),
  λ h _. h,
)

after_all : (past : List Recorded) (signer : Signer) (time : ℕ) (number : Option ℕ)
    → (IsAfterLatest (map.get (table_of past) signer) time number → AllByRecursion (IsNewer signer time number) past)
    × (AllByRecursion (IsNewer signer time number) past → IsAfterLatest (map.get (table_of past) signer) time number)
after_all [] signer time number =
    (λ _. tt, λ _. subst (λ (o : Option Latest). IsAfterLatest o time number) (sym (get-empty signer_cmp signer)) tt)
after_all (r ∷ before) signer time number =
    let table = table_of before in
    let got = get-insert signer_cmp-total table r.signer (raised (map.get table r.signer) r.time r.number) signer in
    let step = one_more (map.get table) r signer time number (eq_by_cmp signer_cmp signer r.signer) refl in
    let rest = after_all before signer time number in (
      λ h. let p = step.0 (subst (λ (o : Option Latest). IsAfterLatest o time number) got h) in (p.1, rest.0 p.0),
      λ h. subst (λ (o : Option Latest). IsAfterLatest o time number) (sym got) (step.1 (rest.1 h.1) h.0),
    )

pub fresh_by_table : (past : List Recorded) (signer : Signer) (time : ℕ) (number : Option ℕ) (now : ℕ)
    → IsFresh (table_of past) signer time number now ↔ Fresh past signer time number now
fresh_by_table past signer time number now =
    let all = after_all past signer time number in (λ h. (h.0, all.0 h.1), λ h. (h.0, all.1 h.1))
