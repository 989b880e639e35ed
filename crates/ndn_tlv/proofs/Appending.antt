-- What one call, or two successive calls, append to a vector.
use Rattle.std.proofs.Common.{◌≡◌, ◌+◌, ◌≤◌, List, ◌++◌, ℕ, length, take, vec_len, sym, ap, subst, ◌∙◌, append_assoc, arith, rules}
use Rattle.std.specs.Prelude.{Result, Ok, Err, OnOk, OnErr, IsOk}
use Rattle.std.specs.Global.{Vec}
use Rattle.std.specs.Vec.{vec_capacity}
use Rattle.std.proofs.lemmas.List.{length-append, take_at}
use Rattle.std.proofs.Math.Seq.{take-length}
use Rattle.ndn_tlv.specs.declared.memory.Memory.{Memory}
use Rattle.ndn_tlv.specs.Writing.{Puts}
use Rattle.ndn_tlv.proofs.Lengths.{begins_more}

-- A call satisfies `Puts` if three conditions hold. The call appends `octets` if it succeeds, and
-- appends nothing if it fails. The call succeeds if the vector has capacity for `octets`. The call
-- does not reduce this capacity.
pub puts_one : (old new : Vec ℕ) (result : Result (Unit {0}) Memory) (octets : List ℕ)
    → OnOk result (new.items ≡ old.items ++ octets) → OnErr result (new.items ≡ old.items)
    → (vec_len old + length octets ≤ vec_capacity old → IsOk result)
    → vec_capacity old ≤ vec_capacity new → Puts old new result octets
puts_one old new (Ok done) octets ok err room capacity = record {
  ok = ok;
  begins = ap (take (vec_len old)) ok ∙ take_at old.items octets (vec_len old) (sym old.ok.0);
  room = room;
  capacity = capacity;
}
puts_one old new (Err fault) octets ok err room capacity = record {
  ok = ok;
  begins = let whole : take (vec_len old) old.items ≡ old.items = rw old.ok.0 (take-length old.items) in ap (take (vec_len old)) err ∙ whole;
  room = room;
  capacity = capacity;
}

-- if a call satisfies `Puts` for `front` and succeeds, and the next call satisfies `Puts` for
-- `back`, both calls together satisfy `Puts` for `front ++ back`
pub puts_both : (old mid new : Vec ℕ) (before : Unit {0}) (result : Result (Unit {0}) Memory) (front back : List ℕ)
    → Puts old mid (Ok before) front → Puts mid new result back → Puts old new result (front ++ back)
puts_both old mid new before (Ok done) front back p q = record {
  ok = q.ok ∙ ap (λ (l : List ℕ). l ++ back) p.ok ∙ append_assoc old.items front back;
  begins = begins_more old.items mid.items new.items front (vec_len old) (vec_len mid) old.ok.0 mid.ok.0 p.ok q.begins;
  room = λ fits. search rules;
  capacity = omega (arith, p.capacity, q.capacity);
}
puts_both old mid new before (Err fault) front back p q = record {
  ok = tt;
  begins = begins_more old.items mid.items new.items front (vec_len old) (vec_len mid) old.ok.0 mid.ok.0 p.ok q.begins;
  room = λ fits. q.room (omega (arith, fits, p.capacity, length-append front back, ap length p.ok, length-append old.items front, old.ok.0, mid.ok.0));
  capacity = omega (arith, p.capacity, q.capacity);
}

-- if `octets` equals `others`, a call that satisfies `Puts` for `octets` also satisfies `Puts` for
-- `others`
pub puts_same : (old new : Vec ℕ) (result : Result (Unit {0}) Memory) (octets others : List ℕ)
    → octets ≡ others → Puts old new result octets → Puts old new result others
puts_same old new result octets others same p = subst (λ (x : List ℕ). Puts old new result x) same p
