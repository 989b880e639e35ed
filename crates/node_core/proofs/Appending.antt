-- Texts that are appended one after another.
use Rattle.std.proofs.Common.{◌≡◌, ℕ, zero, suc, ◌<◌, ◌≤◌, List, [], ◌∷◌, ◌++◌, length, take, drop, sym, ap, ◌∙◌, append_assoc, arith, rules, Ok, Err, take-append-drop, length-append}
use Rattle.std.specs.Global.{Vec}
use Rattle.std.specs.Vec.{vec_capacity}
use Rattle.std.proofs.lemmas.Grind.{flat_map-append}
use Rattle.ndn_tlv.specs.declared.memory.Memory.{Memory}
use Rattle.ndn_tlv.specs.Writing.{Puts}
use Rattle.ndn_tlv.proofs.Appending.{puts_one, puts_both}
use Rattle.std.specs.Prelude.{Some, None, slice_get}
use Rattle.forwarder.specs.Event.{Send}
use Rattle.std.specs.List.{flat_map}
use Rattle.std.proofs.lemmas.List.{append-nil}

-- the concatenated texts of the first `i + 1` elements are the concatenated texts of the first `i`
-- elements, followed by the text of the element at index `i`
pub flat_map-take_next : {X : Type 0} (f : X → List ℕ) (xs : List X) (i : ℕ) (x : X) → slice_get xs i ≡ Some x → flat_map f (take (suc i) xs) ≡ flat_map f (take i xs) ++ f x
flat_map-take_next f [] i x h = cc h
flat_map-take_next {X} f (y ∷ ys) zero x h = let same : y ≡ x = cc h in append-nil (f y) ∙ ap f same
flat_map-take_next f (y ∷ ys) (suc i) x h =
    ap (λ (t : List ℕ). f y ++ t) (flat_map-take_next f ys i x h) ∙ sym (append_assoc (f y) (flat_map f (take i ys)) (f x))

pub appended : (a b c d e : List ℕ) → a ≡ b ++ c → b ≡ d ++ e → a ≡ d ++ (e ++ c)
appended a b c d e h k = h ∙ ap (λ (t : List ℕ). t ++ c) k ∙ append_assoc d e c

-- if the texts of the first `i` elements were appended, and memory ran out for the text of the next
-- element, then memory ran out for appending the texts of all elements (`Puts`)
pub puts_refused : {X : Type 0} (f : X → List ℕ) (xs : List X) (i : ℕ) (x : X) (old mid new : Vec ℕ) (e : Memory) → slice_get xs i ≡ Some x
    → mid.items ≡ old.items ++ flat_map f (take i xs) → vec_capacity old ≤ vec_capacity mid → Puts mid new (Err e) (f x) → Puts old new (Err e) (flat_map f xs)
puts_refused f xs i x old mid new e is text capacity p =
    let front = flat_map f (take i xs) in
    let before : Puts old mid (Ok tt) front = puts_one old mid (Ok tt) front text tt (λ _. search rules) capacity in
    let both = puts_both old mid new tt (Err e) front (f x) before p in
    let longer : flat_map f xs ≡ (front ++ f x) ++ flat_map f (drop (suc i) xs) =
    ap (flat_map f) (sym (take-append-drop (suc i) xs)) ∙ flat_map-append f (take (suc i) xs) (drop (suc i) xs)
    ∙ ap (λ (t : List ℕ). t ++ flat_map f (drop (suc i) xs)) (flat_map-take_next f xs i x is) in
    record {
      ok = tt;
      begins = both.begins;
      room = λ fits. both.room (omega (arith, fits, ap length longer, length-append (front ++ f x) (flat_map f (drop (suc i) xs))));
      capacity = both.capacity;
    }

pub none_is_no_send : (xs : List Send) (i : ℕ) → i < length xs → slice_get xs i ≡ None → ⊥
none_is_no_send [] i h e = absurd (omega arith)
none_is_no_send (x ∷ xs) zero h e = absurd cc
none_is_no_send (x ∷ xs) (suc i) h e = none_is_no_send xs i (omega arith) e
