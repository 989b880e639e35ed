-- Lengths of elements, and appending an element in parts. Octets that begin with `front` also begin
-- with each prefix of `front`.
use Rattle.std.proofs.Common.{◌≡◌, ℕ, ◌+◌, ◌<◌, ◌≤◌, List, ◌++◌, length, take, sym, ap, ◌∙◌, append_assoc, arith}
use Rattle.std.proofs.lemmas.List.{length-append, take-take, take_at}
use Rattle.ndn_tlv.specs.Number.{shortest_nni, spelling}
use Rattle.ndn_tlv.specs.Element.{element}
use Rattle.ndn_tlv.proofs.Numbers.{length-spelling_nine, length-spelling_one}
use Rattle.ndn_tlv.proofs.Integers.{length-shortest_eight}

pub length-element : (kind : ℕ) (value : List ℕ) → length (element (kind, value)) ≡ length (spelling kind) + (length (spelling (length value)) + length value)
length-element kind value = omega (arith, length-append (spelling kind) (spelling (length value) ++ value), length-append (spelling (length value)) value)

pub ruleset header_lengths = (length-spelling_nine, length-shortest_eight)

pub ruleset element_lengths = (length-spelling_nine, length-shortest_eight, length-element)

-- if the type of an element is below 253, the element is at most 10 octets longer than its value
pub element_fits : (kind : ℕ) (value : List ℕ) → kind < 253 → length (element (kind, value)) ≤ length value + 10
element_fits kind value lt = omega (arith, length-element kind value, length-spelling_one kind lt, length-spelling_nine (length value))

pub number_fits : (kind n : ℕ) → kind < 253 → length (element (kind, shortest_nni n)) ≤ 10
number_fits kind n lt =
    let few = length-shortest_eight n in
    let one = length-spelling_one (length (shortest_nni n)) (omega (arith, few)) in
    omega (arith, few, one, length-element kind (shortest_nni n), length-spelling_one kind lt)

-- if a type, the length of a value, and this value are appended in this order, the element with
-- this type and value is appended
pub element_put : (old : List ℕ) (kind len : ℕ) (value : List ℕ) → len ≡ length value → (old ++ (spelling kind ++ spelling len)) ++ value ≡ old ++ element (kind, value)
element_put old kind len value is = rw is (simp append_assoc)

-- if the octets `new` begin with the octets `front`, and `front` begins with the octets `old`, then
-- `new` begins with `old`
pub begins_more : (old front new tail : List ℕ) (n m : ℕ) → n ≡ length old → m ≡ length front → front ≡ old ++ tail → take m new ≡ front → take n new ≡ old
begins_more old front new tail n m at following is begins =
    let short : n ≤ m = omega (arith, ap length is, length-append old tail) in
    sym (take-take n m new short) ∙ (ap (λ (x : List ℕ). take n x) (begins ∙ is) ∙ take_at old tail n (sym at))
