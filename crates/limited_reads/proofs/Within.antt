-- To know whether there are more than `limit` octets, it suffices to read at most `limit + 1`
-- octets.
use Rattle.std.proofs.Common.{◌≡◌, ℕ, zero, suc, ◌+◌, ◌≤◌, Bool, true, false, List, [], ◌∷◌, length, take, refl, ap, subst, ◌∙◌, arith}
use Rattle.std.specs.Prelude.{Option, None, Some, IfSome, if◌then◌else◌, ◌==◌}
use Rattle.std.specs.Io.BufRead.{take_through}
use Rattle.std.specs.Option.{option_map}
use Rattle.std.proofs.lemmas.List.{take_all, length-take}
use Rattle.limited_reads.specs.Limit.{IsWithin}

is_within : (limit : ℕ) (octets : List ℕ) (found : Option (List ℕ)) → IsWithin limit (take (limit + 1) octets) found → IsWithin limit octets found
is_within limit octets None h = let len = length-take (limit + 1) octets in omega (arith, h, len)
is_within limit octets (Some found) h =
    let len = length-take (limit + 1) octets in
    let few : length octets ≤ limit = omega (arith, h.1, len) in
    (h.0 ∙ take_all (limit + 1) octets (omega (arith, few)), few)

pub read_is_within : (limit : ℕ) (known : Option (List ℕ)) (read : List ℕ) (found : Option (List ℕ)) → IfSome (option_map (take (limit + 1)) known) (λ xs. read ≡ xs) → IsWithin limit read found → IfSome known (λ octets. IsWithin limit octets found)
read_is_within limit None read found e h = tt
read_is_within limit (Some octets) read found e h = is_within limit octets found (subst (λ r. IsWithin limit r found) e h)

-- ---- lines

one_more : (n x : ℕ) (is_last : Bool) (front rest : List ℕ) → front ≡ take n rest → (if is_last then x ∷ [] else x ∷ front) ≡ take (suc n) (if is_last then x ∷ [] else x ∷ rest)
one_more zero x true front rest e = refl
one_more (suc n) x true front rest e = refl
one_more n x false front rest e = ap (λ t. x ∷ t) e

line_of_front : (byte n : ℕ) (octets : List ℕ) → take_through byte (take n octets) ≡ take n (take_through byte octets)
line_of_front byte zero octets = refl
line_of_front byte (suc n) [] = refl
line_of_front byte (suc n) (x ∷ octets) = one_more n x (x == byte) _ _ (line_of_front byte n octets)

pub line_is_within : (byte limit : ℕ) (known : Option (List ℕ)) (read : List ℕ) (found : Option (List ℕ)) → IfSome (option_map (take (limit + 1)) known) (λ xs. read ≡ take_through byte xs) → IsWithin limit read found → IfSome known (λ octets. IsWithin limit (take_through byte octets) found)
line_is_within byte limit None read found e h = tt
line_is_within byte limit (Some octets) read found e h = is_within limit _ found (subst (λ r. IsWithin limit r found) (e ∙ line_of_front byte (limit + 1) octets) h)
