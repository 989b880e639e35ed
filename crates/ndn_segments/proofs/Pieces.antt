-- The pieces of a file.
use Rattle.std.proofs.Common.{◌≡◌, ℕ, ◌+◌, ◌-◌, ◌*◌, ◌<◌, ◌≤◌, zero, suc, List, [], ◌∷◌, ◌++◌, length, take, drop, refl, sym, ap, ◌∙◌, arith, length-drop, min, zero-mul}
use Rattle.std.specs.Prelude.{Option, Some, None, slice_get}
use Rattle.std.specs.List.{concat}
use Rattle.std.proofs.Math.Nat.{div-mul-le_self, mod-lt}
use Rattle.std.proofs.lemmas.Nat.{div-add-mod'}
use Rattle.std.proofs.lemmas.List.{take-append-drop, length-take, drop-drop}
use Rattle.ndn_segments.specs.Pieces.{last_piece, piece, first_pieces, pieces}

pub none_some : {A : Type 0} (o : Option A) (x : A) → o ≡ None → o ≡ Some x → ⊥
none_some o x a b = cc

pub same_some : {A : Type 0} (x y : A) → Some x ≡ Some y → x ≡ y
same_some x y is = cc

-- lists with the same elements are equal
pub same_by_get : {A : Type 0} (xs ys : List A) → length xs ≡ length ys → ((k : ℕ) (x : A) → slice_get xs k ≡ Some x → slice_get ys k ≡ Some x) → xs ≡ ys
same_by_get [] [] len same = refl
same_by_get [] (y ∷ ys) len same = absurd (omega (arith, len))
same_by_get (x ∷ xs) [] len same = absurd (omega (arith, len))
same_by_get {A = A} (x ∷ xs) (y ∷ ys) len same =
    let first : x ≡ y = same_some x y (sym (same 0 x refl)) in
    let others : xs ≡ ys = same_by_get xs ys (omega (arith, len)) (λ k z at. same (suc k) z at) in
    ap (λ (z : A). z ∷ xs) first ∙ ap (λ (zs : List A). y ∷ zs) others

le_pos : (n : ℕ) → 1 ≤ n → zero < n
le_pos n le = omega (arith, le)

-- the pieces reach the end of the file
pub reaches : (size len : ℕ) → 1 ≤ size → len ≤ (last_piece size len + 1) * size
reaches size len pos =
    let whole = div-add-mod' (len - 1) size in
    let small = mod-lt (len - 1) (le_pos size pos) in
    omega (arith, whole, small)

pub before_end : (size len number : ℕ) → 1 ≤ size → number ≤ last_piece size len → number * size ≤ len - 1
before_end size len number pos le =
    let most = div-mul-le_self (len - 1) size in
    grind (arith, most, le)

pub length-first_pieces : (count size : ℕ) (file : List ℕ) → length (first_pieces count size file) ≡ count
length-first_pieces zero size file = refl
length-first_pieces (suc count) size file = omega (arith, length-first_pieces count size (drop size file))

pub concat-first_pieces : (count size : ℕ) (file : List ℕ) → length file ≤ count * size → concat (first_pieces count size file) ≡ file
concat-first_pieces zero size [] le = refl
concat-first_pieces zero size (x ∷ file) le = absurd (omega (arith, le))
concat-first_pieces (suc count) size file le =
    let rest = concat-first_pieces count size (drop size file) (omega (arith, le, length-drop size file)) in
    ap (λ (t : List ℕ). take size file ++ t) rest ∙ take-append-drop size file

-- the piece with this number is in the list of the pieces
pub get-first_pieces : (count size number : ℕ) (file : List ℕ) → number < count → slice_get (first_pieces count size file) number ≡ Some (piece size file number)
get-first_pieces zero size number file lt = absurd (omega (arith, lt))
get-first_pieces (suc count) size zero file lt = ap (λ (n : ℕ). Some (take size (drop n file))) (sym (zero-mul size))
get-first_pieces (suc count) size (suc number) file lt =
    get-first_pieces count size number (drop size file) (omega (arith, lt))
    ∙ ap (λ (t : List ℕ). Some (take size t)) (drop-drop (number * size) size file ∙ ap (λ (n : ℕ). drop n file) (omega arith))

pub joined : (size : ℕ) (file : List ℕ) → 1 ≤ size → concat (pieces size file) ≡ file
joined size file pos = concat-first_pieces (last_piece size (length file) + 1) size file (reaches size (length file) pos)

pub get-pieces : (size number : ℕ) (file : List ℕ) → number ≤ last_piece size (length file) → slice_get (pieces size file) number ≡ Some (piece size file number)
get-pieces size number file le = get-first_pieces (last_piece size (length file) + 1) size number file (omega (arith, le))

pub length-pieces : (size : ℕ) (file : List ℕ) → length (pieces size file) ≡ last_piece size (length file) + 1
length-pieces size file = length-first_pieces (last_piece size (length file) + 1) size file

pub length-piece : (size number : ℕ) (file : List ℕ) → length (piece size file number) ≡ min size (length file - number * size)
length-piece size number file = length-take size (drop (number * size) file) ∙ ap (λ (n : ℕ). min size n) (length-drop (number * size) file)

pub full_piece : (size number : ℕ) (file : List ℕ) → 1 ≤ size → number < last_piece size (length file) → length (piece size file number) ≡ size
full_piece size number file pos lt =
    let next : (number + 1) * size ≤ length file - 1 = before_end size (length file) (number + 1) pos (omega (arith, lt)) in
    omega (arith, length-piece size number file, next)

pub last_len : (size : ℕ) (file : List ℕ) → 1 ≤ size → 1 ≤ length file → (1 ≤ length (piece size file (last_piece size (length file)))) × (length (piece size file (last_piece size (length file))) ≤ size)
last_len size file pos some =
    let last = last_piece size (length file) in
    let begins : last * size ≤ length file - 1 = before_end size (length file) last pos (omega arith) in
    (omega (arith, length-piece size last file, begins, some, pos), omega (arith, length-piece size last file))
