-- A list of slab indexes in blocks.
use Rattle.std.proofs.Common.{◌≡◌, ◌⊎◌, inl, inr, ℕ, zero, suc, ◌+◌, ◌-◌, ◌<◌, ◌≤◌, List, [], ◌∷◌, ◌++◌, length, get_or, set, take, drop, insert, append_assoc, refl, sym, ap, subst, ◌∙◌, arith}
use Rattle.std.specs.List.{remove}
use Rattle.std.proofs.lemmas.List.{length-append, get_or_append_left, get_or-append_right, get_or_default, append-nil, drop_all, take_all, take-append-drop}
use Rattle.std.proofs.lemmas.List.Edits.{insert-append_left, insert-append_right, remove-append_left, remove-append_right}
use Rattle.content_store.specs.declared.places.Block.{Block}
use Rattle.content_store.specs.Uses.{without_range}
use Rattle.content_store.specs.PlaceBlocks.{AreLaid, IsIn, IsLaid, flat}

pub flat-append : (xs ys : List Block) → flat (xs ++ ys) ≡ flat xs ++ flat ys
unfolding flat
flat-append [] ys = refl
flat-append (b ∷ xs) ys = ap (λ (l : List ℕ). b.items.items ++ l) (flat-append xs ys) ∙ sym (append_assoc b.items.items (flat xs) (flat ys))

pub length-flat_take : (bs : List Block) (i : ℕ) → length (flat (take i bs)) ≤ length (flat bs)
length-flat_take bs i =
    let whole : flat (take i bs) ++ flat (drop i bs) ≡ flat bs = sym (flat-append (take i bs) (drop i bs)) ∙ ap flat (take-append-drop i bs) in
    omega (arith, ap length whole, length-append (flat (take i bs)) (flat (drop i bs)))

-- ---- where blocks begin and end

begins_after : (n : ℕ) (bs : List Block) (i : ℕ) (d : Block) → AreLaid n bs → i < length bs → n ≤ (get_or bs i d).start
unfolding AreLaid
begins_after n [] i d a lt = absurd (omega arith)
begins_after n (b ∷ bs) zero d a lt = (let e = a.0 in omega arith)
begins_after n (b ∷ bs) (suc i) d a lt = (let le = begins_after (n + length b.items.items) bs i d a.1 (omega arith) in omega arith)

pub first_begins : (n : ℕ) (bs : List Block) (d : Block) → AreLaid n bs → 0 < length bs → (get_or bs 0 d).start ≡ n
unfolding AreLaid
first_begins n [] d a lt = absurd (omega arith)
first_begins n (b ∷ bs) d a lt = a.0

pub next_begins : (n : ℕ) (bs : List Block) (i : ℕ) (d : Block) → AreLaid n bs → suc i < length bs → (get_or bs (suc i) d).start ≡ (get_or bs i d).start + length (get_or bs i d).items.items
unfolding AreLaid
next_begins n [] i d a lt = absurd (omega arith)
next_begins n (b ∷ bs) zero d a lt = first_begins (n + length b.items.items) bs d a.1 (omega arith) ∙ ap (λ (m : ℕ). m + length b.items.items) (sym a.0)
next_begins n (b ∷ bs) (suc i) d a lt = next_begins (n + length b.items.items) bs i d a.1 (omega arith)

pub last_ends : (n : ℕ) (bs : List Block) (i : ℕ) (d : Block) → AreLaid n bs → suc i ≡ length bs → n + length (flat bs) ≡ (get_or bs i d).start + length (get_or bs i d).items.items
unfolding AreLaid flat
last_ends n [] i d a e = absurd (omega arith)
last_ends n (b ∷ []) zero d a e = (let s = a.0 in omega (arith, length-append b.items.items (flat [])))
last_ends n (b ∷ c ∷ bs) zero d a e = absurd (omega arith)
last_ends n (b ∷ bs) (suc i) d a e = (let rest = last_ends (n + length b.items.items) bs i d a.1 (omega arith) in omega (arith, length-append b.items.items (flat bs)))

-- ---- the change of one block

pub flat_get : (n : ℕ) (bs : List Block) (i : ℕ) (d : Block) (o k : ℕ) → AreLaid n bs → i < length bs → o < length (get_or bs i d).items.items → n + k ≡ (get_or bs i d).start + o
    → get_or (flat bs) k 0 ≡ get_or (get_or bs i d).items.items o 0
unfolding AreLaid flat
flat_get n [] i d o k a lt inside is = absurd (omega arith)
flat_get n (b ∷ bs) zero d o k a lt inside is =
    let s = a.0 in
    let e : k ≡ o = omega arith in
    get_or_append_left b.items.items (flat bs) 0 k (omega arith) ∙ ap (λ (m : ℕ). get_or b.items.items m 0) e
flat_get n (b ∷ bs) (suc i) d o k a lt inside is =
    let low = begins_after (n + length b.items.items) bs i d a.1 (omega arith) in
    get_or-append_right b.items.items (flat bs) (length b.items.items) k 0 refl (omega arith)
    ∙ flat_get (n + length b.items.items) bs i d o (k - length b.items.items) a.1 (omega arith) inside (omega arith)

pub flat_insert : (n : ℕ) (bs : List Block) (i : ℕ) (d b' : Block) (o k p : ℕ) → AreLaid n bs → i < length bs → o ≤ length (get_or bs i d).items.items → n + k ≡ (get_or bs i d).start + o
    → b'.items.items ≡ insert (get_or bs i d).items.items o p → flat (set bs i b') ≡ insert (flat bs) k p
unfolding AreLaid flat
flat_insert n [] i d b' o k p a lt inside is new = absurd (omega arith)
flat_insert n (b ∷ bs) zero d b' o k p a lt inside is new =
    let s = a.0 in
    let e : o ≡ k = omega arith in
    ap (λ (l : List ℕ). l ++ flat bs) (new ∙ ap (λ (m : ℕ). insert b.items.items m p) e) ∙ sym (insert-append_left b.items.items (flat bs) k p (omega arith))
flat_insert n (b ∷ bs) (suc i) d b' o k p a lt inside is new =
    let low = begins_after (n + length b.items.items) bs i d a.1 (omega arith) in
    ap (λ (l : List ℕ). b.items.items ++ l) (flat_insert (n + length b.items.items) bs i d b' o (k - length b.items.items) p a.1 (omega arith) inside (omega arith) new)
    ∙ sym (insert-append_right b.items.items (flat bs) (length b.items.items) k p refl (omega arith))

pub flat_remove : (n : ℕ) (bs : List Block) (i : ℕ) (d b' : Block) (o k : ℕ) → AreLaid n bs → i < length bs → o < length (get_or bs i d).items.items → n + k ≡ (get_or bs i d).start + o
    → b'.items.items ≡ remove (get_or bs i d).items.items o → flat (set bs i b') ≡ remove (flat bs) k
unfolding AreLaid flat
flat_remove n [] i d b' o k a lt inside is new = absurd (omega arith)
flat_remove n (b ∷ bs) zero d b' o k a lt inside is new =
    let s = a.0 in
    let e : o ≡ k = omega arith in
    ap (λ (l : List ℕ). l ++ flat bs) (new ∙ ap (λ (m : ℕ). remove b.items.items m) e) ∙ sym (remove-append_left b.items.items (flat bs) k (omega arith))
flat_remove n (b ∷ bs) (suc i) d b' o k a lt inside is new =
    let low = begins_after (n + length b.items.items) bs i d a.1 (omega arith) in
    ap (λ (l : List ℕ). b.items.items ++ l) (flat_remove (n + length b.items.items) bs i d b' o (k - length b.items.items) a.1 (omega arith) inside (omega arith) new)
    ∙ sym (remove-append_right b.items.items (flat bs) (length b.items.items) k refl (omega arith))

pub flat_set : (bs : List Block) (i : ℕ) (d b' : Block) → i < length bs → b'.items.items ≡ (get_or bs i d).items.items → flat (set bs i b') ≡ flat bs
unfolding flat
flat_set [] i d b' lt same = absurd (omega arith)
flat_set (b ∷ bs) zero d b' lt same = ap (λ (l : List ℕ). l ++ flat bs) same
flat_set (b ∷ bs) (suc i) d b' lt same = ap (λ (l : List ℕ). b.items.items ++ l) (flat_set bs i d b' (omega arith) same)

-- ---- the split of a block into two, and the join of two blocks

pub flat_split : (bs : List Block) (i : ℕ) (d first second : Block) → i < length bs → first.items.items ++ second.items.items ≡ (get_or bs i d).items.items
    → flat (set (insert bs (suc i) second) i first) ≡ flat bs
unfolding flat
flat_split [] i d first second lt same = absurd (omega arith)
flat_split (b ∷ bs) zero d first second lt same = sym (append_assoc first.items.items second.items.items (flat bs)) ∙ ap (λ (l : List ℕ). l ++ flat bs) same
flat_split (b ∷ bs) (suc i) d first second lt same = ap (λ (l : List ℕ). b.items.items ++ l) (flat_split bs i d first second (omega arith) same)

pub flat_join : (bs : List Block) (i : ℕ) (d both : Block) → suc i < length bs → both.items.items ≡ (get_or bs i d).items.items ++ (get_or bs (suc i) d).items.items
    → flat (remove (set bs i both) (suc i)) ≡ flat bs
unfolding flat
flat_join [] i d both lt same = absurd (omega arith)
flat_join (b ∷ []) zero d both lt same = absurd (omega arith)
flat_join (b ∷ c ∷ bs) zero d both lt same = ap (λ (l : List ℕ). l ++ flat bs) same ∙ append_assoc b.items.items c.items.items (flat bs)
flat_join (b ∷ bs) (suc i) d both lt same = ap (λ (l : List ℕ). b.items.items ++ l) (flat_join bs i d both (omega arith) same)

pub flat_drop : (bs : List Block) (i : ℕ) (d : Block) → i < length bs → (get_or bs i d).items.items ≡ [] → flat (remove bs i) ≡ flat bs
unfolding flat
flat_drop [] i d lt none = absurd (omega arith)
flat_drop (b ∷ bs) zero d lt none = sym (ap (λ (l : List ℕ). l ++ flat bs) none)
flat_drop (b ∷ bs) (suc i) d lt none = ap (λ (l : List ℕ). b.items.items ++ l) (flat_drop bs i d (omega arith) none)

-- ---- the removal of a range

low_or_high : (m n : ℕ) → (m ≤ n) ⊎ (n ≤ m)
low_or_high m n = grind arith

range_none : (start end : ℕ) → without_range {X = ℕ} start end [] ≡ []
range_none start end =
    let front : take {A = ℕ} start [] ≡ [] = take_all start [] (omega arith) in
    let back : drop {A = ℕ} end [] ≡ [] = drop_all end [] (omega arith) in
    λ k. front k ++ back k

-- removing a range from two concatenated lists removes from each list its part of the range
range_append : (xs ys : List ℕ) (start end s e : ℕ) → start ≤ end → s ≡ start - length xs → e ≡ end - length xs → without_range start end (xs ++ ys) ≡ without_range start end xs ++ without_range s e ys
range_append [] ys start end s e le low high =
    let one : start ≡ s = omega arith in
    let two : end ≡ e = omega arith in
    (λ k. without_range (one k) (two k) ys) ∙ ap (λ (l : List ℕ). l ++ without_range s e ys) (sym (range_none start end))
range_append (x ∷ xs) ys zero zero s e le low high =
    let one : 0 ≡ s = omega arith in
    let two : 0 ≡ e = omega arith in
    λ k. (x ∷ xs) ++ without_range (one k) (two k) ys
range_append (x ∷ xs) ys zero (suc end) s e le low high = range_append xs ys zero end s e (omega arith) (omega arith) (omega arith)
range_append (x ∷ xs) ys (suc start) zero s e le low high = absurd (omega arith)
range_append (x ∷ xs) ys (suc start) (suc end) s e le low high = ap (λ (l : List ℕ). x ∷ l) (range_append xs ys start end s e (omega arith) (omega arith) (omega arith))

pub flat_cut : (n : ℕ) (bs cs : List Block) (start end : ℕ) → AreLaid n bs → start ≤ end → length cs ≡ length bs
    → ((i : ℕ) (d : Block) → i < length bs → (get_or cs i d).items.items ≡ without_range (start - (get_or bs i d).start) (end - (get_or bs i d).start) (get_or bs i d).items.items)
    → flat cs ≡ without_range (start - n) (end - n) (flat bs)
unfolding AreLaid flat
flat_cut n [] [] start end a le len each = sym (range_none (start - n) (end - n))
flat_cut n [] (c ∷ cs) start end a le len each = absurd (omega arith)
flat_cut n (b ∷ bs) [] start end a le len each = absurd (omega arith)
flat_cut n (b ∷ bs) (c ∷ cs) start end a le len each =
    let first : c.items.items ≡ without_range (start - n) (end - n) b.items.items = each 0 b (omega arith) ∙ ap (λ (m : ℕ). without_range (start - m) (end - m) b.items.items) a.0 in
    let rest = flat_cut (n + length b.items.items) bs cs start end a.1 le (omega arith) (λ i d lt. each (suc i) d (omega arith)) in
    (λ k. first k ++ rest k)
    ∙ sym (range_append b.items.items (flat bs) (start - n) (end - n) (start - (n + length b.items.items)) (end - (n + length b.items.items)) (omega arith) (omega arith) (omega arith))

-- ---- the update of the starts of the blocks

pub laid_push : (n : ℕ) (bs : List Block) (b : Block) → AreLaid n bs → b.start ≡ n + length (flat bs) → AreLaid n (bs ++ b ∷ [])
unfolding AreLaid flat
laid_push n [] b a e = (omega arith, tt)
laid_push n (c ∷ bs) b a e = (a.0, laid_push (n + length c.items.items) bs b a.1 (omega (arith, length-append c.items.items (flat bs))))

pub laid_none : AreLaid 0 []
unfolding AreLaid
laid_none = tt

pub flat_push : (bs : List Block) (b : Block) → flat (bs ++ b ∷ []) ≡ flat bs ++ b.items.items
unfolding flat
flat_push [] b = append-nil b.items.items
flat_push (c ∷ bs) b = ap (λ (l : List ℕ). c.items.items ++ l) (flat_push bs b) ∙ sym (append_assoc c.items.items (flat bs) b.items.items)

pub flat_none : flat [] ≡ []
unfolding flat
flat_none = refl

pub nothing_laid : (bs : List Block) → bs ≡ [] → IsLaid bs × (flat bs ≡ [])
nothing_laid bs e = (subst IsLaid (sym e) (record { laid = laid_none; short = omega (arith, ap length flat_none) }), ap flat e ∙ flat_none)

pub some_laid : (bs : List Block) (k : ℕ) → k < length (flat bs) → 0 < length bs
some_laid [] k lt = absurd (omega (arith, ap length flat_none))
some_laid (b ∷ bs) k lt = omega arith

pub laid_set : (n : ℕ) (bs : List Block) (i : ℕ) (d b' : Block) → i < length bs → b'.start ≡ (get_or bs i d).start → b'.items.items ≡ (get_or bs i d).items.items → AreLaid n bs → AreLaid n (set bs i b')
unfolding AreLaid
laid_set n [] i d b' lt start same a = absurd (omega arith)
laid_set n (b ∷ bs) zero d b' lt start same a = (start ∙ a.0, subst (λ (l : List ℕ). AreLaid (n + length l) bs) (sym same) a.1)
laid_set n (b ∷ bs) (suc i) d b' lt start same a = (a.0, laid_set (n + length b.items.items) bs i d b' (omega arith) start same a.1)

next_or_last : (i n : ℕ) → i < n → (suc i < n) ⊎ (suc i ≡ n)
next_or_last i n lt = grind arith

-- If block `i` is the last block, or if block `i + 1` begins after position `at`, then block `i`
-- ends at or after `at`. If `at` is also less than the length of the list, block `i` ends after
-- `at`.
pub ends_at : (bs : List Block) (i : ℕ) (d : Block) (at : ℕ) → AreLaid 0 bs → i < length bs → (suc i < length bs → at < (get_or bs (suc i) d).start) → at ≤ length (flat bs)
    → (at ≤ (get_or bs i d).start + length (get_or bs i d).items.items) × (at < length (flat bs) → at < (get_or bs i d).start + length (get_or bs i d).items.items)
ends_at bs i d at a lt before within =
    elim (next_or_last i (length bs) lt) [
      | inl more ↦ (let e = next_begins 0 bs i d a more in let b = before more in (omega arith, λ l. omega arith))
      | inr last ↦ (let e = last_ends 0 bs i d a last in (omega arith, λ l. omega arith))
    ]

-- two reads of the block with index `i` return equal blocks
pub read_twice : (bs : List Block) (i : ℕ) (b c : Block) → i < length bs → b ≡ get_or bs i b → c ≡ get_or bs i c → b ≡ c
read_twice bs i b c lt e f = e ∙ get_or_default bs i b c lt ∙ sym f

module _ (bs : List Block) (at i : ℕ) (b : Block) (a : AreLaid 0 bs) (is : IsIn bs at i) (e : b ≡ get_or bs i b) where
  begins : b.start ≤ at
  begins = subst (λ (x : Block). x.start ≤ at) (sym e) (is.begins b)

  pub ends : at - b.start ≤ length b.items.items
  ends = (let lo = begins in let hi : at ≤ b.start + length b.items.items = subst (λ (x : Block). at ≤ x.start + length x.items.items) (sym e) (is.ends b) in omega arith)

  pub inside : at < length (flat bs) → at - b.start < length b.items.items
  inside lt = (let lo = begins in let hi : at < b.start + length b.items.items = subst (λ (x : Block). at < x.start + length x.items.items) (sym e) (is.inside lt b) in omega arith)

  whole : 0 + at ≡ (get_or bs i b).start + (at - b.start)
  whole = (let lo = begins in let s : (get_or bs i b).start ≡ b.start = ap (λ (x : Block). x.start) (sym e) in omega arith)

  same : (get_or bs i b).items.items ≡ b.items.items
  same = ap (λ (x : Block). x.items.items) (sym e)

  pub read : at < length (flat bs) → get_or (flat bs) at 0 ≡ get_or b.items.items (at - b.start) 0
  read lt =
      flat_get 0 bs i b (at - b.start) at a is.there (let hi = inside lt in omega (arith, ap length same)) whole
      ∙ ap (λ (l : List ℕ). get_or l (at - b.start) 0) same

  pub put_in : (b' : Block) (p : ℕ) → b'.items.items ≡ insert b.items.items (at - b.start) p → flat (set bs i b') ≡ insert (flat bs) at p
  put_in b' p new =
      flat_insert 0 bs i b b' (at - b.start) at p a is.there (let hi = ends in omega (arith, ap length same)) whole
      (new ∙ ap (λ (l : List ℕ). insert l (at - b.start) p) (sym same))

  pub taken_out : (b' : Block) → at < length (flat bs) → b'.items.items ≡ remove b.items.items (at - b.start) → flat (set bs i b') ≡ remove (flat bs) at
  taken_out b' lt new =
      flat_remove 0 bs i b b' (at - b.start) at a is.there (let hi = inside lt in omega (arith, ap length same)) whole
      (new ∙ ap (λ (l : List ℕ). remove l (at - b.start)) (sym same))
