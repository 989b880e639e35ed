-- The faults of key files that are refused.
use Rattle.std.proofs.Common.{◌≡◌, ◌≢◌, ℕ, ◌+◌, ◌≤◌, true, false, List, [], ◌∷◌, ◌++◌, length, Result, Ok, Err, refl, sym, ap, subst, ◌∙◌, append_assoc, arith, inl, inr}
use Rattle.std.proofs.lemmas.Bool.{cases_Bool, cases_eq, false_from_ne_true}
use Rattle.std.proofs.lemmas.List.{length-append}
use Rattle.ndn_tlv.specs.Reading.{on_result}
use Rattle.key_files.specs.declared.fault.KeyFault.{KeyFault}
use Rattle.key_files.specs.declared.fault.KeyFault.TheVariants.{BadLine, BadKey, TwiceNamed, TooMany, Memory}
use Rattle.key_files.specs.KeyFile.{NamedKey, AreApart, AreKeysOf, IsKeyLine, is_skipped, lines_of}
use Rattle.key_files.specs.FirstFault.{IsReached, FaultIn, FirstFault}
use Rattle.key_files.specs.KeyReading.{has_name, line_key, with_key, after_line, keys_from, keys_in}
use Rattle.key_files.proofs.Keys.{key_found, key_again, IsFaultAt, fault_found, bad_line_again, bad_key_again}
use Rattle.key_files.proofs.Files.{keys_through}
use Rattle.key_files.proofs.Books.{none_among, among_from_has, has_from_among, named_twice, one_too_many, key_added, apart_more}

-- adding a skipped line at the end of the lines does not change the keys
skipped_after : (before : List (List ℕ)) (keys : List NamedKey) (line : List ℕ) → AreKeysOf before keys → is_skipped line ≡ true → AreKeysOf (before ++ line ∷ []) keys
skipped_after [] keys line h skipped = inl (skipped, h)
skipped_after (first ∷ before) keys line (inl h) skipped = inl (h.0, skipped_after before keys line h.1 skipped)
skipped_after (first ∷ before) keys line (inr h) skipped = inr (h.0, (h.1.0, h.1.1, h.1.2, h.1.3, skipped_after before h.1.1 line h.1.4 skipped))

key_after : (before : List (List ℕ)) (keys : List NamedKey) (line : List ℕ) (key : NamedKey) → AreKeysOf before keys → is_skipped line ≡ false → IsKeyLine line key → AreKeysOf (before ++ line ∷ []) (keys ++ key ∷ [])
key_after [] keys line key h kept is = inr (kept, (key, [], ap (λ (k : List NamedKey). k ++ key ∷ []) h, is, refl))
key_after (first ∷ before) keys line key (inl h) kept is = inl (h.0, key_after before keys line key h.1 kept is)
key_after (first ∷ before) keys line key (inr h) kept is =
    inr (h.0, (h.1.0, h.1.1 ++ key ∷ [], ap (λ (k : List NamedKey). k ++ key ∷ []) h.1.2, h.1.3, key_after before h.1.1 line key h.1.4 kept is))

is_told : (lines : List (List ℕ)) (found told : KeyFault) → (r : Result (List NamedKey) KeyFault) → r ≡ Err found → r ≡ Err told → FaultIn lines found → FaultIn lines told
is_told lines found told r e f h = let same : Err found ≡ Err told = sym e ∙ f in subst (FaultIn lines) (cc) h

-- a line that is reached has the fault that its own octets have
own_fault : (lines : List (List ℕ)) (n : ℕ) (line : List ℕ) (keys : List NamedKey) (own : KeyFault) → IsReached lines n line keys → IsFaultAt n line own → FaultIn lines own
own_fault lines n line keys own reached (inl (is, none)) = subst (FaultIn lines) (sym is) (line, keys, reached, none)
own_fault lines n line keys own reached (inr (is, bad)) = subst (FaultIn lines) (sym is) (line, keys, reached, bad)

-- Let the lines `before` have no fault, and let `line` not be skipped. If reading `line` and then
-- `lines` returns `fault`, the lines `before ++ line ∷ lines` have the fault `fault`.
line_faulty : (n : ℕ) (before lines : List (List ℕ)) (line : List ℕ) (keys : List NamedKey) (fault : KeyFault) → n ≡ length before + 1 → is_skipped line ≡ false → AreKeysOf before keys → AreApart keys → length keys ≤ 256
    → ((key : NamedKey) → IsKeyLine line key → has_name key.0 keys ≡ false → length keys ≢ 256 → keys_from (n + 1) (keys ++ key ∷ []) lines ≡ Err fault → FaultIn (before ++ line ∷ lines) fault)
    → (r : Result NamedKey KeyFault) → line_key n line ≡ r → on_result (λ more. keys_from (n + 1) more lines) (λ told. Err told) (on_result (with_key n keys) (λ told. Err told) r) ≡ Err fault → FaultIn (before ++ line ∷ lines) fault
line_faulty n before lines line keys fault number kept are apart few later (Err own) is e =
    let reached : IsReached (before ++ line ∷ lines) n line keys = record { before = before; after = lines; whole = refl; number = number; kept = kept; are = are; apart = apart; few = few } in
    is_told (before ++ line ∷ lines) own fault _ refl e (own_fault (before ++ line ∷ lines) n line keys own reached (fault_found n line own is))
line_faulty n before lines line keys fault number kept are apart few later (Ok key) is e =
    let reached : IsReached (before ++ line ∷ lines) n line keys = record { before = before; after = lines; whole = refl; number = number; kept = kept; are = are; apart = apart; few = few } in
    let key_line = key_found n line key is in
    elim (cases_Bool (has_name key.0 keys)) [
      | inl twice ↦
          is_told (before ++ line ∷ lines) (TwiceNamed n) fault (on_result (λ more. keys_from (n + 1) more lines) (λ told. Err told) (with_key n keys key)) (rw (named_twice n keys key twice) refl) e
          (line, keys, reached, (key, key_line, among_from_has key.0 keys twice))
      | inr other ↦ elim (cases_eq (length keys) 256) [
        | inl full ↦
            is_told (before ++ line ∷ lines) TooMany fault (on_result (λ more. keys_from (n + 1) more lines) (λ told. Err told) (with_key n keys key)) (rw (one_too_many n keys key other full) refl) e
            (n, line, keys, reached, full, (key, key_line, none_among key.0 keys other))
        | inr room ↦ later key key_line other room (rw (key_added n keys key other room) at e)
      ]
    ]

faulty : (n : ℕ) (before lines : List (List ℕ)) (keys : List NamedKey) (fault : KeyFault) → n ≡ length before + 1 → AreKeysOf before keys → AreApart keys → length keys ≤ 256 → keys_from n keys lines ≡ Err fault
    → FaultIn (before ++ lines) fault
unfolding keys_from
faulty n before [] keys fault number are apart few e = absurd cc
faulty n before (line ∷ lines) keys fault number are apart few e =
    let next : n + 1 ≡ length (before ++ line ∷ []) + 1 = omega (arith, length-append before (line ∷ [])) in
    let moved = subst (λ (whole : List (List ℕ)). FaultIn whole fault) (append_assoc before (line ∷ []) lines) in
    elim (cases_Bool (is_skipped line)) [
      | inl skipped ↦ moved (faulty (n + 1) (before ++ line ∷ []) lines keys fault next (skipped_after before keys line are skipped) apart few (rw skipped at e))
      | inr kept ↦
          line_faulty n before lines line keys fault number kept are apart few
          (λ key is other room rest. moved
          (faulty (n + 1) (before ++ line ∷ []) lines (keys ++ key ∷ []) fault next (key_after before keys line key are kept is) (apart_more keys key apart other)
          (omega (arith, room, length-append keys (key ∷ []))) rest))
          (line_key n line) refl (rw kept at e)
    ]

pub first_fault : (text : List ℕ) (fault : KeyFault) → keys_in text ≡ Err fault → FirstFault text fault
first_fault text fault e = faulty 1 [] (lines_of text) [] fault refl refl tt (omega arith) e

-- ---- if lines have a fault, reading the lines returns this fault

told_at : (lines : List (List ℕ)) (n : ℕ) (line : List ℕ) (keys : List NamedKey) (fault : KeyFault) → IsReached lines n line keys → after_line n keys line ≡ Err fault → keys_from 1 [] lines ≡ Err fault
unfolding keys_from
told_at lines n line keys fault h e =
    let at : 1 + length h.before ≡ n = omega (arith, h.number) in
    ap (keys_from 1 []) h.whole ∙ keys_through 1 h.before (line ∷ h.after) [] keys h.are h.apart h.few ∙ ap (λ (m : ℕ). keys_from m keys (line ∷ h.after)) at ∙ rw e refl

after_key : (n : ℕ) (keys : List NamedKey) (line : List ℕ) (key : NamedKey) → is_skipped line ≡ false → IsKeyLine line key → after_line n keys line ≡ with_key n keys key
after_key n keys line key kept is = rw (kept, key_again n line key is) refl

again_in : (lines : List (List ℕ)) (fault : KeyFault) → FaultIn lines fault → keys_from 1 [] lines ≡ Err fault
again_in lines (BadLine n) (line, keys, h, none) = told_at lines n line keys (BadLine n) h (rw (h.kept, bad_line_again n line none) refl)
again_in lines (BadKey n) (line, keys, h, (key, form, wrong)) = told_at lines n line keys (BadKey n) h (rw (h.kept, bad_key_again n line key form wrong) refl)
again_in lines (TwiceNamed n) (line, keys, h, (key, is, (other, among))) =
    told_at lines n line keys (TwiceNamed n) h (after_key n keys line key h.kept is ∙ named_twice n keys key (has_from_among key.0 keys other among))
again_in lines TooMany (n, line, keys, h, full, (key, is, none)) =
    let other = false_from_ne_true (has_name key.0 keys) (λ t. let some = among_from_has key.0 keys t in none some.0 some.1) in
    told_at lines n line keys TooMany h (after_key n keys line key h.kept is ∙ one_too_many n keys key other full)
again_in lines Memory none = absurd none

pub again_fault : (text : List ℕ) (fault : KeyFault) → FirstFault text fault → keys_in text ≡ Err fault
again_fault text fault h = again_in (lines_of text) fault h
