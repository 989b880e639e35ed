-- Splitting words at their backslashes.
use Rattle.std.proofs.Common.{◌≡◌, ◌≢◌, ℕ, suc, ◌<◌, true, List, [], ◌∷◌, ◌++◌, length, take, drop, get_or, refl, sym, ap, ◌∙◌, append_assoc, arith}
use Rattle.std.proofs.lemmas.Bool.{ne_eqb}
use Rattle.ndn_names.proofs.TextReading.{Lacks}
use Rattle.info_rules.specs.Words.{is_escaped, unescaped}

pub no_backslash : (word : List ℕ) → Lacks 92 word → unescaped word ≡ word
unfolding unescaped
no_backslash [] h = refl
no_backslash (o ∷ []) h = refl
no_backslash (o ∷ (next ∷ word)) h = rw (ne_eqb o 92 h.0) (ap (λ (w : List ℕ). o ∷ w) (no_backslash (next ∷ word) h.1))

pub lacks_from_places : (octet : ℕ) (text : List ℕ) → ((i : ℕ) → i < length text → get_or text i 0 ≢ octet) → Lacks octet text
lacks_from_places octet [] h = tt
lacks_from_places octet (o ∷ text) h = (h 0 (omega arith), lacks_from_places octet text (λ i lt. h (suc i) (omega arith)))

-- `unescaped` leaves an octet other than a backslash unchanged
plain_octet : (o : ℕ) (word : List ℕ) → o ≢ 92 → unescaped (o ∷ word) ≡ o ∷ unescaped word
unfolding unescaped
plain_octet o [] other = refl
plain_octet o (next ∷ word) other = rw (ne_eqb o 92 other) refl

pub plain_front : (front word : List ℕ) → Lacks 92 front → unescaped (front ++ word) ≡ front ++ unescaped word
plain_front [] word h = refl
plain_front (o ∷ front) word h = plain_octet o (front ++ word) h.0 ∙ ap (λ (w : List ℕ). o ∷ w) (plain_front front word h.1)

-- `escaped_octet` and `kept_backslash`: `unescaped` removes a backslash before a backslash or a
-- quote, and leaves a backslash before another octet or at the end of the word unchanged
pub escaped_octet : (next : ℕ) (word : List ℕ) → is_escaped next ≡ true → unescaped (92 ∷ (next ∷ word)) ≡ next ∷ unescaped word
unfolding unescaped
escaped_octet next word h = rw h refl

pub kept_backslash : (word : List ℕ) → get_or word 0 0 ≢ 92 → get_or word 0 0 ≢ 34 → unescaped (92 ∷ word) ≡ 92 ∷ unescaped word
unfolding unescaped
kept_backslash [] bare plain = refl
kept_backslash (next ∷ word) bare plain = rw (ne_eqb next 92 bare, ne_eqb next 34 plain) refl

pub escape_front : (following sign after : List ℕ) → 0 < length following → is_escaped (get_or following 0 0) ≡ true → sign ≡ take 1 following → after ≡ drop 1 following
    → unescaped (92 ∷ following) ≡ sign ++ unescaped after
escape_front [] sign after some h is_sign is_after = absurd (omega arith)
escape_front (next ∷ following) sign after some h is_sign is_after = rw (is_sign, is_after) (escaped_octet next following h)

-- if one step of the loop appends the unescaped form of the octets that it reads, the loop
-- invariant still holds
pub further : (word text before following sign after rest : List ℕ) → unescaped word ≡ text ++ unescaped rest → rest ≡ before ++ 92 ∷ following → Lacks 92 before → unescaped (92 ∷ following) ≡ sign ++ unescaped after
    → unescaped word ≡ ((text ++ before) ++ sign) ++ unescaped after
further word text before following sign after rest e parts plain read =
    e ∙ ap (λ (w : List ℕ). text ++ unescaped w) parts ∙ ap (λ (w : List ℕ). text ++ w) (plain_front before (92 ∷ following) plain ∙ ap (λ (w : List ℕ). before ++ w) read)
    ∙ sym (append_assoc text before (sign ++ unescaped after)) ∙ sym (append_assoc (text ++ before) sign (unescaped after))

pub last_part : (word text rest : List ℕ) → unescaped word ≡ text ++ unescaped rest → Lacks 92 rest → unescaped word ≡ text ++ rest
last_part word text rest e plain = e ∙ ap (λ (w : List ℕ). text ++ w) (no_backslash rest plain)
