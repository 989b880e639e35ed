-- The keys of a book, found by their names.
use Rattle.std.proofs.Common.{◌≡◌, ◌≢◌, ℕ, zero, suc, ◌+◌, ◌<◌, ◌≤◌, Bool, true, false, ◌||◌, List, [], ◌∷◌, ◌++◌, length, get_or, take, refl, sym, ap, subst, ◌∙◌, arith, inl, inr, Bor}
use Rattle.std.specs.Prelude.{Option, Some, None, is_some, Ok, Err, MatchOption}
use Rattle.std.specs.List.{AllByRecursion}
use Rattle.std.proofs.lemmas.Bool.{or_parts, or_from, or_cases, or_left, or_right, false_from_ne_true, eq-eqb, ne_eqb}
use Rattle.std.proofs.lemmas.List.{take_more, take_all, map-append}
use Rattle.std.specs.Ordering.{is_eq}
use Rattle.std.specs.declared.cmp.Ordering.{Ordering}
use Rattle.std.specs.declared.cmp.Ordering.TheVariants.{Less, Equal, Greater}
use Rattle.ndn_tlv.specs.Element.{Field}
use Rattle.ndn_names.specs.Order.{name_cmp}
use Rattle.ndn_names.specs.Key.{name_cmp-antisymmetric}
use Rattle.ndn_names.proofs.OrderLaws.{name_cmp-equal}
use Rattle.key_files.specs.declared.fault.KeyFault.TheVariants.{TwiceNamed, TooMany}
use Rattle.key_files.specs.declared.key.Key.{Key}
use Rattle.key_files.specs.declared.key.Key.TheVariants as variants
use Rattle.key_files.specs.declared.key_book.Entry.{Entry}
use Rattle.key_files.specs.KeyFile.{NamedKey, AreApart, IsAmong}
use Rattle.key_files.specs.KeyReading.{has_name, with_key}
use Rattle.key_files.specs.Shown.{named_keys}

-- ---- finding a name

pub same_name : (a b : List Field) → a ≡ b → is_eq (name_cmp a b) ≡ true
same_name a b e = ap is_eq (name_cmp-equal a b e)

pub none_among : (name : List Field) (keys : List NamedKey) → has_name name keys ≡ false → (other : Key) → IsAmong (name, other) keys → ⊥
none_among name [] h other a = a
none_among name (key ∷ keys) h other (inl e) =
    let parts = or_parts (is_eq (name_cmp key.0 name)) (has_name name keys) h in
    let same = same_name key.0 name (ap (λ (k : NamedKey). k.0) e) in
    cc
none_among name (key ∷ keys) h other (inr a) = none_among name keys (or_parts (is_eq (name_cmp key.0 name)) (has_name name keys) h).1 other a

-- none of the first i keys of a book has the name
abbrev pub HasNone : List Field → List Entry → ℕ → Type 0
HasNone name keys i = has_name name (named_keys (take i keys)) ≡ false

pub one_name : (a b : List Field) → is_eq (name_cmp a b) ≡ true → a ≡ b
one_name a b e = name_cmp-antisymmetric a b (is_equal (name_cmp a b) e)
  where
    is_equal : (o : Ordering) → is_eq o ≡ true → o ≡ Equal
    is_equal Less e = absurd cc
    is_equal Equal e = refl
    is_equal Greater e = absurd cc

none_append : (name : List Field) (front : List NamedKey) (key : NamedKey) → has_name name front ≡ false → is_eq (name_cmp key.0 name) ≡ false → has_name name (front ++ key ∷ []) ≡ false
none_append name [] key h other = or_from (is_eq (name_cmp key.0 name)) false other refl
none_append name (first ∷ front) key h other =
    let parts = or_parts (is_eq (name_cmp first.0 name)) (has_name name front) h in
    or_from (is_eq (name_cmp first.0 name)) (has_name name (front ++ key ∷ [])) parts.0 (none_append name front key parts.1 other)

pub none_more : (name : List Field) (keys : List Entry) (i : ℕ) (key : Entry) → i < length keys → key ≡ get_or keys i key → is_eq (name_cmp key.name name) ≡ false → HasNone name keys i → HasNone name keys (i + 1)
none_more name keys i key lt is other h =
    let grown : named_keys (take (i + 1) keys) ≡ named_keys (take i keys) ++ (key.name, key.key) ∷ [] =
    ap named_keys (take_more keys i key lt ∙ ap (λ (k : Entry). take i keys ++ k ∷ []) (sym is)) ∙ map-append (λ e. (e.name, e.key)) (take i keys) (key ∷ []) in
    ap (has_name name) grown ∙ none_append name (named_keys (take i keys)) (key.name, key.key) h other

pub none_at_all : (name : List Field) (keys : List Entry) (i : ℕ) → length keys ≤ i → HasNone name keys i → has_name name (named_keys keys) ≡ false
none_at_all name keys i done h = ap (λ (l : List Entry). has_name name (named_keys l)) (sym (take_all i keys done)) ∙ h

pub among_at : (name : List Field) (keys : List Entry) (i : ℕ) (key : Entry) → i < length keys → key ≡ get_or keys i key → is_eq (name_cmp key.name name) ≡ true → IsAmong (name, key.key) (named_keys keys)
among_at name [] i key lt is e = absurd (omega arith)
among_at name (first ∷ keys) zero key lt is e =
    inl (ap (λ (e : Entry). (e.name, e.key)) (sym is) ∙ ap (λ (n : List Field). (n, key.key)) (one_name key.name name e))
among_at name (first ∷ keys) (suc i) key lt is e = inr (among_at name keys i key (omega arith) is e)

-- keys of a book that have the same name are the same key
not_same : (keys : List NamedKey) (name : List Field) (key : Key) → AllByRecursion (λ other. other.0 ≢ name) keys → IsAmong (name, key) keys → ⊥
not_same [] name key apart a = a
not_same (first ∷ keys) name key apart (inl e) = apart.0 (ap (λ (k : NamedKey). k.0) e)
not_same (first ∷ keys) name key apart (inr a) = not_same keys name key apart.1 a

pub one_key : (keys : List NamedKey) (name : List Field) (a b : Key) → AreApart keys → IsAmong (name, a) keys → IsAmong (name, b) keys → a ≡ b
one_key [] name a b apart in_a in_b = absurd in_a
one_key (first ∷ keys) name a b apart (inl e) (inl f) = ap (λ (k : NamedKey). k.1) (sym e ∙ f)
one_key (first ∷ keys) name a b apart (inl e) (inr f) = absurd (not_same keys name b (subst (λ (n : List Field). AllByRecursion (λ other. other.0 ≢ n) keys) (ap (λ (k : NamedKey). k.0) e) apart.0) f)
one_key (first ∷ keys) name a b apart (inr e) (inl f) = absurd (not_same keys name a (subst (λ (n : List Field). AllByRecursion (λ other. other.0 ≢ n) keys) (ap (λ (k : NamedKey). k.0) f) apart.0) e)
one_key (first ∷ keys) name a b apart (inr e) (inr f) = one_key keys name a b apart.1 e f

-- where a name has a public key, it has no secret
pub no_secret : (keys : List NamedKey) (name : List Field) (public : List ℕ) → AreApart keys → IsAmong (name, variants.Ecdsa public) keys → (octets : List ℕ) → IsAmong (name, variants.Hmac octets) keys → ⊥
no_secret keys name public apart here octets other =
    let same : variants.Ecdsa public ≡ variants.Hmac octets = one_key keys name (variants.Ecdsa public) (variants.Hmac octets) apart here other in cc

-- where a name has a secret, it has no public key
pub no_public : (keys : List NamedKey) (name : List Field) (secret : List ℕ) → AreApart keys → IsAmong (name, variants.Hmac secret) keys → (octets : List ℕ) → IsAmong (name, variants.Ecdsa octets) keys → ⊥
no_public keys name secret apart here octets other = no_secret keys name octets apart other secret here

-- ---- keys followed by one more key, and keys with a given name

pub has_name_more : (name : List Field) (keys : List NamedKey) (key : NamedKey) → has_name name (keys ++ key ∷ []) ≡ (has_name name keys || is_eq (name_cmp key.0 name))
has_name_more name [] key = or_nothing (is_eq (name_cmp key.0 name))
  where
    or_nothing : (b : Bool) → (b || false) ≡ b
    or_nothing true = refl
    or_nothing false = refl
has_name_more name (first ∷ keys) key =
    ap (λ (b : Bool). is_eq (name_cmp first.0 name) || b) (has_name_more name keys key) ∙ regrouped (is_eq (name_cmp first.0 name)) (has_name name keys) (is_eq (name_cmp key.0 name))
  where
    regrouped : (a b c : Bool) → (a || (b || c)) ≡ ((a || b) || c)
    regrouped true b c = refl
    regrouped false b c = refl

pub has_from_among : (name : List Field) (keys : List NamedKey) (other : Key) → IsAmong (name, other) keys → has_name name keys ≡ true
has_from_among name [] other a = absurd a
has_from_among name (key ∷ keys) other (inl e) = or_left (is_eq (name_cmp key.0 name)) (has_name name keys) (same_name key.0 name (ap (λ (k : NamedKey). k.0) e))
has_from_among name (key ∷ keys) other (inr a) = or_right (is_eq (name_cmp key.0 name)) (has_name name keys) (has_from_among name keys other a)

pub among_from_has : (name : List Field) (keys : List NamedKey) → has_name name keys ≡ true → (other : Key) × IsAmong (name, other) keys
among_from_has name [] h = absurd cc
among_from_has name (key ∷ keys) h = elim (or_cases (is_eq (name_cmp key.0 name)) (has_name name keys) h) [
  | inl e ↦ (key.1, inl (ap (λ (n : List Field). (n, key.1)) (one_name key.0 name e)))
  | inr more ↦ let rest = among_from_has name keys more in (rest.0, inr rest.1)
]

-- a search for a name finds a key exactly if one of the keys has this name
pub found_has : (name : List Field) (keys : List NamedKey) (r : Option (Bor Key)) → MatchOption r ((key : Key) → IsAmong (name, key) keys → ⊥) (λ key. IsAmong (name, key.now) keys)
    → is_some r ≡ has_name name keys
found_has name keys None h = sym (false_from_ne_true (has_name name keys) (λ t. let some = among_from_has name keys t in h some.0 some.1))
found_has name keys (Some key) h = sym (has_from_among name keys key.now h)

pub named_twice : (n : ℕ) (keys : List NamedKey) (key : NamedKey) → has_name key.0 keys ≡ true → with_key n keys key ≡ Err (TwiceNamed n)
named_twice n keys key h = rw h refl

pub one_too_many : (n : ℕ) (keys : List NamedKey) (key : NamedKey) → has_name key.0 keys ≡ false → length keys ≡ 256 → with_key n keys key ≡ Err TooMany
one_too_many n keys key h full = rw (h, eq-eqb (length keys) 256 full) refl

pub key_added : (n : ℕ) (keys : List NamedKey) (key : NamedKey) → has_name key.0 keys ≡ false → length keys ≢ 256 → with_key n keys key ≡ Ok (keys ++ key ∷ [])
key_added n keys key h room = rw (h, ne_eqb (length keys) 256 room) refl

pub apart_more : (keys : List NamedKey) (key : NamedKey) → AreApart keys → has_name key.0 keys ≡ false → AreApart (keys ++ key ∷ [])
apart_more [] key apart h = (tt, tt)
apart_more (first ∷ keys) key apart h =
    let parts = or_parts (is_eq (name_cmp first.0 key.0)) (has_name key.0 keys) h in
    (others keys apart.0 (λ e. let same = same_name first.0 key.0 (sym e) in cc), apart_more keys key apart.1 parts.1)
  where
    others : (rest : List NamedKey) → AllByRecursion (λ other. other.0 ≢ first.0) rest → key.0 ≢ first.0 → AllByRecursion (λ other. other.0 ≢ first.0) (rest ++ key ∷ [])
    others [] h last = (last, tt)
    others (other ∷ rest) h last = (h.0, others rest h.1 last)

-- if an entry is added at the end of `keys`, its name and key are added at the end of
-- `named_keys keys`
pub named_more : (keys after : List Entry) (key : Entry) (shown : List NamedKey) → named_keys keys ≡ shown → after ≡ keys ++ key ∷ [] → named_keys after ≡ shown ++ (key.name, key.key) ∷ []
named_more keys after key shown view e =
    ap named_keys e ∙ map-append (λ e. (e.name, e.key)) keys (key ∷ []) ∙ ap (λ (front : List NamedKey). front ++ (key.name, key.key) ∷ []) view
