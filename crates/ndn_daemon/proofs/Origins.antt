-- Origins on a command line.
use Rattle.std.proofs.Common.{◌≡◌, ◌≢◌, ℕ, ◌+◌, ◌<◌, Bool, false, true, List, [], ◌∷◌, ◌++◌, take, length, get_or, map, string_bytes, String, Option, None, Some, ◌&&◌, refl, sym, ap, ◌∙◌, arith}
use Rattle.std.specs.Prelude.{IsSome}
use Rattle.std.specs.List.{list_all}
use Rattle.std.specs.declared.net.socket_addr.SocketAddr.{SocketAddr}
use Rattle.std.proofs.lemmas.List.{map-append, take_more}
use Rattle.ndn_daemon.specs.UdpOptions.{AreOrigins, MayBeEndpoint, MayBePagesOf}

pub no_origins : (Z : Type 0) → AreOrigins {Z = Z} [] []
no_origins Z = (refl, omega arith, refl)

pub all-map : {X Y : Type 0} (p : Y → Bool) (f : X → Y) (xs : List X) → list_all (λ x. p (f x)) xs ≡ list_all p (map f xs)
all-map p f [] = refl
all-map p f (x ∷ xs) = ap (λ (b : Bool). p (f x) && b) (all-map p f xs)

pub not_both : false ≡ true → ⊥
not_both h = absurd cc

-- one more text was copied
pub copied_more : {S X : Type 0} (f : S → List ℕ) (g : X → List ℕ) (copies : List S) (copy : S) (texts : List X) (i : ℕ) (text : X) → i < length texts → get_or texts i text ≡ text → f copy ≡ g text
    → map f copies ≡ map g (take i texts) → map f (copies ++ copy ∷ []) ≡ map g (take (i + 1) texts)
copied_more f g copies copy texts i text inside at same h =
    map-append f copies (copy ∷ []) ∙ ap (λ (o : List (List ℕ)). o ++ f copy ∷ []) h ∙ ap (λ (o : List ℕ). map g (take i texts) ++ o ∷ []) same
    ∙ sym (map-append g (take i texts) (text ∷ [])) ∙ sym (ap (λ t. map g (take i texts ++ t ∷ [])) at) ∙ sym (ap (map g) (take_more texts i text inside))

none_mapped : {Z : Type 0} → (a : List (String Z)) → map string_bytes a ≡ [] → a ≡ []
none_mapped [] h = refl
none_mapped (x ∷ xs) h = absurd cc

same_some : (text : Option (List ℕ)) (a b : Option SocketAddr) → MayBeEndpoint text a → MayBeEndpoint text b → IsSome a → IsSome b
same_some None None None h k s = s
same_some None None (Some b) h k s = absurd k
same_some None (Some a) b h k s = absurd h
same_some (Some text) None b h k s = absurd h
same_some (Some text) (Some a) None h k s = absurd k
same_some (Some text) (Some a) (Some b) h k s = refl

same_none : {Z : Type 0} → (texts : List (List ℕ)) (a b : List (String Z)) → AreOrigins texts a → AreOrigins texts b → a ≢ [] → b ≢ []
same_none texts a b h k some = λ none. some (none_mapped a (h.0 ∙ sym k.0 ∙ ap (map string_bytes) none))

-- what may be the pages of a node with one reading of the command line may be those with another
pub same_pages : {Z : Type 0} → (text : Option (List ℕ)) (texts : List (List ℕ)) (a b : Option SocketAddr) (x y held : List (String Z)) → MayBeEndpoint text a → MayBeEndpoint text b → AreOrigins texts x → AreOrigins texts y
    → held ≡ y → MayBePagesOf a x → MayBePagesOf b held
same_pages text texts a b x y held ea eb ox oy is h = (
  (λ some. λ none. same_none texts x y ox oy (h.0 (same_some text b a eb ea some)) (sym is ∙ none)),
  (λ some. same_some text a b ea eb (h.1 (same_none texts y x oy ox (λ none. some (is ∙ none))))),
)
