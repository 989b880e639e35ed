-- A text spells at most one value of each kind.
use Rattle.std.proofs.Common.{◌≡◌, ℕ, List, Bool, true, false, refl, sym, ◌∙◌}
use Rattle.std.specs.Prelude.{Option, None, Some, Ok}
use Rattle.ndn_names.specs.ReadsAs.{ReadsAs}
use Rattle.ndn_names.proofs.Names.{done_is}
use Rattle.ndn_names.proofs.PathReading.{text_again}
use Rattle.info_rules.specs.Tree.{Block}
use Rattle.node_config.specs.declared.config.LogLevel.TheVariants as levels
use Rattle.node_config.specs.declared.config.Scope.TheVariants as scopes
use Rattle.node_config.specs.declared.fault.ConfigFaultKind.{ConfigFaultKind}
use Rattle.node_config.specs.declared.fault.ConfigFaultKind.TheVariants.{BadPath, BadPrefix}
use Rattle.node_config.specs.Faults.{fault_on}
use Rattle.node_config.specs.Keys.{text_in}
use Rattle.node_config.specs.Reading.{Gives}
use Rattle.node_config.specs.Values.{PathAt, PrefixAt, PrefixIfGiven, Spelled, SpelledIfGiven, ValueAt, ValueOr, given_or}
use Rattle.node_config.specs.Words.{IsCapacity, IsConsent, IsLevel, IsPath, IsScope, IsSeconds, IsTurns, word_of}
use Rattle.node_config.proofs.Sure.{IsOne, IsSure, sure_finds, sure_gives, sure_then}

pub one_capacity : (text : List ℕ) → IsOne (IsCapacity text)
one_capacity text x y h k = let e : x.0 ≡ y.0 = sym h.0.1 ∙ k.0.1 in λ i. record { 0 = e i }

pub one_time : (text : List ℕ) → IsOne (IsSeconds text)
one_time text x y h k = let e : x.0 ≡ y.0 = sym h.0.1 ∙ k.0.1 in λ i. record { 0 = e i }

pub one_number : (text : List ℕ) → IsOne (IsTurns text)
one_number text x y h k = let e : x.0 ≡ y.0 = sym h.0.1 ∙ k.0.1 in λ i. record { 0 = e i }

pub one_level : (text : List ℕ) → IsOne (IsLevel text)
one_level text levels.None levels.None h k = refl
one_level text levels.None levels.Events h k = cc (h, k)
one_level text levels.None levels.All h k = cc (h, k)
one_level text levels.Events levels.None h k = cc (h, k)
one_level text levels.Events levels.Events h k = refl
one_level text levels.Events levels.All h k = cc (h, k)
one_level text levels.All levels.None h k = cc (h, k)
one_level text levels.All levels.Events h k = cc (h, k)
one_level text levels.All levels.All h k = refl

pub one_scope : (text : List ℕ) → IsOne (IsScope text)
one_scope text scopes.Local scopes.Local h k = refl
one_scope text scopes.Local scopes.Far h k = cc (h, k)
one_scope text scopes.Far scopes.Local h k = cc (h, k)
one_scope text scopes.Far scopes.Far h k = refl

same_word : (text : List ℕ) (a b : Bool) → text ≡ word_of a → text ≡ word_of b → a ≡ b
same_word text true true h k = refl
same_word text true false h k = cc (h, k)
same_word text false true h k = cc (h, k)
same_word text false false h k = refl

pub one_consent : (text : List ℕ) → IsOne (IsConsent text)
one_consent text x y h k = let e : x.0 ≡ y.0 = same_word text x.0 y.0 h k in λ i. record { 0 = e i }

one_path : (text : List ℕ) → IsOne (IsPath text)
one_path text x y h k = h.0 ∙ sym k.0

one_prefix : (text : List ℕ) → IsOne (ReadsAs text)
one_prefix text a b h k = done_is a b (sym (text_again text a h) ∙ text_again text b k)

module _ {A : Type 0} (Spells : List ℕ → A → Type 0) (one : (text : List ℕ) → IsOne (Spells text)) (kind : ConfigFaultKind) where
  sure_if_given : (given : Option (ℕ × List ℕ)) → IsSure (SpelledIfGiven Spells kind given)
  sure_if_given None = sure_gives (Ok None)
  sure_if_given (Some text) = sure_then (Spelled Spells kind text) (λ x. Gives (Ok (Some x))) (sure_finds (Spells text.1) (fault_on kind text.0) (one text.1)) (λ x. sure_gives (Ok (Some x)))

  pub sure_value : (word : List ℕ) (keys : List Block) → IsSure (ValueAt Spells kind word keys)
  sure_value word keys = sure_then (Gives (text_in word keys)) (SpelledIfGiven Spells kind) (sure_gives (text_in word keys)) sure_if_given

  pub sure_value_or : (default : A) (word : List ℕ) (keys : List Block) → IsSure (ValueOr Spells kind default word keys)
  sure_value_or default word keys = sure_then (ValueAt Spells kind word keys) (λ given. Gives (Ok (given_or default given))) (sure_value word keys) (λ given. sure_gives (Ok (given_or default given)))

pub sure_path : (word : List ℕ) (keys : List Block) → IsSure (PathAt word keys)
sure_path word keys = sure_value IsPath one_path BadPath word keys

sure_prefix_if : (given : Option (ℕ × List ℕ)) → IsSure (PrefixIfGiven given)
sure_prefix_if None = sure_finds _ _ (one_prefix _)
sure_prefix_if (Some text) = sure_finds (ReadsAs text.1) (fault_on BadPrefix text.0) (one_prefix text.1)

pub sure_prefix : (word : List ℕ) (keys : List Block) → IsSure (PrefixAt word keys)
sure_prefix word keys = sure_then (Gives (text_in word keys)) PrefixIfGiven (sure_gives (text_in word keys)) sure_prefix_if
