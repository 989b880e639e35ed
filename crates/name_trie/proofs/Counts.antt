-- The number of names that have a value.
use Rattle.std.proofs.Common.{◌≡◌, ◌≢◌, ◌+◌, ◌-◌, true, false, cond, List, refl, sym, ap, ◌∙◌}
use Rattle.std.specs.Prelude.{Option, None, Some, is_some, is_none}
use Rattle.std.specs.Option.{option_map}
use Rattle.std.specs.FinMap.{get, len, insert, remove, get-empty, len-insert, len-remove, empty_of_len}
use Rattle.ndn_tlv.specs.Element.{Field}
use Rattle.ndn_names.specs.Order.{name_cmp}
use Rattle.ndn_names.specs.Key.{name_cmp-total}
use Rattle.name_trie.specs.ByName.{ByName}

pub not_some : {X : Type 0} (o : Option X) → is_none o ≡ true → is_some o ≡ false
not_some None e = refl
not_some (Some x) e = absurd cc

pub not_none : {X : Type 0} (o : Option X) → is_none o ≡ false → is_some o ≡ true
not_none None e = absurd cc
not_none (Some x) e = refl

pub is_some_map : {X Y : Type 0} (f : X → Y) (o : Option X) → is_some o ≡ is_some (option_map f o)
is_some_map f None = refl
is_some_map f (Some x) = refl

module _ {V : Type 0} (m : ByName V) (name : List Field) where
  pub len_added : (v : V) → is_none (get m name) ≡ true → len m + 1 ≡ len (insert m name v)
  len_added v e = sym (len-insert name_cmp-total m name v ∙ ap (λ b. cond b (len m) (len m + 1)) (not_some (get m name) e))

  pub len_set : (v : V) → is_some (get m name) ≡ true → len m ≡ len (insert m name v)
  len_set v e = sym (len-insert name_cmp-total m name v ∙ ap (λ b. cond b (len m) (len m + 1)) e)

  pub len_fewer : is_some (get m name) ≡ true → len m - 1 ≡ len (remove m name)
  len_fewer e = sym (len-remove name_cmp-total m name ∙ ap (λ b. cond b (len m - 1) (len m)) e)

  pub len_same : is_some (get m name) ≡ false → len m ≡ len (remove m name)
  len_same e = sym (len-remove name_cmp-total m name ∙ ap (λ b. cond b (len m - 1) (len m)) e)

  pub not_empty : is_some (get m name) ≡ true → len m ≢ 0
  not_empty e z =
      (let gone : is_some (get m name) ≡ false = ap (λ (m : ByName V). is_some (get m name)) (empty_of_len m z) ∙ ap is_some (get-empty name_cmp name) in cc)
