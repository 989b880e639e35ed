-- The keys of a block are looked through one after another.
use Rattle.std.proofs.Common.{◌≡◌, ℕ, List, [], ◌∷◌, Bor, map, refl, ap}
use Rattle.std.specs.Prelude.{None, Some, ◌||◌}
use Rattle.std.specs.List.{list_any}
use Rattle.info_rules.specs.Tree.{Block, blocks_of, parted}
use Rattle.info_rules.specs.Keys.{is_word}
use Rattle.node_config.specs.declared.fault.ConfigFault.{ConfigFault}
use Rattle.node_config.specs.Keys.{key_fault, keys_fault}

pub known_shown : (key : Block) (words : List (Bor (List ℕ))) → list_any (λ word. is_word word key) (map (λ (word : Bor (List ℕ)). word.now) words) ≡ list_any (λ (word : Bor (List ℕ)). is_word word.now key) words
known_shown key [] = refl
known_shown key (word ∷ words) = ap (λ t. is_word word.now key || t) (known_shown key words)

-- no entries have no keys
pub no_keys : (depth : ℕ) → blocks_of depth [] ≡ []
unfolding parted
no_keys depth = refl

-- if the first key has no fault, then the keys have the fault of the other keys
pub rest_is_sound : (words : List (List ℕ)) (all : List Block) (key : Block) (others : List Block) → all ≡ key ∷ others → key_fault words key others ≡ None → keys_fault words all ≡ keys_fault words others
unfolding keys_fault
rest_is_sound words all key others e h = rw (e, h) refl

-- if the first key has a fault, then this is the fault of the keys
pub first_is_faulty : (words : List (List ℕ)) (all : List Block) (key : Block) (others : List Block) (fault : ConfigFault) → all ≡ key ∷ others → key_fault words key others ≡ Some fault → keys_fault words all ≡ Some fault
unfolding keys_fault
first_is_faulty words all key others fault e h = rw (e, h) refl

pub none_is_faulty : (words : List (List ℕ)) → keys_fault words [] ≡ None
unfolding keys_fault
none_is_faulty words = refl
