-- The configuration of a file whose octets are known.
use Rattle.std.proofs.Common.{◌≡◌, ◌≤◌, ℕ, List, Ok, length, subst}
use Rattle.std.specs.Prelude.{IfSome, Option, None, Some}
use Rattle.node_config.specs.File.{FileOf}
use Rattle.node_config.specs.Plain.{PlainConfig}

-- the configuration of the octets that were read is that of the known octets
pub known_file : (known : Option (List ℕ)) (read : List ℕ) (config : PlainConfig) (limit : ℕ) → IfSome known (λ octets. (read ≡ octets) × (length octets ≤ limit)) → FileOf read (Ok config)
    → IfSome known (λ octets. FileOf octets (Ok config))
known_file None read config limit h k = tt
known_file (Some octets) read config limit h k = subst (λ (o : List ℕ). FileOf o (Ok config)) h.0 k
