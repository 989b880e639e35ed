-- A property is true of a token as borrowed octets exactly if it is true of the token as a plain
-- value.
use Rattle.std.proofs.Common.{List, ℕ, None, Some, Option}
use Rattle.std.specs.Prelude.{IfSome}
use Rattle.std.specs.Borrow.{Bor}
use Rattle.forwarder.specs.Handling.{token_of}

pub token_here : (P : List ℕ → Type 0) (token : Option (Bor (List ℕ))) → IfSome (token_of token) P → IfSome token (λ t. P t.now)
token_here P None h = tt
token_here P (Some t) h = h

pub token_there : (P : List ℕ → Type 0) (token : Option (Bor (List ℕ))) → IfSome token (λ t. P t.now) → IfSome (token_of token) P
token_there P None h = tt
token_there P (Some t) h = h
