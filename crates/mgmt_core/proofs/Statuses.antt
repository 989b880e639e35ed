-- Each status has a text.
use Rattle.std.proofs.Common.{ℕ, Bool, List, [], ◌∷◌, true, false, cond, refl, Option, None, Some, eqb}
use Rattle.std.specs.Prelude.{Result, Err, IfErr, IsSome, length, nat_lt}
use Rattle.ndn_tlv.specs.Element.{Field}
use Rattle.mgmt_core.specs.declared.action.Action.{Action}
use Rattle.mgmt_core.specs.Commands.{Refusal, FaceNotOpen, PrefixTooLong, TableFull, UnknownStrategy, text_of}
use Rattle.mgmt_core.specs.Reading.{PlainCommand, action_at, command_before_digest, on_option, or_status, parameters_at}
use Rattle.mgmt_core.specs.Tables.{code_of, first_status}

has_code : (r : Refusal) → IsSome (text_of (code_of r))
has_code PrefixTooLong = refl
has_code FaceNotOpen = refl
has_code UnknownStrategy = refl
has_code TableFull = refl

pub first_has_text : (refused : Refusal → Bool) (rs : List Refusal) → IsSome (text_of (first_status refused rs))
first_has_text refused [] = refl
first_has_text refused (r ∷ rs) = by (refused r) (first_has_text refused rs)
  where
    by : (b : Bool) → IsSome (text_of (first_status refused rs)) → IsSome (text_of (cond b (code_of r) (first_status refused rs)))
    by true again = has_code r
    by false again = again

abbrev HasText : Result PlainCommand ℕ → Type 0
HasText r = IfErr r (λ status. IsSome (text_of status))

parameters_have : (o : Option PlainCommand) → HasText (or_status 400 o)
parameters_have None = refl
parameters_have (Some c) = tt

pub read_has_text : (cs : List Field) → HasText (command_before_digest cs)
unfolding command_before_digest
read_has_text cs = short (nat_lt (length cs) 4)
  where
    shaped : (action : Action) (b : Bool) → HasText (cond b (or_status 400 (parameters_at action cs)) (Err 400))
    shaped action true = parameters_have (parameters_at action cs)
    shaped action false = refl

    known : (o : Option Action) → HasText (on_option (Err 501) (λ action. cond (eqb (length cs) 5) (or_status 400 (parameters_at action cs)) (Err 400)) o)
    known None = refl
    known (Some action) = shaped action (eqb (length cs) 5)

    short : (b : Bool) → HasText (cond b (Err 400) (on_option (Err 501) (λ action. cond (eqb (length cs) 5) (or_status 400 (parameters_at action cs)) (Err 400)) (action_at cs)))
    short true = refl
    short false = known (action_at cs)
